use Rattle.w16_kernel.proofs.{Common.not, Common.true, Common.◌≡◌, Common.◌<◌, Common.length, Marks.LeadThere}
use Rattle.std.proofs.Common.{count_by}
use Rattle.std.specs.Prelude.{IfSome}
use Rattle.w16_kernel.specs.{Marks.is_new, declared.kernel.marks.TheConstants.MODULE_HANDLES}
use Rattle.w16_kernel.proofs.kernel.marks.end_of_way.Given as goal

abbrev pub invariant-loop-next : goal.invariant-loop-next
invariant-loop-next g l = record {
  long : length l.way ≡ MODULE_HANDLES;
  new : IfSome l.end (λ last. is_new l.registry l.marks last ≡ true);
  inside : IfSome l.end (λ last. last < length l.marks);
  there : LeadThere l.registry l.way l.end;
}

-- one handle less isn't on the way
abbrev pub decreases-loop-next : goal.decreases-loop-next
decreases-loop-next g l = count_by not l.way
