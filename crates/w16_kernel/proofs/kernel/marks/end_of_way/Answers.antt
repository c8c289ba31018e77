use Rattle.std.proofs.{Common.◌∙◌, Common.sym, Common.false, lemmas.Bool.false≢true, lemmas.List.length-set, lemmas.List.length-replicate}
use Rattle.w16_kernel.proofs.Marks.{next_there, none_on}
use Rattle.w16_kernel.proofs.kernel.marks.end_of_way.Goals as goal

pub loop-next-init : goal.loop-next-init
loop-next-init g c = record { long = length-replicate 233 false; new = _; inside = _; there = λ other t. absurd (false≢true (sym (none_on 233 other) ∙ t)) }

pub loop-next-preserved : goal.loop-next-preserved
loop-next-preserved g c = record {
  long = length-set c.loop-next.way _ _ ∙ c.loop-next.invariant.long;
  new = c.in-Some.ensures.found.0;
  inside = c.in-Some.ensures.inside.1;
  there = rw c.from.ensures (next_there _ c.loop-next.way c.loop-next.end _ c.in-Some.ensures.found.1 c.loop-next.invariant.there);
}
