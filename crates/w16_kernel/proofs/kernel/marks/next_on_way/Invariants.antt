use Rattle.w16_kernel.proofs.Common.{true, false, ℕ, ◌≡◌, ◌<◌}
use Rattle.std.specs.Prelude.{IfSome, slice_index_or}
use Rattle.w16_kernel.specs.Marks.{is_new, refers_to}
use Rattle.w16_kernel.proofs.kernel.marks.next_on_way.Given as goal

abbrev pub invariant-loop-other : goal.invariant-loop-other
invariant-loop-other g l = (passed : ℕ) → passed < l.other-counter → is_new l.registry l.marks passed ≡ true
    → IfSome l.end
    (λ end. refers_to l.registry end passed ≡ true) → slice_index_or l.way passed false ≡ true
