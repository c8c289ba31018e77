-- A question that changes nothing.
use Rattle.w16_kernel.proofs.Common.{ap, refl, sym, Handles, ℕ, ◌∙◌, ◌≡◌}
use Rattle.w16_model.proofs.CallOutcomes.{none_moved}
use Rattle.w16_model.specs.{Calls.GlobalCompacts, Request.moved_bytes}

-- GlobalCompact of size 0, where nothing was moved before
pub unasked : (old new : Handles) (answer : ℕ) → old.moved ≡ 0 → GlobalCompacts old 0 answer new → new ≡ old
unasked old new answer unmoved c = c.rest ∙ (λ i. record old { heap = c.compacted.1 i; moved = moved_bytes old.heap (c.compacted.1 i) })
    ∙ ap (λ n. record old { moved = n }) (none_moved old.heap old.heap refl ∙ sym unmoved)
