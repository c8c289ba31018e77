-- The first among the places that are left is the first of all.
use Rattle.w16_resource.proofs.Common.{find, listed, ℕ, ◌&&◌, ◌==◌, ◌≡◌}
use Rattle.w16_loading.specs.Modules as loading
use Rattle.w16_resource.proofs.Listed.{listed_from}
use Rattle.w16_resource.proofs.listing.first_of.Given as goal

abbrev pub invariant-loop-slot : goal.invariant-loop-slot
invariant-loop-slot l = find (λ (e : ℕ × loading.Load). (e.1.handle == l.handle) && (e.1.place == l.place)) (listed_from l.slot l.loads)
    ≡ find (λ (e : ℕ × loading.Load). (e.1.handle == l.handle) && (e.1.place == l.place)) (listed l.loads)
