use Rattle.std.proofs.Common.{◌≡◌, ◌==◌, drop, find}
use Rattle.w16_model.proofs.plain.Snapshot.fits_in_place.Given as goal

abbrev pub invariant-loop-block : goal.invariant-loop-block
invariant-loop-block l = find (λ x. x.id == l.id) (drop l.block-index l.block-items) ≡ find (λ x. x.id == l.id) l.block-items
