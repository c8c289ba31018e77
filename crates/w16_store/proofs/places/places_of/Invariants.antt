use Rattle.w16_store.proofs.Listing.{AreCounted}
use Rattle.w16_store.proofs.places.places_of.Given as goal

abbrev pub invariant-loop-place : goal.invariant-loop-place
invariant-loop-place l = AreCounted l.places.items l.place
