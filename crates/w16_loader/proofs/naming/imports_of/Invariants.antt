-- Each module has the imports that its references so far mean.
use Rattle.w16_loader.proofs.Common.{◌≡◌, ℕ, ◌<◌, [], map, take, length, slice_index_or, pair_of, imports_among}
use Rattle.w16_loader.proofs.naming.imports_of.Given as goal

abbrev pub invariant-loop-reference : goal.invariant-loop-reference
invariant-loop-reference g l = record {
  many : length l.made.items ≡ length l.handles;
  imports : (place : ℕ) → place < length l.handles → slice_index_or (map (λ v. v.items) l.made.items) place [] ≡ imports_among l.handles (map pair_of (take l.reference-index l.bound)) place;
}
