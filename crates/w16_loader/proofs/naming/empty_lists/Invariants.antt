-- As many as were counted are there, and each is empty.
use Rattle.w16_loader.proofs.Common.{◌≡◌, ℕ, [], map, length, slice_index_or}
use Rattle.w16_loader.proofs.naming.empty_lists.Given as goal

abbrev pub invariant-loop : goal.invariant-loop
invariant-loop g l = record {
  many : length l.made.items ≡ l.counter;
  empty : (place : ℕ) → slice_index_or (map (λ v. v.items) l.made.items) place [] ≡ [];
}
