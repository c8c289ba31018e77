use Rattle.w16_ne.proofs.Common.{◌≡◌, ◌^◌, ℕ, List, Option, Ok, map, drop, length_at, are_placed, entry_in}
use Rattle.w16_ne.proofs.resource_table.test_places.Given as goal

abbrev pub invariant-loop-row : goal.invariant-loop-row
invariant-loop-row l = (file : Option (List ℕ)) (texts : List ℕ) → length_at file ≡ Ok l.len
    → are_placed file (2 ^ l.shift) (map (entry_in texts l.shift) (drop l.row-index l.rows)) ≡ are_placed file (2 ^ l.shift) (map (entry_in texts l.shift) l.rows)
