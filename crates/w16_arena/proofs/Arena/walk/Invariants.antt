use Rattle.w16_arena.proofs.Common.{ℕ, ◌≤◌, List, length, heap_in, by_its_id, HasTold}
use Rattle.w16_arena.proofs.Arena.walk.Given as goal

-- as many parts were told as turns were taken
abbrev pub invariant-loop : goal.invariant-loop
invariant-loop g l = (memory : List ℕ) → l.self.table.hi ≤ length memory → HasTold by_its_id (heap_in l.self.table memory) l.counter l.from
