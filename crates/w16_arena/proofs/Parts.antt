-- The table of an arena beside a memory that has its range.
use Rattle.w16_arena.proofs.Common.{◌∙◌, Table, IsSameRange, ◌≡◌, ◌≤◌, ℕ, List, length, Option, Entry, IsSound, Layout, table_of}

-- what holds of entries, blocks and an order of use; an entry without a block is an absent object's
pub record AreParts (entries : List (Option Entry)) (layout : Layout) (order memory : List ℕ) : Type 0 where
  pub sound : IsSound (table_of entries layout order)
  pub ids : layout.cap ≡ length entries
  pub high : layout.hi ≤ length memory

-- the range of two steps
pub range_then : {old mid new : Table} → IsSameRange old mid → IsSameRange mid new → IsSameRange old new
range_then p q = record { lo = q.lo ∙ p.lo; hi = q.hi ∙ p.hi; grain = q.grain ∙ p.grain; ids = q.ids ∙ p.ids; sound = q.sound }
