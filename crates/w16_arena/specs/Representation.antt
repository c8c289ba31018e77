-- What the code of an arena keeps.
use Rattle.std.specs.Prelude.{◌≡◌, ◌≤◌, ℕ, List, length, Option}
use Rattle.w16_model.specs.{declared.Entry.Entry, Table.IsSound}
use Rattle.w16_blocks.specs.Layout.{Layout}
use Rattle.w16_lru.specs.Uses.{Uses}
use Rattle.w16_arena.specs.State.{table_of}

-- the table is sound, and blocks, order, the table of the gaps' rooms and the room for discarded ids are for the ids that have entries
pub record ArenaInvariant (entries : List (Option Entry)) (layout : Layout) (uses : Uses) (gap_rooms room : ℕ) : Type 0 where
  pub sound : IsSound (table_of entries layout uses.ids)
  pub ids : layout.cap ≡ length entries
  pub ordered : uses.cap ≡ length entries
  pub told : gap_rooms ≡ length entries
  pub enough : length entries ≤ room
