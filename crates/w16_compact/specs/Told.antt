-- What a table tells of gaps: in which one each loose block lies, and the room of each.
use Rattle.std.specs.Prelude.{◌≡◌, ℕ, ◌+◌, true, false, List, [], ◌∷◌, slice_index}
use Rattle.w16_model.specs.{declared.Block.Block, Gap.is_pinned, Gap.block_end}
use Rattle.w16_blocks.specs.Layout.{Layout}

-- The table is right for blocks by address, where the gap that they begin in has this number, begins at `low` and has so many bytes of
-- loose blocks before them. A gap ends at the next pinned block, or at hi; the one after a pinned block has that block's id as its number.
abbrev pub Tells : ℕ → ℕ → ℕ → ℕ → List Block → List ℕ → List ℕ → Type 0
Tells hi low loose gap [] gap_of rooms = low + loose + slice_index rooms gap ≡ hi
Tells hi low loose gap (x ∷ xs) gap_of rooms =
    (is_pinned x ≡ true → (low + loose + slice_index rooms gap ≡ x.at) × Tells hi (block_end x) 0 x.id xs gap_of rooms)
    × (is_pinned x ≡ false → (slice_index gap_of x.id ≡ gap) × Tells hi low (loose + x.size) gap xs gap_of rooms)

-- of some blocks of a layout: the lowest gap has its number of ids as its number
abbrev pub AreTold : Layout → List Block → List ℕ → List ℕ → Type 0
AreTold l xs gap_of rooms = Tells l.hi l.lo 0 l.cap xs gap_of rooms
