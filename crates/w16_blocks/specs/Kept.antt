-- What the code keeps: a table of blocks by id, and by unit of grain the block that begins there.
use Rattle.std.specs.Prelude.{ℕ, zero, suc, ◌<◌, ◌≡◌, ◌+◌, ◌*◌, ◌-◌, ◌^◌, List, [], ◌∷◌, length, slice_index, slice_index_or, sum_by}
use Rattle.w16_model.specs.{declared.Block.Block, declared.Span.Span, declared.Hold.Hold, declared.Hold.TheVariants.Pinned, declared.Hold.TheVariants.Loose}
use Rattle.w16_holes.specs.{Holes.Range, declared.holes.TheConstants.LAST_END}
use Rattle.w16_blocks.specs.Layout.{Layout, range_of, holes_of, IsOrdered}

-- what the table has for an id without a block
abbrev pub no_block : Block
no_block = record { id = 0; at = 0; size = 0; hold = Loose }

-- an id's block in the table
abbrev pub slot_of : List Block → ℕ → Block
slot_of slots id = slice_index_or slots id no_block

-- the blocks that cells tell by one more than their ids, a cell of 0 telling none
abbrev pub blocks_in : List Block → List ℕ → List Block
blocks_in slots [] = []
blocks_in slots (zero ∷ cells) = blocks_in slots cells
blocks_in slots (suc id ∷ cells) = slot_of slots id ∷ blocks_in slots cells

-- the layout that table and cells tell
abbrev pub layout_in : ℕ → ℕ → ℕ → ℕ → List Block → List ℕ → Layout
layout_in cap lo hi grain slots cells = record { cap = cap; lo = lo; hi = hi; grain = grain; blocks = blocks_in slots cells }

-- an id's block has a byte, and begins in the k-th unit from p on
pub record Begins (p grain : ℕ) (slots : List Block) (k id : ℕ) : Type 0 where
  pub inside : id < length slots
  pub same : (slot_of slots id).id ≡ id
  pub at : (slot_of slots id).at ≡ p + grain * k
  pub some : 0 < (slot_of slots id).size

-- the block of each cell begins in its unit
abbrev pub AreBegun : ℕ → ℕ → List Block → List ℕ → Type 0
AreBegun p grain slots cells = (k id : ℕ) → slice_index cells k ≡ suc id → Begins p grain slots k id

-- each id whose block has a byte has a cell
abbrev pub AreFound : List Block → List ℕ → Type 0
AreFound slots cells = (id : ℕ) → 0 < (slot_of slots id).size → (k : ℕ) × (slice_index cells k ≡ suc id)

-- table and cells agree, and tell an ordered layout; there is a cell for each place, the end among them
pub record AreTables (cap lo hi grain : ℕ) (slots : List Block) (cells : List ℕ) : Type 0 where
  pub some : 0 < grain
  pub ids : cap < 2 ^ 32
  pub long : hi - lo < grain * length cells
  pub ordered : IsOrdered (layout_in cap lo hi grain slots cells)
  pub begun : AreBegun lo grain slots cells
  pub found : AreFound slots cells

-- how many blocks keep their address, of one
abbrev pub pins_of : Hold → ℕ
pins_of Pinned = 1
pins_of Loose = 0

abbrev pub pins_in : Block → ℕ
pins_in b = pins_of b.hold

-- the bytes that no block has are counted, and so are the blocks that keep their address, and the holes are those between the blocks
pub record BlocksInvariant (cap lo hi grain : ℕ) (slots : List Block) (cells : List ℕ) (free pinned : ℕ) (range : Range) (kept : List Span) : Type 0 where
  pub tables : AreTables cap lo hi grain slots cells
  pub counted : free + (lo + sum_by (λ b. b.size) (blocks_in slots cells)) ≡ hi
  pub pins : pinned ≡ sum_by pins_in (blocks_in slots cells)
  pub ranged : range ≡ range_of (layout_in cap lo hi grain slots cells)
  pub between : kept ≡ holes_of (layout_in cap lo hi grain slots cells)

-- two tables by unit have the capacity for a cell of each place up to the highest end that the range may be given later, that end among them
pub record AreReserved (lo grain begin_room end_room : ℕ) : Type 0 where
  pub begins : LAST_END - lo < grain * begin_room
  pub ends : LAST_END - lo < grain * end_room
