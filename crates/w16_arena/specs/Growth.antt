-- An object that grows: whether there is a place for it, looked at as if it were absent, and what it has there.
use Rattle.std.specs.Prelude.{ℕ, ◌+◌, ◌≡◌, ◌==◌, ◌||◌, Bool, if◌then◌else◌, nat_le, List, []}
use Rattle.w16_model.specs.{declared.Block.Block, Bytes.part, Discards.fits_in_place, Discards.snapshot, Gap.room, Gap.longest_hole}
use Rattle.w16_blocks.specs.Layout.{Layout, IsOrdered, all_but, placed}
use Rattle.w16_compact.specs.Gather.{moved_between}
use Rattle.w16_arena.specs.{declared.new_place.Placed.Placed, NewPlace.AreMoved, NewPlace.AreFreeBytes}

-- a layout without an object's block
abbrev pub but_for : ℕ → Layout → Layout
but_for id l = record l { blocks = all_but id l.blocks }

-- whether there is a place for n bytes of an object that has a block, with or without sliding
abbrev pub may_grow : Layout → ℕ → ℕ → Bool → Bool
may_grow l id n compact =
    if compact then nat_le n (room l.lo l.hi (all_but id l.blocks))
    else fits_in_place (snapshot l.lo l.hi l.blocks []) n id || nat_le n (longest_hole l.lo l.hi l.blocks)

-- An object's block b has n bytes, where n were free for it, with its own bytes first. The others stand where they stood or slid in a range, and so many bytes were moved.
pub record HasGrown (n : ℕ) (b : Block) (old : Layout) (memory : List ℕ) (p : Placed) (new : Layout) (after : List ℕ) : Type 0 where
  pub value : new ≡ record (but_for b.id new) { blocks = placed (record b { at = p.at; size = n }) (all_but b.id new.blocks) }
  pub laid : IsOrdered new
  pub bytes : part after p.at b.size ≡ part memory b.at b.size
  pub slid : AreMoved p.slid.from p.slid.to (but_for b.id old) memory (but_for b.id new) after
  pub free : AreFreeBytes (but_for b.id new) n p.at
  pub moved : p.moved ≡ moved_between (all_but b.id old.blocks) (all_but b.id new.blocks) + (if p.at == b.at then 0 else b.size)
