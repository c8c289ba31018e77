-- The bytes that an object has in a memory.
use Rattle.w16_arena.proofs.Common.{◌≡◌, ℕ, ◌+◌, ◌≤◌, List, length, slice_range, refl, Some, None, option_map, ap, ◌∙◌, Block, bytes_at, Table, IsSound, block_with, heap_in, Layout, part, range_part}
use Rattle.w16_arena.proofs.{Parts.AreParts, Lookups.bytes_here, Lookups.ends_in_memory}

module _ (t : Table) (sound : IsSound t) (memory : List ℕ) (high : t.hi ≤ length memory) (id : ℕ) where
  abbrev layout : Layout
  layout = record { cap = length t.entries; lo = t.lo; hi = t.hi; grain = t.grain; blocks = t.blocks }

  parts : AreParts t.entries layout t.order memory
  parts = record { sound = sound; ids = refl; high = high }

  -- none without a block
  pub bytes_none : block_with t.blocks id ≡ None → bytes_at (heap_in t memory) id ≡ None
  bytes_none e = bytes_here parts id ∙ ap (option_map (λ (x : Block). slice_range memory x.at (x.at + x.size))) e

  -- those at its block
  pub bytes_some : (x : Block) → block_with t.blocks id ≡ Some x → bytes_at (heap_in t memory) id ≡ Some (part memory x.at x.size)
  bytes_some x e = bytes_here parts id ∙ ap (option_map (λ (x : Block). slice_range memory x.at (x.at + x.size))) e ∙ ap Some (range_part memory x.at x.size)

  -- which lies in the memory
  pub bytes_inside : (x : Block) → block_with t.blocks id ≡ Some x → x.at + x.size ≤ length memory
  bytes_inside x e = (ends_in_memory parts id x e).1
