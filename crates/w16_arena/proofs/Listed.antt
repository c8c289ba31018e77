-- The blocks of the parts' heap are those that are listed, in another order.
use Rattle.w16_arena.proofs
use proofs.Common as C
use proofs.Common.{◌≡◌, ◌≢◌, ℕ, ◌≤◌, List, Some, ap, Block, Entry, room, blocks, Member, table_of, heap_of}
use proofs.Parts.{AreParts}

module _ {entries : List (C.Option Entry)} {layout : C.Layout} {order memory : List ℕ} (parts : AreParts entries layout order memory) where
  pub whole : layout.hi ≤ C.length memory
  whole = parts.high

  -- no two have one id
  pub listed_ids : C.EachPair (λ x y. x.id ≡ y.id → ⊥) layout.blocks
  listed_ids = C.EachPair-from_AllPairs (λ x y. x.id ≡ y.id → ⊥) layout.blocks parts.sound.table.ids

  pub listed_with : (x : Block) → Member x layout.blocks → C.block_with layout.blocks x.id ≡ Some x
  listed_with x m = C.with_member layout.blocks x listed_ids m

  pub is_listed : (x : Block) → Member x (blocks (heap_of entries layout order memory)) → Member x layout.blocks
  is_listed x m = C.block_table (table_of entries layout order) parts.sound.table memory whole x (C.member_block (heap_of entries layout order memory) x m)

  pub listed_permutation : C.IsPermutation layout.blocks (blocks (heap_of entries layout order memory))
  listed_permutation = C.blocks_permutation (heap_of entries layout order memory) layout.blocks
      (C.EachPair-map (λ x y. x.id ≡ y.id → ⊥) (λ x y. x ≢ y) (λ x y d e. d (ap (λ (z : Block). z.id) e)) layout.blocks listed_ids)
      (C.table_block (table_of entries layout order) parts.sound.table memory whole) (C.block_table (table_of entries layout order) parts.sound.table memory whole)

  -- so they have the same room
  pub listed_room : room layout.lo layout.hi (blocks (heap_of entries layout order memory)) ≡ room layout.lo layout.hi layout.blocks
  listed_room = C.room-permutation layout.lo layout.hi layout.blocks (blocks (heap_of entries layout order memory)) listed_permutation
