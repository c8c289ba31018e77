-- Requests for room, in heaps that grow with their segments where they have none.
use Rattle.w16_local.specs
use Rattle.std.specs.Prelude.{◌≡◌, ◌≢◌, ◌<◌, ◌≤◌, ◌⊎◌, ℕ, List, length, true, Option, Some, IsSomeAnd, MatchOption}
use Rattle.std.specs.{Ordering.nat_cmp, FinMap.FinMap}
use Rattle.w16_model.specs.{Ends.is_answered, Far.after_write, Handles.Handles, Heap.IsMultiple, Heap.bytes_at, declared.RoomOptions.RoomOptions, Table.Table, Table.IsSameOutside, Table.heap_in}
use Rattle.w16_region.specs.Bytes.{counted}
use Rattle.w16_arena.specs.State.{IsSameRange}
use Rattle.w16_global.specs.Joined.{Global}
use Rattle.w16_machine.specs.declared.local.TheConstants.{LAST_LOCAL_END, LOCAL_GRAIN}
use Rattle.w16_machine.specs.Local.{LocalHeap, Acts, IsLocalTable, Stays, current_heap, heap_of, rounded_up}
use Rattle.w16_machine.specs.LocalGrowth.{IsGrowth, IsKeptShort, Lengthens, OnceLonger, longer, with_longer}
use Rattle.w16_machine.specs.{World.World, LocalCalls.local_options}
use specs.declared.acts.ByteOp.TheVariants.{Alloc, Realloc}
use specs.declared.growth.Met.TheVariants.{Answered, Lacks}
use specs.declared.growth.Purpose.TheVariants.{New, Resize}
use specs.{declared.acts.ByteOp.ByteOp, declared.growth.Met.Met, declared.growth.Request.Request, Acts.Acted, Acts.Done, Acts.Idle, Acts.MayAct, Parts.alone, Parts.with_parts}
use Rattle.std.specs.FinMap as finmap

-- the operation by which a heap answers a request
abbrev pub operation_of : Request → ByteOp
operation_of r = elim r.purpose [ New kind ↦ Alloc r.id r.size kind r.options | Resize ↦ Realloc r.id r.size r.options ]

-- a heap in a segment of whatever slot
abbrev pub in_slot : Table → List ℕ → ℕ → LocalHeap
in_slot table bytes slot = record { slot = slot; table = table; bytes = bytes }

-- to which size a segment is to grow for it, or that there is none
abbrev pub SizeTold : Request → Table → List ℕ → Option ℕ → Type 0
SizeTold r table bytes size = (slot : ℕ) → MatchOption size
    ((size : ℕ) → IsGrowth (in_slot table bytes slot) r.id r.size r.options size → ⊥)
    (IsGrowth (in_slot table bytes slot) r.id r.size r.options)

-- what becomes of a request in a heap as it is
abbrev pub ServedOver : Request → Table → List ℕ → Met → Table → List ℕ → Type 0
ServedOver r table bytes (Answered answer) left after = (answer ≢ 0) × Acted (operation_of r) table bytes answer left after
ServedOver r table bytes (Lacks size) left after = Idle (operation_of r) (heap_in table bytes) 0 × (left ≡ table) × (after ≡ bytes) × SizeTold r table bytes size

-- A heap may end later, at its segment's end, and the request is answered there.
pub record MayEndLater (r : Request) (end : ℕ) (table : Table) (bytes : List ℕ) : Type 0 where
  pub later : table.hi ≤ end
  pub low : IsMultiple LOCAL_GRAIN table.hi
  pub high : IsMultiple LOCAL_GRAIN end
  pub last : end ≤ LAST_LOCAL_END
  pub ends : end ≡ length bytes
  pub may : MayAct (operation_of r) (heap_in (record table { hi = end }) bytes)
  pub answered : is_answered (heap_in (record table { hi = end }) bytes) r.id r.size r.options ≡ true

-- and what becomes of it in the heap that ends there
pub record Later (r : Request) (end : ℕ) (table : Table) (bytes : List ℕ) (answer : ℕ) (left : Table) (after : List ℕ) : Type 0 where
  pub range : IsSameRange (record table { hi = end }) left
  pub outside : IsSameOutside table.lo end bytes after
  pub done : Done (operation_of r) (heap_in (record table { hi = end }) bytes) answer (heap_in left after)

-- A slot's heap has no room for a request, and is to grow for it to a size.
pub record MayGrowIn (handles : Handles) (tables : FinMap nat_cmp Table) (slot size : ℕ) (r : Request) : Type 0 where
  pub table : Table
  pub bytes : List ℕ
  pub was : finmap.get tables slot ≡ Some table
  pub had : bytes_at handles.heap slot ≡ Some bytes
  pub is_local : IsLocalTable table
  pub may : MayAct (operation_of r) (heap_in table bytes)
  pub growth : IsGrowth (in_slot table bytes slot) r.id r.size r.options size

-- What becomes of a request in the heap of a slot, in whatever world has these parts: it is answered there, or in the heap as it has grown for it,
-- or neither.
abbrev pub Served : Request → World → LocalHeap → ℕ → World → Type 0
Served r old at answer new = Acts old at (Done (operation_of r) (heap_of at) answer) new
    ⊎ (Idle (operation_of r) (heap_of at) 0 × OnceLonger old at r.id r.size r.options (λ next longer. Acts next longer (Done (operation_of r) (heap_of longer) answer) new) (Stays old 0 answer new))

-- the same of a heap that grows to a size, if its segment gets it
abbrev pub Grown : Request → ℕ → World → LocalHeap → ℕ → World → Type 0
Grown r size old at answer new = (IsKeptShort old at r.options size × Stays old 0 answer new)
    ⊎ ((l : Lengthens old at r.options size) × Acts (with_longer old l.handles (longer at size l.bytes)) (longer at size l.bytes) (Done (operation_of r) (heap_of (longer at size l.bytes)) answer) new)

-- what is so of a slot's heap before a call and of the worlds before and after it
pub record InSlot (handles : Handles) (tables : FinMap nat_cmp Table) (slot : ℕ) (next : Handles) (new : FinMap nat_cmp Table) (so : World → LocalHeap → World → Type 0) : Type 0 where
  pub table : Table
  pub bytes : List ℕ
  pub was : finmap.get tables slot ≡ Some table
  pub had : bytes_at handles.heap slot ≡ Some bytes
  pub holds : (rest : World) (ds : ℕ) → so (with_parts rest handles tables ds) (in_slot table bytes slot) (with_parts rest next new ds)

-- What is written where the heap doesn't grow: its segment's bytes are lent once, and it stays as long.
abbrev pub WritesOnce : LocalHeap → ℕ → Handles → ℕ → Type 0
WritesOnce at before new after = IsSomeAnd (bytes_at new.heap at.slot) (λ bytes. length bytes ≡ length at.bytes) × (after ≡ counted before (length at.bytes))

-- And where it has grown for n bytes for an entry: the bytes that the reallocation of the segment moves, and then its bytes, which are lent once. The
-- handles are those that this reallocation leaves, with other bytes in the segment, and the number of bytes moved stays.
pub record WritesGrown (old : World) (at : LocalHeap) (id n : ℕ) (options : RoomOptions) (before : ℕ) (new : Handles) (after : ℕ) : Type 0 where
  pub size : ℕ
  pub growth : IsGrowth at id n options size
  pub lengthens : Lengthens old at options size
  pub bytes : List ℕ
  pub left : new ≡ record lengthens.handles { heap = after_write lengthens.handles.heap at.slot 0 bytes; moved = old.loading.handles.moved }
  pub written : after ≡ counted (counted before lengthens.handles.moved) size

-- what is written for a request in a slot's heap: its bytes are lent, and then it may grow
abbrev pub WritesServed : Request → World → LocalHeap → ℕ → Handles → ℕ → Type 0
WritesServed r old at before new after = WritesOnce at before new after ⊎ WritesGrown old at r.id r.size r.options (counted before (length at.bytes)) new after

-- the same of a call of a size, which grows for one of these entries; none of size 0 grows
abbrev pub WritesFor : (LocalHeap → ℕ → Type 0) → ℕ → ℕ → World → ℕ → Handles → ℕ → LocalHeap → Type 0
WritesFor is_for flags size old before new after at = WritesOnce at before new after
    ⊎ ((0 < size) × (id : ℕ) × is_for at id × WritesGrown old at id (rounded_up size) (local_options flags) (counted before (length at.bytes)) new after)

-- in the heap that DS names; or all is as it was
abbrev pub IsLentOrGrown : (LocalHeap → ℕ → Type 0) → ℕ → ℕ → Global → FinMap nat_cmp Table → ℕ → Global → Type 0
IsLentOrGrown is_for flags size old tables ds new = (new ≡ old)
    ⊎ IsSomeAnd (current_heap (alone old.handles tables ds)) (WritesFor is_for flags size (alone old.handles tables ds) old.written new.handles new.written)
