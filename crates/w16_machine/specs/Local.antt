-- Local heaps: each in a segment, which is one object of the global heap. A local heap is kept as a table over its segment's bytes, and it is the
-- heap that the table stands for in them. So a far write into the segment, and a move of it, are no steps of the local heap.
use Rattle.std.specs.Prelude.{◌≡◌, ℕ, ◌+◌, ◌-◌, ◌*◌, ◌/◌, ◌<◌, ◌≤◌, Bool, false, ◌&&◌, ◌==◌, if◌then◌else◌, nat_le, nat_lt, min, List, [], length, replicate, find, All, Option, Some, None, option_map, is_some}
use Rattle.std.specs.{Ordering.nat_cmp, FinMap.FinMap}
use Rattle.w16_model.specs.{declared.Span.Span, Heap.Heap, Heap.Object, Heap.blocks, Heap.object_at, Heap.bytes_at, Heap.is_fixed, Far.after_write, Owned.is_code, Handles.slot_of_selector, Table.Table, Table.IsSound, Table.IsSameOutside, Table.heap_in}
use Rattle.w16_machine.specs.declared.local.TheConstants.{LOCAL_GRAIN, LOCAL_ENTRIES, LAST_LOCAL_END}
use Rattle.w16_machine.specs.World.{World}
use Rattle.w16_loading.specs.Modules.{with_handles}
use Rattle.std.specs.FinMap as finmap

-- the bytes of a slot's object, if it has any
abbrev pub segment_bytes : World → ℕ → Option (List ℕ)
segment_bytes w slot = bytes_at w.loading.handles.heap slot

-- what holds of each table
pub record IsLocalTable (t : Table) : Type 0 where
  pub sound : IsSound t
  pub grain : t.grain ≡ LOCAL_GRAIN
  pub entries : length t.entries ≡ LOCAL_ENTRIES
  -- no near pointer is 0
  pub low : LOCAL_GRAIN ≤ t.lo
  pub high : t.hi ≤ LAST_LOCAL_END

-- A local heap by its segment's slot, its table, and the segment's bytes.
pub record LocalHeap : Type 0 where
  pub slot : ℕ
  pub table : Table
  pub bytes : List ℕ

-- the heap that it is
abbrev pub heap_of : LocalHeap → Heap
heap_of at = heap_in at.table at.bytes

-- that of a table in these bytes of its segment, if they have its range
abbrev pub local_of : ℕ → Table → List ℕ → Option LocalHeap
local_of slot t bytes = if nat_le t.hi (length bytes) then Some (record { slot = slot; table = t; bytes = bytes }) else None

-- the local heap in a slot's object, if there is one
abbrev pub local_in : World → ℕ → Option LocalHeap
local_in w slot = elim (finmap.get w.heaps slot) [
  | None ↦ None
  | Some t ↦ elim (segment_bytes w slot) [ None ↦ None | Some bytes ↦ local_of slot t bytes ]
]

-- the one that DS names; it is looked up at each call
abbrev pub current_heap : World → Option LocalHeap
current_heap w = elim (slot_of_selector w.loading.handles w.ds) [ None ↦ None | Some slot ↦ local_in w slot ]

-- Names.

-- A fixed object is named by its near pointer, the offset in the segment at which it begins; any other by its entry. Near pointers are
-- multiples of 4, and an entry's name isn't.
abbrev pub name_of : Heap → ℕ → Object → Option ℕ
name_of heap id o = if is_fixed o.kind then finmap.get heap.places id else Some (4 * id + 2)

-- the name of an entry's object
abbrev pub name_at : Heap → ℕ → Option ℕ
name_at heap id = elim (object_at heap id) [ None ↦ None | Some o ↦ name_of heap id o ]

abbrev pub is_name : ℕ → Option ℕ → Bool
is_name name (Some n) = n == name
is_name name None = false

-- the entry whose object has a name
abbrev pub id_named : Heap → ℕ → Option ℕ
id_named heap name = option_map (λ (e : ℕ × Object). e.0) (find (λ e. is_name name (name_of heap e.0 e.1)) (finmap.entries heap.objects))

-- the entry whose object begins at a near pointer
abbrev pub id_at : Heap → ℕ → Option ℕ
id_at heap pointer = option_map (λ x. x.id) (find (λ x. x.at == pointer) (blocks heap))

-- an object in the local heap that DS names
pub record LocalObject : Type 0 where
  pub heap : LocalHeap
  pub id : ℕ

-- the one that has a name there
abbrev pub object_named : World → ℕ → Option LocalObject
object_named w name = elim (current_heap w) [ None ↦ None | Some at ↦ option_map (λ id. record { heap = at; id = id }) (id_named (heap_of at) name) ]

abbrev pub IsFreeEntry : Heap → ℕ → Type 0
IsFreeEntry heap id = (id < LOCAL_ENTRIES) × (object_at heap id ≡ None)

-- an object takes the lowest free entry (profile)
pub record IsLowestFree (heap : Heap) (id : ℕ) : Type 0 where
  pub free : IsFreeEntry heap id
  pub lowest : (q : ℕ) → IsFreeEntry heap q → id ≤ q

-- The beginning of a local heap.

-- whole grains, up and down
abbrev pub rounded_up : ℕ → ℕ
rounded_up n = LOCAL_GRAIN * ((n + (LOCAL_GRAIN - 1)) / LOCAL_GRAIN)

abbrev pub rounded_down : ℕ → ℕ
rounded_down n = LOCAL_GRAIN * (n / LOCAL_GRAIN)

-- whether a range may lie so in a segment of so many bytes; start and end are tested as they are given (profile)
abbrev pub is_range : ℕ → ℕ → ℕ → Bool
is_range size start end = (nat_le LOCAL_GRAIN start && nat_le end (min size LAST_LOCAL_END)) && nat_lt (rounded_up start) (rounded_down end)

-- the range of a new heap: from start rounded up to end rounded down
abbrev pub range_in : ℕ → ℕ → ℕ → Option Span
range_in size start end = if is_range size start end then Some (record { from = rounded_up start; to = rounded_down end }) else None

-- the table of a heap that has no object yet
abbrev pub new_table : Span → Table
new_table range = record { lo = range.from; hi = range.to; grain = LOCAL_GRAIN; entries = replicate LOCAL_ENTRIES None; blocks = []; order = [] }

-- a selector of 0 is DS
abbrev pub selector_or_ds : World → ℕ → ℕ
selector_or_ds w selector = if selector == 0 then w.ds else selector

-- A new local heap: its segment's slot, and its range.
pub record Beginning : Type 0 where
  pub slot : ℕ
  pub range : Span

-- the one that begins in a segment, if one may: the segment has bytes and no local heap, and the range is sound
abbrev pub beginning_in : World → ℕ → ℕ → ℕ → Option Beginning
beginning_in w start end slot = elim (segment_bytes w slot) [
  | None ↦ None
  | Some bytes ↦ if is_some (finmap.get w.heaps slot) then None else option_map (λ range. record { slot = slot; range = range }) (range_in (length bytes) start end)
]

-- and none in code
abbrev pub beginning : World → ℕ → ℕ → ℕ → Option Beginning
beginning w selector start end = elim (slot_of_selector w.loading.handles (selector_or_ds w selector)) [ None ↦ None | Some slot ↦ if is_code w.loading.handles slot then None else beginning_in w start end slot ]

-- What a local call leaves.

-- the world with another table of a local heap, and no byte changed
abbrev pub with_table : World → ℕ → Table → World
with_table w slot t = record w { heaps = finmap.insert w.heaps slot t }

-- and with other bytes, as many, in its segment
abbrev pub with_local : World → ℕ → Table → List ℕ → World
with_local w slot t bytes = record w {
  loading = with_handles w.loading (record w.loading.handles { heap = after_write w.loading.handles.heap slot 0 bytes });
  heaps = finmap.insert w.heaps slot t;
}

-- the world stays, and this is the answer
abbrev pub Stays : World → ℕ → ℕ → World → Type 0
Stays old value answer new = (answer ≡ value) × (new ≡ old)

-- A local heap becomes this one; nothing else of the world changes, and no byte.
pub record Becomes (old : World) (at : LocalHeap) (heap : Heap) (new : World) : Type 0 where
  pub table : Table
  pub is_local : IsLocalTable table
  pub range : (table.lo ≡ at.table.lo) × (table.hi ≡ at.table.hi)
  pub same : heap_in table at.bytes ≡ heap
  pub rest : new ≡ with_table old at.slot table

-- The local heap satisfies P afterwards; its bytes may be others. In the segment only bytes of its range change, and nothing else of the world:
-- no address, no order of use, no other object's bytes, and not the number of bytes moved.
pub record Acts (old : World) (at : LocalHeap) (P : Heap → Type 0) (new : World) : Type 0 where
  pub table : Table
  pub bytes : List ℕ
  pub is_local : IsLocalTable table
  pub range : (table.lo ≡ at.table.lo) × (table.hi ≡ at.table.hi)
  pub long : length bytes ≡ length at.bytes
  pub outside : IsSameOutside at.table.lo at.table.hi at.bytes bytes
  pub are_bytes : All (λ b. b < 256) bytes
  pub acted : P (heap_in table bytes)
  pub rest : new ≡ with_local old at.slot table bytes

-- Local heaps that go.

-- whether a segment still has the range of its local heap
abbrev pub has_range : Heap → FinMap nat_cmp Table → ℕ → Bool
has_range heap tables slot = elim (finmap.get tables slot) [
  | None ↦ false
  | Some t ↦ elim (bytes_at heap slot) [ None ↦ false | Some bytes ↦ nat_le t.hi (length bytes) ]
]

-- what a step of the global heap leaves of them: one goes where its segment is freed, loses its bytes, gets another handle, or is cut below its
-- end
abbrev pub left_in : Heap → FinMap nat_cmp Table → FinMap nat_cmp Table
left_in heap tables = finmap.retain_keys tables (has_range heap tables)
