-- What is done to one local heap over the bytes of its segment.
use Rattle.std.specs.Prelude.{◌≡◌, ◌-◌, ◌≤◌, ◌<◌, ◌⊎◌, ℕ, List, length, All, true, false, if◌then◌else◌, Some, Ok, IsOk, IsSome, IsSomeAnd, option_map, unwrap_or}
use Rattle.std.specs.{Ordering.nat_cmp, FinMap.FinMap}
use Rattle.w16_model.specs.Request.{Allocates, MakesRoom, Reallocates, most_room, moved_bytes}
use Rattle.w16_model.specs.{Far.after_write, Handles.Handles, Heap.Heap, Heap.IsMultiple, Heap.bytes_at, Heap.object_at, OneObject.after_discard, OneObject.after_free, Table.Table, Table.IsSameOutside, Table.heap_in}
use Rattle.w16_region.specs.Bytes.{counted}
use Rattle.w16_arena.specs.State.{IsSameRange}
use Rattle.w16_global.specs.Joined.{Global}
use Rattle.w16_machine.specs.{declared.local.TheConstants.LOCAL_GRAIN, Local.IsFreeEntry, Local.IsLocalTable, Local.current_heap, Local.name_at}
use Rattle.w16_local.specs.declared.acts.ByteOp.TheVariants.{Alloc, Compact, Discard, Free, Realloc}
use Rattle.w16_local.specs.{declared.acts.ByteOp.ByteOp, Parts.alone}
use Rattle.std.specs.FinMap as finmap

-- a size that may be asked for
abbrev pub IsSize : ℕ → Type 0
IsSize size = (0 < size) × IsMultiple LOCAL_GRAIN size

-- When an act may be done to a heap: a new object needs an entry that is free, and another size an object; what is discarded or freed may be.
abbrev pub MayAct : ByteOp → Heap → Type 0
MayAct (Alloc id size kind options) heap = IsFreeEntry heap id × IsSize size
MayAct (Realloc id size options) heap = IsSome (object_at heap id) × IsSize size
MayAct (Discard id) heap = IsOk (after_discard heap id)
MayAct (Free id) heap = IsSome (object_at heap id) × IsOk (after_free heap id)
MayAct (Compact size) heap = Unit {0}

-- and to a table over bytes that have its range
abbrev pub MayActOver : ByteOp → Table → List ℕ → Type 0
MayActOver act table bytes = (table.hi ≤ length bytes) × MayAct act (heap_in table bytes)

-- an act that is done: the heap before it, its answer, and the heap after it
abbrev pub Done : ByteOp → Heap → ℕ → Heap → Type 0
Done (Alloc id size kind options) heap answer next = Allocates heap id size kind 0 options true next × (name_at next id ≡ Some answer)
Done (Realloc id size options) heap answer next = Reallocates heap id size options true next × (name_at next id ≡ Some answer)
Done (Discard id) heap answer next = after_discard heap id ≡ Ok next
Done (Free id) heap answer next = after_free heap id ≡ Ok next
Done (Compact size) heap answer next = (0 < size) × MakesRoom heap size answer next

-- an act that changes nothing, and its answer: a refused request, and a compaction for 0 bytes
abbrev pub Idle : ByteOp → Heap → ℕ → Type 0
Idle (Alloc id size kind options) heap answer = Allocates heap id size kind 0 options false heap × (answer ≡ 0)
Idle (Realloc id size options) heap answer = Reallocates heap id size options false heap × (answer ≡ 0)
Idle (Discard id) heap answer = ⊥
Idle (Free id) heap answer = ⊥
Idle (Compact size) heap answer = (size ≡ 0) × (answer ≡ most_room heap)

-- An act on a heap's table and its segment's bytes: in its range alone bytes change.
pub record Acted (act : ByteOp) (table : Table) (bytes : List ℕ) (answer : ℕ) (left : Table) (after : List ℕ) : Type 0 where
  pub range : IsSameRange table left
  pub outside : IsSameOutside table.lo table.hi bytes after
  pub act_is : (Idle act (heap_in table bytes) answer × (left ≡ table) × (after ≡ bytes)) ⊎ Done act (heap_in table bytes) answer (heap_in left after)

-- What an act writes: the bytes of objects that it moves, and the zeros that are asked for; nothing where it is refused, or gives bytes up.
abbrev pub Writes : ByteOp → Heap → Heap → ℕ → ℕ → Type 0
Writes (Alloc id size kind options) heap next before after = ((next ≡ heap) × (after ≡ before)) ⊎ (after ≡ counted (counted before (moved_bytes heap next)) (if options.zero then size else 0))
Writes (Realloc id size options) heap next before after = ((next ≡ heap) × (after ≡ before))
    ⊎ (after ≡ counted (counted before (moved_bytes heap next)) (if options.zero then size - unwrap_or (option_map length (bytes_at heap id)) 0 else 0))
Writes (Discard id) heap next before after = after ≡ before
Writes (Free id) heap next before after = after ≡ before
Writes (Compact size) heap next before after = after ≡ counted before (moved_bytes heap next)

-- when a work may be done on a slot's heap over the bytes of its segment
pub record MayActIn (handles : Handles) (tables : FinMap nat_cmp Table) (slot : ℕ) (so : Table → List ℕ → Type 0) : Type 0 where
  pub table : Table
  pub bytes : List ℕ
  pub was : finmap.get tables slot ≡ Some table
  pub had : bytes_at handles.heap slot ≡ Some bytes
  pub may : so table bytes

-- What it does there: one heap's table becomes another, and the segment's bytes are replaced by as many.
pub record ActedIn (handles : Handles) (tables : FinMap nat_cmp Table) (slot : ℕ) (so : Table → List ℕ → Table → List ℕ → Type 0) (next : Handles) (new : FinMap nat_cmp Table) : Type 0 where
  pub before : Table
  pub bytes : List ℕ
  pub was : finmap.get tables slot ≡ Some before
  pub had : bytes_at handles.heap slot ≡ Some bytes
  pub table : Table
  pub after : List ℕ
  pub is_local : IsLocalTable table
  pub long : length after ≡ length bytes
  pub are_bytes : All (λ b. b < 256) after
  pub does : so before bytes table after
  pub rest : (new ≡ finmap.insert tables slot table) × (next ≡ record handles { heap = after_write handles.heap slot 0 after })

-- an act, with its answer and how many bytes it writes
abbrev pub DoesAct : ByteOp → ℕ → Table → List ℕ → Table → List ℕ → Type 0
DoesAct act answer table bytes left after = (count : ℕ) × (Acted act table bytes answer left after × Writes act (heap_in table bytes) (heap_in left after) 0 count)

-- a slot's bytes were lent once, and all of them count as written
abbrev pub IsLent : Global → ℕ → Global → Type 0
IsLent old slot new = IsSomeAnd (bytes_at old.handles.heap slot) (λ bytes. new.written ≡ counted old.written (length bytes))

-- What a local call writes of the global heap: nothing, and it is as it was; or the bytes of the heap that DS names were lent once.
abbrev pub IsLentOnce : Global → FinMap nat_cmp Table → ℕ → Global → Type 0
IsLentOnce old tables ds new = (new ≡ old) ⊎ IsSomeAnd (current_heap (alone old.handles tables ds)) (λ at. new.written ≡ counted old.written (length at.bytes))
