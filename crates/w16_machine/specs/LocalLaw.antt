-- The laws that show the definitions of local heaps to be the right ones, where other proofs stand on them. Each is the contract of a function of
-- `w16_laws`, which also has those on which nothing stands.
use Rattle.w16_machine.specs
use Rattle.std.specs.Prelude.{Bool, false, ◌≡◌, ◌≢◌, ℕ, ◌+◌, ◌<◌, ◌≤◌, ◌⊎◌, ◌↔◌, ◌==◌, ◌&&◌, ◌||◌, not, true, List, length, take, Option, Some, None, is_some, option_map, IsSomeAnd}
use Rattle.w16_model.specs.Heap.{Heap, Object, IsHeap, IsMultiple, object_at, bytes_at, is_pinned_object}
use Rattle.w16_model.specs.{declared.Span.Span, declared.Kind.Kind, declared.Kind.TheVariants.Discardable, Law.StandsStill, Calls.has_flag, CallLaws.IsKeptOrDiscarded, CallLaws.OnlyLeave}
use Rattle.w16_model.specs.{Owned.is_code, Handles.slot_of_selector, Table.Table, Table.IsSameOutside, Table.heap_in, Law.empty_heap}
use specs.declared.local.TheConstants.{LOCAL_GRAIN, LMEM_NOCOMPACT, LMEM_MODIFY}
use specs.World.{World}
use specs.Local.{LocalHeap, Beginning, segment_bytes, heap_of, local_in, current_heap, name_at, id_named, id_at, beginning, selector_or_ds, new_table, left_in}
use specs.Law.{AreLocalHeaps}
use specs.LocalGrowth.{IsLongerSize, Lengthens, longer, with_longer}
use specs.LocalCalls.{LocalStep, is_absent_asked, local_options}
use Rattle.w16_model.specs.Commands.{Command}
use Rattle.w16_loading.specs.Families.{AnyCommand}
use Rattle.w16_model.specs.Commands.Family.{OfLocals}
use Rattle.w16_model.specs.Commands.Command.{LocalAlloc, LocalReAlloc, LocalDiscard, LocalFree, LocalLock, LocalUnlock, LocalSize, LocalFlags, LocalCompact}
use specs.Machine.{LoadingStep}
use Rattle.w16_loading.specs.{File.Format, Modules.with_handles, Replies.Reply}
use Rattle.std.specs.FinMap as finmap

-- Names.

-- a name, and a near pointer, is found exactly where an object has it: so no two objects have one name, and none begin at one place
abbrev pub NamesLaw : Type 0
NamesLaw = (heap : Heap) (name id : ℕ) → IsHeap heap → heap.grain ≡ LOCAL_GRAIN
    → ((id_named heap name ≡ Some id) ↔ (name_at heap id ≡ Some name)) × ((id_at heap name ≡ Some id) ↔ (finmap.get heap.places id ≡ Some name))

-- The beginning of a local heap.

-- What LocalInit asks, and where the new heap lies: the segment has bytes up to the end and no local heap; the start isn't below 4, the end
-- not over 65,536; and between them there is a whole grain.
pub record MayBegin (w : World) (selector start end : ℕ) (b : Beginning) : Type 0 where
  pub selected : slot_of_selector w.loading.handles (selector_or_ds w selector) ≡ Some b.slot
  pub uncoded : is_code w.loading.handles b.slot ≡ false
  pub none : finmap.get w.heaps b.slot ≡ None
  pub inside : IsSomeAnd (segment_bytes w b.slot) (λ bytes. end ≤ length bytes)
  pub low : 4 ≤ start
  pub high : end ≤ 65536
  pub from : IsMultiple 4 b.range.from × (start ≤ b.range.from) × (b.range.from < start + 4)
  pub to : IsMultiple 4 b.range.to × (b.range.to ≤ end) × (end < b.range.to + 4)
  pub some : b.range.from < b.range.to

abbrev pub BeginLaw : Type 0
BeginLaw = (w : World) (selector start end : ℕ) (b : Beginning) → (beginning w selector start end ≡ Some b) ↔ MayBegin w selector start end b

-- a new heap has no object
abbrev pub NewHeapLaw : Type 0
NewHeapLaw = (range : Span) (bytes : List ℕ) → heap_in (new_table range) bytes ≡ empty_heap range.from range.to LOCAL_GRAIN

-- What a local call leaves.

-- the segment of a local heap has as many bytes as before, and outside the heap's range the same
pub record IsRewritten (at : LocalHeap) (before after : Object) : Type 0 where
  pub kind : after.kind ≡ before.kind
  pub locks : after.locks ≡ before.locks
  pub had : before.bytes ≡ Some at.bytes
  pub has : IsSomeAnd after.bytes (λ bytes. (length bytes ≡ length at.bytes) × IsSameOutside at.table.lo at.table.hi at.bytes bytes)

-- the slot's object is as it was, but for bytes in the range of the local heap that DS names
abbrev pub IsObjectKept : World → World → ℕ → Type 0
IsObjectKept old new slot =
    (object_at new.loading.handles.heap slot ≡ object_at old.loading.handles.heap slot)
    ⊎ IsSomeAnd (current_heap old) (λ at. (at.slot ≡ slot)
    × IsSomeAnd (object_at old.loading.handles.heap slot) (λ before. IsSomeAnd (object_at new.loading.handles.heap slot) (IsRewritten at before)))

-- so is each local heap but the one that DS names, which keeps its range; where there was none one may have begun
abbrev pub IsHeapKept : World → World → ℕ → Type 0
IsHeapKept old new slot =
    (finmap.get new.heaps slot ≡ finmap.get old.heaps slot)
    ⊎ ((finmap.get old.heaps slot ≡ None) × (is_code old.loading.handles slot ≡ false))
    ⊎ IsSomeAnd (current_heap old) (λ at. (at.slot ≡ slot) × IsSomeAnd (finmap.get new.heaps slot) (λ t. (t.lo ≡ at.table.lo) × (t.hi ≡ at.table.hi)))

-- No address, no order of use and no other part of the handles changes, the number of bytes moved among them.
pub record KeepsRest (old new : World) : Type 0 where
  pub handles : new.loading.handles ≡ record old.loading.handles { heap = record old.loading.handles.heap { objects = new.loading.handles.heap.objects } }
  pub loading : new.loading ≡ with_handles old.loading new.loading.handles
  pub objects : (slot : ℕ) → IsObjectKept old new slot
  pub heaps : (slot : ℕ) → IsHeapKept old new slot

-- the calls that ask for room: an allocation of bytes, a reallocation to a size other than 0, and a compaction for more than 0 bytes
abbrev pub asks_for_room : Command OfLocals → Bool
asks_for_room (LocalAlloc flags size) = not (is_absent_asked flags size)
asks_for_room (LocalReAlloc name size flags) = not (has_flag flags LMEM_MODIFY || size == 0)
asks_for_room (LocalCompact size) = not (size == 0)
asks_for_room command = false

-- those for which a heap may grow: the first two, without LMEM_NOCOMPACT
abbrev pub may_grow : Command OfLocals → Bool
may_grow (LocalAlloc flags size) = asks_for_room (LocalAlloc flags size) && not (has_flag flags LMEM_NOCOMPACT)
may_grow (LocalReAlloc name size flags) = asks_for_room (LocalReAlloc name size flags) && not (has_flag flags LMEM_NOCOMPACT)
may_grow command = false

-- the flags that a call for an object's bytes is given
abbrev pub flags_in : Command OfLocals → Option ℕ
flags_in (LocalAlloc flags size) = Some flags
flags_in (LocalReAlloc name size flags) = Some flags
flags_in command = None

-- The current heap grew, for a call that may make it: its segment was lengthened as by GlobalReAlloc, the heap is the current one still, and the
-- rest of the world that this left is kept. No heap begins.
pub record KeepsRestLonger (old : World) (command : Command OfLocals) (new : World) : Type 0 where
  pub may : may_grow command ≡ true
  pub at : LocalHeap
  pub current : current_heap old ≡ Some at
  pub flags : ℕ
  pub given : flags_in command ≡ Some flags
  pub size : ℕ
  pub ends : at.table.hi ≡ length at.bytes
  pub longer_size : IsLongerSize at size
  pub lengthens : Lengthens old at (local_options flags) size
  pub still : current_heap (with_longer old lengthens.handles (longer at size lengthens.bytes)) ≡ Some (longer at size lengthens.bytes)
  pub rest : KeepsRest (with_longer old lengthens.handles (longer at size lengthens.bytes)) new
  pub begins_none : (slot : ℕ) → finmap.get (with_longer old lengthens.handles (longer at size lengthens.bytes)).heaps slot ≡ None → finmap.get new.heaps slot ≡ None

-- Whatever a local call answers, it keeps the rest, or does so once its heap has grown.
abbrev pub FrameLaw : Type 0
FrameLaw = (old new : World) (command : Command OfLocals) (reply : Reply) → AreLocalHeaps old → LocalStep old command reply new → KeepsRest old new ⊎ KeepsRestLonger old command new

-- a segment that was lengthened: all but its bytes is the same, it has more of these, and below the heap the same
pub record IsLengthened (at : LocalHeap) (before after : Object) : Type 0 where
  pub kind : after.kind ≡ before.kind
  pub locks : after.locks ≡ before.locks
  pub had : before.bytes ≡ Some at.bytes
  pub has : IsSomeAnd after.bytes (λ bytes. (length at.bytes < length bytes) × (take at.table.lo bytes ≡ take at.table.lo at.bytes))

-- What a growth leaves of a slot's object: it is the segment of the current heap, or it is as it was, or it was discardable and not locked, and has
-- lost its bytes alone.
abbrev pub IsLeftByGrowth : World → World → ℕ → Type 0
IsLeftByGrowth old new slot =
    IsKeptOrDiscarded old.loading.handles.heap new.loading.handles.heap slot
    ⊎ IsSomeAnd (current_heap old) (λ at. (at.slot ≡ slot)
    × IsSomeAnd (object_at old.loading.handles.heap slot) (λ before. IsSomeAnd (object_at new.loading.handles.heap slot) (IsLengthened at before)))

-- and of a slot's local heap: it goes exactly where its segment has lost its range; that of the segment ends later, where its segment does still
abbrev pub IsHeapLeft : World → World → ℕ → Type 0
IsHeapLeft old new slot =
    (finmap.get new.heaps slot ≡ finmap.get (left_in new.loading.handles.heap old.heaps) slot)
    ⊎ IsSomeAnd (current_heap old) (λ at. (at.slot ≡ slot) × IsSomeAnd (finmap.get new.heaps slot) (λ t. (t.lo ≡ at.table.lo) × (at.table.hi < t.hi) × IsSomeAnd (segment_bytes new slot) (λ bytes. t.hi ≡ length bytes)))

-- What a call leaves for which a heap has grown: the other objects and heaps as they were, and a fixed or locked object its address, the segment's too.
-- Nothing but handles changes, and of them neither slots nor attributes nor the number of bytes moved; from the order of use only what was discarded
-- leaves, so the segment keeps its place there.
pub record LeavesLonger (old new : World) : Type 0 where
  pub loading : new.loading ≡ with_handles old.loading new.loading.handles
  pub slots : new.loading.handles.slots ≡ old.loading.handles.slots
  pub attributes : (slot : ℕ) → finmap.get new.loading.handles.attributes slot ≡ finmap.get old.loading.handles.attributes slot
  pub moved : new.loading.handles.moved ≡ old.loading.handles.moved
  pub order : OnlyLeave new.loading.handles.heap old.loading.handles.heap.order new.loading.handles.heap.order
  pub objects : (slot : ℕ) → is_some (object_at old.loading.handles.heap slot) ≡ true → IsLeftByGrowth old new slot
  pub pinned : (slot : ℕ) → IsSomeAnd (object_at old.loading.handles.heap slot) (λ o. is_pinned_object o ≡ true) → StandsStill old.loading.handles.heap new.loading.handles.heap slot
  pub heaps : (slot : ℕ) → IsHeapLeft old new slot

-- Inside the local heap.

-- the name in a call
abbrev pub named_by : Command OfLocals → Option ℕ
named_by (LocalReAlloc name size flags) = Some name
named_by (LocalDiscard name) = Some name
named_by (LocalFree name) = Some name
named_by (LocalLock name) = Some name
named_by (LocalUnlock name) = Some name
named_by (LocalSize name) = Some name
named_by (LocalFlags name) = Some name
named_by other = None

-- An object that a call doesn't name is as it was, or it was discardable and not locked and has lost its bytes alone; a fixed or locked one keeps
-- its near pointer. Unless the call asks for room, all keep all.
pub record IsLocalKept (asks : Bool) (old new : Heap) (q : ℕ) (o : Object) : Type 0 where
  pub object : (object_at new q ≡ Some o) ⊎ ((o.kind ≡ Discardable) × (o.locks ≡ 0) × (object_at new q ≡ Some (record o { bytes = None })))
  pub place : is_pinned_object o ≡ true → StandsStill old new q
  pub still : asks ≡ false → (object_at new q ≡ Some o) × StandsStill old new q

abbrev pub OthersLaw : Type 0
OthersLaw = (old new : World) (command : Command OfLocals) (reply : Reply) (at after : LocalHeap) (q : ℕ) (o : Object) → AreLocalHeaps old → LocalStep old command reply new
    → current_heap old ≡ Some at → local_in new at.slot ≡ Some after
    → object_at (heap_of at) q ≡ Some o → ((name : ℕ) → named_by command ≡ Some name → name_at (heap_of at) q ≢ Some name)
    → IsLocalKept (asks_for_room command) (heap_of at) (heap_of after) q o

-- the calls that may move a fixed or locked object that they name, or free it
abbrev pub may_move_named : Command OfLocals → Bool
may_move_named (LocalReAlloc name size flags) = asks_for_room (LocalReAlloc name size flags)
may_move_named (LocalFree name) = true
may_move_named command = false

-- every other call leaves it where it stands
abbrev pub PinnedLaw : Type 0
PinnedLaw = (old new : World) (command : Command OfLocals) (reply : Reply) (at after : LocalHeap) (q : ℕ) (o : Object) → AreLocalHeaps old → LocalStep old command reply new
    → current_heap old ≡ Some at → local_in new at.slot ≡ Some after
    → object_at (heap_of at) q ≡ Some o → is_pinned_object o ≡ true
    → (may_move_named command ≡ true → (name : ℕ) → named_by command ≡ Some name → name_at (heap_of at) q ≢ Some name)
    → StandsStill (heap_of at) (heap_of after) q

-- the object that a call names in the current heap
abbrev pub IsNamedBy : Command OfLocals → Heap → ℕ → Type 0
IsNamedBy command heap q = (name : ℕ) × (named_by command ≡ Some name) × (name_at heap q ≡ Some name)

-- Far accesses.

-- all of an object but what its bytes are
abbrev pub but_bytes : Object → Kind × ℕ × Option ℕ
but_bytes o = (o.kind, o.locks, option_map length o.bytes)

-- a far access leaves each local heap but for bytes of its objects: each has as many, its kind, its locks and its near pointer
pub record HasSameObjects (old new : Heap) : Type 0 where
  pub rest : new ≡ record old { objects = new.objects }
  pub objects : (id : ℕ) → option_map but_bytes (object_at new id) ≡ option_map but_bytes (object_at old id)

-- Heaps that go.

-- a step of the other families leaves a local heap exactly where its segment still has its range
abbrev pub GoesLaw : (honest : Type 0) → Type 0
GoesLaw honest = (format : Format) (old new : World) (command : AnyCommand) (reply : Reply) → LoadingStep honest format old command reply new → (slot : ℕ) (t : Table)
    → (finmap.get new.heaps slot ≡ Some t) ↔ ((finmap.get old.heaps slot ≡ Some t) × IsSomeAnd (bytes_at new.loading.handles.heap slot) (λ bytes. t.hi ≤ length bytes))
