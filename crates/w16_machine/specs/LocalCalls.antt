-- The Local calls: what each answers, and the world that it leaves. All but LocalInit act in the local heap that DS names; where there is
-- none they answer 0, LocalFree its argument, and change nothing.
use Rattle.w16_machine.specs
use Rattle.std.specs.Prelude.{◌≡◌, ℕ, ◌+◌, ◌<◌, ◌⊎◌, Bool, true, false, not, ◌&&◌, ◌==◌, if◌then◌else◌, nat_lt, MatchBool, MatchOption, length, Option, Some, None, Result, Ok, Err, option_map, unwrap_or, is_some}
use Rattle.w16_model.specs.declared.Kind.TheVariants.{Fixed, Moveable, Discardable}
use Rattle.w16_model.specs.Request.{Allocates, Reallocates, MakesRoom, most_room, discards_needed}
use Rattle.w16_model.specs.OneObject.{Enters, after_lock, after_unlock, after_free, after_discard, after_modify}
use Rattle.w16_model.specs.{declared.Kind.Kind, declared.Refusal.Refusal, declared.RoomOptions.RoomOptions, Heap.Heap, Heap.Object, Heap.object_at, Heap.bytes_at, Heap.is_discardable, Calls.has_flag, Calls.locks_at}
use specs.declared.local.TheConstants.{LMEM_MOVEABLE, LMEM_NOCOMPACT, LMEM_NODISCARD, LMEM_ZEROINIT, LMEM_MODIFY, LMEM_DISCARDABLE, LMEM_DISCARDED}
use specs.Local.{LocalHeap, LocalObject, Stays, Becomes, Acts, IsFreeEntry, IsLowestFree, heap_of, current_heap, object_named, name_at, id_at, rounded_up, beginning, new_table, with_table}
use specs.{World.World, LocalGrowth.OnceLonger}
use Rattle.w16_loading.specs.{Replies.Reply, Replies.Reply.Word, Replies.Reply.Done}
use Rattle.w16_model.specs.Commands.{Command}
use Rattle.w16_model.specs.Commands.Family.{OfLocals}
use Rattle.w16_model.specs.Commands.Command.{LocalInit, LocalAlloc, LocalReAlloc, LocalDiscard, LocalFree, LocalLock, LocalUnlock, LocalSize, LocalFlags, LocalHandle, LocalCompact, DS}
use Rattle.std.specs.FinMap as finmap
use Rattle.w16_model.specs.declared.Refusal.TheVariants as refusals

-- LocalInit: 1, and a heap without objects begins in the segment; 0 where the selector is bad, its object has no bytes or a local heap
-- already or is code, or the range isn't sound.
abbrev pub LocalInits : World → ℕ → ℕ → ℕ → ℕ → World → Type 0
LocalInits old selector start end answer new = MatchOption (beginning old selector start end)
    (Stays old 0 answer new)
    (λ b. (answer ≡ 1) × (new ≡ with_table old b.slot (new_table b.range)))

-- Flags and sizes.

-- any of the bits of LMEM_DISCARDABLE makes an object discardable
abbrev pub moveable_or_discardable : ℕ → Kind
moveable_or_discardable flags = if has_flag flags LMEM_DISCARDABLE then Discardable else Moveable

-- which count for a new object only where LMEM_MOVEABLE is given too
abbrev pub local_kind : ℕ → Kind
local_kind flags = if has_flag flags LMEM_MOVEABLE then moveable_or_discardable flags else Fixed

-- others may be moved without LMEM_NOCOMPACT, and discarded too without LMEM_NODISCARD
abbrev pub local_options : ℕ → RoomOptions
local_options flags = record {
  compact = not (has_flag flags LMEM_NOCOMPACT);
  discard = not (has_flag flags LMEM_NODISCARD);
  zero = has_flag flags LMEM_ZEROINIT;
  may_move = has_flag flags LMEM_MOVEABLE;
}

-- LocalAlloc is 0 for a fixed object of no bytes,
abbrev pub IsEmptyFixed : ℕ → ℕ → Type 0
IsEmptyFixed flags size = (size ≡ 0) × (has_flag flags LMEM_MOVEABLE ≡ false)

-- where no entry is free, for want of which no heap grows,
abbrev pub HasNoEntry : Heap → Type 0
HasNoEntry heap = (id : ℕ) → IsFreeEntry heap id → ⊥

abbrev pub IsRefusedAlloc : Heap → ℕ → ℕ → Type 0
IsRefusedAlloc heap flags size = IsEmptyFixed flags size ⊎ HasNoEntry heap

-- and where there is no room in the heap, unless it grows; there is no other limit on a size.
abbrev pub HasNoRoom : Heap → ℕ → ℕ → Type 0
HasNoRoom heap flags size = (0 < size) × (discards_needed heap (rounded_up size) None (local_options flags) ≡ None)

-- a moveable object of size 0 has no bytes
abbrev pub is_absent_asked : ℕ → ℕ → Bool
is_absent_asked flags size = (size == 0) && has_flag flags LMEM_MOVEABLE

-- else it gets the lowest free entry, without bytes,
pub record EntersObject (heap : Heap) (flags id answer : ℕ) (next : Heap) : Type 0 where
  pub entered : Enters heap id (local_kind flags) next
  pub named : name_at next id ≡ Some answer

-- or with bytes, as the heap allocates them, and its name is the answer
pub record AllocatesObject (heap : Heap) (flags size id answer : ℕ) (next : Heap) : Type 0 where
  pub allocated : Allocates heap id (rounded_up size) (local_kind flags) 0 (local_options flags) true next
  pub named : name_at next id ≡ Some answer

abbrev pub MakesObject : World → LocalHeap → ℕ → ℕ → ℕ → ℕ → World → Type 0
MakesObject old at flags size id answer new = MatchBool (is_absent_asked flags size)
    ((next : Heap) × EntersObject (heap_of at) flags id answer next × Becomes old at next new)
    (Acts old at (AllocatesObject (heap_of at) flags size id answer) new)

-- or in the heap once it is longer, where it has no room now
abbrev pub MakesLonger : World → LocalHeap → ℕ → ℕ → ℕ → ℕ → World → Type 0
MakesLonger old at flags size id answer new = HasNoRoom (heap_of at) flags size
    × OnceLonger old at id (rounded_up size) (local_options flags) (λ next longer. MakesObject next longer flags size id answer new) (Stays old 0 answer new)

-- LocalAlloc
abbrev pub AllocatesIn : World → ℕ → ℕ → ℕ → World → LocalHeap → Type 0
AllocatesIn old flags size answer new at =
    (IsRefusedAlloc (heap_of at) flags size × Stays old 0 answer new)
    ⊎ ((id : ℕ) × IsLowestFree (heap_of at) id × (MakesObject old at flags size id answer new ⊎ MakesLonger old at flags size id answer new))

abbrev pub LocalAllocs : World → ℕ → ℕ → ℕ → World → Type 0
LocalAllocs old flags size answer new = MatchOption (current_heap old) (Stays old 0 answer new) (AllocatesIn old flags size answer new)

-- LocalCompact: as the heap compacts, which doesn't grow for it; for 0 bytes it only answers what could be made free
abbrev pub CompactsIn : World → ℕ → ℕ → World → LocalHeap → Type 0
CompactsIn old size answer new at = MatchBool (size == 0) (Stays old (most_room (heap_of at)) answer new) (Acts old at (MakesRoom (heap_of at) size answer) new)

abbrev pub LocalCompacts : World → ℕ → ℕ → World → Type 0
LocalCompacts old size answer new = MatchOption (current_heap old) (Stays old 0 answer new) (CompactsIn old size answer new)

-- The calls that name an object.

-- what is so of the object that has a name in the current heap; where there is none the answer is this, and the world stays
abbrev pub OnNamed : World → ℕ → ℕ → ℕ → World → (LocalObject → Type 0) → Type 0
OnNamed old name otherwise answer new so = MatchOption (object_named old name) (Stays old otherwise answer new) so

-- a step that moves no byte and gives none up, with the answer where it is taken, and the answer where it is refused and the world stays
abbrev pub Leaves : World → LocalHeap → Result Heap Refusal → (Heap → ℕ) → (Refusal → ℕ) → ℕ → World → Type 0
Leaves old at (Ok heap) taken refused answer new = (answer ≡ taken heap) × Becomes old at heap new
Leaves old at (Err refusal) taken refused answer new = Stays old (refused refusal) answer new

-- the same of a step that gives bytes up; freed bytes are unspecified
abbrev pub GivesUp : World → LocalHeap → Result Heap Refusal → ℕ → ℕ → ℕ → World → Type 0
GivesUp old at (Ok heap) taken refused answer new = (answer ≡ taken) × Acts old at (λ next. next ≡ heap) new
GivesUp old at (Err refusal) taken refused answer new = Stays old refused answer new

-- LocalFree: 0, and the object is gone; the argument where the name is bad or the object locked
abbrev pub LocalFrees : World → ℕ → ℕ → World → Type 0
LocalFrees old name answer new = OnNamed old name name answer new (λ o. GivesUp old o.heap (after_free (heap_of o.heap) o.id) 0 name answer new)

-- the near pointer of an object that has bytes
abbrev pub near_pointer : Heap → ℕ → ℕ
near_pointer heap id = unwrap_or (finmap.get heap.places id) 0

abbrev pub lock_refused : ℕ → Refusal → ℕ
lock_refused pointer refusals.Fixed = pointer
lock_refused pointer other = 0

-- LocalLock: the near pointer; a fixed object has one with no lock; 0 for a bad name, an absent object or a full count
abbrev pub LocalLocks : World → ℕ → ℕ → World → Type 0
LocalLocks old name answer new = OnNamed old name 0 answer new (λ o.
    let pointer = near_pointer (heap_of o.heap) o.id in
    Leaves old o.heap (after_lock (heap_of o.heap) o.id) (λ _. pointer) (lock_refused pointer) answer new)

abbrev pub locks_left : ℕ → Heap → ℕ
locks_left id heap = if nat_lt 0 (locks_at heap id) then 1 else 0

-- LocalUnlock: 1 where locks are left, else 0; 0 also for a fixed object and for a bad name
abbrev pub LocalUnlocks : World → ℕ → ℕ → World → Type 0
LocalUnlocks old name answer new = OnNamed old name 0 answer new (λ o. Leaves old o.heap (after_unlock (heap_of o.heap) o.id) (locks_left o.id) (λ _. 0) answer new)

-- LocalReAlloc with LMEM_MODIFY: the name, and a moveable or discardable object becomes what the flags say; a fixed one stays as it is
abbrev pub ModifiesObject : World → ℕ → ℕ → ℕ → World → LocalObject → Type 0
ModifiesObject old name flags answer new o = Leaves old o.heap (after_modify (heap_of o.heap) o.id (moveable_or_discardable flags)) (λ _. name) (λ _. name) answer new

-- With a size of 0 and LMEM_MOVEABLE: the name, and a discardable object that isn't locked gives up its bytes, if it has any; 0 for any
-- other object, and without LMEM_MOVEABLE.
abbrev pub DiscardsObject : World → ℕ → ℕ → ℕ → World → LocalObject → Type 0
DiscardsObject old name flags answer new o = MatchBool (has_flag flags LMEM_MOVEABLE)
    (GivesUp old o.heap (after_discard (heap_of o.heap) o.id) name 0 answer new)
    (Stays old 0 answer new)

-- with another size: the object's name, which a fixed object that is moved has anew, once the heap has reallocated it, longer if need be; 0 where
-- it can't
pub record ResizesObject (heap : Heap) (id size flags answer : ℕ) (next : Heap) : Type 0 where
  pub resized : Reallocates heap id (rounded_up size) (local_options flags) true next
  pub named : name_at next id ≡ Some answer

abbrev pub SizesObject : World → ℕ → ℕ → ℕ → World → LocalObject → Type 0
SizesObject old size flags answer new o =
    Acts old o.heap (ResizesObject (heap_of o.heap) o.id size flags answer) new
    ⊎ (Reallocates (heap_of o.heap) o.id (rounded_up size) (local_options flags) false (heap_of o.heap)
    × OnceLonger old o.heap o.id (rounded_up size) (local_options flags) (λ next longer. Acts next longer (ResizesObject (heap_of longer) o.id size flags answer) new) (Stays old 0 answer new))

-- LocalReAlloc, by the first case that fits: a bad name, LMEM_MODIFY, a size of 0, and any other size
abbrev pub LocalReallocs : World → ℕ → ℕ → ℕ → ℕ → World → Type 0
LocalReallocs old name size flags answer new = OnNamed old name 0 answer new (λ o. MatchBool (has_flag flags LMEM_MODIFY)
    (ModifiesObject old name flags answer new o)
    (MatchBool (size == 0) (DiscardsObject old name flags answer new o) (SizesObject old size flags answer new o)))

-- What objects are asked. These change nothing.

abbrev pub asked_of : World → ℕ → (LocalObject → ℕ) → ℕ
asked_of w name value = unwrap_or (option_map value (object_named w name)) 0

-- LocalSize: the size; 0 for a bad name or an absent object
abbrev pub local_size : LocalObject → ℕ
local_size o = unwrap_or (option_map length (bytes_at (heap_of o.heap) o.id)) 0

-- the lock count, and bits that say whether it is discardable, and absent
abbrev pub local_flags_of : Object → ℕ
local_flags_of o = o.locks + (if is_discardable o.kind then LMEM_DISCARDABLE else 0) + (if is_some o.bytes then 0 else LMEM_DISCARDED)

-- LocalFlags: 0 for a bad name
abbrev pub local_flags : LocalObject → ℕ
local_flags o = unwrap_or (option_map local_flags_of (object_at (heap_of o.heap) o.id)) 0

-- the name of the object that begins at a near pointer, if there is one
abbrev pub name_from : Heap → ℕ → Option ℕ
name_from heap pointer = elim (id_at heap pointer) [ None ↦ None | Some id ↦ name_at heap id ]

-- LocalHandle: 0 where there is none
abbrev pub local_handle : World → ℕ → ℕ
local_handle w pointer = elim (current_heap w) [ None ↦ 0 | Some at ↦ unwrap_or (name_from (heap_of at) pointer) 0 ]

-- One step: the answer that may be given to a call, and the world that it leaves.

-- a call that answers a word
abbrev pub Answers : World → Command OfLocals → ℕ → World → Type 0
Answers old (LocalInit selector start end) answer new = LocalInits old selector start end answer new
Answers old (LocalAlloc flags size) answer new = LocalAllocs old flags size answer new
Answers old (LocalReAlloc name size flags) answer new = LocalReallocs old name size flags answer new
Answers old (LocalDiscard name) answer new = LocalReallocs old name 0 LMEM_MOVEABLE answer new
Answers old (LocalFree name) answer new = LocalFrees old name answer new
Answers old (LocalLock name) answer new = LocalLocks old name answer new
Answers old (LocalUnlock name) answer new = LocalUnlocks old name answer new
Answers old (LocalSize name) answer new = Stays old (asked_of old name local_size) answer new
Answers old (LocalFlags name) answer new = Stays old (asked_of old name local_flags) answer new
Answers old (LocalHandle pointer) answer new = Stays old (local_handle old pointer) answer new
Answers old (LocalCompact size) answer new = LocalCompacts old size answer new
Answers old (DS selector) answer new = ⊥

-- DS names a segment, any word; no heap and no byte changes
abbrev pub LocalStep : World → Command OfLocals → Reply → World → Type 0
LocalStep old (DS selector) Done new = new ≡ record old { ds = selector }
LocalStep old command (Word answer) new = Answers old command answer new
LocalStep old command reply new = ⊥
