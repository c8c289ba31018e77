-- What a call on handles leaves: one of thirteen outcomes, whichever the call is. Each says all that changes of the heap, the attributes, the
-- slots and the number of bytes moved. A law about every call then goes by outcomes.
use Rattle.w16_model.specs
use Rattle.std.specs.Prelude.{◌≡◌, ℕ, ◌+◌, ◌-◌, ◌≤◌, ◌==◌, Bool, true, false, is_some, List, Some, None, Ok}
use specs.declared.TheConstants.{LARGEST_SIZE, GMEM_MODIFY, GMEM_DDESHARE}
use specs.Heap.{Heap, Object, object_at, is_fixed, is_discardable}
use specs.Changes.{with_object, with_ordered, with_newest, newest, oldest, touched, absent}
use specs.Request.{IsNew, Settles, Reallocates, discarded, stays_for, moved_bytes}
use specs.OneObject.{Enters, refused_order, after_modify}
use specs.Handles.{Handles, IsFreeRun, slots_for, slot_of_handle, handle_of}
use specs.Commands.{Command, Family.OfHandles}
use specs.Calls.{Answer, HandleStep, has_flag, kind_asked, alloc_options, rounded_size}
use specs.Calls.Answer.{Word, Dword}
use specs.Commands.Command.{GlobalAlloc, GlobalFree, GlobalLock, GlobalUnlock, GlobalCompact, GlobalLRUNewest, GlobalLRUOldest}
use specs.Resizes.{GlobalReAllocs, GetsRun, rehoused, with_run, realloc_options, kind_modified}
use specs.{declared.Attributes.Attributes, Gap.is_pinned, Owned.owns, Law.without_slot, Reallocation.ChangesKind, Law.AreHandles}
use Rattle.std.specs.FinMap as finmap

-- A call on handles: GlobalReAlloc, of which GlobalDiscard is a case, or any other.
pub data Call : Type 0 where
  Calls : Command OfHandles → Call
  ReAllocs : (handle size flags : ℕ) → Call

abbrev pub CallStep : Handles → Call → Answer → Handles → Type 0
CallStep old (Calls command) answer new = HandleStep old command answer new
CallStep old (ReAllocs handle size flags) (Word answer) new = GlobalReAllocs old handle size flags answer new
CallStep old call answer new = ⊥

-- the object that a handle names
pub record IsNamed (old : Handles) (handle slot : ℕ) (o : Object) : Type 0 where
  pub found : slot_of_handle old handle ≡ Some slot
  pub there : object_at old.heap slot ≡ Some o

-- GlobalLock counts one lock more, and uses the object.
pub record Locks (old : Handles) (call : Call) (new : Handles) : Type 0 where
  pub handle : ℕ
  pub slot : ℕ
  pub object : Object
  pub asked : call ≡ Calls (GlobalLock handle)
  pub named : IsNamed old handle slot object
  pub has : is_some object.bytes ≡ true
  pub loose : is_fixed object.kind ≡ false
  pub some : (object.locks == 255) ≡ false
  pub rest : new ≡ record old { heap = with_ordered old.heap slot (record object { locks = object.locks + 1 }) (touched slot) }

-- GlobalUnlock counts one lock less, if there is one.
pub record Unlocks (old : Handles) (call : Call) (new : Handles) : Type 0 where
  pub handle : ℕ
  pub slot : ℕ
  pub object : Object
  pub asked : call ≡ Calls (GlobalUnlock handle)
  pub named : IsNamed old handle slot object
  pub loose : is_fixed object.kind ≡ false
  pub rest : new ≡ record old { heap = with_object old.heap slot (record object { locks = object.locks - 1 }) }

-- GlobalFree takes an object away, with its attributes: one that no module owns and that isn't locked.
pub record Frees (old : Handles) (call : Call) (new : Handles) : Type 0 where
  pub handle : ℕ
  pub slot : ℕ
  pub object : Object
  pub asked : call ≡ Calls (GlobalFree handle)
  pub named : IsNamed old handle slot object
  pub own : owns old handle ≡ false
  pub unlocked : object.locks ≡ 0
  pub rest : new ≡ without_slot old slot

-- GlobalLRUNewest or GlobalLRUOldest moves an object that is in the order of use to an end of it.
pub record Orders (old : Handles) (call : Call) (asks : ℕ → Command OfHandles) (order : ℕ → List ℕ → List ℕ) (new : Handles) : Type 0 where
  pub handle : ℕ
  pub slot : ℕ
  pub object : Object
  pub asked : call ≡ Calls (asks handle)
  pub named : IsNamed old handle slot object
  pub may : refused_order old.heap slot ≡ None
  pub rest : new ≡ record old { heap = record old.heap { order = order slot old.heap.order } }

-- the attributes of a new object, which no module owns
abbrev pub attributes_asked : ℕ → ℕ → Attributes
attributes_asked flags size = record { shared = has_flag flags GMEM_DDESHARE; owned = None; slots = slots_for (rounded_size size) }

-- GlobalAlloc puts an object without bytes into free slots.
pub record EntersSlot (old : Handles) (call : Call) (answer : Answer) (new : Handles) : Type 0 where
  pub flags : ℕ
  pub size : ℕ
  pub slot : ℕ
  pub asked : call ≡ Calls (GlobalAlloc flags size)
  pub answered : answer ≡ Word (handle_of (kind_asked flags) slot)
  pub free : IsFreeRun old slot (slots_for (rounded_size size))
  pub entered : Enters old.heap slot (kind_asked flags) new.heap
  pub rest : new ≡ record old { heap = new.heap; attributes = finmap.insert old.attributes slot (attributes_asked flags size); moved = moved_bytes old.heap new.heap }

-- Or it puts one with bytes there, for which it discards the first so many that may be discarded.
pub record AllocatesSlot (old : Handles) (call : Call) (answer : Answer) (new : Handles) : Type 0 where
  pub flags : ℕ
  pub size : ℕ
  pub slot : ℕ
  pub count : ℕ
  pub object : Object
  pub asked : call ≡ Calls (GlobalAlloc flags size)
  pub answered : answer ≡ Word (handle_of (kind_asked flags) slot)
  pub free : IsFreeRun old slot (slots_for (rounded_size size))
  pub is_new : IsNew (alloc_options flags).zero (rounded_size size) (kind_asked flags) 0 object
  pub settled : Settles old.heap (stays_for slot (alloc_options flags)) (with_ordered (discarded old.heap count (Some slot)) slot object (with_newest slot object)) new.heap
  pub rest : new ≡ record old { heap = new.heap; attributes = finmap.insert old.attributes slot (attributes_asked flags size); moved = moved_bytes old.heap new.heap }

-- GlobalCompact discards the first so many that may be discarded, and moves others.
pub record CompactsHeap (old : Handles) (call : Call) (answer : Answer) (new : Handles) : Type 0 where
  pub size : ℕ
  pub count : ℕ
  pub longest : ℕ
  pub asked : call ≡ Calls (GlobalCompact size)
  pub answered : answer ≡ Dword longest
  pub settled : Settles old.heap is_pinned (discarded old.heap count None) new.heap
  pub rest : new ≡ record old { heap = new.heap; moved = moved_bytes old.heap new.heap }

-- GlobalReAlloc changes an object's kind, and by that its place in the order. Here and below no module owns the object.
pub record Modifies (old : Handles) (call : Call) (answer : Answer) (new : Handles) : Type 0 where
  pub handle : ℕ
  pub size : ℕ
  pub flags : ℕ
  pub slot : ℕ
  pub object : Object
  pub asked : call ≡ ReAllocs handle size flags
  pub answered : answer ≡ Word handle
  pub named : IsNamed old handle slot object
  pub own : owns old handle ≡ false
  pub modified : after_modify old.heap slot (kind_modified flags) ≡ Ok new.heap
  pub changes : ChangesKind old.heap slot object (kind_modified flags) new.heap
  pub rest : new ≡ record old { heap = new.heap; moved = moved_bytes old.heap new.heap }

-- It takes the bytes of a discardable object that isn't locked, if it has any.
pub record Discards (old : Handles) (call : Call) (answer : Answer) (new : Handles) : Type 0 where
  pub handle : ℕ
  pub size : ℕ
  pub flags : ℕ
  pub slot : ℕ
  pub object : Object
  pub asked : call ≡ ReAllocs handle size flags
  pub answered : answer ≡ Word handle
  pub named : IsNamed old handle slot object
  pub own : owns old handle ≡ false
  pub unlocked : object.locks ≡ 0
  pub discardable : is_discardable object.kind ≡ true
  pub rest : new ≡ record old { heap = absent old.heap slot; moved = moved_bytes old.heap (absent old.heap slot) }

-- It gives an object another size, above 0, in a heap where the object has its old slot still, and then the run of slots that the size needs.
pub record Resized (old : Handles) (call : Call) (answer : Answer) (new : Handles) : Type 0 where
  pub handle : ℕ
  pub size : ℕ
  pub flags : ℕ
  pub slot : ℕ
  pub object : Object
  pub first : ℕ
  pub heap : Heap
  pub asked : call ≡ ReAllocs handle size flags
  pub answered : answer ≡ Word (handle_of object.kind first)
  pub named : IsNamed old handle slot object
  pub own : owns old handle ≡ false
  pub sized : (has_flag flags GMEM_MODIFY ≡ false) × ((size == 0) ≡ false)
  pub small : size ≤ LARGEST_SIZE
  pub gets : GetsRun old slot object (realloc_options flags) (slots_for (rounded_size size)) first
  pub resized : Reallocates old.heap slot (rounded_size size) (realloc_options flags) true heap
  pub rest : new ≡ record old { heap = rehoused heap slot first; attributes = with_run old.attributes slot first (slots_for (rounded_size size)); moved = moved_bytes old.heap heap }

-- whether a call counts the bytes that it moved
abbrev pub counts_moved : Call → Bool
counts_moved (Calls (GlobalAlloc flags size)) = true
counts_moved (Calls (GlobalCompact size)) = true
counts_moved (Calls command) = false
counts_moved (ReAllocs handle size flags) = true

pub data Outcome (old : Handles) (call : Call) (answer : Answer) (new : Handles) : Type 0 where
  -- Nothing changes: by a call that doesn't count the bytes that it moves, or by one that counts them and moved none.
  IsSame : counts_moved call ≡ false → new ≡ old → Outcome old call answer new
  IsUnmoved : counts_moved call ≡ true → new ≡ record old { moved = 0 } → Outcome old call answer new
  IsLocked : Locks old call new → Outcome old call answer new
  IsUnlocked : Unlocks old call new → Outcome old call answer new
  IsFreed : Frees old call new → Outcome old call answer new
  IsNewest : Orders old call GlobalLRUNewest newest new → Outcome old call answer new
  IsOldest : Orders old call GlobalLRUOldest oldest new → Outcome old call answer new
  IsEntered : EntersSlot old call answer new → Outcome old call answer new
  IsAllocated : AllocatesSlot old call answer new → Outcome old call answer new
  IsCompacted : CompactsHeap old call answer new → Outcome old call answer new
  IsModified : Modifies old call answer new → Outcome old call answer new
  IsDiscarded : Discards old call answer new → Outcome old call answer new
  IsResized : Resized old call answer new → Outcome old call answer new

-- Each call has one of them.
abbrev pub CallOutcomesLaw : Type 0
CallOutcomesLaw = (old new : Handles) (call : Call) (answer : Answer) → AreHandles old → CallStep old call answer new → Outcome old call answer new
