-- The calls on handles: what each answers, and the handles that it leaves.
use Rattle.w16_model.specs
use Rattle.std.specs.Prelude.{◌≡◌, ℕ, ◌+◌, ◌-◌, ◌*◌, ◌/◌, ◌<◌, ◌≤◌, ◌⊎◌, Bool, true, false, not, ◌==◌, ◌&&◌, if◌then◌else◌, MatchBool, nat_lt, bit_and, List, length, unwrap_or, is_some, Some, None, Result, Ok, Err, option_map}
use specs.declared.Kind.TheVariants.{Fixed, Moveable, Discardable}
use specs.declared.TheConstants.{GRAIN, REACH, LARGEST_SIZE, GMEM_MOVEABLE, GMEM_NOCOMPACT, GMEM_NODISCARD, GMEM_ZEROINIT, GMEM_DISCARDABLE, GMEM_DDESHARE, GMEM_DISCARDED}
use specs.Heap.{Heap, Object, object_at, bytes_at, is_discardable}
use specs.Request.{Allocates, Compacts, discards_needed, moved_bytes}
use specs.OneObject.{Enters, after_lock, after_unlock, after_free, after_newest, after_oldest}
use specs.Handles.{Handles, Gives, IsFreeRun, HasNoRun, slots_for, reached, slot_of_handle, part_of_selector, handle_of, selector_of, far_pointer, dword_of}
use specs.{declared.Kind.Kind, declared.RoomOptions.RoomOptions, declared.Refusal.Refusal, declared.Attributes.Attributes, declared.Item.Item, Walk.IsWalk, Owned.owns}
use specs.Commands.{Command, Family.OfHandles}
use specs.Commands.Command.{GlobalAlloc, GlobalFree, GlobalLock, GlobalUnlock, GlobalSize, GlobalFlags, GlobalHandle, GetSelectorBase, GetSelectorLimit, GlobalCompact, GlobalLRUNewest, GlobalLRUOldest, Moved, Walk}
use Rattle.std.specs.FinMap as finmap
use Rattle.w16_model.specs.declared.Refusal.TheVariants as refusals

-- what a call that names objects by handles or selectors answers
pub data Answer : Type 0 where
  Word : (value : ℕ) → Answer
  Dword : (value : ℕ) → Answer
  -- so many objects with bytes and holes, which a walk then tells one by one (specs/Walk)
  Walked : (count : ℕ) → Answer

-- Allocation.

abbrev pub has_flag : ℕ → ℕ → Bool
has_flag flags flag = not (bit_and flags flag == 0)

-- a size rounded up to whole grains
abbrev pub rounded_size : ℕ → ℕ
rounded_size size = GRAIN * ((size + (GRAIN - 1)) / GRAIN)

-- only a moveable object can be discardable
abbrev pub kind_asked : ℕ → Kind
kind_asked flags = if has_flag flags GMEM_MOVEABLE then (if has_flag flags GMEM_DISCARDABLE then Discardable else Moveable) else Fixed

-- others may be moved without GMEM_NOCOMPACT, and discarded too without GMEM_NODISCARD
abbrev pub alloc_options : ℕ → RoomOptions
alloc_options flags = record { compact = not (has_flag flags GMEM_NOCOMPACT); discard = not (has_flag flags GMEM_NODISCARD); zero = has_flag flags GMEM_ZEROINIT; may_move = false }

-- whether an object is asked for that has no bytes yet
abbrev pub is_absent_asked : ℕ → ℕ → Bool
is_absent_asked flags size = (size == 0) && has_flag flags GMEM_MOVEABLE

-- When an allocation is NULL: for a fixed object of no bytes,
abbrev pub IsEmptyFixed : ℕ → ℕ → Type 0
IsEmptyFixed flags size = (size ≡ 0) × (has_flag flags GMEM_MOVEABLE ≡ false)

-- for a size over the limit,
abbrev pub IsTooLong : ℕ → Type 0
IsTooLong size = LARGEST_SIZE < size

-- where no run of free slots is long enough,
abbrev pub HasNoSlots : Handles → ℕ → Type 0
HasNoSlots old size = HasNoRun old (slots_for (rounded_size size))

-- and where there is no room: no hole that is long enough, or no gap that could hold it, as the flags have it.
abbrev pub HasNoRoom : Handles → ℕ → ℕ → Type 0
HasNoRoom old flags size = (0 < size) × (discards_needed old.heap (rounded_size size) None (alloc_options flags) ≡ None)

abbrev pub IsRefusedAlloc : Handles → ℕ → ℕ → Type 0
IsRefusedAlloc old flags size = IsEmptyFixed flags size ⊎ IsTooLong size ⊎ HasNoSlots old size ⊎ HasNoRoom old flags size

-- else the object gets free slots in a row, whichever, and bytes as the heap allocates them; a moveable one of size 0 is absent
pub record AnswersAlloc (old : Handles) (flags size handle : ℕ) (new : Handles) : Type 0 where
  pub small : size ≤ LARGEST_SIZE
  pub slot : ℕ
  pub free : IsFreeRun old slot (slots_for (rounded_size size))
  pub named : handle ≡ handle_of (kind_asked flags) slot
  pub made : MatchBool (is_absent_asked flags size)
      (Enters old.heap slot (kind_asked flags) new.heap)
      (Allocates old.heap slot (rounded_size size) (kind_asked flags) 0 (alloc_options flags) true new.heap)
  pub rest : new ≡ record old {
    heap = new.heap;
    attributes = finmap.insert old.attributes slot (record { shared = has_flag flags GMEM_DDESHARE; owned = None; slots = slots_for (rounded_size size) });
    moved = moved_bytes old.heap new.heap;
  }

-- GlobalAlloc; a refused one has moved nothing
abbrev pub GlobalAllocs : Handles → ℕ → ℕ → ℕ → Handles → Type 0
GlobalAllocs old flags size handle new = (IsRefusedAlloc old flags size × (handle ≡ 0) × (new ≡ record old { moved = 0 })) ⊎ AnswersAlloc old flags size handle new

-- GlobalCompact
pub record GlobalCompacts (old : Handles) (size answer : ℕ) (new : Handles) : Type 0 where
  pub compacted : Compacts old.heap size answer new.heap
  pub rest : new ≡ record old { heap = new.heap; moved = moved_bytes old.heap new.heap }

-- The calls that name an object. Each answers and leaves what is written here.

-- GlobalFree of an object that no module owns: 0, and the object is gone; the argument where the handle is bad or the object locked
abbrev pub free_own : Handles → ℕ → Answer × Handles
free_own old handle = elim (slot_of_handle old handle) [
  | None ↦ (Word handle, old)
  | Some slot ↦ elim (after_free old.heap slot) [
    | Ok heap ↦ (Word 0, record old { heap = heap; attributes = finmap.remove old.attributes slot })
    | Err _ ↦ (Word handle, old)
  ]
]

-- GlobalFree; the argument also where a module owns the object (profile)
abbrev pub global_free : Handles → ℕ → Answer × Handles
global_free old handle = if owns old handle then (Word handle, old) else free_own old handle

-- GlobalLock: a far pointer to the object's begin; a fixed object has one with no lock; NULL for a bad handle, an absent object or a full count
abbrev pub global_lock : Handles → ℕ → Answer × Handles
global_lock old handle = elim (slot_of_handle old handle) [
  | None ↦ (Dword 0, old)
  | Some slot ↦ elim (after_lock old.heap slot) [
    | Ok heap ↦ (Dword (far_pointer (selector_of slot) 0), record old { heap = heap })
    | Err refusals.Fixed ↦ (Dword (far_pointer (selector_of slot) 0), old)
    | Err _ ↦ (Dword 0, old)
  ]
]

-- the locks that an object has; none where there is no object
abbrev pub locks_at : Heap → ℕ → ℕ
locks_at heap slot = unwrap_or (option_map (λ (o : Object). o.locks) (object_at heap slot)) 0

-- GlobalUnlock: 1 where locks are left, else 0; 0 also for a fixed object and for a bad handle
abbrev pub global_unlock : Handles → ℕ → Answer × Handles
global_unlock old handle = elim (slot_of_handle old handle) [
  | None ↦ (Word 0, old)
  | Some slot ↦ elim (after_unlock old.heap slot) [
    | Ok heap ↦ (Word (if nat_lt 0 (locks_at heap slot) then 1 else 0), record old { heap = heap })
    | Err _ ↦ (Word 0, old)
  ]
]

-- the handle, and the heap that a step on its object leaves; 0 where the step is refused or the handle is bad
abbrev pub handle_or_0 : (Heap → ℕ → Result Heap Refusal) → Handles → ℕ → Answer × Handles
handle_or_0 after old handle = elim (slot_of_handle old handle) [
  | None ↦ (Word 0, old)
  | Some slot ↦ elim (after old.heap slot) [
    | Ok heap ↦ (Word handle, record old { heap = heap })
    | Err _ ↦ (Word 0, old)
  ]
]

-- GlobalLRUNewest: a discardable object with bytes becomes the newest in the order of use, locked or not
abbrev pub global_lru_newest : Handles → ℕ → Answer × Handles
global_lru_newest = handle_or_0 after_newest

-- GlobalLRUOldest: and the oldest, so that it is discarded first
abbrev pub global_lru_oldest : Handles → ℕ → Answer × Handles
global_lru_oldest = handle_or_0 after_oldest

-- What objects and selectors are asked. These change nothing.

-- GlobalSize: the size; 0 for a bad handle or an absent object
abbrev pub global_size : Handles → ℕ → ℕ
global_size handles handle = elim (slot_of_handle handles handle) [
  | None ↦ 0
  | Some slot ↦ unwrap_or (option_map length (bytes_at handles.heap slot)) 0
]

-- whether other tasks share a slot's object
abbrev pub is_shared : Handles → ℕ → Bool
is_shared handles slot = unwrap_or (option_map (λ (a : Attributes). a.shared) (finmap.get handles.attributes slot)) false

-- an object's lock count, and bits that say whether it is discardable, shared, and absent
abbrev pub flags_of : Bool → Object → ℕ
flags_of shared o = o.locks + (if is_discardable o.kind then GMEM_DISCARDABLE else 0) + (if shared then GMEM_DDESHARE else 0) + (if is_some o.bytes then 0 else GMEM_DISCARDED)

-- GlobalFlags: 0 for a bad handle
abbrev pub global_flags : Handles → ℕ → ℕ
global_flags handles handle = elim (slot_of_handle handles handle) [
  | None ↦ 0
  | Some slot ↦ unwrap_or (option_map (flags_of (is_shared handles slot)) (object_at handles.heap slot)) 0
]

-- GlobalHandle: the selector in the high word, and its object's handle in the low one; 0 where there is none
abbrev pub global_handle : Handles → ℕ → ℕ
global_handle handles selector = elim (part_of_selector handles selector) [
  | None ↦ 0
  | Some p ↦ unwrap_or (option_map (λ (o : Object). dword_of selector (handle_of o.kind p.slot)) (object_at handles.heap p.slot)) 0
]

-- GetSelectorBase: the address of the first byte that it reaches; 0 for a bad selector or an absent object
abbrev pub selector_base : Handles → ℕ → ℕ
selector_base handles selector = elim (part_of_selector handles selector) [
  | None ↦ 0
  | Some p ↦ unwrap_or (option_map (λ at. at + REACH * p.number) (finmap.get handles.heap.places p.slot)) 0
]

-- GetSelectorLimit: the offset of the last byte that it reaches; 0 for a bad selector or an absent object
abbrev pub selector_limit : Handles → ℕ → ℕ
selector_limit handles selector = elim (part_of_selector handles selector) [
  | None ↦ 0
  | Some p ↦ unwrap_or (option_map (λ bytes. reached (length bytes) p - 1) (bytes_at handles.heap p.slot)) 0
]

-- One step: the answer that may be given to a call, and the handles that it leaves.

abbrev pub HandleStep : Handles → Command OfHandles → Answer → Handles → Type 0
HandleStep old (GlobalAlloc flags size) (Word handle) new = GlobalAllocs old flags size handle new
HandleStep old (GlobalFree handle) answer new = Gives (global_free old handle) answer new
HandleStep old (GlobalLock handle) answer new = Gives (global_lock old handle) answer new
HandleStep old (GlobalUnlock handle) answer new = Gives (global_unlock old handle) answer new
HandleStep old (GlobalSize handle) answer new = Gives (Dword (global_size old handle), old) answer new
HandleStep old (GlobalFlags handle) answer new = Gives (Word (global_flags old handle), old) answer new
HandleStep old (GlobalHandle selector) answer new = Gives (Dword (global_handle old selector), old) answer new
HandleStep old (GetSelectorBase selector) answer new = Gives (Dword (selector_base old selector), old) answer new
HandleStep old (GetSelectorLimit selector) answer new = Gives (Dword (selector_limit old selector), old) answer new
HandleStep old (GlobalCompact size) (Dword longest) new = GlobalCompacts old size longest new
HandleStep old (GlobalLRUNewest handle) answer new = Gives (global_lru_newest old handle) answer new
HandleStep old (GlobalLRUOldest handle) answer new = Gives (global_lru_oldest old handle) answer new
HandleStep old Moved answer new = Gives (Dword old.moved, old) answer new
HandleStep old Walk (Walked count) new = (items : List Item) × IsWalk handle_of old.heap items × (count ≡ length items) × (new ≡ old)
HandleStep old command answer new = ⊥
