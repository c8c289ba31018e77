-- The laws of each step on handles on which other proofs stand: what it keeps, how it orders, what happens to objects that it isn't about. None
-- says what the definitions of the calls say: each counts, lists and compares once more. `w16_laws` has those on which nothing stands.
use Rattle.w16_model.specs
use Rattle.std.specs.Prelude.{◌==◌, ◌&&◌, ◌≡◌, ◌≢◌, ℕ, ◌+◌, ◌*◌, ◌<◌, ◌≤◌, ◌⊎◌, Bool, true, false, not, if◌then◌else◌, List, [], ◌∷◌, ◌++◌, length, take, drop, Option, Some, None, IsSomeAnd, is_some, option_map, unwrap_or}
use specs.declared.TheConstants.{REACH, GMEM_MOVEABLE, GMEM_MODIFY, LARGEST_SIZE}
use specs.Heap.{Heap, Object, object_at, bytes_at, is_in_order, is_pinned_object, size_of}
use specs.Handles.{Handles, slot_of_handle, part_of_selector, selector_in, offset_in, slots_for, handle_of}
use specs.Commands.{Command, Family.OfFar}
use specs.Commands.Command.{GlobalAlloc, GlobalFree, GlobalLock, GlobalUnlock, GlobalCompact, GlobalLRUNewest, GlobalLRUOldest, Read, Write, Fill}
use specs.Far.FarAnswer.{Bytes, Done, Fault}
use specs.Outcomes.{Call, CallStep, IsNamed}
use specs.Outcomes.Call.{Calls, ReAllocs}
use specs.Reallocation.{without_all, IsResized, LacksPlace, ReallocatesFewest}
use specs.Calls.{Answer, has_flag, rounded_size}
use specs.Far.{FarAnswer}
use specs.Resizes.{LacksRun, realloc_options, rehoused, GlobalReAllocs}
use specs.{declared.Kind.TheVariants.Discardable, Bytes.part, Bytes.repeated, Discards.is_member, Changes.without, Law.StandsStill, Calls.Answer.Word, Owned.is_owned, Law.AreHandles, Law.FarStep}

-- Which object a call is about.

-- the handle that a call names
abbrev pub handle_in : Call → Option ℕ
handle_in (Calls (GlobalFree handle)) = Some handle
handle_in (Calls (GlobalLock handle)) = Some handle
handle_in (Calls (GlobalUnlock handle)) = Some handle
handle_in (Calls (GlobalLRUNewest handle)) = Some handle
handle_in (Calls (GlobalLRUOldest handle)) = Some handle
handle_in (Calls command) = None
handle_in (ReAllocs handle size flags) = Some handle

abbrev pub IsAbout : Handles → Call → ℕ → Type 0
IsAbout old call q = IsSomeAnd (handle_in call) (λ handle. slot_of_handle old handle ≡ Some q)

-- Where an object goes.

-- whether a handle is that of a slot's object
abbrev pub names : Handles → ℕ → ℕ → Bool
names handles handle slot = unwrap_or (option_map (λ q. q == slot) (slot_of_handle handles handle)) false

-- the slot of the object whose handle this is, or else the slot given
abbrev pub slot_after : Handles → ℕ → ℕ → ℕ
slot_after handles handle slot = unwrap_or (slot_of_handle handles handle) slot

-- the slot that an object has after a call: the object whose handle is given to a reallocation is that of the handle answered, and every other
-- object keeps its slot
abbrev pub next_slot : Handles → Call → Answer → Handles → ℕ → ℕ
next_slot old (ReAllocs handle size flags) (Word answer) new slot = if names old handle slot then slot_after new answer slot else slot
next_slot old call answer new slot = slot

-- What is kept.

-- whether a call may change an address, a byte or a share bit: one that asks for room or another size, or frees
abbrev pub may_change : Call → Bool
may_change (Calls (GlobalAlloc flags size)) = true
may_change (Calls (GlobalFree handle)) = true
may_change (Calls (GlobalCompact size)) = true
may_change (Calls command) = false
may_change (ReAllocs handle size flags) = true

pub record KeepsContents (old new : Handles) : Type 0 where
  pub addresses : new.heap.places ≡ old.heap.places
  pub bytes : (q : ℕ) → bytes_at new.heap q ≡ bytes_at old.heap q
  pub kinds : (q : ℕ) → option_map (λ o. o.kind) (object_at new.heap q) ≡ option_map (λ o. o.kind) (object_at old.heap q)
  -- whether others share an object, and whose it is
  pub attributes : new.attributes ≡ old.attributes

-- each call keeps the slots and the memory
abbrev pub SlotsLaw : Type 0
SlotsLaw = (old new : Handles) (call : Call) (answer : Answer) → AreHandles old → CallStep old call answer new → (new.slots ≡ old.slots) × (new.heap.lo ≡ old.heap.lo) × (new.heap.hi ≡ old.heap.hi)

-- The order of use.

-- an object is the newest, and the others stand as they did
abbrev pub IsNewestOf : ℕ → List ℕ → List ℕ → Type 0
IsNewestOf id old new = new ≡ without id old ++ id ∷ []

-- what is discarded leaves the order, and nothing else changes in it
pub record OnlyLeave (new : Heap) (order after : List ℕ) : Type 0 where
  pub gone : List ℕ
  pub without_bytes : (q : ℕ) → is_member q gone ≡ true → bytes_at new q ≡ None
  pub order_is : after ≡ without_all gone order

-- Objects that a call isn't about.

-- an object is as it was; or it was discardable and not locked, and has lost its bytes alone, by a call that asks for room
abbrev pub IsKeptOrDiscarded : Heap → Heap → ℕ → Type 0
IsKeptOrDiscarded old new q =
    (object_at new q ≡ object_at old q)
    ⊎ IsSomeAnd (object_at old q) (λ o. (o.kind ≡ Discardable) × (o.locks ≡ 0) × (is_some o.bytes ≡ true) × (object_at new q ≡ Some (record o { bytes = None })))

-- each object that a call isn't about is so
abbrev pub BystandersLaw : Type 0
BystandersLaw = (old new : Handles) (call : Call) (answer : Answer) (q : ℕ) → AreHandles old → CallStep old call answer new → is_some (object_at old.heap q) ≡ true → (IsAbout old call q → ⊥) → IsKeptOrDiscarded old.heap new.heap q

-- whether a call may move a fixed or locked object, or take it away: its own reallocation with GMEM_MOVEABLE to a size above 0, and GlobalFree
abbrev pub may_move_own : Call → Bool
may_move_own (Calls (GlobalFree handle)) = true
may_move_own (Calls command) = false
may_move_own (ReAllocs handle size flags) = has_flag flags GMEM_MOVEABLE && (not (has_flag flags GMEM_MODIFY) && not (size == 0))

-- every other call leaves it where it stands
abbrev pub PinnedStayLaw : Type 0
PinnedStayLaw = (old new : Handles) (call : Call) (answer : Answer) (q : ℕ) → AreHandles old → CallStep old call answer new → IsSomeAnd (object_at old.heap q) (λ o. is_pinned_object o ≡ true)
    → (may_move_own call ≡ true → IsAbout old call q → ⊥) → StandsStill old.heap new.heap q

-- Far accesses.

-- bytes with a slice at a place, and all other bytes as they were
pub record IsWritten (before : List ℕ) (at : ℕ) (slice after : List ℕ) : Type 0 where
  pub fits : at + length slice ≤ length before
  pub long : length after ≡ length before
  pub below : take at after ≡ take at before
  pub written : part after at (length slice) ≡ slice
  pub above : drop (at + length slice) after ≡ drop (at + length slice) before

-- what an access up to an end that isn't refused leaves: its object with bytes such as these, from where its selector begins to reach, every
-- other object, every address, and the rest; its object is the newest where it is in the order
pub record Reaches (old : Handles) (selector end : ℕ) (becomes : ℕ → List ℕ → List ℕ → Type 0) (new : Handles) : Type 0 where
  pub slot : ℕ
  pub number : ℕ
  pub near : end ≤ REACH
  pub found : part_of_selector old selector ≡ Some (record { slot = slot; number = number })
  pub object : IsSomeAnd (object_at old.heap slot) (λ o. IsSomeAnd o.bytes (λ bytes. (after : List ℕ) × becomes (REACH * number) bytes after × (object_at new.heap slot ≡ Some (record o { bytes = Some after }))))
  pub others : (q : ℕ) → q ≢ slot → object_at new.heap q ≡ object_at old.heap q
  pub newest : is_in_order (object_at old.heap slot) ≡ true → IsNewestOf slot old.heap.order new.heap.order
  pub unlisted : is_in_order (object_at old.heap slot) ≡ false → new.heap.order ≡ old.heap.order
  pub rest : new ≡ record old { heap = record old.heap { objects = new.heap.objects; order = new.heap.order } }

-- a read answers these bytes and changes none; a write puts its bytes there; a fault changes nothing
abbrev pub FarEffect : Handles → Command OfFar → FarAnswer → Handles → Type 0
FarEffect old command (Fault fault) new = new ≡ old
FarEffect old (Read pointer count) (Bytes bytes) new = Reaches old (selector_in pointer) (offset_in pointer + count) (λ begin before after. (after ≡ before) × (bytes ≡ part before (begin + offset_in pointer) count)) new
FarEffect old (Write pointer slice) Done new = Reaches old (selector_in pointer) (offset_in pointer + length slice) (λ begin before after. IsWritten before (begin + offset_in pointer) slice after) new
FarEffect old (Fill pointer count byte) Done new = Reaches old (selector_in pointer) (offset_in pointer + length (repeated count byte)) (λ begin before after. IsWritten before (begin + offset_in pointer) (repeated count byte) after) new
FarEffect old command answer new = ⊥

abbrev pub FarEffectLaw : Type 0
FarEffectLaw = (old new : Handles) (command : Command OfFar) (answer : FarAnswer) → AreHandles old → FarStep old command answer new → FarEffect old command answer new

-- GlobalReAlloc.

-- Fewest discards, where an object's handle and a size are given: an answered one has discarded as few as it can; a refused one has changed
-- nothing, and the object would get more bytes and lacks a place for them, or lacks slots.
abbrev pub ReallocFewest : Handles → ℕ → ℕ → ℕ → ℕ → Handles → Type 0
ReallocFewest old handle size flags answer new = (slot : ℕ) → slot_of_handle old handle ≡ Some slot → is_owned old slot ≡ false → has_flag flags GMEM_MODIFY ≡ false → 0 < size → size ≤ LARGEST_SIZE
    → IsSomeAnd (object_at old.heap slot) (λ o.
    (answer ≢ 0 → (first : ℕ) × (heap : Heap) × (answer ≡ handle_of o.kind first) × (new.heap ≡ rehoused heap slot first) × ReallocatesFewest old.heap slot (rounded_size size) o (realloc_options flags) true heap)
    × (answer ≡ 0 → (LacksRun old slot o (realloc_options flags) (slots_for (rounded_size size))
    ⊎ ((size_of o < rounded_size size) × LacksPlace old.heap slot (rounded_size size) o (realloc_options flags))) × (new.heap ≡ old.heap)))

-- it keeps what holds of handles
abbrev pub ResizeLaw : Type 0
ResizeLaw = (old new : Handles) (handle size flags answer : ℕ) → AreHandles old → GlobalReAllocs old handle size flags answer new → AreHandles new

-- one that asks for a size discards as few as it can, and is NULL only where the object lacks slots, or would get more bytes and lacks a
-- place for them
abbrev pub ResizeFewestLaw : Type 0
ResizeFewestLaw = (old new : Handles) (handle size flags answer : ℕ) → AreHandles old → GlobalReAllocs old handle size flags answer new → ReallocFewest old handle size flags answer new

-- one whose bytes a single selector reaches then keeps its handle
abbrev pub OneSlotLaw : Type 0
OneSlotLaw = (old new : Handles) (handle size flags answer : ℕ) → AreHandles old → GlobalReAllocs old handle size flags answer new → rounded_size size ≤ REACH → answer ≢ 0 → answer ≡ handle

-- a handle's object is another at another size: so many bytes, the old ones first, and its kind and its locks
abbrev pub HasNewSize : Handles → ℕ → Bool → ℕ → Object → Type 0
HasNewSize handles handle zero n before = IsSomeAnd (slot_of_handle handles handle) (λ slot. IsSomeAnd (object_at handles.heap slot) (IsResized zero n before))

-- a reallocation to a size above 0 that isn't NULL gives the object this size, rounded up, under the handle that it answers
abbrev pub SizeLaw : Type 0
SizeLaw = (old new : Handles) (handle slot size flags : ℕ) (o : Object) (answer : ℕ) → AreHandles old → IsNamed old handle slot o → has_flag flags GMEM_MODIFY ≡ false → 0 < size → answer ≢ 0
    → GlobalReAllocs old handle size flags answer new → HasNewSize new answer (realloc_options flags).zero (rounded_size size) o
