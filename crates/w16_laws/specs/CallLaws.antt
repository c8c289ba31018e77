-- What each step on handles keeps, counts and orders, and what a reallocation does to handles, where no code stands on it. None of these
-- laws says what the definitions of the calls say: each counts, lists and compares once more.
use Rattle.std.specs.Prelude.{◌==◌, ◌≡◌, ◌≢◌, ℕ, ◌<◌, ◌↔◌, Bool, true, false, if◌then◌else◌, List, ◌∷◌, length, sum_by, AllPairs, Some, None, is_some, option_map, unwrap_or, ◌/◌, map, ◌⊎◌, not}
use Rattle.w16_model.specs
use Rattle.w16_model.specs.Commands.Command.{GlobalAlloc, GlobalLock, GlobalCompact, GlobalLRUNewest, GlobalLRUOldest, Read, Write}
use specs.Calls.{Answer, HandleStep, AnswersAlloc, rounded_size, is_shared, has_flag}
use specs.CallLaws.{IsAbout, next_slot, may_change, KeepsContents, IsNewestOf, OnlyLeave}
use specs.{Heap.Heap, Heap.Object, Heap.object_at, Heap.bytes_at, Heap.is_in_order, Handles.Handles, Handles.slot_of_handle, Handles.slots_for, Far.FarAnswer.Bytes, Far.FarAnswer.Done, Outcomes.Call, Outcomes.CallStep, Outcomes.counts_moved, Outcomes.Call.Calls, Outcomes.Call.ReAllocs}
use specs.{Reallocation.without_all, Far.FarAnswer, Resizes.GlobalReAllocs, Resizes.CanExtend, Discards.is_member, Changes.without, Law.StandsStill, Law.AreHandles, Law.FarStep, Calls.Answer.Word, declared.TheConstants.GMEM_NOCOMPACT}
use Rattle.std.specs.FinMap as finmap

-- What is kept.

-- a call that may change no address, no byte and no share bit changes none
abbrev pub ContentsLaw : Type 0
ContentsLaw = (old new : Handles) (call : Call) (answer : Answer) → AreHandles old → may_change call ≡ false → CallStep old call answer new → KeepsContents old new

-- The bytes moved.

-- an object has bytes before and after, at two addresses, where `next` says each object's slot after it
abbrev pub IsMoved : Heap → Heap → (ℕ → ℕ) → ℕ → Type 0
IsMoved old new next q = (from : ℕ) × (to : ℕ) × (finmap.get old.places q ≡ Some from) × (finmap.get new.places (next q) ≡ Some to) × (from ≢ to)

abbrev pub size_at : Heap → ℕ → ℕ
size_at heap q = unwrap_or (option_map length (bytes_at heap q)) 0

-- n is the sum of the sizes of all such, each counted once
pub record IsSumOfMoved (old new : Heap) (next : ℕ → ℕ) (n : ℕ) : Type 0 where
  pub ids : List ℕ
  pub once : AllPairs (λ a b. a ≡ b → ⊥) ids
  pub each : (q : ℕ) → (is_member q ids ≡ true) ↔ IsMoved old new next q
  pub sum : n ≡ sum_by (size_at old) ids

-- the three calls that count set it, to 0 where they are refused; no other call changes it
pub record CountsMoved (old : Handles) (call : Call) (answer : Answer) (new : Handles) : Type 0 where
  pub counted : counts_moved call ≡ true → IsSumOfMoved old.heap new.heap (next_slot old call answer new) new.moved
  pub refused : counts_moved call ≡ true → answer ≡ Word 0 → new.moved ≡ 0
  pub other : counts_moved call ≡ false → new.moved ≡ old.moved

abbrev pub MovedLaw : Type 0
MovedLaw = (old new : Handles) (call : Call) (answer : Answer) → AreHandles old → CallStep old call answer new → CountsMoved old call answer new

-- The order of use.

-- an object is the oldest, and the others stand as they did
abbrev pub IsOldestOf : ℕ → List ℕ → List ℕ → Type 0
IsOldestOf id old new = new ≡ id ∷ without id old

-- of an object in the order, locked or not: a lock that is counted and GlobalLRUNewest make it the newest, GlobalLRUOldest the oldest
abbrev pub UseLaw : Type 0
UseLaw = (old new : Handles) (handle slot : ℕ) (o : Object) (answer : Answer) → AreHandles old → slot_of_handle old handle ≡ Some slot → object_at old.heap slot ≡ Some o → is_in_order (Some o) ≡ true
    → (o.locks < 255 → HandleStep old (GlobalLock handle) answer new → IsNewestOf slot old.heap.order new.heap.order)
    × (HandleStep old (GlobalLRUNewest handle) answer new → IsNewestOf slot old.heap.order new.heap.order)
    × (HandleStep old (GlobalLRUOldest handle) answer new → IsOldestOf slot old.heap.order new.heap.order)

-- an allocated object is the newest of those that are left, where it is in the order
abbrev pub NewObjectLaw : Type 0
NewObjectLaw = (old new : Handles) (flags size handle : ℕ) → AreHandles old → (a : AnswersAlloc old flags size handle new) → is_in_order (object_at new.heap a.slot) ≡ true
    → (left : List ℕ) × OnlyLeave new.heap old.heap.order left × IsNewestOf a.slot left new.heap.order

-- whether a call may give an object another place
abbrev pub may_order : Call → Bool
may_order (Calls (GlobalAlloc flags size)) = true
may_order (Calls (GlobalLock handle)) = true
may_order (Calls (GlobalLRUNewest handle)) = true
may_order (Calls (GlobalLRUOldest handle)) = true
may_order (Calls command) = false
may_order (ReAllocs handle size flags) = true

-- every other call only takes out what has no bytes any more
abbrev pub UnorderedLaw : Type 0
UnorderedLaw = (old new : Handles) (call : Call) (answer : Answer) → AreHandles old → may_order call ≡ false → CallStep old call answer new → OnlyLeave new.heap old.heap.order new.heap.order

-- All that stay stand as they did, except an object that the step is about, or one that comes new; `next` says each object's slot after it.
abbrev pub OthersStand : (ℕ → Type 0) → (ℕ → ℕ) → Heap → Heap → Type 0
OthersStand is_about next old new =
    OnlyLeave new old.order new.order
    ⊎ ((id : ℕ) × (is_about id ⊎ (object_at old id ≡ None)) × OnlyLeave new (without id old.order) (without (next id) new.order))

-- every call leaves those that it isn't about standing as they did
abbrev pub OthersOrderLaw : Type 0
OthersOrderLaw = (old new : Handles) (call : Call) (answer : Answer) → AreHandles old → CallStep old call answer new → OthersStand (IsAbout old call) (next_slot old call answer new) old.heap new.heap

-- Objects that a call isn't about.

-- an object that a call isn't about keeps its attributes: who shares it, whose it is and how many slots it has
abbrev pub AttributesLaw : Type 0
AttributesLaw = (old new : Handles) (call : Call) (answer : Answer) (q : ℕ) → AreHandles old → CallStep old call answer new → is_some (object_at old.heap q) ≡ true → (IsAbout old call q → ⊥) → finmap.get new.attributes q ≡ finmap.get old.attributes q

-- whether a call may move objects that it isn't about: one that asks for room, without GMEM_NOCOMPACT
abbrev pub may_move_others : Call → Bool
may_move_others (Calls (GlobalAlloc flags size)) = not (has_flag flags GMEM_NOCOMPACT)
may_move_others (Calls (GlobalCompact size)) = true
may_move_others (Calls command) = false
may_move_others (ReAllocs handle size flags) = not (has_flag flags GMEM_NOCOMPACT)

-- every other call leaves them where they stand
abbrev pub StillLaw : Type 0
StillLaw = (old new : Handles) (call : Call) (answer : Answer) (q : ℕ) → AreHandles old → CallStep old call answer new → may_move_others call ≡ false → is_some (object_at old.heap q) ≡ true → (IsAbout old call q → ⊥) → StandsStill old.heap new.heap q

-- Far accesses.

-- what was written is read back
abbrev pub ReadBackLaw : Type 0
ReadBackLaw = (old mid new : Handles) (pointer : ℕ) (slice : List ℕ) (answer : FarAnswer) → AreHandles old → FarStep old (Write pointer slice) Done mid → FarStep mid (Read pointer (length slice)) answer new → answer ≡ Bytes slice

-- GlobalReAlloc.

-- where GlobalReAlloc is NULL the heap is the same
abbrev pub NullLaw : Type 0
NullLaw = (old new : Handles) (handle size flags : ℕ) → AreHandles old → GlobalReAllocs old handle size flags 0 new → new.heap ≡ old.heap

-- the old handle is bad once there is another
abbrev pub OldHandleLaw : Type 0
OldHandleLaw = (old new : Handles) (handle size flags answer : ℕ) → AreHandles old → GlobalReAllocs old handle size flags answer new → answer ≢ 0 → answer ≢ handle → slot_of_handle new handle ≡ None

-- an object keeps its handle where its own slots and those directly after them are enough
abbrev pub ExtendedLaw : Type 0
ExtendedLaw = (old new : Handles) (handle size flags answer slot : ℕ) → AreHandles old → GlobalReAllocs old handle size flags answer new → slot_of_handle old handle ≡ Some slot
    → CanExtend old slot (slots_for (rounded_size size)) → answer ≢ 0 → answer ≡ handle

-- at another handle it is shared with other tasks as it was
abbrev pub SharedLaw : Type 0
SharedLaw = (old new : Handles) (handle size flags answer slot : ℕ) → AreHandles old → GlobalReAllocs old handle size flags answer new → slot_of_handle old handle ≡ Some slot
    → answer ≢ 0 → answer ≢ handle → is_shared new (answer / 8) ≡ is_shared old slot

-- and one in the order of use keeps its place there: the order has its new slot where the old one stood, and has lost what was discarded
abbrev pub PlaceLaw : Type 0
PlaceLaw = (old new : Handles) (handle size flags answer slot : ℕ) → AreHandles old → GlobalReAllocs old handle size flags answer new → slot_of_handle old handle ≡ Some slot
    → answer ≢ 0 → answer ≢ handle → is_member slot old.heap.order ≡ true
    → (gone : List ℕ) × ((q : ℕ) → is_member q gone ≡ true → bytes_at new.heap q ≡ None)
    × (new.heap.order ≡ map (λ q. if q == slot then answer / 8 else q) (without_all gone old.heap.order))
