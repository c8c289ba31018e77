-- What a call does to the object that its handle names, and what it answers, where nothing refuses it; and when a far access is answered.
use Rattle.w16_model.specs
use Rattle.std.specs.Prelude.{◌≡◌, ◌≢◌, ℕ, ◌+◌, ◌*◌, ◌-◌, ◌<◌, ◌≤◌, Bool, true, false, if◌then◌else◌, nat_lt, List, length, Some, None, is_some}
use specs.declared.TheConstants.{REACH, GMEM_MOVEABLE, GMEM_MODIFY}
use specs.Heap.{Object, object_at, bytes_at, is_fixed, is_discardable}
use specs.Handles.{Handles, Part, part_of_selector, selector_of, selector_in, offset_in, far_pointer}
use specs.Calls.{Answer, HandleStep, has_flag}
use specs.Calls.Answer.{Word, Dword}
use Rattle.w16_model.specs.Commands.{Command}
use Rattle.w16_model.specs.Commands.Family.{OfFar}
use Rattle.w16_model.specs.Commands.Command.{GlobalFree, GlobalLock, GlobalUnlock, Read, Write, Fill}
use specs.Resizes.{GlobalReAllocs, kind_modified}
use specs.{declared.FarFault.FarFault, Owned.owns, Owned.refuses_write, Outcomes.IsNamed, Far.FarAnswer, Law.FarStep, Far.FarAnswer.Fault, Far.pointer_in, Law.AreHandles}

-- a lock of an object that has bytes and isn't fixed is counted, while fewer than 255 are
abbrev pub LockLaw : Type 0
LockLaw = (old new : Handles) (handle slot : ℕ) (o : Object) (answer : Answer) → IsNamed old handle slot o → is_some o.bytes ≡ true → is_fixed o.kind ≡ false → o.locks < 255
    → HandleStep old (GlobalLock handle) answer new → (object_at new.heap slot ≡ Some (record o { locks = o.locks + 1 })) × (answer ≡ Dword (far_pointer (selector_of slot) 0))

-- an unlock takes one lock, and says whether any are left
abbrev pub UnlockLaw : Type 0
UnlockLaw = (old new : Handles) (handle slot : ℕ) (o : Object) (answer : Answer) → IsNamed old handle slot o → is_fixed o.kind ≡ false
    → HandleStep old (GlobalUnlock handle) answer new → (object_at new.heap slot ≡ Some (record o { locks = o.locks - 1 })) × (answer ≡ Word (if nat_lt 0 (o.locks - 1) then 1 else 0))

-- an object that isn't locked, and that no module owns, is freed
abbrev pub FreeLaw : Type 0
FreeLaw = (old new : Handles) (handle slot : ℕ) (o : Object) (answer : Answer) → IsNamed old handle slot o → owns old handle ≡ false → o.locks ≡ 0
    → HandleStep old (GlobalFree handle) answer new → (object_at new.heap slot ≡ None) × (answer ≡ Word 0)

-- with GMEM_MODIFY an object that isn't fixed gets the kind asked for
abbrev pub ModifyLaw : Type 0
ModifyLaw = (old new : Handles) (handle slot size flags : ℕ) (o : Object) (answer : ℕ) → AreHandles old → IsNamed old handle slot o → owns old handle ≡ false → has_flag flags GMEM_MODIFY ≡ true → is_fixed o.kind ≡ false
    → GlobalReAllocs old handle size flags answer new → (object_at new.heap slot ≡ Some (record o { kind = kind_modified flags })) × (answer ≡ handle)

-- a discardable object that isn't locked loses its bytes to a size of 0
abbrev pub DiscardLaw : Type 0
DiscardLaw = (old new : Handles) (handle slot flags : ℕ) (o : Object) (answer : ℕ) → IsNamed old handle slot o → owns old handle ≡ false → has_flag flags GMEM_MODIFY ≡ false → has_flag flags GMEM_MOVEABLE ≡ true
    → is_discardable o.kind ≡ true → o.locks ≡ 0 → GlobalReAllocs old handle 0 flags answer new → (object_at new.heap slot ≡ Some (record o { bytes = None })) × (answer ≡ handle)

-- how many bytes an access asks for, and whether it writes
abbrev pub count_in : Command OfFar → ℕ
count_in (Read pointer count) = count
count_in (Write pointer bytes) = length bytes
count_in (Fill pointer count byte) = count

abbrev pub writes : Command OfFar → Bool
writes (Read pointer count) = false
writes (Write pointer bytes) = true
writes (Fill pointer count byte) = true

-- an access to bytes that are there, and that the selector reaches, is answered, a write where the object may be written
abbrev pub AnsweredLaw : Type 0
AnsweredLaw = (old new : Handles) (command : Command OfFar) (answer : FarAnswer) (p : Part) (bytes : List ℕ) → part_of_selector old (selector_in (pointer_in command)) ≡ Some p → bytes_at old.heap p.slot ≡ Some bytes
    → offset_in (pointer_in command) + count_in command ≤ REACH → REACH * p.number + (offset_in (pointer_in command) + count_in command) ≤ length bytes → (writes command ≡ true → refuses_write old (selector_in (pointer_in command)) ≡ false)
    → FarStep old command answer new → (fault : FarFault) → answer ≢ Fault fault
