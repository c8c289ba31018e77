-- Far accesses: bytes at selector:offset.
use Rattle.w16_model.specs
use Rattle.std.specs.Prelude.{ℕ, ◌+◌, ◌*◌, Bool, ◌||◌, if◌then◌else◌, nat_lt, List, [], length, unwrap_or, Option, Some, None, option_map}
use specs.declared.FarFault.TheVariants.{BadSelector, ReadOnly, NotPresent, Limit}
use specs.Commands.{Command, Family.OfFar}
use specs.Commands.Command.{Read, Write, Fill}
use specs.Handles.{Handles, Part, part_of_selector}
use specs.{declared.FarFault.FarFault, Bytes.part, Bytes.put_part, Heap.Heap, Heap.bytes_at, Changes.update, OneObject.after_touch, Owned.refuses_write, declared.TheConstants.REACH}

-- the far pointer that an access has
abbrev pub pointer_in : Command OfFar → ℕ
pointer_in (Read pointer count) = pointer
pointer_in (Write pointer bytes) = pointer
pointer_in (Fill pointer count byte) = pointer

-- what an access answers
pub data FarAnswer : Type 0 where
  Bytes : (bytes : List ℕ) → FarAnswer
  Done : FarAnswer
  Fault : (fault : FarFault) → FarAnswer

-- An access is to n bytes at selector:offset. An answered one, of no bytes too, makes a discardable object the newest.

-- whether an access up to an end goes past what a selector reaches of an object of this size: past the reach itself, or past the object
abbrev pub is_past : ℕ → Part → ℕ → Bool
is_past size p end = nat_lt REACH end || nat_lt size (REACH * p.number + end)

-- the first fault that a read meets: a selector of no object, an object without bytes, or bytes that the selector doesn't reach
abbrev pub far_fault : Handles → ℕ → ℕ → ℕ → Option FarFault
far_fault handles selector offset n = elim (part_of_selector handles selector) [
  | None ↦ Some BadSelector
  | Some p ↦ elim (bytes_at handles.heap p.slot) [
    | None ↦ Some NotPresent
    | Some bytes ↦ if is_past (length bytes) p (offset + n) then Some Limit else None
  ]
]

-- the object that an access reaches, where there is no fault, the place in it, and its bytes
abbrev pub far_part : Handles → ℕ → Part
far_part handles selector = unwrap_or (part_of_selector handles selector) (record { slot = 0; number = 0 })

abbrev pub far_slot : Handles → ℕ → ℕ
far_slot handles selector = (far_part handles selector).slot

abbrev pub far_at : Handles → ℕ → ℕ → ℕ
far_at handles selector offset = REACH * (far_part handles selector).number + offset

abbrev pub far_bytes : Handles → ℕ → List ℕ
far_bytes handles selector = unwrap_or (bytes_at handles.heap (far_slot handles selector)) []

-- Read
abbrev pub far_read : Handles → ℕ → ℕ → ℕ → FarAnswer × Handles
far_read old selector offset n = elim (far_fault old selector offset n) [
  | Some fault ↦ (Fault fault, old)
  | None ↦ (Bytes (part (far_bytes old selector) (far_at old selector offset) n), record old { heap = after_touch old.heap (far_slot old selector) })
]

-- the heap with an object's bytes from a place on replaced
abbrev pub after_write : Heap → ℕ → ℕ → List ℕ → Heap
after_write heap slot at slice = record heap { objects = update heap.objects slot (λ o. record o { bytes = option_map (λ bytes. put_part bytes at slice) o.bytes }) }

-- Write to an object that may be written; Fill is a write of one byte many times
abbrev pub data_write : Handles → ℕ → ℕ → List ℕ → FarAnswer × Handles
data_write old selector offset slice = elim (far_fault old selector offset (length slice)) [
  | Some fault ↦ (Fault fault, old)
  | None ↦ (Done, record old { heap = after_touch (after_write old.heap (far_slot old selector) (far_at old selector offset) slice) (far_slot old selector) })
]

-- Write; code can't be written, with bytes or without
abbrev pub far_write : Handles → ℕ → ℕ → List ℕ → FarAnswer × Handles
far_write old selector offset slice = if refuses_write old selector then (Fault ReadOnly, old) else data_write old selector offset slice
