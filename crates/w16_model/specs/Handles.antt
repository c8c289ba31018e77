-- Handles: a global heap whose objects are named by handles and reached by selectors.
use Rattle.w16_model.specs
use Rattle.std.specs.Prelude.{◌≡◌, ℕ, ◌+◌, ◌-◌, ◌*◌, ◌/◌, ◌%◌, ◌<◌, ◌≤◌, ◌&&◌, ◌==◌, if◌then◌else◌, nat_le, nat_lt, max, min, Bool, is_some, option_map, unwrap_or, Option, Some, None}
use Rattle.std.specs.{List.find, Ordering.nat_cmp, FinMap.FinMap}
use specs.declared.Kind.TheVariants.{Fixed, Moveable, Discardable}
use specs.declared.TheConstants.{FIRST_SLOT, REACH}
use specs.Heap.{Heap, object_at}
use specs.{declared.Kind.Kind, declared.Attributes.Attributes}
use Rattle.std.specs.FinMap as finmap

-- An object's id in the heap is its slot, of which there are so many, numbered from the first one on. It has so many slots in a row as its
-- attributes say: its run, which begins at that slot.
pub record Handles : Type 0 where
  pub slots : ℕ
  pub heap : Heap
  pub attributes : FinMap nat_cmp Attributes
  -- the bytes that the last allocation or compaction moved (profile)
  pub moved : ℕ

abbrev pub IsSlot : Handles → ℕ → Type 0
IsSlot handles slot = (FIRST_SLOT ≤ slot) × (slot < FIRST_SLOT + handles.slots)

-- how many slots an object has, none where there is no object
abbrev pub slots_at : FinMap nat_cmp Attributes → ℕ → ℕ
slots_at attributes slot = unwrap_or (option_map (λ (a : Attributes). a.slots) (finmap.get attributes slot)) 0

-- whether a slot is in a run
abbrev pub has_slot : ℕ → ℕ × Attributes → Bool
has_slot slot e = nat_le e.0 slot && nat_lt slot (e.0 + e.1.slots)

-- the object in whose run a slot is
abbrev pub owner_of : FinMap nat_cmp Attributes → ℕ → Option ℕ
owner_of attributes slot = option_map (λ (e : ℕ × Attributes). e.0) (find (has_slot slot) (finmap.entries attributes))

-- a slot that no object has, and so many of them in a row
abbrev pub IsFreeSlot : Handles → ℕ → Type 0
IsFreeSlot handles slot = IsSlot handles slot × (owner_of handles.attributes slot ≡ None)

abbrev pub IsFreeRun : Handles → ℕ → ℕ → Type 0
IsFreeRun handles first count = (k : ℕ) → k < count → IsFreeSlot handles (first + k)

abbrev pub HasNoRun : Handles → ℕ → Type 0
HasNoRun handles count = (first : ℕ) → IsFreeRun handles first count → ⊥

-- how many slots an object of so many bytes needs: at least one
abbrev pub slots_for : ℕ → ℕ
slots_for size = max 1 ((size + (REACH - 1)) / REACH)

-- A slot's selector is its number eight times, and its low three bits are set (profile: a local descriptor of the least privilege).
abbrev pub selector_of : ℕ → ℕ
selector_of slot = 8 * slot + 7

-- A fixed object's handle is its selector; a moveable or discardable one's has the low bit clear (profile).
abbrev pub handle_of : Kind → ℕ → ℕ
handle_of Fixed slot = 8 * slot + 7
handle_of Moveable slot = 8 * slot + 6
handle_of Discardable slot = 8 * slot + 6

-- the slot of the object whose handle this is: a call takes the exact handle
abbrev pub slot_of_handle : Handles → ℕ → Option ℕ
slot_of_handle handles handle = elim (object_at handles.heap (handle / 8)) [
  | Some o ↦ if handle == handle_of o.kind (handle / 8) then Some (handle / 8) else None
  | None ↦ None
]

-- What a selector reaches: an object, by its slot, and which of the object's selectors it is, from 0.
pub record Part : Type 0 where
  pub slot : ℕ
  pub number : ℕ

abbrev pub part_of_selector : Handles → ℕ → Option Part
part_of_selector handles selector = if selector == selector_of (selector / 8) then option_map (λ slot. record { slot = slot; number = selector / 8 - slot }) (owner_of handles.attributes (selector / 8)) else None

-- how many bytes of an object of this size it reaches
abbrev pub reached : ℕ → Part → ℕ
reached size p = min REACH (size - REACH * p.number)

-- the slot of the object whose first selector this is
abbrev pub slot_of_selector : Handles → ℕ → Option ℕ
slot_of_selector handles selector = if is_some (object_at handles.heap (selector / 8)) && (selector == selector_of (selector / 8)) then Some (selector / 8) else None

-- a double word of two words
abbrev pub dword_of : ℕ → ℕ → ℕ
dword_of high low = 65536 * high + low

-- A far pointer is a double word: a selector in its high word, an offset in its low one.
abbrev pub far_pointer : ℕ → ℕ → ℕ
far_pointer selector offset = dword_of selector offset

abbrev pub selector_in : ℕ → ℕ
selector_in pointer = pointer / 65536

abbrev pub offset_in : ℕ → ℕ
offset_in pointer = pointer % 65536

-- an answer and what it leaves are this outcome
abbrev pub Gives : {A : Type 0} → A × Handles → A → Handles → Type 0
Gives outcome answer new = (answer ≡ outcome.0) × (new ≡ outcome.1)
