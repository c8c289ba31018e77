-- Which object of a module's may be revived, and where there is no slot for a new one.
use Rattle.std.specs.Prelude.{◌≡◌, ℕ, ◌/◌, true, Some, None}
use Rattle.w16_model.specs.{Handles.Handles, Handles.IsFreeSlot, Handles.slot_of_handle, Heap.bytes_at, Owned.is_owned}

-- a handle names an object that a module owns and that has no bytes
pub record LacksBytes (handles : Handles) (handle : ℕ) : Type 0 where
  pub named : slot_of_handle handles handle ≡ Some (handle / 8)
  pub owned : is_owned handles (handle / 8) ≡ true
  pub without_bytes : bytes_at handles.heap (handle / 8) ≡ None

-- no slot is free
abbrev pub HasNoSlot : Handles → Type 0
HasNoSlot handles = (slot : ℕ) → IsFreeSlot handles slot → ⊥
