-- Heaps whose range ends later: from which end on a request is answered. What stands in the heap stays.
use Rattle.std.specs.Prelude.{ℕ, Bool, not, ◌&&◌, ◌||◌, if◌then◌else◌, nat_le, length, Some, None, is_some}
use Rattle.w16_model.specs.{declared.RoomOptions.RoomOptions, Discards.fits_in_place, Discards.growth_for, Heap.Heap, Heap.Object, Heap.object_at, Heap.is_pinned_object, Request.discards_needed, Request.snapshot_of}

-- the heap with another end
abbrev pub ending : Heap → ℕ → Heap
ending heap end = record heap { hi = end }

-- Whether an id gets n bytes: by an allocation or a revival, where it has none; by a cut, where it has as many or more; else by growing, in place where
-- it may not move.
abbrev pub is_grown : Heap → ℕ → Object → ℕ → RoomOptions → Bool
is_grown heap id o n options = if is_pinned_object o && not options.may_move then fits_in_place (snapshot_of heap) n id else is_some (growth_for (snapshot_of heap) n id options)

abbrev pub is_resized : Heap → ℕ → Object → ℕ → RoomOptions → Bool
is_resized heap id o n options = elim o.bytes [
  | None ↦ is_some (discards_needed heap n (Some id) options)
  | Some bytes ↦ nat_le n (length bytes) || is_grown heap id o n options
]

abbrev pub is_answered : Heap → ℕ → ℕ → RoomOptions → Bool
is_answered heap id n options = elim (object_at heap id) [
  | None ↦ is_some (discards_needed heap n (Some id) options)
  | Some o ↦ is_resized heap id o n options
]
