-- Local heaps that grow: a request that finds no room in a heap whose range ends where its segment does is answered once the segment has more
-- bytes, and the heap ends later with it.
use Rattle.std.specs.Prelude.{◌≡◌, ◌≢◌, ℕ, ◌<◌, ◌≤◌, ◌⊎◌, true, if◌then◌else◌, List, length, Some}
use Rattle.w16_model.specs.{declared.RoomOptions.RoomOptions, declared.TheConstants.GRAIN, declared.TheConstants.GMEM_NODISCARD, Heap.IsMultiple, Heap.bytes_at, Ends.ending, Ends.is_answered, Handles.Handles, Handles.slot_of_handle, Resizes.GlobalReAllocs}
use Rattle.w16_machine.specs.{declared.local.TheConstants.LAST_LOCAL_END, World.World, Local.LocalHeap, Local.heap_of, Local.left_in}
use Rattle.w16_loading.specs.Modules.{with_handles}
use Rattle.std.specs.FinMap as finmap

-- a size that the segment of a heap may get: whole grains of the global heap, more bytes than it has, and no more than near pointers reach
pub record IsLongerSize (at : LocalHeap) (size : ℕ) : Type 0 where
  pub whole : IsMultiple GRAIN size
  pub more : length at.bytes < size
  pub most : size ≤ LAST_LOCAL_END

-- in the range from the heap's start to there the request for n bytes for an entry is answered
pub record IsServedAt (at : LocalHeap) (id n : ℕ) (options : RoomOptions) (size : ℕ) : Type 0 where
  pub longer : IsLongerSize at size
  pub answered : is_answered (ending (heap_of at) size) id n options ≡ true

-- To which size a segment is to grow for a request for which its heap has no room: the least at which it is answered. Others may be moved (no
-- LMEM_NOCOMPACT), and the heap ends where its segment does.
pub record IsGrowth (at : LocalHeap) (id n : ℕ) (options : RoomOptions) (size : ℕ) : Type 0 where
  pub may : options.compact ≡ true
  pub ends : at.table.hi ≡ length at.bytes
  pub served : IsServedAt at id n options size
  pub least : (e : ℕ) → IsServedAt at id n options e → size ≤ e

-- The segment is reallocated to the size as by GlobalReAlloc without flags, or with GMEM_NODISCARD where no object may be discarded
-- (LMEM_NODISCARD).
abbrev pub growth_flags : RoomOptions → ℕ
growth_flags options = if options.discard then 0 else GMEM_NODISCARD

-- and it gets it
pub record Lengthens (old : World) (at : LocalHeap) (options : RoomOptions) (size : ℕ) : Type 0 where
  pub handle : ℕ
  pub named : slot_of_handle old.loading.handles handle ≡ Some at.slot
  pub answer : ℕ
  pub answered : answer ≢ 0
  pub handles : Handles
  pub reallocated : GlobalReAllocs old.loading.handles handle size (growth_flags options) answer handles
  pub bytes : List ℕ
  pub has : bytes_at handles.heap at.slot ≡ Some bytes

-- or that is NULL
abbrev pub IsKeptShort : World → LocalHeap → RoomOptions → ℕ → Type 0
IsKeptShort old at options size = (handle : ℕ) → slot_of_handle old.loading.handles handle ≡ Some at.slot
    → (handles : Handles) × GlobalReAllocs old.loading.handles handle size (growth_flags options) 0 handles

-- the heap, which ends where its longer segment does
abbrev pub longer : LocalHeap → ℕ → List ℕ → LocalHeap
longer at size bytes = record { slot = at.slot; table = record at.table { hi = size }; bytes = bytes }

-- The world with it: the handles are those that the reallocation leaves, but the number of bytes moved stays; the local heaps whose segments lost
-- their range to it are gone.
abbrev pub with_longer : World → Handles → LocalHeap → World
with_longer old handles at = record old {
  loading = with_handles old.loading (record handles { moved = old.loading.handles.moved });
  heaps = finmap.insert (left_in handles.heap old.heaps) at.slot at.table;
}

-- The heap grows for a request, and then this is so of the world and of the heap.
pub record Grows (old : World) (at : LocalHeap) (id n : ℕ) (options : RoomOptions) (so : World → LocalHeap → Type 0) : Type 0 where
  pub size : ℕ
  pub growth : IsGrowth at id n options size
  pub lengthens : Lengthens old at options size
  pub grown : so (with_longer old lengthens.handles (longer at size lengthens.bytes)) (longer at size lengthens.bytes)

-- It doesn't: there is no such size, or the segment doesn't get the least one. No other is tried.
abbrev pub StaysShort : World → LocalHeap → ℕ → ℕ → RoomOptions → Type 0
StaysShort old at id n options = (size : ℕ) → IsGrowth at id n options size → IsKeptShort old at options size

-- what is so of a request that finds no room
abbrev pub OnceLonger : World → LocalHeap → ℕ → ℕ → RoomOptions → (World → LocalHeap → Type 0) → Type 0 → Type 0
OnceLonger old at id n options so refused = (StaysShort old at id n options × refused) ⊎ Grows old at id n options so
