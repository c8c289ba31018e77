-- Local calls for room discard as few objects of their heap as they can, in the words of the arrangements of its blocks.
use Rattle.w16_machine.specs
use Rattle.std.specs.Prelude.{◌≡◌, ◌≢◌, ℕ, ◌<◌, ◌⊎◌, true, false, length, Some, None, IsSomeAnd}
use Rattle.w16_model.specs.Reallocation.{LacksPlace, ReallocatesFewest}
use Rattle.w16_model.specs.{declared.RoomOptions.RoomOptions, Heap.Heap, Heap.object_at, Heap.size_of, Calls.has_flag, Fewest.AllocatesFewest, Fewest.CompactsFewest, Fewest.LacksRoom, Ends.ending, Handles.Handles, Handles.slot_of_handle, Resizes.GlobalReAllocs}
use specs.Local.{LocalHeap, LocalObject, heap_of, local_in, current_heap, object_named, name_at, rounded_up}
use specs.LocalGrowth.{IsLongerSize, Lengthens, growth_flags, longer, with_longer}
use specs.LocalCalls.{LocalAllocs, LocalReallocs, LocalCompacts, IsEmptyFixed, HasNoEntry, local_options}
use specs.{declared.local.TheConstants.LMEM_MODIFY, World.World, LocalLaw.KeepsRest, Law.AreLocalHeaps}
use Rattle.w16_model.specs.CallLaws as resizes

-- what is so of the heap that a call leaves in a segment
abbrev pub Left : World → LocalHeap → (Heap → Type 0) → Type 0
Left new at P = IsSomeAnd (local_in new at.slot) (λ after. P (heap_of after))

-- Where a heap has grown, which ended where its segment did, and others might be moved. Here `lacks` says of a heap that the request has no room in
-- it: so it has none in the heap as it was, nor in any that ends at a size of the segment below the one that it got; and of that one the other thing
-- is so. The growth is a request for the segment, which discards as few as it can, and the call keeps the rest of what that leaves.
pub record GrowsFewest (old : World) (at : LocalHeap) (options : RoomOptions) (new : World) (lacks so : Heap → Type 0) : Type 0 where
  pub may : options.compact ≡ true
  pub ends : at.table.hi ≡ length at.bytes
  pub size : ℕ
  pub longer_size : IsLongerSize at size
  pub now : lacks (heap_of at)
  pub less : (e : ℕ) → IsLongerSize at e → e < size → lacks (ending (heap_of at) e)
  pub serves : so (ending (heap_of at) size)
  pub lengthens : Lengthens old at options size
  pub fewest : resizes.ReallocFewest old.loading.handles lengthens.handle size (growth_flags options) lengthens.answer lengthens.handles
  pub rest : KeepsRest (with_longer old lengthens.handles (longer at size lengthens.bytes)) new

-- a segment isn't lengthened to a size: by a request that is NULL, though it discards as few as it can
abbrev pub IsRefusedSize : World → LocalHeap → RoomOptions → ℕ → Type 0
IsRefusedSize old at options size = (handle : ℕ) → slot_of_handle old.loading.handles handle ≡ Some at.slot
    → (handles : Handles) × GlobalReAllocs old.loading.handles handle size (growth_flags options) 0 handles × resizes.ReallocFewest old.loading.handles handle size (growth_flags options) 0 handles

-- Why a heap doesn't grow, where others may be moved and it ends where its segment does: at every size the request would lack room, or the segment
-- doesn't get the least size at which it would have some.
abbrev pub LacksGrowth : World → LocalHeap → RoomOptions → (Heap → Type 0) → Type 0
LacksGrowth old at options lacks = options.compact ≡ true → at.table.hi ≡ length at.bytes
    → ((e : ℕ) → IsLongerSize at e → lacks (ending (heap_of at) e))
    ⊎ ((size : ℕ) × IsLongerSize at size × ((e : ℕ) → IsLongerSize at e → e < size → lacks (ending (heap_of at) e)) × IsRefusedSize old at options size)

-- LocalAlloc: where it answers the name of an object with bytes, it has discarded as few as it can, in the heap as it was or once it has grown;
-- where it answers 0, nothing has changed, and there was no room and no growth to be had, unless it was refused for something else.
abbrev pub AllocatedFewest : Heap → World → LocalHeap → ℕ → ℕ → RoomOptions → ℕ → Type 0
AllocatedFewest heap new at id n options answer = Left new at (λ next. (name_at next id ≡ Some answer) × AllocatesFewest heap id n options true next)

pub record AllocFewest (old : World) (at : LocalHeap) (flags size answer : ℕ) (new : World) : Type 0 where
  pub answered : answer ≢ 0 → 0 < size → (id : ℕ)
      × (AllocatedFewest (heap_of at) new at id (rounded_up size) (local_options flags) answer
      ⊎ GrowsFewest old at (local_options flags) new (λ heap. LacksRoom heap None (rounded_up size) (local_options flags)) (λ heap. AllocatedFewest heap new at id (rounded_up size) (local_options flags) answer))
  pub refused : answer ≡ 0 → (new ≡ old)
      × (IsEmptyFixed flags size ⊎ HasNoEntry (heap_of at)
      ⊎ (LacksRoom (heap_of at) None (rounded_up size) (local_options flags) × LacksGrowth old at (local_options flags) (λ heap. LacksRoom heap None (rounded_up size) (local_options flags))))

-- LocalReAlloc to a size above 0: as few, and refused only where the object would get more bytes and lacks a place for them, and lacks it however
-- the heap might grow
abbrev pub ReallocatedFewest : Heap → World → LocalObject → ℕ → RoomOptions → ℕ → Type 0
ReallocatedFewest heap new o n options answer = Left new o.heap (λ next. (name_at next o.id ≡ Some answer)
    × IsSomeAnd (object_at heap o.id) (λ before. ReallocatesFewest heap o.id n before options true next))

abbrev pub LacksBytes : LocalObject → ℕ → RoomOptions → Heap → Type 0
LacksBytes o n options heap = IsSomeAnd (object_at heap o.id) (λ before. (size_of before < n) × LacksPlace heap o.id n before options)

pub record ReallocFewest (old : World) (o : LocalObject) (size flags answer : ℕ) (new : World) : Type 0 where
  pub answered : answer ≢ 0 → ReallocatedFewest (heap_of o.heap) new o (rounded_up size) (local_options flags) answer
      ⊎ GrowsFewest old o.heap (local_options flags) new (LacksBytes o (rounded_up size) (local_options flags)) (λ heap. ReallocatedFewest heap new o (rounded_up size) (local_options flags) answer)
  pub refused : answer ≡ 0 → (new ≡ old) × LacksBytes o (rounded_up size) (local_options flags) (heap_of o.heap) × LacksGrowth old o.heap (local_options flags) (LacksBytes o (rounded_up size) (local_options flags))

-- The laws. Each call for room does so, in whichever heap DS names; LocalCompact answers the longest free stretch of any arrangement of what
-- it leaves.
abbrev pub AllocLaw : Type 0
AllocLaw = (old new : World) (flags size answer : ℕ) (at : LocalHeap) → AreLocalHeaps old → LocalAllocs old flags size answer new → current_heap old ≡ Some at → AllocFewest old at flags size answer new

abbrev pub ReallocLaw : Type 0
ReallocLaw = (old new : World) (name size flags answer : ℕ) (o : LocalObject) → AreLocalHeaps old → LocalReallocs old name size flags answer new → object_named old name ≡ Some o
    → has_flag flags LMEM_MODIFY ≡ false → 0 < size → ReallocFewest old o size flags answer new

abbrev pub CompactLaw : Type 0
CompactLaw = (old new : World) (size answer : ℕ) (at : LocalHeap) → AreLocalHeaps old → LocalCompacts old size answer new → current_heap old ≡ Some at → Left new at (CompactsFewest (heap_of at) size answer)
