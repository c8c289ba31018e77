-- Fewest discards, which no allocator promises: what it means is told by arrangements alone, every way in which the loose blocks may slide.
use Rattle.w16_model.specs
use Rattle.std.specs.Prelude.{◌≡◌, ◌≢◌, ℕ, ◌-◌, ◌<◌, ◌≤◌, ◌⊎◌, Bool, true, false, ◌==◌, MatchBool, take, Option, Some, None}
use specs.Request.{Allocates, Compacts, eligible_count}
use specs.Handles.{Handles, handle_of}
use specs.Calls.{GlobalAllocs, GlobalCompacts, IsEmptyFixed, IsTooLong, HasNoSlots, kind_asked, alloc_options, rounded_size}
use specs.{declared.Kind.Kind, declared.RoomOptions.RoomOptions, Gap.IsHole, Arrangement.IsLongestStretch, Discards.eligible, Discards.blocks_without, Heap.Heap, Heap.IsHeap, Heap.blocks, Law.NoStretch, Law.KeepsOthers, Law.AreHandles}

-- whichever way the others slide once the first j that may be are discarded, no n bytes in a row are free; h isn't counted
abbrev pub HasNoStretch : Heap → ℕ → Option ℕ → ℕ → Type 0
HasNoStretch heap j h n = NoStretch heap.lo heap.hi (blocks heap) heap.order j h n

-- the first so many that may be were discarded, and no other object; and no fewer would have made n bytes free
pub record DiscardsFewest (old : Heap) (h : Option ℕ) (n : ℕ) (new : Heap) : Type 0 where
  pub count : ℕ
  pub others : KeepsOthers old h count new
  pub fewer : (j : ℕ) → j < count → HasNoStretch old j h n

-- Why there is no room for n bytes. With GMEM_NOCOMPACT no hole is as long; else no way to slide the others makes so many free, and without
-- GMEM_NODISCARD none does whatever is discarded.
pub record LacksRoom (heap : Heap) (h : Option ℕ) (n : ℕ) (options : RoomOptions) : Type 0 where
  pub hole : options.compact ≡ false → (a b : ℕ) → IsHole heap.lo heap.hi (blocks heap) a b → b - a < n
  pub slides : options.compact ≡ true → HasNoStretch heap 0 h n
  pub discards : options.compact ≡ true → options.discard ≡ true → (j : ℕ) → HasNoStretch heap j h n

-- An allocation discards as few as it can, and none where it may not; it is refused only where there is no room, and then it discards none.
pub record AllocatesFewest (old : Heap) (id n : ℕ) (options : RoomOptions) (answered : Bool) (new : Heap) : Type 0 where
  pub fewest : answered ≡ true → DiscardsFewest old (Some id) n new
  pub without : answered ≡ true → (options.compact ≡ false) ⊎ (options.discard ≡ false) → KeepsOthers old (Some id) 0 new
  pub refused : answered ≡ false → LacksRoom old (Some id) n options × (new ≡ old)

-- the length of the longest free stretch of any arrangement of what is left once the first k that may be are discarded
abbrev pub IsMostAfter : Heap → ℕ → ℕ → Type 0
IsMostAfter heap k n = IsLongestStretch heap.lo heap.hi (blocks_without (blocks heap) (take k (eligible (blocks heap) heap.order None)) None) n

-- A compaction for n bytes discards as few as it can, or all that may be where no number is enough, and answers the most that sliding then
-- makes free in a row: a hole that is there now.
pub record MakesMost (old : Heap) (n answer : ℕ) (new : Heap) : Type 0 where
  pub discards : DiscardsFewest old None n new
  pub most : IsMostAfter old discards.count answer
  pub enough : (n ≤ answer) ⊎ (discards.count ≡ eligible_count old)
  pub free : 0 < answer → (a : ℕ) × (b : ℕ) × IsHole new.lo new.hi (blocks new) a b × (b - a ≡ answer)

-- for 0 bytes it discards nothing, and answers the most that could be made free
abbrev pub CompactsFewest : Heap → ℕ → ℕ → Heap → Type 0
CompactsFewest old n answer new = MatchBool (n == 0) (IsMostAfter old (eligible_count old) answer × (new ≡ old)) (MakesMost old n answer new)

-- GlobalAlloc: where it answers a handle, that of an object with bytes, it has discarded as few as it can; where it answers 0 it has
-- discarded none, and there was no room, unless it was refused for something else.
pub record AllocFewest (old : Handles) (flags size handle : ℕ) (new : Handles) : Type 0 where
  pub answered : handle ≢ 0 → 0 < size → (slot : ℕ) × (handle ≡ handle_of (kind_asked flags) slot) × AllocatesFewest old.heap slot (rounded_size size) (alloc_options flags) true new.heap
  pub refused : handle ≡ 0 → (new.heap ≡ old.heap) × (IsEmptyFixed flags size ⊎ IsTooLong size ⊎ HasNoSlots old size ⊎ LacksRoom old.heap None (rounded_size size) (alloc_options flags))

-- The laws.

abbrev pub AllocationLaw : Type 0
AllocationLaw = (old new : Heap) (id n : ℕ) (kind : Kind) (locks : ℕ) (options : RoomOptions) (answered : Bool) → IsHeap old → Allocates old id n kind locks options answered new → AllocatesFewest old id n options answered new

abbrev pub CompactionLaw : Type 0
CompactionLaw = (old new : Heap) (n answer : ℕ) → IsHeap old → Compacts old n answer new → CompactsFewest old n answer new

abbrev pub GlobalAllocLaw : Type 0
GlobalAllocLaw = (old new : Handles) (flags size handle : ℕ) → AreHandles old → GlobalAllocs old flags size handle new → AllocFewest old flags size handle new

abbrev pub GlobalCompactLaw : Type 0
GlobalCompactLaw = (old new : Handles) (size answer : ℕ) → AreHandles old → GlobalCompacts old size answer new → CompactsFewest old.heap size answer new.heap
