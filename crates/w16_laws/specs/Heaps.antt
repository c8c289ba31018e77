-- What holds of a heap and of its handles, where no code and no other definition stands on it.
use Rattle.std.specs.Prelude.{◌≡◌, ℕ, ◌+◌, ◌-◌, ◌*◌, ◌<◌, ◌≤◌, ◌↔◌, min, List, length, All, AllPairs, Option, Some, None, Bool, not, ◌&&◌, ◌||◌, IsTrue, take}
use Rattle.w16_model.specs
use specs.declared.TheConstants.{FIRST_SLOT, MOST_SLOTS, GRAIN, REACH, LARGEST_SIZE, GMEM_MOVEABLE, GMEM_NOCOMPACT, GMEM_NODISCARD, GMEM_ZEROINIT, GMEM_MODIFY, GMEM_DISCARDABLE, GMEM_DDESHARE, GMEM_DISCARDED}
use specs.Gap.{room, hole_after, loose_bytes, block_end, IsHole, ArePlaced, IsLaid, is_pinned, is_loose, begins_in, Misses, IsClear}
use specs.Discards.{room_for, eligible, is_member, is_about, snapshot}
use specs.Handles.{Handles, dword_of, slots_at, owner_of, handle_of, selector_of}
use Rattle.w16_model.specs.Commands.{Command}
use Rattle.w16_model.specs.Commands.Family.{OfFar}
use Rattle.w16_model.specs.Commands.Command.{GlobalHandle, GetSelectorBase, GetSelectorLimit}
use specs.Law.{AreHandles, IsFarCommand, FarStep, holes, HoleIsLongest}
use specs.{Arrangement.IsGap, Heap.Heap, Heap.Object, Heap.object_at, Request.discarded, Request.snapshot_of, Calls.HandleStep, Calls.IsRefusedAlloc, Calls.AnswersAlloc, Far.FarAnswer, declared.Block.Block, Calls.Answer.Dword, Reallocation.loosened}
use Rattle.std.specs.FinMap as finmap

-- The figures.

-- the figures of the profile, each as it is told to users
pub record AreFigures : Type 0 where
  pub first_slot : FIRST_SLOT ≡ 32
  pub most_slots : MOST_SLOTS ≡ 8160
  pub grain : GRAIN ≡ 32
  pub largest_size : LARGEST_SIZE ≡ 16711680
  pub reach : REACH ≡ 65536

-- the flags of GlobalAlloc and GlobalFlags, as the manual has them (GMEM_DISCARDED: GlobalFlags alone)
pub record AreFlags : Type 0 where
  pub moveable : GMEM_MOVEABLE ≡ 2
  pub nocompact : GMEM_NOCOMPACT ≡ 16
  pub nodiscard : GMEM_NODISCARD ≡ 32
  pub zeroinit : GMEM_ZEROINIT ≡ 64
  pub modify : GMEM_MODIFY ≡ 128
  pub discardable : GMEM_DISCARDABLE ≡ 256
  pub ddeshare : GMEM_DDESHARE ≡ 8192
  pub discarded : GMEM_DISCARDED ≡ 16384

-- Gaps, holes and room.

-- where the blocks are by address, so are the holes, each before the next
abbrev pub RisingLaw : Type 0
RisingLaw = (lo hi : ℕ) (xs : List Block) → IsLaid lo hi xs → AllPairs (λ s t. s.to < t.from) (holes lo hi xs)

-- no hole is longer than the longest, and one is as long
abbrev pub LongestHoleLaw : Type 0
LongestHoleLaw = (lo hi : ℕ) (xs : List Block) → ArePlaced lo hi xs → HoleIsLongest lo hi xs

-- the hole directly after a block is the one that begins at its end
abbrev pub HoleAfterLaw : Type 0
HoleAfterLaw = (lo hi : ℕ) (xs : List Block) → ArePlaced lo hi xs →
    All (λ x. (n : ℕ) → 0 < n → IsHole lo hi xs (block_end x) (block_end x + n) ↔ (hole_after hi xs (block_end x) ≡ n)) xs

-- room is the largest, over all gaps, of a gap's length less the sizes of its loose blocks, and 0 where there is no gap
pub record RoomIsLargest (lo hi : ℕ) (xs : List Block) : Type 0 where
  pub each_gap : (a b : ℕ) → IsGap lo hi xs a b → b - a - loose_bytes xs a b ≤ room lo hi xs
  pub some_gap : 0 < room lo hi xs → (a : ℕ) × (b : ℕ) × IsGap lo hi xs a b × (b - a - loose_bytes xs a b ≡ room lo hi xs)

abbrev pub LargestLaw : Type 0
LargestLaw = (lo hi : ℕ) (xs : List Block) → ArePlaced lo hi xs → RoomIsLargest lo hi xs

-- there is no less room in a longer range
abbrev pub LongerLaw : Type 0
LongerLaw = (lo hi end : ℕ) (xs : List Block) → ArePlaced lo hi xs → hi ≤ end → room lo hi xs ≤ room lo end xs

-- once the first k are discarded the room is what was promised
abbrev pub DiscardedLaw : Type 0
DiscardedLaw = (heap : Heap) (k : ℕ) (h : Option ℕ) →
    let new = discarded heap k h in
    room_for (snapshot_of new) 0 h ≡ room_for (snapshot_of heap) k h

-- Handles.

-- an allocation isn't both refused and answered
abbrev pub OutcomeLaw : Type 0
OutcomeLaw = (old new : Handles) (flags size handle : ℕ) → AreHandles old → AnswersAlloc old flags size handle new → IsRefusedAlloc old flags size → ⊥

-- the owner of a slot is the object in whose run it is, and there is no other
abbrev pub OwnerLaw : Type 0
OwnerLaw = (handles : Handles) (slot first : ℕ) → AreHandles handles
    → (owner_of handles.attributes slot ≡ Some first) ↔ ((first ≤ slot) × (slot < first + slots_at handles.attributes first))

-- Each selector of an object, the first and the later ones, says whose it is, where it begins, and how far it reaches: the k-th begins k times
-- 65,536 bytes after the object does.
abbrev pub SelectorsLaw : Type 0
SelectorsLaw = (old new : Handles) (slot k answer : ℕ) (o : Object) → AreHandles old → object_at old.heap slot ≡ Some o → k < slots_at old.attributes slot
    → (HandleStep old (GlobalHandle (selector_of (slot + k))) (Dword answer) new → answer ≡ dword_of (selector_of (slot + k)) (handle_of o.kind slot))
    × ((at : ℕ) → finmap.get old.heap.places slot ≡ Some at → HandleStep old (GetSelectorBase (selector_of (slot + k))) (Dword answer) new → answer ≡ at + 65536 * k)
    × ((bytes : List ℕ) → o.bytes ≡ Some bytes → HandleStep old (GetSelectorLimit (selector_of (slot + k))) (Dword answer) new → answer ≡ min 65536 (length bytes - 65536 * k) - 1)
    × (o.bytes ≡ None → HandleStep old (GetSelectorLimit (selector_of (slot + k))) (Dword answer) new → answer ≡ 0)

-- each far access keeps what holds of handles
abbrev pub FarLaw : Type 0
FarLaw = (old new : Handles) (command : Command OfFar) (answer : FarAnswer) → AreHandles old → IsFarCommand command → FarStep old command answer new → AreHandles new

-- Room with an object left out.

-- whether a block is counted: it is loose, none of these, and not the object's
abbrev pub is_counted : List ℕ → Option ℕ → Block → Bool
is_counted ids h x = is_loose x && not (is_member x.id ids || is_about h x.id)

-- each loose block, without these and the object, has a place in the gap where it stands, and no two of them share a byte; the gaps are
-- those of the heap with the object loose
pub record IsArrangementWithout (lo hi : ℕ) (xs : List Block) (ids : List ℕ) (h : Option ℕ) (place : Block → ℕ) : Type 0 where
  pub kept : (a b : ℕ) → IsGap lo hi (loosened h xs) a b → All (λ x. IsTrue (is_counted ids h x) → IsTrue (begins_in a b x) → (a ≤ place x) × (place x + x.size ≤ b)) xs
  pub apart : AllPairs (λ x y. IsTrue (is_counted ids h x) → IsTrue (is_counted ids h y) → Misses (place x) x.size (place y) (place y + y.size)) xs

-- an interval without a byte of these or of a pinned block
pub record IsFreeWithout (lo hi : ℕ) (xs : List Block) (ids : List ℕ) (h : Option ℕ) (place : Block → ℕ) (a b : ℕ) : Type 0 where
  pub clear : IsClear is_pinned lo hi (loosened h xs) a b
  pub misses : All (λ x. IsTrue (is_counted ids h x) → Misses (place x) x.size a b) xs

-- n is the length of the longest free stretch of any such arrangement, and 0 where there is none
pub record IsLongestWithout (lo hi : ℕ) (xs : List Block) (ids : List ℕ) (h : Option ℕ) (n : ℕ) : Type 0 where
  pub none_longer : (place : Block → ℕ) (a b : ℕ) → IsArrangementWithout lo hi xs ids h place → IsFreeWithout lo hi xs ids h place a b → b - a ≤ n
  pub one_as_long : 0 < n → (place : Block → ℕ) × (a : ℕ) × (b : ℕ) × IsArrangementWithout lo hi xs ids h place × IsFreeWithout lo hi xs ids h place a b × (b - a ≡ n)

-- with the object loose and left out, and the first k that may be discarded left out too, room is the longest free stretch
abbrev pub LeftOutLaw : Type 0
LeftOutLaw = (lo hi : ℕ) (xs : List Block) (order : List ℕ) (k : ℕ) (h : Option ℕ) → ArePlaced lo hi xs → IsLongestWithout lo hi xs (take k (eligible xs order h)) h (room_for (snapshot lo hi xs order) k h)
