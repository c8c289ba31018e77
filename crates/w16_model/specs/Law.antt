-- What holds of all handles, and the laws that show the definitions to be the right ones, where other proofs stand on them. Each law is the
-- contract of a function of `w16_laws`, which also has those on which nothing stands.
use Rattle.w16_model.specs
use Rattle.std.specs.Prelude.{◌≡◌, ◌≢◌, ℕ, ◌+◌, ◌-◌, ◌*◌, ◌<◌, ◌≤◌, ◌↔◌, Bool, true, false, IfSome, IsSomeAnd, List, take, map, length, All, Contains, Option, Some, None, is_some, [], ◌⊎◌, MatchOption, slice_get, nat_lt, filter}
use specs.declared.Kind.TheVariants.{Discardable}
use specs.declared.TheConstants.{FIRST_SLOT, MOST_SLOTS, GRAIN, REACH}
use specs.Gap.{is_pinned, is_any, room, longest_hole, IsHole, IsGapOf, ArePlaced, first_from, starts}
use specs.Arrangement.{IsArrangement, IsFreeStretch, IsLongestStretch}
use specs.Discards.{eligible, is_member, blocks_without, needed, room_for, snapshot}
use specs.Heap.{Heap, Object, IsHeap, blocks, object_at, bytes_at, is_pinned_object}
use specs.Request.{Settles, discarded, stays_for, Allocates, Reallocates}
use specs.Table.{Table, IsTable, IsSound, heap_in, IsSameOutside}
use specs.Handles.{Handles, slots_at, reached, slot_of_handle, part_of_selector, slot_of_selector, handle_of, selector_of, slots_for, IsFreeSlot, Gives, selector_in, offset_in}
use specs.Commands.{Command, Family.OfHandles, Family.OfFar}
use specs.Calls.{Answer, HandleStep}
use specs.Far.{FarAnswer, far_read, far_write}
use specs.Commands.Command.{Fill, Read, Write}
use specs.{declared.Block.Block, declared.Span.Span, declared.Kind.Kind, declared.Item.Item, declared.RoomOptions.RoomOptions, declared.Hold.TheVariants.Pinned, Changes.with_ordered, Changes.removed}
use specs.{Walk.IsWalk, Walk.IsItem, declared.Attributes.Attributes, declared.Owned.Owned, OneObject.Enters, Owned.owned_at, Owned.revival_options, Bytes.repeated, Ends.ending}
use specs.{Ends.is_answered}
use Rattle.std.specs.{Ordering.nat_cmp, FinMap.FinMap}
use Rattle.std.specs.FinMap as finmap

-- Handles.

-- the heap over [lo, hi) that has no object
abbrev pub empty_heap : ℕ → ℕ → ℕ → Heap
empty_heap lo hi grain = record { lo = lo; hi = hi; grain = grain; objects = finmap.empty; places = finmap.empty; order = [] }

-- the handles over a memory, and with so many slots, in which nothing is allocated
abbrev pub empty_handles : ℕ → ℕ → Handles
empty_handles memory slots = record { slots = slots; heap = empty_heap 0 memory GRAIN; attributes = finmap.empty; moved = 0 }

-- an object that a module owns has as many slots as its size needs, with bytes or without
abbrev pub IsOwnedRun : Attributes → Type 0
IsOwnedRun a = IfSome a.owned (λ (o : Owned). a.slots ≡ slots_for o.size)

-- an object has a slot at least, all of its slots are there, and none is another's
abbrev pub IsRun : ℕ → ℕ → Attributes → Type 0
IsRun slots slot a = (0 < a.slots) × (FIRST_SLOT ≤ slot) × (slot + a.slots ≤ FIRST_SLOT + slots) × IsOwnedRun a

pub record AreRuns (slots : ℕ) (attributes : FinMap nat_cmp Attributes) : Type 0 where
  pub each : (slot : ℕ) → IfSome (finmap.get attributes slot) (IsRun slots slot)
  pub apart : (slot other : ℕ) → slot < other → is_some (finmap.get attributes other) ≡ true → slot + slots_at attributes slot ≤ other

-- so many slots are as many as an object's bytes need, if it has any
abbrev pub IsSized : ℕ → Option (List ℕ) → Type 0
IsSized count bytes = IfSome bytes (λ b. count ≡ slots_for (length b))

-- what always holds of handles: the heap is one, over memory from 0; the slots are few enough for their selectors to be words; each object
-- has its attributes, and a run of slots, which is no other's; and one with bytes has as many as they need
pub record AreHandles (handles : Handles) : Type 0 where
  pub heap : IsHeap handles.heap
  pub low : handles.heap.lo ≡ 0
  pub grain : handles.heap.grain ≡ GRAIN
  pub few : handles.slots ≤ MOST_SLOTS
  pub runs : AreRuns handles.slots handles.attributes
  pub attributed : (slot : ℕ) → finmap.contains_key handles.attributes slot ≡ is_some (object_at handles.heap slot)
  pub sized : (slot : ℕ) → IsSized (slots_at handles.attributes slot) (bytes_at handles.heap slot)

-- an object goes, locked or not (a module that goes takes its objects with it)
abbrev pub after_release : Heap → ℕ → Heap
after_release heap id = removed heap id

-- A new object without bytes gets a free slot, and a module owns it. One slot is enough for what a module owns.
pub record TakesOwned (old : Handles) (kind : Kind) (owned : Owned) (handle : ℕ) (new : Handles) : Type 0 where
  pub slot : ℕ
  pub free : IsFreeSlot old slot
  pub named : handle ≡ handle_of kind slot
  pub entered : Enters old.heap slot kind new.heap
  pub rest : new ≡ record old { heap = new.heap; attributes = finmap.insert old.attributes slot (record { shared = false; owned = Some owned; slots = 1 }) }

-- An owned object without bytes gets as many as its owner's file says, of any values, by a request for room as of an allocation with no flags;
-- or there is no room for them, and nothing changes. The number of bytes moved stays.
pub record Revives (old : Handles) (slot : ℕ) (answered : Bool) (new : Handles) : Type 0 where
  pub owned : IsSomeAnd (owned_at old slot) (λ owned. IsSomeAnd (object_at old.heap slot) (λ o. Allocates old.heap slot owned.size o.kind o.locks revival_options answered new.heap))
  pub rest : new ≡ record old { heap = new.heap }

-- the handles without an object, locked or not
abbrev pub without_slot : Handles → ℕ → Handles
without_slot handles slot = record handles { heap = removed handles.heap slot; attributes = finmap.remove handles.attributes slot }

-- what an access writes are bytes
abbrev pub IsFarCommand : Command OfFar → Type 0
IsFarCommand (Read pointer count) = Unit {0}
IsFarCommand (Write pointer bytes) = All (λ b. b < 256) bytes
IsFarCommand (Fill pointer count byte) = byte < 256

-- one step of a far access: the answer that it is given, and the handles that it leaves
abbrev pub FarStep : Handles → Command OfFar → FarAnswer → Handles → Type 0
FarStep old (Read pointer count) answer new = Gives (far_read old (selector_in pointer) (offset_in pointer) count) answer new
FarStep old (Write pointer bytes) answer new = Gives (far_write old (selector_in pointer) (offset_in pointer) bytes) answer new
FarStep old (Fill pointer count byte) answer new = Gives (far_write old (selector_in pointer) (offset_in pointer) (repeated count byte)) answer new

-- Gaps and holes.

-- the intervals that begin at these places, without the empty ones
abbrev pub spans_from : (Block → Bool) → ℕ → List Block → List ℕ → List Span
spans_from test hi xs places = filter (λ s. nat_lt s.from s.to) (map (λ a. record { from = a; to = first_from test hi xs a }) places)

-- the list of gaps, and that of holes; by address where the blocks are
abbrev pub gaps : ℕ → ℕ → List Block → List Span
gaps lo hi xs = spans_from is_pinned hi xs (starts is_pinned lo xs)

abbrev pub holes : ℕ → ℕ → List Block → List Span
holes lo hi xs = spans_from is_any hi xs (starts is_any lo xs)

-- the list has each maximal interval without a block that passes the test, and nothing else
pub record AreAllOf (test : Block → Bool) (lo hi : ℕ) (xs : List Block) (spans : List Span) : Type 0 where
  pub each : (a b : ℕ) → IsGapOf test lo hi xs a b → Contains spans (record { from = a; to = b })
  pub only : All (λ s. IsGapOf test lo hi xs s.from s.to) spans

abbrev pub GapListLaw : Type 0
GapListLaw = (lo hi : ℕ) (xs : List Block) → ArePlaced lo hi xs → AreAllOf is_pinned lo hi xs (gaps lo hi xs) × AreAllOf is_any lo hi xs (holes lo hi xs)

-- no hole is longer than the longest, and one is as long; it is 0 where there is none
pub record HoleIsLongest (lo hi : ℕ) (xs : List Block) : Type 0 where
  pub none_longer : (a b : ℕ) → IsHole lo hi xs a b → b - a ≤ longest_hole lo hi xs
  pub one_as_long : 0 < longest_hole lo hi xs → (a : ℕ) × (b : ℕ) × IsHole lo hi xs a b × (b - a ≡ longest_hole lo hi xs)

-- the longest hole is the room where every block is pinned
abbrev pub all_pinned : List Block → List Block
all_pinned xs = map (λ (x : Block). record x { hold = Pinned }) xs

abbrev pub PinnedLaw : Type 0
PinnedLaw = (lo hi : ℕ) (xs : List Block) → longest_hole lo hi xs ≡ room lo hi (all_pinned xs)

-- Room.

-- room is the length of the longest free stretch of any arrangement
abbrev pub RoomLaw : Type 0
RoomLaw = (lo hi : ℕ) (xs : List Block) → ArePlaced lo hi xs → IsLongestStretch lo hi xs (room lo hi xs)

-- Discards.

-- no way to slide the blocks that k discards leave, without h, gives n free bytes in a row
abbrev pub NoStretch : ℕ → ℕ → List Block → List ℕ → ℕ → Option ℕ → ℕ → Type 0
NoStretch lo hi xs order k h n =
    let left = blocks_without xs (take k (eligible xs order h)) h in
    (place : Block → ℕ) (a b : ℕ) → IsArrangement lo hi left place → IsFreeStretch lo hi left place a b → b - a < n

-- fewer discards than are needed never serve, and where none are enough no number serves
pub record DiscardsAreLeast (lo hi : ℕ) (xs : List Block) (order : List ℕ) (n : ℕ) (h : Option ℕ) : Type 0 where
  pub fewer : (k j : ℕ) → needed (snapshot lo hi xs order) n h ≡ Some k → j < k → NoStretch lo hi xs order j h n
  pub none : (j : ℕ) → needed (snapshot lo hi xs order) n h ≡ None → NoStretch lo hi xs order j h n

abbrev pub LeastLaw : Type 0
LeastLaw = (lo hi : ℕ) (xs : List Block) (order : List ℕ) → ArePlaced lo hi xs → (n : ℕ) (h : Option ℕ) → DiscardsAreLeast lo hi xs order n h

-- more discards never leave less room
abbrev pub MoreDiscardsLaw : Type 0
MoreDiscardsLaw = (lo hi : ℕ) (xs : List Block) (order : List ℕ) (h : Option ℕ) (j k : ℕ) → j ≤ k → room_for (snapshot lo hi xs order) j h ≤ room_for (snapshot lo hi xs order) k h

-- Requests.

-- What a step leaves of each object that it isn't about: those that it discards are discardable and not locked, and lose their bytes alone;
-- every other keeps its kind, its locks and its bytes.
pub record KeepsOthers (old : Heap) (h : Option ℕ) (k : ℕ) (new : Heap) : Type 0 where
  pub kept : (q : ℕ) → h ≢ Some q → is_member q (take k (eligible (blocks old) old.order h)) ≢ true → object_at new q ≡ object_at old q
  pub discarded : (q : ℕ) → is_member q (take k (eligible (blocks old) old.order h)) ≡ true →
      IsSomeAnd (object_at old q) (λ o. (o.kind ≡ Discardable) × (o.locks ≡ 0) × (is_some o.bytes ≡ true) × (object_at new q ≡ Some (record o { bytes = None })))

-- a request about h, and a compaction, leave every other object so
abbrev pub OthersLaw : Type 0
OthersLaw = (old new : Heap) → IsHeap old → (k : ℕ)
    → ((h : ℕ) (options : RoomOptions) (o : Object) (order : List ℕ → List ℕ) → Settles old (stays_for h options) (with_ordered (discarded old k (Some h)) h o order) new → KeepsOthers old (Some h) k new)
    × (Settles old is_pinned (discarded old k None) new → KeepsOthers old None k new)

-- an object that stands at an address still stands there
abbrev pub StandsStill : Heap → Heap → ℕ → Type 0
StandsStill old new q = IfSome (finmap.get old.places q) (λ at. finmap.get new.places q ≡ Some at)

-- what a step leaves of the addresses of objects that it isn't about: a fixed or locked one keeps its own, and where nothing may move all do
pub record KeepsAddresses (old : Heap) (h : Option ℕ) (may_move : Bool) (new : Heap) : Type 0 where
  pub pinned : (q : ℕ) → h ≢ Some q → IsSomeAnd (object_at old q) (λ o. is_pinned_object o ≡ true) → StandsStill old new q
  pub unmoved : may_move ≡ false → (q : ℕ) → h ≢ Some q → StandsStill old new q

-- a request about h, and a compaction, leave every other address so
abbrev pub AddressLaw : Type 0
AddressLaw = (old new : Heap) → IsHeap old → (k : ℕ)
    → ((h : ℕ) (options : RoomOptions) (o : Object) (order : List ℕ → List ℕ) → Settles old (stays_for h options) (with_ordered (discarded old k (Some h)) h o order) new → KeepsAddresses old (Some h) options.compact new)
    × (Settles old is_pinned (discarded old k None) new → KeepsAddresses old None true new)

-- the least end at which the request is answered, not before the present one; it is answered at every later end too
pub record IsLeastEnd (heap : Heap) (id n : ℕ) (options : RoomOptions) (end : ℕ) : Type 0 where
  pub later : heap.hi ≤ end
  pub answered : (e : ℕ) → end ≤ e → is_answered (ending heap e) id n options ≡ true
  pub least : (e : ℕ) → heap.hi ≤ e → e < end → is_answered (ending heap e) id n options ≡ false

-- there is no such end up to a place
abbrev pub HasNoEnd : ℕ → Heap → ℕ → ℕ → RoomOptions → Type 0
HasNoEnd last heap id n options = (e : ℕ) → heap.hi ≤ e → e ≤ last → is_answered (ending heap e) id n options ≡ false

-- an allocation and a reallocation are answered just where this says so
abbrev pub AnswerLaw : Type 0
AnswerLaw = (old new : Heap) (id n : ℕ) (options : RoomOptions) (answered : Bool)
    → ((kind : Kind) (locks : ℕ) → object_at old id ≡ None → Allocates old id n kind locks options answered new → answered ≡ is_answered old id n options)
    × (Reallocates old id n options answered new → answered ≡ is_answered old id n options)

-- Walks.

-- the first item that begins at an address or above it, if there is one
abbrev pub IsFirstItem : (Kind → ℕ → ℕ) → Heap → ℕ → Option Item → Type 0
IsFirstItem name heap from found = MatchOption found
    ((other : Item) → IsItem name heap other → other.at < from)
    (λ item. IsItem name heap item × (from ≤ item.at) × ((other : Item) → IsItem name heap other → from ≤ other.at → (other ≡ item) ⊎ (item.at < other.at)))

-- the i-th item of the walk, from 0 on, if it has so many
abbrev pub IsItemAt : (Kind → ℕ → ℕ) → Heap → ℕ → Option Item → Type 0
IsItemAt name heap i found = (items : List Item) → IsWalk name heap items → found ≡ slice_get items i

-- how many items the walk has
abbrev pub IsItemCount : (Kind → ℕ → ℕ) → Heap → ℕ → Type 0
IsItemCount name heap count = (items : List Item) → IsWalk name heap items → count ≡ length items

-- an object's name in a heap of its own: its id
abbrev pub by_its_id : Kind → ℕ → ℕ
by_its_id kind id = id

-- a heap has a walk, and no other, however it names its objects
pub record HasOneWalk (name : Kind → ℕ → ℕ) (heap : Heap) : Type 0 where
  pub items : List Item
  pub is_walk : IsWalk name heap items
  pub only : (others : List Item) → IsWalk name heap others → others ≡ items

abbrev pub WalkLaw : Type 0
WalkLaw = (name : Kind → ℕ → ℕ) (heap : Heap) → IsHeap heap → HasOneWalk name heap

-- Tables and memories.

-- a sound table stands for a heap, in any memory of bytes that has its range
abbrev pub SoundLaw : Type 0
SoundLaw = (t : Table) (memory : List ℕ) → IsSound t → t.hi ≤ length memory → All (λ b. b < 256) memory → IsHeap (heap_in t memory)

-- a heap isn't touched where memory changes outside its range alone
abbrev pub RangeLaw : Type 0
RangeLaw = (t : Table) (lo hi : ℕ) (memory after : List ℕ) → IsTable t → IsSameOutside lo hi memory after → (t.hi ≤ lo → heap_in t after ≡ heap_in t memory) × (hi ≤ t.lo → heap_in t after ≡ heap_in t memory)

-- Handles.

-- the look-ups of handles and selectors find the object that has them, and no other
abbrev pub NamesLaw : Type 0
NamesLaw = (handles : Handles) (name slot : ℕ)
    → ((slot_of_handle handles name ≡ Some slot) ↔ IsSomeAnd (object_at handles.heap slot) (λ o. name ≡ handle_of o.kind slot))
    × ((slot_of_selector handles name ≡ Some slot) ↔ IsSomeAnd (object_at handles.heap slot) (λ _. name ≡ selector_of slot))

-- what a selector reaches lies in its object
abbrev pub ReachLaw : Type 0
ReachLaw = (handles : Handles) (selector : ℕ) → AreHandles handles
    → IfSome (part_of_selector handles selector) (λ p. (selector ≡ selector_of (p.slot + p.number)) × (p.number < slots_at handles.attributes p.slot)
    × IfSome (bytes_at handles.heap p.slot) (λ bytes. (0 < reached (length bytes) p) × (REACH * p.number + reached (length bytes) p ≤ length bytes)))

-- the handles of a heap in which nothing is allocated are such
abbrev pub EmptyLaw : Type 0
EmptyLaw = (memory slots : ℕ) → slots ≤ MOST_SLOTS → AreHandles (empty_handles memory slots)

-- each call keeps what holds of handles: no two objects share a byte, and the rest
abbrev pub HandleLaw : Type 0
HandleLaw = (old new : Handles) (command : Command OfHandles) (answer : Answer) → AreHandles old → HandleStep old command answer new → AreHandles new
