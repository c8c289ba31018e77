-- The steps of a heap that ask for room. They may choose addresses, and what new bytes are where they needn't be zero.
use Rattle.w16_model.specs
use Rattle.std.specs.Prelude.{◌≡◌, ℕ, ◌+◌, ◌-◌, ◌<◌, ◌⊎◌, Bool, true, false, not, ◌&&◌, ◌||◌, ◌==◌, nat_le, IsTrue, List, ◌++◌, length, take, filter, fold, sum_by, All, Option, Some, None, MatchOption, MatchBool, IsSomeAnd, option_map, unwrap_or}
use specs.Discards.{Snapshot, snapshot, eligible, room_for, needed, prefix_for, fits_in_place, growth_for}
use specs.Heap.{Heap, Object, IsHeap, IsMultiple, blocks, object_at, bytes_at, size_of, is_pinned_object}
use specs.Changes.{with_newest, with_object, with_ordered, absent}
use specs.{declared.Block.Block, declared.Kind.Kind, declared.RoomOptions.RoomOptions, Gap.is_pinned, Gap.is_any, Gap.longest_hole, Gap.IsClear, Bytes.repeated}
use Rattle.std.specs.FinMap as finmap

abbrev pub snapshot_of : Heap → Snapshot
snapshot_of heap = snapshot heap.lo heap.hi (blocks heap) heap.order

-- the number of discards by which a request of n bytes about h is answered, if it is
abbrev pub discards_needed : Heap → ℕ → Option ℕ → RoomOptions → Option ℕ
discards_needed heap n h options = prefix_for (snapshot_of heap) n h options

-- the first k that a request about h may discard, discarded
abbrev pub discarded : Heap → ℕ → Option ℕ → Heap
discarded heap k h = fold absent heap (take k (eligible (blocks heap) heap.order h))

-- n new bytes: zeros where they are asked for (GMEM_ZEROINIT), else any
abbrev pub AreNew : Bool → ℕ → List ℕ → Type 0
AreNew zero n bytes = (length bytes ≡ n) × All (λ b. b < 256) bytes × (IsTrue zero → bytes ≡ repeated n 0)

-- new is this heap at any addresses that keep its objects apart, but for the blocks of old that stay, which keep theirs
pub record Settles (old : Heap) (stays : Block → Bool) (heap new : Heap) : Type 0 where
  pub same : new ≡ record heap { places = new.places }
  pub sound : IsHeap new
  pub kept : All (λ x. IsTrue (stays x) → finmap.get new.places x.id ≡ Some x.at) (blocks old)

-- which blocks keep their address while room is made for h: the pinned ones, and with GMEM_NOCOMPACT all
abbrev pub stays_for : ℕ → RoomOptions → Block → Bool
stays_for h options x = not (x.id == h) && (is_pinned x || not options.compact)

-- What is asked for an object: how room may be made, by how many discards if at all, what the object becomes, and the order of use with it.
pub record Asked : Type 1 where
  pub options : RoomOptions
  pub prefix : Option ℕ
  pub becomes : Object → Type 0
  pub order : Object → List ℕ → List ℕ

-- A request for room for h. With no prefix it is refused, in the same heap. Else that many of the eligible are discarded and no others, h
-- becomes an object such as the request asks for, and the rest is as it was but for addresses.
abbrev pub Request : Heap → ℕ → Asked → Bool → Heap → Type 0
Request old h asked answered new =
    MatchOption asked.prefix
    ((answered ≡ false) × (new ≡ old))
    (λ k. (answered ≡ true) × ((o : Object) × asked.becomes o × Settles old (stays_for h asked.options) (with_ordered (discarded old k (Some h)) h o (asked.order o)) new))

-- Allocation and revival.

-- an object of this kind and lock count with n new bytes
pub record IsNew (zero : Bool) (n : ℕ) (kind : Kind) (locks : ℕ) (o : Object) : Type 0 where
  pub same_kind : o.kind ≡ kind
  pub same_locks : o.locks ≡ locks
  pub new_bytes : IsSomeAnd o.bytes (AreNew zero n)

-- An id without bytes gets n, a whole number of grains above 0: a new object, or an absent one again. A discardable one becomes the newest
-- (GlobalAlloc; GlobalReAlloc of a discarded object).
pub record Allocates (old : Heap) (id n : ℕ) (kind : Kind) (locks : ℕ) (options : RoomOptions) (answered : Bool) (new : Heap) : Type 0 where
  pub some : 0 < n
  pub rounded : IsMultiple old.grain n
  pub without_bytes : bytes_at old id ≡ None
  pub request : Request old id (record { options = options; prefix = discards_needed old n (Some id) options; becomes = IsNew options.zero n kind locks; order = with_newest id }) answered new

-- Reallocation (GlobalReAlloc), where it asks for a size above 0.

-- the object with new bytes after its own
pub record IsGrown (zero : Bool) (n : ℕ) (before o : Object) : Type 0 where
  pub same_kind : o.kind ≡ before.kind
  pub same_locks : o.locks ≡ before.locks
  pub grown : (more : List ℕ) × AreNew zero (n - size_of before) more × (o.bytes ≡ option_map (λ bytes. bytes ++ more) before.bytes)

-- with GMEM_NOCOMPACT an object grows where it stands, or stands in a hole of the new size, which has none of its own bytes
abbrev pub StaysOrMovesToHole : Heap → ℕ → ℕ → Heap → Type 0
StaysOrMovesToHole old id n new = IsSomeAnd (finmap.get new.places id) (λ at. (finmap.get old.places id ≡ Some at) ⊎ IsClear is_any old.lo old.hi (blocks old) at (at + n))

-- An object that is shorter than n grows. A pinned one that may not move (no GMEM_MOVEABLE) keeps its address and needs the hole directly
-- after it; every other grows by a request for room, and keeps its place in the order.
abbrev pub Grows : Heap → ℕ → Object → ℕ → RoomOptions → Bool → Heap → Type 0
Grows old id o n options answered new =
    MatchBool (is_pinned_object o && not options.may_move)
    (MatchBool (fits_in_place (snapshot_of old) n id)
    ((answered ≡ true) × ((grown : Object) × IsGrown options.zero n o grown × (new ≡ with_object old id grown)))
    ((answered ≡ false) × (new ≡ old)))
    (Request old id (record { options = options; prefix = growth_for (snapshot_of old) n id options; becomes = IsGrown options.zero n o; order = λ _ order. order }) answered new
    × (options.compact ≡ false → answered ≡ true → StaysOrMovesToHole old id n new))

-- The object o of an id to n bytes: an absent one is revived; one that is as long or longer is cut, at its address; another grows.
abbrev pub ReallocatesObject : Heap → ℕ → Object → ℕ → RoomOptions → Bool → Heap → Type 0
ReallocatesObject old id o n options answered new =
    MatchOption o.bytes
    (Allocates old id n o.kind o.locks options answered new)
    (λ bytes. MatchBool (nat_le n (length bytes))
    ((answered ≡ true) × (new ≡ with_object old id (record o { bytes = Some (take n bytes) })))
    (Grows old id o n options answered new))

-- the same of an id whose object is there, to a whole number of grains above 0
pub record Reallocates (old : Heap) (id n : ℕ) (options : RoomOptions) (answered : Bool) (new : Heap) : Type 0 where
  pub some : 0 < n
  pub rounded : IsMultiple old.grain n
  pub object : IsSomeAnd (object_at old id) (λ o. ReallocatesObject old id o n options answered new)

-- Compaction (GlobalCompact).

-- how many objects may be discarded
abbrev pub eligible_count : Heap → ℕ
eligible_count heap = length (eligible (blocks heap) heap.order None)

-- what compaction could make free: the room with all that may be discarded left out
abbrev pub most_room : Heap → ℕ
most_room heap = room_for (snapshot_of heap) (eligible_count heap) None

-- how many are discarded for n bytes: as many as are needed, or all
abbrev pub compaction_prefix : Heap → ℕ → ℕ
compaction_prefix heap n = unwrap_or (needed (snapshot_of heap) n None) (eligible_count heap)

-- Room is made for n bytes, n above 0: these are discarded, the others slide, and the answer is the room there was without the first, which
-- is the length of the longest hole that there is now.
pub record MakesRoom (old : Heap) (n answer : ℕ) (new : Heap) : Type 0 where
  pub settled : Settles old is_pinned (discarded old (compaction_prefix old n) None) new
  pub promised : answer ≡ room_for (snapshot_of old) (compaction_prefix old n) None
  pub longest : answer ≡ longest_hole new.lo new.hi (blocks new)

-- Compaction for 0 bytes only answers what could be made free.
abbrev pub Compacts : Heap → ℕ → ℕ → Heap → Type 0
Compacts old n answer new = MatchBool (n == 0) ((answer ≡ most_room old) × (new ≡ old)) (MakesRoom old n answer new)

-- What a step moved (profile): the sizes before it of the objects that have bytes before and after it, at another address.
abbrev pub is_elsewhere : ℕ → Option ℕ → Bool
is_elsewhere at (Some now) = not (now == at)
is_elsewhere at None = false

abbrev pub moved_bytes : Heap → Heap → ℕ
moved_bytes old new = sum_by (λ x. x.size) (filter (λ x. is_elsewhere x.at (finmap.get new.places x.id)) (blocks old))
