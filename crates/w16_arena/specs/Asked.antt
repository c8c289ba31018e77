-- What a request for room leaves beside its step: who was discarded, who stands elsewhere, and what was moved.
use Rattle.std.specs.Prelude.{◌≡◌, ◌≢◌, ℕ, ◌+◌, ◌<◌, ◌≤◌, ◌⊎◌, ◌&&◌, Bool, not, true, nat_le, if◌then◌else◌, List, length, take, Option, None, Some, IfSome, IsSomeAnd}
use Rattle.w16_model.specs.Request.{Reallocates, Settles, stays_for, moved_bytes, discards_needed, snapshot_of, discarded}
use Rattle.w16_model.specs.{declared.Span.Span, declared.RoomOptions.RoomOptions, Gap.is_pinned, Gap.longest_hole, Discards.eligible, Discards.growth_for, Heap.Heap, Heap.Object, Heap.blocks, Heap.object_at, Heap.is_pinned_object, Changes.with_ordered, Table.Table, Table.heap_in}
use Rattle.w16_arena.specs.{Growth.may_grow, declared.new_place.Placed.Placed, declared.without_discard.Compacted.Compacted, State.ArenaState, State.IsSameRange}
use Rattle.std.specs.FinMap as finmap

-- the first k that a request about h may discard
abbrev pub first_eligible : Heap → ℕ → Option ℕ → List ℕ
first_eligible heap k h = take k (eligible (blocks heap) heap.order h)

-- what an answered allocation discarded: as many of the eligible as are needed
pub record HasDiscarded (old : Heap) (id n : ℕ) (options : RoomOptions) (discarded : List ℕ) : Type 0 where
  pub prefix : ℕ
  pub needed : discards_needed old n (Some id) options ≡ Some prefix
  pub listed : discarded ≡ first_eligible old prefix (Some id)

-- whether an object may have n bytes without a discard: where others may slide, there is room once it is left out; else it fits where it stands, or in a hole
abbrev pub may_grow_in : Table → ℕ → ℕ → Bool → Bool
may_grow_in t id n compact = may_grow (record { cap = length t.entries; lo = t.lo; hi = t.hi; grain = t.grain; blocks = t.blocks }) id n compact

-- the number of discards by which an object's reallocation to n bytes is answered, if it is
abbrev pub reallocation_prefix : Heap → ℕ → Object → ℕ → RoomOptions → Option ℕ
reallocation_prefix old id o n options = elim o.bytes as (λ _. Option ℕ) [
  | None ↦ discards_needed old n (Some id) options
  | Some bytes ↦ if nat_le n (length bytes) then Some 0 else (if is_pinned_object o && not options.may_move then Some 0 else growth_for (snapshot_of old) n id options)
]

-- what an answered reallocation discarded: as many of the eligible as it needs
pub record HasDiscardedFor (old : Heap) (id n : ℕ) (options : RoomOptions) (discarded : List ℕ) : Type 0 where
  pub prefix : ℕ
  pub needed : IsSomeAnd (object_at old id) (λ o. reallocation_prefix old id o n options ≡ Some prefix)
  pub listed : discarded ≡ first_eligible old prefix (Some id)

-- an object that stands outside a range stands where it stood
abbrev pub IsStill : Span → Heap → Heap → ℕ → Type 0
IsStill slid old new q = IfSome (finmap.get new.places q) (λ at. ((at < slid.from) ⊎ (slid.to ≤ at)) → finmap.get old.places q ≡ Some at)

-- what an allocation of n bytes answers: where they stand; the others have slid in a range alone; and so many bytes were moved, no more than the heap has
pub record IsPlaced (old : Heap) (id n : ℕ) (p : Placed) (new : Heap) : Type 0 where
  pub place : finmap.get new.places id ≡ Some p.at
  pub inside : p.at + n ≤ old.hi
  pub still : (q : ℕ) → q ≢ id → IsStill p.slid old new q
  pub moved : p.moved ≡ moved_bytes old new
  pub few : old.lo + p.moved ≤ old.hi

-- an answered reallocation, with what it tells
pub record IsResized (old : Heap) (id n : ℕ) (options : RoomOptions) (p : Placed) (discarded : List ℕ) (new : Heap) : Type 0 where
  pub reallocated : Reallocates old id n options true new
  pub placed : IsPlaced old id n p new
  pub listed : HasDiscardedFor old id n options discarded

-- what a compaction answers beside the room: objects have slid in a range alone; and so many bytes were moved, no more than the heap has
pub record IsSlid (old : Heap) (c : Compacted) (new : Heap) : Type 0 where
  pub still : (q : ℕ) → IsStill c.slid old new q
  pub moved : c.moved ≡ moved_bytes old new
  pub few : old.lo + c.moved ≤ old.hi

-- n bytes for an id, where nothing has to be discarded: it becomes an object such as is asked, and the order of use is what is asked with it
pub record Stands (old : Heap) (id n : ℕ) (becomes : Object → Type 0) (order : Object → List ℕ → List ℕ) (options : RoomOptions) (p : Placed) (new : Heap) : Type 0 where
  pub object : Object
  pub such : becomes object
  pub settled : Settles old (stays_for id options) (with_ordered old id object (order object)) new
  pub placed : IsPlaced old id n p new

-- others have slid, so that a hole is as long as it can be without a discard
pub record SlidesTogether (old : Heap) (c : Compacted) (new : Heap) : Type 0 where
  pub settled : Settles old is_pinned old new
  pub longest : c.room ≡ longest_hole new.lo new.hi (blocks new)
  pub slid : IsSlid old c new

-- the first k that a request about h may discard were discarded, in every memory that has the range, and are listed
pub record Discards (k : ℕ) (h : Option ℕ) (old new : ArenaState) : Type 0 where
  pub heaps : (memory : List ℕ) → old.table.hi ≤ length memory → heap_in new.table memory ≡ discarded (heap_in old.table memory) k h
  pub range : IsSameRange old.table new.table
  pub listed : new.discarded ≡ take k (eligible old.table.blocks old.table.order h)
