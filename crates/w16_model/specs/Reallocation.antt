-- Reallocation, told by what it leaves: of the object, of the others, of where they stand, and when it is refused. Nothing here says how
-- room is made.
use Rattle.w16_model.specs
use Rattle.std.specs.Prelude.{◌≡◌, ◌≢◌, ℕ, ◌+◌, ◌-◌, ◌<◌, ◌≤◌, ◌⊎◌, Bool, true, false, not, ◌&&◌, ◌||◌, if◌then◌else◌, IsTrue, IfOk, IfSome, IsSomeAnd, List, [], ◌∷◌, ◌++◌, length, take, drop, filter, map, Option, Some, Ok, Err, is_some, unwrap_or}
use specs.declared.Hold.TheVariants.{Loose}
use specs.Gap.{is_any, IsClear}
use specs.Discards.{eligible, is_member, is_about}
use specs.Heap.{Heap, Object, IsHeap, blocks, object_at, size_of, is_fixed, is_discardable, is_in_order, is_pinned_object}
use specs.{declared.Block.Block, declared.Kind.Kind, declared.RoomOptions.RoomOptions, Bytes.repeated, Changes.without, Request.Reallocates, OneObject.after_modify, OneObject.after_discard, Law.KeepsOthers, Law.KeepsAddresses, Law.StandsStill, Fewest.DiscardsFewest, Fewest.LacksRoom}
use Rattle.std.specs.FinMap as finmap
use Rattle.w16_model.specs.declared.Refusal.TheVariants as refusals

-- The object, and the rest.

-- the bytes at another size: the same ones as far as both go, and zeros after them where these are asked for
pub record AreResized (zero : Bool) (n : ℕ) (before after : List ℕ) : Type 0 where
  pub long : length after ≡ n
  pub same : take (length before) after ≡ take n before
  pub zeros : IsTrue zero → drop (length before) after ≡ repeated (n - length before) 0

-- the object at another size, one without bytes as if it had had none of them: its kind and its locks are the same
pub record IsResized (zero : Bool) (n : ℕ) (before after : Object) : Type 0 where
  pub kind : after.kind ≡ before.kind
  pub locks : after.locks ≡ before.locks
  pub bytes : IsSomeAnd after.bytes (AreResized zero n (unwrap_or before.bytes []))

-- the order of use without these
abbrev pub without_all : List ℕ → List ℕ → List ℕ
without_all ids order = filter (λ q. not (is_member q ids)) order

-- whether an object gets its place in the order: it had no bytes, and is discardable
abbrev pub is_revived : Object → Bool
is_revived o = not (is_some o.bytes) && is_discardable o.kind

-- What an answered reallocation leaves. The first so many that may be are discarded; all others are as they were, also in the order of use,
-- in which an object that had no bytes is the newest, and one that had some keeps its place.
pub record KeepsRest (old : Heap) (id n : ℕ) (o : Object) (options : RoomOptions) (new : Heap) : Type 0 where
  pub low : new.lo ≡ old.lo
  pub high : new.hi ≡ old.hi
  pub grain : new.grain ≡ old.grain
  pub object : IsSomeAnd (object_at new id) (IsResized options.zero n o)
  pub count : ℕ
  pub others : KeepsOthers old (Some id) count new
  pub order : new.order ≡ without_all (take count (eligible (blocks old) old.order (Some id))) old.order ++ (if is_revived o then id ∷ [] else [])

-- Refusals.

-- the heap has free bytes directly after the object, up to the size n
abbrev pub IsFreeBehind : Heap → ℕ → Object → ℕ → Type 0
IsFreeBehind heap id o n = IsSomeAnd (finmap.get heap.places id) (λ at. IsClear is_any heap.lo heap.hi (blocks heap) (at + size_of o) (at + n))

-- whether an object may not be moved for its own growth: it is fixed or locked, and that isn't allowed (no GMEM_MOVEABLE)
abbrev pub is_held : Object → RoomOptions → Bool
is_held o options = is_some o.bytes && (is_pinned_object o && not options.may_move)

-- Why an object doesn't get n bytes: one that may not move hasn't the free bytes behind it; any other has no room, and with GMEM_NOCOMPACT
-- hasn't these bytes either.
abbrev pub LacksPlace : Heap → ℕ → ℕ → Object → RoomOptions → Type 0
LacksPlace old id n o options =
    ((is_held o options ≡ true) × (IsFreeBehind old id o n → ⊥))
    ⊎ ((is_held o options ≡ false) × LacksRoom old (Some id) n options × (options.compact ≡ false → IsFreeBehind old id o n → ⊥))

-- A reallocation discards as few as it can, and none where it may not or needn't. It is refused only where the object would have to have
-- more bytes, and has no place for them; then nothing is changed.
pub record ReallocatesFewest (old : Heap) (id n : ℕ) (o : Object) (options : RoomOptions) (answered : Bool) (new : Heap) : Type 0 where
  pub fewest : answered ≡ true → DiscardsFewest old (Some id) n new
  pub without : answered ≡ true → (options.compact ≡ false) ⊎ (options.discard ≡ false) ⊎ (n ≤ size_of o) ⊎ (is_held o options ≡ true) → KeepsOthers old (Some id) 0 new
  pub refused : answered ≡ false → (size_of o < n) × LacksPlace old id n o options × (new ≡ old)

-- Addresses.

-- What an answered reallocation moves. A cut, and the growth of an object that may not move, leave every address; else the fixed and the
-- locked keep theirs, and with GMEM_NOCOMPACT all others do, and the object stands where it stood or where the heap had as much free.
pub record MovesLittle (old : Heap) (id n : ℕ) (o : Object) (options : RoomOptions) (new : Heap) : Type 0 where
  pub others : KeepsAddresses old (Some id) options.compact new
  pub still : (n ≤ size_of o) ⊎ (is_held o options ≡ true) → (q : ℕ) → StandsStill old new q
  pub hole : options.compact ≡ false → IsSomeAnd (finmap.get new.places id) (λ at. (finmap.get old.places id ≡ Some at) ⊎ IsClear is_any old.lo old.hi (blocks old) at (at + n))

-- Change of kind.

-- What it leaves: the object with the new kind, and all else. In the order an object that is discardable now and wasn't is the newest, one
-- that was so keeps its place, and one that isn't any more has none.
pub record ChangesKind (old : Heap) (id : ℕ) (o : Object) (kind : Kind) (new : Heap) : Type 0 where
  pub object : object_at new id ≡ Some (record o { kind = kind })
  pub others : (q : ℕ) → q ≢ id → object_at new q ≡ object_at old q
  pub places : new.places ≡ old.places
  pub range : (new.lo ≡ old.lo) × (new.hi ≡ old.hi) × (new.grain ≡ old.grain)
  pub same : kind ≡ o.kind → new.order ≡ old.order
  pub rest : without id new.order ≡ without id old.order
  pub newest : kind ≢ o.kind → is_in_order (object_at new id) ≡ true → new.order ≡ without id old.order ++ id ∷ []

-- Room with an object left out.

-- a block, which counts as loose where it is the object's
abbrev pub counted_loose : Option ℕ → Block → Block
counted_loose h x = record x { hold = if is_about h x.id then Loose else x.hold }

-- the blocks with that of the object counted as loose
abbrev pub loosened : Option ℕ → List Block → List Block
loosened h xs = map (counted_loose h) xs

-- The laws.

-- a reallocation, a change of kind and a discard leave a heap
abbrev pub HeapLaw : Type 0
HeapLaw = (old new : Heap) (id n : ℕ) (options : RoomOptions) (answered : Bool) → IsHeap old → Reallocates old id n options answered new → IsHeap new

abbrev pub KindHeapLaw : Type 0
KindHeapLaw = (old : Heap) (id : ℕ) (kind : Kind) → IsHeap old → IfOk (after_modify old id kind) IsHeap

abbrev pub DiscardHeapLaw : Type 0
DiscardHeapLaw = (old : Heap) (id : ℕ) → IsHeap old → IfOk (after_discard old id) IsHeap

-- an answered one keeps the rest
abbrev pub RestLaw : Type 0
RestLaw = (old new : Heap) (id n : ℕ) (options : RoomOptions) → IsHeap old → Reallocates old id n options true new → IsSomeAnd (object_at old id) (λ o. KeepsRest old id n o options new)

-- discards are fewest
abbrev pub FewestLaw : Type 0
FewestLaw = (old new : Heap) (id n : ℕ) (options : RoomOptions) (answered : Bool) → IsHeap old → Reallocates old id n options answered new → IsSomeAnd (object_at old id) (λ o. ReallocatesFewest old id n o options answered new)

-- little is moved
abbrev pub MovesLaw : Type 0
MovesLaw = (old new : Heap) (id n : ℕ) (options : RoomOptions) → IsHeap old → Reallocates old id n options true new → IsSomeAnd (object_at old id) (λ o. MovesLittle old id n o options new)

-- one that is answered somehow is never refused, and a refused one changes nothing
abbrev pub OneOutcomeLaw : Type 0
OneOutcomeLaw = (old new : Heap) (id n : ℕ) (options : RoomOptions) → Reallocates old id n options false new → (new ≡ old) × ((other : Heap) → Reallocates old id n options true other → ⊥)

-- a change of kind is refused for a fixed object, and for the kind Fixed; else it changes the kind and the order alone
abbrev pub KindLaw : Type 0
KindLaw = (old : Heap) (id : ℕ) (kind : Kind) → IsHeap old → IfSome (object_at old id) (λ o.
    ((is_fixed o.kind || is_fixed kind) ≡ true → after_modify old id kind ≡ Err refusals.Fixed)
    × ((is_fixed o.kind || is_fixed kind) ≡ false → (new : Heap) × (after_modify old id kind ≡ Ok new) × ChangesKind old id o kind new))
