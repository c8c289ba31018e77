-- The cases of a reallocation, and the free bytes behind an object.
use Rattle.w16_model.proofs
use proofs.Common as C
use proofs.Gaps as M
use proofs.Common.{◌≡◌, ◌≢◌, ℕ, ◌+◌, ◌-◌, ◌<◌, ◌≤◌, ◌⊎◌, inl, inr, Bool, true, false, cond, not, ◌&&◌, ◌==◌, nat_le, MatchBool, IsTrue, IsSomeAnd, List, [], ◌∷◌, length, take, Option, Some, None, is_some, unwrap_or, refl, sym, ap, ◌∙◌, subst, arith, false≢true, Block, RoomOptions, Misses}
use proofs.Common.{is_any, block_end, first_from, hole_after, IsClear, fits_in_place, growth_for, Heap, Object, blocks, object_at, size_of, is_pinned_object, with_object, Asked, Request, Allocates, IsNew, IsGrown, StaysOrMovesToHole, ReallocatesObject, Grows, snapshot_of}
use proofs.Replaced.{MayLie, block_there, is_block_there, lies_there}
use proofs.{Gaps.Member, Gaps.Each-at, Heaps.block_member, Heaps.member_block, Places.same_id}
use Rattle.std.proofs.Common.{find}
use Rattle.std.specs.List.{AllByRecursion as Each}
use Rattle.std.specs.FinMap as finmap

-- the first that passes is the only one that does
find_only : {X : Type 0} (p : X → Bool) (xs : List X) (y : X) → Member y xs → p y ≡ true → ((x : X) → Member x xs → p x ≡ true → x ≡ y) → find p xs ≡ Some y
find_only p [] y m t only = absurd m
find_only {X} p (x ∷ xs) y m t only =
    elim (p x) as (λ b. p x ≡ b → cond {A = Option X} b (Some x) (find p xs) ≡ Some y) [
      | true ↦ λ e. ap Some (only x (inl refl) e)
      | false ↦ λ e. elim m [
        | inl same ↦ absurd (false≢true (sym e ∙ ap p (sym same) ∙ t))
        | inr n ↦ find_only p xs y n t (λ z k. only z (inr k))
      ]
    ] refl

-- An object with bytes, and what is behind it.
module _ (old : Heap) (is : C.IsHeap old) (id : ℕ) (o : Object) (there : object_at old id ≡ Some o) (bytes : List ℕ) (has : o.bytes ≡ Some bytes) where
  abbrev pub place : ℕ
  place = unwrap_or (finmap.get old.places id) 0

  abbrev pub own : Block
  own = block_there old is id o there bytes has

  -- its address
  pub stands : finmap.get old.places id ≡ Some place
  stands = turn (finmap.get old.places id) (is.at_bytes id ∙ ap (λ (p : Option Object). is_some (elim p [ Some o ↦ o.bytes | None ↦ None ])) there ∙ ap is_some has)
    where
      turn : (p : Option ℕ) → is_some p ≡ true → p ≡ Some (unwrap_or p 0)
      turn None t = absurd (false≢true t)
      turn (Some at) t = refl

  -- its size
  pub size_is : size_of o ≡ length bytes
  size_is = ap (λ b. unwrap_or (C.option_map length b) 0) has

  abbrev lies : MayLie old id place (length bytes)
  lies = lies_there old is id o there bytes has

  own_member : Member own (blocks old)
  own_member = block_member old own (is_block_there old is id o there bytes has)

  found : find (λ x. x.id == id) (blocks old) ≡ Some own
  found = find_only (λ x. x.id == id) (blocks old) own own_member (C.eq-eqb id id refl) (λ x m t. same_id old x own (member_block old x m) (is_block_there old is id o there bytes has) (C.eqb-true x.id id t))

  fits_is : (n : ℕ) → fits_in_place (snapshot_of old) n id ≡ nat_le n (length bytes + hole_after old.hi (blocks old) (place + length bytes))
  fits_is n = ap (λ (p : Option Block). elim p [
    | Some x ↦ nat_le n (x.size + hole_after old.hi (blocks old) (block_end x))
    | None ↦ false
  ]) found

  abbrev Lies : Block → Type 0
  Lies x = (old.lo ≤ x.at) × (0 < x.size) × (block_end x ≤ old.hi)

  inside : (x : Block) → Member x (blocks old) → Lies x
  inside = Each-at Lies (blocks old) (M.Each-from_All _ (blocks old) is.placed.inside)

  -- another block is in front of it or behind
  beside : (x : Block) → Member x (blocks old) → (block_end x ≤ place + length bytes) ⊎ (place + length bytes ≤ x.at)
  beside x m = elim (cases_id x.id) [
    | inl e ↦ inl (from (same_id old x own (member_block old x m) (is_block_there old is id o there bytes has) e))
    | inr d ↦ elim (lies.apart x (member_block old x m) d) [ inl l ↦ inr l | inr l ↦ inl (omega arith) ]
  ]
    where
      cases_id : (q : ℕ) → (q ≡ id) ⊎ (q ≢ id)
      cases_id q = C.cases_eq q id

      from : x ≡ own → block_end x ≤ place + length bytes
      from e = let same : block_end x ≡ place + length bytes = ap block_end e in omega arith

  -- so many free bytes behind it are in a hole there, and the other way round
  hole_clear : (m : ℕ) → m ≤ hole_after old.hi (blocks old) (place + length bytes) → IsClear is_any old.lo old.hi (blocks old) (place + length bytes) (place + length bytes + m)
  hole_clear m le =
      let end : ℕ = place + length bytes in
      let below : (first_from is_any old.hi (blocks old) end ≤ old.hi) × Each (λ x. IsTrue true → end ≤ x.at → first_from is_any old.hi (blocks old) end ≤ x.at) (blocks old) = M.first_from-below is_any old.hi (blocks old) end (first_from is_any old.hi (blocks old) end) (omega arith) in
      record {
        above = omega (arith, lies.low);
        below = omega (arith, lies.high, below.0, le);
        misses = M.All-from_Each _ (blocks old) (M.Each-from (λ x. IsTrue true → Misses x.at x.size end (end + m)) (blocks old) (λ x k t. elim (beside x k) [
          | inl l ↦ inl l
          | inr l ↦ let far : first_from is_any old.hi (blocks old) end ≤ x.at = Each-at (λ y. IsTrue true → end ≤ y.at → first_from is_any old.hi (blocks old) end ≤ y.at) (blocks old) below.1 x k refl l in inr (omega (arith, le, l, far))
        ]));
      }

  clear_hole : (m : ℕ) → IsClear is_any old.lo old.hi (blocks old) (place + length bytes) (place + length bytes + m) → m ≤ hole_after old.hi (blocks old) (place + length bytes)
  clear_hole m clear =
      let end : ℕ = place + length bytes in
      let far : end + m ≤ first_from is_any old.hi (blocks old) end = M.first_from-greatest is_any old.hi (blocks old) end (end + m) clear.below
      (M.Each-from (λ x. IsTrue true → end ≤ x.at → end + m ≤ x.at) (blocks old) (λ x k t l. behind x.at x.size end m (inside x k).1 l (Each-at (λ y. IsTrue true → Misses y.at y.size end (end + m)) (blocks old) (M.Each-from_All _ (blocks old) clear.misses) x k refl))) in
      omega (arith, far)
    where
      behind : (at size end m : ℕ) → 0 < size → end ≤ at → Misses at size end (end + m) → end + m ≤ at
      behind at size end m some l f = grind arith

  -- the object fits where it stands just where the bytes behind it are free
  pub fits_free : (n : ℕ) → length bytes < n → fits_in_place (snapshot_of old) n id ≡ true → IsClear is_any old.lo old.hi (blocks old) (place + length bytes) (place + n)
  fits_free n long t =
      let le : n ≤ length bytes + hole_after old.hi (blocks old) (place + length bytes) = C.leb-true n (length bytes + hole_after old.hi (blocks old) (place + length bytes)) (sym (fits_is n) ∙ t) in
      let same : place + length bytes + (n - length bytes) ≡ place + n = omega arith in
      subst (λ e. IsClear is_any old.lo old.hi (blocks old) (place + length bytes) e) same (hole_clear (n - length bytes) (omega arith))

  pub free_fits : (n : ℕ) → length bytes < n → C.IsFreeBehind old id o n → fits_in_place (snapshot_of old) n id ≡ true
  free_fits n long free =
      let at : IsClear is_any old.lo old.hi (blocks old) (place + size_of o) (place + n) = subst (λ p. IsSomeAnd p (λ at. IsClear is_any old.lo old.hi (blocks old) (at + size_of o) (at + n))) stands free in
      let same : place + n ≡ place + length bytes + (n - length bytes) = omega arith in
      let clear : IsClear is_any old.lo old.hi (blocks old) (place + length bytes) (place + length bytes + (n - length bytes)) =
      subst (λ e. IsClear is_any old.lo old.hi (blocks old) (place + length bytes) e) same (subst (λ s. IsClear is_any old.lo old.hi (blocks old) (place + s) (place + n)) size_is at) in
      fits_is n ∙ C.le-leb n (length bytes + hole_after old.hi (blocks old) (place + length bytes)) (omega (arith, clear_hole (n - length bytes) clear))

-- The cases of a reallocation of an object.

-- it had no bytes
pub record Revives (old : Heap) (id n : ℕ) (o : Object) (options : RoomOptions) (answered : Bool) (new : Heap) : Type 0 where
  pub none : o.bytes ≡ None
  pub allocated : Allocates old id n o.kind o.locks options answered new

-- it is cut
pub record Cuts (old : Heap) (id n : ℕ) (o : Object) (answered : Bool) (new : Heap) : Type 0 where
  pub bytes : List ℕ
  pub has : o.bytes ≡ Some bytes
  pub short : n ≤ length bytes
  pub yes : answered ≡ true
  pub left : new ≡ with_object old id (record o { bytes = Some (take n bytes) })

-- it grows where it stands, or not
pub record Extends (old : Heap) (id n : ℕ) (o : Object) (options : RoomOptions) (answered : Bool) (new : Heap) : Type 0 where
  pub bytes : List ℕ
  pub has : o.bytes ≡ Some bytes
  pub long : length bytes < n
  pub held : (is_pinned_object o && not options.may_move) ≡ true
  pub outcome : ((fits_in_place (snapshot_of old) n id ≡ true) × (answered ≡ true) × ((grown : Object) × IsGrown options.zero n o grown × (new ≡ with_object old id grown)))
      ⊎ ((fits_in_place (snapshot_of old) n id ≡ false) × (answered ≡ false) × (new ≡ old))

-- it grows by a request
pub record Asks (old : Heap) (id n : ℕ) (o : Object) (options : RoomOptions) (answered : Bool) (new : Heap) : Type 0 where
  pub bytes : List ℕ
  pub has : o.bytes ≡ Some bytes
  pub long : length bytes < n
  pub held : (is_pinned_object o && not options.may_move) ≡ false
  pub request : Request old id (record { options = options; prefix = growth_for (snapshot_of old) n id options; becomes = IsGrown options.zero n o; order = λ _ order. order }) answered new
  pub stays : options.compact ≡ false → answered ≡ true → StaysOrMovesToHole old id n new

-- one of these
abbrev pub IsCase : Heap → ℕ → ℕ → Object → RoomOptions → Bool → Heap → Type 0
IsCase old id n o options answered new = Revives old id n o options answered new ⊎ (Cuts old id n o answered new ⊎ (Extends old id n o options answered new ⊎ Asks old id n o options answered new))

pub case_of : (old : Heap) (id n : ℕ) (o : Object) (options : RoomOptions) (answered : Bool) (new : Heap) → ReallocatesObject old id o n options answered new → IsCase old id n o options answered new
case_of old id n o options answered new step = turn _ refl step
  where
    grows : (bytes : List ℕ) → o.bytes ≡ Some bytes → length bytes < n → (held : Bool) → (is_pinned_object o && not options.may_move) ≡ held → (fits : Bool) → fits_in_place (snapshot_of old) n id ≡ fits
        → MatchBool held
        (MatchBool fits ((answered ≡ true) × ((grown : Object) × IsGrown options.zero n o grown × (new ≡ with_object old id grown))) ((answered ≡ false) × (new ≡ old)))
        (Request old id (record { options = options; prefix = growth_for (snapshot_of old) n id options; becomes = IsGrown options.zero n o; order = λ _ order. order }) answered new × (options.compact ≡ false → answered ≡ true → StaysOrMovesToHole old id n new))
        → IsCase old id n o options answered new
    grows bytes has long true t true f g = inr (inr (inl (record { bytes = bytes; has = has; long = long; held = t; outcome = inl (f, g.0, g.1) })))
    grows bytes has long true t false f g = inr (inr (inl (record { bytes = bytes; has = has; long = long; held = t; outcome = inr (f, g.0, g.1) })))
    grows bytes has long false t fits f g = inr (inr (inr (record { bytes = bytes; has = has; long = long; held = t; request = g.0; stays = g.1 })))

    sized : (bytes : List ℕ) → o.bytes ≡ Some bytes → (b : Bool) → nat_le n (length bytes) ≡ b
        → MatchBool b ((answered ≡ true) × (new ≡ with_object old id (record o { bytes = Some (take n bytes) }))) (Grows old id o n options answered new) → IsCase old id n o options answered new
    sized bytes has true t g = inr (inl (record { bytes = bytes; has = has; short = C.leb-true n _ t; yes = g.0; left = g.1 }))
    sized bytes has false t g = grows bytes has (C.leb-false n _ t) _ refl _ refl g

    turn : (b : Option (List ℕ)) → o.bytes ≡ b → C.MatchOption b (Allocates old id n o.kind o.locks options answered new)
        (λ bytes. MatchBool (nat_le n (length bytes)) ((answered ≡ true) × (new ≡ with_object old id (record o { bytes = Some (take n bytes) }))) (Grows old id o n options answered new)) → IsCase old id n o options answered new
    turn None has g = inl (record { none = has; allocated = g })
    turn (Some bytes) has g = sized bytes has _ refl g

-- One outcome.

-- a request by some number of discards, or by none
abbrev By : Heap → ℕ → Asked → Option ℕ → Bool → Heap → Type 0
By old id asked prefix answered new = Request old id (record asked { prefix = prefix }) answered new

-- one that is refused leaves the heap, and isn't answered
one_request : (old : Heap) (id : ℕ) (asked : Asked) (prefix : Option ℕ) (new : Heap) → By old id asked prefix false new → (new ≡ old) × ((other : Heap) → By old id asked prefix true other → ⊥)
one_request old id asked None new r = (r.1, λ other g. false≢true (sym g.0))
one_request old id asked (Some k) new r = absurd (false≢true r.0)

-- and so of each object
module _ (old : Heap) (id n : ℕ) (o : Object) (options : RoomOptions) where
  abbrev growth : Asked
  growth = record { options = options; prefix = growth_for (snapshot_of old) n id options; becomes = IsGrown options.zero n o; order = λ _ order. order }

  abbrev revival : Asked
  revival = record { options = options; prefix = C.discards_needed old n (Some id) options; becomes = IsNew options.zero n o.kind o.locks; order = C.with_newest id }

  abbrev Grown : Bool → Heap → Bool → Bool → Type 0
  Grown answered left held fits = MatchBool held
      (MatchBool fits ((answered ≡ true) × ((grown : Object) × IsGrown options.zero n o grown × (left ≡ with_object old id grown))) ((answered ≡ false) × (left ≡ old)))
      (Request old id growth answered left × (options.compact ≡ false → answered ≡ true → StaysOrMovesToHole old id n left))

  abbrev Sized : Bool → Heap → List ℕ → Bool → Type 0
  Sized answered left bytes b = MatchBool b ((answered ≡ true) × (left ≡ with_object old id (record o { bytes = Some (take n bytes) }))) (Grown answered left (is_pinned_object o && not options.may_move) (fits_in_place (snapshot_of old) n id))

  abbrev Whole : Bool → Heap → Option (List ℕ) → Type 0
  Whole answered left b = C.MatchOption b (Allocates old id n o.kind o.locks options answered left) (λ bytes. Sized answered left bytes (nat_le n (length bytes)))

  grown_once : (new : Heap) (held fits : Bool) → Grown false new held fits → (new ≡ old) × ((other : Heap) → Grown true other held fits → ⊥)
  grown_once new true true g = absurd (false≢true g.0)
  grown_once new true false g = (g.1, λ other h. false≢true (sym h.0))
  grown_once new false fits g =
      let one : (new ≡ old) × ((other : Heap) → Request old id growth true other → ⊥) = one_request old id growth (growth_for (snapshot_of old) n id options) new g.0 in
      (one.0, λ other h. one.1 other h.0)

  sized_once : (new : Heap) (bytes : List ℕ) (b : Bool) → Sized false new bytes b → (new ≡ old) × ((other : Heap) → Sized true other bytes b → ⊥)
  sized_once new bytes true g = absurd (false≢true g.0)
  sized_once new bytes false g = grown_once new (is_pinned_object o && not options.may_move) (fits_in_place (snapshot_of old) n id) g

  whole_once : (new : Heap) (b : Option (List ℕ)) → Whole false new b → (new ≡ old) × ((other : Heap) → Whole true other b → ⊥)
  whole_once new None g =
      let one : (new ≡ old) × ((other : Heap) → Request old id revival true other → ⊥) = one_request old id revival (C.discards_needed old n (Some id) options) new g.request in
      (one.0, λ other h. one.1 other h.request)
  whole_once new (Some bytes) g = sized_once new bytes (nat_le n (length bytes)) g

  one_outcome : (new : Heap) → ReallocatesObject old id o n options false new → (new ≡ old) × ((other : Heap) → ReallocatesObject old id o n options true other → ⊥)
  one_outcome new step = whole_once new o.bytes step

pub one_outcome_law : C.OneOutcomeLaw
one_outcome_law old new id n options step = turn _ refl step.object
  where
    turn : (p : Option Object) → object_at old id ≡ p → IsSomeAnd p (λ o. ReallocatesObject old id o n options false new) → (new ≡ old) × ((other : Heap) → C.Reallocates old id n options true other → ⊥)
    turn None there r = absurd r
    turn (Some o) there r =
        let one = one_outcome old id n o _ new r in
        (one.0, λ other h. one.1 other (subst (λ p. IsSomeAnd p (λ o. ReallocatesObject old id o n options true other)) there h.object))
