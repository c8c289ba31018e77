-- What becomes of a heap while objects get bytes: of one, and of several, one after another.
use Rattle.w16_loading.proofs
use proofs.Common as C
use proofs.Common.{◌≡◌, ◌≢◌, ℕ, inl, inr, ◌⊎◌, true, false, List, [], ◌∷◌, length, fold, take, Option, Some, None, IsSomeAnd, is_some, refl, sym, ap, ◌∙◌, subst, false≢true, Heap, Object, IsHeap, object_at, with_newest, absent, Request, Asked, discarded, discards_needed, IsKeptOrDiscarded}
use proofs.Common.{revival_options, settled, FetchFault, Fills, Filling, Failure, InTurn, Store, IsSized, bytes_at, bytes_in, sized_is, slots_for}
use Rattle.std.specs.List.{AllByRecursion as Each}
use Rattle.w16_loading.specs.Answers.{Answers, FetchesFrom, GivesFrom, GivesRead, IsOwnedSize}

-- a request that is refused leaves the same heap
refused : (old : Heap) (h : ℕ) (asked : Asked) (new : Heap) → Request old h asked false new → new ≡ old
refused old h asked new = turn _
  where
    turn : (prefix : Option ℕ) → Request old h (record asked { prefix = prefix }) false new → new ≡ old
    turn None r = r.1
    turn (Some k) r = absurd (false≢true r.0)

-- one object gets bytes that were read for it, or nothing changes
pub one_outcome : (MayFail : FetchFault → Type 0) (IsSized IsRead : List ℕ → Type 0) (old : Heap) (slot : ℕ) (fault : Option FetchFault) (new : Heap) → GivesRead Fills MayFail IsSized IsRead old slot fault new
    → (is_some fault ≡ true → new ≡ old) × ((new ≡ old) ⊎ ((read : List ℕ) × IsSized read × IsRead read × Fills old slot read true new))
one_outcome MayFail IsSized IsRead old slot None new f = (λ t. absurd (false≢true t), inr f)
one_outcome MayFail IsSized IsRead old slot (Some C.NoRoom) new (read, sized, f) = let e = refused old slot (C.asked_of old _ f.before _) new f.request in (λ t. e, inl e)
one_outcome MayFail IsSized IsRead old slot (Some Store) new f = (λ t. f.1, inl f.1)
one_outcome MayFail IsSized IsRead old slot (Some C.Damaged) new f = (λ t. f.1, inl f.1)

pub fetch_outcome : {answers : Answers} {old : C.LoadingWorld} {slot : ℕ} {fault : Option FetchFault} {new : C.LoadingWorld} → FetchesFrom Fills answers old slot fault new
    → (is_some fault ≡ true → new ≡ old) × ((new ≡ old) ⊎ ((read : List ℕ) × IsOwnedSize old slot read × answers.gives old slot read × Fills old.handles.heap slot read true new.handles.heap))
fetch_outcome {answers} {old} {slot} {fault} {new} f =
    let o = one_outcome answers.fails _ _ _ slot fault _ f.given in
    (λ t. same (o.0 t), elim o.1 [ inl e ↦ inl (same e) | inr g ↦ inr g ])
  where
    same : new.handles.heap ≡ old.handles.heap → new ≡ old
    same e = f.rest ∙ ap (C.with_heap old) e

module _ (old : Heap) (slot : ℕ) (bytes : List ℕ) (new : Heap) (f : Fills old slot bytes true new) where
  pub settled_so : (k : ℕ) × (o : Object) × C.Settles old (C.stays_for slot revival_options) (C.with_ordered (discarded old k (Some slot)) slot o (with_newest slot o)) new
  settled_so = settled old slot revival_options (discards_needed old (length bytes) (Some slot) revival_options) (λ o. o ≡ record f.before { bytes = Some bytes }) (with_newest slot) new f.request

  -- an object that was filled is as before, with these bytes
  pub filled_object : object_at new slot ≡ Some (record f.before { bytes = Some bytes })
  filled_object = turn (discards_needed old (length bytes) (Some slot) revival_options) f.request
    where
      turn : (p : Option ℕ) → Request old slot (record (C.asked_of old slot f.before bytes) { prefix = p }) true new → object_at new slot ≡ Some (record f.before { bytes = Some bytes })
      turn None r = absurd (false≢true (sym r.0))
      turn (Some k) r = ap (λ (h : Heap). object_at h slot) r.1.2.same ∙ C.inserted_here (discarded old k (Some slot)).objects slot r.1.0 slot refl ∙ ap Some r.1.1

  pub filled_heap : IsHeap new
  filled_heap = settled_so.2.sound

  -- and all others are kept or discarded
  pub filled_others : IsHeap old → (k : ℕ) × C.KeepsOthers old (Some slot) k new
  filled_others is = (settled_so.0, (C.others_law old new is settled_so.0).0 slot revival_options settled_so.1 (with_newest slot settled_so.1) settled_so.2)

  pub filled_other : IsHeap old → (q : ℕ) → q ≢ slot → IsKeptOrDiscarded old new q
  filled_other is q d = C.kept_or_discarded old new (Some slot) (filled_others is).0 q (filled_others is).1 (λ e. d (same e))
    where
      same : Some slot ≡ Some q → q ≡ slot
      same e = let i : slot ≡ q = cc in sym i

-- What holds of one heap and the next where an object was filled, and of each heap and itself, holds of the first heap and the last.
module _ (answers : Answers) (P : Heap → Heap → Type 0) (same : (h : Heap) → P h h) (then : (a b c : Heap) → P a b → P b c → P a c) where
  one_does : (old : Heap) (slot : ℕ) (held : List ℕ) (fault : Option FetchFault) (new : Heap) → IsHeap old → ((read : List ℕ) → length read ≡ length held → answers.again held read → Fills old slot read true new → P old new)
      → GivesFrom Fills answers old slot held fault new → P old new × IsHeap new
  one_does old slot held fault new is does g = elim (one_outcome answers.fails (λ read. length read ≡ length held) (answers.again held) old slot fault new g).1 [
    | inl e ↦ (subst (P old) (sym e) (same old), subst IsHeap (sym e) is)
    | inr (read, long, again, filled) ↦ (does read long again filled, filled_heap old slot read new filled)
  ]

  pub any_do : (old new : Heap) (xs : List Filling) (failure : Option Failure) → IsHeap old
      → ((x : Filling) → C.Member x xs → (a b : Heap) → IsHeap a → (read : List ℕ) → length read ≡ length x.bytes → answers.again x.bytes read → Fills a x.slot read true b → P a b)
      → InTurn (GivesFrom Fills answers) old xs failure new → P old new × IsHeap new
  any_do old new [] failure is does f = (subst (P old) (sym f.1) (same old), subst IsHeap (sym f.1) is)
  any_do old new (x ∷ xs) failure is does (None, next, g, rest) =
      let first = one_does old x.slot x.bytes None next is (does x (inl refl) old next is) g in
      let more = any_do next new xs failure first.1 (λ y m. does y (inr m)) rest in (then old next new first.0 more.0, more.1)
  any_do old new (x ∷ xs) failure is does (Some fault, next, g, rest) =
      let first = one_does old x.slot x.bytes (Some fault) next is (does x (inl refl) old next is) g in (subst (P old) (sym rest.1) first.0, subst IsHeap (sym rest.1) first.1)

-- the heap that is left
pub one_heap : (answers : Answers) (old : Heap) (slot : ℕ) (held : List ℕ) (fault : Option FetchFault) (new : Heap) → IsHeap old → GivesFrom Fills answers old slot held fault new → IsHeap new
one_heap answers old slot held fault new is f = (one_does answers (λ a b. Unit {0}) (λ h. tt) (λ a b c x y. tt) old slot _ _ new is (λ read long again filled. tt) f).1

-- One way to give bytes as another, in such heaps.
pub in_turn_so : (f g : C.Giving) (Is : Heap → Type 0) → ((old : Heap) (slot : ℕ) (bytes : List ℕ) (fault : Option FetchFault) (new : Heap) → Is old → f old slot bytes fault new → g old slot bytes fault new × Is new)
    → (old new : Heap) (xs : List Filling) (failure : Option Failure) → Is old → InTurn f old xs failure new → InTurn g old xs failure new
in_turn_so f g Is turns old new [] failure is h = h
in_turn_so f g Is turns old new (x ∷ xs) failure is (None, next, one, rest) =
    let r = turns old _ _ _ _ is one in (None, next, r.0, in_turn_so f g Is turns _ new xs _ r.1 rest)
in_turn_so f g Is turns old new (x ∷ xs) failure is (Some fault, next, one, rest) = (Some _, next, (turns old _ _ _ _ is one).0, rest)

-- Objects that get none are kept, or discarded.

abbrev pub IsLost : Heap → ℕ → Object → Type 0
IsLost new q o = (o.kind ≡ C.Discardable) × (o.locks ≡ 0) × (is_some o.bytes ≡ true) × (object_at new q ≡ Some (record o { bytes = None }))

pub kept_then : (old next new : Heap) (q : ℕ) → IsKeptOrDiscarded old next q → IsKeptOrDiscarded next new q → IsKeptOrDiscarded old new q
kept_then old next new q (inl e) (inl f) = inl (f ∙ e)
kept_then old next new q (inl e) (inr h) = inr (subst (λ p. IsSomeAnd p (IsLost new q)) e h)
kept_then old next new q (inr h) (inl f) = inr (turn _ h)
  where
    turn : (p : Option Object) → IsSomeAnd p (IsLost next q) → IsSomeAnd p (IsLost new q)
    turn None h = h
    turn (Some o) h = (h.0, h.1, h.2, f ∙ h.3)
kept_then old next new q (inr h) (inr g) = absurd (turn _ h)
  where
    turn : (p : Option Object) → IsSomeAnd p (IsLost next q) → ⊥
    turn None h = h
    turn (Some o) h = false≢true (subst (λ p. IsSomeAnd p (IsLost new q)) h.3 g).2

-- Each object is still there.

pub lost : (old new : Heap) (q : ℕ) → IsKeptOrDiscarded old new q → is_some (object_at new q) ≡ is_some (object_at old q)
lost old new q (inl e) = ap is_some e
lost old new q (inr h) = turn _ h
  where
    turn : (p : Option Object) → IsSomeAnd p (IsLost new q) → is_some (object_at new q) ≡ is_some p
    turn None h = absurd h
    turn (Some o) h = ap is_some h.3

abbrev AreThere : Heap → Heap → Type 0
AreThere old new = (q : ℕ) → is_some (object_at new q) ≡ is_some (object_at old q)

pub filled_there : (old : Heap) (slot : ℕ) (bytes : List ℕ) (new : Heap) → IsHeap old → Fills old slot bytes true new → AreThere old new
filled_there old slot bytes new is f q = elim (C.cases_eq q slot) [
  | inl e ↦ ap is_some (ap (object_at new) e ∙ filled_object old _ _ new f) ∙ sym (ap is_some (ap (object_at old) e ∙ f.there))
  | inr d ↦ lost old new q (filled_other old _ _ new f is q d)
]

-- Where an object has as many slots as its new bytes need, it still has.

pub kept_sized : (old new : Heap) (q n : ℕ) → IsKeptOrDiscarded old new q → IsSized n (bytes_at old q) → IsSized n (bytes_at new q)
kept_sized old new q n (inl e) h = sized_is refl (ap bytes_in e) h
kept_sized old new q n (inr k) h = turn _ k
  where
    turn : (p : Option Object) → IsSomeAnd p (IsLost new q) → IsSized n (bytes_at new q)
    turn None k = absurd k
    turn (Some o) k = sized_is refl (ap bytes_in k.3) tt

pub filled_sized : (old : Heap) (slot : ℕ) (bytes : List ℕ) (new : Heap) → IsHeap old → Fills old slot bytes true new → (q n : ℕ) → (q ≡ slot → n ≡ slots_for (length bytes)) → IsSized n (bytes_at old q) → IsSized n (bytes_at new q)
filled_sized old slot bytes new is f q n enough h = elim (C.cases_eq q slot) [
  | inl e ↦ sized_is refl (ap bytes_in (ap (object_at new) e ∙ filled_object old _ _ new f)) (enough e)
  | inr d ↦ kept_sized old new q n (filled_other old _ _ new f is q d) h
]

-- The range and the grain stay.

pub record SameRange (old new : Heap) : Type 0 where
  pub lo : new.lo ≡ old.lo
  pub hi : new.hi ≡ old.hi
  pub grain : new.grain ≡ old.grain

pub same_range : (h : Heap) → SameRange h h
same_range h = record { lo = refl; hi = refl; grain = refl }

pub ranges : (old mid new : Heap) → SameRange old mid → SameRange mid new → SameRange old new
ranges old mid new a b = record { lo = b.lo ∙ a.lo; hi = b.hi ∙ a.hi; grain = b.grain ∙ a.grain }

absents_range : (ids : List ℕ) (heap : Heap) → SameRange heap (fold absent heap ids)
absents_range [] heap = same_range _
absents_range (id ∷ ids) heap = ranges _ (absent _ id) _ (record { lo = refl; hi = refl; grain = refl }) (absents_range ids _)

pub filled_range : (old : Heap) (slot : ℕ) (bytes : List ℕ) (new : Heap) → Fills old slot bytes true new → SameRange old new
filled_range old slot bytes new f =
    let s = settled_so old _ _ new f in
    let d = absents_range (take s.0 _) old in
    record { lo = ap (λ h. h.lo) s.2.same ∙ d.lo; hi = ap (λ h. h.hi) s.2.same ∙ d.hi; grain = ap (λ h. h.grain) s.2.same ∙ d.grain }

-- All of a load's.
module _ (answers : Answers) (old new : Heap) (xs : List Filling) (failure : Option Failure) (is : IsHeap old) (f : InTurn (GivesFrom Fills answers) old xs failure new) where
  pub any_kept : IsHeap new × ((q : ℕ) → Each (λ x. q ≢ x.slot) xs → IsKeptOrDiscarded old new q)
  any_kept = (
    (any_do answers (λ a b. Unit {0}) (λ h. tt) (λ a b c x y. tt) old new xs failure is (λ x m a b h read long again g. tt) f).1,
    λ q out. (any_do answers (λ a b. IsKeptOrDiscarded a b q) (λ h. inl refl) (λ a b c. kept_then a b c q) old new xs failure is (λ x m a b h read long again g. filled_other a x.slot read b g h q (C.Each-at (λ (x : Filling). q ≢ x.slot) xs out x m)) f).0,
  )

  pub any_there : AreThere old new
  any_there = (any_do answers AreThere (λ h q. refl) (λ a b c x y q. y q ∙ x q) old new xs failure is (λ x m a b h read long again g. filled_there a x.slot read b h g) f).0

  pub any_sized : (q n : ℕ) → ((x : Filling) → C.Member x xs → q ≡ x.slot → n ≡ slots_for (length x.bytes)) → IsSized n (bytes_at old q) → IsSized n (bytes_at new q)
  any_sized q n enough = (any_do answers (λ a b. IsSized n (bytes_at a q) → IsSized n (bytes_at b q)) (λ a k. k) (λ a b c x y k. y (x k)) old new xs failure is
      (λ x m a b h read long again g. filled_sized a x.slot read b h g q n (λ e. enough x m e ∙ ap slots_for (sym long))) f).0

  pub any_range : SameRange old new
  any_range = (any_do answers SameRange same_range ranges old new xs failure is (λ x m a b h read long again g. filled_range a x.slot read b g) f).0
