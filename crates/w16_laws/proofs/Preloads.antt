-- A discardable segment that a load filled loses its bytes to a later one only after all that was there before and may be discarded.
use Rattle.w16_loading.proofs
use proofs.Common as C
use proofs.Fillings as M
use proofs.Common.{◌≡◌, ◌≢◌, ℕ, zero, suc, inl, inr, ◌⊎◌, ◌==◌, ◌&&◌, ◌||◌, Bool, true, false, cond, not, List, [], ◌∷◌, ◌++◌, fold, filter, take, Option, Some, None, IsSomeAnd, is_some, refl, sym, ap, ◌∙◌, subst, false≢true, Discardable, Heap, Object, object_at, bytes_at, bytes_in}
use proofs.Common.{blocks, Member, Filling, Fills, Block}
use proofs.Undone.{parted}
use Rattle.std.specs.List.{list_any}
use Rattle.w16_model.specs.{Discards.is_about, Discards.is_pinned_id, Gap.is_pinned, Gap.holds_still, declared.Hold.TheVariants.Pinned, declared.Hold.TheVariants.Loose, Heap.is_discardable}
use Rattle.w16_model.proofs.{Common.hold_of_object, Heaps.member_block}

any_member : {X : Type 0} (p : X → Bool) (xs : List X) → list_any p xs ≡ true → (x : X) × Member x xs × (p x ≡ true)
any_member p [] t = absurd (false≢true t)
any_member p (y ∷ ys) t = turn _ refl t (λ more. any_member p ys more)
  where
    turn : (b : Bool) → p y ≡ b → (b || list_any p ys) ≡ true → (list_any p ys ≡ true → (x : _) × Member x ys × (p x ≡ true)) → (x : _) × Member x (y ∷ ys) × (p x ≡ true)
    turn true e t rest = (y, inl refl, e)
    turn false e t rest = let r = rest t in (r.0, inr r.1, r.2)

-- what isn't pinned is no pinned block
loose_id : (heap : Heap) (q : ℕ) (o : Object) → object_at heap q ≡ Some o → C.is_pinned_object o ≡ false → is_pinned_id (blocks heap) q ≡ false
loose_id heap q o there loose = elim (C.cases_Bool (is_pinned_id (blocks heap) q)) [ inr t ↦ t | inl t ↦ absurd (never (any_member (λ x. x.id == q && is_pinned x) (blocks heap) t)) ]
  where
    never : (x : Block) × Member x (blocks heap) × ((x.id == q && is_pinned x) ≡ true) → ⊥
    never (x, m, t) =
        let parts : C.IsTrue (x.id == q) × C.IsTrue (is_pinned x) = C.and_parts (x.id == q) (is_pinned x) t in
        let b = member_block heap x m in
        let same : b.object ≡ o = (let e : Some b.object ≡ Some o = sym b.is_there ∙ ap (object_at heap) (C.eqb-true x.id q parts.0) ∙ there in cc) in
        false≢true (sym (ap holds_still (b.hold ∙ ap hold_of_object same) ∙ ap (λ p. holds_still (cond p Pinned Loose)) loose) ∙ parts.1)

module _ (x q : ℕ) where
  -- in the order of use no q comes after an x
  abbrev IsLast : List ℕ → Type 0
  IsLast [] = Unit {0}
  IsLast (y ∷ ys) = (y ≡ x → Member q ys → ⊥) × IsLast ys

  last_filter : (p : ℕ → Bool) (xs : List ℕ) → IsLast xs → IsLast (filter p xs)
  last_filter p [] h = tt
  last_filter p (y ∷ ys) h = turn (p y) (last_filter p ys h.1)
    where
      turn : (b : Bool) → IsLast (filter p ys) → IsLast (cond {A = List ℕ} b (y ∷ filter p ys) (filter p ys))
      turn true r = (λ e m. h.0 e (C.member_filter p ys q m).0, r)
      turn false r = r

  last_then : (xs : List ℕ) (z : ℕ) → q ≢ z → IsLast xs → IsLast (xs ++ z ∷ [])
  last_then [] z d h = (λ e m. m, tt)
  last_then (y ∷ ys) z d h = (λ e m. elim (parted q ys (z ∷ []) m) [ inl a ↦ h.0 e a | inr (inl s) ↦ d s | inr (inr n) ↦ n ], last_then ys z d h.1)

  none_last : (xs : List ℕ) → (Member x xs → ⊥) → IsLast xs
  none_last [] out = tt
  none_last (y ∷ ys) out = (λ e m. out (inl (sym e)), none_last ys (λ m. out (inr m)))

  last_absent : (ids : List ℕ) (heap : Heap) → IsLast heap.order → IsLast (fold C.absent heap ids).order
  last_absent [] heap h = h
  last_absent (id ∷ ids) heap h = last_absent ids (C.absent heap id) (last_filter (λ r. not (r == id)) heap.order h)

  -- so where an x is among the first, all of q are
  in_take : (k : ℕ) (xs : List ℕ) → IsLast xs → Member x (take k xs) → Member q xs → Member q (take k xs)
  in_take zero xs h m n = absurd m
  in_take (suc k) [] h m n = absurd n
  in_take (suc k) (y ∷ ys) h m (inl e) = inl e
  in_take (suc k) (y ∷ ys) h (inl e) (inr n) = absurd (h.0 (sym e) n)
  in_take (suc k) (y ∷ ys) h (inr m) (inr n) = inr (in_take k ys h.1 m n)

  abbrev pub MayLose : Heap → Type 0
  MayLose heap = IsSomeAnd (object_at heap q) (λ o. (o.kind ≡ Discardable) × (o.locks ≡ 0))

  record IsAfter (heap : Heap) : Type 0 where
    may : MayLose heap
    last : IsLast heap.order
    lost : bytes_at heap x ≡ None → bytes_at heap q ≡ None

  module _ (a : Heap) (slot : ℕ) (bytes : List ℕ) (b : Heap) (is : C.IsHeap a) (f : Fills a slot bytes true b) (d : q ≢ slot) (may : MayLose a) where
    its : (o : Object) × (object_at a q ≡ Some o) × (o.kind ≡ Discardable) × (o.locks ≡ 0)
    its = turn (object_at a q) refl may
      where
        turn : (p : Option Object) → object_at a q ≡ p → IsSomeAnd p (λ o. (o.kind ≡ Discardable) × (o.locks ≡ 0)) → (o : Object) × (object_at a q ≡ Some o) × (o.kind ≡ Discardable) × (o.locks ≡ 0)
        turn None e h = absurd h
        turn (Some o) e h = (o, e, h.0, h.1)

    -- q is as it was, or has lost its bytes alone
    now : (object_at b q ≡ Some its.0) ⊎ (object_at b q ≡ Some (record its.0 { bytes = None }))
    now = elim (M.filled_other a slot bytes b f is q d) [ inl e ↦ inl (e ∙ its.1) | inr l ↦ inr ((subst (λ p. IsSomeAnd p (M.IsLost b q)) its.1 l).3) ]

    may_then : MayLose b
    may_then = elim now [
      | inl e ↦ subst (λ p. IsSomeAnd p (λ o. (o.kind ≡ Discardable) × (o.locks ≡ 0))) (sym e) (its.2, its.3)
      | inr e ↦ subst (λ p. IsSomeAnd p (λ o. (o.kind ≡ Discardable) × (o.locks ≡ 0))) (sym e) (its.2, its.3)
    ]

    none_stays : bytes_at a q ≡ None → bytes_at b q ≡ None
    none_stays none = elim now [ inl e ↦ ap bytes_in e ∙ ap bytes_in (sym its.1) ∙ none | inr e ↦ ap bytes_in e ]

    abbrev listed : List ℕ
    listed = C.eligible (blocks a) a.order (Some slot)

    settled_k : (k : ℕ) × (o : Object) × C.Settles a (C.stays_for slot C.revival_options) (C.with_ordered (C.discarded a k (Some slot)) slot o (C.with_newest slot o)) b
    settled_k = M.settled_so a slot bytes b f

    abbrev order_before : List ℕ
    order_before = (C.discarded a settled_k.0 (Some slot)).order

    order_is : b.order ≡ C.with_newest slot settled_k.1 order_before
    order_is = ap (λ h. h.order) settled_k.2.same

    abbrev rest_before : List ℕ
    rest_before = filter (λ r. not (r == slot)) order_before

    -- the order once the slot is the newest
    last_newest : (c : Bool) → IsLast rest_before → IsLast (cond {A = List ℕ} c (rest_before ++ slot ∷ []) rest_before)
    last_newest true h = last_then rest_before slot d h
    last_newest false h = h

    last_then_of : IsLast rest_before → IsLast b.order
    last_then_of h = subst IsLast (sym order_is) (last_newest (C.is_in_order (Some settled_k.1)) h)

    -- where the segment itself is filled
    filled_now : slot ≡ x → IsAfter b
    filled_now same = record {
      may = may_then;
      last = last_then_of (none_last rest_before (λ m. false≢true (sym (ap not (C.eq-eqb x slot (sym same))) ∙ (C.member_filter (λ r. not (r == slot)) order_before x m).1)));
      lost = λ e. let g : ◌≡◌ {A = Option (List ℕ)} None (Some bytes) = sym e ∙ ap (bytes_at b) (sym same) ∙ ap bytes_in (M.filled_object a slot bytes b f) in cc;
    }

    -- where another is
    filled_then : IsAfter a → IsAfter b
    filled_then h = record {
      may = may_then;
      last = last_then_of (last_filter (λ r. not (r == slot)) order_before (last_absent (take settled_k.0 listed) a h.last));
      lost = lost_then;
    }
      where
        others : (k : ℕ) × C.KeepsOthers a (Some slot) k b
        others = M.filled_others a slot bytes b f is

        loose : C.is_pinned_object its.0 ≡ false
        loose = ap (λ k. C.is_fixed k || C.nat_lt 0 its.0.locks) its.2 ∙ ap (C.nat_lt 0) its.3

        q_eligible : is_some (bytes_at a q) ≡ true → Member q listed
        q_eligible some = C.filter_member (λ r. not (is_pinned_id (blocks a) r) && not (is_about (Some slot) r)) a.order q
            (C.is_member-true q a.order (is.in_order q ∙ ap C.is_in_order its.1 ∙ ap (λ k. is_discardable k && is_some its.0.bytes) its.2 ∙ ap is_some (sym (ap bytes_in its.1)) ∙ some))
            (ap (λ t. not t && not (q == slot)) (loose_id a q its.0 its.1 loose) ∙ ap not (C.ne_eqb q slot d))

        also : C.is_member x (take others.0 listed) ≡ true → (p : Option (List ℕ)) → bytes_at a q ≡ p → bytes_at b q ≡ None
        also t None e = none_stays e
        also t (Some c) e =
            let m : Member q (take others.0 listed) = in_take others.0 listed (last_filter (λ r. not (is_pinned_id (blocks a) r) && not (is_about (Some slot) r)) a.order h.last)
            (C.is_member-true x (take others.0 listed) t) (q_eligible (ap is_some e)) in
            ap bytes_in (subst (λ p. IsSomeAnd p (M.IsLost b q)) its.1 (others.1.discarded q (C.true-is_member q (take others.0 listed) m))).3

        lost_then : bytes_at b x ≡ None → bytes_at b q ≡ None
        lost_then e = elim (C.cases_eq x slot) [
          | inl same ↦ absurd (full (sym e ∙ ap (bytes_at b) same ∙ ap bytes_in (M.filled_object a slot bytes b f)))
          | inr apart ↦ elim (C.cases_Bool (C.is_member x (take others.0 listed))) [
            | inl t ↦ also t (bytes_at a q) refl
            | inr t ↦ none_stays (h.lost (sym (ap bytes_in (others.1.kept x (λ s. apart (sym (its_slot s))) (λ u. false≢true (sym t ∙ u)))) ∙ e))
          ]
        ]
          where
            full : ◌≡◌ {A = Option (List ℕ)} None (Some bytes) → ⊥
            full e = cc

            its_slot : Some slot ≡ Some x → slot ≡ x
            its_slot e = cc

  -- All of a load.
  pub all_after : (answers : C.Answers) (old new : Heap) (xs : List Filling) (y : Filling) → Member y xs → y.slot ≡ x → ((z : Filling) → Member z xs → q ≢ z.slot) → C.IsHeap old → C.InTurn (C.GivesFrom Fills answers) old xs None new → MayLose old → bytes_at new x ≡ None → bytes_at new q ≡ None
  all_after answers old new [] y m e out is f may none = absurd m
  all_after answers old new (z ∷ zs) y m e out is (Some fault, next, g, rest) may lost = let none : ◌≡◌ {A = Option C.Failure} None (Some (record { place = z.place; fault = fault })) = rest.0 in cc
  all_after answers old new (z ∷ zs) y (inl same) e out is (None, next, g, rest) may none =
      let first : IsAfter next = filled_now old z.slot g.0 next is g.3 (out z (inl refl)) may ((λ i. (sym same i).slot) ∙ e) in
      let last : IsAfter new = (M.any_do answers (λ a b. IsAfter a → IsAfter b) (λ a h. h) (λ a b c s t h. t (s h)) next new zs None (M.filled_heap old z.slot g.0 next g.3)
      (λ w n a b here read long again f h. filled_then a w.slot read b here f (out w (inr n)) h.may h) rest).0 first in
      last.lost none
  all_after answers old new (z ∷ zs) y (inr m) e out is (None, next, g, rest) may none = all_after answers next new zs y m e (λ w n. out w (inr n)) (M.filled_heap old z.slot g.0 next g.3) rest (may_then old z.slot g.0 next is g.3 (out z (inl refl)) may) none
