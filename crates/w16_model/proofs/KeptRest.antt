-- What an answered reallocation leaves of the object, of the others and of the order of use.
use Rattle.w16_model.proofs
use proofs.Common as C
use proofs.Common.{◌≡◌, ℕ, ◌-◌, ◌<◌, ◌≤◌, inl, inr, Bool, true, false, cond, not, ◌&&◌, ◌||◌, ◌==◌, IsSomeAnd, List, [], ◌∷◌, ◌++◌, length, take, filter, fold, Some, None, is_some, unwrap_or, refl, sym, ap, ◌∙◌, subst, arith, false≢true, length-take-le, take_all, repeated, is_member, Heap}
use proofs.Common.{Object, object_at, is_discardable, absent, without, with_ordered, with_newest, Asked, AreNew, IsNew, Settles, discarded, stays_for, AreResized, without_all, KeepsRest}
use proofs.Reallocations.{asked, by_case, none_discarded}
use proofs.{Gaps.Member, Gaps.member_filter, Discards.true-is_member, KeptHeaps.inserted_here, KindChanges.without_none, Others.others_law, Growth.IsCase}
use Rattle.std.proofs.Math.ListN.{drop_of_length-le}
use Rattle.w16_model.specs.Reallocation.{IsResized}

-- The order of use without some.

-- all stay where none goes
pub all_stay : (order : List ℕ) → filter (λ q. true) order ≡ order
all_stay [] = refl
all_stay (q ∷ order) = ap (λ l. q ∷ l) (all_stay order)

-- equality either way round
turned : (q id : ℕ) → (q == id) ≡ (id == q)
turned q id = elim (C.cases_eq q id) [
  | inl e ↦ C.eq-eqb q id e ∙ sym (C.eq-eqb id q (sym e))
  | inr d ↦ C.ne_eqb q id d ∙ sym (C.ne_eqb id q (λ e. d (sym e)))
]

-- one and then others, or all at once
module _ (id : ℕ) (ids : List ℕ) where
  one_more : (q : ℕ) (inner rest : List ℕ) → filter (λ r. not (is_member r ids)) inner ≡ rest → (b : Bool)
      → filter (λ r. not (is_member r ids)) (cond {A = List ℕ} (not b) (q ∷ inner) inner) ≡ cond {A = List ℕ} (not (b || is_member q ids)) (q ∷ rest) rest
  one_more q inner rest same true = same
  one_more q inner rest same false = ap (λ (l : List ℕ). cond {A = List ℕ} (not (is_member q ids)) (q ∷ l) l) same

  pub at_once : (order : List ℕ) → without_all ids (without id order) ≡ without_all (id ∷ ids) order
  at_once [] = refl
  at_once (q ∷ order) = one_more q (without id order) (without_all (id ∷ ids) order) (at_once order) (q == id)
      ∙ ap (λ b. cond {A = List ℕ} (not (b || is_member q ids)) (q ∷ without_all (id ∷ ids) order) (without_all (id ∷ ids) order)) (turned q id)

-- what discards leave of it
pub absents_order : (ids : List ℕ) (heap : Heap) → (fold absent heap ids).order ≡ without_all ids heap.order
absents_order [] heap = sym (all_stay _)
absents_order (id ∷ ids) heap = absents_order ids _ ∙ at_once id ids _

-- they leave the rest of the heap
pub absents_rest : (ids : List ℕ) (heap : Heap) → ((fold absent heap ids).lo ≡ heap.lo) × ((fold absent heap ids).hi ≡ heap.hi) × ((fold absent heap ids).grain ≡ heap.grain)
absents_rest [] heap = (refl, refl, refl)
absents_rest (id ∷ ids) heap = absents_rest ids _

pub no_more : (l : List ℕ) → l ++ [] ≡ l
no_more [] = refl
no_more (q ∷ l) = ap (λ m. q ∷ m) (no_more l)

-- The bytes.

grown_bytes : (zero : Bool) (n : ℕ) (before more : List ℕ) → length before < n → AreNew zero (n - length before) more → AreResized zero n before (before ++ more)
grown_bytes zero n before more long new = record {
  long = C.length-append _ more ∙ omega (arith, new.0, long);
  same = C.take_at _ more _ refl ∙ sym (take_all n _ (omega arith));
  zeros = λ t. C.drop_at before more _ refl ∙ new.2 t;
}

none_repeated : (m : ℕ) → m ≡ 0 → [] ≡ repeated m 0
unfolding repeated
none_repeated m e = ap (λ k. C.replicate k 0) (sym e)

cut_bytes : (zero : Bool) (n : ℕ) (before : List ℕ) → n ≤ length before → AreResized zero n before (take n before)
cut_bytes zero n before short = record {
  long = length-take-le n _ short;
  same = take_all _ _ (omega (arith, length-take-le n before short));
  zeros = λ _. drop_of_length-le (take n _) (omega (arith, length-take-le n before short)) ∙ none_repeated _ (omega arith);
}

new_bytes : (zero : Bool) (n : ℕ) (bytes : List ℕ) → AreNew zero n bytes → AreResized zero n [] bytes
new_bytes zero n bytes new = record { long = new.0; same = sym (take_all n [] (omega arith)); zeros = λ t. new.2 t ∙ ap (λ m. repeated m 0) (less_none n) }
  where
    less_none : (n : ℕ) → n ≡ n - 0
    less_none n = omega arith

-- The rest, where it is answered.
module _ (old : Heap) (is : C.IsHeap old) (id n : ℕ) (o : Object) (there : object_at old id ≡ Some o) (options : C.RoomOptions) (new : Heap) where
  -- what comes at the end of the order
  abbrev tail : List ℕ
  tail = cond {A = List ℕ} (C.is_revived o) (id ∷ []) []

  abbrev gone : ℕ → List ℕ
  gone k = take k (C.eligible (C.blocks old) old.order (Some id))

  -- an object that has bytes comes nowhere
  no_tail : (bytes : List ℕ) → o.bytes ≡ Some bytes → tail ≡ []
  no_tail bytes has = ap (λ b. cond {A = List ℕ} (not (is_some b) && is_discardable o.kind) (id ∷ []) []) has

  -- by a request
  from_request : (k : ℕ) (p : Object) (order : List ℕ → List ℕ) → Settles old (stays_for id options) (with_ordered (discarded old k (Some id)) id p order) new → IsResized options.zero n o p
      → order (without_all (gone k) old.order) ≡ without_all (gone k) old.order ++ tail → KeepsRest old id n o options new
  from_request k p order settles resized ordered = record {
    low = ap (λ (h : Heap). h.lo) settles.same ∙ (absents_rest (gone k) old).0;
    high = ap (λ (h : Heap). h.hi) settles.same ∙ (absents_rest (gone k) old).1;
    grain = ap (λ (h : Heap). h.grain) settles.same ∙ (absents_rest (gone k) old).2;
    object = subst (λ r. IsSomeAnd r (IsResized options.zero n o)) (sym (ap (λ (h : Heap). object_at h id) settles.same ∙ inserted_here (discarded old k (Some id)).objects id p id refl)) resized;
    count = k;
    others = (others_law old new is k).0 id options p order settles;
    order = ap (λ (h : Heap). h.order) settles.same ∙ ap order (absents_order (gone k) old) ∙ ordered;
  }

  -- in place
  from_object : (p : Object) → new ≡ C.with_object old id p → IsResized options.zero n o p → tail ≡ [] → KeepsRest old id n o options new
  from_object p left resized none = record {
    low = ap (λ (h : Heap). h.lo) left;
    high = ap (λ (h : Heap). h.hi) left;
    grain = ap (λ (h : Heap). h.grain) left;
    object = subst (λ r. IsSomeAnd r (IsResized options.zero n o)) (sym (ap (λ (h : Heap). object_at h id) left ∙ inserted_here old.objects id p id refl)) resized;
    count = 0;
    others = subst (C.KeepsOthers old (Some id) 0) (sym left) (none_discarded old id p);
    order = ap (λ (h : Heap). h.order) left ∙ sym (all_stay old.order) ∙ sym (no_more (filter (λ q. true) old.order)) ∙ ap (λ l. filter (λ q. true) old.order ++ l) (sym none);
  }

  -- a grown object
  grown_is : (bytes : List ℕ) → o.bytes ≡ Some bytes → length bytes < n → (p : Object) → C.IsGrown options.zero n o p → IsResized options.zero n o p
  grown_is bytes has long p g =
      let more : List ℕ = g.grown.0 in
      let size : C.size_of o ≡ length bytes = ap (λ b. unwrap_or (C.option_map length b) 0) has in
      let now : p.bytes ≡ Some (bytes ++ more) = g.grown.2 ∙ ap (C.option_map (λ bytes. bytes ++ more)) has in
      record {
        kind = g.same_kind;
        locks = g.same_locks;
        bytes = subst (λ r. IsSomeAnd r (AreResized options.zero n (unwrap_or o.bytes []))) (sym now)
            (subst (λ r. AreResized options.zero n (unwrap_or r []) (bytes ++ more)) (sym has) (grown_bytes options.zero n bytes more long (subst (λ m. AreNew options.zero (n - m) more) size g.grown.1)));
      }

  -- a revived one
  revived_is : o.bytes ≡ None → (p : Object) → IsNew options.zero n o.kind o.locks p → IsResized options.zero n o p
  revived_is none p made = record { kind = made.same_kind; locks = made.same_locks; bytes = turn p.bytes made.new_bytes }
    where
      turn : (b : C.Option (List ℕ)) → IsSomeAnd b (AreNew options.zero n) → IsSomeAnd b (AreResized options.zero n (unwrap_or o.bytes []))
      turn None h = h
      turn (Some bytes) h = subst (λ r. AreResized options.zero n (unwrap_or r []) bytes) (sym none) (new_bytes options.zero n bytes h)

  -- it is the newest if it is discardable
  revived_order : o.bytes ≡ None → (k : ℕ) (p : Object) → IsNew options.zero n o.kind o.locks p → with_newest id p (without_all (gone k) old.order) ≡ without_all (gone k) old.order ++ tail
  revived_order none k p made =
      let left : List ℕ = without_all (gone k) old.order in
      let out : without id left ≡ left = without_none id left (λ m. not_there (member_filter (λ q. not (is_member q (gone k))) old.order id m).0) in
      ap (λ b. cond {A = List ℕ} b (without id left ++ id ∷ []) (without id left)) listed ∙ ap (λ (l : List ℕ). cond {A = List ℕ} (is_discardable o.kind) (l ++ id ∷ []) l) out ∙ either (is_discardable o.kind) left
      ∙ ap (λ b. left ++ cond {A = List ℕ} (not (is_some b) && is_discardable o.kind) (id ∷ []) []) (sym none)
    where
      not_there : Member id old.order → ⊥
      not_there m = false≢true (sym (is.in_order id ∙ ap C.is_in_order there ∙ ap (λ b. is_discardable o.kind && is_some b) none ∙ never (is_discardable o.kind)) ∙ true-is_member id old.order m)
        where
          never : (b : Bool) → (b && false) ≡ false
          never true = refl
          never false = refl

      with_bytes : (b : C.Option (List ℕ)) → IsSomeAnd b (AreNew options.zero n) → is_some b ≡ true
      with_bytes None h = absurd h
      with_bytes (Some bytes) h = refl

      listed : (is_discardable p.kind && is_some p.bytes) ≡ is_discardable o.kind
      listed = (λ i. is_discardable (made.same_kind i) && with_bytes p.bytes made.new_bytes i) ∙ always (is_discardable o.kind)
        where
          always : (b : Bool) → (b && true) ≡ b
          always true = refl
          always false = refl

      either : (b : Bool) (l : List ℕ) → cond {A = List ℕ} b (l ++ id ∷ []) l ≡ l ++ cond {A = List ℕ} b (id ∷ []) []
      either true l = refl
      either false l = sym (no_more l)

  keeps_rest : IsCase old id n o options true new → KeepsRest old id n o options new
  keeps_rest (inl revives) =
      let what : Asked = record { options = options; prefix = C.discards_needed old n (Some id) options; becomes = IsNew options.zero n o.kind o.locks; order = with_newest id } in
      let r : (k : ℕ) × (what.prefix ≡ Some k) × ((p : Object) × what.becomes p × Settles old (stays_for id what.options) (with_ordered (discarded old k (Some id)) id p (what.order p)) new) = asked old id what new revives.allocated.request in
      from_request r.0 r.2.0 (with_newest id r.2.0) r.2.2 (revived_is revives.none r.2.0 r.2.1) (revived_order revives.none r.0 r.2.0 r.2.1)
  keeps_rest (inr (inl cuts)) =
      from_object (record o { bytes = Some (take n cuts.bytes) }) cuts.left
      (record { kind = refl; locks = refl; bytes = subst (λ r. AreResized options.zero n (unwrap_or r []) (take n cuts.bytes)) (sym cuts.has) (cut_bytes options.zero n cuts.bytes cuts.short) })
      (no_tail cuts.bytes cuts.has)
  keeps_rest (inr (inr (inl extends))) = elim extends.outcome [
    | inl fits ↦ from_object fits.2.0 fits.2.2 (grown_is extends.bytes extends.has extends.long fits.2.0 fits.2.1) (no_tail extends.bytes extends.has)
    | inr short ↦ absurd (false≢true (sym short.1))
  ]
  keeps_rest (inr (inr (inr asks))) =
      let what : Asked = record { options = options; prefix = C.growth_for (C.snapshot_of old) n id options; becomes = C.IsGrown options.zero n o; order = λ _ order. order } in
      let r : (k : ℕ) × (what.prefix ≡ Some k) × ((p : Object) × what.becomes p × Settles old (stays_for id what.options) (with_ordered (discarded old k (Some id)) id p (what.order p)) new) = asked old id what new asks.request in
      from_request r.0 r.2.0 (λ order. order) r.2.2 (grown_is asks.bytes asks.has asks.long r.2.0 r.2.1)
      (sym (no_more (without_all (gone r.0) old.order)) ∙ ap (λ l. without_all (gone r.0) old.order ++ l) (sym (no_tail asks.bytes asks.has)))

pub rest_law : C.RestLaw
rest_law old new id n options is step = by_case old new id n _ true (λ o. KeepsRest old id n o _ new) (λ o there c. keeps_rest old is id n o there _ new c) step
