-- Rings of ids in which the links of two numbers are exchanged.
use Rattle.w16_lru.proofs
use proofs.Common as C
use proofs.Ways as M
use proofs.Common.{swap, range_with_len, slice_index, ◌≡◌, ◌≢◌, ℕ, ◌+◌, ◌<◌, ◌⊎◌, Bool, true, false, cond, not, ◌&&◌, ◌||◌, ◌==◌, List, [], ◌∷◌, ◌++◌, refl, sym, ap, ◌∙◌, subst, arith, inl, inr, eq-eqb, true≢false, ne_eqb, cases_eq, Swapped, is_member, without, Leads, IsRing}
use Rattle.std.specs.List.{AllByRecursion as Each}

-- two ways of linking that lead back, once where two numbers lead is exchanged
module _ (count p x : ℕ) (f g h k : ℕ → ℕ) (p_in : p < count) (x_in : x < count)
    (forth : (q : ℕ) → q < count → (f q < count) × (g (f q) ≡ q)) (back : (q : ℕ) → q < count → (g q < count) × (f (g q) ≡ q))
    (one : Swapped f h p x) (other : Swapped g k (f p) (f x)) where
  exchanged_forth : (q : ℕ) → q < count → (h q < count) × (k (h q) ≡ q)
  exchanged_forth q lt = elim (cases_eq q p) [
    | inl e ↦ subst (λ q. (h q < count) × (k (h q) ≡ q)) (sym e) (subst (λ v. v < count) (sym one.0) (forth x x_in).0, ap k one.0 ∙ other.1 ∙ (forth p p_in).1)
    | inr no_p ↦ elim (cases_eq q x) [
      | inl e ↦ subst (λ q. (h q < count) × (k (h q) ≡ q)) (sym e) (subst (λ v. v < count) (sym one.1) (forth p p_in).0, ap k one.1 ∙ other.0 ∙ (forth x x_in).1)
      | inr no_x ↦
          let same = one.2 q no_p no_x in (
            subst (λ v. v < count) (sym same) (forth q lt).0,
            ap k same
                ∙ other.2 (f q) (λ e. no_p (sym (forth q lt).1 ∙ ap g e ∙ (forth p p_in).1)) (λ e. no_x (sym (forth q lt).1 ∙ ap g e ∙ (forth x x_in).1))
                ∙ (forth q lt).1,
          )
    ]
  ]

  exchanged_back : (v : ℕ) → v < count → (k v < count) × (h (k v) ≡ v)
  exchanged_back v lt = elim (cases_eq v (f p)) [
    | inl e ↦ subst (λ v. (k v < count) × (h (k v) ≡ v)) (sym e) (
      subst (λ q. q < count) (sym (other.0 ∙ (forth x x_in).1)) x_in,
      ap h (other.0 ∙ (forth x x_in).1) ∙ one.1,
    )
    | inr no_p ↦ elim (cases_eq v (f x)) [
      | inl e ↦ subst (λ v. (k v < count) × (h (k v) ≡ v)) (sym e) (
        subst (λ q. q < count) (sym (other.1 ∙ (forth p p_in).1)) p_in,
        ap h (other.1 ∙ (forth p p_in).1) ∙ one.0,
      )
      | inr no_x ↦
          let same = other.2 v no_p no_x in (
            subst (λ q. q < count) (sym same) (back v lt).0,
            ap h same
                ∙ one.2 (g v) (λ e. no_p (sym (back v lt).1 ∙ ap f e)) (λ e. no_x (sym (back v lt).1 ∙ ap f e))
                ∙ (back v lt).1,
          )
    ]
  ]

module _ (cap : ℕ) (after before ids : List ℕ) (ring : IsRing cap after before ids) (p x : ℕ) (p_in : p < cap + 1) (x_in : x < cap) where
  abbrev forward : List ℕ
  forward = swap after p x

  abbrev backward : List ℕ
  backward = swap before (slice_index after p) (slice_index after x)

  one : Swapped (slice_index after) (slice_index forward) p x
  one = let long = ring.after_long in C.swapped_from_swap after forward p x 0 (omega arith) (omega arith) refl

  other : Swapped (slice_index before) (slice_index backward) (slice_index after p) (slice_index after x)
  other =
      let long = ring.before_long in let a = (ring.forth p p_in).0 in let b = (ring.forth x (omega arith)).0 in
      C.swapped_from_swap before backward (slice_index after p) (slice_index after x) 0 (omega arith) (omega arith) refl

  below : Each (λ q. q < cap) ids
  below = C.Each-from_All (λ q. q < cap) ids ring.uses.below

  ring_of : (new : List ℕ) → Leads forward (slice_index forward cap) new cap → ((id : ℕ) → id < cap → is_member id new ≡ false → slice_index forward id ≡ id)
      → C.AreUses (record { cap = cap; ids = new }) → IsRing cap forward backward new
  ring_of new around alone uses = record {
    after_long = C.length-swap after p x ∙ ring.after_long;
    before_long = C.length-swap before (slice_index after p) (slice_index after x) ∙ ring.before_long;
    forth = exchanged_forth (cap + 1) p x (slice_index after) (slice_index before) (slice_index forward) (slice_index backward) p_in (omega arith) ring.forth ring.back one other;
    back = exchanged_back (cap + 1) p x (slice_index after) (slice_index before) (slice_index forward) (slice_index backward) p_in (omega arith) ring.forth ring.back one other;
    around = around;
    alone = alone;
    uses = uses;
  }

  -- the number before a member leads to the one behind it
  module _ (here : slice_index before x ≡ p) (linked : slice_index after x ≢ x) where
    to_x : slice_index after p ≡ x
    to_x = ap (slice_index after) (sym here) ∙ (ring.back x (omega arith)).1

    skipped : (q : ℕ) → q < cap + 1 → q ≢ x → slice_index forward q ≡ M.shorter after forward x cap x_in (slice_index after q)
    skipped q lt no_x = elim (cases_eq q p) [
      | inl e ↦ ap (slice_index forward) e ∙ one.0 ∙ sym (ap (λ t. cond t (slice_index after x) (slice_index after q)) (eq-eqb (slice_index after q) x (ap (slice_index after) e ∙ to_x)))
      | inr no_p ↦
          one.2 q no_p no_x
          ∙ sym (ap (λ t. cond t (slice_index after x) (slice_index after q)) (ne_eqb (slice_index after q) x (λ f. no_p (sym (ring.forth q lt).1 ∙ ap (slice_index before) f ∙ here))))
    ]

    left : (q : ℕ) → q < cap → is_member q (without x ids) ≡ false → slice_index forward q ≡ q
    left q lt none = elim (cases_eq q x) [
      | inl e ↦ ap (slice_index forward) e ∙ one.1 ∙ to_x ∙ sym e
      | inr no_x ↦
          let alone = ring.alone q lt (stays (is_member q ids) (q == x) (ne_eqb q x no_x) (sym (C.member_without q x ids) ∙ none)) in
          skipped q (omega arith) no_x
          ∙ ap (λ t. cond t (slice_index after x) (slice_index after q)) (ne_eqb (slice_index after q) x (λ f. no_x (sym alone ∙ f))) ∙ alone
    ]
      where
        stays : (m e : Bool) → e ≡ false → (m && not e) ≡ false → m ≡ false
        stays false e f h = refl
        stays true true f h = absurd (true≢false f)
        stays true false f h = h

    -- without one of its members
    pub ring-out : IsRing cap forward backward (without x ids)
    ring-out = ring_of (without x ids)
        (subst (λ q. Leads forward q (without x ids) cap) (sym (skipped cap (omega arith) (λ e. let f : cap ≡ x = e in absurd (omega arith))))
        (M.leads-shorter after forward x cap x_in (λ q lt no. skipped q (omega arith) no) linked (slice_index after cap) ids below ring.around))
        left
        record {
          below = C.All-filter (λ q. not (q == x)) (λ q. q < cap) ids ring.uses.below;
          apart = C.AllPairs-filter (λ a b. a ≡ b → ⊥) (λ q. not (q == x)) ids ring.uses.apart;
        }

  module _ (none : is_member x ids ≡ false) where
    others : Each (λ q. q ≢ x) ids
    others = M.each_other x ids none

    alone_x : slice_index after x ≡ x
    alone_x = ring.alone x x_in none

    taken : without x ids ≡ ids
    taken = C.without_absent x ids none

    -- what is alone, and isn't the front, stays so
    stay : (p ≡ cap) ⊎ (slice_index after p ≡ cap) → (q : ℕ) → q < cap → q ≢ x → slice_index after q ≡ q → slice_index forward q ≡ q
    stay front q lt no_x alone = one.2 q (no_p front) no_x ∙ alone
      where
        no_p : (p ≡ cap) ⊎ (slice_index after p ≡ cap) → q ≢ p
        no_p (inl e) f = let g : q ≡ p = f in absurd (omega arith)
        no_p (inr e) f = let g : q ≡ cap = sym alone ∙ ap (slice_index after) f ∙ e in absurd (omega arith)

    -- with one more, the oldest
    pub ring-oldest : p ≡ cap → IsRing cap forward backward (x ∷ ids)
    ring-oldest front = ring_of (x ∷ ids) (
      ap (slice_index forward) (sym front) ∙ one.0 ∙ alone_x,
      subst (λ q. Leads forward q ids cap) (sym (one.1 ∙ ap (slice_index after) front))
          (M.leads-same after forward x cap x_in (λ q lt no_x. one.2 q (λ e. let f : q ≡ p = e in absurd (omega arith)) no_x) (slice_index after cap) ids below others ring.around),
    )
        (λ q lt out. elim (cases_eq x q) [
          | inl e ↦ absurd (true≢false (sym (ap (λ t. t || is_member q ids) (eq-eqb x q e)) ∙ out))
          | inr apart ↦ stay (inl front) q lt (λ e. apart (sym e)) (ring.alone q lt (sym (ap (λ t. t || is_member q ids) (ne_eqb x q apart)) ∙ out))
        ])
        record {
          below = C.All-cons (λ q. q < cap) x ids x_in ring.uses.below;
          apart = subst (λ (l : List ℕ). C.AllPairs (λ a b. a ≡ b → ⊥) (x ∷ l)) taken (C.oldest_differ x ids ring.uses.apart);
        }

    -- and the newest
    pub ring-newest : slice_index after p ≡ cap → IsRing cap forward backward (ids ++ x ∷ [])
    ring-newest front = ring_of (ids ++ x ∷ [])
        (subst (λ q. Leads forward q (ids ++ x ∷ []) cap) (sym (lengthened cap (omega arith) (λ e. let f : cap ≡ x = e in absurd (omega arith))))
        (M.leads-longer after forward x cap x_in (λ q lt no. lengthened q (omega arith) no) (one.1 ∙ front) (slice_index after cap) ids below others ring.around))
        (λ q lt out. let apart = neither q ids out in stay (inr front) q lt (λ e. apart.1 (sym e)) (ring.alone q lt apart.0))
        record {
          below = C.All-append (λ q. q < cap) ids (x ∷ []) ring.uses.below (C.All-cons (λ q. q < cap) x [] x_in (C.All-nil (λ q. q < cap)));
          apart = subst (λ (l : List ℕ). C.AllPairs (λ a b. a ≡ b → ⊥) (l ++ x ∷ [])) taken (C.newest_differ x ids ring.uses.apart);
        }
      where
        lengthened : (q : ℕ) → q < cap + 1 → q ≢ x → slice_index forward q ≡ M.longer after forward x cap x_in (slice_index after q)
        lengthened q lt no_x = elim (cases_eq q p) [
          | inl e ↦ ap (slice_index forward) e ∙ one.0 ∙ alone_x ∙ sym (ap (λ t. cond t x (slice_index after q)) (eq-eqb (slice_index after q) cap (ap (slice_index after) e ∙ front)))
          | inr no_p ↦
              one.2 q no_p no_x
              ∙ sym (ap (λ t. cond t x (slice_index after q)) (ne_eqb (slice_index after q) cap (λ f. no_p (sym (ring.forth q lt).1 ∙ ap (slice_index before) (f ∙ sym front) ∙ (ring.forth p p_in).1))))
        ]

        neither : (q : ℕ) (l : List ℕ) → is_member q (l ++ x ∷ []) ≡ false → (is_member q l ≡ false) × (x ≢ q)
        neither q [] out = (refl, λ e. true≢false (sym (ap (λ t. t || false) (eq-eqb x q e)) ∙ out))
        neither q (y ∷ l) out = both (y == q) (is_member q l) (is_member q (l ++ x ∷ [])) (neither q l) out
          where
            both : (t m n : Bool) → (n ≡ false → (m ≡ false) × (x ≢ q)) → (t || n) ≡ false → ((t || m) ≡ false) × (x ≢ q)
            both true m n h f = absurd (true≢false f)
            both false m n h f = h f

-- with no member each number is linked to itself
pub ring-empty : (cap : ℕ) (after before : List ℕ) → after ≡ range_with_len 0 (cap + 1) → before ≡ range_with_len 0 (cap + 1) → IsRing cap after before []
ring-empty cap after before e f = rw (e, f) numbered
  where
    self : (q : ℕ) → q < cap + 1 → slice_index (range_with_len 0 (cap + 1)) q ≡ q
    self q lt = let e = C.get_or-range_with_len 0 (cap + 1) q 0 lt in omega arith

    numbered : IsRing cap (range_with_len 0 (cap + 1)) (range_with_len 0 (cap + 1)) []
    numbered =
        let lead : C.LeadBack (cap + 1) (range_with_len 0 (cap + 1)) (range_with_len 0 (cap + 1)) =
        λ q lt. (subst (λ k. k < cap + 1) (sym (self q lt)) lt, ap (slice_index (range_with_len 0 (cap + 1))) (self q lt) ∙ self q lt) in record {
          after_long = C.length-range_with_len 0 (cap + 1);
          before_long = C.length-range_with_len 0 (cap + 1);
          forth = lead;
          back = lead;
          around = self cap (omega arith);
          alone = λ id lt none. self id (omega arith);
          uses = record { below = C.All-nil (λ q. q < cap); apart = λ i j d lt within. absurd (omega arith) };
        }
