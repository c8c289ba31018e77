-- What the references of new modules mean, by module.
use Rattle.w16_loader.proofs.Common as C
use Rattle.w16_loader.proofs.Common.{◌≡◌, ◌≢◌, ℕ, ◌+◌, ◌<◌, ◌==◌, inl, inr, ◌⊎◌, cond, List, [], ◌∷◌, ◌++◌, length, get_or, set, map, take, sym, ap, ◌∙◌, subst, arith, get_or-map, length-set, handle_meant, Bound, pair_of}
use Rattle.w16_loading.specs.Closure.{Referent}

module _ (hs : List ℕ) (p : ℕ) where
  abbrev among : List (ℕ × Referent) → List ℕ
  among xs = C.imports_among hs xs p

  among_both : (xs ys : List (ℕ × Referent)) → among (xs ++ ys) ≡ among xs ++ among ys
  among_both xs ys =
      ap (map (λ (b : ℕ × Referent). handle_meant hs b.1)) (C.filter-append (λ (b : ℕ × Referent). b.0 == p) xs ys)
      ∙ C.map-append (λ (b : ℕ × Referent). handle_meant hs b.1) (C.filter (λ (b : ℕ × Referent). b.0 == p) xs) (C.filter (λ (b : ℕ × Referent). b.0 == p) ys)

  one_is : (y : ℕ × Referent) → y.0 ≡ p → among (y ∷ []) ≡ handle_meant hs y.1 ∷ []
  one_is y e = ap (λ b. map (λ (b : ℕ × Referent). handle_meant hs b.1) (cond {A = List (ℕ × Referent)} b (y ∷ []) [])) (C.eq-eqb y.0 p e)

  none_is : (y : ℕ × Referent) → y.0 ≢ p → among (y ∷ []) ≡ []
  none_is y d = ap (λ b. map (λ (b : ℕ × Referent). handle_meant hs b.1) (cond {A = List (ℕ × Referent)} b (y ∷ []) [])) (C.ne_eqb y.0 p d)

  pub import_more : (bound : List Bound) (i : ℕ) (d : Bound) (was now : ℕ → List ℕ) (many handle : ℕ) → i < length bound → p < many → handle ≡ handle_meant hs (C.referent_of (get_or bound i d).referent)
      → ((get_or bound i d).place < many → now (get_or bound i d).place ≡ was (get_or bound i d).place ++ handle ∷ []) → ((other : ℕ) → other ≢ (get_or bound i d).place → now other ≡ was other)
      → was p ≡ among (map pair_of (take i bound)) → now p ≡ among (map pair_of (take (i + 1) bound))
  import_more bound i d was now many handle lt inside means here others before = turn (C.cases_eq (get_or bound i d).place p)
    where
      b : Bound
      b = get_or bound i d

      more : map pair_of (take (i + 1) bound) ≡ map pair_of (take i bound) ++ pair_of b ∷ []
      more = ap (map pair_of) (C.take_more bound i d lt) ∙ C.map-append pair_of (take i bound) (b ∷ [])

      turn : (b.place ≡ p) ⊎ (b.place ≢ p) → now p ≡ among (map pair_of (take (i + 1) bound))
      turn (inl e) =
          subst (λ q. now q ≡ was q ++ handle ∷ []) e (here (omega (arith, e, inside))) ∙ ap (λ h. was p ++ h ∷ []) means
          ∙ (λ j. before j ++ sym (one_is (pair_of b) e) j) ∙ sym (among_both (map pair_of (take i bound)) (pair_of b ∷ [])) ∙ ap among (sym more)
      turn (inr n) =
          others p (λ e. n (sym e)) ∙ before ∙ sym (C.append-nil (among (map pair_of (take i bound)))) ∙ (λ j. among (map pair_of (take i bound)) ++ sym (none_is (pair_of b) n) j)
          ∙ sym (among_both (map pair_of (take i bound)) (pair_of b ∷ [])) ∙ ap among (sym more)

-- Lists in a table of vectors, of which one gets a number more.
module _ {V : Type 0} (items : V → List ℕ) (vs : List V) (place : ℕ) (now : V) where
  pub pushed_here : (n : ℕ) (was : V) → place < length vs → was ≡ get_or vs place was → items now ≡ items was ++ n ∷ [] → get_or (map items (set vs place now)) place [] ≡ get_or (map items vs) place [] ++ n ∷ []
  pushed_here n was lt is more =
      get_or-map items (set vs place now) place now [] (omega (arith, lt, length-set vs place now))
      ∙ ap items (C.get_or-set_same vs place now now lt) ∙ more ∙ ap (λ (r : List ℕ). r ++ n ∷ []) (sym (get_or-map items vs place was [] lt ∙ ap items (sym is)))

  pub pushed_other : (other : ℕ) → other ≢ place → get_or (map items (set vs place now)) other [] ≡ get_or (map items vs) other []
  pushed_other other d = elim (C.cases_lt other (length vs)) [
    | inl lt ↦ get_or-map items (set vs place now) other now [] (omega (arith, lt, length-set vs place now)) ∙ ap items (C.get_or-set_other vs place other now now d) ∙ sym (get_or-map items vs other now [] lt)
    | inr le ↦ C.get_or_past (map items (set vs place now)) other [] (omega (arith, le, length-set vs place now, C.length-map (set vs place now) items)) ∙ sym (C.get_or_past (map items vs) other [] (omega (arith, le, C.length-map vs items)))
  ]
