-- The order of use with one id taken out, or put at an end.
use Rattle.w16_arena.proofs
use proofs.Common as C
use proofs.Common.{◌≡◌, ◌≢◌, ℕ, Bool, true, false, not, ◌&&◌, ◌||◌, ◌==◌, List, ◌∷◌, AllPairs, refl, sym, ap, ◌∙◌, eq-eqb, ne_eqb, false≢true, is_member, without, End}
use proofs.Changed.{ReordersOne}

and_true : (b : Bool) → (b && not false) ≡ b
and_true true = refl
and_true false = refl

or_false : (b : Bool) → (b || false) ≡ b
or_false true = refl
or_false false = refl

or_true : (b : Bool) → (b || true) ≡ true
or_true true = refl
or_true false = refl

-- another id is in it as before
pub member_other : (id q : ℕ) (order : List ℕ) → id ≢ q → is_member q (without id order) ≡ is_member q order
member_other id q order d = C.member_without q id order ∙ ap (λ t. is_member q order && not t) (ne_eqb q id (λ e. d (sym e))) ∙ and_true _

without_once : (id : ℕ) (order : List ℕ) → AllPairs (λ a b. a ≡ b → ⊥) order → AllPairs (λ a b. a ≡ b → ⊥) (without id order)
without_once id order once = C.AllPairs-from_EachPair (λ a b. a ≡ b → ⊥) _ (C.pairs_filter (λ a b. a ≡ b → ⊥) (λ q. not _) order (C.EachPair-from_AllPairs (λ a b. a ≡ b → ⊥) order once))

-- taken out
pub without_reorders : (id : ℕ) (order : List ℕ) → AllPairs (λ a b. a ≡ b → ⊥) order → ReordersOne id false order (without id order)
without_reorders id order once = record { here = C.member_gone id order; there = λ q d. member_other id q order d; once = without_once id order once }

-- at an end
pub end_reorders : (end : End) (id : ℕ) (order : List ℕ) → AllPairs (λ a b. a ≡ b → ⊥) order → ReordersOne id true order (C.at_end end id order)
end_reorders C.Newest id order once = record {
  here = C.member_newest id id order ∙ ap (λ t. (is_member id order && not (id == id)) || t) (eq-eqb id id refl) ∙ or_true _;
  there = λ q d. C.member_newest q id order ∙ ap (λ t. (is_member q order && not (q == id)) || t) (ne_eqb id q d) ∙ or_false _
      ∙ ap (λ t. is_member q order && not t) (ne_eqb q id (λ e. d (sym e))) ∙ and_true _;
  once = C.newest_differ id order once;
}
end_reorders C.Oldest id order once = record {
  here = ap (λ t. t || is_member id (without id order)) (eq-eqb id id refl);
  there = λ q d. ap (λ t. t || is_member q (without id order)) (ne_eqb id q d) ∙ member_other id q order d;
  once = C.AllPairs-from_EachPair (λ a b. a ≡ b → ⊥) (C.oldest id order) (
    C.Each-from (λ q. id ≡ q → ⊥) _ (λ q m e. false≢true (sym (C.not-true _ (C.member_filter (λ q. not _) order q m).1) ∙ eq-eqb q id (sym e))),
    C.EachPair-from_AllPairs (λ a b. a ≡ b → ⊥) _ (without_once id order once),
  );
}

-- left as it is
pub same_reorders : (id : ℕ) (order : List ℕ) (listed : Bool) → is_member id order ≡ listed → AllPairs (λ a b. a ≡ b → ⊥) order → ReordersOne id listed order order
same_reorders id order listed here once = record { here = here; there = λ q d. refl; once = once }
