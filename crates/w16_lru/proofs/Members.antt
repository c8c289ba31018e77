-- Members of ids that are each there once.
use Rattle.w16_lru.proofs.Common as C
use Rattle.w16_lru.proofs.Common.{[], ◌≡◌, ℕ, ◌+◌, ◌<◌, ◌≤◌, Bool, true, false, cond, not, ◌&&◌, ◌||◌, ◌==◌, List, ◌∷◌, length, refl, sym, ap, ◌∙◌, subst, arith, false≢true, is_member, without, Uses}
use Rattle.std.specs.List.{AllByRecursion as Each}

no_member : (id : ℕ) (ids : List ℕ) → Each (λ x. id ≡ x → ⊥) ids → is_member id ids ≡ false
no_member id [] h = refl
no_member id (x ∷ ids) h = rw (C.ne_eqb x id (λ e. h.0 (sym e))) (no_member id ids h.1)

same_test : (a b : ℕ) → (a == b) ≡ (b == a)
same_test a b = grind arith

member_test : (id : ℕ) (ids : List ℕ) → C.list_any (C.nat_eq id) ids ≡ is_member id ids
member_test id [] = refl
member_test id (x ∷ ids) = rw (same_test x id) (ap (λ b. (id == x) || b) (member_test id ids))

-- one fewer without a member
pub fewer : (x : ℕ) (ids : List ℕ) → C.EachPair (λ a b. a ≡ b → ⊥) ids → is_member x ids ≡ true → length (without x ids) + 1 ≡ length ids
fewer x [] apart there = absurd (false≢true there)
fewer x (y ∷ ids) apart there = turn _ refl (fewer x ids apart.1)
  where
    turn : (t : Bool) → (y == x) ≡ t → (is_member x ids ≡ true → length (without x ids) + 1 ≡ length ids) → length (cond {A = List ℕ} (not t) (y ∷ without x ids) (without x ids)) + 1 ≡ length (y ∷ ids)
    turn true e rest =
        let none = subst (λ q. is_member q ids ≡ false) (C.eqb-true y x e) (no_member y ids apart.0) in
        let same = ap (length {A = ℕ}) (C.without_absent x ids none) in omega arith
    turn false e rest = let less = rest (sym (ap (λ t. t || is_member x ids) e) ∙ there) in omega arith

pub member_below : (x n : ℕ) (ids : List ℕ) → Each (λ q. q < n) ids → is_member x ids ≡ true → x < n
member_below x n [] below there = absurd (false≢true there)
member_below x n (y ∷ ids) below there = turn _ refl (member_below x n ids below.1)
  where
    turn : (t : Bool) → (y == x) ≡ t → (is_member x ids ≡ true → x < n) → x < n
    turn true e rest = subst (λ q. q < n) (C.eqb-true y x e) below.0
    turn false e rest = rest (sym (ap (λ t. t || is_member x ids) e) ∙ there)

-- there are no more ids than numbers
pub few : (uses : Uses) → C.AreUses uses → length uses.ids ≤ uses.cap
few uses are =
    C.length-le_from_distinct_below _ _ (C.IsDistinct-from_AllPairs C.Decides-eqb _ are.apart)
    (λ q there. member_below q _ uses.ids (C.Each-from_All (λ k. k < uses.cap) uses.ids are.below) (sym (member_test q _) ∙ there))
