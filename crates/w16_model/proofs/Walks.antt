-- A walk of a heap is the only one.
use Rattle.w16_model.proofs.Common.{Contains, ◌≡◌, ℕ, zero, suc, ◌<◌, inl, inr, List, [], ◌∷◌, refl, sym, ◌∙◌, subst, arith, Kind, Item, Heap, IsItem, IsWalk}
use Rattle.std.specs.List.{AllByRecursion as Each}
use Rattle.w16_model.proofs.Gaps.{EachPair, Member, Each-at, Each-from_All, EachPair-from_AllPairs}

-- what a list contains is a member of it
pub member_contained : {X : Type 0} (xs : List X) (x : X) → Contains xs x → Member x xs
member_contained [] x (k, within, is) = absurd (omega arith)
member_contained (y ∷ ys) x (zero, within, is) = inl (sym is)
member_contained (y ∷ ys) x (suc k, within, is) = inr (member_contained ys x (k, omega arith, is))

-- two lists that rise and have the same members are the same
module _ {X : Type 0} (R : X → X → Type 0) (one_way : (x y : X) → R x y → R y x → ⊥) where
  heads_same : (x y : X) (xs ys : List X) → Each (R x) xs → Each (R y) ys → Member x (y ∷ ys) → Member y (x ∷ xs) → x ≡ y
  heads_same x y xs ys above over (inl e) n = e
  heads_same x y xs ys above over (inr m) (inl e) = sym e
  heads_same x y xs ys above over (inr m) (inr n) = absurd (one_way x y (Each-at (R x) xs above y n) (Each-at (R y) ys over x m))

  tail_member : (x y : X) (xs ys : List X) → x ≡ y → Each (R x) xs → ((z : X) → Member z (x ∷ xs) → Member z (y ∷ ys)) → (z : X) → Member z xs → Member z ys
  tail_member x y xs ys same above into z m = elim (into z (inr m)) [
    | inl e ↦ let after : R x x = subst (R x) (e ∙ sym same) (Each-at (R x) xs above z m) in absurd (one_way x x after after)
    | inr n ↦ n
  ]

  pub same_rising : (xs ys : List X) → EachPair R xs → EachPair R ys → ((z : X) → Member z xs → Member z ys) → ((z : X) → Member z ys → Member z xs) → xs ≡ ys
  same_rising [] [] p q into back = refl
  same_rising [] (y ∷ ys) p q into back = absurd (back y (inl refl))
  same_rising (x ∷ xs) [] p q into back = absurd (into x (inl refl))
  same_rising (x ∷ xs) (y ∷ ys) p q into back =
      let head : x ≡ y = heads_same x y xs ys p.0 q.0 (into x (inl refl)) (back y (inl refl)) in
      let tail : xs ≡ ys = same_rising xs ys p.1 q.1 (tail_member x y xs ys head p.0 into) (tail_member y x ys xs (sym head) q.0 back) in
      λ i. head i ∷ tail i

-- an item of one walk is one of the other
carried : (name : Kind → ℕ → ℕ) (heap : Heap) (items others : List Item) → IsWalk name heap items → IsWalk name heap others → (z : Item) → Member z items → Member z others
carried name heap items others p q z m = member_contained _ z (q.each z (Each-at (IsItem name heap) items (Each-from_All _ items p.only) z m))

-- two walks of one heap are the same list
pub one_walk : (name : Kind → ℕ → ℕ) (heap : Heap) (items others : List Item) → IsWalk name heap items → IsWalk name heap others → items ≡ others
one_walk name heap items others p q =
    let Rises : Item → Item → Type 0 = λ s t. s.at < t.at in
    same_rising Rises (λ x y a b. omega (arith, a, b)) items _ (EachPair-from_AllPairs Rises items p.rising) (EachPair-from_AllPairs Rises _ q.rising)
    (carried name heap items _ p q) (carried name heap _ items q p)
