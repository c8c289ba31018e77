-- A walk that is asked from address to address: what it has told, and what is left.
use Rattle.w16_model.proofs
use proofs.Common.{◌≡◌, ℕ, zero, suc, ◌+◌, ◌<◌, ◌≤◌, inl, inr, List, [], ◌∷◌, ◌++◌, Option, Some, None, length, slice_get, refl, sym, ap, ◌∙◌, append-nil, append_assoc, arith, subst, Kind, Item, Heap, IsItem, IsWalk, IsFirstItem}
use proofs.Gaps.{EachPair, Member, Each-at, Each-map, Each-from_All, EachPair-from_AllPairs}
use proofs.Walks.{member_contained}
use Rattle.std.proofs.Common.{length-append}
use Rattle.std.specs.List.{AllByRecursion as Each}

-- Lists.

each_append : {X : Type 0} (P : X → Type 0) (xs ys : List X) → Each P xs → Each P ys → Each P (xs ++ ys)
each_append P [] ys h k = k
each_append P (x ∷ xs) ys h k = (h.0, each_append P xs ys h.1 k)

each_back : {X : Type 0} (P : X → Type 0) (xs ys : List X) → Each P (xs ++ ys) → Each P ys
each_back P [] ys h = h
each_back P (x ∷ xs) ys h = each_back P xs ys h.1

pairs_back : {X : Type 0} (R : X → X → Type 0) (xs ys : List X) → EachPair R (xs ++ ys) → EachPair R ys
pairs_back R [] ys h = h
pairs_back R (x ∷ xs) ys h = pairs_back R xs ys h.1

-- a member that no item of the front is stands behind it
member_behind : {X : Type 0} (xs ys : List X) (x : X) → Each (λ y. x ≡ y → ⊥) xs → Member x (xs ++ ys) → Member x ys
member_behind [] ys x h m = m
member_behind (y ∷ xs) ys x h (inl e) = absurd (h.0 e)
member_behind (y ∷ xs) ys x h (inr m) = member_behind xs ys x h.1 m

-- what stands first behind a front, and past the end
got_behind : {X : Type 0} (xs : List X) (x : X) (ys : List X) → slice_get (xs ++ x ∷ ys) (length xs) ≡ Some x
got_behind [] x ys = refl
got_behind (y ∷ xs) x ys = got_behind xs x ys

got_past : {X : Type 0} (xs : List X) (i : ℕ) → length xs ≤ i → slice_get xs i ≡ None
got_past [] i le = refl
got_past (x ∷ xs) zero le = absurd (omega arith)
got_past (x ∷ xs) (suc i) le = got_past xs i (omega arith)

-- A walk, cut at an address.
pub record IsCut (items : List Item) (from : ℕ) : Type 0 where
  pub done : List Item
  pub rest : List Item
  pub whole : items ≡ done ++ rest
  pub below : Each (λ (t : Item). t.at < from) done
  pub above : Each (λ (t : Item). from ≤ t.at) rest

-- before the first item
pub cut_none : (items : List Item) → IsCut items 0
cut_none items = record { done = []; rest = items; whole = refl; below = tt; above = from_zero items }
  where
    from_zero : (items : List Item) → Each (λ t. 0 ≤ t.at) items
    from_zero [] = tt
    from_zero (t ∷ items) = (omega arith, from_zero items)

pub done_none : (items : List Item) → (cut_none items).done ≡ []
unfolding cut_none
done_none items = refl

module _ (name : Kind → ℕ → ℕ) (heap : Heap) (items : List Item) (walk : IsWalk name heap items) (from : ℕ) (cut : IsCut items from) where
  -- what is left has items alone, by rising address
  rest_good : Each (IsItem name heap) cut.rest
  rest_good = each_back (IsItem name heap) cut.done cut.rest (subst (λ (l : List Item). Each (IsItem name heap) l) cut.whole (Each-from_All (IsItem name heap) items walk.only))

  rest_rises : EachPair (λ (s t : Item). s.at < t.at) cut.rest
  rest_rises = pairs_back (λ s t. s.at < t.at) cut.done cut.rest (subst (EachPair (λ s t. s.at < t.at)) cut.whole (EachPair-from_AllPairs (λ s t. s.at < t.at) items walk.rising))

  -- the first item from there on is the first that is left
  pub record Next (item : Item) : Type 0 where
    pub more : List Item
    pub is : cut.rest ≡ item ∷ more
    pub above : Each (λ (t : Item). item.at + 1 ≤ t.at) more

  module _ (item : Item) (first : IsFirstItem name heap from (Some item)) where
    not_done : Each (λ y. item ≡ y → ⊥) cut.done
    not_done = Each-map (λ (t : Item). t.at < from) (λ (t : Item). item ≡ t → ⊥) (λ t l e. omega (arith, l, first.1, ap (λ (x : Item). x.at) e)) cut.done cut.below

    pub next : Next item
    next = turn cut.rest refl rest_good rest_rises cut.above (member_behind cut.done cut.rest item not_done (subst (Member item) cut.whole (member_contained items item (walk.each item first.0))))
      where
        turn : (rest : List Item) → cut.rest ≡ rest → Each (IsItem name heap) rest → EachPair (λ (s t : Item). s.at < t.at) rest → Each (λ (t : Item). from ≤ t.at) rest → Member item rest → Next item
        turn [] same good rising above m = absurd m
        turn (r ∷ more) same good rising above m = elim m [
          | inl e ↦ from_head e
          | inr n ↦ elim (first.2 r good.0 above.0) [
            | inl e ↦ from_head (sym e)
            | inr l ↦ let later : r.at < item.at = Each-at (λ (t : Item). r.at < t.at) more rising.0 item n in absurd (omega (arith, l, later))
          ]
        ]
          where
            from_head : item ≡ r → Next item
            from_head e = record {
              more = more;
              is = same ∙ ap (λ (x : Item). x ∷ more) (sym e);
              above = Each-map (λ (t : Item). r.at < t.at) (λ (t : Item). item.at + 1 ≤ t.at) (λ t l. omega (arith, l, ap (λ (x : Item). x.at) e)) more rising.0;
            }

    -- one item more
    pub cut_more : IsCut items (item.at + 1)
    cut_more = record {
      done = cut.done ++ item ∷ [];
      rest = next.more;
      whole = cut.whole ∙ ap (λ (l : List Item). cut.done ++ l) next.is ∙ sym (append_assoc cut.done (item ∷ []) next.more);
      below = each_append (λ (t : Item). t.at < item.at + 1) cut.done (item ∷ []) (Each-map (λ (t : Item). t.at < from) (λ (t : Item). t.at < item.at + 1) (λ t l. omega (arith, l, first.1)) cut.done cut.below) (omega arith, tt);
      above = next.above;
    }

    pub done_more : cut_more.done ≡ cut.done ++ item ∷ []
    unfolding cut_more
    done_more = refl

    pub count_more : length cut_more.done ≡ length cut.done + 1
    count_more = ap (length {A = Item}) done_more ∙ length-append cut.done (item ∷ [])

    pub item_at : slice_get items (length cut.done) ≡ Some item
    item_at = ap (λ (l : List Item). slice_get l (length cut.done)) (cut.whole ∙ ap (λ (l : List Item). cut.done ++ l) next.is) ∙ got_behind cut.done item next.more

  -- behind the last item all were told
  module _ (none : IsFirstItem name heap from None) where
    pub all_done : items ≡ cut.done
    all_done = cut.whole ∙ ap (λ (l : List Item). cut.done ++ l) (turn cut.rest rest_good cut.above) ∙ append-nil cut.done
      where
        turn : (rest : List Item) → Each (IsItem name heap) rest → Each (λ (t : Item). from ≤ t.at) rest → rest ≡ []
        turn [] good above = refl
        turn (r ∷ more) good above = let over : r.at < from = none r good.0 in absurd (omega (arith, over, above.0))

    pub none_at : (i : ℕ) → length cut.done ≤ i → slice_get items i ≡ None
    none_at i le = got_past items i (omega (arith, ap (length {A = Item}) all_done))

-- A walk of which k items were told, up to an address.
pub record HasTold (name : Kind → ℕ → ℕ) (heap : Heap) (k from : ℕ) : Type 0 where
  pub told : (items : List Item) → IsWalk name heap items → (cut : IsCut items from) × (length cut.done ≡ k)

module _ (name : Kind → ℕ → ℕ) (heap : Heap) where
  pub told_none : HasTold name heap 0 0
  told_none = record { told = λ items walk. (cut_none items, ap (length {A = Item}) (done_none items)) }

  module _ (k from : ℕ) (has : HasTold name heap k from) where
    pub told_more : (item : Item) → IsFirstItem name heap from (Some item) → HasTold name heap (k + 1) (item.at + 1)
    told_more item first = record {
      told = λ items walk. let c = has.told items walk in (cut_more name heap items walk from c.0 item first, count_more name heap items walk from c.0 item first ∙ ap (λ n. n + 1) c.1);
    }

    -- the next item is the k-th
    pub told_at : (found : Option Item) → IsFirstItem name heap from found → (items : List Item) → IsWalk name heap items → found ≡ slice_get items k
    told_at None first items walk = let c = has.told items walk in sym (none_at name heap items walk from c.0 first k (omega (arith, c.1)))
    told_at (Some item) first items walk = let c = has.told items walk in sym (item_at name heap items walk from c.0 item first) ∙ ap (slice_get items) c.1

    -- where there is none, none is behind it, and k is how many there are
    pub told_past : IsFirstItem name heap from None → (i : ℕ) → k ≤ i → (items : List Item) → IsWalk name heap items → None ≡ slice_get items i
    told_past none i le items walk = let c = has.told items walk in sym (none_at name heap items walk from c.0 none i (omega (arith, c.1)))

    pub told_all : IsFirstItem name heap from None → (items : List Item) → IsWalk name heap items → k ≡ length items
    told_all none items walk = let c = has.told items walk in sym c.1 ∙ ap (length {A = Item}) (sym (all_done name heap items walk from c.0 none))
