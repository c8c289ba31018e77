-- Room with an object counted as loose and left out.
use Rattle.w16_model.proofs
use proofs.Common as C
use proofs.Gaps as M
use proofs.Common.{◌≡◌, ℕ, ◌+◌, ◌-◌, ◌≤◌, Bool, true, false, cond, ◌&&◌, ◌||◌, IsTrue, List, [], ◌∷◌, filter, ◌∙◌, and_from, is_pinned, is_loose, begins_in, Misses, IsGap, is_member, is_about, loosened}
use proofs.Gaps.{Member, EachPair, Each-at, Each-from, Each-from_All, All-from_Each, member_filter, filter_member}
use proofs.Discards.{is_member-true, eligible_loose, from_take}
use proofs.{Starts.member_map, Least.placed_filter, Longest.room_is_longest}
use Rattle.w16_model.specs.{declared.Block.Block, declared.Hold.TheVariants.Loose}
use Rattle.w16_laws.specs.Heaps.{is_counted, IsArrangementWithout, IsFreeWithout, IsLongestWithout, LeftOutLaw}

-- what each two that pass have, said of the whole list
pairs_of_filter : {X : Type 0} (R : X → X → Type 0) (p : X → Bool) (xs : List X) → EachPair R (filter p xs) → EachPair (λ x y. IsTrue (p x) → IsTrue (p y) → R x y) xs
pairs_of_filter R p [] h = tt
pairs_of_filter {X} R p (x ∷ xs) h =
    elim (p x) as (λ b. p x ≡ b → EachPair R (cond {A = List X} b (x ∷ filter p xs) (filter p xs)) → EachPair (λ x y. IsTrue (p x) → IsTrue (p y) → R x y) (x ∷ xs)) [
      | true ↦ λ e g. (Each-from (λ y. IsTrue (p x) → IsTrue (p y) → R x y) xs (λ y m s t. Each-at (R x) (filter p xs) g.0 y (filter_member p xs y m t)), pairs_of_filter R p xs g.1)
      | false ↦ λ e g. (Each-from (λ y. IsTrue (p x) → IsTrue (p y) → R x y) xs (λ y m s t. absurd (C.false≢true (C.sym e ∙ s))), pairs_of_filter R p xs g)
    ] C.refl h

-- The blocks without some that are loose, and without h's.
module _ (lo hi : ℕ) (xs : List Block) (ids : List ℕ) (h : C.Option ℕ) (loose : (x : Block) → Member x xs → is_member x.id ids ≡ true → is_pinned x ≡ false) where
  abbrev stays : Block → Bool
  stays x = C.not (is_member x.id ids || is_about h x.id)

  abbrev left : List Block
  left = filter stays xs

  -- a block that stays is none of them
  out : (x : Block) → IsTrue (stays x) → (is_member x.id ids ≡ false) × (is_about h x.id ≡ false)
  out x t = C.or_parts (is_member x.id ids) (is_about h x.id) (C.not-true (is_member x.id ids || is_about h x.id) t)

  -- An interval is clear of pinned blocks in the one list where it is in the other.
  clear_left : (a b : ℕ) → C.IsClear is_pinned lo hi (loosened h xs) a b → C.IsClear is_pinned lo hi left a b
  clear_left a b c = record {
    above = c.above;
    below = c.below;
    misses = All-from_Each _ left (Each-from (λ x. IsTrue (is_pinned x) → Misses x.at x.size a b) left (λ x m.
        let kept : Member x xs × IsTrue (stays x) = member_filter stays xs x m in
        let same : C.counted_loose h x ≡ x = C.ap (λ v. let y : Block = record x { hold = cond v Loose x.hold } in y) (out x kept.1).1 in
        C.subst (λ y. IsTrue (is_pinned y) → Misses y.at y.size a b) same
        (Each-at (λ y. IsTrue (is_pinned y) → Misses y.at y.size a b) (loosened h xs) (Each-from_All _ (loosened h xs) c.misses) (C.counted_loose h x) (member_map (C.counted_loose h) xs x kept.0))));
  }

  left_clear : (a b : ℕ) → C.IsClear is_pinned lo hi left a b → C.IsClear is_pinned lo hi (loosened h xs) a b
  left_clear a b c = record {
    above = c.above;
    below = c.below;
    misses = All-from_Each _ (loosened h xs) (M.Each-of_map (λ y. IsTrue (is_pinned y) → Misses y.at y.size a b) (C.counted_loose h) xs
        (Each-from (λ x. IsTrue (is_pinned (C.counted_loose h x)) → Misses x.at x.size a b) xs (λ x m. turn x m (is_about h x.id) C.refl)));
  }
    where
      turn : (x : Block) → Member x xs → (v : Bool) → is_about h x.id ≡ v
          → IsTrue (is_pinned (record x { hold = cond v Loose x.hold })) → Misses x.at x.size a b
      turn x m true e t = absurd (C.false≢true t)
      turn x m false e t = Each-at (λ y. IsTrue (is_pinned y) → Misses y.at y.size a b) left (Each-from_All _ left c.misses) x
          (filter_member stays xs x m (C.not_from_false (is_member x.id ids || is_about h x.id) (C.or_from (is_member x.id ids) (is_about h x.id) (elim (C.cases_Bool (is_member x.id ids)) [
            | C.inl s ↦ absurd (C.false≢true (C.sym (loose x m s) ∙ t))
            | C.inr s ↦ s
          ]) e))) t

  -- so the gaps are the same
  gap_left : (a b : ℕ) → IsGap lo hi (loosened h xs) a b → IsGap lo hi left a b
  gap_left a b gap = record { some = gap.some; clear = clear_left a b gap.clear; maximal = λ c d l m clear. gap.maximal c d l m (left_clear c d clear) }

  left_gap : (a b : ℕ) → IsGap lo hi left a b → IsGap lo hi (loosened h xs) a b
  left_gap a b gap = record { some = gap.some; clear = left_clear a b gap.clear; maximal = λ c d l m clear. gap.maximal c d l m (clear_left c d clear) }

  -- the arrangements
  arranged_left : (place : Block → ℕ) → IsArrangementWithout lo hi xs ids h place → C.IsArrangement lo hi left place
  arranged_left place w = record {
    kept = λ a b gap. All-from_Each _ left (Each-from (λ x. IsTrue (is_loose x && begins_in a b x) → (a ≤ place x) × (place x + x.size ≤ b)) left (λ x m t.
        let kept : Member x xs × IsTrue (stays x) = member_filter stays xs x m in
        let parts : IsTrue (is_loose x) × IsTrue (begins_in a b x) = C.and_parts (is_loose x) (begins_in a b x) t in
        Each-at (λ x. IsTrue (is_counted ids h x) → IsTrue (begins_in a b x) → (a ≤ place x) × (place x + x.size ≤ b)) xs (Each-from_All _ xs (w.kept a b (left_gap a b gap))) x kept.0 (and_from (is_loose x) (stays x) parts.0 kept.1) parts.1));
    apart = M.AllPairs-from_EachPair _ left (M.EachPair-filter (λ x y. IsTrue (is_loose x) → IsTrue (is_loose y) → Misses (place x) x.size (place y) (place y + y.size)) stays xs
        (M.EachPair-map (λ x y. IsTrue (is_counted ids h x) → IsTrue (is_counted ids h y) → Misses (place x) x.size (place y) (place y + y.size))
        (λ x y. IsTrue (stays x) → IsTrue (stays y) → IsTrue (is_loose x) → IsTrue (is_loose y) → Misses (place x) x.size (place y) (place y + y.size))
        (λ x y f s t l m. f (and_from (is_loose x) (stays x) l s) (and_from (is_loose y) (stays y) m t)) xs (M.EachPair-from_AllPairs _ xs w.apart)));
  }

  left_arranged : (place : Block → ℕ) → C.IsArrangement lo hi left place → IsArrangementWithout lo hi xs ids h place
  left_arranged place w = record {
    kept = λ a b gap. All-from_Each _ xs (Each-from (λ x. IsTrue (is_counted ids h x) → IsTrue (begins_in a b x) → (a ≤ place x) × (place x + x.size ≤ b)) xs (λ x m t begins.
        let parts : IsTrue (is_loose x) × IsTrue (stays x) = C.and_parts (is_loose x) (stays x) t in
        Each-at (λ x. IsTrue (is_loose x && begins_in a b x) → (a ≤ place x) × (place x + x.size ≤ b)) left (Each-from_All _ left (w.kept a b (gap_left a b gap))) x (filter_member stays xs x m parts.1) (and_from (is_loose x) (begins_in a b x) parts.0 begins)));
    apart = M.AllPairs-from_EachPair _ xs
        (M.EachPair-map (λ x y. IsTrue (stays x) → IsTrue (stays y) → IsTrue (is_loose x) → IsTrue (is_loose y) → Misses (place x) x.size (place y) (place y + y.size))
        (λ x y. IsTrue (is_counted ids h x) → IsTrue (is_counted ids h y) → Misses (place x) x.size (place y) (place y + y.size))
        (λ x y f s t.
        let of_x : IsTrue (is_loose x) × IsTrue (stays x) = C.and_parts (is_loose x) (stays x) s in
        let of_y : IsTrue (is_loose y) × IsTrue (stays y) = C.and_parts (is_loose y) (stays y) t in
        f of_x.1 of_y.1 of_x.0 of_y.0) xs
        (pairs_of_filter (λ x y. IsTrue (is_loose x) → IsTrue (is_loose y) → Misses (place x) x.size (place y) (place y + y.size)) stays xs (M.EachPair-from_AllPairs _ left w.apart)));
  }

  -- and their free stretches
  free_left : (place : Block → ℕ) (a b : ℕ) → IsFreeWithout lo hi xs ids h place a b → C.IsFreeStretch lo hi left place a b
  free_left place a b w = record {
    clear = clear_left a b w.clear;
    misses = All-from_Each _ left (Each-from (λ x. IsTrue (is_loose x) → Misses (place x) x.size a b) left (λ x m t.
        let kept : Member x xs × IsTrue (stays x) = member_filter stays xs x m in
        Each-at (λ x. IsTrue (is_counted ids h x) → Misses (place x) x.size a b) xs (Each-from_All _ xs w.misses) x kept.0 (and_from (is_loose x) (stays x) t kept.1)));
  }

  left_free : (place : Block → ℕ) (a b : ℕ) → C.IsFreeStretch lo hi left place a b → IsFreeWithout lo hi xs ids h place a b
  left_free place a b w = record {
    clear = left_clear a b w.clear;
    misses = All-from_Each _ xs (Each-from (λ x. IsTrue (is_counted ids h x) → Misses (place x) x.size a b) xs (λ x m t.
        let parts : IsTrue (is_loose x) × IsTrue (stays x) = C.and_parts (is_loose x) (stays x) t in
        Each-at (λ x. IsTrue (is_loose x) → Misses (place x) x.size a b) left (Each-from_All _ left w.misses) x (filter_member stays xs x m parts.1) parts.0));
  }

  -- so the longest of them
  longest_without : (n : ℕ) → C.IsLongestStretch lo hi left n → IsLongestWithout lo hi xs ids h n
  longest_without n l = record {
    none_longer = λ place a b arranged free. l.none_longer place a b (arranged_left place arranged) (free_left place a b free);
    one_as_long = λ some. let best : (place : Block → ℕ) × (a : ℕ) × (b : ℕ) × C.IsArrangement lo hi left place × C.IsFreeStretch lo hi left place a b × (b - a ≡ n) = l.one_as_long some in
        (best.0, best.1, best.2, left_arranged best.0 best.3, left_free best.0 best.1 best.2 best.4, best.5);
  }

pub left_out_law : LeftOutLaw
left_out_law lo hi xs order k h placed =
    let ids = C.take k _ in
    longest_without lo hi xs ids h
    (λ x m t. elim (C.cases_Bool _) [ C.inl p ↦ absurd (eligible_loose xs order h x m (from_take k _ _ (is_member-true _ ids t)) p) | C.inr p ↦ p ])
    _
    (room_is_longest lo hi _ (placed_filter lo hi (λ x. C.not _) xs placed))
