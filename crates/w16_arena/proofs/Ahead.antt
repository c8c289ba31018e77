-- A walk that goes on from where a part ends, in which no other begins.
use Rattle.w16_arena.proofs.Common as C
use Rattle.w16_arena.proofs.Common.{◌≡◌, ℕ, ◌+◌, ◌<◌, ◌≤◌, List, [], ◌∷◌, ◌++◌, Some, refl, ap, ◌∙◌, subst, arith, Heap, Item, Kind, IsItem}
use Rattle.std.specs.List.{AllByRecursion as Each}
use Rattle.w16_model.proofs.Cuts.{IsCut}
use Rattle.w16_model.specs.Walk.{IsWalk}

each_back : {X : Type 0} (P : X → Type 0) (xs ys : List X) → Each P (xs ++ ys) → Each P ys
each_back P [] ys h = h
each_back P (x ∷ xs) ys h = each_back P xs ys h.1

module _ (name : Kind → ℕ → ℕ) (heap : Heap) (item : Item) (some : 0 < item.size) (apart : (other : Item) → IsItem name heap other → item.at < other.at → item.at + item.size ≤ other.at) where
  -- it is cut there too, behind as many
  pub cut_on : (items : List Item) → IsWalk name heap items → (cut : IsCut items (item.at + 1)) → (on : IsCut items (item.at + item.size)) × (on.done ≡ cut.done)
  cut_on items walk cut = (
    record {
      done = cut.done;
      rest = cut.rest;
      whole = cut.whole;
      below = C.Each-map (λ (t : Item). t.at < item.at + 1) (λ (t : Item). t.at < item.at + item.size) (λ t l. omega (arith, l, some)) cut.done cut.below;
      above = C.Each-both (IsItem name heap) (λ (t : Item). item.at + 1 ≤ t.at) (λ (t : Item). item.at + item.size ≤ t.at) (λ t is l. apart t is (omega (arith, l))) cut.rest
          (each_back (IsItem name heap) cut.done cut.rest (subst (λ (l : List Item). Each (IsItem name heap) l) cut.whole (C.Each-from_All (IsItem name heap) items walk.only))) cut.above;
    },
    refl,
  )

  -- one part more was told
  pub told_to_end : (k from : ℕ) → C.HasTold name heap k from → C.IsFirstItem name heap from (Some item) → C.HasTold name heap (k + 1) (item.at + item.size)
  told_to_end k from has first = record {
    told = λ items walk.
        let c = (C.told_more name heap k from has item first).told items walk in
        let on = cut_on items walk c.0 in
        (on.0, ap (C.length {A = Item}) on.1 ∙ c.1);
  }
