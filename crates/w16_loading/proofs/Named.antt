-- The world in which a load's modules have names: its handles are such, since slots were free and are different.
use Rattle.w16_loading.proofs
use proofs.Common as C
use proofs.Common.{◌≢◌, ℕ, ◌+◌, inl, inr, List, [], ◌∷◌, ◌++◌, fold, flat_map, zip, None, refl, sym, ◌∙◌, AreHandles, IsFreeSlot, Member, EachPair, Each-at, Each-from, Segment, LoadingWorld, Found, all_slots, given, segments_of, with_segment, named, ◌≡◌, arith, IsHeap, object_at}
use proofs.Undone.{zipped, in_first, in_second, parted, chosen}
use Rattle.std.specs.List.{AllByRecursion as Each}

-- no two segments have one slot
abbrev pub AreApart : List (ℕ × Segment) → Type 0
AreApart xs = EachPair (λ x y. x.0 ≢ y.0) xs

zip_apart : (s : List ℕ) (segments : List Segment) (more : List ℕ) (tail : List (ℕ × Segment)) → EachPair (λ a b. a ≢ b) (s ++ more) → ((x : ℕ × Segment) → Member x tail → Member x.0 more) → AreApart tail → AreApart (zip s segments ++ tail)
zip_apart [] segments more tail differ inside apart = apart
zip_apart (a ∷ s) [] more tail differ inside apart = apart
zip_apart (a ∷ s) (g ∷ gs) more tail differ inside apart =
    (Each-from (λ y. a ≢ y.0) _ (λ y m. Each-at (λ b. a ≢ b) (s ++ more) differ.0 y.0 (among y m)), zip_apart s gs more _ differ.1 inside apart)
  where
    among : (y : ℕ × Segment) → Member y (zip s gs ++ tail) → Member y.0 (s ++ more)
    among y m = elim (parted y _ _ m) [ inl k ↦ in_first y.0 s _ (zipped s gs y k) | inr k ↦ in_second y.0 s _ (inside y k) ]

pub apart_after : (s more : List ℕ) → EachPair (λ a b. a ≢ b) (s ++ more) → EachPair (λ a b. a ≢ b) more
apart_after [] more differ = differ
apart_after (a ∷ s) more differ = apart_after s _ differ.1

pub given_slots_apart : (place : ℕ) (fs : List Found) (hs : List ℕ) (ss : List (List ℕ)) → EachPair (λ a b. a ≢ b) (flat_map (λ s. s) ss) → AreApart (segments_of (C.given_from place fs hs ss))
given_slots_apart place [] hs ss differ = tt
given_slots_apart place (f ∷ fs) [] ss differ = tt
given_slots_apart place (f ∷ fs) (h ∷ hs) [] differ = tt
given_slots_apart place (f ∷ fs) (h ∷ hs) (s ∷ ss) differ =
    zip_apart s _ (flat_map (λ s. s) ss) _ differ (λ x m. chosen _ fs hs ss x m)
    (given_slots_apart (place + 1) fs hs ss (apart_after s (flat_map (λ s. s) ss) differ))

-- objects without bytes, where there were none, make a heap
entered_heaps : (w : LoadingWorld) (xs : List (ℕ × Segment)) → IsHeap w.handles.heap → Each (λ x. object_at w.handles.heap x.0 ≡ None) xs → AreApart xs → IsHeap (fold with_segment w xs).handles.heap
entered_heaps w [] is free apart = is
entered_heaps w (x ∷ xs) is free apart = entered_heaps (with_segment w x) xs (C.entered_heap _ is x.0 _ free.0)
    (Each-from (λ y. object_at (with_segment w x).handles.heap y.0 ≡ None) xs (λ y m.
    let other = Each-at (λ y. x.0 ≢ y.0) xs apart.0 y m in
    C.inserted_other _ x.0 (record { kind = x.1.kind; locks = 0; bytes = None }) y.0 (λ e. other (sym e)) ∙ Each-at (λ y. object_at w.handles.heap y.0 ≡ None) xs free.1 y m))
    apart.1

-- and in free slots, where one is enough for each, handles
entered_all : (w : LoadingWorld) (xs : List (ℕ × Segment)) → AreHandles w.handles → ((x : ℕ × Segment) → Member x xs → 1 ≡ C.slots_for x.1.size) → Each (λ x. IsFreeSlot w.handles x.0) xs → AreApart xs → AreHandles (fold with_segment w xs).handles
entered_all w [] is small free apart = is
entered_all w (x ∷ xs) is small free apart =
    entered_all (with_segment w x) xs
    (C.with_absent_object w.handles is (C.attributes_of x.1) x.0 x.1.kind (with_segment w x).handles.heap (omega arith) (small x (inl refl)) (C.run_of_one w.handles x.0 free.0) (record { unused = C.unused_slot w.handles is x.0 free.0; entered = refl }))
    (λ y m. small y (inr m))
    (Each-from (λ y. IsFreeSlot (with_segment w x).handles y.0) xs (λ y m.
    let was = Each-at (λ y. IsFreeSlot w.handles y.0) xs free.1 y m in
    let other = Each-at (λ y. x.0 ≢ y.0) xs apart.0 y m in
    (was.0, C.unowned_beside _ x.0 _ y.0 refl (λ e. other (sym e)) was.1)))
    apart.1

pub free_slot : (old : LoadingWorld) (closure : C.Closure) (choice : C.Choice) → C.IsChoice old closure.found choice → (q : ℕ) → Member q (all_slots choice) → IsFreeSlot old.handles q
free_slot old closure choice good q m = Each-at (IsFreeSlot old.handles) _ (C.Each-from_All _ _ good.slots.free) q m

module _ (old : LoadingWorld) (closure : C.Closure) (choice : C.Choice) (is : AreHandles old.handles) (good : C.IsChoice old closure.found choice) where
  segments_free : (x : ℕ × Segment) → Member x (segments_of (given closure choice)) → IsFreeSlot old.handles x.0
  segments_free x m = free_slot old closure choice good x.0 (chosen 0 closure.found choice.handles choice.slots x m)

  segments_apart : AreApart (segments_of (given closure choice))
  segments_apart = given_slots_apart 0 closure.found choice.handles choice.slots (C.EachPair-from_AllPairs (λ (a b : ℕ). a ≢ b) (flat_map (λ s. s) choice.slots) good.slots.apart)

  pub named_heap : IsHeap (named old closure choice).handles.heap
  named_heap = entered_heaps old (segments_of (given closure choice)) is.heap
      (Each-from (λ (x : ℕ × Segment). object_at old.handles.heap x.0 ≡ None) (segments_of (given closure choice)) (λ x m. C.unused_slot old.handles is x.0 (segments_free x m))) segments_apart

  pub named_handles : ((x : ℕ × Segment) → Member x (segments_of (given closure choice)) → 1 ≡ C.slots_for x.1.size) → AreHandles (named old closure choice).handles
  named_handles small = entered_all old (segments_of (given closure choice)) is small (Each-from (λ (x : ℕ × Segment). IsFreeSlot old.handles x.0) (segments_of (given closure choice)) segments_free) segments_apart
