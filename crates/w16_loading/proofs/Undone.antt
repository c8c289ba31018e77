-- Names that are taken back leave the same world.
use Rattle.w16_loading.proofs
use proofs.Common as C
use proofs.Common.{◌≡◌, ◌≢◌, ℕ, ◌+◌, inl, inr, ◌⊎◌, Bool, true, false, cond, not, List, [], ◌∷◌, ◌++◌, fold, filter, flat_map, zip, Some, None, All, is_some, refl, sym, ap, ◌∙◌, subst, false≢true, is_member, object_at, IsFreeSlot, Member, inserted_other, Segment, LoadingWorld, Found}
use proofs.Common.{given, segments_of, with_segment, without_objects}
use Rattle.std.specs.FinMap as finmap

-- Slots of segments are slots that were chosen.

pub zipped : {A B : Type 0} (slots : List A) (segments : List B) (x : A × B) → Member x (zip slots segments) → Member x.0 slots
zipped [] segments x m = absurd m
zipped (s ∷ ss) [] x m = absurd m
zipped (s ∷ ss) (g ∷ gs) x (inl e) = inl (λ i. (e i).0)
zipped (s ∷ ss) (g ∷ gs) x (inr m) = inr (zipped ss gs x m)

pub in_first : {A : Type 0} (x : A) (xs ys : List A) → Member x xs → Member x (xs ++ ys)
in_first x [] ys m = absurd m
in_first x (y ∷ xs) ys (inl e) = inl e
in_first x (y ∷ xs) ys (inr m) = inr (in_first x xs ys m)

pub in_second : {A : Type 0} (x : A) (xs ys : List A) → Member x ys → Member x (xs ++ ys)
in_second x [] ys m = m
in_second x (y ∷ xs) ys m = inr (in_second x xs ys m)

pub parted : {A : Type 0} (x : A) (xs ys : List A) → Member x (xs ++ ys) → Member x xs ⊎ Member x ys
parted x [] ys m = inr m
parted x (y ∷ xs) ys (inl e) = inl (inl e)
parted x (y ∷ xs) ys (inr m) = elim (parted x xs ys m) [ inl a ↦ inl (inr a) | inr b ↦ inr b ]

-- by modules
pub chosen : (place : ℕ) (fs : List Found) (hs : List ℕ) (ss : List (List ℕ)) (x : ℕ × Segment) → Member x (segments_of (C.given_from place fs hs ss)) → Member x.0 (flat_map (λ s. s) ss)
chosen place [] hs ss x m = absurd m
chosen place (f ∷ fs) [] ss x m = absurd m
chosen place (f ∷ fs) (h ∷ hs) [] x m = absurd m
chosen place (f ∷ fs) (h ∷ hs) (s ∷ ss) x m = elim (parted x (zip s _) (segments_of (C.given_from _ fs hs ss)) m) [
  | inl a ↦ in_first x.0 s (flat_map (λ s. s) ss) (zipped s _ x a)
  | inr b ↦ in_second x.0 s (flat_map (λ s. s) ss) (chosen (place + 1) fs hs ss x b)
]

-- What naming leaves: objects and attributes under the slots of segments alone.
pub record IsNamed (old new : LoadingWorld) (xs : List (ℕ × Segment)) : Type 0 where
  pub rest : new ≡ record old { handles = record old.handles { heap = record old.handles.heap { objects = new.handles.heap.objects }; attributes = new.handles.attributes } }
  pub others : (q : ℕ) → ((x : ℕ × Segment) → Member x xs → q ≢ x.0) → object_at new.handles.heap q ≡ object_at old.handles.heap q
  pub attributes : (q : ℕ) → ((x : ℕ × Segment) → Member x xs → q ≢ x.0) → finmap.get new.handles.attributes q ≡ finmap.get old.handles.attributes q

pub fold_named : (w : LoadingWorld) (xs : List (ℕ × Segment)) → IsNamed w (fold with_segment w xs) xs
fold_named w [] = record { rest = refl; others = λ q out. refl; attributes = λ q out. refl }
fold_named w (x ∷ xs) = let r = fold_named (with_segment w x) xs in record {
  rest = r.rest;
  others = λ q out. r.others q (λ y m. out y (inr m)) ∙ inserted_other _ x.0 (record { kind = x.1.kind; locks = 0; bytes = None }) q (out x (inl refl));
  attributes = λ q out. r.attributes q (λ y m. out y (inr m)) ∙ inserted_other _ x.0 _ q (out x (inl refl));
}

pub same_owned : (w : LoadingWorld) (xs : List (ℕ × Segment)) (q : ℕ) → ((x : ℕ × Segment) → Member x xs → q ≢ x.0) → C.owned_at (fold with_segment w xs).handles q ≡ C.owned_at w.handles q
same_owned w xs q out = ap C.owned_in ((fold_named w xs).attributes q out)

-- What isn't there needn't go.
pub kept_all : (gone : ℕ → Bool) (ids : List ℕ) → ((q : ℕ) → Member q ids → gone q ≡ false) → filter (λ q. not (gone q)) ids ≡ ids
kept_all gone [] out = refl
kept_all gone (q ∷ ids) out = ap (λ b. cond {A = List ℕ} (not b) (q ∷ filter (λ q. not (gone q)) ids) (filter (λ q. not (gone q)) ids)) (out q (inl refl)) ∙ ap (λ r. q ∷ r) (kept_all _ ids (λ p m. out p (inr m)))

pub retained : {X : Type 0} (m : C.FinMap C.nat_cmp X) (gone : ℕ → Bool) (q : ℕ) → finmap.get (finmap.retain_keys m (λ q. not (gone q))) q ≡ cond (not (gone q)) (finmap.get m q) None
retained m gone q = C.get-retain_keys m (λ q. not _) q (λ x t. ap (λ k. not (gone k)) (sym (C.nat_cmp-IsAntisymmetric q x t)))

module _ (old : LoadingWorld) (is : C.AreHandles old.handles) (slots : List ℕ) (free : (q : ℕ) → Member q slots → object_at old.handles.heap q ≡ None) where
  abbrev gone : ℕ → Bool
  gone q = is_member q slots

  no_object : (q : ℕ) → gone q ≡ true → object_at old.handles.heap q ≡ None
  no_object q t = free q (C.is_member-true q slots t)

  none : {X : Type 0} (p : C.Option X) → is_some p ≡ false → p ≡ None
  none None e = refl
  none (Some at) e = absurd (false≢true (sym e))

  not_in_order : (q : ℕ) → Member q old.handles.heap.order → gone q ≡ false
  not_in_order q m = elim (C.cases_Bool (gone q)) [
    | inl t ↦ absurd (false≢true (sym (is.heap.in_order q ∙ ap C.is_in_order (no_object q t)) ∙ C.true-is_member q old.handles.heap.order m))
    | inr t ↦ t
  ]

  -- a map that has nothing there
  unchanged : {X : Type 0} (before after : C.FinMap C.nat_cmp X) → ((q : ℕ) → gone q ≡ true → finmap.get before q ≡ None) → ((q : ℕ) → gone q ≡ false → finmap.get after q ≡ finmap.get before q)
      → finmap.retain_keys after (λ q. not (gone q)) ≡ before
  unchanged before after none same = C.same_map C.nat_cmp_total C.nat_cmp-IsAntisymmetric (finmap.retain_keys after (λ q. not (gone q))) before (λ q. retained after gone q ∙ elim (C.cases_Bool (gone q)) [
    | inl t ↦ ap (λ b. cond (not b) (finmap.get after q) None) t ∙ sym (none q t)
    | inr t ↦ ap (λ b. cond (not b) (finmap.get after q) None) t ∙ same q t
  ])

  pub taken_away : (xs : List (ℕ × Segment)) → ((x : ℕ × Segment) → Member x xs → Member x.0 slots) → (new : LoadingWorld) → IsNamed old new xs → without_objects gone new ≡ old
  taken_away xs inside new n =
      ap (without_objects gone) n.rest ∙ (λ i. record old { handles = record old.handles { heap = record old.handles.heap { objects = objects i; places = places i; order = order i }; attributes = attributes i } })
    where
      out : (q : ℕ) → gone q ≡ false → (x : ℕ × Segment) → Member x xs → q ≢ x.0
      out q t x m e = false≢true (sym t ∙ C.true-is_member q slots (subst (λ k. Member k slots) (sym e) (inside x m)))

      objects : finmap.retain_keys new.handles.heap.objects (λ q. not (gone q)) ≡ old.handles.heap.objects
      objects = unchanged old.handles.heap.objects new.handles.heap.objects no_object (λ q t. n.others q (out q t))

      places : finmap.retain_keys old.handles.heap.places (λ q. not (gone q)) ≡ old.handles.heap.places
      places = unchanged old.handles.heap.places old.handles.heap.places
          (λ q t. none (finmap.get old.handles.heap.places q) (is.heap.at_bytes q ∙ ap (λ p. is_some (elim p [ Some o ↦ o.bytes | None ↦ None ])) (no_object q t))) (λ q t. refl)

      order : filter (λ q. not (gone q)) old.handles.heap.order ≡ old.handles.heap.order
      order = kept_all gone old.handles.heap.order not_in_order

      attributes : finmap.retain_keys new.handles.attributes (λ q. not (gone q)) ≡ old.handles.attributes
      attributes = unchanged old.handles.attributes new.handles.attributes (λ q t. none (finmap.get old.handles.attributes q) (is.attributed q ∙ ap is_some (no_object q t))) (λ q t. n.attributes q (out q t))

free_objects : (old : LoadingWorld) → C.AreHandles old.handles → (slots : List ℕ) → All (IsFreeSlot old.handles) slots → (q : ℕ) → Member q slots → object_at old.handles.heap q ≡ None
free_objects old is slots free q m = C.unused_slot _ is q (C.Each-at (IsFreeSlot old.handles) _ (C.Each-from_All _ _ free) q m)

pub taken_back_law : C.TakenBackLaw
taken_back_law old slots xs is free inside = taken_away old is _ (free_objects old is _ free) xs
    (λ x m. C.is_member-true x.0 _ (C.Each-at (λ x. is_member x.0 slots ≡ true) xs (C.Each-from_All (λ x. is_member x.0 slots ≡ true) xs inside) x m))
    _ (fold_named old xs)

pub undone_law : C.UndoneLaw
undone_law old closure choice is chosen_well = ap (λ w. C.with_heap old w.handles.heap) (taken_away old is (C.all_slots choice) (free_objects old is (C.all_slots choice) chosen_well.slots.free) (segments_of (given closure choice))
    (chosen 0 closure.found choice.handles choice.slots) (fold with_segment old (segments_of (given closure choice))) (fold_named old _))
