-- Segments that get objects in free slots, one after another.
use Rattle.w16_loader.proofs
use proofs.Common as C
use proofs.Common.{◌≡◌, ◌≢◌, ℕ, zero, suc, ◌+◌, ◌<◌, ◌≤◌, inl, inr, ◌⊎◌, Bool, true, false, cond, not, List, [], ◌∷◌, ◌++◌, length, map, fold, filter, zip, Option, Some, None, is_some, refl, sym, ap, ◌∙◌, subst, arith, range_with_len, false≢true, FIRST_SLOT, is_member, IsIn, owner_of}
use proofs.Common.{no_owner, IsFreeSlot, Member, Segment, LoadingWorld, free_slots, attributes_of, with_segment, Takes}
use Rattle.std.specs.List.{AllByRecursion as Each}
use Rattle.std.specs.FinMap as finmap

-- What all of them leave, and some after others.

pub takes_fold : (xs : List (ℕ × Segment)) (old new : LoadingWorld) → Takes old xs new → new ≡ fold with_segment old xs
takes_fold [] old new t = t
takes_fold (x ∷ xs) old new t = takes_fold xs _ new t.1

pub takes_then : (xs ys : List (ℕ × Segment)) (a b c : LoadingWorld) → Takes a xs b → Takes b ys c → Takes a (xs ++ ys) c
takes_then [] ys a b c t u = subst (λ w. Takes w ys c) t u
takes_then (x ∷ xs) ys a b c t u = (t.0, takes_then xs ys _ b c t.1 u)

-- modules don't count
pub takes_beside : (modules : C.Modules) (xs : List (ℕ × Segment)) (a b : LoadingWorld) → Takes a xs b → Takes (record a { modules = modules }) xs (record b { modules = modules })
takes_beside modules [] a b t = ap (λ (w : LoadingWorld). record w { modules = modules }) t
takes_beside modules (x ∷ xs) a b t = (t.0, takes_beside modules xs _ b t.1)

-- The slots were free, and they differ.

-- what has no owner beside a new run of one had none before, if that run's slot had none
module _ (m : C.FinMap C.nat_cmp C.Attributes) (first : ℕ) (a : C.Attributes) (one : a.slots ≡ 1) where
  own : owner_of (finmap.insert m first a) first ≡ None → ⊥
  own none = no_owner (finmap.insert m first a) first none first (omega arith, omega (arith, one, C.slots_with m first a first refl))

  unowned_before : (s : ℕ) → owner_of m first ≡ None → owner_of (finmap.insert m first a) s ≡ None → owner_of m s ≡ None
  unowned_before s free none = C.none_owns m s (λ q lies. elim (C.cases_eq q first) [
    | inl e ↦ let own : IsIn m s first = subst (IsIn m s) e lies in no_owner m first free first (omega arith, omega (arith, own.0, own.1))
    | inr d ↦ no_owner (finmap.insert m first a) s none q (lies.0, omega (arith, lies.1, C.slots_beside m first a q d))
  ])

free_before : (a : LoadingWorld) (x : ℕ × Segment) (q : ℕ) → IsFreeSlot a.handles x.0 → IsFreeSlot (with_segment a x).handles q → IsFreeSlot a.handles q × (x.0 ≢ q)
free_before a x q free f = (
  (f.0, unowned_before _ x.0 _ refl q free.1 f.1),
  λ e. own a.handles.attributes x.0 (attributes_of x.1) refl (subst (λ s. owner_of (with_segment a x).handles.attributes s ≡ None) (sym e) f.1),
)

pub slots_free : (xs : List (ℕ × Segment)) (a b : LoadingWorld) → Takes a xs b → Each (λ x. IsFreeSlot a.handles x.0) xs
slots_free [] a b t = tt
slots_free (x ∷ xs) a b t =
    (t.0, C.Each-map (λ y. IsFreeSlot (with_segment a x).handles y.0) (λ y. IsFreeSlot a.handles y.0) (λ y f. (free_before a x y.0 t.0 f).0) xs (slots_free xs _ b t.1))

pub slots_apart : (xs : List (ℕ × Segment)) (a b : LoadingWorld) → Takes a xs b → C.EachPair (λ x y. x.0 ≢ y.0) xs
slots_apart [] a b t = tt
slots_apart (x ∷ xs) a b t =
    (C.Each-map (λ y. IsFreeSlot (with_segment a x).handles y.0) (λ y. x.0 ≢ y.0) (λ y f. (free_before a x y.0 t.0 f).1) xs (slots_free xs _ b t.1), slots_apart xs (with_segment a x) b t.1)

-- Each leaves one free slot fewer.

pub in_range : (n a q : ℕ) → Member q (range_with_len a n) → (a ≤ q) × (q < a + n)
in_range zero a q m = absurd m
in_range (suc n) a q (inl e) = (omega (arith, e), omega (arith, e))
in_range (suc n) a q (inr m) = let r = in_range n (a + 1) q m in let le = r.0 in let lt = r.1 in (omega (arith, le), omega (arith, lt))

first_counts : (b : Bool) (x : ℕ) (some fewer : List ℕ) → length some ≡ length fewer + 1 → length (cond {A = List ℕ} b (x ∷ some) some) ≡ length (cond {A = List ℕ} b (x ∷ fewer) fewer) + 1
first_counts true x some fewer e = omega (arith, e)
first_counts false x some fewer e = e

module _ (p less : ℕ → Bool) (q : ℕ) (has : p q ≡ true) (lacks : less q ≡ false) (others : (k : ℕ) → k ≢ q → less k ≡ p k) where
  one_fewer : (n a : ℕ) → a ≤ q → q < a + n → length (filter p (range_with_len a n)) ≡ length (filter less (range_with_len a n)) + 1
  one_fewer zero a le lt = absurd (omega (arith, le, lt))
  one_fewer (suc n) a le lt = turn (C.cases_eq a q) (λ before. one_fewer n (a + 1) before (omega (arith, lt)))
    where
      rest : List ℕ
      rest = range_with_len (a + 1) n

      turn : (a ≡ q) ⊎ (a ≢ q) → (a + 1 ≤ q → length (filter p rest) ≡ length (filter less rest) + 1) → length (cond {A = List ℕ} (p a) (a ∷ filter p rest) (filter p rest)) ≡ length (cond {A = List ℕ} (less a) (a ∷ filter less rest) (filter less rest)) + 1
      turn (inl e) again =
          let same : length (filter p rest) ≡ length (filter less rest) = ap length (C.filter_same p less rest (λ k m. let r : (a + 1 ≤ k) × (k < a + 1 + n) = in_range n (a + 1) k m in let above : a + 1 ≤ k = r.0 in sym (others k (λ f. absurd (omega (arith, above, e, f)))))) in
          ap (λ b. length (cond {A = List ℕ} b (a ∷ filter p rest) (filter p rest))) (ap p e ∙ has)
          ∙ (let more : suc (length (filter p rest)) ≡ length (filter less rest) + 1 = omega (arith, same) in more)
          ∙ ap (λ b. length (cond {A = List ℕ} b (a ∷ filter less rest) (filter less rest)) + 1) (sym (ap less e ∙ lacks))
      turn (inr d) again =
          let before : a + 1 ≤ q = let f : a ≡ q → ⊥ = d in omega (arith, le, f) in
          first_counts (p a) a (filter p rest) (filter less rest) (again before)
          ∙ ap (λ b. length (cond {A = List ℕ} b (a ∷ filter less rest) (filter less rest)) + 1) (sym (others a d))

abbrev is_free : LoadingWorld → ℕ → Bool
is_free world slot = not (is_some (owner_of world.handles.attributes slot))

both_none : {X Y : Type 0} (p : Option X) (q : Option Y) → (p ≡ None → q ≡ None) → (q ≡ None → p ≡ None) → is_some p ≡ is_some q
both_none None None h k = refl
both_none None (Some y) h k = let e = h refl in cc
both_none (Some x) None h k = let e = k refl in cc
both_none (Some x) (Some y) h k = refl

one_taken : (a : LoadingWorld) (x : ℕ × Segment) → IsFreeSlot a.handles x.0 → length (free_slots a.handles) ≡ length (free_slots (with_segment a x).handles) + 1
one_taken a x f = one_fewer _ _ x.0 (ap (λ p. not (is_some p)) f.1)
    (taken _ (own _ x.0 _ refl))
    (λ k d. ap not (both_none _ _ (unowned_before _ x.0 _ refl k f.1) (C.unowned_beside _ x.0 _ k refl d)))
    _ _ f.0.0 f.0.1
  where
    taken : (p : Option ℕ) → (p ≡ None → ⊥) → not (is_some p) ≡ false
    taken None h = absurd (h refl)
    taken (Some q) h = refl

pub fewer_slots : (xs : List (ℕ × Segment)) (a b : LoadingWorld) → Takes a xs b → length (free_slots a.handles) ≡ length (free_slots b.handles) + length xs
fewer_slots [] a b t = ap (λ w. length (free_slots w.handles)) (sym t) ∙ omega arith
fewer_slots (x ∷ xs) a b t =
    let one = one_taken a x t.0 in
    let rest = fewer_slots xs _ b t.1 in
    omega (arith, one, rest)

none_in : (xs : List ℕ) → ((q : ℕ) → Member q xs → ⊥) → length xs ≡ 0
none_in [] out = refl
none_in (x ∷ xs) out = absurd (out x (inl refl))

pub no_free_slots : (h : C.Handles) → C.HasNoSlot h → length (free_slots h) ≡ 0
no_free_slots h none = none_in _ (λ q m.
    let r = C.member_filter (λ slot. not (is_some _)) (range_with_len _ h.slots) q m in
    none q (in_range h.slots _ q r.0, absent _ r.1))
  where
    absent : (p : Option ℕ) → C.IsTrue (not (is_some p)) → p ≡ None
    absent None t = refl
    absent (Some first) t = absurd (false≢true t)

-- Slots of one module.

pub firsts : {A B : Type 0} (ss : List A) (gs : List B) → length ss ≤ length gs → map (λ x. x.0) (zip ss gs) ≡ ss
firsts [] gs le = refl
firsts (s ∷ ss) [] le = absurd (omega (arith, le))
firsts {A} (s ∷ ss) (g ∷ gs) le = ap (λ r. s ∷ r) (firsts ss gs (omega (arith, le)))

pub each_first : {A B : Type 0} (P : A → Type 0) (xs : List (A × B)) → Each (λ x. P x.0) xs → Each P (map (λ x. x.0) xs)
each_first P [] h = tt
each_first P (x ∷ xs) h = (h.0, each_first P xs h.1)

pub zip_long : {A B : Type 0} (ss : List A) (gs : List B) → length ss ≤ length gs → length (zip ss gs) ≡ length ss
zip_long [] gs le = refl
zip_long (s ∷ ss) [] le = absurd (omega (arith, le))
zip_long (s ∷ ss) (g ∷ gs) le = ap suc (zip_long ss gs (omega (arith, le)))

zip_more : {A B : Type 0} (ss : List A) (gs : List B) (s : A) (g : B) → C.slice_get gs (length ss) ≡ Some g → zip (ss ++ s ∷ []) gs ≡ zip ss gs ++ (s, g) ∷ []
zip_more [] [] s g e = cc
zip_more [] (h ∷ gs) s g e = let f : h ≡ g = cc in (λ i. (s, f i) ∷ [])
zip_more (t ∷ ss) [] s g e = cc
zip_more {A} {B} (t ∷ ss) (h ∷ gs) s g e = ap (λ r. (t, h) ∷ r) (zip_more ss gs s g e)

pub takes_more : (ss : List ℕ) (gs : List Segment) (s : ℕ) (g : Segment) (a b c : LoadingWorld) → C.slice_get gs (length ss) ≡ Some g → Takes a (zip ss gs) b → IsFreeSlot b.handles s → c ≡ with_segment b (s, g) → Takes a (zip (ss ++ s ∷ []) gs) c
takes_more ss gs s g a b c e t free put = subst (λ xs. Takes a xs c) (sym (zip_more ss gs s g e)) (takes_then _ ((s, g) ∷ []) a b c t (free, put))

-- they go again, and nothing is left
pub takes_back : (ss : List ℕ) (gs : List Segment) (a b : LoadingWorld) → C.AreHandles a.handles → length ss ≤ length gs → Takes a (zip ss gs) b → C.without_objects (λ q. is_member q ss) b ≡ a
takes_back ss gs a b is le t =
    ap (C.without_objects (λ q. is_member q ss)) (takes_fold _ a b t)
    ∙ C.taken_back_law a ss _ is
    (C.All-from_Each (IsFreeSlot a.handles) ss (subst (Each _) (firsts ss gs le) (each_first _ _ (slots_free _ a b t))))
    (C.All-from_Each (λ x. is_member x.0 ss ≡ true) (zip ss gs) (C.Each-from (λ x. is_member x.0 ss ≡ true) (zip ss gs) (λ x m. C.true-is_member x.0 ss (C.zipped ss gs x m))))
