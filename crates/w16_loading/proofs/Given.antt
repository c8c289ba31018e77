-- Lists of modules with the handles and slots that a load gives them, and what of them gets bytes.
use Rattle.w16_loading.proofs
use proofs.Common as C
use proofs.Common.{◌≡◌, ◌≢◌, ℕ, zero, suc, ◌+◌, ◌<◌, ◌≤◌, inl, inr, ◌⊎◌, Bool, true, false, cond, not, List, [], ◌∷◌, ◌++◌, length, flat_map, zip, slice_get, Some, None, refl, sym, ap, ◌∙◌, subst, arith, position_or_len, false≢true, Member, EachPair, Each-at, is_named, Segment}
use proofs.Common.{SegmentData, Far, Module, Modules, Named, Loaded, Filling, Found, Given, given_from, segments_of, with_modules, fills_from, fills_of}
use proofs.Undone.{in_first, in_second, parted}
use proofs.Named.{apart_after}
use Rattle.std.specs.List.{AllByRecursion as Each}
use Rattle.std.specs.FinMap as finmap

-- no element passes where there is no place of one
all_fail : {X : Type 0} (p : X → Bool) (xs : List X) → length xs ≤ position_or_len p xs → (x : X) → Member x xs → p x ≡ false
all_fail p [] le x m = absurd m
all_fail p (y ∷ xs) le x m = turn _ refl le (λ more k. all_fail p xs more x k) m
  where
    turn : (b : Bool) → p y ≡ b → length (y ∷ xs) ≤ cond (not b) (1 + position_or_len p xs) 0 → (length xs ≤ position_or_len p xs → Member x xs → p x ≡ false) → Member x (y ∷ xs) → p x ≡ false
    turn true t le rest m = absurd (omega (arith, le))
    turn false t le rest (inl same) = ap p same ∙ t
    turn false t le rest (inr m) = rest (omega (arith, le)) m

pub no_place : {X : Type 0} (p : X → Bool) (xs : List X) → C.position p xs ≡ None → (x : X) → Member x xs → p x ≡ false
no_place p xs e x m = turn _ refl e
  where
    turn : (b : Bool) → C.nat_lt (position_or_len p xs) (length xs) ≡ b → cond {A = C.Option ℕ} b (Some (position_or_len p xs)) None ≡ None → p x ≡ false
    turn true t e = cc
    turn false t e = all_fail p xs (C.ltb-false _ _ t) x m

pub member_place : {X : Type 0} (xs : List X) (x : X) → Member x xs → (i : ℕ) × (slice_get xs i ≡ Some x)
member_place [] x m = absurd m
member_place (y ∷ xs) x (inl e) = (0, ap Some (sym e))
member_place (y ∷ xs) x (inr m) = let r = member_place xs x m in (suc r.0, r.1)

pub place_member : {X : Type 0} (xs : List X) (i : ℕ) (x : X) → slice_get xs i ≡ Some x → Member x xs
place_member [] i x e = cc
place_member (y ∷ xs) zero x e = let f : y ≡ x = cc in inl (sym f)
place_member (y ∷ xs) (suc i) x e = inr (place_member xs i x e)

pub zip_place : {A B : Type 0} (xs : List A) (ys : List B) (i : ℕ) (p : A × B) → slice_get (zip xs ys) i ≡ Some p → (slice_get xs i ≡ Some p.0) × (slice_get ys i ≡ Some p.1)
zip_place [] ys i p e = cc
zip_place (x ∷ xs) [] i p e = cc
zip_place (x ∷ xs) (y ∷ ys) zero p e = (ap (C.option_map (λ q. q.0)) e, ap (C.option_map (λ q. q.1)) e)
zip_place (x ∷ xs) (y ∷ ys) (suc i) p e = zip_place xs ys i p e

pub zip_member : {A B : Type 0} (xs : List A) (ys : List B) (i : ℕ) (x : A) (y : B) → slice_get xs i ≡ Some x → slice_get ys i ≡ Some y → Member {X = A × B} (x, y) (zip xs ys)
zip_member [] ys i x y e f = cc
zip_member (a ∷ xs) [] i x y e f = cc
zip_member (a ∷ xs) (b ∷ ys) zero x y e f = let s : a ≡ x = cc in let t : b ≡ y = cc in inl (λ i. (sym s i, sym t i))
zip_member (a ∷ xs) (b ∷ ys) (suc i) x y e f = inr (zip_member xs ys i x y e f)

pub index_place : {X : Type 0} (xs : List X) (i : ℕ) (x d : X) → slice_get xs i ≡ Some x → C.slice_index_or xs i d ≡ x
index_place [] i x d e = cc
index_place (y ∷ xs) zero x d e = cc
index_place (y ∷ xs) (suc i) x d e = index_place xs i x d e

-- where all differ, one is at one place
pub one_place : (xs : List ℕ) (i j q : ℕ) → EachPair (λ a b. a ≢ b) xs → slice_get xs i ≡ Some q → slice_get xs j ≡ Some q → i ≡ j
one_place [] i j q differ e f = cc
one_place (x ∷ xs) zero zero q differ e f = refl
one_place (x ∷ xs) zero (suc j) q differ e f = let same : x ≡ q = cc in absurd (Each-at (λ b. x ≢ b) xs differ.0 q (place_member xs j q f) same)
one_place (x ∷ xs) (suc i) zero q differ e f = let same : x ≡ q = cc in absurd (Each-at (λ b. x ≢ b) xs differ.0 q (place_member xs i q e) same)
one_place (x ∷ xs) (suc i) (suc j) q differ e f = ap suc (one_place xs i j q differ.1 e f)

-- What modules a load adds.

pub given_found : (place : ℕ) (fs : List Found) (hs : List ℕ) (ss : List (List ℕ)) (g : Given) → Member g (given_from place fs hs ss) → Member g.found fs
given_found place [] hs ss g m = absurd m
given_found place (f ∷ fs) [] ss g m = absurd m
given_found place (f ∷ fs) (h ∷ hs) [] g m = absurd m
given_found place (f ∷ fs) (h ∷ hs) (s ∷ ss) g (inl e) = inl (λ i. (e i).found)
given_found place (f ∷ fs) (h ∷ hs) (s ∷ ss) g (inr m) = inr (given_found (place + 1) fs hs ss g m)

pub given_slot : (place : ℕ) (fs : List Found) (hs : List ℕ) (ss : List (List ℕ)) (g : Given) (q : ℕ) → Member g (given_from place fs hs ss) → Member q g.slots → Member q (flat_map (λ s. s) ss)
given_slot place [] hs ss g q m n = absurd m
given_slot place (f ∷ fs) [] ss g q m n = absurd m
given_slot place (f ∷ fs) (h ∷ hs) [] g q m n = absurd m
given_slot place (f ∷ fs) (h ∷ hs) (s ∷ ss) g q (inl e) n = in_first q s (flat_map (λ s. s) ss) (subst (λ x. Member q x.slots) e n)
given_slot place (f ∷ fs) (h ∷ hs) (s ∷ ss) g q (inr m) n = in_second q s (flat_map (λ s. s) ss) (given_slot (place + 1) fs hs ss g q m n)

-- a slot is one module's
apart_from : (s more : List ℕ) (q : ℕ) → EachPair (λ a b. a ≢ b) (s ++ more) → Member q s → Member q more → ⊥
apart_from [] more q differ m n = m
apart_from (x ∷ s) more q differ (inl e) n = Each-at (λ b. x ≢ b) (s ++ more) differ.0 q (in_second q s _ n) (sym e)
apart_from (x ∷ s) more q differ (inr m) n = apart_from s _ q differ.1 m n

pub first_apart : (s more : List ℕ) → EachPair (λ a b. a ≢ b) (s ++ more) → EachPair (λ a b. a ≢ b) s
first_apart [] more differ = tt
first_apart (x ∷ s) more differ = (each_first s more differ.0, first_apart s more differ.1)
  where
    each_first : (s more : List ℕ) → Each (λ b. x ≢ b) (s ++ more) → Each (λ b. x ≢ b) s
    each_first [] more h = tt
    each_first (y ∷ s) more h = (h.0, each_first s _ h.1)

pub one_given : (place : ℕ) (fs : List Found) (hs : List ℕ) (ss : List (List ℕ)) (g h : Given) (q : ℕ) → EachPair (λ a b. a ≢ b) (flat_map (λ s. s) ss)
    → Member g (given_from place fs hs ss) → Member h (given_from place fs hs ss) → Member q g.slots → Member q h.slots → h ≡ g
one_given place [] hs ss g h q differ m n a b = absurd m
one_given place (f ∷ fs) [] ss g h q differ m n a b = absurd m
one_given place (f ∷ fs) (k ∷ hs) [] g h q differ m n a b = absurd m
one_given place (f ∷ fs) (k ∷ hs) (s ∷ ss) g h q differ (inl e) (inl d) a b = d ∙ sym e
one_given place (f ∷ fs) (k ∷ hs) (s ∷ ss) g h q differ (inl e) (inr n) a b = absurd (apart_from s (flat_map (λ s. s) ss) q differ (subst (λ x. Member q x.slots) e a) (given_slot _ fs hs ss h q n b))
one_given place (f ∷ fs) (k ∷ hs) (s ∷ ss) g h q differ (inr m) (inl d) a b = absurd (apart_from s (flat_map (λ s. s) ss) q differ (subst (λ x. Member q x.slots) d b) (given_slot _ fs hs ss g q m a))
one_given place (f ∷ fs) (k ∷ hs) (s ∷ ss) g h q differ (inr m) (inr n) a b = one_given (place + 1) fs hs ss g h q (apart_after s (flat_map (λ s. s) ss) differ) m n a b

-- its slots differ
pub given_slots_differ : (place : ℕ) (fs : List Found) (hs : List ℕ) (ss : List (List ℕ)) (g : Given) → EachPair (λ a b. a ≢ b) (flat_map (λ s. s) ss) → Member g (given_from place fs hs ss) → EachPair (λ a b. a ≢ b) g.slots
given_slots_differ place [] hs ss g differ m = absurd m
given_slots_differ place (f ∷ fs) [] ss g differ m = absurd m
given_slots_differ place (f ∷ fs) (h ∷ hs) [] g differ m = absurd m
given_slots_differ place (f ∷ fs) (h ∷ hs) (s ∷ ss) g differ (inl e) = subst (λ x. EachPair (λ a b. a ≢ b) x.slots) (sym e) (first_apart s (flat_map (λ s. s) ss) differ)
given_slots_differ place (f ∷ fs) (h ∷ hs) (s ∷ ss) g differ (inr m) = given_slots_differ (place + 1) fs hs ss g (apart_after s (flat_map (λ s. s) ss) differ) m

-- Modules that are given.

pub given_long : (place : ℕ) (fs : List Found) (hs : List ℕ) (ss : List (List ℕ)) → C.AllZip (λ f s. length s ≡ length f.read.tables.segments) fs ss → (g : Given) → Member g (given_from place fs hs ss) → length g.slots ≡ length g.found.read.tables.segments
given_long place [] hs ss long g m = absurd m
given_long place (f ∷ fs) [] ss long g m = absurd m
given_long place (f ∷ fs) (h ∷ hs) [] long g m = absurd m
given_long place (f ∷ fs) (h ∷ hs) (s ∷ ss) long g (inl e) = subst (λ x. length x.slots ≡ length x.found.read.tables.segments) (sym e) long.0
given_long place (f ∷ fs) (h ∷ hs) (s ∷ ss) long g (inr m) = given_long (place + 1) fs hs ss long.1 g m

pub given_handle : (place : ℕ) (fs : List Found) (hs : List ℕ) (ss : List (List ℕ)) (g : Given) → Member g (given_from place fs hs ss) → Member g.handle hs
given_handle place [] hs ss g m = absurd m
given_handle place (f ∷ fs) [] ss g m = absurd m
given_handle place (f ∷ fs) (h ∷ hs) [] g m = absurd m
given_handle place (f ∷ fs) (h ∷ hs) (s ∷ ss) g (inl e) = inl (λ i. (e i).handle)
given_handle place (f ∷ fs) (h ∷ hs) (s ∷ ss) g (inr m) = inr (given_handle (place + 1) fs hs ss g m)

-- the segments of a module that is given
pub given_segment : (gs : List Given) (g : Given) (x : ℕ × Segment) → Member g gs → Member x (zip g.slots g.found.read.tables.segments) → Member x (segments_of gs)
given_segment [] g x m n = absurd m
given_segment (h ∷ gs) g x (inl e) n = in_first x (zip _ _) (segments_of gs) (subst (λ y. Member x (zip y.slots y.found.read.tables.segments)) e n)
given_segment (h ∷ gs) g x (inr m) n = in_second x (zip _ _) (segments_of gs) (given_segment gs g x m n)

pub segment_given : (gs : List Given) (x : ℕ × Segment) → Member x (segments_of gs) → (g : Given) × Member g gs × Member x (zip g.slots g.found.read.tables.segments)
segment_given [] x m = absurd m
segment_given (h ∷ gs) x m = elim (parted x _ _ m) [
  | inl a ↦ (h, inl refl, a)
  | inr b ↦ let r = segment_given gs x b in (r.0, inr r.1, r.2)
]

-- the module at a place
pub at_place : (first : ℕ) (fs : List Found) (hs : List ℕ) (ss : List (List ℕ)) → length hs ≡ length fs → C.AllZip (λ f s. length s ≡ length f.read.tables.segments) fs ss → (i : ℕ) → i < length fs
    → (g : Given) × Member g (given_from first fs hs ss) × (g.place ≡ first + i) × (slice_get hs i ≡ Some g.handle)
at_place first [] hs ss same long i lt = absurd (omega (arith, lt))
at_place first (f ∷ fs) [] ss same long i lt = absurd (omega (arith, same))
at_place first (f ∷ fs) (h ∷ hs) [] same long i lt = absurd long
at_place first (f ∷ fs) (h ∷ hs) (s ∷ ss) same long zero lt = (record { place = first; found = f; handle = h; slots = s }, inl refl, omega arith, refl)
at_place first (f ∷ fs) (h ∷ hs) (s ∷ ss) same long (suc i) lt =
    let r = at_place (first + 1) fs hs ss (omega (arith, same)) long.1 i (omega (arith, lt)) in
    let e = r.2 in
    (r.0, inr r.1, omega (arith, e), r.3)

-- its place is its index
pub given_index : (first : ℕ) (fs : List Found) (hs : List ℕ) (ss : List (List ℕ)) (g : Given) → Member g (given_from first fs hs ss) → (i : ℕ) × (g.place ≡ first + i) × (i < length fs) × (slice_get hs i ≡ Some g.handle)
given_index first [] hs ss g m = absurd m
given_index first (f ∷ fs) [] ss g m = absurd m
given_index first (f ∷ fs) (h ∷ hs) [] g m = absurd m
given_index first (f ∷ fs) (h ∷ hs) (s ∷ ss) g (inl e) = let same : g.place ≡ first = λ i. (e i).place in (0, omega (arith, same), omega arith, ap Some (sym (λ i. (e i).handle)))
given_index first (f ∷ fs) (h ∷ hs) (s ∷ ss) g (inr m) =
    let r = given_index (first + 1) fs hs ss g m in
    let e = r.1 in
    let lt = r.2 in
    (suc r.0, omega (arith, e), omega (arith, lt), r.3)

pub named_back : (a b : List ℕ) → is_named a b ≡ true → is_named b a ≡ true
named_back a b t = (C.is_named-Decides b a).1 (sym ((C.is_named-Decides a b).0 t))

-- modules of equal names are one
pub one_named : (first : ℕ) (fs : List Found) (hs : List ℕ) (ss : List (List ℕ)) → EachPair (λ f g. is_named f.read.tables.name g.read.tables.name ≡ false) fs → (g h : Given) → Member g (given_from first fs hs ss) → Member h (given_from first fs hs ss)
    → is_named g.found.read.tables.name h.found.read.tables.name ≡ true → g ≡ h
one_named first [] hs ss apart g h m n t = absurd m
one_named first (f ∷ fs) [] ss apart g h m n t = absurd m
one_named first (f ∷ fs) (k ∷ hs) [] apart g h m n t = absurd m
one_named first (f ∷ fs) (k ∷ hs) (s ∷ ss) apart g h (inl d) (inl e) t = d ∙ sym e
one_named first (f ∷ fs) (k ∷ hs) (s ∷ ss) apart g h (inl d) (inr n) t = absurd
    (false≢true (sym (Each-at (λ x. is_named _ _ ≡ false) fs apart.0
    h.found (given_found _ fs hs ss h n)) ∙ subst
    (λ x. is_named x.found.read.tables.name h.found.read.tables.name ≡ true) d t))
one_named first (f ∷ fs) (k ∷ hs) (s ∷ ss) apart g h (inr m) (inl e) t = absurd (false≢true (sym (Each-at (λ x. is_named _ _ ≡ false) fs apart.0 g.found (given_found _ fs hs ss g m))
    ∙ subst (λ x. is_named x.found.read.tables.name g.found.read.tables.name ≡ true) e (named_back _ _ t)))
one_named first (f ∷ fs) (k ∷ hs) (s ∷ ss) apart g h (inr m) (inr n) t = one_named (first + 1) fs hs ss apart.1 g h m n t

-- what a handle names once all have names
pub put_all : (module_of : Given → Module) (gs : List Given) (old : Modules) (handle : ℕ) → ((g : Given) → Member g gs → handle ≢ g.handle) → finmap.get (with_modules module_of gs old) handle ≡ finmap.get old handle
put_all module_of [] old handle out = refl
put_all module_of (g ∷ gs) old handle out = put_all _ gs _ _ (λ x m. out x (inr m)) ∙ C.inserted_other old _ _ _ (out g (inl refl))

pub put_named : (module_of : Given → Module) (gs : List Given) (old : Modules) (handle : ℕ) (n : Named) → finmap.get (with_modules module_of gs old) handle ≡ Some n
    → ((g : Given) × Member g gs × (g.handle ≡ handle) × (n ≡ Loaded (module_of g))) ⊎ (finmap.get old handle ≡ Some n)
put_named module_of [] old handle n e = inr e
put_named module_of (g ∷ gs) old handle n e = turn (put_named _ gs _ _ n e)
  where
    same : Some (Loaded (module_of g)) ≡ Some n → n ≡ Loaded (module_of g)
    same e = let f : Loaded (module_of g) ≡ n = cc in sym f

    turn : ((h : Given) × Member h gs × (h.handle ≡ handle) × (n ≡ Loaded (module_of h))) ⊎ (finmap.get (finmap.insert old g.handle (Loaded (module_of g))) handle ≡ Some n)
        → ((h : Given) × Member h (g ∷ gs) × (h.handle ≡ handle) × (n ≡ Loaded (module_of h))) ⊎ (finmap.get old handle ≡ Some n)
    turn (inl r) = inl (r.0, inr r.1, r.2, r.3)
    turn (inr r) = elim (C.cases_eq _ _) [
      | inl d ↦ inl (g, inl refl, sym d, same (sym (C.inserted_here old _ _ _ d) ∙ r))
      | inr d ↦ inr (sym (C.inserted_other old _ _ _ d) ∙ r)
    ]

-- what a handle names that names a module
pub loaded_is : (p : C.Option Named) (m : Module) → C.module_in p ≡ Some m → p ≡ Some (Loaded m)
loaded_is None m e = cc
loaded_is (Some (Loaded n)) m e = let f : n ≡ m = cc in ap (λ (x : Module). Some (Loaded x)) f
loaded_is (Some (C.BuiltIn name)) m e = cc

-- so a module that is there once they have names is one of them, or was there
pub new_or_old : (module_of : Given → Module) (gs : List Given) (old : Modules) (handle : ℕ) (m : Module) → C.module_at (with_modules module_of gs old) handle ≡ Some m
    → ((g : Given) × Member g gs × (g.handle ≡ handle) × (m ≡ module_of g)) ⊎ (C.module_at old handle ≡ Some m)
new_or_old module_of gs old handle m e = elim (put_named module_of gs old handle (Loaded m) (loaded_is _ m e)) [ inl r ↦ inl (r.0, r.1, r.2, same r.0 r.3) | inr f ↦ inr (ap C.module_in f) ]
  where
    same : (g : Given) → Loaded m ≡ Loaded (module_of g) → m ≡ module_of g
    same g e = cc

-- handles of later modules differ
later_handles : (place : ℕ) (fs : List Found) (hs : List ℕ) (ss : List (List ℕ)) (h : ℕ) → Each (λ b. h ≢ b) hs → (g : Given) → Member g (given_from place fs hs ss) → h ≢ g.handle
later_handles place fs hs ss h differ g m = Each-at (λ b. h ≢ b) hs differ _ (given_handle _ fs hs ss g m)

pub put_here : (module_of : Given → Module) (place : ℕ) (fs : List Found) (hs : List ℕ) (ss : List (List ℕ)) (old : Modules) → EachPair (λ a b. a ≢ b) hs → (g : Given) → Member g (given_from place fs hs ss)
    → finmap.get (with_modules module_of (given_from place fs hs ss) old) g.handle ≡ Some (Loaded (module_of g))
put_here module_of place [] hs ss old differ g m = absurd m
put_here module_of place (f ∷ fs) [] ss old differ g m = absurd m
put_here module_of place (f ∷ fs) (h ∷ hs) [] old differ g m = absurd m
put_here module_of place (f ∷ fs) (h ∷ hs) (s ∷ ss) old differ g (inl e) =
    let one : Given = record { place = place; found = f; handle = h; slots = s } in
    put_all module_of (given_from _ fs hs ss) _ _ (λ x n. subst (λ k. k ≢ x.handle) (sym (λ i. (e i).handle)) (later_handles _ fs hs ss h differ.0 x n))
    ∙ C.inserted_here old h _ _ (λ i. (e i).handle) ∙ (λ i. Some (Loaded (module_of (sym e i))))
put_here module_of place (f ∷ fs) (h ∷ hs) (s ∷ ss) old differ g (inr m) = put_here module_of (place + 1) fs hs ss (finmap.insert old h (Loaded (module_of (record { place = place; found = f; handle = h; slots = s })))) differ.1 g m

-- What is filled is some segment's image: at one place among a module's.
pub record IsFillOf (slots : List ℕ) (segments : List Segment) (data_of : List SegmentData) (values : List (List Far)) (x : Filling) : Type 0 where
  pub place : ℕ
  pub segment : Segment
  pub its_data : SegmentData
  pub its_values : List Far
  pub slot_at : slice_get slots place ≡ Some x.slot
  pub segment_at : slice_get segments place ≡ Some segment
  pub data_at : slice_get data_of place ≡ Some its_data
  pub values_at : slice_get values place ≡ Some its_values
  pub image : x.bytes ≡ its_data.image its_values

fill_of : (place : ℕ) (slots : List ℕ) (segments : List Segment) (data_of : List SegmentData) (values : List (List Far)) (x : Filling) → Member x (fills_from place slots segments data_of values) → IsFillOf slots segments data_of values x
fill_of place [] segments data_of values x m = absurd m
fill_of place (q ∷ qs) [] data_of values x m = absurd m
fill_of place (q ∷ qs) (g ∷ gs) [] values x m = absurd m
fill_of place (q ∷ qs) (g ∷ gs) (s ∷ ss) [] x m = absurd m
fill_of place (q ∷ qs) (g ∷ gs) (s ∷ ss) (v ∷ vs) x m = turn _ (λ n. fill_of _ qs gs ss vs x n) m
  where
    later : IsFillOf qs gs ss vs x → IsFillOf (q ∷ qs) (g ∷ gs) (s ∷ ss) (v ∷ vs) x
    later f = record { place = suc _; segment = f.segment; its_data = f.its_data; its_values = f.its_values; slot_at = f.slot_at; segment_at = f.segment_at; data_at = f.data_at; values_at = f.values_at; image = f.image }

    turn : (b : Bool) → (Member x (fills_from place qs gs ss vs) → IsFillOf qs gs ss vs x)
        → Member x (cond {A = List Filling} b (record { place = place; slot = q; bytes = s.image v } ∷ fills_from place qs gs ss vs) (fills_from place qs gs ss vs)) → IsFillOf (q ∷ qs) (g ∷ gs) (s ∷ ss) (v ∷ vs) x
    turn true again (inl e) = record { place = 0; segment = g; its_data = s; its_values = v; slot_at = λ i. Some (sym e i).slot; segment_at = refl; data_at = refl; values_at = refl; image = λ i. (e i).bytes }
    turn true again (inr n) = later (again n)
    turn false again n = later (again n)

abbrev pub IsFilledBy : (Given → Module) → Given → Filling → Type 0
IsFilledBy module_of g x = IsFillOf g.slots g.found.read.tables.segments g.found.read.segments (module_of g).values x

pub filled_by : (module_of : Given → Module) (gs : List Given) (x : Filling) → Member x (flat_map (fills_of module_of) gs) → (g : Given) × Member g gs × IsFilledBy module_of g x
filled_by module_of [] x m = absurd m
filled_by module_of (g ∷ gs) x m = elim (parted x _ _ m) [
  | inl a ↦ (g, inl refl, fill_of g.place g.slots _ _ (module_of g).values x a)
  | inr b ↦ let r = filled_by module_of gs x b in (r.0, inr r.1, r.2)
]

-- so its slot was chosen
pub filled_chosen : (module_of : Given → Module) (fs : List Found) (hs : List ℕ) (ss : List (List ℕ)) (x : Filling) → Member x (flat_map (fills_of module_of) (given_from 0 fs hs ss)) → Member x.slot (flat_map (λ s. s) ss)
filled_chosen module_of fs hs ss x m =
    let r = filled_by module_of _ x m in
    given_slot 0 fs hs ss r.0 _ r.1 (place_member _ r.2.place _ r.2.slot_at)
