-- The lowest free handles.
use Rattle.w16_loader.proofs
use proofs.Common as C
use proofs.Common.{◌≡◌, ◌≢◌, ℕ, zero, suc, ◌+◌, ◌-◌, ◌<◌, ◌≤◌, Bool, true, false, not, cond, List, [], ◌∷◌, ◌++◌, length, get_or, take, drop, filter, Option, Some, None, All, AllPairs, refl, sym, ap, ◌∙◌, subst, arith, option_map, is_none, count_by, range_with_len, false≢true, EachPair}
use proofs.Common.{FIRST_MODULE, MOST_MODULES, Modules, Named, IsFreeModule, free_modules, Entry, free_handles, registered}
use proofs.{Registered.named_at, Registered.free_are, Takings.in_range}
use Rattle.std.proofs.Common.{drop-cons}
use Rattle.std.specs.List.{AllByRecursion as Each}
use Rattle.std.specs.FinMap as finmap

abbrev pub is_free : Modules → ℕ → Bool
is_free modules h = is_none (finmap.get modules h)

-- The free handles from one on.
abbrev pub free_from : Modules → ℕ → List ℕ
free_from modules h = filter (is_free modules) (range_with_len h (FIRST_MODULE + MOST_MODULES - h))

pub first_from : (modules : Modules) (h : ℕ) → h < FIRST_MODULE + MOST_MODULES → free_from modules h ≡ cond {A = List ℕ} (is_free modules h) (h ∷ free_from modules (h + 1)) (free_from modules (h + 1))
first_from modules h lt = let one : FIRST_MODULE + MOST_MODULES - h ≡ suc (FIRST_MODULE + MOST_MODULES - (h + 1)) = omega (arith, lt) in ap (λ n. filter (is_free modules) (range_with_len h n)) one

pub handle_more : (modules : Modules) (count h : ℕ) (made : List ℕ) → h < FIRST_MODULE + MOST_MODULES → is_free modules h ≡ true → take count ((made ++ h ∷ []) ++ free_from modules (h + 1)) ≡ take count (made ++ free_from modules h)
handle_more modules count h made lt free =
    ap (take count) (C.append_assoc made _ _)
    ∙ ap (λ r. take count (made ++ r)) (sym (first_from modules h lt ∙ ap (λ b. cond {A = List ℕ} b (h ∷ free_from modules (h + 1)) (free_from modules (h + 1))) free))

pub handle_taken : (modules : Modules) (count h : ℕ) (made : List ℕ) → h < FIRST_MODULE + MOST_MODULES → is_free modules h ≡ false → take count (made ++ free_from modules (h + 1)) ≡ take count (made ++ free_from modules h)
handle_taken modules count h made lt free =
    ap (λ r. take count (made ++ r)) (sym (first_from modules h lt ∙ ap (λ b. cond {A = List ℕ} b (h ∷ free_from modules (h + 1)) (free_from modules (h + 1))) free))

pub enough : (count : ℕ) (made xs ys : List ℕ) → count ≤ length made → take count (made ++ xs) ≡ take count (made ++ ys)
enough count made xs ys le = C.take-append-le count made xs le ∙ sym (C.take-append-le count made ys le)

pub all_through : (modules : Modules) (count h : ℕ) (made : List ℕ) → FIRST_MODULE + MOST_MODULES ≤ h → length made ≤ count → take count (made ++ free_from modules h) ≡ made
all_through modules count h made le few =
    let none : FIRST_MODULE + MOST_MODULES - h ≡ 0 = omega (arith, le) in
    ap (λ n. take count (made ++ filter (is_free modules) (range_with_len h n))) none ∙ ap (take count) (C.append-nil made) ∙ C.take_all count made few

-- They are free, and they differ.

none_is : {X : Type 0} (p : Option X) → C.IsTrue (is_none p) → p ≡ None
none_is None t = refl
none_is (Some x) t = absurd (false≢true t)

handles_free : (modules : Modules) → Each (IsFreeModule modules) (free_handles modules)
handles_free modules = C.Each-from _ _ (λ h m.
    let r = C.member_filter (is_free modules) (range_with_len FIRST_MODULE MOST_MODULES) h m in
    let inside = in_range MOST_MODULES _ h r.0 in
    (inside.0, inside.1, none_is _ r.1))

range_apart : (n a : ℕ) → EachPair (λ a b. a ≢ b) (range_with_len a n)
range_apart zero a = tt
range_apart (suc n) a = (C.Each-from (λ b. a ≢ b) _ (λ q m e. let r = in_range n (a + 1) q m in let le = r.0 in absurd (omega (arith, le, e))), range_apart n (a + 1))

handles_apart : (modules : Modules) → EachPair (λ a b. a ≢ b) (free_handles modules)
handles_apart modules = C.pairs_filter (λ a b. a ≢ b) (is_free modules) (range_with_len FIRST_MODULE MOST_MODULES) (range_apart MOST_MODULES FIRST_MODULE)

each_of_first : {X : Type 0} (P : X → Type 0) (k : ℕ) (xs : List X) → Each P xs → Each P (take k xs)
each_of_first P zero xs h = tt
each_of_first P (suc k) [] h = tt
each_of_first P (suc k) (x ∷ xs) h = (h.0, each_of_first P k xs h.1)

pairs_of_first : {X : Type 0} (R : X → X → Type 0) (k : ℕ) (xs : List X) → EachPair R xs → EachPair R (take k xs)
pairs_of_first R zero xs h = tt
pairs_of_first R (suc k) [] h = tt
pairs_of_first R (suc k) (x ∷ xs) h = (each_of_first (R x) k xs h.0, pairs_of_first R k xs h.1)

pub lowest_free : (modules : Modules) (count : ℕ) (hs : List ℕ) → hs ≡ take count (free_handles modules) → All (IsFreeModule modules) hs
lowest_free modules count hs e = subst (All (IsFreeModule modules)) (sym e) (C.All-from_Each (IsFreeModule modules) _ (each_of_first _ count _ (handles_free modules)))

pub lowest_apart : (modules : Modules) (count : ℕ) (hs : List ℕ) → hs ≡ take count (free_handles modules) → AllPairs ◌≢◌ hs
lowest_apart modules count hs e = subst (AllPairs ◌≢◌) (sym e) (C.AllPairs-from_EachPair (λ a b. a ≢ b) _ (pairs_of_first (λ a b. a ≢ b) count (free_handles modules) (handles_apart modules)))

-- the first of those that are free are such too
pub all_of_first : {X : Type 0} (P : X → Type 0) (k : ℕ) (xs : List X) → All P xs → All P (take k xs)
all_of_first P k xs h = C.All-from_Each P _ (each_of_first P k xs (C.Each-from_All P xs h))

pub apart_of_first : (k : ℕ) (xs : List ℕ) → AllPairs ◌≢◌ xs → AllPairs ◌≢◌ (take k xs)
apart_of_first k xs h = C.AllPairs-from_EachPair (λ a b. a ≢ b) _ (pairs_of_first (λ a b. a ≢ b) k xs (C.EachPair-from_AllPairs (λ a b. a ≢ b) xs h))

-- How many there are, in a table.

counted : (b : Bool) (x : ℕ) (xs : List ℕ) (n : ℕ) → length xs ≡ n → length (cond {A = List ℕ} b (x ∷ xs) xs) ≡ cond b 1 0 + n
counted true x xs n e = omega (arith, e)
counted false x xs n e = omega (arith, e)

module _ {A : Type 0} where
  is_none_of : (modules : Modules) (es : List (Option (Entry A))) (h : ℕ) → finmap.get modules h ≡ option_map C.named_of (get_or es h None) → is_free modules h ≡ is_none (get_or es h None)
  is_none_of modules es h e = ap is_none e ∙ by_case (get_or es h None)
    where
      by_case : (p : Option (Entry A)) → is_none (option_map C.named_of p) ≡ is_none p
      by_case None = refl
      by_case (Some x) = refl

  count_from : (es : List (Option (Entry A))) (n a : ℕ) → length es ≡ a + n → length (filter (is_free (registered es)) (range_with_len a n)) ≡ count_by is_none (drop a es)
  count_from es zero a long = ap (count_by is_none) (sym (C.drop_all a es (omega (arith, long))))
  count_from es (suc n) a long =
      let lt : a < length es = omega (arith, long) in
      ap (λ b. length (cond {A = List ℕ} b (a ∷ filter (is_free (registered es)) (range_with_len (a + 1) n)) (filter (is_free (registered es)) (range_with_len (a + 1) n)))) (is_none_of (registered es) es a (named_at es a))
      ∙ counted (is_none (get_or es a None)) a (filter (is_free (registered es)) (range_with_len (a + 1) n)) (count_by is_none (drop (a + 1) es)) (count_from es n (a + 1) (omega (arith, long)))
      ∙ sym (C.sum_by-cons (λ y. cond (is_none y) 1 0) (get_or es a None) (drop (a + 1) es))
      ∙ ap (count_by is_none) (ap (λ k. get_or es a None ∷ drop k es) (C.add-one a) ∙ sym (drop-cons es a None lt))

  pub all_free : (es : List (Option (Entry A))) → C.IsTable es → length (free_handles (registered es)) ≡ free_modules (registered es)
  all_free es is = count_from es MOST_MODULES FIRST_MODULE is.many ∙ free_are es is

  pub as_many : (modules : Modules) (es : List (Option (Entry A))) (count : ℕ) (hs : List ℕ) → registered es ≡ modules → C.IsTable es → hs ≡ take count (free_handles modules) → count ≤ free_modules modules → length hs ≡ count
  as_many modules es count hs view is = subst (λ (m : Modules). hs ≡ take count (free_handles m) → count ≤ free_modules m → length hs ≡ count) view (λ e le.
      let all : length (free_handles (registered es)) ≡ free_modules (registered es) = all_free es is in
      ap length e ∙ C.length-take-le count (free_handles (registered es)) (omega (arith, all, le)))

-- what a look at a handle tells
pub tested : {X : Type 0} (found : Option X) (f : X → Named) (p : Option Named) (r b : Bool) → option_map f found ≡ p → C.is_some found ≡ not r → r ≡ b → is_none p ≡ b
tested {X} found f p r b same is answered = ap is_none (sym same) ∙ by_case found ∙ ap not is ∙ twice r ∙ answered
  where
    by_case : (o : Option X) → is_none (option_map f o) ≡ not (C.is_some o)
    by_case None = refl
    by_case (Some x) = refl

    twice : (b : Bool) → not (not b) ≡ b
    twice true = refl
    twice false = refl
