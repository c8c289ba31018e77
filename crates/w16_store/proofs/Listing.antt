-- Names that are found by places in their order.
use Rattle.std.proofs.lemmas.Cmp as M
use Rattle.std.proofs.Common.{◌≡◌, ℕ, zero, suc, ◌+◌, ◌-◌, ◌<◌, ◌≤◌, Bool, true, false, List, [], ◌∷◌, Some, None, length, get_or, drop, ◌++◌, min, refl, sym, ap, ◌∙◌, subst, arith, length-drop, eqb-true, ◌||◌, map, Global, String}
use Rattle.std.proofs.lemmas.List.Sorted.{ranks_by, sorted_far, searchable_from_sorted}
use Rattle.std.proofs.lemmas.List.{get_or_default, length-map, get_or-map}
use Rattle.std.proofs.{lemmas.Bool.Decides.nat_tests, lemmas.Map.Text.is_eq-slice_cmp, lemmas.List.Folds.Any-from_list_any, lemmas.List.Folds.list_any-append}
use Rattle.std.specs.declared.cmp.Ordering.TheVariants.{Less, Equal, Greater}
use Rattle.std.specs.Ordering.{nat_cmp, is_lt, is_eq, ordering_then, ordering_reverse, ordering_index}
use Rattle.std.specs.{String.string_bytes, Prelude.nat_eq, List.find, List.list_any, List.Sorted.IsPartitionedBy, List.Sorted.IsSortedBy, Cmp.IsTotalOrder, declared.cmp.Ordering.Ordering, Str.str_to_ascii_uppercase}
use Rattle.w16_store.specs.Names.{is_named, name_cmp}
use Rattle.w16_store.specs.Places.{name_at, place_cmp, AreInOrder, AreWhole, IsSplitAt}

pub name_cmp_total : IsTotalOrder name_cmp
name_cmp_total = M.on_total str_to_ascii_uppercase M.nat_list_cmp_total

pub place_cmp_total : (names : List (List ℕ)) → IsTotalOrder (place_cmp names)
place_cmp_total names = M.then_total (M.on_total (name_at names) name_cmp_total) M.nat_cmp_total

-- names that are one are those that compare as equal
pub is_named-name_cmp : (a b : List ℕ) → is_eq (name_cmp a b) ≡ is_named a b
unfolding is_named
is_named-name_cmp a b = is_eq-slice_cmp (str_to_ascii_uppercase a) (str_to_ascii_uppercase b)

equal_where_named : (a b : List ℕ) → is_named a b ≡ true → name_cmp a b ≡ Equal
equal_where_named a b h = by (name_cmp a b) (is_named-name_cmp a b ∙ h)
  where
    by : (r : Ordering) → is_eq r ≡ true → r ≡ Equal
    by Less e = cc
    by Equal e = refl
    by Greater e = cc

-- where a name is first

pub find-first : (names : List (List ℕ)) (name : List ℕ) (i : ℕ) → i < length names → is_named (get_or names i []) name ≡ true → ((k : ℕ) → k < i → is_named (get_or names k []) name ≡ false)
    → find (λ n. is_named n name) names ≡ Some (get_or names i [])
find-first [] name i lt here before = absurd (omega arith)
find-first (n ∷ ns) name zero lt here before = rw here refl
find-first (n ∷ ns) name (suc i) lt here before =
    let first = before 0 (omega arith) in
    rw first (find-first ns name i (omega arith) here (λ k h. before (suc k) (omega arith)))

pub find-none : (names : List (List ℕ)) (name : List ℕ) → ((k : ℕ) → k < length names → is_named (get_or names k []) name ≡ false) → find (λ n. is_named n name) names ≡ None
find-none [] name none = refl
find-none (n ∷ ns) name none =
    let first = none 0 (omega arith) in
    rw first (find-none ns name (λ k h. none (suc k) (omega arith)))

-- names are compared byte by byte

pub name_cmp-end : (a b : List ℕ) (i : ℕ) → i ≡ min (length a) (length b) → name_cmp (drop i a) (drop i b) ≡ nat_cmp (length a) (length b)
name_cmp-end a b i h = by (drop i a) (drop i b) (length a) (length b) i (length-drop i a) (length-drop i b) h
  where
    by : (xs ys : List ℕ) (m n k : ℕ) → length xs ≡ m - k → length ys ≡ n - k → k ≡ min m n → name_cmp xs ys ≡ nat_cmp m n
    by [] [] m n k e f h = grind (arith, nat_tests)
    by [] (y ∷ ys) m n k e f h = grind (arith, nat_tests)
    by (x ∷ xs) [] m n k e f h = grind (arith, nat_tests)
    by (x ∷ xs) (y ∷ ys) m n k e f h = absurd (omega arith)

-- where what is sought isn't after x, and the order of x and what it is compared with is no wrong one, both are equal
same_rank : (r o : Ordering) → is_lt r ≡ false → is_lt (ordering_then (ordering_reverse r) o) ≡ false → (r ≡ Equal) × (is_lt o ≡ false)
same_rank Less o h k = cc
same_rank Equal o h k = (refl, k)
same_rank Greater o h k = cc

not_below : (a b : ℕ) → is_lt (nat_cmp a b) ≡ false → b ≤ a
not_below a b h = grind (arith, nat_tests)

not_true : (b : Bool) → (b ≡ true → ⊥) → b ≡ false
not_true true h = absurd (h refl)
not_true false h = refl

first_is_no_less : (r o : Ordering) → is_lt (ordering_then r o) ≡ false → is_lt r ≡ false
first_is_no_less Less o h = h
first_is_no_less Equal o h = refl
first_is_no_less Greater o h = refl

less_below : (r s : Ordering) → ordering_index r ≤ ordering_index s → is_lt s ≡ true → is_lt r ≡ true
less_below r s h k = grind (arith, nat_tests, M.is_lt_index)

pub is_partitioned : (names : List (List ℕ)) (places : List ℕ) (name : List ℕ) → AreInOrder names places → IsPartitionedBy (λ p. is_lt (name_cmp (name_at names p) name)) places
is_partitioned names places name rising i j d le within here =
    let by_name : IsSortedBy (λ a b. is_lt (name_cmp (name_at names a) (name_at names b))) places =
    λ k e lo hi. first_is_no_less (name_cmp (name_at names (get_or places (k + 1) e)) (name_at names (get_or places k e))) (nat_cmp (get_or places (k + 1) e) (get_or places k e)) (rising k e lo hi) in
    let up = searchable_from_sorted name_cmp_total (name_at names) places name by_name i j d le within in
    less_below (name_cmp (name_at names (get_or places i d)) name) (name_cmp (name_at names (get_or places j d)) name) up here

-- What a search for a name among strings finds, by the place p that it answers.
module _ (strings : List (String Global)) (places name : List ℕ) (at d p : ℕ) (rising : AreInOrder (map string_bytes strings) places) (whole : AreWhole (map string_bytes strings) places)
    (long : length places ≡ length strings) (parts : IsSplitAt (map string_bytes strings) places name at) (is : p ≡ get_or places at d) where
  abbrev names : List (List ℕ)
  names = map string_bytes strings

  as_long : length names ≡ length strings
  as_long = length-map strings (string_bytes {Z = Global})

  -- a place with the name is no less than p, which has the name too
  first : (j : ℕ) → j < length strings → is_named (name_at names j) name ≡ true → (is_named (name_at names p) name ≡ true) × (p ≤ j)
  first j lt here =
      let any = Any-from_list_any (nat_eq j) places (whole (long ∙ sym as_long) j (omega (arith, as_long))) in
      let within : any.0 < length places = any.2 in
      let here_is : get_or places any.0 d ≡ j = get_or_default places any.0 d any.1 within ∙ any.3 ∙ sym (eqb-true j any.1 any.4) in
      let equal = equal_where_named (name_at names j) name here in
      let not_before : any.0 < at → ⊥ = λ h. (cc (parts.0 any.0 d (omega arith) h)) in
      let from : at ≤ any.0 = omega (arith, not_before) in
      let a = get_or places at d in
      let far = sorted_far (λ x y. is_lt (place_cmp names x y)) (ranks_by (place_cmp_total names) (λ x. x)) places rising at any.0 d from within in
      let turned : name_cmp (name_at names j) (name_at names a) ≡ ordering_reverse (name_cmp (name_at names a) name) =
      name_cmp_total.congr (name_at names j) name (name_at names a) equal ∙ name_cmp_total.antisymm name (name_at names a) in
      let ranked = same_rank (name_cmp (name_at names a) name) (nat_cmp j a) (parts.1 at d (omega arith) (omega arith))
      (subst (λ (r : Ordering). is_lt (ordering_then r (nat_cmp j a)) ≡ false) turned (subst (λ (x : ℕ). is_lt (place_cmp names x a) ≡ false) here_is far)) in
      rw is (sym (is_named-name_cmp (name_at names a) name) ∙ ap is_eq ranked.0, not_below j a ranked.1)

  name_is : (s : String Global) → p < length strings → s ≡ get_or strings p s → name_at names p ≡ string_bytes s
  name_is s lt e = get_or-map (string_bytes {Z = Global}) strings p s [] lt ∙ ap (string_bytes {Z = Global}) (sym e)

  no_other : ((k : ℕ) → k < length strings → is_named (name_at names k) name ≡ true → ⊥) → find (λ n. is_named n name) names ≡ None
  no_other none = find-none names name (λ k h. not_true (is_named (name_at names k) name) (none k (omega (arith, as_long))))

  pub string-found : (s : String Global) → p < length strings → s ≡ get_or strings p s → is_named (string_bytes s) name ≡ true → find (λ n. is_named n name) names ≡ Some (string_bytes s)
  string-found s lt e here =
      let before = λ (k : ℕ) (h : k < p). not_true (is_named (name_at names k) name) (λ t. (let f = (first k (omega arith) t).1 in omega arith)) in
      find-first names name p (omega (arith, as_long)) (ap (λ n. is_named n name) (name_is s lt e) ∙ here) before ∙ ap (λ n. Some n) (name_is s lt e)

  pub string-other : (s : String Global) → p < length strings → s ≡ get_or strings p s → is_named (string_bytes s) name ≡ false → find (λ n. is_named n name) names ≡ None
  string-other s lt e other = no_other (λ k h t. (let same = name_is s lt e in cc (first k h t).0))

  pub string-none : length strings ≤ p → find (λ n. is_named n name) names ≡ None
  string-none le = no_other (λ k h t. (let f = (first k h t).1 in omega arith))

-- all places below n
pub record AreCounted (places : List ℕ) (n : ℕ) : Type 0 where
  pub holds : (k : ℕ) → k < n → list_any (nat_eq k) places ≡ true

pub counted_more : (places : List ℕ) (n : ℕ) → AreCounted places n → AreCounted (places ++ n ∷ []) (n + 1)
counted_more places n all = record { holds = λ k h. rw (list_any-append (nat_eq k) places (n ∷ [])) (by k h) }
  where
    by : (k : ℕ) → k < n + 1 → (list_any (nat_eq k) places || (nat_eq k n || false)) ≡ true
    by k h = elim (nat_eq k n) as (λ b. nat_eq k n ≡ b → (list_any (nat_eq k) places || (b || false)) ≡ true) [
      | true ↦ λ t. grind arith
      | false ↦ λ t. (let less : k < n = grind (arith, nat_tests) in rw (all.holds k less) refl)
    ] refl
