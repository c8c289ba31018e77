-- The finite map of a table by handle.
use Rattle.w16_loader.proofs
use proofs.Common as C
use proofs.Common.{◌≡◌, ◌≢◌, ℕ, zero, suc, ◌+◌, ◌-◌, ◌<◌, ◌≤◌, inl, inr, List, [], ◌∷◌, length, get_or, set, drop, replicate, Bool, cond, Option, Some, None, option_map, is_some, refl, sym, ap, ◌∙◌, arith, count_by, is_none, nat_cmp, Less, put, get_or-replicate, length-replicate, by_id}
use proofs.Common.{FIRST_MODULE, MOST_MODULES, Named, module_in, Entry, named_of, registered, IsTable, Modules, false, ◌&&◌, ◌==◌}
use Rattle.std.proofs.Common.{Bor, option_copied}
use Rattle.std.specs.FinMap as finmap

-- nothing is before the first
no_entries : {X : Type 0} (es : List X) → length es ≡ 0 → es ≡ []
no_entries [] e = refl
no_entries (x ∷ xs) e = absurd (omega arith)

-- a count goes by its first
count_first : {X : Type 0} (p : X → Bool) (x : X) (xs : List X) → count_by p (x ∷ xs) ≡ cond (p x) 1 0 + count_by p xs
count_first p x xs = C.sum_by-cons (λ y. cond (p y) 1 0) x xs

some_is_not_none : {X : Type 0} (x : X) → Some x ≡ None → ⊥
some_is_not_none x e = cc

module _ {A : Type 0} where
  -- what a handle names
  pub named_at : (es : List (Option (Entry A))) (handle : ℕ) → finmap.get (registered es) handle ≡ option_map named_of (get_or es handle None)
  named_at es handle = C.get-by_id (λ _ e. named_of e) es handle

  -- what a look at it gives
  pub named_copied : (r : Option (Bor (Entry A))) → option_map (λ e. named_of e.now) r ≡ option_map named_of (option_copied r)
  named_copied None = refl
  named_copied (Some e) = refl

  named_change : (es : List (Option (Entry A))) (handle : ℕ) (o : Option (Entry A)) (after : Modules) → handle < length es → ((q : ℕ) → q ≡ handle → finmap.get after q ≡ option_map named_of o)
      → ((q : ℕ) → q ≢ handle → finmap.get after q ≡ finmap.get (registered es) q) → registered (set es handle o) ≡ after
  named_change es handle o after lt here other = C.same_map C.nat_cmp_total C.nat_cmp-IsAntisymmetric (registered (set es handle o)) after (λ q. named_at (set es handle o) q ∙ elim (C.cases_eq q handle) [
    | inl i ↦ ap (λ k. option_map named_of (get_or (set es handle o) k None)) i ∙ ap (option_map named_of) (C.get_or-set_same es handle o None lt) ∙ sym (here q i)
    | inr d ↦ ap (option_map named_of) (C.get_or-set_other es handle q o None d) ∙ sym (named_at es q) ∙ sym (other q d)
  ])

  pub named_set : (es : List (Option (Entry A))) (handle : ℕ) (e : Entry A) → handle < length es → registered (set es handle (Some e)) ≡ finmap.insert (registered es) handle (named_of e)
  named_set es handle e lt = named_change es handle (Some e) _ lt (C.inserted_here (registered es) handle (named_of e)) (C.inserted_other (registered es) handle (named_of e))

  pub named_unset : (es : List (Option (Entry A))) (handle : ℕ) → handle < length es → registered (set es handle None) ≡ finmap.remove (registered es) handle
  named_unset es handle lt = named_change es handle None _ lt (C.taken_here (registered es) handle) (C.taken_other (registered es) handle)

  -- which module is there, and that a free handle has nothing at its place
  pub module_there : (es : List (Option (Entry A))) {old : Modules} (handle : ℕ) {p : Option C.Module} → registered es ≡ old → p ≡ module_in (option_map named_of (get_or es handle None)) → p ≡ C.module_at old handle
  module_there es handle view found = found ∙ ap module_in (sym (named_at es handle)) ∙ ap (λ m. module_in (finmap.get m handle)) view

  pub free_place : (es : List (Option (Entry A))) {old : Modules} (handle : ℕ) → registered es ≡ old → finmap.get old handle ≡ None → get_or es handle None ≡ None
  free_place es handle view free = turn (get_or es handle None) (sym (named_at es handle) ∙ ap (λ m. finmap.get m handle) view ∙ free)
    where
      turn : (o : Option (Entry A)) → option_map named_of o ≡ None → o ≡ None
      turn None e = refl
      turn (Some x) e = cc

  pub past_idle : (es : List (Option (Entry A))) (handle : ℕ) → length es ≤ handle → C.is_idle (registered es) handle ≡ false
  past_idle es handle le = ap (λ p. is_some (module_in p) && (C.usage_with p (C.importers_among (finmap.entries (registered es)) handle) == 0)) (named_at es handle ∙ ap (option_map named_of) (C.get_or_past es handle None le))

  -- The entries of the map are those of the table, in its order.
  before_all : (id j : ℕ) (x : Named) (es : List (Option (Entry A))) → id < j → put nat_cmp id x (by_id (λ _ e. named_of e) j es) ≡ (id, x) ∷ by_id (λ _ e. named_of e) j es
  before_all id j x [] lt = refl
  before_all id j x (None ∷ es) lt = before_all id (j + 1) x es (omega arith)
  before_all id j x (Some e ∷ es) lt =
      let rest = by_id (λ _ e. named_of e) (j + 1) es in
      ap (λ o. C.by_order o ((id, x) ∷ (j, named_of e) ∷ rest) ((j, x) ∷ rest) ((j, named_of e) ∷ put nat_cmp id x rest)) (sym (C.nat_cmp_is id j Less lt))

  entries_from : (id : ℕ) (es : List (Option (Entry A))) → finmap.entries (finmap.from_entries {R = nat_cmp} (by_id (λ _ e. named_of e) id es)) ≡ by_id (λ _ e. named_of e) id es
  entries_from id [] = no_entries (finmap.entries finmap.empty) (sym (C.len-entries finmap.empty) ∙ C.len-empty nat_cmp Named)
  entries_from id (None ∷ es) = entries_from (id + 1) es
  entries_from id (Some e ∷ es) = C.entries-insert C.nat_cmp_total (finmap.from_entries (by_id (λ _ e. named_of e) (id + 1) es)) id (named_of e)
      ∙ ap (put nat_cmp id (named_of e)) (entries_from (id + 1) es) ∙ before_all id (id + 1) (named_of e) es (omega arith)

  pub entries_are : (es : List (Option (Entry A))) → finmap.entries (registered es) ≡ C.listed es
  entries_are es = entries_from 0 es

  -- How many there are, and how many handles are free.
  pub many_from : (id : ℕ) (es : List (Option (Entry A))) → length (by_id (λ _ e. named_of e) id es) ≡ count_by is_some es
  many_from id [] = refl
  many_from id (None ∷ es) = many_from (id + 1) es
  many_from id (Some e ∷ es) = ap suc (many_from (id + 1) es) ∙ omega arith ∙ sym (count_first is_some (Some e) es)

  or_none : (x : Option (Entry A)) (some none : ℕ) → cond (is_some x) 1 0 + some + (cond (is_none x) 1 0 + none) ≡ suc (some + none)
  or_none None some none = omega arith
  or_none (Some e) some none = omega arith

  all : (es : List (Option (Entry A))) → count_by is_some es + count_by is_none es ≡ length es
  all [] = refl
  all (x ∷ es) =
      let both = or_none x (count_by is_some es) (count_by is_none es) in
      let rest = all es in
      omega (arith, count_first is_some x es, count_first is_none x es, both, rest)

  free_behind : (k : ℕ) (es : List (Option (Entry A))) → k ≤ length es → ((q : ℕ) → q < k → get_or es q None ≡ None) → count_by is_some es + count_by is_none (drop k es) ≡ length es - k
  free_behind zero es le none = all es ∙ omega arith
  free_behind (suc k) [] le none = absurd (omega arith)
  free_behind (suc k) (None ∷ es) le none =
      let rest : count_by is_some es + count_by is_none (drop k es) ≡ length es - k = free_behind k es (omega arith) (λ q lt. none (suc q) (omega arith)) in
      let first : count_by is_some (None ∷ es) ≡ 0 + count_by is_some es = count_first is_some None es in
      omega arith
  free_behind (suc k) (Some e ∷ es) le none = absurd (some_is_not_none e (none 0 (omega arith)))

  pub len_is : (es : List (Option (Entry A))) → finmap.len (registered es) ≡ count_by is_some es
  len_is es = C.len-entries (registered es) ∙ ap length (entries_are es) ∙ many_from 0 es

  some_and_none : (es : List (Option (Entry A))) → IsTable es → count_by is_some es + count_by is_none (drop FIRST_MODULE es) ≡ MOST_MODULES
  some_and_none es is = omega (arith, free_behind FIRST_MODULE es (omega (arith, is.many)) is.none_below, is.many)

  pub few : (es : List (Option (Entry A))) → IsTable es → count_by is_some es ≤ MOST_MODULES
  few es is = omega (arith, some_and_none es is)

  pub free_are : (es : List (Option (Entry A))) → IsTable es → count_by is_none (drop FIRST_MODULE es) ≡ C.free_modules (registered es)
  free_are es is = omega (arith, len_is es, some_and_none es is)

  -- A new table.
  pub none_listed : (id : ℕ) (es : List (Option (Entry A))) (n : ℕ) → es ≡ replicate n None → by_id (λ _ e. named_of e) id es ≡ []
  none_listed id [] n e = refl
  none_listed id (None ∷ es) zero e = cc
  none_listed id (None ∷ es) (suc n) e = let rest : es ≡ replicate n None = cc in none_listed (id + 1) es n rest
  none_listed id (Some x ∷ es) zero e = cc
  none_listed id (Some x ∷ es) (suc n) e = cc

  pub none_registered : (es : List (Option (Entry A))) (n : ℕ) → es ≡ replicate n None → registered es ≡ finmap.empty
  none_registered es n e = ap finmap.from_entries (none_listed 0 es n e)

  -- only a handle from the first to the last names a module
  pub named_inside : {M : Type 0} (es : List (Option (Entry A))) (handle : ℕ) (result : Option M) (value : M → C.Module) → IsTable es
      → option_map value result ≡ module_in (option_map named_of (get_or es handle None)) → C.OnSome result ((FIRST_MODULE ≤ handle) × (handle < FIRST_MODULE + MOST_MODULES))
  named_inside es handle None value is found = tt
  named_inside es handle (Some m) value is found =
      let none : get_or es handle None ≡ None → ⊥ = λ e. some_is_not_none (value m) (found ∙ ap (λ o. module_in (option_map named_of o)) e) in
      let first : handle < FIRST_MODULE → ⊥ = λ lt. none (is.none_below handle lt) in
      let last : length es ≤ handle → ⊥ = λ le. none (C.get_or_past es handle None le) in
      (omega arith, omega (arith, is.many))

  -- a place for a module gets something, or is left
  pub set_table : (es : List (Option (Entry A))) (place : ℕ) (o : Option (Entry A)) → FIRST_MODULE ≤ place → IsTable es → IsTable (set es place o)
  set_table es place o first is = record {
    many = C.length-set es place o ∙ is.many;
    none_below = λ q below. C.get_or-set_other es place q o None (λ e. omega arith) ∙ is.none_below q below;
  }

  pub new_table : (es : List (Option (Entry A))) → es ≡ replicate (FIRST_MODULE + MOST_MODULES) None → IsTable es
  new_table es e = record {
    many = ap length e ∙ length-replicate {A = Option (Entry A)} (FIRST_MODULE + MOST_MODULES) None;
    none_below = λ q lt. ap (λ xs. get_or xs q None) e ∙ get_or-replicate {A = Option (Entry A)} (FIRST_MODULE + MOST_MODULES) q None None (omega arith);
  }
