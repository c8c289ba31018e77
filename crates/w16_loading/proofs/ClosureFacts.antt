-- What a closure has found: modules of names that nothing had, each but the first asked for by another.
use Rattle.w16_loading.proofs
use proofs.Common as C
use proofs.Common.{◌≡◌, ◌≢◌, ℕ, ◌+◌, ◌<◌, ◌≤◌, inl, inr, Bool, true, false, List, [], ◌∷◌, ◌++◌, length, map, Some, None, refl, sym, ap, ◌∙◌, subst, arith, length-append, Member, EachPair, is_named, Closure, Found, Referent, meant, begun, There, New}
use proofs.Undone.{in_first, in_second, parted}
use proofs.Given.{no_place}
use Rattle.std.specs.List.{AllByRecursion as Each}

abbrev name_of : Found → List ℕ
name_of f = f.read.tables.name

-- What holds of a closure on the way.
pub record IsClosure (answers : C.Answers) (named : List ℕ → C.Option ℕ) (closure : Closure) : Type 0 where
  -- what was read was told so
  pub held : (f : Found) → Member f closure.found → answers.holds f.file f.read
  -- names are new, and different
  pub new : (f : Found) → Member f closure.found → named (name_of f) ≡ None
  pub apart : EachPair (λ f g. is_named (name_of f) (name_of g) ≡ false) closure.found
  -- references are of modules that were found
  pub pending : Each (λ x. x.0 < length closure.found) closure.pending
  pub bound : Each (λ x. x.0 < length closure.found) closure.bound
  -- each new module but the first is meant by another
  pub asked : (place : ℕ) → 0 < place → place < length closure.found → (by : ℕ) × Member {X = ℕ × Referent} (by, New place) closure.bound × (by ≢ place)

each_both : {X : Type 0} (P : X → Type 0) (xs ys : List X) → Each P xs → Each P ys → Each P (xs ++ ys)
each_both P [] ys h k = k
each_both P (x ∷ xs) ys h k = (h.0, each_both P xs ys h.1 k)

module _ (answers : C.Answers) (a : C.Around) where
  -- what nothing means, nothing has the name of
  meant_none : (found : List Found) (name : List ℕ) → meant a found name ≡ None → (a.named name ≡ None) × ((f : Found) → Member f found → is_named (name_of f) name ≡ false)
  meant_none found name e = turn (a.named name) (C.position (λ f. is_named (name_of f) name) found) refl refl e
    where
      turn : (p r : C.Option ℕ) → a.named name ≡ p → C.position (λ f. is_named (name_of f) name) found ≡ r → C.option_or (C.option_map There p) (C.option_map New r) ≡ None → (a.named name ≡ None) × ((f : Found) → Member f found → is_named (name_of f) name ≡ false)
      turn None None x y e = (x, λ f m. no_place (λ f. is_named (name_of f) name) found y f m)
      turn None (Some r) x y e = cc
      turn (Some p) r x y e = cc

  each_longer : {Y : Type 0} (xs : List (ℕ × Y)) (m n : ℕ) → m ≤ n → Each (λ x. x.0 < m) xs → Each (λ x. x.0 < n) xs
  each_longer [] m n le h = tt
  each_longer (x ∷ xs) m n le h = ((let lt : x.0 < m = h.0 in omega (arith, lt, le)), each_longer xs m n le h.1)

  -- one more reference is bound
  pub bound_more : (closure : Closure) (place : ℕ) (referent : Referent) → place < length closure.found → IsClosure answers a.named closure → IsClosure answers a.named (C.with_bound closure place referent)
  bound_more closure place referent lt is = record {
    held = is.held;
    new = is.new;
    apart = is.apart;
    pending = is.pending;
    bound = each_both (λ (x : ℕ × Referent). x.0 < length closure.found) closure.bound ((place, referent) ∷ []) is.bound (lt, tt);
    asked = λ p some few.
        let was : (by : ℕ) × Member {X = ℕ × Referent} (by, New p) closure.bound × (by ≢ p) = is.asked p some few in
        (was.0, in_first {A = ℕ × Referent} (was.0, New p) closure.bound ((place, referent) ∷ []) was.1, was.2);
  }

  apart_more : (xs : List Found) (f : Found) → EachPair (λ f g. is_named (name_of f) (name_of g) ≡ false) xs → ((g : Found) → Member g xs → is_named (name_of g) (name_of f) ≡ false) → EachPair (λ f g. is_named (name_of f) (name_of g) ≡ false) (xs ++ f ∷ [])
  apart_more [] f h out = (tt, tt)
  apart_more (x ∷ xs) f h out = (each_both (λ g. is_named (name_of x) (name_of g) ≡ false) xs (f ∷ []) h.0 (out x (inl refl), tt), apart_more xs f h.1 (λ g m. out g (inr m)))

  each_mapped : (place n : ℕ) (names : List (List ℕ)) → place < n → Each (λ (x : ℕ × List ℕ). x.0 < n) (map (λ name. (place, name)) names)
  each_mapped place n [] lt = tt
  each_mapped place n (name ∷ names) lt = (lt, each_mapped place n names lt)

  -- one more module is found, for a reference of another
  pub found_more : (closure : Closure) (place : ℕ) (file : List ℕ) (read : C.ModuleFile) → place < length closure.found → IsClosure answers a.named closure → answers.holds file read → meant a closure.found read.tables.name ≡ None
      → IsClosure answers a.named (C.with_bound (C.with_found closure file read) place (New (length closure.found)))
  found_more closure place file read lt is its none = record {
    held = λ f m. elim (parted f closure.found (one ∷ []) m) [ inl k ↦ is.held f k | inr (inl e) ↦ subst (λ (g : Found). answers.holds g.file g.read) (sym e) its | inr (inr k) ↦ absurd k ];
    new = λ f m. elim (parted f closure.found (one ∷ []) m) [ inl k ↦ is.new f k | inr k ↦ newest f k ];
    apart = apart_more closure.found one is.apart unnamed.1;
    pending = each_both (λ (x : ℕ × List ℕ). x.0 < length (closure.found ++ one ∷ [])) closure.pending (map (λ name. (length closure.found, name)) read.tables.references)
        (each_longer closure.pending (length closure.found) (length (closure.found ++ one ∷ [])) (omega (arith, long)) is.pending)
        (each_mapped (length closure.found) (length (closure.found ++ one ∷ [])) read.tables.references (omega (arith, long)));
    bound = each_both (λ (x : ℕ × Referent). x.0 < length (closure.found ++ one ∷ [])) closure.bound ((place, New (length closure.found)) ∷ [])
        (each_longer closure.bound (length closure.found) (length (closure.found ++ one ∷ [])) (omega (arith, long)) is.bound) (omega (arith, long, lt), tt);
    asked = λ p some few. asks p some few (C.nat_lt p (length closure.found)) refl;
  }
    where
      one : Found
      one = record { file = file; read = read }

      long : length (closure.found ++ record { file = file; read = read } ∷ []) ≡ length closure.found + 1
      long = length-append closure.found (record { file = file; read = read } ∷ [])

      unnamed : (a.named read.tables.name ≡ None) × ((f : Found) → Member f closure.found → is_named (name_of f) read.tables.name ≡ false)
      unnamed = meant_none closure.found read.tables.name none

      newest : (f : Found) → Member f (record { file = file; read = read } ∷ []) → a.named (name_of f) ≡ None
      newest f (inl e) = ap (λ (g : Found). a.named (name_of g)) e ∙ unnamed.0
      newest f (inr m) = absurd m

      asks : (p : ℕ) → 0 < p → p < length (closure.found ++ record { file = file; read = read } ∷ []) → (b : Bool) → C.nat_lt p (length closure.found) ≡ b
          → (by : ℕ) × Member {X = ℕ × Referent} (by, New p) (closure.bound ++ (place, New (length closure.found)) ∷ []) × (by ≢ p)
      asks p some few true t =
          let was : (by : ℕ) × Member {X = ℕ × Referent} (by, New p) closure.bound × (by ≢ p) = is.asked p some (C.ltb-true p (length closure.found) t) in
          (was.0, in_first {A = ℕ × Referent} (was.0, New p) closure.bound ((place, New (length closure.found)) ∷ []) was.1, was.2)
      asks p some few false t =
          let le : length closure.found ≤ p = C.ltb-false p (length closure.found) t in
          let same : p ≡ length closure.found = omega (arith, le, few, long) in
          (place, in_second {A = ℕ × Referent} (place, New p) closure.bound ((place, New (length closure.found)) ∷ []) (inl (λ i. (place, New (same i)))), λ e. absurd (omega (arith, e, lt, le)))

  -- the module asked for
  pub began : (file : List ℕ) (read : C.ModuleFile) → answers.holds file read → meant a [] read.tables.name ≡ None → IsClosure answers a.named (begun file read)
  began file read its none = record {
    held = λ g m. elim m [ inl same ↦ subst (λ (f : Found). answers.holds f.file f.read) (sym same) its | inr k ↦ absurd k ];
    new = λ g m. elim m [ inl same ↦ ap (λ (x : Found). a.named (name_of x)) same ∙ (meant_none [] read.tables.name none).0 | inr k ↦ absurd k ];
    apart = (tt, tt);
    pending = each_mapped 0 1 read.tables.references (omega arith);
    bound = tt;
    asked = λ p some few. absurd (omega (arith, some, few));
  }
