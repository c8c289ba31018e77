-- The last hole that begins below a place, by cells.
use Rattle.w16_holes.proofs.Common.{ℕ, zero, suc, ◌≡◌, ◌<◌, ◌≤◌, ◌+◌, ◌*◌, List, [], ◌∷◌, Option, Some, None, option_map, arith, refl, sym, ap, ◌∙◌, subst, inl, inr, slice_index, cases_lt, lt-ltb, le-ltb, none-some, same_Some, last_below, last_before, spans}
use Rattle.w16_holes.proofs.Units.{up, above, at_most}
use Rattle.w16_holes.proofs.Told.{IsLastOf, last_told}

-- none begins below a place before all holes
before_none : (g : ℕ) (ns : List ℕ) (u a : ℕ) → ((j : ℕ) → 0 < slice_index ns j → a ≤ u + g * j) → last_before a (spans g u ns) ≡ None
before_none g [] u a from = refl
before_none g (m ∷ ms) u a from =
    let rest = before_none g ms (u + g) a (λ j has. let r = from (suc j) has in omega arith) in
    elim (cases_lt u (u + m)) [
      | inl lt ↦ let first = from 0 (omega arith) in rw (lt-ltb u (u + m) lt, le-ltb u a (omega arith)) rest
      | inr le ↦ rw (le-ltb u (u + m) le) rest
    ]

-- the hole of a cell, where all that begin behind it begin from the place on
before_some : (g : ℕ) (ns : List ℕ) (u k a : ℕ) → 0 < slice_index ns k → u + g * k < a → ((j : ℕ) → k < j → 0 < slice_index ns j → a ≤ u + g * j) → last_before a (spans g u ns) ≡ Some (u + g * k)
before_some g [] u k a has lt from = absurd (omega arith)
before_some g (m ∷ ms) u zero a has lt from =
    let e : u ≡ u + g * 0 = omega arith in
    let rest = before_none g ms (u + g) a (λ j other. let r = from (suc j) (omega arith) other in omega arith) in
    rw (lt-ltb u (u + m) (omega arith), lt-ltb u a (omega arith), rest) (ap (λ n. Some n) e)
before_some g (m ∷ ms) u (suc k) a has lt from =
    let e : u + g + g * k ≡ u + g * suc k = omega arith in
    let rest = before_some g ms (u + g) k a has (omega arith) (λ j more other. let r = from (suc j) (omega arith) other in omega arith) in
    elim (cases_lt u (u + m)) [
      | inl some ↦ rw (lt-ltb u (u + m) some, lt-ltb u a (omega arith), rest) (ap (λ n. Some n) e)
      | inr none ↦ rw (le-ltb u (u + m) none) (rest ∙ ap (λ n. Some n) e)
    ]

last_of : (g u q a : ℕ) (ns : List ℕ) (r : Option ℕ) → 0 < g → u + g * q ≡ a → IsLastOf ns q r → option_map (λ k. u + g * k) r ≡ last_before a (spans g u ns)
last_of g u q a ns (Some k) wide at told =
    let less = above g k q told.0 in
    sym (before_some g ns u k a told.1 (omega arith) (λ j more has. elim (cases_lt j q) [
      | inl before ↦ let z = told.2 j more before in absurd (omega arith)
      | inr from ↦ let r = up g q j from in omega arith
    ]))
last_of g u q a ns None wide at told = sym (before_none g ns u a (λ j has. elim (cases_lt j q) [
  | inl before ↦ let z = told j before in absurd (omega arith)
  | inr from ↦ let r = up g q j from in omega arith
]))

pub last_is : (g u q a : ℕ) (ns : List ℕ) (r : Option ℕ) → 0 < g → u + g * q ≡ a → r ≡ last_below ns q → option_map (λ k. u + g * k) r ≡ last_before a (spans g u ns)
last_is g u q a ns r wide at is = last_of g u q a ns r wide at (subst (IsLastOf ns q) (sym is) (last_told ns q))

-- it begins below
pub last_lower : (g : ℕ) (ns : List ℕ) (q k : ℕ) → Some k ≡ last_below ns q → g * k ≤ g * q
last_lower g ns q k is =
    let told = subst (IsLastOf ns q) (sym is) (last_told ns q) in
    let lt = told.0 in up g k q (omega arith)

-- a place has one cell
one_cell : (g u : ℕ) (r s : Option ℕ) → 0 < g → option_map (λ k. u + g * k) r ≡ option_map (λ k. u + g * k) s → r ≡ s
one_cell g u None None wide e = refl
one_cell g u None (Some j) wide e = absurd (none-some _ e)
one_cell g u (Some k) None wide e = absurd (none-some _ (sym e))
one_cell g u (Some k) (Some j) wide e =
    let same = same_Some _ _ e in
    let le = at_most g k j wide (omega arith) in let ge = at_most g j k wide (omega arith) in
    let is : k ≡ j = omega arith in ap (λ n. Some n) is

-- the last hole below a place, told by its cell
pub last_cell : (g u q a : ℕ) (ns : List ℕ) (r : Option ℕ) → 0 < g → u + g * q ≡ a → option_map (λ k. u + g * k) r ≡ last_before a (spans g u ns) → r ≡ last_below ns q
last_cell g u q a ns r wide at is = one_cell g u r _ wide (is ∙ sym (last_is g u q a ns _ wide at refl))

-- a cell more
pub last_here : (ns : List ℕ) (i : ℕ) → 0 < slice_index ns i → Some i ≡ last_below ns (i + 1)
last_here ns i has = let e : suc i ≡ i + 1 = omega arith in subst (λ n. Some i ≡ last_below ns n) e (rw (lt-ltb 0 (slice_index ns i) has) refl)

pub last_lower_down : (ns : List ℕ) (i : ℕ) → slice_index ns i ≤ 0 → last_below ns i ≡ last_below ns (i + 1)
last_lower_down ns i none = let e : suc i ≡ i + 1 = omega arith in subst (λ n. last_below ns i ≡ last_below ns n) e (rw (le-ltb 0 (slice_index ns i) none) refl)
