-- A walk over the members of an order.
use Rattle.w16_lru.proofs.Common.{ℕ, zero, suc, ◌≡◌, ◌+◌, ◌-◌, ◌<◌, ◌≤◌, List, [], ◌∷◌, length, drop, Option, Some, is_some, arith, sym, ap, ◌∙◌, slice_get, false≢true, Uses}

pub inside_got : (ids : List ℕ) (i id : ℕ) → Some id ≡ slice_get ids i → i < length ids
inside_got [] i id e = absurd (false≢true (sym (ap is_some e)))
inside_got (x ∷ xs) zero id e = omega arith
inside_got (x ∷ xs) (suc i) id e = let rest = inside_got xs i id e in omega arith

-- the next one, and those behind it
pub one_more : (ids : List ℕ) (i id : ℕ) → Some id ≡ slice_get ids i → drop i ids ≡ id ∷ drop (suc i) ids
one_more [] i id e = absurd (false≢true (sym (ap is_some e)))
one_more (x ∷ xs) zero id e = let same : id ≡ x = cc in ap (λ (y : ℕ). y ∷ xs) (sym same)
one_more (x ∷ xs) (suc i) id e = one_more xs i id e

-- where so many are left
module _ (ids : List ℕ) (left id : ℕ) (le : left ≤ length ids) (got : Some id ≡ slice_get ids (length ids - left)) where
  pub some_left : 0 < left
  some_left = let inside = inside_got ids (length ids - left) id got in omega arith

  place : suc (length ids - left) ≡ length ids - (left - 1)
  place = let some = some_left in omega arith

  pub steps : drop (length ids - left) ids ≡ id ∷ drop (length ids - (left - 1)) ids
  steps = one_more ids (length ids - left) id got ∙ ap (λ (i : ℕ). id ∷ drop i ids) place

  pub next_place : (length ids - left) + 1 ≡ length ids - (left - 1)
  next_place = let some = some_left in omega arith

-- at the start all are left
pub all_left : (now uses : Uses) (left : ℕ) (next : Option ℕ) → now ≡ uses → left ≡ length uses.ids → next ≡ slice_get uses.ids 0
    → ((left ≤ length now.ids) × (next ≡ slice_get now.ids (length now.ids - left))) × (drop (length now.ids - left) now.ids ≡ uses.ids)
all_left now uses left next same all first =
    let ids = ap (λ u. u.ids) same in
    let long = ap length ids ∙ sym all in
    let none : 0 ≡ length now.ids - left = omega arith in
    ((omega arith, first ∙ ap (λ qs. slice_get qs 0) (sym ids) ∙ ap (slice_get now.ids) none), ap (λ i. drop i now.ids) (sym none) ∙ ids)
