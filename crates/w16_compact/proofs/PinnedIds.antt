-- Whether an id's block is pinned, by one look-up.
use Rattle.w16_compact.proofs.Common.{◌≡◌, ◌≢◌, ℕ, Bool, true, false, ◌||◌, inl, inr, List, [], ◌∷◌, None, Some, refl, ap, ◌∙◌, subst, ne_eqb, AllByRecursion, eqb_tells, Block, is_pinned, is_pinned_id, block_with, AreNamed}
use Rattle.w16_blocks.proofs.Remove.{none_with}

absent : (xs : List Block) (id : ℕ) → AllByRecursion (λ c. c.id ≢ id) xs → is_pinned_id xs id ≡ false
absent [] id all = refl
absent (x ∷ xs) id all = rw (ne_eqb x.id id all.0) (absent xs id all.1)

pub is_pinned_id-none : (xs : List Block) (id : ℕ) → block_with xs id ≡ None → is_pinned_id xs id ≡ false
is_pinned_id-none xs id none = absent xs id (none_with id xs none)

pub is_pinned_id-some : (cap : ℕ) (xs : List Block) (id : ℕ) (b : Block) → AreNamed cap xs → block_with xs id ≡ Some b → is_pinned_id xs id ≡ is_pinned b
is_pinned_id-some cap [] id b named e = cc
is_pinned_id-some cap (x ∷ xs) id b named e = elim (eqb_tells x.id id) [
  | inl same ↦
      let f : Some x ≡ Some b = rw same.0 at e in let g : x ≡ b = cc in
      let rest = absent xs id (subst (λ k. AllByRecursion (λ c. c.id ≢ k) xs) same.1 named.1) in
      rw (same.0, rest) (or_false _ ∙ ap is_pinned g)
  | inr other ↦ rw other.0 (is_pinned_id-some cap xs id b named.2 (rw other.0 at e))
]
  where
    or_false : (b : Bool) → (b || false) ≡ b
    or_false true = refl
    or_false false = refl
