-- An id's block, in a list that was changed.
use Rattle.w16_arena.proofs.Common as C
use Rattle.w16_arena.proofs.Common.{◌≡◌, ◌≢◌, ℕ, ◌==◌, List, [], ◌∷◌, cond, Some, None, refl, ap, ◌∙◌, inl, inr, eqb_tells, Block, block_with, all_but}
use Rattle.std.proofs.lemmas.Bool.{ne_eqb}

pub with-without : (id : ℕ) (bs : List Block) (q : ℕ) → block_with (all_but id bs) q ≡ cond (id == q) None (block_with bs q)
with-without id [] q = elim (eqb_tells id q) [ inl same ↦ rw same.0 refl | inr other ↦ rw other.0 refl ]
with-without id (b ∷ bs) q =
    let ih = with-without id bs q in
    elim (eqb_tells b.id id) [
      | inl same ↦ rw same.0 (elim (eqb_tells id q) [
        | inl both ↦ rw both.0 (rw both.0 at ih)
        | inr other ↦ let e : b.id ≢ q = λ h. other.1 (cc) in rw (other.0, ne_eqb b.id q e) (rw other.0 at ih)
      ])
      | inr apart ↦ rw apart.0 (elim (eqb_tells b.id q) [
        | inl here ↦ let e : id ≢ q = λ h. apart.1 (cc) in rw (here.0, ne_eqb id q e) refl
        | inr there ↦ rw there.0 ih
      ])
    ]

pub with-placed : (b : Block) (bs : List Block) (q : ℕ) → C.AllByRecursion (λ c. c.id ≢ b.id) bs → block_with (C.placed b bs) q ≡ cond (b.id == q) (Some b) (block_with bs q)
with-placed b [] q free = refl
with-placed b (c ∷ cs) q free = elim (C.cases_lt c.at b.at) [
  | inr above ↦ rw (C.le-ltb c.at b.at above) refl
  | inl below ↦ rw (C.lt-ltb c.at b.at below) (elim (eqb_tells c.id q) [
    | inl here ↦ let e : b.id ≢ q = λ h. free.0 (cc) in rw (here.0, ne_eqb b.id q e) refl
    | inr there ↦ rw there.0 (with-placed b cs q free.1)
  ])
]

pub with-replaced : (b : Block) (bs : List Block) (q : ℕ) → block_with (C.replaced b bs) q ≡ cond (b.id == q) (Some b) (block_with bs q)
with-replaced b bs q = with-placed b _ q (C.others_differ b.id bs) ∙ elim (eqb_tells b.id q) [
  | inl same ↦ rw same.0 refl
  | inr other ↦ rw other.0 (with-without b.id bs q ∙ rw other.0 refl)
]

-- where an id has no block, none is taken away
pub without_absent : (id : ℕ) (bs : List Block) → block_with bs id ≡ None → all_but id bs ≡ bs
without_absent id [] none = refl
without_absent id (b ∷ bs) none = elim (eqb_tells b.id id) [
  | inl same ↦ let some : ◌≡◌ {A = C.Option Block} (Some b) None = rw same.0 at none in cc
  | inr other ↦ rw other.0 (ap (λ cs. b ∷ cs) (without_absent id bs (rw other.0 at none)))
]
