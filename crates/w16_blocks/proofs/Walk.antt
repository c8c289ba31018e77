-- The blocks from an address on, one after another.
use Rattle.w16_blocks.proofs
use proofs.Common as C
use proofs.Common.{ℕ, zero, suc, ◌≡◌, ◌<◌, ◌≤◌, List, [], ◌∷◌, drop, Some, None, is_some, arith, refl, sym, ap, ◌∙◌, subst, inl, inr, slice_get, false≢true, Block, block_end, laid_each, rank, from_address}
use proofs.Next.{rank_none, rank_more, rank_same}
use proofs.Remove.{each_with, with_other}

pub none_left : (bs : List Block) (k : ℕ) → None ≡ slice_get bs k → drop k bs ≡ []
none_left [] zero e = refl
none_left [] (suc k) e = refl
none_left (b ∷ bs) zero e = absurd (false≢true (ap is_some e))
none_left (b ∷ bs) (suc k) e = none_left bs k e

each_got : (P : Block → Type 0) (bs : List Block) (k : ℕ) (x : Block) → Some x ≡ slice_get bs k → C.AllByRecursion P bs → P x
each_got P [] zero x e all = absurd (false≢true (sym (ap is_some e)))
each_got P [] (suc k) x e all = absurd (false≢true (sym (ap is_some e)))
each_got P (b ∷ bs) zero x e all = let same : b ≡ x = cc in subst P same all.0
each_got P (b ∷ bs) (suc k) x e all = each_got P bs k x e all.1

-- the first of them, and those behind it
pub one_more : (lo hi at : ℕ) (x : Block) (bs : List Block) → C.IsLaid lo hi bs → Some x ≡ slice_get bs (rank at bs) → from_address at bs ≡ x ∷ from_address (block_end x) bs
one_more lo hi at x [] laid e = absurd (false≢true (sym (ap is_some e)))
one_more lo hi at x (b ∷ bs) laid e =
    let size = laid.1 in
    let later = laid_each _ hi bs laid.2 in
    elim (C.cases_lt b.at at) [
      | inl lt ↦
          let e' = e ∙ ap (slice_get (b ∷ bs)) (rank_more at b bs lt) in
          let behind = (each_got (λ y. (block_end b ≤ y.at) × (0 < y.size) × (block_end y ≤ hi)) bs (rank at bs) x e' later).0 in
          ap (λ n. drop n (b ∷ bs)) (rank_more at b bs lt) ∙ one_more (block_end b) hi at x bs laid.2 e'
          ∙ ap (λ n. x ∷ drop n (b ∷ bs)) (sym (rank_more _ b bs (omega arith)))
      | inr ge ↦
          let first : Some x ≡ Some b = e ∙ ap (slice_get (b ∷ bs)) (rank_same at b bs ge) in let same : b ≡ x = cc in
          let rest : rank (block_end b) (b ∷ bs) ≡ 1 =
          rank_more _ b bs (omega arith) ∙ ap suc (rank_none _ bs (C.Each-map (λ y. (block_end b ≤ y.at) × (0 < y.size) × (block_end y ≤ hi)) (λ c. block_end b ≤ c.at) (λ y is. is.0) bs later)) in
          ap (λ n. drop n (b ∷ bs)) (rank_same at b bs ge) ∙ ap (λ n. b ∷ drop n (b ∷ bs)) (sym rest) ∙ ap (λ y. y ∷ from_address (block_end y) (b ∷ bs)) same
    ]

-- it ends below the largest number
pub ends_small : (l : C.Layout) (at : ℕ) (x : Block) → C.IsOrdered l → Some x ≡ slice_get l.blocks (rank at l.blocks) → block_end x ≤ l.hi
ends_small l at x ordered e = (each_got (λ y. (l.lo ≤ y.at) × (0 < y.size) × (block_end y ≤ l.hi)) l.blocks (rank at _) x e (laid_each l.lo l.hi _ ordered.laid)).2

-- a block is the first from where it begins
pub first_at : (lo hi : ℕ) (x : Block) (bs : List Block) → C.IsLaid lo hi bs → C.block_with bs x.id ≡ Some x → slice_get bs (rank x.at bs) ≡ Some x
first_at lo hi x [] laid known = absurd (false≢true (ap is_some known))
first_at lo hi x (b ∷ bs) laid known = elim (C.eqb_tells b.id x.id) [
  | inl same ↦ let own : Some b ≡ Some x = rw same.0 at known in let is : b ≡ x = cc in
      ap (slice_get (b ∷ bs)) (rank_same x.at b bs (let at = ap (λ c. c.at) is in omega arith)) ∙ own
  | inr other ↦
      let rest = sym (with_other x.id b bs other.0) ∙ known in
      let behind = each_with (λ y. (block_end b ≤ y.at) × (0 < y.size) × (block_end y ≤ hi)) x.id x bs rest (laid_each _ hi bs laid.2) in
      let size = laid.1 in ap (slice_get (b ∷ bs)) (rank_more x.at b bs (omega arith)) ∙ first_at (block_end b) hi x bs laid.2 rest
]
