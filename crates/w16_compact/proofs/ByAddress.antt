-- A walk over the blocks by address: how it begins.
use Rattle.w16_compact.proofs.Common.{ℕ, ◌≡◌, List, [], ◌∷◌, drop, refl, sym, ap, ◌∙◌, subst, arith, le-ltb, Block, Span, Layout, rank, from_address, holes_of}

rank_lowest : (bs : List Block) → rank 0 bs ≡ 0
rank_lowest [] = refl
rank_lowest (b ∷ bs) = rw (le-ltb b.at 0 (omega arith)) refl

-- all of them are left
pub all_left : (l m : Layout) (from : ℕ) → m ≡ l → from ≡ 0 → drop 0 l.blocks ≡ from_address from m.blocks
all_left l m from same first =
    ap (λ k. drop k l.blocks) (sym (rank_lowest l.blocks)) ∙ ap (λ k. from_address k l.blocks) (sym first) ∙ ap (λ x. from_address from x.blocks) (sym same)

-- and the holes are kept that it passes
pub may_begin : (are_in : List Span → List ℕ → Type 0) (l m : Layout) (xs ys : List ℕ) → m ≡ l → ys ≡ xs → are_in (holes_of l) xs → are_in (holes_of m) ys
may_begin are_in l m xs ys one two kept = subst (λ x. are_in (holes_of x) ys) (sym one) (subst (are_in _) (sym two) kept)
