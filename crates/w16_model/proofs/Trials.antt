-- What the plain program finds by trying each number of discards.
use Rattle.w16_model.proofs.Common.{find, range_with_len, ◌≡◌, ℕ, suc, ◌+◌, ◌-◌, ◌<◌, Bool, false, cond, not, ◌||◌, List, Option, Some, sym, ap, ◌∙◌, subst, arith, Block, ArePlaced, is_member, is_about, blocks_without}
use Rattle.w16_model.proofs.Least.{placed_filter}

-- the blocks that are left are placed
pub placed_without : (lo hi : ℕ) (xs ys : List Block) (ids : List ℕ) (h : Option ℕ) → ArePlaced lo hi xs → ys ≡ blocks_without xs ids h → ArePlaced lo hi ys
placed_without lo hi xs ys ids h placed e = subst (ArePlaced lo hi) (sym e) (placed_filter lo hi (λ x. not (is_member x.id ids || is_about h x.id)) xs placed)

-- a search from a on, below e, where a doesn't pass
pub find-passed : (p : ℕ → Bool) (e a : ℕ) (total : Option ℕ) → a < e → p a ≡ false → find p (range_with_len a (e - a)) ≡ total → find p (range_with_len (a + 1) (e - (a + 1))) ≡ total
find-passed p e a total l f h =
    let longer : e - a ≡ suc (e - (a + 1)) = omega arith in
    let first = ap (λ n. find p (range_with_len a n)) longer in
    let others = ap (λ b. cond b (Some a) (find p (range_with_len (a + 1) (e - (a + 1))))) f in
    sym others ∙ sym first ∙ h
