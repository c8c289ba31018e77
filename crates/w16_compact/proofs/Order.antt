-- The i-th block among the others.
use Rattle.w16_compact.proofs.Common.{ℕ, zero, suc, ◌≡◌, ◌<◌, ◌≤◌, List, [], ◌∷◌, drop, Some, is_some, arith, subst, ap, slice_get, false≢true, AllByRecursion, Block, IsLaid, block_end}

-- two blocks that are read alike
pub same_some : (b c : Block) → Some c ≡ Some b → c ≡ b
same_some b c e = cc

pub each_got : (P : Block → Type 0) (bs : List Block) (i : ℕ) (b : Block) → slice_get bs i ≡ Some b → AllByRecursion P bs → P b
each_got P [] i b e all = absurd (false≢true (ap is_some e))
each_got P (c ∷ cs) zero b e all = subst P (same_some b c e) all.0
each_got P (c ∷ cs) (suc i) b e all = each_got P cs i b e all.1

-- from a bound on, each begins at or above it
pub all_from : (low high : ℕ) (bs : List Block) → IsLaid low high bs → AllByRecursion (λ c. low ≤ c.at) bs
all_from low high [] apart = tt
all_from low high (b ∷ bs) apart = let one = apart.0 in let two = apart.1 in (one, weaker (block_end b) bs (omega arith) (all_from (block_end b) high bs apart.2))
  where
    weaker : (bound : ℕ) (bs : List Block) → low ≤ bound → AllByRecursion (λ c. bound ≤ c.at) bs → AllByRecursion (λ c. low ≤ c.at) bs
    weaker bound [] le all = tt
    weaker bound (b ∷ bs) le all = let one = all.0 in (omega arith, weaker bound bs le all.1)

-- the i-th block and those after it
pub apart_got : (low high : ℕ) (bs : List Block) (i : ℕ) (b : Block) → IsLaid low high bs → slice_get bs i ≡ Some b → (low ≤ b.at) × (0 < b.size) × IsLaid (block_end b) high (drop (suc i) bs)
apart_got low high [] i b apart e = absurd (false≢true (ap is_some e))
apart_got low high (c ∷ cs) zero b apart e = subst (λ x. (low ≤ x.at) × (0 < x.size) × IsLaid (block_end x) high cs) (same_some b c e) apart
apart_got low high (c ∷ cs) (suc i) b apart e =
    let ih = apart_got (block_end c) high cs i b apart.2 e in
    let one = apart.0 in let two = apart.1 in let three = ih.0 in
    (omega arith, ih.1, ih.2)
