use Rattle.w16_compact.proofs.Common.{ℕ, ◌≡◌, ◌+◌, List, Option, Some, None, sum_by, arith, sym, ap, Block, block_with, AreNamed, all_but, sum-all_but, others}
use Rattle.w16_compact.proofs.LeftOut.{absent_left}
use Rattle.w16_compact.proofs.gaps.left_out.Goals as goal

-- the bytes of the others, where the id has a block and where it has none
module _ (h : Option ℕ) (id : ℕ) (is : h ≡ Some id) (xs : List Block) where
  same : sum_by (λ (b : Block). b.size) (others h xs) ≡ sum_by (λ (b : Block). b.size) (all_but id xs)
  same = ap (λ (o : Option ℕ). sum_by (λ (b : Block). b.size) (others o xs)) is

  with_none : block_with xs id ≡ None → 0 + sum_by (λ (b : Block). b.size) (others h xs) ≡ sum_by (λ (b : Block). b.size) xs
  with_none none = let all = ap (sum_by (λ (b : Block). b.size)) (absent_left id xs none) in omega (arith, same, all)

  with_some : (cap : ℕ) (x : Block) → AreNamed cap xs → block_with xs id ≡ Some x → x.size + sum_by (λ (b : Block). b.size) (others h xs) ≡ sum_by (λ (b : Block). b.size) xs
  with_some cap x named known = let sum = sum-all_but cap (λ (b : Block). b.size) id x xs named known in omega (arith, same, sum)

pub returns-in_default-find-clause-value : goal.returns-in_default-find-clause-value
returns-in_default-find-clause-value g c = with_none c.args.h c.in-Some.id c.in-Some.is c.args.blocks.now.blocks (sym c.in_default-find.ensures.value)

pub returns-clause-value : goal.returns-clause-value
returns-clause-value g c = with_some c.args.h c.in-Some.id c.in-Some.is c.args.blocks.now.blocks c.args.blocks.now.cap c.in-Some-find.block c.in-Some-find.ensures.ordered.named (sym c.in-Some-find.ensures.value)
