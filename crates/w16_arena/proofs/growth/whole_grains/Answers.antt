use Rattle.w16_arena.proofs.Common.{ℕ, zero, suc, ◌≡◌, ◌-◌, ◌*◌, ◌/◌, ◌%◌, ◌<◌, ◌≤◌, inl, inr, sym, subst, arith, div-add-mod, mod-lt, mul-le-mul_left, cases_lt, IsMultiple, above}
use Rattle.w16_arena.proofs.ButFor.{own_lies, own_grained}
use Rattle.w16_arena.proofs.growth.whole_grains.Given as Given
use Rattle.w16_arena.proofs.growth.whole_grains.Goals as goal

-- a multiple that has something has a grain
some_grain : (g n : ℕ) → IsMultiple g n → 0 < n → 0 < g
some_grain zero n is some = let e = is.1 in let none : zero * is.0 ≡ 0 = omega arith in absurd (omega arith)
some_grain (suc g) n is some = omega arith

-- the last multiple of g up to n
module _ (g n : ℕ) (some : 0 < g) where
  whole : IsMultiple g (n - n % g)
  whole = (n / g, let parts = div-add-mod n g in omega arith)

  last : (m : ℕ) → IsMultiple g m → m ≤ n → m ≤ n - n % g
  last m is le =
      let e = is.1 in let parts = div-add-mod n g in let rest = mod-lt n some in
      elim (cases_lt (n / g) is.0) [
        | inl less ↦ let more = above g (n / g) is.0 less in absurd (omega (arith, e, parts, rest, more, le))
        | inr ge ↦ let up = mul-le-mul_left g ge in omega (arith, e, parts, up)
      ]

module _ (g : Given.Over) (c : goal.After-grain g) where
  same : c.args.blocks.now.grain ≡ c.grain.result
  same = sym c.grain.ensures

  some : 0 < c.grain.result
  some =
      let size : IsMultiple c.args.blocks.now.grain c.args.block.size = (own_grained c.bounds.ensures.ordered c.args.block c.requires.known).1 in
      some_grain c.grain.result c.args.block.size (subst (λ k. IsMultiple k c.args.block.size) same size) (own_lies c.bounds.ensures.ordered c.args.block c.requires.known).1

pub nonzero_rem-result : goal.nonzero_rem-result
nonzero_rem-result g c = some g c

pub returns-clause-grained : goal.returns-clause-grained
returns-clause-grained g c = subst (λ k. IsMultiple k (c.args.high - c.args.high % c.grain.result)) (sym (same g c)) (whole _ _ (some g c))

pub returns-clause-last : goal.returns-clause-last
returns-clause-last g c = λ m is le. last _ _ (some g c) m (subst (λ k. IsMultiple k m) (same g c) is) le
