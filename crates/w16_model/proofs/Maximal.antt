-- Where the maximal clear intervals are.
use Rattle.w16_model.proofs
use proofs.Gaps as M
use Rattle.std.specs.List.{AllByRecursion as Each}
use proofs.Common.{◌≡◌, ℕ, ◌+◌, ◌<◌, ◌≤◌, max, min, Bool, IsTrue, List, refl, sym, subst, arith, Block, Misses, block_end, first_from, IsClear, IsGapOf}
use proofs.Gaps.{Member, Each-at, Each-from, last_to}

at_or_after : (p q s e at size : ℕ) → 0 < size → Misses at size p q → (at + size ≤ p → at + size ≤ s) → s ≤ at → q ≤ at
at_or_after p q s e at size z f g l = grind arith

clear_of : (p q s e at size : ℕ) → p < q → s ≤ p → Misses at size p q → (at + size ≤ p → at + size ≤ s) → (s ≤ at → e ≤ at) → Misses at size s e
clear_of p q s e at size l k f g h = grind arith

ends_by : (p q e c d at size : ℕ) → 0 < size → p < q → q ≤ e → e ≤ d → Misses at size c d → at + size ≤ p → at + size ≤ c
ends_by p q e c d at size z l k m f g = grind arith

begins_after : (s c d at size : ℕ) → 0 < size → c ≤ s → Misses at size c d → s ≤ at → d ≤ at
begins_after s c d at size z l f g = grind arith

same : (a b : ℕ) → a ≤ b → b ≤ a → a ≡ b
same a b h k = omega arith

module _ (test : Block → Bool) (lo hi : ℕ) (xs : List Block) (sized : (x : Block) → Member x xs → 0 < x.size) where
  pub missed : (a b : ℕ) → IsClear test lo hi xs a b → (x : Block) → Member x xs → IsTrue (test x) → Misses x.at x.size a b
  missed a b h = Each-at _ xs (M.Each-from_All _ xs h.misses)

  pub clear_from : (a b : ℕ) → lo ≤ a → b ≤ hi → ((x : Block) → Member x xs → IsTrue (test x) → Misses x.at x.size a b) → IsClear test lo hi xs a b
  clear_from a b above below misses = record { above = above; below = below; misses = M.All-from_Each _ xs (Each-from _ xs misses) }

  -- a clear interval that is not empty lies in a maximal one
  pub gap_around : (p q : ℕ) → p < q → IsClear test lo hi xs p q
      → IsGapOf test lo hi xs (last_to test lo xs p) (first_from test hi xs (last_to test lo xs p)) × (last_to test lo xs p ≤ p) × (q ≤ first_from test hi xs (last_to test lo xs p))
  gap_around p q l h = whole _ _ refl refl
    where
      whole : (s e : ℕ) → s ≡ last_to test lo xs p → e ≡ first_from test hi xs s → IsGapOf test lo hi xs s e × (s ≤ p) × (q ≤ e)
      whole s e s_is e_is =
          let from_s : (lo ≤ s) × Each (λ x. IsTrue (test x) → block_end x ≤ p → block_end x ≤ s) xs = M.last_to-above test lo xs p s (omega (arith, s_is)) in
          let to_e : (e ≤ hi) × Each (λ x. IsTrue (test x) → s ≤ x.at → e ≤ x.at) xs = M.first_from-below test hi xs s e (omega (arith, e_is)) in
          let ended : (x : Block) → Member x xs → IsTrue (test x) → block_end x ≤ p → block_end x ≤ s = Each-at _ xs from_s.1 in
          let begun : (x : Block) → Member x xs → IsTrue (test x) → s ≤ x.at → e ≤ x.at = Each-at _ xs to_e.1 in
          let s_below : s ≤ p = subst (λ v. v ≤ p) (sym s_is) (M.last_to-least test lo xs p p h.above (Each-from _ xs (λ x m t k. k))) in
          let e_above : q ≤ e = subst (λ v. q ≤ v) (sym e_is) (M.first_from-greatest test hi xs s q h.below (Each-from _ xs (λ x m t k. at_or_after p q s e x.at x.size (sized x m) (missed p q h x m t) (ended x m t) k))) in (
            record {
              some = omega arith;
              clear = clear_from s e from_s.0 to_e.0 (λ x m t. clear_of p q s e x.at x.size l s_below (missed p q h x m t) (ended x m t) (begun x m t));
              maximal = λ c d c_below d_above clear. (
                same c s c_below (subst (λ v. v ≤ c) (sym s_is) (M.last_to-least test lo xs p c clear.above (Each-from _ xs (λ x m t k. ends_by p q e c d x.at x.size (sized x m) l e_above d_above (missed c d clear x m t) k)))),
                same d e (subst (λ v. d ≤ v) (sym e_is) (M.first_from-greatest test hi xs s d clear.below (Each-from _ xs (λ x m t k. begins_after s c d x.at x.size (sized x m) c_below (missed c d clear x m t) k)))) d_above,
              );
            },
            s_below,
            e_above,
          )

  -- a place where a gap may begin, and that lies in no such block, begins one
  pub gap_from : (a : ℕ) → a < first_from test hi xs a → a ≤ last_to test lo xs a → ((x : Block) → Member x xs → IsTrue (test x) → Misses x.at x.size a (a + 1)) → lo ≤ a → IsGapOf test lo hi xs a (first_from test hi xs a)
  gap_from a some start clear above =
      let to_e : (first_from test hi xs a ≤ hi) × Each (λ x. IsTrue (test x) → a ≤ x.at → first_from test hi xs a ≤ x.at) xs = M.first_from-below test hi xs a (first_from test hi xs a) (omega arith) in
      let around : IsGapOf test lo hi xs (last_to test lo xs a) (first_from test hi xs (last_to test lo xs a)) × (last_to test lo xs a ≤ a) × (a + 1 ≤ first_from test hi xs (last_to test lo xs a)) =
      gap_around a (a + 1) (omega arith) (clear_from a (a + 1) above (omega arith) clear) in
      let here : last_to test lo xs a ≡ a = same _ _ around.1 start in
      subst (λ v. IsGapOf test lo hi xs v (first_from test hi xs v)) here around.0

  -- two gaps that share a place are one
  pub gap_same : (a b c d p : ℕ) → IsGapOf test lo hi xs a b → IsGapOf test lo hi xs c d → a ≤ p → p < b → c ≤ p → p < d → (a ≡ c) × (b ≡ d)
  gap_same a b c d p g h l1 l2 l3 l4 =
      let both : IsClear test lo hi xs (min a c) (max b d) = clear_from (min a c) (max b d) (lower g.clear.above h.clear.above) (upper g.clear.below h.clear.below)
      (λ x m t. joined a b c d p x.at x.size (sized x m) l1 l2 l3 l4 (missed a b g.clear x m t) (missed c d h.clear x m t)) in
      let first : (min a c ≡ a) × (max b d ≡ b) = g.maximal (min a c) (max b d) (omega arith) (omega arith) both in
      let second : (min a c ≡ c) × (max b d ≡ d) = h.maximal (min a c) (max b d) (omega arith) (omega arith) both in
      (omega arith, omega arith)
    where
      lower : lo ≤ a → lo ≤ c → lo ≤ min a c
      lower h k = omega arith

      upper : b ≤ hi → d ≤ hi → max b d ≤ hi
      upper h k = omega arith

      joined : (a b c d p at size : ℕ) → 0 < size → a ≤ p → p < b → c ≤ p → p < d → Misses at size a b → Misses at size c d → Misses at size (min a c) (max b d)
      joined a b c d p at size z l1 l2 l3 l4 f g = grind arith
