-- An interval without a pinned byte is a gap where it can't be made longer.
use Rattle.w16_compact.proofs.Common as C
use Rattle.w16_compact.proofs.Common.{◌≡◌, ℕ, ◌<◌, ◌≤◌, ◌⊎◌, inl, inr, Bool, IsTrue, List, sym, ap, ◌∙◌, arith, false≢true, Block, IsClear, Misses, Member}

-- where such an interval can't begin lower, and where it can't end higher
abbrev pub IsFloor : (Block → Type 0) → ℕ → List Block → ℕ → Type 0
IsFloor P lo xs a = (a ≡ lo) ⊎ ((x : Block) × Member x xs × P x × (C.block_end x ≡ a))

abbrev pub IsCeiling : (Block → Type 0) → ℕ → List Block → ℕ → Type 0
IsCeiling P hi xs b = (b ≡ hi) ⊎ ((x : Block) × Member x xs × P x × (x.at ≡ b))

module _ (lo hi : ℕ) (xs : List Block) (laid : C.IsLaid lo hi xs) where
  some_bytes : (x : Block) → Member x xs → 0 < x.size
  some_bytes x m = (C.Each-at (λ y. (lo ≤ y.at) × (0 < y.size) × (C.block_end y ≤ hi)) xs (C.laid_each lo hi xs laid) x m).1

  -- a clear interval between two bounds is a maximal one
  pub between : (test : Block → Bool) (a b : ℕ) → a < b → IsClear test lo hi xs a b → IsFloor (λ x. IsTrue (test x)) lo xs a → IsCeiling (λ x. IsTrue (test x)) hi xs b → C.IsGapOf test lo hi xs a b
  between test a b some clear floor ceiling = record {
    some = some;
    clear = clear;
    maximal = λ c d c_below d_above wider. (from c d c_below d_above wider floor, to c d c_below d_above wider ceiling);
  }
    where
      missed : (c d : ℕ) → IsClear test lo hi xs c d → (x : Block) → Member x xs → IsTrue (test x) → Misses x.at x.size c d
      missed c d wider = C.Each-at (λ x. IsTrue (test x) → Misses x.at x.size c d) xs (C.Each-from_All _ xs wider.misses)

      from : (c d : ℕ) → c ≤ a → b ≤ d → IsClear test lo hi xs c d → IsFloor (λ x. IsTrue (test x)) lo xs a → c ≡ a
      from c d c_below d_above wider (inl e) = let above = wider.above in omega arith
      from c d c_below d_above wider (inr p) = let e = p.3 in let z = some_bytes p.0 p.1 in elim (missed c d wider p.0 p.1 p.2) [ inl k ↦ omega arith | inr k ↦ absurd (omega arith) ]

      to : (c d : ℕ) → c ≤ a → b ≤ d → IsClear test lo hi xs c d → IsCeiling (λ x. IsTrue (test x)) hi xs b → d ≡ b
      to c d c_below d_above wider (inl e) = let below = wider.below in omega arith
      to c d c_below d_above wider (inr p) = let e = p.3 in let z = some_bytes p.0 p.1 in elim (missed c d wider p.0 p.1 p.2) [ inl k ↦ absurd (omega arith) | inr k ↦ omega arith ]

-- what may be gathered has no pinned byte
pub clear_pinned : (l : C.Layout) (low high : ℕ) → C.MayGather l low high → IsClear C.is_pinned l.lo l.hi l.blocks low high
clear_pinned l low high may = record {
  above = may.inside.0;
  below = may.inside.2;
  misses = C.All-from_Each _ l.blocks (C.Each-map _ (λ x. IsTrue (C.is_pinned x) → Misses x.at x.size low high) (λ x f t. elim f [
    | inl e ↦ inl e
    | inr g ↦ elim g [ inl e ↦ inr e | inr e ↦ absurd (false≢true (sym (ap C.holds_still e.2) ∙ t)) ]
  ]) l.blocks may.loose);
}
