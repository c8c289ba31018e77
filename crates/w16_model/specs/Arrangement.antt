-- Arrangements: every way in which the loose blocks of a heap may slide.
use Rattle.std.specs.Prelude.{◌≡◌, ℕ, ◌+◌, ◌-◌, ◌<◌, ◌≤◌, ◌&&◌, IsTrue, List, All, AllPairs}
use Rattle.w16_model.specs.declared.Block.{Block}
use Rattle.w16_model.specs.Gap.{is_pinned, is_loose, begins_in, Misses, IsClear, IsGapOf}

-- a gap: a maximal interval without a pinned byte; what stands in it may slide
abbrev pub IsGap : ℕ → ℕ → List Block → ℕ → ℕ → Type 0
IsGap = IsGapOf is_pinned

-- each loose block has a place in the gap where it stands now, and no two of them share a byte
pub record IsArrangement (lo hi : ℕ) (xs : List Block) (place : Block → ℕ) : Type 0 where
  pub kept : (a b : ℕ) → IsGap lo hi xs a b → All (λ x. IsTrue (is_loose x && begins_in a b x) → (a ≤ place x) × (place x + x.size ≤ b)) xs
  pub apart : AllPairs (λ x y. IsTrue (is_loose x) → IsTrue (is_loose y) → Misses (place x) x.size (place y) (place y + y.size)) xs

-- an interval without a byte of a pinned block or of an arranged one
pub record IsFreeStretch (lo hi : ℕ) (xs : List Block) (place : Block → ℕ) (a b : ℕ) : Type 0 where
  pub clear : IsClear is_pinned lo hi xs a b
  pub misses : All (λ x. IsTrue (is_loose x) → Misses (place x) x.size a b) xs

-- n is the length of the longest free stretch of any arrangement, and 0 where there is none
pub record IsLongestStretch (lo hi : ℕ) (xs : List Block) (n : ℕ) : Type 0 where
  pub none_longer : (place : Block → ℕ) (a b : ℕ) → IsArrangement lo hi xs place → IsFreeStretch lo hi xs place a b → b - a ≤ n
  pub one_as_long : 0 < n → (place : Block → ℕ) × (a : ℕ) × (b : ℕ) × IsArrangement lo hi xs place × IsFreeStretch lo hi xs place a b × (b - a ≡ n)
