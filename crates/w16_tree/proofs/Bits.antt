-- The bits of a row: one for each of its numbers that reaches a bound.
use Rattle.std.proofs.lemmas.Simd as M
use Rattle.std.proofs.lemmas.Nat.Bits as C
use Rattle.std.proofs.Common.{◌≡◌, ◌+◌, ◌-◌, ◌*◌, ◌/◌, ◌%◌, ◌^◌, ◌<◌, ◌≤◌, ℕ, suc, nat_le, if◌then◌else◌, sym, ◌∙◌, ap, subst, arith, inl, inr, zero, List, false, cond, length, map, replicate, drop, slice_index}
use Rattle.std.proofs.lemmas.List.{length-map, get_or-map, get_or-take, get_or-drop}
use Rattle.std.proofs.Math.Nat.{pow-suc, pow-le-pow_right, div-add-mod, mul_comm, mod-lt}
use Rattle.std.proofs.{lemmas.Bool.Decides.leb_tells, lemmas.Nat.pow_pos}
use Rattle.std.specs.Int.{bit_at, trailing_zeros, w32}
use lib.Lanes.{chunk, mask_l, top, zip2}

-- the mask of the numbers of a row that reach a bound, all compared at once
module _ (n at : ℕ) (nodes : List ℕ) (inside : at + 16 ≤ length nodes) where
  abbrev row : List ℕ
  row = chunk at 16 nodes

  abbrev mask : ℕ
  mask = mask_l (map (top 31) (zip2 (λ a b. cond (nat_le a b) (2 ^ 32 - 1) 0) (replicate 16 n) row)) % 2 ^ 64

  long : length row ≡ 16
  long = M.length-chunk at 16 nodes inside

  mask_is : mask ≡ mask_l (map (nat_le n) row)
  mask_is =
      ap (λ bs. mask_l bs % 2 ^ 64) (M.tops_compared w32 nat_le (replicate 16 n) row ∙ M.zip2_splat_left nat_le n 16 row long)
      ∙ M.mask_l-mod (map (nat_le n) row) 64 (omega (arith, length-map row (nat_le n), long))

  pub mask_small : mask < 2 ^ 16
  mask_small = let lt = M.mask_l-lt (map (nat_le n) row) in subst (λ (m : ℕ). m < 2 ^ 16) (sym mask_is) (subst (λ (k : ℕ). mask_l (map (nat_le n) row) < 2 ^ k) (length-map row (nat_le n) ∙ long) lt)

  pub mask_bits : (k : ℕ) → k < 16 → bit_at mask k ≡ (if nat_le n (slice_index nodes (at + k)) then 1 else 0)
  mask_bits k lt =
      ap (λ m. bit_at m k) mask_is ∙ M.bit_mask_l (map (nat_le n) row) k
      ∙ ap (λ b. cond b 1 0) (get_or-map (nat_le n) row k 0 false (omega (arith, long)) ∙ ap (nat_le n) (get_or-take 16 (drop at nodes) k 0 lt ∙ get_or-drop at nodes k 0))

-- what one bit more in front does
pub record IsLonger (mask k bit longer : ℕ) : Type 0 where
  pub small : longer < 2 ^ (k + 1)
  pub here : bit_at longer k ≡ bit
  pub kept : (j : ℕ) → j < k → bit_at longer j ≡ bit_at mask j

scaled : (bit p : ℕ) → bit < 2 → bit * p ≤ p
scaled zero p two = omega arith
scaled (suc zero) p two = omega arith
scaled (suc (suc more)) p two = absurd (omega arith)

pub longer_by : (mask k bit longer : ℕ) → mask < 2 ^ k → bit < 2 → longer ≡ bit * 2 ^ k + mask → IsLonger mask k bit longer
longer_by mask k bit longer small two is =
    let n : k + 1 ≡ suc k = omega arith in let e : 2 ^ (k + 1) ≡ 2 ^ k * 2 = ap (λ m. 2 ^ m) n ∙ pow-suc 2 k in
    let s = scaled bit (2 ^ k) two in let z : k - k ≡ 0 = omega arith in record {
      small = omega arith;
      here = ap (λ x. bit_at x k) is ∙ (C.bit_at_cat_high bit k mask k small (omega arith) ∙ (ap (bit_at bit) z ∙ (C.bit_at_lowest bit ∙ omega arith)));
      kept = λ j lt. ap (λ x. bit_at x j) is ∙ C.bit_at_cat_low bit k mask j lt;
    }

-- whether a bound is reached, as a bit
abbrev pub flag : ℕ → ℕ → ℕ
flag n x = if nat_le n x then 1 else 0

pub reached : (n x : ℕ) → flag n x ≡ 1 → n ≤ x
reached n x one = let t = leb_tells n x in grind arith

pub not_reached : (n x : ℕ) → flag n x ≡ 0 → x < n
not_reached n x nought = let t = leb_tells n x in grind arith

-- the lowest of sixteen bits and a seventeenth that is set
pub record IsLowest (bits t : ℕ) : Type 0 where
  pub inside : t ≤ 16
  pub here : t < 16 → bit_at bits t ≡ 1
  pub below : (j : ℕ) → j < t → bit_at bits j ≡ 0

pub lowest_bit : (bits : ℕ) → bits < 2 ^ 16 → IsLowest bits (trailing_zeros w32 (bits + 2 ^ 16))
lowest_bit bits small =
    let l = longer_by bits 16 1 (bits + 2 ^ 16) small (omega arith) (omega arith) in
    let t = C.bit_at-trailing_zeros w32 (bits + 2 ^ 16) (omega arith) (omega arith) in
    let lowest = trailing_zeros w32 (bits + 2 ^ 16) in
    let inside : lowest ≤ 16 = grind (arith, t.2 16, l.here) in record {
      inside = inside;
      here = λ lt. sym (l.kept lowest lt) ∙ t.1;
      below = λ j lt. sym (l.kept j (omega arith)) ∙ t.2 j lt;
    }

-- where the highest bit of the lowest `end` ones ends
pub record IsHighest (bits end t : ℕ) : Type 0 where
  pub inside : t ≤ end
  pub here : 0 < t → bit_at bits (t - 1) ≡ 1
  pub above : (j : ℕ) → t ≤ j → j < end → bit_at bits j ≡ 0

pub highest_bit : (bits end t : ℕ) → 2 ^ t ≤ 2 * (bits % 2 ^ end) + 1 → 2 * (bits % 2 ^ end) + 1 < 2 * 2 ^ t → IsHighest bits end t
highest_bit bits end t low high =
    let cut = bits % 2 ^ end in
    let whole : (bits / 2 ^ end) * 2 ^ end + cut ≡ bits = ap (λ p. p + cut) (mul_comm _ _) ∙ div-add-mod bits _ in
    let small : cut < 2 ^ end = mod-lt bits (pow_pos end) in
    let same : (j : ℕ) → j < end → bit_at bits j ≡ bit_at cut j = λ j lt. ap (λ b. bit_at b j) (sym whole) ∙ C.bit_at_cat_low (bits / 2 ^ end) end cut j lt in
    let n : end + 1 ≡ suc end = omega arith in let next : 2 ^ (end + 1) ≡ 2 ^ end * 2 = ap (λ m. 2 ^ m) n ∙ pow-suc 2 end in
    let inside : t ≤ end = elim (leb_tells (end + 1) t) [ inl more ↦ absurd (let grows : 2 ^ (end + 1) ≤ 2 ^ t = pow-le-pow_right (omega arith) more.1 in omega arith) | inr less ↦ let l = less.1 in omega arith ] in record {
      inside = inside;
      here = λ some.
          let u = t - 1 in let is : t ≡ suc u = omega arith in let twice : 2 ^ t ≡ 2 ^ u * 2 = ap (λ m. 2 ^ m) is ∙ pow-suc 2 u in let z : u - u ≡ 0 = omega arith in
          let front : cut ≡ 1 * 2 ^ u + (cut - 2 ^ u) = omega arith in
          same u (omega arith) ∙ (ap (λ c. bit_at c u) front ∙ (C.bit_at_cat_high 1 u _ u (omega arith) (omega arith) ∙ ap (bit_at 1) z));
      above = λ j from to. same j to ∙ C.bit_at_above cut t j (omega arith) from;
    }
