-- A memory in which a range was given to an object, or the end of a range to one that grew.
use Rattle.w16_arena.proofs.Common as C
use Rattle.w16_arena.proofs.Common.{◌≡◌, ℕ, ◌+◌, ◌-◌, ◌<◌, ◌≤◌, ◌⊎◌, inl, inr, Bool, true, false, if◌then◌else◌, List, length, drop, slice_range, All, refl, sym, ap, ◌∙◌, subst, arith, false≢true, AreNew, put_part, repeated}

-- it is as long as before, and the same but for the range
pub record Makes (at n : ℕ) (memory after : List ℕ) : Type 0 where
  pub long : length after ≡ length memory
  pub bytes : All (λ b. b < 256) after
  pub others : (p s : ℕ) → C.Misses p s at (at + n) → slice_range after p (p + s) ≡ slice_range memory p (p + s)

module _ (at n : ℕ) (memory after : List ℕ) (le : at + n ≤ length memory) (are : All (λ b. b < 256) memory) where
  size : length (repeated n 0) ≡ n
  size = C.length-repeated n 0

  small : All (λ b. b < 256) (repeated n 0)
  small = C.All-repeated n 0 (omega arith)

  -- filled with zeros, or left as it was
  pub makes : (zero : Bool) → after ≡ (if zero then put_part memory at (repeated n 0) else memory) → Makes at n memory after
  makes false e = subst (Makes at n memory) (sym e) (record { long = refl; bytes = are; others = λ p s m. refl })
  makes true e = subst (Makes at n memory) (sym e) (record {
    long = C.length-put_part memory at (repeated n 0) (omega (arith, size));
    bytes = C.All-put_part (λ b. b < 256) memory at (repeated n 0) are small;
    others = λ p s m. C.range_apart memory at (repeated n 0) p s (omega (arith, size)) (turned p s m);
  })
    where
      turned : (p s : ℕ) → C.Misses p s at (at + n) → (p + s ≤ at) ⊎ (at + length (repeated n 0) ≤ p)
      turned p s (inl below) = inl below
      turned p s (inr above) = inr (omega (arith, size))

  -- so it has new bytes
  pub fresh : (zero : Bool) → after ≡ (if zero then put_part memory at (repeated n 0) else memory) → AreNew zero n (slice_range after at (at + n))
  fresh false e = subst (λ m. AreNew false n (slice_range m at (at + n))) (sym e) (C.length_range memory at n le, C.All-take (λ b. b < 256) (at + n - at) (drop at memory) (C.All-drop (λ b. b < 256) at memory are), λ t. absurd (false≢true t))
  fresh true e =
      let there : slice_range (put_part memory at (repeated n 0)) at (at + n) ≡ repeated n 0 = C.range-put_part memory at n (repeated n 0) (omega (arith, size)) size in
      subst (λ m. AreNew true n (slice_range m at (at + n))) (sym e) (ap (length {A = ℕ}) there ∙ size, subst (All (λ b. b < 256)) (sym there) small, λ t. there)
