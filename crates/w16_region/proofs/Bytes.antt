-- Lists of bytes.
use Rattle.w16_region.proofs.Common.{ℕ, ◌<◌, List, All, arith, get_or, Fits, w8, All-from_get_or}

-- the items of a list of bytes are below 256
pub All-bytes : (xs : List ℕ) → ((i : ℕ) → Fits w8 (get_or xs i 0)) → All (λ b. b < 256) xs
All-bytes xs fit = All-from_get_or (λ b. b < 256) xs 0 (λ i l. omega (arith, fit i))
