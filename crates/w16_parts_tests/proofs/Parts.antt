-- Parts of the range that the suite of holes is over.
use Rattle.std.proofs.Common.{ℕ, ◌≡◌, ◌+◌, ◌*◌, ◌<◌, ◌≤◌, arith, sym, subst}
use Rattle.w16_holes.specs.Holes.{Range, IsPart}

abbrev suite : Range
suite = record { lo = 0; hi = 256; grain = 32 }

-- n units from the i-th on
pub part : (r : Range) (i n : ℕ) → r ≡ suite → 0 < n → i + n ≤ 8 → IsPart r (32 * i) (32 * n)
part r i n e some le = subst (λ (s : Range). IsPart s (32 * i) (32 * n)) (sym e) (record { some = omega arith; from = omega arith; to = omega arith; grained = (i, omega arith); rounded = (n, omega arith) })
