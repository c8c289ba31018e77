-- What a borrower of some bytes leaves behind. In each, R is the lender's type, s the lender as it was passed, and r the slice that it lent.
use Rattle.std.specs.Prelude.{ℕ, List}
use Rattle.std.specs.Borrow.{Lends, Fml, RattleType, MutBor, Array, u8}

-- A space lends the part of `size` bytes that begins at `at`: it ends as `after` says of the bytes last seen through r.
abbrev pub LendsPart : (R : RattleType) → (R.Denot → ℕ → ℕ → List ℕ → R.Denot)
    → MutBor R.Denot → ℕ → ℕ → MutBor (List ℕ) → Fml
LendsPart R after s at size r = Lends R (Array u8 0) s r (after s.now at size)

-- A storage, which counts nothing, lends a part that begins at `at`: it ends as `after` says of the bytes last seen through r.
abbrev pub LendsFrom : (R : RattleType) → (R.Denot → ℕ → List ℕ → R.Denot)
    → MutBor R.Denot → ℕ → MutBor (List ℕ) → Fml
LendsFrom R after s at r = Lends R (Array u8 0) s r (after s.now at)

-- A storage lends all of its bytes: it ends as `after` says of the bytes last seen through r.
abbrev pub LendsWhole : (R : RattleType) → (R.Denot → List ℕ → R.Denot)
    → MutBor R.Denot → MutBor (List ℕ) → Fml
LendsWhole R after s r = Lends R (Array u8 0) s r (after s.now)
