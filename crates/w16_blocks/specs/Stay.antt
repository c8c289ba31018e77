-- What code over a range asks of a memory, and what it leaves of one.
use Rattle.std.specs.Prelude.{ℕ, ◌≡◌, ◌≤◌, ◌+◌, List, length}
use Rattle.std.specs.Borrow.{GName}
use Rattle.w16_model.specs.{Bytes.part, declared.Span.Span}
use Rattle.w16_holes.specs.Holes.{IsUsed}

-- a memory that has what is kept of a range's holes, and all bytes of the range, which ends at `hi`
pub record HasRange (are_in : List Span → List ℕ → Type 0) (holes : List Span) (hi : ℕ) (bytes : List ℕ) : Type 0 where
  pub kept : are_in holes bytes
  pub inside : hi ≤ length bytes

-- What a step leaves of a memory, whose bytes and lenders are those of a space: it has what is kept of the holes that there are then, its bytes are the same as far as `stay` says, and it is on the same loans.
pub record Leaves {X : Type 0} (are_in : List Span → List ℕ → Type 0) (bytes_of : X → List ℕ) (lenders_of : X → List GName) (holes : List Span) (stay : List ℕ → List ℕ → Type 0) (before after : X) : Type 0 where
  pub kept : are_in holes (bytes_of after)
  pub bytes : stay (bytes_of before) (bytes_of after)
  pub loans : lenders_of after ≡ lenders_of before

-- two memories have the same bytes wherever there is no hole before and none after
pub record AreSameOutsideBoth (before after : List Span) (old new : List ℕ) : Type 0 where
  pub long : length new ≡ length old
  pub same : (at m : ℕ) → IsUsed at (at + m) before → IsUsed at (at + m) after → part new at m ≡ part old at m
