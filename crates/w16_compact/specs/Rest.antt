-- What a step over part of a memory leaves as it was.
use Rattle.std.specs.Prelude.{ℕ, ◌≡◌, List, length}
use Rattle.w16_model.specs.Table.{IsSameOutside}

-- the same bytes but for [low, high): as many, and the same outside
pub record IsSameRest (low high : ℕ) (old new : List ℕ) : Type 0 where
  pub long : length new ≡ length old
  pub outside : IsSameOutside low high old new
