-- The last block below a place.
use Rattle.std.specs.Prelude.{ℕ, ◌≡◌, ◌<◌, ◌≤◌, ◌⊎◌, Some, List}
use Rattle.std.specs.List.{AllByRecursion}
use Rattle.w16_model.specs.{declared.Block.Block, Table.block_with}

-- the last of the blocks that begin below a place
pub record IsLastBelow (bs : List Block) (place : ℕ) (b : Block) : Type 0 where
  pub known : block_with bs b.id ≡ Some b
  pub below : b.at < place
  pub last : AllByRecursion (λ c. (c.at ≤ b.at) ⊎ (place ≤ c.at)) bs
