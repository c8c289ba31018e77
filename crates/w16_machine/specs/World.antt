-- The world of the whole machine.
use Rattle.std.specs.{Prelude.ℕ, Ordering.nat_cmp, FinMap.FinMap}
use Rattle.w16_model.specs.{Table.Table}
use Rattle.w16_loading.specs.{Modules.LoadingWorld}

-- What loading has of it (handles, modules, loads of resources, the store's files and its count of failures), each local heap's table by its
-- segment's slot, and DS, the selector that names the segment in whose heap the Local calls act.
pub record World : Type 0 where
  pub loading : LoadingWorld
  pub heaps : FinMap nat_cmp Table
  pub ds : ℕ
