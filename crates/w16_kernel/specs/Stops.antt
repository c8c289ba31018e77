-- A run that ended early for want of memory.
use Rattle.w16_machine.specs.{World.World, Machine.Event, Law.IsSame, Machine.Steps, Machine.Run}
use Rattle.std.specs.Prelude.{◌≡◌, ℕ, ◌⊎◌, List, map, take, slice_get, IsSomeAnd}
use Rattle.w16_writes.specs.Promises.{Promises}
use Rattle.w16_kernel.specs.{declared.call.Call.Call, Runs.command_of, Runs.TakesMemory}

-- That many calls were done, from old to the last world, and no other: there was no memory before the first one, or for the next one, which takes
-- some, and which left the world the same.
pub record StopsEarly (steps : Steps) (old : World) (calls : List Call) (new : World) : Type 0 where
  pub done : ℕ
  pub events : List Event
  pub last : World
  pub run : Run steps old events last
  pub commands : map (λ e. e.command) events ≡ map command_of (take done calls)
  pub promises : Promises old events
  pub wanted : (done ≡ 0) ⊎ IsSomeAnd (slice_get calls done) (λ call. TakesMemory last (command_of call))
  pub same : IsSame last new
