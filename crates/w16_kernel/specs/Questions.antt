-- Questions on handles, which change nothing.
use Rattle.std.specs.Prelude.{[], ◌∷◌}
use Rattle.w16_model.specs.Commands.{Command}
use Rattle.w16_model.specs.Commands.Family.{OfHandles}
use Rattle.w16_loading.specs.{Replies.Reply}
use Rattle.w16_machine.specs.{World.World}
use Rattle.w16_writes.specs.Promises.{Promises}
use Rattle.w16_kernel.specs.Parts.{KernelStep}
use Rattle.w16_loading.specs.Families.AnyCommand.{any}

-- A call on handles is answered in a world that stays: that is a step of the machine, and keeps what each run promises.
pub record IsAnswered (honest : Type 0) (w : World) (command : Command OfHandles) (reply : Reply) : Type 0 where
  pub step : KernelStep honest w (any OfHandles command) reply w
  pub promises : Promises w (record { command = (any OfHandles command); reply = reply; after = w } ∷ [])
