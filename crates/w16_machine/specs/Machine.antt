-- The machine: what a step of each command leaves of the world, and runs.
use Rattle.std.specs.Prelude.{◌≡◌, List, [], ◌∷◌}
use Rattle.w16_loading.specs.{File.Format, Modules.LoadingWorld, Answers.StepOver, Replies.Reply}
use Rattle.w16_loading.specs.Families.{AnyCommand}
use Rattle.w16_model.specs.Commands.Family.{OfLocals}
use Rattle.w16_machine.specs.{World.World, Local.left_in, LocalCalls.LocalStep}
use Rattle.w16_loading.specs.Families.AnyCommand.{any}

-- the world that a step of loading leaves: the local heaps stay whose segments still have their ranges
abbrev pub after_loading : World → LoadingWorld → World
after_loading old loading = record { loading = loading; heaps = left_in loading.handles.heap old.heaps; ds = old.ds }

-- a step of loading, as a step of the machine
abbrev pub LoadingStep : Type 0 → Format → World → AnyCommand → Reply → World → Type 0
LoadingStep honest format old command reply new = StepOver honest format old.loading command reply new.loading × (new ≡ after_loading old new.loading)

-- One step, over a store that is honest where the premise holds: a call on local heaps, or a step of loading, which has all other families.
abbrev pub Step : Type 0 → Format → World → AnyCommand → Reply → World → Type 0
Step honest format old (any OfLocals command) reply new = LocalStep old command reply new
Step honest format old command reply new = LoadingStep honest format old command reply new

-- Runs.

-- a step of a run: the command, its reply, and the world after it
pub record Event : Type 0 where
  pub command : AnyCommand
  pub reply : Reply
  pub after : World

-- which steps may be taken
abbrev pub Steps : Type 1
Steps = World → AnyCommand → Reply → World → Type 0

-- such steps, one after another, from old to new
abbrev pub Run : Steps → World → List Event → World → Type 0
Run steps old [] new = new ≡ old
Run steps old (event ∷ events) new = steps old event.command event.reply event.after × Run steps event.after events new
