-- What every run of the machine promises, whatever the store answers, sentence by sentence: each field is of every step, from the world before it.
use Rattle.std.specs.Prelude.{List, All}
use Rattle.w16_loading.specs.File.{Format}
use Rattle.w16_machine.specs.Machine.{Event, Run, Step}
use Rattle.w16_machine.specs.{World.World, Law.IsWorld, Law.ShareNoByte, Bystanders.KeepsAddresses, Bystanders.KeepsDS, Bystanders.SparesBytes, Fewest.AreFewest, Law.EachStep}
use Rattle.w16_loading.specs.Law.{IsCommand}
use Rattle.w16_writes.specs.LastWrite.{AllKeepWritten, ReadsBack}

pub record Promises (old : World) (events : List Event) : Type 0 where
  -- The numbers of each command are in their ranges.
  pub ranged : EachStep (λ _ event. IsCommand event.command) old events
  -- What holds of every world holds of the one before the step and of the one after it.
  pub worlds : EachStep (λ old event. IsWorld old × IsWorld event.after) old events
  -- No two objects share a byte.
  pub apart : EachStep (λ old event. ShareNoByte old × ShareNoByte event.after) old events
  -- Only an unlocked discardable object loses bytes to another's request.
  pub bytes : EachStep (λ old event. SparesBytes old event.command event.after) old events
  -- Fixed and locked objects keep their address until their own reallocation, last unlock or freeing.
  pub addresses : EachStep (λ old event. KeepsAddresses old event.command event.after) old events
  -- DS is changed by the command DS alone.
  pub ds : EachStep (λ old event. KeepsDS old event.command event.after) old events
  -- A request is refused only where no gap could hold it, and discards as few objects as it can.
  pub fewest : AreFewest old events
  -- What is written is there until it is written again,
  pub written : AllKeepWritten old events
  -- and so it reads back.
  pub reads_back : ReadsBack events

-- The law: every run does.
abbrev pub RunPromisesLaw : (honest : Type 0) → Type 0
RunPromisesLaw honest = (format : Format) (old new : World) (events : List Event) → IsWorld old → All (λ e. IsCommand e.command) events → Run (Step honest format) old events new → Promises old events
