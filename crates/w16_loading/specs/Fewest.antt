-- What the requests of a step promise of discards, one by one.
use Rattle.w16_loading.specs.{File.Format, Modules.LoadingWorld, Replies.Reply, Answers.StepOver, Law.IsLoadingWorld, Fill.Fills, Answers.Ending, Answers.StepFrom, Answers.told}
use Rattle.w16_loading.specs.Families.{AnyCommand}
use Rattle.std.specs.Prelude.{length}
use Rattle.w16_model.specs.{Owned.revival_options, Fewest.AllocatesFewest}

-- A request for an object's bytes discards as few objects as it can; refused, there is no room whatever is discarded.
abbrev pub FillsFewest : Ending
FillsFewest old slot bytes answered new = Fills old slot bytes answered new × AllocatesFewest old slot (length bytes) revival_options answered new

-- a step whose requests for bytes discard as few objects as they can
abbrev pub FewestOver : (honest : Type 0) → Format → LoadingWorld → AnyCommand → Reply → LoadingWorld → Type 0
FewestOver honest format old command reply new = StepFrom FillsFewest (told honest format old.files old.failures new.failures) old command reply new

-- each request of a step, that of a fetch and those of a load, discards as few objects as it can,
abbrev pub RequestsFewestLaw : (honest : Type 0) → Type 0
RequestsFewestLaw honest = (format : Format) (old new : LoadingWorld) (command : AnyCommand) (reply : Reply) → IsLoadingWorld old → StepOver honest format old command reply new
    → FewestOver honest format old command reply new

-- whatever a store answers
abbrev pub RequestsFewest : LoadingWorld → AnyCommand → Reply → LoadingWorld → Type 0
RequestsFewest old command reply new = (format : Format) × FewestOver ⊥ format old command reply new
