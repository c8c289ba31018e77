-- Whole runs: what each step keeps or does, they keep or do.
use Rattle.std.proofs.Common.{All, List, [], ◌∷◌, subst, sym}
use Rattle.std.specs.List.{AllByRecursion as Each}
use Rattle.w16_machine.proofs.{Common.Each-from_All, Discards.step_fewest, Worlds.world_law, Worlds.files_law, Bystanders.step_spares_law}
use Rattle.w16_machine.specs.{World.World, Law.EachStep, Machine.Event, Machine.Run, Machine.Steps, Bystanders.Spares}
use Rattle.w16_loading.specs.Law.{IsCommand}
use Rattle.w16_laws.specs.Runs.{FewestLaw, RunWorldLaw, RunFilesLaw, RunSparesLaw}

-- What each step keeps holds of the world that a run leaves, and what it brings with it of each step.
pub run_each : (steps : Steps) (Is : World → Type 0) (holds : World → Event → Type 0)
    → ((now : World) (event : Event) → Is now → IsCommand event.command → steps now event.command event.reply event.after → holds now event × Is event.after)
    → (old new : World) (events : List Event) → Is old → All (λ e. IsCommand e.command) events → Run steps old events new → EachStep holds old events × Is new
run_each steps Is holds each old new events is known run = go old _ is (Each-from_All (λ e. IsCommand e.command) _ known) run
  where
    go : (now : World) (events : List Event) → Is now → Each (λ e. IsCommand e.command) events → Run steps now events new → EachStep holds now events × Is new
    go now [] is known run = (tt, subst Is (sym run) is)
    go now (event ∷ events) is known run = let one = each now event is known.0 run.0 in let more = go _ events one.1 known.1 run.1 in ((one.0, more.0), more.1)

pub run_world_law : (honest : Type 0) → RunWorldLaw honest
run_world_law honest format old new events is known run = (run_each _ _ (λ now event. Unit {0}) (λ now event is known step. (tt, world_law honest format now _ event.command event.reply is known step)) old new _ is known run).1

pub run_files_law : (honest : Type 0) → RunFilesLaw honest
run_files_law honest format old new events truly is known run =
    (run_each _ _ (λ now event. Unit {0}) (λ now event is known step. (tt, files_law honest format now _ event.command event.reply truly is known step)) old new _ is known run).1

pub fewest_law : (honest : Type 0) → FewestLaw honest
fewest_law honest format old new events is known run =
    (run_each _ _ _ (λ now event is known step. (step_fewest honest format now _ is step, world_law honest format now _ event.command event.reply is known step)) old new _ is known run).0

pub run_spares_law : (honest : Type 0) → RunSparesLaw honest
run_spares_law honest format old new events is known run = (run_each _ _ (λ now event. Spares now _ _)
    (λ now event is known step. (step_spares_law honest format now _ _ _ is step, world_law honest format now _ event.command event.reply is known step)) old new _ is known run).0
