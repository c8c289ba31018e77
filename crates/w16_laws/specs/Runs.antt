-- The laws of whole runs, and of the table of the commands, on which nothing stands: what each step keeps, a run keeps.
use Rattle.std.specs.Prelude.{◌≡◌, List, All}
use Rattle.w16_loading.specs.{File.Format, Law.IsCommand}
use Rattle.w16_machine.specs.{Machine.Step, Machine.Event, Machine.Run, World.World, Law.IsWorld, Law.IsWorldOfFiles, Law.EachStep, Fewest.AreFewest, Bystanders.Spares}
use Rattle.w16_machine.specs.Rows.{Argument, name_of, row_of}
use Rattle.w16_machine.specs.declared.name.Name.{Name}

-- Whole runs keep what holds of every world, whatever the store answers,
abbrev pub RunWorldLaw : (honest : Type 0) → Type 0
RunWorldLaw honest = (format : Format) (old new : World) (events : List Event) → IsWorld old → All (λ e. IsCommand e.command) events → Run (Step honest format) old events new → IsWorld new

-- and where the store is honest code still reads as its file's relocated bytes.
abbrev pub RunFilesLaw : (honest : Type 0) → Type 0
RunFilesLaw honest = (format : Format) (old new : World) (events : List Event) → honest → IsWorldOfFiles format old → All (λ e. IsCommand e.command) events → Run (Step honest format) old events new → IsWorldOfFiles format new

-- In every run each call for room discards as few objects as it can.
abbrev pub FewestLaw : (honest : Type 0) → Type 0
FewestLaw honest = (format : Format) (old new : World) (events : List Event) → IsWorld old → All (λ e. IsCommand e.command) events → Run (Step honest format) old events new → AreFewest old events

-- Each step of a run spares what it isn't about.
abbrev pub AllSpare : World → List Event → Type 0
AllSpare old events = EachStep (λ old event. Spares old event.command event.after) old events

abbrev pub RunSparesLaw : (honest : Type 0) → Type 0
RunSparesLaw honest = (format : Format) (old new : World) (events : List Event) → IsWorld old → All (λ e. IsCommand e.command) events → Run (Step honest format) old events new → AllSpare old events

-- The table of the commands has their names: what a row makes of arguments, whichever, has the row's name.
abbrev pub RowNamesLaw : Type 0
RowNamesLaw = (name : Name) (arguments : List Argument) → name_of ((row_of name).command arguments) ≡ name
