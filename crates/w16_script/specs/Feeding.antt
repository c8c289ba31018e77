-- What bytes of a script do, one after another.
use Rattle.w16_script.specs
use Rattle.std.specs.Prelude.{◌≡◌, ℕ, ◌+◌, List, [], ◌∷◌, ◌++◌, length, map, count_by, Option}
use Rattle.std.specs.{List.flat_map, List.AllByRecursion, Io.KnownBytes.Keeps}
use Rattle.w16_machine.specs.{Law.IsSame, Machine.Event, Machine.Run, Machine.Steps}
use Rattle.w16_loading.specs.Families.{AnyCommand}
use Rattle.w16_writes.specs.Promises.{Promises}
use Rattle.w16_kernel.specs.Runs.{TakesMemory}
use specs.declared.outcome.RunFault.TheVariants.{Write, Memory, TooLong}
use specs.Progress.{Progress, IsWithinLimits, IsOver}
use specs.{declared.outcome.RunFault.RunFault, State.State, Grammar.Said, Grammar.Reads, Written.AppendsFront, Output.Prints, Output.RunsLines, Output.has_reply, Text.ended, Text.HasNoLf, Text.IsRaw, Text.without_cr}

-- the line met a fault
abbrev pub FailsAt : Steps → Option (List ℕ) → State → List ℕ → RunFault → Option (List ℕ) → State → Type 0
-- its command was done, and a front of its reply was written
FailsAt steps held old line Write holds new =
    (events : List Event) × (output : List ℕ) × Run steps old.world events new.world × Prints old.registers (line ∷ []) events output new.registers × AppendsFront held holds output × Promises old.world events
-- its command wants memory, and nothing was done
FailsAt steps held old line Memory holds new =
    (target : Option ℕ) × (command : AnyCommand) × Reads old.registers line (Said.Says target command) × TakesMemory old.world command × IsSame old.world new.world × (new.registers ≡ old.registers) × Keeps held holds
-- no line meets another
FailsAt steps held old line fault holds new = ⊥

-- The bytes were taken: they ended some lines, which were run, and the rest is unfinished.
pub record Feeds (steps : Steps) (held : Option (List ℕ)) (before : Progress) (old : State) (bytes : List ℕ) (holds : Option (List ℕ)) (after : Progress) (new : State) : Type 0 where
  pub raw : List (List ℕ)
  pub whole : before.line ++ bytes ≡ flat_map ended raw ++ after.line
  pub parts : HasNoLf before.line → AllByRecursion IsRaw raw × HasNoLf after.line
  pub runs : RunsLines steps held old (map without_cr raw) holds new
  pub lines : after.lines ≡ before.lines + length raw
  pub replies : after.replies ≡ before.replies + count_by has_reply (map without_cr raw)

-- what the next byte meets: it passes a limit, or it passes none and ends a line that meets a fault
abbrev pub StopsHere : Steps → Option (List ℕ) → Progress → State → ℕ → RunFault → Option (List ℕ) → State → Type 0
StopsHere steps held here old byte TooLong holds new = IsOver here byte × (new ≡ old) × Keeps held holds
StopsHere steps held here old byte fault holds new = (IsOver here byte → ⊥) × (byte ≡ 10) × FailsAt steps held old (without_cr here.line) fault holds new

-- The bytes met a fault: a front of them was taken, and then one stopped the run.
pub record Stops (steps : Steps) (held : Option (List ℕ)) (before : Progress) (old : State) (bytes : List ℕ) (fault : RunFault) (holds : Option (List ℕ)) (new : State) : Type 0 where
  pub front : List ℕ
  pub byte : ℕ
  pub more : List ℕ
  pub whole : bytes ≡ front ++ byte ∷ more
  pub between : Option (List ℕ)
  pub here : Progress
  pub state : State
  pub feeds : Feeds steps held before old front between here state
  pub fits : IsWithinLimits here
  pub stops : StopsHere steps between here state byte fault holds new
