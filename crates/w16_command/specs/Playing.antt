-- What the program's run of a script does, and what is answered for it.
use Rattle.std.specs.Prelude.{◌≡◌, ℕ, ◌⊎◌, List, Option, Result, Ok, Err, IsOk, IsErrAnd, MatchResult}
use Rattle.std.specs.Io.KnownBytes.{Consumes, IsAtEnd, Keeps}
use Rattle.std.specs.{Borrow.Bor, declared.io.Error.Error}
use Rattle.w16_machine.specs.{World.World, Machine.Steps}
use Rattle.w16_script.specs.{Whole.Script, Whole.Fails, declared.outcome.Ended.Ended, declared.outcome.RunFault.RunFault}
use Rattle.w16_command.specs.declared.fault.Fault.TheVariants.{Write, Memory}
use Rattle.w16_command.specs.{declared.fault.Fault.Fault, Faults.of_run}

-- A script was run as `run` promises, whole or up to a fault. The reader had and has left, and the writer held and holds, these bytes, where
-- they tell them.
abbrev pub Ran : Steps → Option (List ℕ) → Option (List ℕ) → Option (List ℕ) → World → Result Ended RunFault → Option (List ℕ) → World → Type 0
Ran steps had left held old ended holds new = MatchResult ended
    (λ counts. (text : List ℕ) × Consumes had left text × IsAtEnd left × Script steps held old text holds new counts)
    (λ met. (text : List ℕ) × Consumes had left text × Fails steps left held old text met holds new)

-- What is answered for a run: its own fault, of the script of this path; or the write fault, where the writer couldn't be flushed after it.
abbrev pub Answers : Bor (List ℕ) → Result Ended RunFault → Result (Unit {0}) Fault → Type 0
Answers path ended (Ok answer) = IsOk ended
Answers path ended (Err told) = (told ≡ Write) ⊎ IsErrAnd ended (λ met. (error : Error) × (told ≡ of_run met path error))

-- A script was run, flushed and answered. What the writer held after the run is kept.
pub record Plays (steps : Steps) (had left held : Option (List ℕ)) (old : World) (path : Bor (List ℕ)) (answer : Result (Unit {0}) Fault) (holds : Option (List ℕ)) (new : World) : Type 0 where
  pub ended : Result Ended RunFault
  pub written : Option (List ℕ)
  pub ran : Ran steps had left held old ended written new
  pub kept : Keeps written holds
  pub answers : Answers path ended answer

-- The same, of a reader and a machine that are gone; or there was no memory, and nothing was read, done or written.
abbrev pub HasPlayed : Steps → Option (List ℕ) → Option (List ℕ) → World → Bor (List ℕ) → Result (Unit {0}) Fault → Option (List ℕ) → Type 0
HasPlayed steps had held old path answer holds =
    ((left : Option (List ℕ)) × (new : World) × Plays steps had left held old path answer holds new) ⊎ ((answer ≡ Err Memory) × Keeps held holds)
