-- What a whole run does.
use Rattle.w16_script.specs
use Rattle.w16_machine.specs.{World.World, Machine.Steps}
use Rattle.std.specs.Prelude.{◌≡◌, ℕ, ◌+◌, ◌<◌, ◌≤◌, ◌⊎◌, List, [], ◌++◌, length, count_by, Option}
use Rattle.std.specs.{List.flat_map, List.AllByRecursion, Io.KnownBytes.Keeps, Io.KnownBytes.IsAtEnd}
use specs.declared.outcome.RunFault.TheVariants.{Read, Write, Memory, TooLong}
use specs.Progress.{Progress, fresh, IsWithinLimits}
use specs.{declared.outcome.Ended.Ended, declared.outcome.RunFault.RunFault, State.State, State.state_with, State.start, Output.RunsLines, Output.has_reply, Text.ended, Text.IsRaw, Text.last_of, Text.lines_of, Feeding.Feeds, Feeding.FailsAt, Feeding.Stops}

-- The script of this text, whole: it is within the limits, its lines were run, what they print was written, and these are its counts.
-- It left these registers.
pub record Script (steps : Steps) (held : Option (List ℕ)) (old : World) (text : List ℕ) (holds : Option (List ℕ)) (new : World) (counts : Ended) : Type 0 where
  pub raw : List (List ℕ)
  pub rest : List ℕ
  pub whole : text ≡ flat_map ended raw ++ rest
  pub parts : AllByRecursion IsRaw raw × IsRaw rest
  pub few : length (lines_of raw rest) ≤ 1000000
  pub registers : List ℕ
  pub runs : RunsLines steps held (start old) (lines_of raw rest) holds (state_with new registers)
  pub lines : counts.lines ≡ length (lines_of raw rest)
  pub replies : counts.replies ≡ count_by has_reply (lines_of raw rest)

-- The end of the text came, and the unfinished line, if there is one, was run.
pub record Finishes (steps : Steps) (held : Option (List ℕ)) (here : Progress) (old : State) (holds : Option (List ℕ)) (new : State) (counts : Ended) : Type 0 where
  pub runs : RunsLines steps held old (last_of here.line) holds new
  pub lines : counts.lines ≡ here.lines + length (last_of here.line)
  pub replies : counts.replies ≡ here.replies + count_by has_reply (last_of here.line)

-- nothing was read, done or written
pub record StopsAtStart (held : Option (List ℕ)) (old : World) (text : List ℕ) (holds : Option (List ℕ)) (new : World) : Type 0 where
  pub nothing : text ≡ []
  pub world : new ≡ old
  pub keeps : Keeps held holds

-- before a further read: all that was read was taken, within the limits, and the replies of its lines were written
pub record StopsReading (steps : Steps) (held : Option (List ℕ)) (old : World) (text : List ℕ) (holds : Option (List ℕ)) (new : World) : Type 0 where
  pub here : Progress
  pub registers : List ℕ
  pub feeds : Feeds steps held fresh (start old) text holds here (state_with new registers)
  pub fits : IsWithinLimits here

-- A byte of the piece that was read last met the fault. All that was read before was taken, within the limits, and nothing was read afterwards.
pub record StopsWithin (steps : Steps) (held : Option (List ℕ)) (old : World) (text : List ℕ) (fault : RunFault) (holds : Option (List ℕ)) (new : World) : Type 0 where
  pub before : List ℕ
  pub piece : List ℕ
  pub pieces : text ≡ before ++ piece
  pub short : length piece ≤ 65536
  pub between : Option (List ℕ)
  pub here : Progress
  pub state : State
  pub feeds : Feeds steps held fresh (start old) before between here state
  pub fits : IsWithinLimits here
  pub registers : List ℕ
  pub stops : Stops steps between here state piece fault holds (state_with new registers)

-- the reader was at its end, and the last line, which has no LF, met the fault
pub record StopsLast (steps : Steps) (left held : Option (List ℕ)) (old : World) (text : List ℕ) (fault : RunFault) (holds : Option (List ℕ)) (new : World) : Type 0 where
  pub at_end : IsAtEnd left
  pub between : Option (List ℕ)
  pub here : Progress
  pub state : State
  pub feeds : Feeds steps held fresh (start old) text between here state
  pub fits : IsWithinLimits here
  pub filled : 0 < length here.line
  pub registers : List ℕ
  pub fails : FailsAt steps between state here.line fault holds (state_with new registers)

-- Once reading began: text is what was read, and left what the reader has left. A writer fails at a reply, or at
-- the flush before a read.
abbrev pub FailsLater : Steps → Option (List ℕ) → Option (List ℕ) → World → List ℕ → RunFault → Option (List ℕ) → World → Type 0
FailsLater steps left held old text Read holds new = StopsReading steps held old text holds new
FailsLater steps left held old text Write holds new = StopsWithin steps held old text Write holds new ⊎ StopsLast steps left held old text Write holds new ⊎ StopsReading steps held old text holds new
FailsLater steps left held old text Memory holds new = StopsWithin steps held old text Memory holds new ⊎ StopsLast steps left held old text Memory holds new
FailsLater steps left held old text TooLong holds new = StopsWithin steps held old text TooLong holds new

-- The run met a fault: want of memory may also come before the first read.
abbrev pub Fails : Steps → Option (List ℕ) → Option (List ℕ) → World → List ℕ → RunFault → Option (List ℕ) → World → Type 0
Fails steps left held old text Memory holds new = StopsAtStart held old text holds new ⊎ FailsLater steps left held old text Memory holds new
Fails steps left held old text fault holds new = FailsLater steps left held old text fault holds new
