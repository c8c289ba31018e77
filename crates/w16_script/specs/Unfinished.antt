-- The state of the code between two bytes.

use Rattle.w16_machine.specs.World.{World}
use Rattle.w16_script.specs.{declared.feed.Unfinished.Unfinished, Progress.Progress, State.State, State.state_with}

abbrev pub progress_of : Unfinished → Progress
progress_of state = record { line = state.line.items; lines = state.lines; replies = state.replies }

-- with the machine's world
abbrev pub state_of : Unfinished → World → State
state_of state world = state_with world state.registers
