-- What the lines of a script work on.
use Rattle.w16_machine.specs.World.{World}
use Rattle.std.specs.Prelude.{ℕ, List}
use Rattle.w16_script.specs.Registers.{zeros}

-- the machine's world and the registers
pub record State : Type 0 where
  pub world : World
  pub registers : List ℕ

-- this world with these registers
abbrev pub state_with : World → List ℕ → State
state_with world registers = record { world = world; registers = registers }

-- before the first line
abbrev pub start : World → State
start world = state_with world zeros
