-- What the code says of a line.
use Rattle.std.specs.Prelude.{◌<◌, IfSome}
use Rattle.w16_loading.specs.Families.{AnyCommand}
use Rattle.w16_model.specs.Commands.Family.{OfFar}
use Rattle.w16_kernel.specs.Runs.{command_of, IsCall}
use Rattle.w16_script.specs.{declared.line.Line.Line, Grammar.Said}
use Rattle.w16_script.specs.declared.line.Line.TheVariants as line
use Rattle.w16_loading.specs.Families.AnyCommand.{any}

-- a far access
abbrev pub IsFarAccess : AnyCommand → Type 0
IsFarAccess (any OfFar access) = Unit {0}
IsFarAccess command = ⊥

-- what a line says, seen as the machine sees it
abbrev pub said_of : Line → Said
said_of line.Silent = Said.Silent
said_of line.Bad = Said.Bad
said_of (line.Command target call) = Said.Says target (command_of call)

-- a command is one that the machine takes, and its reply goes to one of the registers, if to any
abbrev pub IsRunnable : Line → Type 0
IsRunnable (line.Command target call) = IsCall call × IfSome target (λ r. r < 100)
IsRunnable other = Unit {0}
