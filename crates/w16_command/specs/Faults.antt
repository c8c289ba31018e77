-- The program's faults and their exit statuses.
use Rattle.std.specs.{Prelude.ℕ, Prelude.◌≡◌, Prelude.List, Borrow.Bor, declared.io.Error.Error}
use Rattle.w16_script.specs.declared.outcome.RunFault.{RunFault}
use Rattle.w16_command.specs.declared.fault.Fault.{Fault}
use Rattle.w16_script.specs.declared.outcome.RunFault.TheVariants as run
use Rattle.w16_script.specs.Status as script
use Rattle.w16_command.specs.declared.fault.Fault.TheVariants as fault

-- 2 for what the command line asks for; a run's fault has the status that scripts give it
abbrev pub status_of : Fault → ℕ
status_of fault.Argument = 2
status_of (fault.MemorySize given) = 2
status_of (fault.SelectorCount given) = 2
status_of (fault.Read path error) = script.status_of run.Read
status_of fault.Write = script.status_of run.Write
status_of fault.Memory = script.status_of run.Memory
status_of (fault.TooLong path) = script.status_of run.TooLong

-- a run's fault is the program's, with the script that it is of
abbrev pub of_run : RunFault → Bor (List ℕ) → Error → Fault
of_run run.Read path error = fault.Read path error
of_run run.Write path error = fault.Write
of_run run.Memory path error = fault.Memory
of_run run.TooLong path error = fault.TooLong path

-- what a path names can't be had: it can't be read, and the fault says so of this path, or there is no memory
abbrev pub IsOfFiles : List ℕ → Fault → Type 0
IsOfFiles path (fault.Read named error) = named.now ≡ path
IsOfFiles path fault.Memory = Unit {0}
IsOfFiles path other = ⊥
