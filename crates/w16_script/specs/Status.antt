-- The exit status of a program whose run met a fault.
use Rattle.std.specs.Prelude.{ℕ}
use Rattle.w16_script.specs.declared.outcome.RunFault.{RunFault}
use Rattle.w16_script.specs.declared.outcome.RunFault.TheVariants.{Read, Write, Memory, TooLong}

abbrev pub status_of : RunFault → ℕ
status_of Read = 1
status_of Write = 1
status_of Memory = 3
status_of TooLong = 4
