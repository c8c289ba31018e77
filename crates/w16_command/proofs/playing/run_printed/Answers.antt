use Rattle.std.proofs.Common.{refl, inr}
use Rattle.w16_command.proofs.playing.run_printed.Goals as goal

pub returns-in-Err : goal.returns-in-Err
returns-in-Err g c = inr (refl, tt)
