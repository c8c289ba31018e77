use Rattle.w16_laws.proofs.RowNames.{row_names_law}
use Rattle.w16_laws.proofs.machine.rows_make_commands_of_their_names.Goals as goal

pub returns : goal.returns
returns c = row_names_law
