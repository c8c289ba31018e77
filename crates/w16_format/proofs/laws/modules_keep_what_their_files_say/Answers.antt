use Rattle.w16_format.proofs.Files.{tables_apart, stored_law}
use Rattle.w16_format.proofs.laws.modules_keep_what_their_files_say.Goals as goal

pub returns-clause-apart : goal.returns-clause-apart
returns-clause-apart c = tables_apart

pub returns-clause-stored : goal.returns-clause-stored
returns-clause-stored c = stored_law
