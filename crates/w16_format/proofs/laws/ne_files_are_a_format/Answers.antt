use Rattle.w16_format.proofs.Files.{is_format}
use Rattle.w16_format.proofs.laws.ne_files_are_a_format.Goals as goal

pub returns : goal.returns
returns c = is_format
