use Rattle.w16_loading.proofs.Begun.{empty_of_files_law}
use Rattle.w16_laws.proofs.loading.nothing_loaded_is_of_files.Goals as goal

pub returns : goal.returns
returns c = empty_of_files_law
