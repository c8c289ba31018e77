use Rattle.w16_ne.proofs.NamesFormat.{names_format}
use Rattle.w16_ne.proofs.laws.names_are_read_where_they_are.Goals as goal

pub returns : goal.returns
returns c = names_format
