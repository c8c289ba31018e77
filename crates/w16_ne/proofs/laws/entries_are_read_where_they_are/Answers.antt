use Rattle.w16_ne.proofs.EntriesFormat.{entries_format}
use Rattle.w16_ne.proofs.laws.entries_are_read_where_they_are.Goals as goal

pub returns : goal.returns
returns c = entries_format
