use Rattle.std.proofs.Common.{rules}
use Rattle.w16_store.proofs.places.is_before.Goals as goal

pub returns : goal.returns
returns c = search rules
