use Rattle.std.proofs.Common.{rules}
use Rattle.w16_store.proofs.opened.Opened.is_still.Goals as goal

pub returns-then-looked : goal.returns-then-looked
returns-then-looked g c = search rules

pub returns-else-looked : goal.returns-else-looked
returns-else-looked g c = search rules
