use Rattle.std.proofs.Common.{rules}
use Rattle.w16_store.proofs.window.Window.copy.Goals as goal

pub returns-then-at-self : goal.returns-then-at-self
returns-then-at-self c = search rules
