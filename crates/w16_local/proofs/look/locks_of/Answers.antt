use Rattle.std.proofs.Common.{None, Some, sym, ◌∙◌}
use Rattle.w16_local.proofs.Looks.{locks_in}
use Rattle.w16_local.proofs.look.locks_of.Goals as goal

pub returns-in_default : goal.returns-in_default
returns-in_default g c bytes over = locks_in over c.args.id None (sym c.entry.ensures.value ∙ c.in_default.is)

pub returns : goal.returns
returns g c bytes over = locks_in over c.args.id (Some c.in-Some.entry) (sym c.entry.ensures.value ∙ c.in-Some.is)
