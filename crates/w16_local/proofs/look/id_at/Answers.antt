use Rattle.std.proofs.Common.{sym, ◌∙◌}
use Rattle.w16_local.proofs.Looks.{at_none, at_block}
use Rattle.w16_local.proofs.look.id_at.Goals as goal

pub returns-in_err-block : goal.returns-in_err-block
returns-in_err-block g c bytes over = at_none over c.args.pointer c.in_err-block.ensures.none ∙ sym c.from_residual.ensures

pub returns : goal.returns
returns g c bytes over = at_block over c.args.pointer c.in_ok-block.block c.in_ok-block.ensures.found.1 c.in_ok-block.ensures.found.0
