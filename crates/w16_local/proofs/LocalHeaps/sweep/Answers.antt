use Rattle.w16_local.proofs.Common.{ap, ◌∙◌, left_in}
use Rattle.w16_local.proofs.LocalHeaps.sweep.Goals as goal

pub returns : goal.returns
returns g c = c.sweep_listed.ensures.tables ∙ ap (left_in c.args.global.now.handles.heap) c.self.view_is
