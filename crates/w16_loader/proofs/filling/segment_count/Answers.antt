use Rattle.std.proofs.Common.{◌∙◌, sym}
use Rattle.w16_loader.proofs.Unfilled.{many_segments}
use Rattle.w16_loader.proofs.filling.segment_count.Goals as goal

pub returns : goal.returns
returns g c = c.segment_count.ensures.count ∙ sym (many_segments c.module.result.now c.args.loaded.now c.module.ensures)
