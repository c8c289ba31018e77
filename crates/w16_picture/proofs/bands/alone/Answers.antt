use Rattle.std.proofs.{Common.sym, Common.arith, lemmas.Grind.common_steps}
use Rattle.w16_picture.specs.Bands.{is_alone}
use Rattle.w16_picture.proofs.Joining.{no_rect, filter-next}
use Rattle.w16_picture.proofs.bands.alone.Goals as goal

pub loop-rect-preserved : goal.loop-rect-preserved
loop-rect-preserved c =
    let missing = c.is_missing.ensures c.args.others.now c.in_ok-places.ensures in
    let next = filter-next (is_alone c.args.others.now) c.args.rects.now c.loop-rect.rect-index no_rect c.is_missing.result c.loop-rect-test.true (sym missing) in
    grind (arith, common_steps, next)
