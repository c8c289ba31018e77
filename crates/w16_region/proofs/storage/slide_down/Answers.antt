use Rattle.std.proofs.Common.{arith, sym, ◌∙◌}
use Rattle.w16_region.proofs.Slides.{slide_none, slide_more}
use Rattle.w16_region.proofs.storage.slide_down.Goals as goal

pub loop-done-init : goal.loop-done-init
loop-done-init c = record { done = omega arith; is = sym (slide_none _ c.args.from _) }

pub loop-done-preserved : goal.loop-done-preserved
loop-done-preserved c =
    let inv = c.loop-done.invariant in let piece = c.min-piece.ensures in let test = c.loop-done-test.true in let source = c.requires.source in
    record {
      done = omega arith;
      is = c.slide_piece.ensures ∙ slide_more c.args.bytes.now c.args.from c.args.to c.loop-done.done c.min-piece.result c.requires.down (omega arith) _ inv.is;
    }
