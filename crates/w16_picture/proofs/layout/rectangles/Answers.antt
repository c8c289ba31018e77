use Rattle.std.proofs.Common.{◌≡◌, List, subst, sym, arith}
use Rattle.std.proofs.lemmas.Grind.{common_steps}
use Rattle.w16_picture.specs.{declared.layout.Rect.Rect, Layout.IsStrip, Layout.strip}
use Rattle.w16_picture.proofs.Placing.{Fills-inside, IsStrip-strip}
use Rattle.w16_picture.proofs.layout.rectangles.Goals as goal

pub rectangle-requires-clause-inside : goal.rectangle-requires-clause-inside
rectangle-requires-clause-inside c = Fills-inside 0 c.args.memory c.args.items.now _ _ (omega arith) c.requires.whole

pub returns-clause-drawn : goal.returns-clause-drawn
returns-clause-drawn c =
    let value : c.loop-i.rects.items ≡ strip c.args.columns c.args.memory c.args.items.now = grind (arith, common_steps) in
    subst (λ (rects : List Rect). IsStrip c.args.columns c.args.memory c.args.items.now rects) (sym value)
    (IsStrip-strip c.args.columns c.args.memory c.args.items.now c.requires.some c.requires.whole)
