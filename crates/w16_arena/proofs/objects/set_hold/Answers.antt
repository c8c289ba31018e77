use Rattle.w16_arena.proofs.Common.{is_some, refl, sym, ap, ◌∙◌, block_with}
use Rattle.w16_arena.proofs.Shown.{holes_held}
use Rattle.w16_arena.proofs.objects.set_hold.Goals as goal

pub returns-then-is_some-clause-holes : goal.returns-then-is_some-clause-holes
returns-then-is_some-clause-holes g c =
    holes_held c.args.blocks.now c.set_hold.new.self c.args.id c.args.hold c.find.ensures.ordered c.set_hold.ensures.ordered _ refl
    (ap is_some (sym c.find.ensures.value) ∙ sym c.is_some.ensures ∙ c.if-is_some.true) c.set_hold.ensures.value
