use Rattle.std.proofs.Common.{Some, sym, ap, ◌∙◌}
use Rattle.w16_arena.proofs.Viewed.{bytes_none, bytes_some, bytes_inside}
use Rattle.w16_arena.proofs.Arena.bytes.Goals as goal

pub returns-in_default : goal.returns-in_default
returns-in_default g c =
    bytes_none c.args.self.now.table c.block.ensures.sound (g.S.Space.bytes _) c.requires c.args.id (sym c.block.ensures.value ∙ c.in_default.is)

pub view-requires : goal.view-requires
view-requires g c =
    bytes_inside c.args.self.now.table c.block.ensures.sound _ c.requires c.args.id c.in-Some.block (sym c.block.ensures.value ∙ c.in-Some.is)

pub returns : goal.returns
returns g c =
    bytes_some c.args.self.now.table c.block.ensures.sound (g.S.Space.bytes _) c.requires c.args.id c.in-Some.block (sym c.block.ensures.value ∙ c.in-Some.is) ∙ ap Some (sym c.view.ensures)
