use Rattle.std.proofs.Common.{Some, refl, sym, ap, ◌∙◌}
use Rattle.w16_arena.proofs.Viewed.{bytes_some, bytes_inside}
use Rattle.w16_arena.proofs.Arena.bytes_mut.Goals as goal

pub view_mut-requires : goal.view_mut-requires
view_mut-requires g c = bytes_inside c.args.arena.now.table c.is_sound.ensures _ c.requires.inside c.args.block.id c.args.block c.requires.known

pub returns : goal.returns
returns g c = (
  (refl, λ w. refl),
  record {
    value = bytes_some c.args.arena.now.table c.is_sound.ensures (g.S.Space.bytes _) c.requires.inside c.args.block.id c.args.block c.requires.known ∙ ap Some (sym c.view_mut.ensures.value);
    writes_back = tt;
  },
)
