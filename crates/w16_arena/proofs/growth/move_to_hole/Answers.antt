use Rattle.w16_arena.proofs.Common.{◌==◌, arith, ne_eqb, Some, all_but, moved_same, ordered_without, but_for}
use Rattle.w16_arena.proofs.{Arranged.same_moved, ButFor.free_but, Grown.has_grown, Replaced.but_same}
use Rattle.std.proofs.lemmas.Bool.{cond-false}
use Rattle.w16_arena.proofs.growth.move_to_hole.Goals as goal

pub returns-clause-grown : goal.returns-clause-grown
returns-clause-grown g c =
    let l = c.args.blocks.now in let b = c.args.block in let e = c.move_to.ensures in let memory = g.S.Space.bytes _ in
    has_grown _ b l l _ memory memory _ _ (same_moved 0 _ memory (ordered_without (Some b.id) l e.before))
    (free_but b.id _ _ c.requires.free) e.bytes e.value e.laid e.others e.rest.bytes.long e.small
    (let none = moved_same (all_but b.id l.blocks) in let one = c.from.ensures in let own = cond-false (c.args.at == b.at) 0 b.size (ne_eqb c.args.at b.at e.elsewhere) in omega (arith, none, one, own))

pub returns-clause-still : goal.returns-clause-still
returns-clause-still g c = but_same c.args.blocks.now _ c.move_to.ensures.value
