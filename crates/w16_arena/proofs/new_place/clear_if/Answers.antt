use Rattle.w16_arena.proofs.Common.{arith, repeated, length-repeated, rest_put}
use Rattle.w16_arena.proofs.new_place.clear_if.Goals as goal

pub returns-then-asked-clause-rest : goal.returns-then-asked-clause-rest
returns-then-asked-clause-rest g c =
    let size = length-repeated c.args.size 0 in
    let inside = c.requires in
    rest_put c.args.at (repeated _ 0) c.fill.ensures.bytes (omega arith) (omega arith) (omega arith)
