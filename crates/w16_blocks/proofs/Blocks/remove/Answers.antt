use Rattle.w16_blocks.proofs.Keeping as M
use Rattle.w16_blocks.proofs.Common.{List, ap, arith, subst, Span, AreSameOutside, Layout, Leaves}
use Rattle.w16_blocks.proofs.Blocks.remove.Goals as goal

pub unit_of-unit-requires-clause-from : goal.unit_of-unit-requires-clause-from
unit_of-unit-requires-clause-from g c = (M.lies_in c.self.invariant.0 c.self.inside.slots.ok.0 c.self.view_is c.args.id c.block_of-block.ensures.known).0

pub unit_of-unit-requires-clause-grained : goal.unit_of-unit-requires-clause-grained
unit_of-unit-requires-clause-grained g c = M.place_grained c.self.invariant.0 c.self.inside.slots.ok.0 c.self.view_is c.args.id c.block_of-block.ensures.known

pub put-requires-clause-part : goal.put-requires-clause-part
put-requires-clause-part g c = M.part_kept c.self.invariant.0 c.self.inside.slots.ok.0 c.self.view_is c.args.id c.block_of-block.ensures.known

pub put-requires-clause-used : goal.put-requires-clause-used
put-requires-clause-used g c = M.used_kept c.self.invariant.0 c.self.inside.slots.ok.0 c.self.view_is c.args.id c.block_of-block.ensures.known

pub put-requires-clause-inside : goal.put-requires-clause-inside
put-requires-clause-inside g c =
    let end = (M.lies_in c.self.invariant.0 c.self.inside.slots.ok.0 c.self.view_is c.args.id c.block_of-block.ensures.known).2 in
    let top = ap (λ l. l.hi) c.self.view_is in
    let inside = c.requires.memory.inside in omega arith

pub index_mut-requires-2 : goal.index_mut-requires-2
index_mut-requires-2 g c =
    let lt = M.unit_inside c.self.invariant.0 c.self.inside.slots.ok.0 c.self.view_is c.args.id c.block_of-block.ensures.known c.unit_of-unit.result c.unit_of-unit.ensures in let length_is = c.self.inside.begins.ok.0 in omega arith

pub overflow_add-self : goal.overflow_add-self
overflow_add-self g c =
    let le = M.with_size c.self.invariant.0 c.self.inside.slots.ok.0 c.self.view_is c.args.id c.block_of-block.ensures.known in let small = c.self.invariant.0.tables.ordered.small in record { fits = omega arith }

pub overflow_sub-self : goal.overflow_sub-self
overflow_sub-self g c =
    let le = M.pins_below c.self.invariant.0 c.self.inside.slots.ok.0 c.self.view_is c.args.id c.block_of-block.ensures.known in let one = c.pins_of.ensures in omega arith

pub invariant_of-self : goal.invariant_of-self
invariant_of-self g c = (M.BlocksInvariant-drop c.self.invariant.0 c.self.inside.slots.ok.0 c.self.view_is _ c.block_of-block.ensures.known _ c.unit_of-unit.ensures c.pins_of.ensures c.put.ensures.range c.put.ensures.holes, c.self.invariant.1)

pub returns-clause-value : goal.returns-clause-value
returns-clause-value g c = M.layout_dropped c.self.invariant.0 c.self.inside.slots.ok.0 c.self.view_is c.args.id c.block_of-block.ensures.known c.unit_of-unit.result c.unit_of-unit.ensures

pub returns-clause-ordered : goal.returns-clause-ordered
returns-clause-ordered g c = (invariant_of-self g c).0.tables.ordered

pub returns-clause-rest : goal.returns-clause-rest
returns-clause-rest g c =
    subst (λ hs. Leaves g.H.Holes.are_in g.S.Space.bytes g.S.Space.lenders hs (AreSameOutside hs) c.args.space.now c.put.new.space) (invariant_of-self g c).0.between
    (record { kept = c.put.ensures.kept; bytes = c.put.ensures.bytes; loans = c.put.ensures.lenders })
