use Rattle.w16_blocks.proofs.Keeping as M
use Rattle.w16_blocks.proofs.Common.{List, ap, arith, subst, Span, AreSameOutside, Layout, Leaves}
use Rattle.w16_blocks.proofs.Blocks.shrink.Goals as goal

pub put-requires-clause-part : goal.put-requires-clause-part
put-requires-clause-part g c = M.part_put c.self.invariant.0 c.self.inside.slots.ok.0 c.self.view_is c.args.block c.requires.known c.requires.fits c.requires.less

pub put-requires-clause-used : goal.put-requires-clause-used
put-requires-clause-used g c = M.used_put c.self.invariant.0 c.self.inside.slots.ok.0 c.self.view_is c.args.block c.requires.known c.requires.fits c.requires.less

pub put-requires-clause-inside : goal.put-requires-clause-inside
put-requires-clause-inside g c =
    let end = (M.lies_in c.self.invariant.0 c.self.inside.slots.ok.0 c.self.view_is c.args.block.id c.requires.known).2 in
    let top = ap (λ l. l.hi) c.self.view_is in
    let less = c.requires.less in
    let inside = c.requires.memory.inside in omega arith

pub overflow_add-self : goal.overflow_add-self
overflow_add-self g c =
    let le = M.with_size c.self.invariant.0 c.self.inside.slots.ok.0 c.self.view_is c.args.block.id c.requires.known in let small = c.self.invariant.0.tables.ordered.small in record { fits = omega arith }

pub invariant_of-self : goal.invariant_of-self
invariant_of-self g c =
    (M.BlocksInvariant-less c.self.invariant.0 c.self.inside.slots.ok.0 c.self.view_is _ c.requires.known c.requires.fits c.requires.less c.put.ensures.range c.put.ensures.holes, c.self.invariant.1)

pub returns-clause-value : goal.returns-clause-value
returns-clause-value g c = M.layout_sized c.self.invariant.0 c.self.inside.slots.ok.0 c.self.view_is c.args.block c.requires.known c.requires.fits

pub returns-clause-ordered : goal.returns-clause-ordered
returns-clause-ordered g c = (invariant_of-self g c).0.tables.ordered

pub returns-clause-rest : goal.returns-clause-rest
returns-clause-rest g c =
    subst (λ hs. Leaves g.H.Holes.are_in g.S.Space.bytes g.S.Space.lenders hs (AreSameOutside hs) c.args.space.now c.put.new.space) (invariant_of-self g c).0.between
    (record { kept = c.put.ensures.kept; bytes = c.put.ensures.bytes; loans = c.put.ensures.lenders })
