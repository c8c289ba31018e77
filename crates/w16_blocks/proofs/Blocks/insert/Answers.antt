use Rattle.w16_blocks.proofs.Common.{List, add-one, arith, subst, Span, AreSameOutside, holes_of, ap, ◌∙◌}
use Rattle.w16_blocks.proofs.Keeping.{free_for, size_below, pins_room, layout_added, BlocksInvariant-add}
use Rattle.w16_blocks.proofs.Blocks.insert.Goals as goal

pub take-requires-clause-free : goal.take-requires-clause-free
take-requires-clause-free g c = free_for c.self.invariant.0 c.self.inside.slots.ok.0 c.self.view_is c.requires.fits

pub overflow_sub-self : goal.overflow_sub-self
overflow_sub-self g c = size_below c.self.invariant.0 c.self.inside.slots.ok.0 c.self.view_is c.requires.fits

pub overflow_add-self : goal.overflow_add-self
overflow_add-self g c =
    let lt = pins_room c.self.invariant.0 c.self.inside.slots.ok.0 c.self.view_is c.requires.fits in let one = c.pins_of.ensures in record { fits = omega arith }

pub invariant_of-self : goal.invariant_of-self
invariant_of-self g c =
    (BlocksInvariant-add c.self.invariant.0 c.self.inside.slots.ok.0 c.self.view_is c.requires.fits _ c.unit_of-unit.ensures (add-one _) c.pins_of.ensures c.take.ensures.range c.take.ensures.holes, c.self.invariant.1)

pub returns-clause-value : goal.returns-clause-value
returns-clause-value g c = layout_added c.self.invariant.0 c.self.inside.slots.ok.0 c.self.view_is c.requires.fits c.unit_of-unit.result c.unit_of-unit.ensures (add-one _)

pub returns-clause-ordered : goal.returns-clause-ordered
returns-clause-ordered g c = (invariant_of-self g c).0.tables.ordered

pub returns-clause-rest : goal.returns-clause-rest
returns-clause-rest g c = record {
  kept = subst (λ hs. g.H.Holes.are_in hs (g.S.Space.bytes c.take.new.space)) (invariant_of-self g c).0.between c.take.ensures.kept;
  bytes = subst (λ hs. AreSameOutside hs (g.S.Space.bytes c.args.space.now) (g.S.Space.bytes c.take.new.space)) (c.self.invariant.0.between ∙ ap holes_of c.self.view_is) c.take.ensures.bytes;
  loans = c.take.ensures.lenders;
}
