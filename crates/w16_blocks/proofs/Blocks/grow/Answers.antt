use Rattle.w16_blocks.proofs.Keeping as M
use Rattle.w16_blocks.proofs.Common.{List, subst, Span, AreSameOutside, holes_of, ap, ◌∙◌}
use Rattle.w16_blocks.proofs.Blocks.grow.Goals as goal

pub take-requires-clause-part : goal.take-requires-clause-part
take-requires-clause-part g c = M.part_taken c.self.invariant.0 c.self.inside.slots.ok.0 c.self.view_is c.args.block c.requires.known c.requires.fits c.requires.more

pub take-requires-clause-free : goal.take-requires-clause-free
take-requires-clause-free g c = M.free_taken c.self.invariant.0 c.self.inside.slots.ok.0 c.self.view_is c.args.block c.requires.known c.requires.fits c.requires.more

pub overflow_sub-self : goal.overflow_sub-self
overflow_sub-self g c = M.counts_more c.self.invariant.0 c.self.inside.slots.ok.0 c.self.view_is c.args.block c.requires.known c.requires.fits c.requires.more

pub invariant_of-self : goal.invariant_of-self
invariant_of-self g c =
    (M.BlocksInvariant-more c.self.invariant.0 c.self.inside.slots.ok.0 c.self.view_is _ c.requires.known c.requires.fits c.requires.more c.take.ensures.range c.take.ensures.holes, c.self.invariant.1)

pub returns-clause-value : goal.returns-clause-value
returns-clause-value g c = M.layout_sized c.self.invariant.0 c.self.inside.slots.ok.0 c.self.view_is c.args.block c.requires.known c.requires.fits

pub returns-clause-ordered : goal.returns-clause-ordered
returns-clause-ordered g c = (invariant_of-self g c).0.tables.ordered

pub returns-clause-rest : goal.returns-clause-rest
returns-clause-rest g c = record {
  kept = subst (λ hs. g.H.Holes.are_in hs (g.S.Space.bytes c.take.new.space)) (invariant_of-self g c).0.between c.take.ensures.kept;
  bytes = subst (λ hs. AreSameOutside hs (g.S.Space.bytes c.args.space.now) (g.S.Space.bytes c.take.new.space)) (c.self.invariant.0.between ∙ ap holes_of c.self.view_is) c.take.ensures.bytes;
  loans = c.take.ensures.lenders;
}
