use Rattle.w16_blocks.proofs
use proofs.MovedKept as M
use proofs.Common.{counted, List, add-one, ap, arith, subst, ℕ, ◌∙◌, Span, holes_of, AreSameOutsideBoth}
use proofs.Keeping.{lies_in, place_grained, unit_inside}
use proofs.Outside.{part_inside}
use Rattle.w16_blocks.proofs.Blocks.move_grown.Goals as goal

pub returns-clause-written : goal.returns-clause-written
returns-clause-written g c = c.put.ensures.written ∙ c.slide.ensures.written ∙ ap (λ w. counted w c.args.block.size) c.take.ensures.written

pub unit_of-from_unit-requires-clause-from : goal.unit_of-from_unit-requires-clause-from
unit_of-from_unit-requires-clause-from g c = (lies_in c.self.invariant.0 c.self.inside.slots.ok.0 c.self.view_is c.args.block.id c.requires.known).0

pub unit_of-from_unit-requires-clause-grained : goal.unit_of-from_unit-requires-clause-grained
unit_of-from_unit-requires-clause-grained g c = place_grained c.self.invariant.0 c.self.inside.slots.ok.0 c.self.view_is c.args.block.id c.requires.known

pub take-requires-clause-part : goal.take-requires-clause-part
take-requires-clause-part g c = M.part_new c.self.invariant.0 c.self.inside.slots.ok.0 c.self.view_is c.args.block c.requires.known c.requires.more c.requires.fits c.requires.apart

pub take-requires-clause-free : goal.take-requires-clause-free
take-requires-clause-free g c = M.free_new c.self.invariant.0 c.self.inside.slots.ok.0 c.self.view_is c.args.block c.requires.known c.requires.more c.requires.fits c.requires.apart

pub slide-requires-clause-source : goal.slide-requires-clause-source
slide-requires-clause-source g c = let long = c.take.ensures.bytes.long in let inside = M.source_in c.self.invariant.0 c.self.inside.slots.ok.0 c.self.view_is c.args.block c.requires.known c.requires.more c.requires.fits c.requires.apart c.requires.memory.inside in omega arith

pub put-requires-clause-kept : goal.put-requires-clause-kept
put-requires-clause-kept g c =
    g.met.H.Holes.stay _ _ _ c.take.ensures.kept
    (M.same_free c.self.invariant.0 c.self.inside.slots.ok.0 c.self.view_is c.args.block c.requires.known c.requires.more
    c.requires.fits c.requires.apart c.take.ensures.range c.take.ensures.holes
    (let long = c.take.ensures.bytes.long in let inside = c.requires.memory.inside in omega arith)
    c.slide.ensures.bytes)

pub put-requires-clause-part : goal.put-requires-clause-part
put-requires-clause-part g c = M.part_old c.self.invariant.0 c.self.inside.slots.ok.0 c.self.view_is c.args.block c.requires.known c.requires.more c.requires.fits c.requires.apart c.take.ensures.range c.take.ensures.holes

pub put-requires-clause-used : goal.put-requires-clause-used
put-requires-clause-used g c = M.used_old c.self.invariant.0 c.self.inside.slots.ok.0 c.self.view_is c.args.block c.requires.known c.requires.more c.requires.fits c.requires.apart c.take.ensures.range c.take.ensures.holes

pub put-requires-clause-inside : goal.put-requires-clause-inside
put-requires-clause-inside g c = part_inside (put-requires-clause-part g c) c.take.ensures.range c.self.invariant.0.ranged c.self.view_is c.requires.memory.inside c.take.ensures.bytes.long c.slide.ensures.length

pub index_mut-requires : goal.index_mut-requires
index_mut-requires g c = let lt = unit_inside c.self.invariant.0 c.self.inside.slots.ok.0 c.self.view_is c.args.block.id c.requires.known c.unit_of-from_unit.result c.unit_of-from_unit.ensures in let length_is = c.self.inside.begins.ok.0 in omega arith

pub overflow_sub-self-2 : goal.overflow_sub-self-2
overflow_sub-self-2 g c = M.counts_more c.self.invariant.0 c.self.inside.slots.ok.0 c.self.view_is c.args.block c.requires.known c.requires.more c.requires.fits c.requires.apart

pub invariant_of-self : goal.invariant_of-self
invariant_of-self g c = (
  M.BlocksInvariant-grown c.self.invariant.0 c.self.inside.slots.ok.0 c.self.view_is c.args.block c.requires.known c.requires.more c.requires.fits c.requires.apart
      c.take.ensures.range c.take.ensures.holes c.put.ensures.range c.put.ensures.holes _ _ c.unit_of-from_unit.ensures c.unit_of-to_unit.ensures (add-one _),
  c.self.invariant.1,
)

pub returns-clause-value : goal.returns-clause-value
returns-clause-value g c =
    M.layout_grown c.self.invariant.0 c.self.inside.slots.ok.0 c.self.view_is c.args.block c.requires.known c.requires.more c.requires.fits c.requires.apart
    c.take.ensures.range c.take.ensures.holes c.put.ensures.range c.put.ensures.holes c.unit_of-from_unit.result c.unit_of-to_unit.result c.unit_of-from_unit.ensures c.unit_of-to_unit.ensures (add-one _)

pub returns-clause-ordered : goal.returns-clause-ordered
returns-clause-ordered g c = (invariant_of-self g c).0.tables.ordered

pub returns-clause-contents : goal.returns-clause-contents
returns-clause-contents g c =
    M.come_too c.self.invariant.0 c.self.inside.slots.ok.0 c.self.view_is c.args.block c.requires.known c.requires.more c.requires.fits c.requires.apart
    c.take.ensures.range c.take.ensures.holes c.put.ensures.range c.put.ensures.holes c.requires.memory.inside c.take.ensures.bytes c.slide.ensures.bytes c.put.ensures.bytes

pub returns-clause-rest : goal.returns-clause-rest
returns-clause-rest g c = record {
  kept = subst (λ hs. g.H.Holes.are_in hs (g.S.Space.bytes c.put.new.space)) (invariant_of-self g c).0.between c.put.ensures.kept;
  bytes =
      subst (λ hs. AreSameOutsideBoth (holes_of c.args.self.now) hs (g.S.Space.bytes c.args.space.now) (g.S.Space.bytes c.put.new.space)) (invariant_of-self g c).0.between
      (M.others_same c.self.invariant.0 c.self.inside.slots.ok.0 c.self.view_is c.args.block c.requires.known c.requires.more c.requires.fits c.requires.apart
      c.take.ensures.range c.take.ensures.holes c.put.ensures.range c.put.ensures.holes c.requires.memory.inside c.take.ensures.bytes c.slide.ensures.bytes c.put.ensures.bytes);
  loans = c.put.ensures.lenders ∙ c.slide.ensures.lenders ∙ c.take.ensures.lenders;
}
