use Rattle.w16_blocks.proofs.Later as M
use Rattle.w16_blocks.proofs.Common.{◌≡◌, ◌+◌, ◌-◌, ◌/◌, ◌++◌, List, length, replicate, arith, ap, ◌∙◌, subst, Span, joined, AreSameOutside, Leaves}
use Rattle.w16_blocks.proofs.Blocks.set_end.Goals as goal
use Rattle.w16_blocks.proofs.Blocks.set_end.Goals.{After-lengthen-then-from-end}

pub put-requires-clause-part : goal.put-requires-clause-part
put-requires-clause-part g c = M.part_later c.self.invariant.0 _ c.if-from-end.true c.set_end.ensures.range c.self.view_is c.requires.low c.requires.high

pub put-requires-clause-used : goal.put-requires-clause-used
put-requires-clause-used g c = M.used_later c.self.invariant.0 _ c.if-from-end.true c.set_end.ensures.range c.set_end.ensures.holes

pub lengthen-requires : goal.lengthen-requires
lengthen-requires g c = let r = c.requires.reserved in M.cells_fit c.self.invariant.0.tables.some c.cells_to-cells.ensures (omega arith) c.self.invariant.1.begins

pub lengthen-requires-then-from-end : goal.lengthen-requires-then-from-end
lengthen-requires-then-from-end g c = let r = c.requires.reserved in M.cells_fit c.self.invariant.0.tables.some c.cells_to-cells.ensures (omega arith) c.self.invariant.1.ends

module _ (g : _) (c : After-lengthen-then-from-end g) where
  longer :
      c.lengthen.new.table.items
      ≡ c.self.inside.begins.items ++ replicate ((c.args.end - c.self.inside.lo) / c.self.inside.grain + 1 - length c.self.inside.begins.items) 0
  longer = c.lengthen.ensures.items ∙ (λ i. c.self.inside.begins.items ++ replicate (c.cells_to-cells.ensures i - c.self.inside.begins.ok.0 i) 0)

pub invariant_of-self : goal.invariant_of-self
invariant_of-self g c = (
  M.BlocksInvariant-later c.self.invariant.0 c.args.end c.if-from-end.true (c.put.ensures.range ∙ c.set_end.ensures.range) (longer g (goal.at.invariant_of-self g c).After-lengthen-then-from-end) c.requires.reserved
      (c.put.ensures.holes ∙ ap (joined _ _) c.set_end.ensures.holes),
  M.AreReserved-more c.self.invariant.1 c.lengthen.ensures.capacity c.lengthen-then-from-end.ensures.capacity,
)

pub returns-then-from-end-clause-value : goal.returns-then-from-end-clause-value
returns-then-from-end-clause-value g c = M.layout_later c.self.invariant.0 c.args.end c.if-from-end.true (c.put.ensures.range ∙ c.set_end.ensures.range) (longer g (goal.at.returns-then-from-end-clause-value g c).After-lengthen-then-from-end) c.self.view_is

pub returns-then-from-end-clause-ordered : goal.returns-then-from-end-clause-ordered
returns-then-from-end-clause-ordered g c = (invariant_of-self g c).0.tables.ordered

pub returns-then-from-end-clause-rest : goal.returns-then-from-end-clause-rest
returns-then-from-end-clause-rest g c =
    subst (λ hs. Leaves g.H.Holes.are_in g.S.Space.bytes g.S.Space.lenders hs (AreSameOutside hs) c.args.space.now c.put.new.space) (invariant_of-self g c).0.between
    (record { kept = c.put.ensures.kept; bytes = c.put.ensures.bytes; loans = c.put.ensures.lenders })
