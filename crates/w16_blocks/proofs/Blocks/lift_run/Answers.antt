use Rattle.w16_blocks.proofs
use proofs.Common as C
use proofs.RunKept as M
use proofs.Common.{ℕ, List, map, ◌≡◌, ◌∙◌, ◌-◌, ap, arith, subst, Block, Span, slid_with}
use proofs.{RunHoles.way_up, Outside.part_inside}
use Rattle.w16_blocks.proofs.Blocks.lift_run.Given as Given
use Rattle.w16_blocks.proofs.Blocks.lift_run.Goals as goal

pub take-requires-clause-part : goal.take-requires-clause-part
take-requires-clause-part g c = M.part_entered c.self.invariant.0 c.self.view_is c.requires.run c.requires.some (way_up _ _ c.requires.run c.requires.some _ _ c.requires.up.0 c.requires.up.1 c.requires.bare c.requires.grained c.min-apart.ensures)

pub take-requires-clause-free : goal.take-requires-clause-free
take-requires-clause-free g c = M.free_entered c.self.invariant.0 c.self.view_is c.requires.run c.requires.some (way_up _ _ c.requires.run c.requires.some _ _ c.requires.up.0 c.requires.up.1 c.requires.bare c.requires.grained c.min-apart.ensures)

pub put-requires-clause-kept : goal.put-requires-clause-kept
put-requires-clause-kept g c =
    g.met.H.Holes.stay _ _ _ c.take.ensures.kept
    (M.same_free c.self.invariant.0 c.self.view_is c.requires.run c.requires.some
    (way_up _ _ c.requires.run c.requires.some _ _ c.requires.up.0
    c.requires.up.1 c.requires.bare c.requires.grained c.min-apart.ensures) c.take.ensures.range c.take.ensures.holes
    (let long = c.take.ensures.bytes.long in let inside = c.requires.memory.inside in omega arith) c.slide.ensures.bytes)

pub put-requires-clause-part : goal.put-requires-clause-part
put-requires-clause-part g c = M.part_left c.self.invariant.0 c.self.view_is c.requires.run c.requires.some
    (way_up _ _ c.requires.run c.requires.some _ _ c.requires.up.0
    c.requires.up.1 c.requires.bare c.requires.grained c.min-apart.ensures) c.take.ensures.range c.take.ensures.holes

pub put-requires-clause-used : goal.put-requires-clause-used
put-requires-clause-used g c = M.used_left c.self.invariant.0 c.self.view_is c.requires.run c.requires.some
    (way_up _ _ c.requires.run c.requires.some _ _ c.requires.up.0
    c.requires.up.1 c.requires.bare c.requires.grained c.min-apart.ensures) c.take.ensures.range c.take.ensures.holes

pub put-requires-clause-inside : goal.put-requires-clause-inside
put-requires-clause-inside g c = part_inside (put-requires-clause-part g c) c.take.ensures.range c.self.invariant.0.ranged c.self.view_is c.requires.memory.inside c.take.ensures.bytes.long c.slide.ensures.length

-- what the tables are afterwards
module _ (g : Given.Over) (c : goal.After-self-3-1 g) where
  abbrev slots : List Block
  slots = (C.with_items c.self.inside.slots c.retag_run_up.new.slots).items

  abbrev cells : List ℕ
  cells = (C.with_items c.self.inside.begins c.retag_run_up.new.begins).items

  tables : C.AreTables c.self.inside.slots.len c.self.inside.lo c.self.inside.hi c.self.inside.grain slots cells
  tables = M.tables_back c.self.inside.slots c.self.inside.begins c.deref_mut.result.now c.retag_run_up.new.slots
      c.deref_mut-2.result.now c.retag_run_up.new.begins c.deref_mut.ensures.value c.deref_mut-2.ensures.value
      c.retag_run_up.ensures.slots c.retag_run_up.ensures.begins c.retag_run_up.ensures.tables

  blocks : C.blocks_in slots cells ≡ map (slid_with c.args.run c.args.to) (C.blocks_in c.self.inside.slots.items c.self.inside.begins.items)
  blocks = M.blocks_back c.self.inside.slots c.self.inside.begins c.deref_mut.result.now c.retag_run_up.new.slots
      c.deref_mut-2.result.now c.retag_run_up.new.begins c.deref_mut.ensures.value c.deref_mut-2.ensures.value
      c.retag_run_up.ensures.slots c.retag_run_up.ensures.begins (slid_with c.args.run c.args.to)
      c.retag_run_up.ensures.blocks

pub invariant_of-self : goal.invariant_of-self
invariant_of-self g c = (
  M.BlocksInvariant-run c.self.invariant.0 c.self.view_is c.requires.run c.requires.some
      (way_up _ _ c.requires.run c.requires.some _ _ c.requires.up.0
      c.requires.up.1 c.requires.bare c.requires.grained c.min-apart.ensures) c.take.ensures.range c.take.ensures.holes
      c.put.ensures.range c.put.ensures.holes (tables g c) (blocks g c),
  c.self.invariant.1,
)

pub returns-clause-contents : goal.returns-clause-contents
returns-clause-contents g c =
    M.come_too c.self.invariant.0 c.self.view_is c.requires.run c.requires.some
    (way_up _ _ c.requires.run c.requires.some _ _ c.requires.up.0
    c.requires.up.1 c.requires.bare c.requires.grained c.min-apart.ensures) c.take.ensures.range c.take.ensures.holes
    c.put.ensures.range c.put.ensures.holes (tables g c) (blocks g c) c.requires.memory.inside c.take.ensures.bytes c.slide.ensures.bytes c.put.ensures.bytes

pub returns-clause-value : goal.returns-clause-value
returns-clause-value g c =
    let s = c.self.inside in
    (λ i. record (C.layout_in s.slots.len s.lo s.hi s.grain s.slots.items s.begins.items) { blocks = blocks g c i }) ∙ ap (λ (l : C.Layout). record l { blocks = map (slid_with c.args.run c.args.to) l.blocks }) c.self.view_is

pub returns-clause-ordered : goal.returns-clause-ordered
returns-clause-ordered g c = (invariant_of-self g c).0.tables.ordered

pub returns-clause-written : goal.returns-clause-written
returns-clause-written g c = c.put.ensures.written ∙ c.slide.ensures.written ∙ ap (λ w. C.counted w (c.args.run.to - c.args.run.from)) c.take.ensures.written

pub returns-clause-rest : goal.returns-clause-rest
returns-clause-rest g c = record {
  kept = subst (λ hs. g.H.Holes.are_in hs (g.S.Space.bytes c.put.new.space)) (invariant_of-self g c).0.between c.put.ensures.kept;
  bytes =
      subst (λ hs. C.AreSameBut c.args.to (c.args.run.to - c.args.run.from) (C.holes_of c.args.self.now) hs (g.S.Space.bytes c.args.space.now) (g.S.Space.bytes c.put.new.space)) (invariant_of-self g c).0.between
      (M.others_same c.self.invariant.0 c.self.view_is c.requires.run c.requires.some
      (way_up _ _ c.requires.run c.requires.some _ _ c.requires.up.0
      c.requires.up.1 c.requires.bare c.requires.grained c.min-apart.ensures) c.take.ensures.range
      c.take.ensures.holes
      c.put.ensures.range c.put.ensures.holes (tables g c) (blocks g c) c.requires.memory.inside c.take.ensures.bytes c.slide.ensures.bytes c.put.ensures.bytes);
  loans = c.put.ensures.lenders ∙ c.slide.ensures.lenders ∙ c.take.ensures.lenders;
}
