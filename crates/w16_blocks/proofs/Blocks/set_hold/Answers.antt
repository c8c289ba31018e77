use Rattle.w16_blocks.proofs.Common.{◌≡◌, IfSome, Option, set, arith, sym, subst, Block, replaced, layout_in}
use Rattle.w16_blocks.proofs.Keeping.{pins_below, pins_other, layout_held, BlocksInvariant-held}
use Rattle.w16_blocks.proofs.Blocks.set_hold.Goals as goal

pub overflow_sub-self : goal.overflow_sub-self
overflow_sub-self g c =
    let le = pins_below c.self.invariant.0 c.self.inside.slots.ok.0 c.self.view_is c.args.id c.block_of-block.ensures.known in let old = c.pins_of.ensures in omega arith

pub overflow_add-self : goal.overflow_add-self
overflow_add-self g c =
    let lt = pins_other c.self.invariant.0 c.self.inside.slots.ok.0 c.self.view_is c.args.id c.block_of-block.ensures.known c.args.hold in
    let old = c.pins_of.ensures in let new = c.pins_of-2.ensures in record { fits = omega arith }

pub invariant_of-self : goal.invariant_of-self
invariant_of-self g c = (
  BlocksInvariant-held c.self.invariant.0 c.self.inside.slots.ok.0 c.self.view_is c.args.id c.requires.id c.block_of-block.ensures.known c.args.hold
      (let le = pins_below c.self.invariant.0 c.self.inside.slots.ok.0 c.self.view_is c.args.id c.block_of-block.ensures.known in let old = c.pins_of.ensures in let new = c.pins_of-2.ensures in omega arith),
  c.self.invariant.1,
)

pub returns-clause-value : goal.returns-clause-value
returns-clause-value g c =
    let s = c.self.inside in let l = c.args.self.now in
    let Told : Block → Type 0 = λ b. layout_in _ s.lo s.hi s.grain (set s.slots.items c.args.id (record c.block_of-block.result { hold = c.args.hold })) s.begins.items ≡ record l { blocks = replaced (record b { hold = c.args.hold }) l.blocks } in
    subst (λ o. IfSome o Told) (sym c.block_of-block.ensures.known) (layout_held c.self.invariant.0 s.slots.ok.0 c.self.view_is c.args.id c.requires.id c.block_of-block.ensures.known c.args.hold)

pub returns-clause-ordered : goal.returns-clause-ordered
returns-clause-ordered g c = (invariant_of-self g c).0.tables.ordered
