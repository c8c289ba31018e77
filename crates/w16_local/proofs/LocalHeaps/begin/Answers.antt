use Rattle.std.proofs.Common.{ap, arith, ◌∙◌}
use Rattle.std.specs.FinMap as finmap
use Rattle.w16_local.proofs.Beginning.{listed_reached, on_any, tables_reached}
use Rattle.w16_local.proofs.Locals.{listed_put, tables_set}
use Rattle.w16_local.proofs.LocalHeaps.begin.Goals as goal

pub invariant_of-self : goal.invariant_of-self
invariant_of-self g c = listed_reached c.self.inside.heaps.items c.reach.new.heaps.items c.reach.ensures.same c.self.inside.live.items c.self.invariant

pub invariant_of-self-2 : goal.invariant_of-self-2
invariant_of-self-2 g c =
    listed_put c.reach.new.heaps.items c.self.inside.live.items c.list_slot.new.live.items c.args.begun.slot
    c.in_ok-held.held (listed_reached c.self.inside.heaps.items c.reach.new.heaps.items c.reach.ensures.same
    c.self.inside.live.items c.self.invariant) c.list_slot.ensures.kept c.in_ok-list_slot.ensures.listed

pub index_mut-requires : goal.index_mut-requires
index_mut-requires g c = let long = c.in_ok-reach.ensures.long in omega (arith, long, c.reach.new.heaps.ok.0)

pub returns-clause-made : goal.returns-clause-made
returns-clause-made g c =
    tables_set _ c.reach.new.heaps.items c.args.begun.slot c.in_ok-held.held c.in_ok-reach.ensures.long
    ∙ ap (λ m. finmap.insert m c.args.begun.slot c.in_ok-held.held.value) (tables_reached _ c.self.inside.heaps.items c.reach.new.heaps.items c.reach.ensures.same ∙ c.self.view_is)
    ∙ ap (finmap.insert c.args.self.now c.args.begun.slot) (c.in_ok-held.ensures.ok ∙ c.in_ok-heap.ensures)

pub returns-in_err-reach-clause-refused : goal.returns-in_err-reach-clause-refused
returns-in_err-reach-clause-refused g c = on_any c.from_residual-in_err-reach.result _ (tables_reached _ c.self.inside.heaps.items c.reach.new.heaps.items c.reach.ensures.same ∙ c.self.view_is)

pub invariant_of-self-in_err-list_slot : goal.invariant_of-self-in_err-list_slot
invariant_of-self-in_err-list_slot g c q some = c.list_slot.ensures.kept q (listed_reached c.self.inside.heaps.items c.reach.new.heaps.items c.reach.ensures.same c.self.inside.live.items c.self.invariant q some)

pub returns-in_err-list_slot-clause-refused : goal.returns-in_err-list_slot-clause-refused
returns-in_err-list_slot-clause-refused g c = on_any c.from_residual-in_err-list_slot.result _ (tables_reached _ c.self.inside.heaps.items c.reach.new.heaps.items c.reach.ensures.same ∙ c.self.view_is)
