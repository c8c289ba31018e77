use Rattle.w16_global.proofs.{Common.arith, Common.sym, Common.◌∙◌, Ordered.ordered_below}
use Rattle.w16_global.proofs.global.Global16.in_order.Goals as goal

pub overflow_cast-slot : goal.overflow_cast-slot
overflow_cast-slot g c = let below = ordered_below _ c.self.invariant.handles c.args.i c.in_ok-slot.slot (sym c.in_order.ensures ∙ c.in_ok-slot.was) in omega (arith, below)

pub handle_of-requires : goal.handle_of-requires
handle_of-requires g c = ordered_below _ c.self.invariant.handles c.args.i _ (sym c.in_order.ensures ∙ c.in_ok-slot.was)
