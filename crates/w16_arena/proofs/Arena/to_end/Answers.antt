use Rattle.w16_arena.proofs.Shown.{holes_shown, kept_ended, steps_ended}
use Rattle.w16_arena.proofs.Arena.to_end.Goals as goal

pub invariant_of-self : goal.invariant_of-self
invariant_of-self g c = kept_ended c.self.invariant c.self.view_is c.args.id c.in_ok-check_in_order.ensures.listed c.args.end c.to_end.ensures.value

pub returns-clause-ok : goal.returns-clause-ok
returns-clause-ok g c = steps_ended c.self.invariant c.self.view_is _ c.in_ok-check_in_order.ensures.listed _ c.to_end.ensures.value c.in_ok-check_in_order.ensures.ok.heaps

pub returns-clause-holes : goal.returns-clause-holes
returns-clause-holes g c = holes_shown c.self.invariant c.self.view_is
