use Rattle.w16_arena.proofs.{Common.◌∙◌, Shown.holes_shown, Shown.kept_set, Shown.steps_set}
use Rattle.w16_arena.proofs.Arena.set_locks.Goals as goal

pub invariant_of-self : goal.invariant_of-self
invariant_of-self g c = kept_set c.self.invariant c.self.view_is _ (record { kind = c.args.kind; locks = c.args.locks }) c.requires.kind c.requires.counted c.hold.ensures
    c.set_hold.ensures.none c.set_hold.ensures.some c.set_hold.ensures.ordered

pub returns-clause-steps : goal.returns-clause-steps
returns-clause-steps g c = steps_set c.self.invariant c.self.view_is _ (record { kind = c.args.kind; locks = c.args.locks }) c.requires.kind c.requires.counted c.hold.ensures
    c.set_hold.ensures.none c.set_hold.ensures.some c.set_hold.ensures.ordered

pub returns-clause-holes : goal.returns-clause-holes
returns-clause-holes g c = c.set_hold.ensures.holes ∙ holes_shown c.self.invariant c.self.view_is
