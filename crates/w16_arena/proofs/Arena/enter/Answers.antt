use Rattle.w16_arena.proofs.Shown.{holes_shown, kept_entered, steps_entered}
use Rattle.w16_arena.proofs.Arena.enter.Goals as goal

pub invariant_of-self : goal.invariant_of-self
invariant_of-self g c = kept_entered c.self.invariant c.self.view_is _ _ c.requires.id c.requires.free

pub returns-clause-steps : goal.returns-clause-steps
returns-clause-steps g c = steps_entered c.self.invariant c.self.view_is _ _ c.requires.id c.requires.free

pub returns-clause-holes : goal.returns-clause-holes
returns-clause-holes g c = holes_shown c.self.invariant c.self.view_is
