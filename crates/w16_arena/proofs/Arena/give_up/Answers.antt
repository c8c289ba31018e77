use Rattle.w16_arena.proofs.Common.{◌≡◌, Entry}
use Rattle.w16_arena.proofs.Shown.{entry_such, kept_given, steps_given}
use Rattle.w16_arena.proofs.Arena.give_up.Goals as goal

pub invariant_of-self : goal.invariant_of-self
invariant_of-self g c = let e = entry_such c.self.invariant c.self.view_is c.args.id (λ e. e.locks ≡ 0) c.requires.unlocked in
    kept_given c.self.invariant c.self.view_is _ e.2 c.remove_block.ensures.value c.remove_block.ensures.ordered c.remove.ensures.value e.0 e.1 e.3

pub returns-clause-steps : goal.returns-clause-steps
returns-clause-steps g c = let e = entry_such c.self.invariant c.self.view_is _ (λ e. e.locks ≡ 0) c.requires.unlocked in
    steps_given c.self.invariant c.self.view_is _ e.2 c.remove_block.ensures.value c.remove_block.ensures.ordered c.remove.ensures.value e.0 e.1 e.3
