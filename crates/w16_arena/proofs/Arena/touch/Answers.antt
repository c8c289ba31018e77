use Rattle.w16_arena.proofs.Common.{refl, sym, ◌∙◌, Newest}
use Rattle.w16_arena.proofs.Shown.{holes_shown, kept_ended, steps_touched}
use Rattle.w16_arena.proofs.Arena.touch.Goals as goal

pub invariant_of-self : goal.invariant_of-self
invariant_of-self g c = kept_ended c.self.invariant c.self.view_is c.args.id (sym c.is_listed.ensures.value ∙ c.if-is_listed.true) Newest c.newest.ensures.value

pub returns-then-is_listed-clause-steps : goal.returns-then-is_listed-clause-steps
returns-then-is_listed-clause-steps g c = steps_touched c.self.invariant c.self.view_is _ (sym c.is_listed.ensures.value ∙ c.if-is_listed.true) Newest c.newest.ensures.value refl

pub returns-then-is_listed-clause-holes : goal.returns-then-is_listed-clause-holes
returns-then-is_listed-clause-holes g c = holes_shown c.self.invariant c.self.view_is
