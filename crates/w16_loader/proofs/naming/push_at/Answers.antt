-- The vector at the place gets the number, the others stay.
use Rattle.w16_loader.proofs.Imports.{pushed_here, pushed_other}
use Rattle.w16_loader.proofs.naming.push_at.Goals as goal

pub returns-in_ok-push-clause-here : goal.returns-in_ok-push-clause-here
returns-in_ok-push-clause-here g c = λ lt. pushed_here (λ v. v.items) _ _ _ _ c.index_mut.result.now lt c.index_mut.ensures.value c.in_ok-push.ensures.items

pub returns-in_ok-push-clause-others : goal.returns-in_ok-push-clause-others
returns-in_ok-push-clause-others g c = λ other d. pushed_other (λ v. v.items) _ _ _ other d
