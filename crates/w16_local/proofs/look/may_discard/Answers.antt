use Rattle.w16_local.proofs.Common.{None, Some, ap, cond, false, lt-ltb, le-ltb, sym, ◌∙◌, is_discardable}
use Rattle.w16_local.proofs.Looks.{discard_told}
use Rattle.w16_local.proofs.look.may_discard.Goals as goal

pub returns-in_default : goal.returns-in_default
returns-in_default g c bytes over = discard_told over c.args.id None (sym c.entry.ensures.value ∙ c.in_default.is)

pub returns-then-entry-gt0 : goal.returns-then-entry-gt0
returns-then-entry-gt0 g c bytes over = discard_told over c.args.id (Some c.in-Some.entry) (sym c.entry.ensures.value ∙ c.in-Some.is) ∙ ap (λ b. cond b false (is_discardable c.in-Some.entry.kind)) (lt-ltb 0 c.in-Some.entry.locks c.if-entry-gt0.true)

pub returns : goal.returns
returns g c bytes over = discard_told over c.args.id (Some c.in-Some.entry) (sym c.entry.ensures.value ∙ c.in-Some.is) ∙ ap (λ b. cond b false (is_discardable c.in-Some.entry.kind)) (le-ltb 0 c.in-Some.entry.locks c.if-entry-gt0.false) ∙ sym c.is_discardable.ensures
