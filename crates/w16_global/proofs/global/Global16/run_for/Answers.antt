use Rattle.w16_global.proofs.{Common.◌∙◌, Common.sym, Common.false≢true, Owners.handles_shown, Slots.found_run, Slots.gets_other, Slots.lacks_other, Slots.lacks_run, Slots.no_run}
use Rattle.w16_global.proofs.global.Global16.run_for.Goals as goal

pub returns-then-may_leave-clause-gets : goal.returns-then-may_leave-clause-gets
returns-then-may_leave-clause-gets g c = gets_other c.args.self.now.handles _ _ c.args.options c.may_leave.result c.may_leave.ensures (λ free. false≢true (sym c.if-can_extend.false ∙ c.can_extend.ensures.value.1 free)) c.if-may_leave.true
    _ (found_run c.self.invariant (handles_shown c.self.view_is) _ _ c.find_run.ensures.found)

pub returns-then-may_leave-clause-lacks : goal.returns-then-may_leave-clause-lacks
returns-then-may_leave-clause-lacks g c = lacks_other _ _ _ _ c.may_leave.result c.may_leave.ensures (λ free. false≢true (sym c.if-can_extend.false ∙ c.can_extend.ensures.value.1 free))
    _ (no_run c.self.invariant (handles_shown c.self.view_is) _ _ c.requires.some c.find_run.ensures.none)

pub returns-else-may_leave-clause-lacks : goal.returns-else-may_leave-clause-lacks
returns-else-may_leave-clause-lacks g c = lacks_run _ _ _ _ c.may_leave.result c.may_leave.ensures (λ free. false≢true (sym c.if-can_extend.false ∙ c.can_extend.ensures.value.1 free))
    (λ leaves. absurd (false≢true (sym c.if-may_leave.false ∙ leaves)))
