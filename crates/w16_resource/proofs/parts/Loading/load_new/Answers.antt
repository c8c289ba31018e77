-- A new object is fetched, or goes again.
use Rattle.w16_resource.proofs.Common.{ap, is_long, ◌∙◌}
use Rattle.w16_resource.proofs.{Made.loads_first, Made.loads_none, Steps.no_slot}
use Rattle.w16_resource.proofs.parts.Loading.load_new.Goals as goal

pub returns-in_default-clause-step : goal.returns-in_default-clause-step
returns-in_default-clause-step g c = rw (← c.self.view_is, c.in_default.ensures.none.1) (λ r is first alike long.
    no_slot _ _ c.args.handle c.args.place r first (ap is_long long ∙ c.requires) c.in_default.ensures.none.0)

pub returns-in-Ok-clause-step : goal.returns-in-Ok-clause-step
returns-in-Ok-clause-step g c = rw (← c.self.view_is) (λ r is first alike long.
    loads_first is first alike long c.requires c.owned_for.ensures.owned c.in-Some.ensures.taken c.slot_of-slot.ensures.value c.put.ensures c.in-Ok.ensures.step c.fetch_resource.ensures.stays)

pub returns-in-Err-clause-step : goal.returns-in-Err-clause-step
returns-in-Err-clause-step g c = rw (← c.self.view_is, c.release_slot.ensures, c.remove.ensures) (λ r is first alike long.
    loads_none is first alike long c.requires c.owned_for.ensures.owned c.in-Some.ensures.taken c.slot_of-slot.ensures.value c.put.ensures
    (rw (← c.self-2.view_is) at c.in-Err.ensures.step) (rw (← c.self-2.view_is) at c.fetch_resource.ensures.stays) c.refusal.ensures.answer)
