use Rattle.w16_global.proofs.{Owners.handles_shown, Slots.extends, Slots.ends}
use Rattle.w16_global.proofs.global.Global16.can_extend.Goals as goal

pub returns-else-count-own-clause-value : goal.returns-else-count-own-clause-value
returns-else-count-own-clause-value g c = extends c.self.invariant (handles_shown c.self.view_is) _ _ c.slots_at-own.result c.slots_at-own.ensures.value c.if-count-own.false _ c.is_free_run.ensures

pub returns-else-count-own-clause-few : goal.returns-else-count-own-clause-few
returns-else-count-own-clause-few g c = λ yes. ends c.self.invariant (handles_shown c.self.view_is) _ _ c.slots_at-own.result c.slots_at-own.ensures.value c.if-count-own.false (c.is_free_run.ensures.0 yes)
