use Rattle.std.proofs.Common.{◌∙◌}
use Rattle.w16_global.proofs.Parts.{entry_shown, is_heap_shown}
use Rattle.w16_global.proofs.objects.Objects.entry.Goals as goal

pub returns-clause-value : goal.returns-clause-value
returns-clause-value g c = c.entry.ensures.value ∙ entry_shown c.self.invariant c.self.view_is _

pub returns-clause-sound : goal.returns-clause-sound
returns-clause-sound g c = is_heap_shown c.self.invariant c.self.view_is
