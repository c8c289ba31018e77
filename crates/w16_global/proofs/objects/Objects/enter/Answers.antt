use Rattle.w16_global.proofs.Parts.{no_entry_known}
use Rattle.w16_global.proofs.objects.Objects.enter.Goals as goal

pub enter-requires-clause-free : goal.enter-requires-clause-free
enter-requires-clause-free g c = no_entry_known c.self.invariant c.self.view_is c.args.id c.requires.free
