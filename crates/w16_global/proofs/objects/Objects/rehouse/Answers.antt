use Rattle.w16_global.proofs.Parts.{entry_known, no_entry_known}
use Rattle.w16_global.proofs.objects.Objects.rehouse.Goals as goal

pub rename-requires-clause-known : goal.rename-requires-clause-known
rename-requires-clause-known g c = entry_known c.self.invariant c.self.view_is c.args.id c.requires.object

pub rename-requires-clause-free : goal.rename-requires-clause-free
rename-requires-clause-free g c = no_entry_known c.self.invariant c.self.view_is c.args.to c.requires.free
