-- The table's entries are the map's.
use Rattle.w16_loader.proofs.Registered.{entries_are}
use Rattle.w16_loader.proofs.registry.Registry.handle_tagged.Goals as goal

pub returns : goal.returns
returns g c = rw (← c.self.view_is, entries_are c.self.inside.entries) c.first_named.ensures
