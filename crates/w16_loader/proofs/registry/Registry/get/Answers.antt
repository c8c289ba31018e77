-- The table's entry is the map's.
use Rattle.w16_loader.proofs.Registered.{named_at, named_copied}
use Rattle.w16_loader.proofs.registry.Registry.get.Goals as goal

pub returns : goal.returns
returns g c = rw (← c.self.view_is, named_at c.self.inside.entries c.args.handle, ← c.from.ensures, ← c.get.ensures) (named_copied _)
