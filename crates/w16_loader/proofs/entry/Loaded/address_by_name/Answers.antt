-- A name's entry is that of the tables as a load takes them.
use Rattle.w16_format.proofs.Lookups.{name_law}
use Rattle.w16_loader.proofs.entry.Loaded.address_by_name.Goals as goal

pub returns : goal.returns
returns g c = rw (← c.self.view_is, name_law c.self.inside.module c.args.name.now, ← c.ordinal_of-ordinal.ensures, ← c.entry.ensures, ← c.as_slice.ensures.value) c.address_of.ensures
