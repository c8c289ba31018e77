-- An ordinal's entry is that of the tables as a load takes them.
use Rattle.w16_format.proofs.Lookups.{entry_law}
use Rattle.w16_loader.proofs.entry.Loaded.address_by_ordinal.Goals as goal

pub returns : goal.returns
returns g c = rw (← c.self.view_is, entry_law c.self.inside.module c.args.ordinal, ← c.entry.ensures, ← c.as_slice.ensures.value) c.address_of.ensures
