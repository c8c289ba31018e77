-- The slab has an entry for each key.
use Rattle.std.proofs.Common.{sym, ◌∙◌}
use Rattle.w16_loader.proofs.Keyed.{counted}
use Rattle.w16_loader.proofs.places.Places.taken.Goals as goal

pub returns : goal.returns
returns g c = rw (← c.self.view_is) (c.len.ensures ∙ c.self.invariant.0.many ∙ sym (counted c.self.inside.entries c.self.inside.keys.items c.self.invariant.0.there))
