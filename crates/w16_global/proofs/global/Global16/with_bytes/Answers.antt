use Rattle.w16_global.proofs.Lent.{lent_joined, lent_shown}
use Rattle.w16_global.proofs.global.Global16.with_bytes.Goals as goal

pub invariant_of-self : goal.invariant_of-self
invariant_of-self g c = let said = c.with_bytes.ensures in lent_joined c.self.invariant _ _ _ said.0 said.1

pub returns : goal.returns
returns g c = lent_shown c.self.inside.objects c.self.inside.attributes.items _ c.self.view_is _ _ c.with_bytes.new.self c.with_bytes.ensures
