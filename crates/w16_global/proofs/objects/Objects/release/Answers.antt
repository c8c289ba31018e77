use Rattle.w16_global.proofs.Parts.{released_shown}
use Rattle.w16_global.proofs.objects.Objects.release.Goals as goal

pub returns : goal.returns
returns g c = released_shown c.self.invariant c.self.view_is _ _ _ c.release.ensures.bytes.count c.release.ensures.bytes.contents c.release.ensures.steps
