use Rattle.w16_global.proofs.Common.{refl}
use Rattle.w16_global.proofs.{Access.read_after, Access.there_after, Access.write_after, Owners.handles_shown}
use Rattle.w16_global.proofs.global.Global16.far_place.Goals as goal

pub returns-clause-read : goal.returns-clause-read
returns-clause-read g c = read_after c.args.self.now.handles c.args.write _ _ _ _ _ c.in_ok-reached.ensures.ok (handles_shown c.touch.ensures)

pub returns-clause-written : goal.returns-clause-written
returns-clause-written g c = write_after c.args.self.now.handles _ c.args.selector c.args.offset _ _ _ c.in_ok-reached.ensures.ok (handles_shown c.touch.ensures)

pub returns-clause-there : goal.returns-clause-there
returns-clause-there g c = (there_after c.args.self.now.handles c.args.write c.args.selector c.args.offset _ _ _ c.in_ok-reached.ensures.ok (handles_shown c.touch.ensures), refl)
