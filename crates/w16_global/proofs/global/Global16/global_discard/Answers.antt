use Rattle.w16_global.proofs.Resizing.{discard_written}
use Rattle.w16_global.proofs.global.Global16.global_discard.Goals as goal

pub returns-clause-written : goal.returns-clause-written
returns-clause-written g c = discard_written c.args.self.now.handles c.args.handle c.change_object.result c.change_object.new.self.handles c.change_object.ensures.step _ _ c.change_object.ensures.written
