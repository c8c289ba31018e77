use Rattle.w16_model.specs.OneObject.{after_discard}
use Rattle.w16_global.proofs.Parts.{given_ok, given_err}
use Rattle.w16_global.proofs.objects.Objects.discard.Goals as goal

pub returns-clause-ok : goal.returns-clause-ok
returns-clause-ok g c = given_ok c.self.invariant c.self.view_is after_discard c.discard-discarded.new.self c.discard-discarded.new.space.bytes.items c.args.id c.discard-discarded.ensures.bytes.contents _ c.discard-discarded.ensures.ok

pub returns-clause-err : goal.returns-clause-err
returns-clause-err g c = given_err c.self.invariant c.self.view_is after_discard c.discard-discarded.new.self
    c.discard-discarded.new.space.bytes.items c.args.id c.discard-discarded.ensures.bytes.contents
    _ c.discard-discarded.ensures.bytes.count c.discard-discarded.ensures.err
