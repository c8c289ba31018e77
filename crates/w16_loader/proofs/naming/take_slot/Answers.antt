-- What a module takes is an object of the segment's kind and size.
use Rattle.w16_loader.proofs.Common.{ap, segment_in}
use Rattle.w16_loader.proofs.NameSteps.{fits, slot_free, segment_taken}
use Rattle.w16_loader.proofs.naming.take_slot.Goals as goal

pub take_owned-requires : goal.take_owned-requires
take_owned-requires g c = let fit = fits c.args.segment c.requires in record { some = fit.some; rounded = fit.rounded; small = fit.small }

pub returns-in-Some-clause-free : goal.returns-in-Some-clause-free
returns-in-Some-clause-free g c = slot_free c.args.global.now.handles c.take_owned.new.self.handles c.segment_kind.result _ c.in-Some.handle _ (segment_in c.args.segment) c.in-Some.ensures.taken c.slot_of.ensures.value

pub returns-in-Some-clause-taken : goal.returns-in-Some-clause-taken
returns-in-Some-clause-taken g c = segment_taken _ _ c.segment_kind.result _ c.in-Some.handle _ (segment_in c.args.segment) c.in-Some.ensures.taken c.slot_of.ensures.value
    c.segment_kind.ensures (ap (λ b. record { size = c.args.segment.size; code = b }) c.is_code.ensures)
