-- A slot more is done.
use Rattle.w16_loader.proofs.Common.{◌≡◌, ◌<◌, ◌≤◌, length, drop, get_or, refl, ap, ◌∙◌, arith, drop_all, without_slot, Global}
use Rattle.w16_loader.proofs.Endings.{next_slot, no_slot}
use Rattle.w16_loader.proofs.ending.release_slots.Goals as goal

pub loop-slot-preserved : goal.loop-slot-preserved
loop-slot-preserved g c =
    let inside : c.loop-slot.slot-index < length c.args.slots.now = omega arith in
    let one : c.release_slot.new.global ≡ record c.loop-slot.global { handles = without_slot c.loop-slot.global.handles (get_or c.args.slots.now c.loop-slot.slot-index 0) } = c.release_slot.ensures in
    record {
      gone = λ rest. next_slot rest _ _ _ _ _ inside refl
          (ap (λ x. x.handles) one) ∙ c.loop-slot.invariant.gone rest;
      written = ap (λ x. x.written) one ∙ c.loop-slot.invariant.written;
    }

pub returns-clause-gone : goal.returns-clause-gone
returns-clause-gone g c = λ rest.
    let all : length c.args.slots.now ≤ c.loop-slot.slot-index = omega arith in
    no_slot rest _ _ (drop_all _ _ all) ∙ c.loop-slot.invariant.gone rest
