use Rattle.std.proofs.Common.{◌≡◌, ◌+◌, None, replicate, arith, rules}
use Rattle.w16_model.specs.declared.TheConstants.{FIRST_SLOT}
use Rattle.w16_selectors.proofs.Represented.{SelectorsInvariant-replicate, AreTaken-none}
use Rattle.w16_selectors.proofs.Selectors.with_room.Goals as goal

pub invariant_of-result : goal.invariant_of-result
invariant_of-result g c =
    let few = c.requires in
    let descriptors : c.in_ok-descriptors.descriptors.items ≡ replicate (FIRST_SLOT + c.args.slots) None = search rules in
    let marks = c.in_ok-marks.ensures.items_if_clones_equal (λ y e. e) in
    rw (descriptors, marks) (SelectorsInvariant-replicate _ (omega arith) (omega arith), AreTaken-none _ (omega arith))
