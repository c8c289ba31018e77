-- What goes with the slots that are left goes with all from the start.
use Rattle.w16_loader.proofs.Common.{◌≡◌, drop, is_member, LoadingWorld, with_handles, without_objects}
use Rattle.w16_loader.proofs.ending.release_slots.Given as goal

abbrev pub invariant-loop-slot : goal.invariant-loop-slot
invariant-loop-slot g l = record {
  gone : (rest : LoadingWorld) → without_objects (λ q. is_member q (drop l.slot-index l.slots)) (with_handles rest l.global.handles) ≡ without_objects (λ q. is_member q l.slots) (with_handles rest l.initial.global.handles);
  written : l.global.written ≡ l.initial.global.written;
}
