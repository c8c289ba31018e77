-- The segments so far have objects.
use Rattle.w16_loader.proofs.Common.{◌≡◌, ◌<◌, All, map, zip, take, segment_in, LoadingWorld, with_handles, IsFit, Takes}
use Rattle.w16_loader.proofs.naming.put_slots.Given as goal

abbrev pub invariant-loop-i : goal.invariant-loop-i
invariant-loop-i g l = record {
  taken : (rest : LoadingWorld) → Takes (with_handles rest l.fn.global.handles) (zip (take l.i l.slots) (map segment_in l.module_file.segments)) (with_handles rest l.global.handles);
  few : All (λ q. q < 8192) (take l.i l.slots);
  fit : All IsFit (take l.i (map segment_in l.module_file.segments));
  written : l.global.written ≡ l.fn.global.written;
}
