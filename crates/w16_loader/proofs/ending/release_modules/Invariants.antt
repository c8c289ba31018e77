-- What the modules that are left leave when they go, all leave from the start.
use Rattle.w16_loader.proofs.Common.{◌≡◌, drop, fold, LoadingWorld, with_handles, without_module, in_world}
use Rattle.w16_loader.proofs.ending.release_modules.Given as goal

abbrev pub invariant-loop-handle : goal.invariant-loop-handle
invariant-loop-handle g l = record {
  gone : (rest : LoadingWorld) → fold without_module (in_world (with_handles rest l.global.handles) l.registry) (drop l.handle-index l.handles) ≡ fold without_module (in_world (with_handles rest l.initial.global.handles) l.initial.registry) l.handles;
  written : l.global.written ≡ l.initial.global.written;
}
