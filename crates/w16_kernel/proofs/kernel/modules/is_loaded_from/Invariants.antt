use Rattle.w16_kernel.proofs.Common.{Module, Some, false, module_at, ℕ, ◌≡◌, ◌<◌}
use Rattle.w16_store.specs.Names.{is_named}
use Rattle.w16_kernel.proofs.kernel.modules.is_loaded_from.Given as goal

abbrev pub invariant-loop-handle : goal.invariant-loop-handle
invariant-loop-handle g l = (passed : ℕ) (m : Module) → passed < l.handle → module_at l.registry passed ≡ Some m → is_named l.name m.file ≡ false
