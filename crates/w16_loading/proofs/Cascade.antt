-- An unused module goes.
use Rattle.w16_loading.proofs
use proofs.Common as C
use proofs.Common.{◌≡◌, ℕ, Some, ap, is_member, LoadingWorld, Module, without_module}
use proofs.{Bound.world_without}
use Rattle.std.specs.FinMap as finmap

-- the world without a module that is there
abbrev pub gone_with : LoadingWorld → ℕ → Module → LoadingWorld
gone_with world handle m = let left = C.without_objects (λ q. is_member q m.slots) world in record left { modules = finmap.remove left.modules handle }

pub went : (world : LoadingWorld) (handle : ℕ) (m : Module) → finmap.get world.modules handle ≡ Some (C.Loaded m) → without_module world handle ≡ gone_with world handle m
went world handle m e = ap (λ p. world_without world handle (C.module_in p)) e
