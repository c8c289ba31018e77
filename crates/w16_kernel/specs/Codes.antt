-- By what a proof tells worlds apart, so that one can be the value of a model.
use Rattle.std.specs.{Prelude.ℕ, Prelude.refl, Coded.Coded, Coded.code_by, Coded.coded×, Coded.coded_ℕ, Ordering.nat_cmp, FinMap.FinMap}
use Rattle.w16_model.specs.Table.{Table}
use Rattle.w16_loading.specs.{Codes.world_code as loading_world_code, Modules.LoadingWorld}
use Rattle.w16_machine.specs.World.{World}
use Rattle.w16_local.specs.Codes.{tables_code}

abbrev pub world_code : Coded World
world_code = code_by (LoadingWorld × (FinMap nat_cmp Table × ℕ)) (coded× loading_world_code (coded× tables_code coded_ℕ))
    (λ w. (w.loading, (w.heaps, w.ds))) (λ p. record { loading = p.0; heaps = p.1.0; ds = p.1.1 }) (λ _. refl)
