-- One more load of what is there already.
use Rattle.w16_loader.proofs.Common as C
use Rattle.w16_loader.proofs.Common.{◌≡◌, ℕ, true, false, cond, Some, None, refl, ap, Named, Says}
use Rattle.w16_loading.specs.declared.LoadRefusal.TheVariants.{LoadedTwice, NoRoom}

module _ (old : C.LoadingWorld) (handle : ℕ) where
  -- all else is as by LoadLibrary
  pub once : (p : C.Option Named) → C.is_application (C.module_in p) ≡ false → C.used_again true old handle p ≡ C.used_again false old handle p
  once None e = refl
  once (Some (C.Loaded m)) e = ap (λ b. cond {A = C.Answer × C.LoadingWorld} b (C.refused_with LoadedTwice, old) (cond (C.nat_lt m.uses C.MOST_USES) (Says handle, C.after_use old handle m) (C.refused_with NoRoom, old))) e
  once (Some (C.BuiltIn name)) e = refl
