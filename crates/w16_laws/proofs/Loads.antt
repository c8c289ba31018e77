-- Calls on handles keep every world, the requests of a load keep what isn't its own, and modules of a load are bound alike, bound or not yet.
use Rattle.w16_loading.proofs.Common as C
use Rattle.std.specs.FinMap as finmap
use Rattle.w16_loading.proofs.Common.{sym, subst, ◌≡◌, ℕ, inl, inr, List, [], ◌∷◌, Some, refl, ap, ◌∙◌, Given, given, bound, without_values}
use Rattle.w16_loading.proofs.{CallsKept.handles_world, Fillings.any_kept, Values.values_law}
use Rattle.w16_laws.specs.Loading.{CallsKeepWorldsLaw, FillsLaw, BoundAlikeLaw}
use Rattle.w16_loading.specs.Answers.{told}

pub calls_keep_worlds_law : CallsKeepWorldsLaw
calls_keep_worlds_law old new command reply is f = subst C.IsLoadingWorld (sym f.2) (handles_world old is command reply f.0 f.1)

-- A load's requests keep what isn't its own.
pub fills_law : (honest : Type 0) → FillsLaw honest
fills_law honest format files before after = any_kept (told _ format files _ _)

-- modules put with other values
put_alike : (a b : Given → C.Module) → ((g : Given) → without_values (Some (C.Loaded (a g))) ≡ without_values (Some (C.Loaded (b g)))) → (gs : List Given) (x y : C.Modules) → ((handle : ℕ) → without_values (finmap.get x handle) ≡ without_values (finmap.get y handle))
    → (handle : ℕ) → without_values (finmap.get (C.with_modules a gs x) handle) ≡ without_values (finmap.get (C.with_modules b gs y) handle)
put_alike a b same [] x y alike handle = alike _
put_alike a b same (g ∷ gs) x y alike handle = put_alike a b same gs _ _ (λ h. elim (C.cases_eq h g.handle) [
  | inl e ↦ ap without_values (C.inserted_here x _ _ h e) ∙ same g ∙ sym (ap without_values (C.inserted_here y _ _ h e))
  | inr d ↦ ap without_values (C.inserted_other x _ _ h d) ∙ alike h ∙ sym (ap without_values (C.inserted_other y _ _ h d))
]) _

pub bound_alike_law : BoundAlikeLaw
bound_alike_law old closure choice m target = values_law _ _ m target
    (put_alike (bound old closure choice) (C.unbound closure choice) (λ g. refl) (given closure choice) old.modules _ (λ handle. refl))
