-- Questions on modules.
use Rattle.w16_kernel.proofs.Common.{IfNone, IfSome, IsLoadingWorld, LoadingWorld, None, Option, Some, arith, inl, inr, refl, ℕ, ◌+◌, ◌<◌, ◌≡◌, ◌≤◌}
use Rattle.std.specs.Prelude.{IsSome}
use Rattle.std.proofs.lemmas.Bool.{cases_lt}
use Rattle.w16_loading.specs.declared.TheConstants.{FIRST_MODULE, MOST_MODULES}
use Rattle.w16_kernel.specs.Asked.{IsFirstModule}
use Rattle.std.specs.FinMap as finmap

-- what would have to be, isn't there
none_such : {X P : Type 0} (o : Option X) → IfSome o (λ _. P) → (P → ⊥) → o ≡ None
none_such None is not = refl
none_such (Some x) is not = absurd (not is)

-- no handle past the last names anything
pub first_module : (world : LoadingWorld) → IsLoadingWorld world → (from : ℕ) (first : Option ℕ) → IfSome first (λ f. (from ≤ f) × IsSome (finmap.get world.modules f))
    → IfSome first (λ f. (handle : ℕ) → from ≤ handle → handle < f → finmap.get world.modules handle ≡ None)
    → IfNone first ((handle : ℕ) → from ≤ handle → handle < FIRST_MODULE + MOST_MODULES → finmap.get world.modules handle ≡ None) → IsFirstModule world.modules from first
first_module world is from (Some first) found lowest none = (found.0, found.1, lowest)
first_module world is from None found lowest none = λ handle after. elim (cases_lt handle (FIRST_MODULE + MOST_MODULES)) [
  | inl lt ↦ none handle after lt
  | inr past ↦ none_such (finmap.get world.modules handle) (is.numbers handle) (λ number. let high = number.1 in omega (arith, high, past))
]
