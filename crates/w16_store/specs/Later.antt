-- What calls leave of a store, and when they tell that its device failed.
use Rattle.std.specs.Prelude.{◌≡◌, ℕ, ◌<◌, ◌≤◌, Bool, true, false, List}
use Rattle.w16_store.specs.{declared.store.StoreFault.StoreFault, declared.store.StoreFault.TheVariants.Device}

-- A store after some calls: it has the same files, and its device has failed no fewer times.
pub record IsLater (files : List (List ℕ × List ℕ)) (failures : ℕ) (files_after : List (List ℕ × List ℕ)) (failures_after : ℕ) : Type 0 where
  pub same : files_after ≡ files
  pub counted : failures ≤ failures_after

abbrev pub is_device : StoreFault → Bool
is_device Device = true
is_device other = false

-- A fault tells that the device failed only where the count of failures rose.
abbrev pub RoseIf : {E : Type 0} → (E → Bool) → ℕ → ℕ → E → Type 0
RoseIf is_of_device before after fault = is_of_device fault ≡ true → before < after
