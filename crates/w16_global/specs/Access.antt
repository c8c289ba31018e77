-- The first fault of a far access.
use Rattle.std.specs.Prelude.{ℕ, Bool, ◌&&◌, if◌then◌else◌, Option, Some}
use Rattle.w16_model.specs.{declared.FarFault.FarFault, declared.FarFault.TheVariants.ReadOnly, Far.far_fault, Handles.Handles, Owned.refuses_write}

-- that of a read, or of a write, which code refuses with bytes or without
abbrev pub access_fault : Handles → Bool → ℕ → ℕ → ℕ → Option FarFault
access_fault handles write selector offset n = if write && refuses_write handles selector then Some ReadOnly else far_fault handles selector offset n
