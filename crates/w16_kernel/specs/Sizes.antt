-- The sizes that a new machine may have.
use Rattle.std.specs.Prelude.{◌≡◌, ◌≤◌, ◌%◌, ℕ}
use Rattle.w16_kernel.specs.declared.sizes.SizeFault.{SizeFault}
use Rattle.w16_kernel.specs.declared.sizes.SizeFault.TheVariants as fault

-- a size of the global heap's memory that a machine may have
abbrev pub IsMemorySize : ℕ → Type 0
IsMemorySize memory = (32 ≤ memory) × (memory ≤ 16777216) × (memory % 32 ≡ 0)

-- a number of selectors that it may have
abbrev pub IsSelectorCount : ℕ → Type 0
IsSelectorCount selectors = (1 ≤ selectors) × (selectors ≤ 8160)

-- the fault of sizes that it can't have: the memory's comes first
abbrev pub IsSizeFault : ℕ → ℕ → SizeFault → Type 0
IsSizeFault memory selectors fault.MemorySize = IsMemorySize memory → ⊥
IsSizeFault memory selectors fault.SelectorCount = IsMemorySize memory × (IsSelectorCount selectors → ⊥)
