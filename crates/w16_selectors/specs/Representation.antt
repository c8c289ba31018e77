-- What the code keeps of the descriptors.
use Rattle.std.specs.Prelude.{◌≡◌, ℕ, ◌+◌, ◌^◌, ◌<◌, ◌≤◌, List, length, map, IfSome, IsSome, Option, Some, None}
use Rattle.w16_model.specs.declared.TheConstants.{FIRST_SLOT, MOST_SLOTS}
use Rattle.w16_selectors.specs.{Descriptors.DescriptorTable, Descriptors.descriptor_at, declared.Descriptor.Descriptor}

-- a mark for each slot: 0 where it is free
abbrev pub mark_of : Option Descriptor → ℕ
mark_of None = 0
mark_of (Some d) = 1

pub record SelectorsInvariant (table : DescriptorTable) (marks : List ℕ) : Type 0 where
  pub marked : marks ≡ map mark_of table
  pub some : FIRST_SLOT ≤ length table
  pub few : length table ≤ FIRST_SLOT + MOST_SLOTS
  pub unused : (slot : ℕ) → slot < FIRST_SLOT → descriptor_at table slot ≡ None
  -- a segment ends where an address of 32 bits can reach
  pub inside : (slot : ℕ) → IfSome (descriptor_at table slot) (λ d. d.base + d.limit + 1 < 2 ^ 32)

-- every slot below one is taken, from the first slot on
pub record AreTaken (table : DescriptorTable) (below : ℕ) : Type 0 where
  pub above : FIRST_SLOT ≤ below
  pub within : below ≤ length table
  pub taken : (slot : ℕ) → FIRST_SLOT ≤ slot → slot < below → IsSome (descriptor_at table slot)
