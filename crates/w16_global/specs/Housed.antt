-- An object that gets another run of slots.
use Rattle.std.specs.Prelude.{◌≡◌, ℕ, ◌+◌, ◌-◌, ◌<◌, ◌⊎◌, ◌==◌, true, false, if◌then◌else◌, List, option_map, unwrap_or, slice_index_or, Option, Some, None}
use Rattle.w16_model.specs.declared.Attributes.{Attributes}
use Rattle.w16_selectors.specs.Descriptors.{DescriptorTable, IsUntaken, descriptor_at}
use Rattle.w16_global.specs.{Joined.kind_in, Joined.label_of, Runs.is_in_run}

-- how many slots an object has, by the attributes by slot
abbrev pub slots_in : List (Option Attributes) → ℕ → ℕ
slots_in attributes slot = unwrap_or (option_map (λ (a : Attributes). a.slots) (slice_index_or attributes slot None)) 0

-- each selector of its run is taken for it
abbrev pub HasRun : List (Option Attributes) → DescriptorTable → ℕ → Type 0
HasRun attributes table slot = (q : ℕ) → is_in_run slot (slots_in attributes slot) q ≡ true → label_of (descriptor_at table q) ≡ Some (kind_in attributes slot, q - slot)

-- the slots of another run are its own or free
abbrev pub MayHave : List (Option Attributes) → DescriptorTable → ℕ → ℕ → ℕ → Type 0
MayHave attributes table slot first count = (number : ℕ) → number < count → (is_in_run slot (slots_in attributes slot) (first + number) ≡ true) ⊎ IsUntaken table (first + number)

-- the attributes once it has that run, by slot
abbrev pub attributes_housed : List (Option Attributes) → ℕ → ℕ → ℕ → ℕ → Option Attributes
attributes_housed attributes slot first count q =
    if q == first then option_map (λ (a : Attributes). record a { slots = count }) (slice_index_or attributes slot None)
    else (if q == slot then None else slice_index_or attributes q None)

-- and what the selectors are: those of the new run are taken for it, those of the old one alone are free, and all others are as they were
pub record AreHoused (attributes : List (Option Attributes)) (old : DescriptorTable) (slot first count : ℕ) (new : DescriptorTable) : Type 0 where
  pub taken : (q : ℕ) → is_in_run first count q ≡ true → label_of (descriptor_at new q) ≡ Some (kind_in attributes slot, q - first)
  pub given : (q : ℕ) → is_in_run first count q ≡ false → is_in_run slot (slots_in attributes slot) q ≡ true → descriptor_at new q ≡ None
  pub kept : (q : ℕ) → is_in_run first count q ≡ false → is_in_run slot (slots_in attributes slot) q ≡ false → descriptor_at new q ≡ descriptor_at old q
