-- What is done to the selectors of an object, slot by slot.
use Rattle.std.specs.Prelude.{ℕ, ◌+◌, ◌-◌, ◌*◌, ◌&&◌, if◌then◌else◌, min, nat_le, nat_lt, Bool, true, Option, Some, None}
use Rattle.w16_model.specs.{declared.TheConstants.REACH, Handles.slots_for}
use Rattle.w16_selectors.specs.Descriptors.{DescriptorTable, descriptor_at, kind_at, number_at, unset}
use Rattle.w16_selectors.specs.{declared.Descriptor.Descriptor, declared.SelKind.SelKind}

-- whether a slot is in the run of so many that begins at another
abbrev pub is_in_run : ℕ → ℕ → ℕ → Bool
is_in_run first count slot = nat_le first slot && nat_lt slot (first + count)

-- a table with the selectors of a run changed
abbrev pub in_run : ℕ → ℕ → (ℕ → Option Descriptor) → DescriptorTable → ℕ → Option Descriptor
in_run first count says table slot = if is_in_run first count slot then says slot else descriptor_at table slot

-- they are taken for an object that holds this, each with its number
abbrev pub taken : ℕ → ℕ → SelKind → DescriptorTable → ℕ → Option Descriptor
taken first count kind table = in_run first count (λ slot. Some (unset kind (slot - first))) table

-- they are given back
abbrev pub given : ℕ → ℕ → DescriptorTable → ℕ → Option Descriptor
given first count table = in_run first count (λ slot. None) table

-- they reach nothing any more
abbrev pub vacated : ℕ → ℕ → DescriptorTable → ℕ → Option Descriptor
vacated first count table = in_run first count (λ slot. Some (unset (kind_at table slot) (number_at table slot))) table

-- what the selector of this number says of an object of so many bytes at an address, which holds this
abbrev pub reaching : SelKind → ℕ → ℕ → ℕ → Descriptor
reaching kind at size number = record { base = at + REACH * number; limit = min REACH (size - REACH * number) - 1; present = true; kind = kind; number = number }

-- they reach the bytes of an object of this size at an address
abbrev pub placed : ℕ → ℕ → ℕ → DescriptorTable → ℕ → Option Descriptor
placed first at size table = in_run first (slots_for size) (λ slot. Some (reaching (kind_at table slot) at size (slot - first))) table
