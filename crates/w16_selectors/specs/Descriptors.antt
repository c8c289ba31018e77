-- Descriptors by slot, and what a far access finds by them.
use Rattle.std.specs.Prelude.{◌≡◌, ℕ, ◌+◌, ◌/◌, ◌<◌, ◌≤◌, Bool, false, true, not, ◌&&◌, ◌==◌, if◌then◌else◌, nat_lt, List, length, slice_index_or, Option, Some, None, Result, Ok, Err}
use Rattle.w16_model.specs.declared.FarFault.TheVariants.{BadSelector, ReadOnly, NotPresent, Limit}
use Rattle.w16_model.specs.{declared.FarFault.FarFault, declared.TheConstants.FIRST_SLOT, Handles.selector_of}
use Rattle.w16_selectors.specs.{declared.SelKind.SelKind, declared.SelKind.TheVariants.Data, declared.SelKind.TheVariants.Code, declared.Descriptor.Descriptor}

-- the descriptors by slot, none where the slot isn't taken
abbrev pub DescriptorTable : Type 0
DescriptorTable = List (Option Descriptor)

abbrev pub descriptor_at : DescriptorTable → ℕ → Option Descriptor
descriptor_at table slot = slice_index_or table slot None

-- a slot that isn't taken; slots are numbered from the first one on
abbrev pub IsUntaken : DescriptorTable → ℕ → Type 0
IsUntaken table slot = (FIRST_SLOT ≤ slot) × (slot < length table) × (descriptor_at table slot ≡ None)

-- so many slots in a row that aren't taken, from a slot on
abbrev pub IsFreeRun : DescriptorTable → ℕ → ℕ → Type 0
IsFreeRun table first count = (FIRST_SLOT ≤ first) × ((k : ℕ) → k < count → IsUntaken table (first + k))

-- what the segment of a slot holds; data where the slot isn't taken
abbrev pub kind_of : Option Descriptor → SelKind
kind_of None = Data
kind_of (Some d) = d.kind

abbrev pub kind_at : DescriptorTable → ℕ → SelKind
kind_at table slot = kind_of (descriptor_at table slot)

-- the number of a slot's segment; 0 where the slot isn't taken
abbrev pub number_of : Option Descriptor → ℕ
number_of None = 0
number_of (Some d) = d.number

abbrev pub number_at : DescriptorTable → ℕ → ℕ
number_at table slot = number_of (descriptor_at table slot)

-- a slot's descriptor while its segment has no bytes
abbrev pub unset : SelKind → ℕ → Descriptor
unset kind number = record { base = 0; limit = 0; present = false; kind = kind; number = number }

-- the descriptor that a selector names: that of the slot whose selector it is
abbrev pub descriptor_of : DescriptorTable → ℕ → Option Descriptor
descriptor_of table selector = if selector == selector_of (selector / 8) then descriptor_at table (selector / 8) else None

abbrev pub is_code : SelKind → Bool
is_code Data = false
is_code Code = true

-- Where an access to n bytes at selector:offset begins in memory, or its first fault: a bad selector, a write to code, a segment without
-- bytes, bytes past the limit, which is the offset of the segment's last byte.
abbrev pub place_of : DescriptorTable → ℕ → ℕ → ℕ → Bool → Result ℕ FarFault
place_of table selector offset n write = elim (descriptor_of table selector) [
  | None ↦ Err BadSelector
  | Some d ↦ if write && is_code d.kind then Err ReadOnly
      else (if not d.present then Err NotPresent
      else (if nat_lt (d.limit + 1) (offset + n) then Err Limit
      else Ok (d.base + offset)))
]
