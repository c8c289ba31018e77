-- What selectors tell, and looks at bytes, as C sees them.
use Rattle.w16_c.specs
use Rattle.std.specs.Prelude.{◌≡◌, ◌≢◌, ℕ, ◌<◌, ◌≤◌, ◌⊎◌, if◌then◌else◌, min, List, length, slice_index_or, slice_set, Option, Some, None}
use Rattle.w16_model.specs.{declared.FarFault.FarFault, Bytes.part, Far.far_at, Far.far_bytes, Far.far_fault, Handles.Handles, Handles.offset_in, Handles.selector_in, Handles.selector_of}
use Rattle.w16_global.specs.Peek.{selector_descriptor}
use specs.declared.descriptors.TheConstants.{SLOTS}
use specs.declared.status.TheConstants.{DONE, END, FAULT_SELECTOR}
use specs.{declared.descriptors.Descriptor.Descriptor, Makes.fault_status}
use Rattle.w16_global.specs.declared.peek.Descriptor as global

-- a descriptor with its fields in C
abbrev pub descriptor_of : global.Descriptor → Descriptor
descriptor_of d = record { base = d.base; limit = d.limit; object = d.object; present = if d.present then 1 else 0; code = if d.code then 1 else 0 }

-- zeros where there is none
abbrev pub no_descriptor : Descriptor
no_descriptor = record { base = 0; limit = 0; object = 0; present = 0; code = 0 }

abbrev pub descriptor_or_none : Option global.Descriptor → Descriptor
descriptor_or_none None = no_descriptor
descriptor_or_none (Some d) = descriptor_of d

-- what a slot's selector tells
unfoldable pub descriptor_at : Handles → ℕ → Descriptor
descriptor_at handles slot = descriptor_or_none (selector_descriptor handles (selector_of slot))

-- what a selector tells goes out, if an object has it
abbrev pub TellsDescriptor : Option global.Descriptor → ℕ → Descriptor → Descriptor → Type 0
TellsDescriptor None status before after = (status ≡ FAULT_SELECTOR) × (after ≡ before)
TellsDescriptor (Some d) status before after = (status ≡ DONE) × (after ≡ descriptor_of d)

-- bytes go out, or the fault of a look at them
abbrev pub TellsBytes : Option FarFault → List ℕ → ℕ → List ℕ → List ℕ → Type 0
TellsBytes None bytes status before after = (status ≡ DONE) × (after ≡ bytes)
TellsBytes (Some fault) bytes status before after = (status ≡ fault_status fault) × (after ≡ before)

-- those at a far pointer
abbrev pub TellsFar : Handles → ℕ → ℕ → List ℕ → List ℕ → Type 0
TellsFar handles pointer status before after =
    TellsBytes (far_fault handles (selector_in pointer) (offset_in pointer) (length before))
    (part (far_bytes handles (selector_in pointer)) (far_at handles (selector_in pointer) (offset_in pointer)) (length before)) status before after

-- a table has the descriptors of the slots from one up to another
abbrev pub AreKnown : Handles → List Descriptor → ℕ → ℕ → Type 0
AreKnown handles known from to = (slot : ℕ) → from ≤ slot → slot < to → slice_index_or known slot no_descriptor ≡ descriptor_at handles slot

-- the next slot whose descriptor it doesn't have
pub record IsNext (handles : Handles) (known : List Descriptor) (from slot : ℕ) : Type 0 where
  pub low : from ≤ slot
  pub high : slot < min (length known) SLOTS
  pub before : AreKnown handles known from slot
  pub differs : slice_index_or known slot no_descriptor ≢ descriptor_at handles slot

-- That one is put into the table and answered; or there is none.
abbrev pub TellsChange : Handles → ℕ → List Descriptor → List Descriptor → ℕ → ℕ → Type 0
TellsChange handles status known now from slot =
    ((status ≡ DONE) × IsNext handles known from slot × (now ≡ slice_set known slot (descriptor_at handles slot)))
    ⊎ ((status ≡ END) × AreKnown handles known from (min (length known) SLOTS) × (now ≡ known) × (slot ≡ from))
