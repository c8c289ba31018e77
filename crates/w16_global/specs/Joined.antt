-- The objects, their attributes and their selectors together, and the handles that they stand for.
use Rattle.std.specs.Prelude.{◌≡◌, ℕ, ◌-◌, ◌<◌, ◌≤◌, ◌==◌, Bool, false, ◌&&◌, ◌||◌, if◌then◌else◌, nat_le, nat_lt, List, length, IfSome, Option, Some, None, option_map, unwrap_or, slice_index_or, refl}
use Rattle.std.specs.{Coded.Coded, Coded.code_by, Coded.coded×, Coded.coded_ℕ, Ordering.nat_cmp, FinMap.FinMap}
use Rattle.w16_model.specs.declared.TheConstants.{FIRST_SLOT, GRAIN, REACH, GMEM_MODIFY, GMEM_ZEROINIT}
use Rattle.w16_model.specs.{Handles.Handles, Handles.owner_of, Law.AreHandles}
use Rattle.w16_model.specs.{declared.Attributes.Attributes, declared.Owned.Owned, Calls.global_size, Calls.has_flag, Calls.rounded_size, Codes.handles_code, Heap.Heap, Heap.Object, Heap.IsMultiple, Heap.object_at, Table.by_id, Owned.owned_in}
use Rattle.w16_selectors.specs.{Descriptors.descriptor_at, Descriptors.unset, declared.Descriptor.Descriptor, declared.SelKind.SelKind, declared.SelKind.TheVariants.Data, declared.SelKind.TheVariants.Code}
use Rattle.w16_global.specs.{Parts.Holding, Runs.reaching}
use Rattle.std.specs.FinMap as finmap
use Rattle.w16_selectors.specs.Descriptors as selectors

-- the attributes that a list by slot has
abbrev pub attributes_in : List (Option Attributes) → FinMap nat_cmp Attributes
attributes_in attributes = finmap.from_entries (by_id (λ _ a. a) 0 attributes)

-- the handles that they stand for, with so many bytes moved last; an object's id is its first slot
abbrev pub handles_of : Holding → List (Option Attributes) → ℕ → Handles
handles_of holding attributes moved = record { slots = holding.cap - FIRST_SLOT; heap = holding.heap; attributes = attributes_in attributes; moved = moved }

-- the handles, and how many bytes of the memory were slid, filled or written by far accesses so far
pub record Global : Type 0 where
  pub handles : Handles
  pub written : ℕ

-- by what a proof tells them apart
abbrev pub global_code : Coded Global
global_code = code_by (Handles × ℕ) (coded× handles_code coded_ℕ) (λ g. (g.handles, g.written)) (λ p. record { handles = p.0; written = p.1 }) (λ _. refl)

-- how many zeros GlobalAlloc puts into an object that it answers
abbrev pub zeroed : ℕ → ℕ → ℕ → ℕ
zeroed flags size handle = if handle == 0 then 0 else (if has_flag flags GMEM_ZEROINIT then rounded_size size else 0)

-- and after the bytes of an object that GlobalReAlloc lengthens
abbrev pub zeroed_behind : Handles → ℕ → ℕ → ℕ → ℕ → ℕ
zeroed_behind old handle size flags answer = if (answer == 0) || has_flag flags GMEM_MODIFY then 0
    else (if has_flag flags GMEM_ZEROINIT then rounded_size size - global_size old handle else 0)

-- what an object of these attributes holds
abbrev pub kind_for : Option Attributes → SelKind
kind_for attributes = if unwrap_or (option_map (λ (o : Owned). o.code) (owned_in attributes)) false then Code else Data

abbrev pub kind_in : List (Option Attributes) → ℕ → SelKind
kind_in attributes slot = kind_for (slice_index_or attributes slot None)

-- an object has so many slots that the number of each is a byte, and the bytes of an owned one are some whole grains, which one selector reaches
abbrev pub HasSize : Option Attributes → Type 0
HasSize attributes = IfSome attributes (λ (a : Attributes). (a.slots < 256) × IfSome a.owned (λ (o : Owned). (0 < o.size) × IsMultiple GRAIN o.size × (o.size ≤ REACH)))

-- what the selector of this number says of an object that has this first slot and holds this: where the bytes begin that it reaches, and the
-- offset of the last of them
abbrev pub descriptor_for : Heap → SelKind → ℕ → ℕ → Object → Descriptor
descriptor_for heap kind number first o = elim o.bytes [
  | None ↦ unset kind number
  | Some bytes ↦ reaching kind (unwrap_or (finmap.get heap.places first) 0) (length bytes) number
]

abbrev pub says : Heap → SelKind → ℕ → ℕ → Option Descriptor
says heap kind number first = option_map (descriptor_for heap kind number first) (object_at heap first)

-- the object in whose run a slot is, by its first slot
abbrev pub owner_in : List (Option Attributes) → ℕ → Option ℕ
owner_in attributes slot = owner_of (attributes_in attributes) slot

-- so what a slot's selector has to say, if the slot is in a run
abbrev pub described : Heap → List (Option Attributes) → ℕ → Option Descriptor
described heap attributes slot = elim (owner_in attributes slot) [ None ↦ None | Some first ↦ says heap (kind_in attributes first) (slot - first) first ]

-- Each slot's selector is the one of its number of the object in whose run the slot is, and holds what that does. There is none for a slot that
-- is in no run.
abbrev pub label_of : Option Descriptor → Option (SelKind × ℕ)
label_of d = option_map (λ (d : Descriptor). (d.kind, d.number)) d

abbrev pub label_in : List (Option Attributes) → ℕ → Option (SelKind × ℕ)
label_in attributes slot = option_map (λ first. (kind_in attributes first, slot - first)) (owner_in attributes slot)

abbrev pub AreLabelled : List (Option Attributes) → selectors.DescriptorTable → Type 0
AreLabelled attributes table = (slot : ℕ) → label_of (descriptor_at table slot) ≡ label_in attributes slot

-- the table in which the selectors of some objects say what they have to, these objects by their first slots
abbrev pub told : Heap → List (Option Attributes) → (ℕ → Bool) → selectors.DescriptorTable → ℕ → Option Descriptor
told heap attributes which table slot = elim (owner_in attributes slot) [
  | None ↦ descriptor_at table slot
  | Some first ↦ if which first then says heap (kind_in attributes first) (slot - first) first else descriptor_at table slot
]

-- whether an object begins in [from, to)
abbrev pub begins_in : Heap → ℕ → ℕ → ℕ → Bool
begins_in heap from to first = elim (finmap.get heap.places first) [ None ↦ false | Some at ↦ nat_le from at && nat_lt at to ]

-- what holds of them: they stand for handles, whatever was moved last, each selector says where the bytes are that it reaches of its object,
-- which of the object's selectors it is, and whether it is code, and what modules own has a size
pub record AreJoined (holding : Holding) (attributes : List (Option Attributes)) (table : selectors.DescriptorTable) : Type 0 where
  pub handles : AreHandles (handles_of holding attributes 0)
  pub described : (slot : ℕ) → descriptor_at table slot ≡ described holding.heap attributes slot
  pub sized : (slot : ℕ) → HasSize (slice_index_or attributes slot None)
  pub attributes_many : length attributes ≡ holding.cap
  pub selectors_many : length table ≡ holding.cap
  pub some : FIRST_SLOT ≤ holding.cap
