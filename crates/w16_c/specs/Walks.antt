-- Parts of the heap, as C sees them.
use Rattle.std.specs.Prelude.{◌≡◌, ℕ, Option, Some, None}
use Rattle.w16_model.specs.{declared.Kind.Kind, declared.Item.Item, Handles.handle_of, Law.IsFirstItem}
use Rattle.w16_c.specs.declared.status.TheConstants.{DONE, END}
use Rattle.w16_c.specs.{declared.held.Held.Held, declared.part.Part.Part}
use Rattle.w16_model.specs.declared.Kind.TheVariants as kinds

-- the number of a kind; a hole has 0
abbrev pub kind_number : Kind → ℕ
kind_number kinds.Fixed = 1
kind_number kinds.Moveable = 2
kind_number kinds.Discardable = 3

-- a part of the heap with its fields in C
abbrev pub part_of : Item → Part
part_of item = elim item.owner [
  | None ↦ record { at = item.at; size = item.size; handle = 0; kind = 0; locks = 0 }
  | Some owner ↦ record { at = item.at; size = item.size; handle = owner.name; kind = kind_number owner.kind; locks = owner.locks }
]

-- The first part from an address on is told; after the last one there is none, and what was lent for it stays.
abbrev pub Told : ℕ → Part → Part → Option Item → Type 0
Told status before part None = (status ≡ END) × (part ≡ before)
Told status before part (Some item) = (status ≡ DONE) × (part ≡ part_of item)

-- the first part of a held machine's heap from an address on
abbrev pub TellsPart : Held → ℕ → ℕ → Part → Part → Type 0
TellsPart held from status before part = (item : Option Item) × IsFirstItem handle_of held.world.loading.handles.heap from item × Told status before part item
