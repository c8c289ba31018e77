-- Objects that modules own: what handles tell of them, and the steps of a module loader on them.
use Rattle.std.specs.Prelude.{ℕ, Bool, true, false, is_some, unwrap_or, Option, Some, None, option_map}
use Rattle.w16_model.specs.Handles.{Handles, Part, slot_of_handle, part_of_selector}
use Rattle.w16_model.specs.{declared.Attributes.Attributes, declared.Owned.Owned, declared.RoomOptions.RoomOptions}
use Rattle.std.specs.FinMap as finmap

abbrev pub owned_in : Option Attributes → Option Owned
owned_in None = None
owned_in (Some a) = a.owned

-- the size and the code bit of a slot's object, if a module owns it
abbrev pub owned_at : Handles → ℕ → Option Owned
owned_at handles slot = owned_in (finmap.get handles.attributes slot)

abbrev pub is_owned : Handles → ℕ → Bool
is_owned handles slot = is_some (owned_at handles slot)

abbrev pub is_code : Handles → ℕ → Bool
is_code handles slot = unwrap_or (option_map (λ (o : Owned). o.code) (owned_at handles slot)) false

-- whether a module owns a handle's object
abbrev pub owns : Handles → ℕ → Bool
owns handles handle = unwrap_or (option_map (is_owned handles) (slot_of_handle handles handle)) false

-- whether a selector's object is code, which refuses every write
abbrev pub refuses_write : Handles → ℕ → Bool
refuses_write handles selector = unwrap_or (option_map (λ (p : Part). is_code handles p.slot) (part_of_selector handles selector)) false

-- how room is made for it: others may be moved and discarded
abbrev pub revival_options : RoomOptions
revival_options = record { compact = true; discard = true; zero = false; may_move = false }
