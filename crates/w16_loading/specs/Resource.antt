-- Resources.
use Rattle.w16_loading.specs
use Rattle.std.specs.Prelude.{◌≡◌, ℕ, ◌+◌, ◌-◌, ◌⊎◌, ◌==◌, ◌||◌, ◌&&◌, Bool, false, if◌then◌else◌, MatchBool, nat_lt, find, position, Option, Some, None, MatchOption, option_map, unwrap_or}
use Rattle.w16_model.specs.{Heap.bytes_at, Changes.with_object, declared.Attributes.Attributes, Handles.IsFreeSlot, Handles.handle_of, Handles.slot_of_handle, Calls.rounded_size, Calls.global_lock, Calls.locks_at}
use specs.declared.TheConstants.{MOST_USES, LARGEST_OWNED}
use specs.File.{Resource, is_label, numbered}
use Rattle.w16_model.specs.Commands.{Label}
use specs.Modules.{LoadingWorld, Load, module_at}
use specs.Replies.Reply.{Word, Dword, Walked, Failed}
use specs.{declared.FetchFault.FetchFault, Replies.Reply, Fetch.Fetching, Fetch.outcome_in, Release.without_objects}
use Rattle.std.specs.FinMap as finmap
use Rattle.w16_model.specs.Calls as calls
use Rattle.w16_loading.specs.declared.FetchFault.TheVariants as faults

-- FindResource: the place in the table, from 1; else 0
abbrev pub find_resource : LoadingWorld → ℕ → Label → Label → ℕ
find_resource world handle label kind = elim (module_at world.modules handle) [
  | None ↦ 0
  | Some m ↦ unwrap_or (option_map (λ i. i + 1) (position (λ r. is_label r.label label && is_label r.kind_of kind) m.tables.resources)) 0
]

abbrev pub resource_at : LoadingWorld → ℕ → ℕ → Option Resource
resource_at world handle place = elim (module_at world.modules handle) [ None ↦ None | Some m ↦ numbered m.tables.resources place ]

-- SizeofResource: the length in the file; else 0
abbrev pub size_of_resource : LoadingWorld → ℕ → ℕ → ℕ
size_of_resource world handle place = unwrap_or (option_map (λ (r : Resource). r.length_in) (resource_at world handle place)) 0

-- LoadResource. A resource that is loaded already is loaded once more, with no fetch.
abbrev pub load_of : LoadingWorld → ℕ → ℕ → Option (ℕ × Load)
load_of world handle place = find (λ e. (e.1.handle == handle) && (e.1.place == place)) (finmap.entries world.loads)

abbrev pub loaded_again : LoadingWorld → Resource → ℕ × Load → Reply × LoadingWorld
loaded_again old r x =
    if nat_lt x.1.loads MOST_USES then (Word (handle_of r.kind x.0), record old { loads = finmap.insert old.loads x.0 (record x.1 { loads = x.1.loads + 1 }) })
    else (Word 0, old)

-- a module owns it
abbrev pub attributes_for : Resource → Attributes
attributes_for r = record { shared = false; owned = Some (record { size = rounded_size r.length_in; code = false }); slots = 1 }

-- a new object without bytes for it
abbrev pub with_resource : LoadingWorld → ℕ → ℕ → ℕ → Resource → LoadingWorld
with_resource world slot handle place r = record world {
  handles = record world.handles {
    heap = with_object world.handles.heap slot (record { kind = r.kind; locks = 0; bytes = None });
    attributes = finmap.insert world.handles.attributes slot (attributes_for r);
  };
  loads = finmap.insert world.loads slot (record { handle = handle; place = place; loads = 1 });
}

-- which a fetch gives its bytes, or else it is the same world: 0 for want of room, else the fault
abbrev pub resource_outcome : Option FetchFault → ℕ → LoadingWorld → LoadingWorld → Reply × LoadingWorld
resource_outcome None handle loaded old = (Word handle, loaded)
resource_outcome (Some faults.NoRoom) handle loaded old = (Word 0, old)
resource_outcome (Some fault) handle loaded old = (Failed fault, old)

pub record LoadsNewResource (fetches : Fetching) (old : LoadingWorld) (handle place : ℕ) (r : Resource) (reply : Reply) (new : LoadingWorld) : Type 0 where
  pub slot : ℕ
  pub free : IsFreeSlot old.handles slot
  pub fault : Option FetchFault
  pub next : LoadingWorld
  pub fetched : fetches (with_resource old slot handle place r) slot fault next
  pub outcome : (reply, new) ≡ resource_outcome fault (handle_of r.kind slot) next old

-- 0 in the same world
abbrev pub AnswersNone : LoadingWorld → Reply → LoadingWorld → Type 0
AnswersNone old reply new = (reply ≡ Word 0) × (new ≡ old)

abbrev pub is_too_long : Resource → Bool
is_too_long r = (r.length_in == 0) || nat_lt LARGEST_OWNED r.length_in

abbrev pub LoadsResource : Fetching → LoadingWorld → ℕ → ℕ → Reply → LoadingWorld → Type 0
LoadsResource fetches old handle place reply new =
    MatchOption (resource_at old handle place)
    (AnswersNone old reply new)
    (λ r. MatchBool (is_too_long r)
    (AnswersNone old reply new)
    (MatchOption (load_of old handle place)
    ((((slot : ℕ) → IsFreeSlot old.handles slot → ⊥) × AnswersNone old reply new) ⊎ LoadsNewResource fetches old handle place r reply new)
    (λ x. (reply, new) ≡ loaded_again old r x)))

-- LockResource: as GlobalLock, after a fetch where it has no bytes; 0 for no resource and without room
abbrev pub slot_of_resource : LoadingWorld → ℕ → Option (ℕ × Load)
slot_of_resource world handle = elim (slot_of_handle world.handles handle) [
  | None ↦ None
  | Some slot ↦ option_map (λ load. (slot, load)) (finmap.get world.loads slot)
]

-- what is printed of a call on handles
abbrev pub reply_of_call : calls.Answer → Reply
reply_of_call (calls.Answer.Word n) = Word n
reply_of_call (calls.Answer.Dword n) = Dword n
reply_of_call (calls.Answer.Walked count) = Walked count

-- GlobalLock of its handle
abbrev pub locked : LoadingWorld → ℕ → Reply × LoadingWorld
locked world handle = let outcome = outcome_in world (global_lock world.handles handle) in ((reply_of_call outcome.0), outcome.1)

abbrev pub lock_outcome : Option FetchFault → ℕ → LoadingWorld → Reply × LoadingWorld
lock_outcome None handle next = locked next handle
lock_outcome (Some faults.NoRoom) handle next = (Dword 0, next)
lock_outcome (Some fault) handle next = (Failed fault, next)

abbrev pub LocksResource : Fetching → LoadingWorld → ℕ → Reply → LoadingWorld → Type 0
LocksResource fetches old handle reply new =
    MatchOption (slot_of_resource old handle)
    ((reply ≡ Dword 0) × (new ≡ old))
    (λ x. MatchOption (bytes_at old.handles.heap x.0)
    ((fault : Option FetchFault) × (next : LoadingWorld) × fetches old x.0 fault next × ((reply, new) ≡ lock_outcome fault handle next))
    (λ _. (reply, new) ≡ locked old handle))

-- FreeResource: 0 and one load less, and with the last the object is gone; 1 for no resource, and for a last load of a locked object
abbrev pub free_resource : LoadingWorld → ℕ → ℕ × LoadingWorld
free_resource old handle = elim (slot_of_resource old handle) [
  | None ↦ (1, old)
  | Some x ↦
      if nat_lt 1 x.1.loads then (0, record old { loads = finmap.insert old.loads x.0 (record x.1 { loads = x.1.loads - 1 }) })
      else (if nat_lt 0 (locks_at old.handles.heap x.0) then (1, old)
      else (0, (let left = without_objects (λ q. q == x.0) old in record left { loads = finmap.remove left.loads x.0 })))
]
