-- What steps leave of objects that they aren't about, and of DS.
use Rattle.w16_machine.specs
use Rattle.std.specs.Prelude.{◌≡◌, ℕ, ◌⊎◌, Bool, true, false, is_some, Some, None, option_map, IsSomeAnd}
use Rattle.w16_model.specs.{declared.Kind.TheVariants.Discardable, CallLaws.IsKeptOrDiscarded, Heap.Object, Heap.object_at, Heap.is_pinned_object, Law.StandsStill}
use Rattle.w16_loading.specs.{Bystanders.IsStepAbout, Bystanders.IsReleased, Bystanders.step_may_move_own, File.Format, Replies.Reply}
use specs.LocalLaw.{IsLeftByGrowth, IsNamedBy, IsObjectKept, asks_for_room, but_bytes, may_grow, may_move_named}
use specs.Machine.{Step}
use Rattle.w16_loading.specs.Families.{AnyCommand}
use Rattle.w16_model.specs.Commands.Family.{OfLocals}
use Rattle.w16_model.specs.Commands.Command.{DS}
use specs.{World.World, Law.IsWorld, Local.LocalHeap, Local.heap_of, Local.local_in, Local.current_heap}
use Rattle.w16_loading.specs.Families.AnyCommand.{any}

-- Objects of the global heap.

-- a step is about the one whose handle or selector it names; a local call names none
abbrev pub IsCommandAbout : World → AnyCommand → ℕ → Type 0
IsCommandAbout old command q = IsStepAbout old.loading.handles command q

-- it is gone with its module or resource
abbrev pub IsGone : World → AnyCommand → World → ℕ → Type 0
IsGone old command new q = IsReleased command old.loading new.loading q

-- It is as it was; or it was discardable and not locked, and has lost its bytes alone; or it is gone with its module or resource. A local call
-- takes no bytes, and changes those of one local heap, unless that grows: then it gets more, and the others are left as by any call for room.
abbrev pub IsSpared : World → AnyCommand → World → ℕ → Type 0
IsSpared old (any OfLocals command) new q = IsObjectKept old new q ⊎ ((may_grow command ≡ true) × IsLeftByGrowth old new q)
IsSpared old command new q = IsKeptOrDiscarded old.loading.handles.heap new.loading.handles.heap q ⊎ IsGone old command new q

-- Objects of local heaps.

-- a local call is about the one that it names in the current heap
abbrev pub IsLocalAbout : World → AnyCommand → LocalHeap → ℕ → Type 0
IsLocalAbout old (any OfLocals command) at q = (current_heap old ≡ Some at) × IsNamedBy command (heap_of at) q
IsLocalAbout old command at q = ⊥

-- whether it asks for room in the current heap
abbrev pub asks_in_heap : AnyCommand → Bool
asks_in_heap (any OfLocals command) = asks_for_room command
asks_in_heap command = false

-- it has its kind, its locks and as many bytes; or it was discardable and not locked, and has lost its bytes to a call for room in its heap
abbrev pub IsLocalSpared : World → AnyCommand → LocalHeap → LocalHeap → ℕ → Object → Type 0
IsLocalSpared old command at after q o =
    (option_map but_bytes (object_at (heap_of after) q) ≡ Some (but_bytes o))
    ⊎ ((current_heap old ≡ Some at) × (asks_in_heap command ≡ true) × (o.kind ≡ Discardable) × (o.locks ≡ 0) × (object_at (heap_of after) q ≡ Some (record o { bytes = None })))

-- whether a step may move a fixed or locked local object that it is about, or free it
abbrev pub local_may_move_own : AnyCommand → Bool
local_may_move_own (any OfLocals command) = may_move_named command
local_may_move_own command = false

-- What a step spares. A local heap that goes with its segment is not among these: that has laws of its own.

-- Only a discardable object that isn't locked loses its bytes to a step that isn't about it: one of the global heap, and one of a local heap that
-- stays.
pub record SparesBytes (old : World) (command : AnyCommand) (new : World) : Type 0 where
  pub objects : (q : ℕ) → is_some (object_at old.loading.handles.heap q) ≡ true → (IsCommandAbout old command q → ⊥) → IsSpared old command new q
  pub local_objects : (slot : ℕ) (at after : LocalHeap) (q : ℕ) (o : Object) → local_in old slot ≡ Some at → local_in new slot ≡ Some after → object_at (heap_of at) q ≡ Some o
      → (IsLocalAbout old command at q → ⊥) → IsLocalSpared old command at after q o

-- A fixed or locked object keeps its address, or its near pointer, except by its own reallocation and freeing. What its last unlock has made
-- loose is neither from then on.
pub record KeepsAddresses (old : World) (command : AnyCommand) (new : World) : Type 0 where
  pub objects : (q : ℕ) → IsSomeAnd (object_at old.loading.handles.heap q) (λ o. is_pinned_object o ≡ true) → (step_may_move_own command ≡ true → IsCommandAbout old command q → ⊥)
      → StandsStill old.loading.handles.heap new.loading.handles.heap q ⊎ IsGone old command new q
  pub local_objects : (slot : ℕ) (at after : LocalHeap) (q : ℕ) (o : Object) → local_in old slot ≡ Some at → local_in new slot ≡ Some after → object_at (heap_of at) q ≡ Some o
      → is_pinned_object o ≡ true → (local_may_move_own command ≡ true → IsLocalAbout old command at q → ⊥) → StandsStill (heap_of at) (heap_of after) q

-- DS is changed by the command DS alone.
abbrev pub KeepsDS : World → AnyCommand → World → Type 0
KeepsDS old command new = ((selector : ℕ) → command ≡ (any _ (DS selector)) → ⊥) → new.ds ≡ old.ds

pub record Spares (old : World) (command : AnyCommand) (new : World) : Type 0 where
  pub ds : KeepsDS old command new
  pub bytes : SparesBytes old command new
  pub addresses : KeepsAddresses old command new

-- The law: each step spares these, whatever the store answers.
abbrev pub StepSparesLaw : (honest : Type 0) → Type 0
StepSparesLaw honest = (format : Format) (old new : World) (command : AnyCommand) (reply : Reply) → IsWorld old → Step honest format old command reply new → Spares old command new
