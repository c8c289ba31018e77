-- What a step leaves of objects that it isn't about, whatever the store answers.
use Rattle.w16_loading.specs
use Rattle.std.specs.Prelude.{◌≡◌, ◌≢◌, ℕ, ◌≤◌, ◌⊎◌, ◌==◌, Bool, true, false, if◌then◌else◌, is_some, IsSomeAnd, None, Some}
use Rattle.w16_model.specs.Handles.{Handles, Part, selector_in, slot_of_handle, part_of_selector}
use Rattle.w16_model.specs.Outcomes.Call.{Calls, ReAllocs}
use Rattle.w16_model.specs.{declared.TheConstants.GMEM_MOVEABLE, CallLaws.IsAbout, CallLaws.IsKeptOrDiscarded, CallLaws.may_move_own, Calls.locks_at, Discards.is_member, Far.pointer_in, Heap.object_at, Heap.is_pinned_object, Law.StandsStill, Outcomes.Call}
use Rattle.w16_model.specs.Commands.{Command}
use Rattle.w16_loading.specs.Families.{AnyCommand}
use Rattle.w16_model.specs.Commands.Family.{OfHandles, OfResizes, OfFar, OfModules, OfResources}
use Rattle.w16_model.specs.Commands.Command.{GlobalReAlloc, GlobalDiscard, FreeLibrary, FreeModule, LockResource, FreeResource}
use specs.Modules.{LoadingWorld, Module, IsSegmentOf, IsResourceOf, module_at}
use specs.{Answers.StepOver, File.Format, Law.IsLoadingWorld, Replies.Reply}
use Rattle.std.specs.FinMap as finmap
use Rattle.w16_loading.specs.Families.AnyCommand.{any}

-- GlobalDiscard is a GlobalReAlloc to 0 bytes with GMEM_MOVEABLE
abbrev pub call_of : Command OfResizes → Call
call_of (GlobalReAlloc handle size flags) = ReAllocs handle size flags
call_of (GlobalDiscard handle) = ReAllocs handle 0 GMEM_MOVEABLE

-- A step is about the object whose handle or selector it names.
abbrev pub IsStepAbout : Handles → AnyCommand → ℕ → Type 0
IsStepAbout old (any OfHandles command) q = IsAbout old (Calls command) q
IsStepAbout old (any OfResizes command) q = IsAbout old (call_of command) q
IsStepAbout old (any OfFar command) q = IsSomeAnd (part_of_selector old (selector_in (pointer_in command))) (λ (p : Part). p.slot ≡ q)
IsStepAbout old (any OfResources (LockResource handle)) q = slot_of_handle old handle ≡ Some q
IsStepAbout old command q = ⊥

-- A module goes with the use of a handle that ends: it has no other explicit use; and it is the handle's own, which none imports, or all that import
-- it go too.
abbrev pub IsUnused : LoadingWorld → ℕ → LoadingWorld → ℕ → Module → Type 0
IsUnused old handle new a m =
    (m.uses ≤ (if a == handle then 1 else 0)) × (module_at new.modules a ≡ None)
    × ((b : ℕ) (n : Module) → b ≢ a → module_at old.modules b ≡ Some n → is_member a n.imports ≡ true → (a ≢ handle) × (module_at new.modules b ≡ None))

-- an object of a module that goes so
abbrev pub IsUnloaded : LoadingWorld → ℕ → LoadingWorld → ℕ → Type 0
IsUnloaded old handle new q = (a number : ℕ) × (m : Module) × (IsSegmentOf old q a number m ⊎ IsResourceOf old q a number m) × IsUnused old handle new a m

-- the handle's object, a resource that has one load left and isn't locked
abbrev pub IsFreedResource : LoadingWorld → ℕ → LoadingWorld → ℕ → Type 0
IsFreedResource old handle new q = (slot_of_handle old.handles handle ≡ Some q) × IsSomeAnd (finmap.get old.loads q) (λ load. load.loads ≡ 1) × (locks_at old.handles.heap q ≡ 0) × (finmap.get new.loads q ≡ None)

-- which object may go by a step
abbrev pub MayGo : AnyCommand → LoadingWorld → LoadingWorld → ℕ → Type 0
MayGo (any OfModules (FreeLibrary handle)) old new q = IsUnloaded old handle new q
MayGo (any OfModules (FreeModule handle)) old new q = IsUnloaded old handle new q
MayGo (any OfResources (FreeResource handle)) old new q = IsFreedResource old handle new q
MayGo command old new q = ⊥

abbrev pub IsReleased : AnyCommand → LoadingWorld → LoadingWorld → ℕ → Type 0
IsReleased command old new q = (object_at new.handles.heap q ≡ None) × MayGo command old new q

-- Every other object is as it was; or it was discardable and not locked, and has lost its bytes alone; or it is gone with its module or resource.
abbrev pub StepBystandersLaw : (honest : Type 0) → Type 0
StepBystandersLaw honest = (format : Format) (old new : LoadingWorld) (command : AnyCommand) (reply : Reply) (q : ℕ) → IsLoadingWorld old → StepOver honest format old command reply new
    → is_some (object_at old.handles.heap q) ≡ true → (IsStepAbout old.handles command q → ⊥)
    → IsKeptOrDiscarded old.handles.heap new.handles.heap q ⊎ IsReleased command old new q

-- whether a step may move a fixed or locked object, or free it: its own reallocation with GMEM_MOVEABLE to a size above 0, and GlobalFree
abbrev pub step_may_move_own : AnyCommand → Bool
step_may_move_own (any OfHandles command) = may_move_own (Calls command)
step_may_move_own (any OfResizes command) = may_move_own (call_of command)
step_may_move_own command = false

-- Every other step leaves it where it stands, its own accesses and locks among them, or it is gone with its module or resource.
abbrev pub StepPinnedLaw : (honest : Type 0) → Type 0
StepPinnedLaw honest = (format : Format) (old new : LoadingWorld) (command : AnyCommand) (reply : Reply) (q : ℕ) → IsLoadingWorld old → StepOver honest format old command reply new
    → IsSomeAnd (object_at old.handles.heap q) (λ o. is_pinned_object o ≡ true) → (step_may_move_own command ≡ true → IsStepAbout old.handles command q → ⊥)
    → StandsStill old.handles.heap new.handles.heap q ⊎ IsReleased command old new q
