-- What calls of modules and resources are for: by their replies, and by what the worlds before and after have.
use Rattle.w16_loading.specs
use Rattle.std.specs.Prelude.{◌≡◌, ◌≢◌, ℕ, ◌+◌, ◌-◌, ◌<◌, ◌≤◌, ◌⊎◌, ◌&&◌, true, false, if◌then◌else◌, is_some, List, length, Option, Some, None, IfSome, IsSomeAnd, slice_get}
use Rattle.w16_model.specs.{declared.Kind.TheVariants.Fixed, declared.Kind.TheVariants.Discardable, Heap.Object, Heap.object_at, Heap.bytes_at, Heap.is_fixed, Handles.IsFreeSlot, Handles.slot_of_handle, Handles.selector_of, Handles.far_pointer, Calls.locks_at, Calls.rounded_size}
use Rattle.w16_store.specs.Names.{is_named}
use specs.File.{Format, Resource, Segment, is_label}
use Rattle.w16_model.specs.Commands.{Command, Label}
use Rattle.w16_model.specs.Commands.Family.{OfModules}
use Rattle.w16_model.specs.Commands.Command.{Builtin, LoadModule, LoadLibrary, GetModuleHandle, FindResource, LoadResource, LockResource, FreeResource, SizeofResource}
use specs.Modules.{Load, LoadingWorld, Module, Named, module_at, name_of}
use specs.Modules.Named.{BuiltIn, Loaded}
use specs.Replies.Reply.{Dword, Word}
use specs.{declared.TheConstants.FIRST_MODULE, Answers.StepOver, Law.IsLoadingWorld}
use Rattle.std.specs.FinMap as finmap
use Rattle.w16_loading.specs.Families.AnyCommand.{any}

-- GetModuleHandle: a module or built-in of this name, or 0 where there is none
abbrev pub NamedLaw : (honest : Type 0) → Type 0
NamedLaw honest = (format : Format) (old new : LoadingWorld) (name : List ℕ) (answer : ℕ) → IsLoadingWorld old → StepOver honest format old (any _ (GetModuleHandle name)) (Word answer) new
    → (answer ≢ 0 → (n : Named) × (finmap.get old.modules answer ≡ Some n) × (is_named (name_of n) name ≡ true))
    × (answer ≡ 0 → (handle : ℕ) (n : Named) → finmap.get old.modules handle ≡ Some n → is_named (name_of n) name ≡ false)

-- Builtin: a built-in of this name, which is there from then on
abbrev pub BuiltInLaw : (honest : Type 0) → Type 0
BuiltInLaw honest = (format : Format) (old new : LoadingWorld) (name : List ℕ) (answer : ℕ) → StepOver honest format old (any _ (Builtin name)) (Word answer) new → answer ≢ 0
    → (own : List ℕ) × (finmap.get new.modules answer ≡ Some (BuiltIn own)) × (is_named own name ≡ true)

-- FindResource: the number of a resource of this name and type, or 0 where the module has none
abbrev pub FindLaw : (honest : Type 0) → Type 0
FindLaw honest = (format : Format) (old new : LoadingWorld) (handle answer : ℕ) (name kind : Label) (m : Module) → module_at old.modules handle ≡ Some m
    → StepOver honest format old (any _ (FindResource handle name kind)) (Word answer) new
    → (answer ≢ 0 → (r : Resource) × (slice_get m.tables.resources (answer - 1) ≡ Some r) × (is_label r.label name ≡ true) × (is_label r.kind_of kind ≡ true))
    × (answer ≡ 0 → (i : ℕ) (r : Resource) → slice_get m.tables.resources i ≡ Some r → (is_label r.label name && is_label r.kind_of kind) ≡ false)

-- SizeofResource: the length in the file of the resource of this number
abbrev pub SizeofLaw : (honest : Type 0) → Type 0
SizeofLaw honest = (format : Format) (old new : LoadingWorld) (handle place answer : ℕ) (m : Module) (r : Resource) → module_at old.modules handle ≡ Some m
    → 0 < place → slice_get m.tables.resources (place - 1) ≡ Some r → StepOver honest format old (any _ (SizeofResource handle place)) (Dword answer) new → answer ≡ r.length_in

-- FreeResource: one load less, with no other change; the last load takes the object away, unless it is locked
abbrev pub FreeLaw : (honest : Type 0) → Type 0
FreeLaw honest = (format : Format) (old new : LoadingWorld) (handle slot answer : ℕ) (load : Load) → slot_of_handle old.handles handle ≡ Some slot → finmap.get old.loads slot ≡ Some load
    → StepOver honest format old (any _ (FreeResource handle)) (Word answer) new
    → (1 < load.loads → (answer ≡ 0) × (new.handles ≡ old.handles) × (new.modules ≡ old.modules) × (finmap.get new.loads slot ≡ Some (record load { loads = load.loads - 1 })))
    × (load.loads ≤ 1 → 0 < locks_at old.handles.heap slot → (answer ≡ 1) × (new.handles ≡ old.handles) × (new.modules ≡ old.modules) × (new.loads ≡ old.loads))
    × (load.loads ≤ 1 → locks_at old.handles.heap slot ≡ 0 → (answer ≡ 0) × (object_at new.handles.heap slot ≡ None) × (finmap.get new.loads slot ≡ None) × (new.modules ≡ old.modules))

-- A resource that was loaded is loaded once more, with the same handles.
abbrev pub IsLoadedAgain : LoadingWorld → ℕ → ℕ → ℕ → LoadingWorld → Type 0
IsLoadedAgain old handle place slot new =
    (loads : ℕ) × (finmap.get old.loads slot ≡ Some (record { handle = handle; place = place; loads = loads }))
    × (finmap.get new.loads slot ≡ Some (record { handle = handle; place = place; loads = loads + 1 })) × (new.handles ≡ old.handles)

-- One that was not is loaded once: an object that isn't locked has a free slot, and as many bytes as the resource, rounded up.
abbrev pub IsLoadedFirst : LoadingWorld → ℕ → ℕ → ℕ → LoadingWorld → Type 0
IsLoadedFirst old handle place slot new =
    ((q : ℕ) (load : Load) → finmap.get old.loads q ≡ Some load → load.handle ≡ handle → load.place ≡ place → ⊥)
    × (finmap.get new.loads slot ≡ Some (record { handle = handle; place = place; loads = 1 })) × IsFreeSlot old.handles slot
    × (m : Module) × (r : Resource) × (module_at old.modules handle ≡ Some m) × (0 < place) × (slice_get m.tables.resources (place - 1) ≡ Some r)
    × IsSomeAnd (object_at new.handles.heap slot) (λ o. (o.kind ≡ r.kind) × (o.locks ≡ 0) × IsSomeAnd o.bytes (λ bytes. length bytes ≡ rounded_size r.length_in))

-- LoadResource, over any store: the handle of the one object that is loaded for this module and place, or 0 and no change
abbrev pub LoadResourceLaw : (honest : Type 0) → Type 0
LoadResourceLaw honest = (format : Format) (old new : LoadingWorld) (handle place answer : ℕ) → IsLoadingWorld old → StepOver honest format old (any _ (LoadResource handle place)) (Word answer) new
    → (new.modules ≡ old.modules) × (answer ≡ 0 → (new.loads ≡ old.loads) × (new.handles ≡ old.handles))
    × (answer ≢ 0 → (slot : ℕ) × (slot_of_handle new.handles answer ≡ Some slot) × ((q : ℕ) → q ≢ slot → finmap.get new.loads q ≡ finmap.get old.loads q)
    × (IsLoadedAgain old handle place slot new ⊎ IsLoadedFirst old handle place slot new))

-- a resource's object has bytes, those that it had if it had any, and one lock more unless it is fixed
abbrev pub IsLockedOnce : LoadingWorld → ℕ → LoadingWorld → Type 0
IsLockedOnce old slot new = IsSomeAnd (object_at old.handles.heap slot) (λ o. (bytes : List ℕ) × IfSome o.bytes (λ b. bytes ≡ b) × (is_fixed o.kind ≡ false → o.locks < 255)
    × (object_at new.handles.heap slot ≡ Some (record o { locks = if is_fixed o.kind then o.locks else o.locks + 1; bytes = Some bytes })))

-- LockResource, over any store: the far pointer to the first byte of a resource, locked; or 0, with the same handles, and not where it has bytes, unless
-- 255 locks are full
abbrev pub LockResourceLaw : (honest : Type 0) → Type 0
LockResourceLaw honest = (format : Format) (old new : LoadingWorld) (handle answer : ℕ) → IsLoadingWorld old → StepOver honest format old (any _ (LockResource handle)) (Dword answer) new
    → (new.modules ≡ old.modules) × (new.loads ≡ old.loads) × (answer ≡ 0 → new.handles ≡ old.handles)
    × (answer ≢ 0 → (slot : ℕ) × (load : Load) × (slot_of_handle old.handles handle ≡ Some slot) × (finmap.get old.loads slot ≡ Some load)
    × (answer ≡ far_pointer (selector_of slot) 0) × IsLockedOnce old slot new)
    × ((slot : ℕ) (load : Load) (o : Object) → slot_of_handle old.handles handle ≡ Some slot → finmap.get old.loads slot ≡ Some load → object_at old.handles.heap slot ≡ Some o
    → is_some o.bytes ≡ true → (is_fixed o.kind ≡ true) ⊎ (o.locks < 255) → answer ≢ 0)

-- what a load's answer names: a new module with one explicit use, or one that was there with one use more, or a built-in
abbrev pub IsUsedOnce : Option Named → Option Named → Type 0
IsUsedOnce None now = (m : Module) × (now ≡ Some (Loaded m)) × (m.uses ≡ 1)
IsUsedOnce (Some (Loaded m)) now = now ≡ Some (Loaded (record m { uses = m.uses + 1 }))
IsUsedOnce (Some (BuiltIn name)) now = now ≡ Some (BuiltIn name)

-- LoadModule and LoadLibrary, over any store, answered with a handle: it is in use; and each fixed or preload segment of each new module has bytes,
-- or it is discardable and has lost them to a later one, for which all that was there and may be discarded has gone before it.
abbrev pub LoadLaw : (honest : Type 0) → Type 0
LoadLaw honest = (format : Format) (old new : LoadingWorld) (command : Command OfModules) (file : List ℕ) (answer : ℕ) → IsLoadingWorld old → (command ≡ LoadModule file) ⊎ (command ≡ LoadLibrary file) → FIRST_MODULE ≤ answer
    → StepOver honest format old (any OfModules command) (Word answer) new
    → IsUsedOnce (finmap.get old.modules answer) (finmap.get new.modules answer)
    × ((handle i slot : ℕ) (m : Module) (s : Segment) → finmap.get old.modules handle ≡ None → finmap.get new.modules handle ≡ Some (Loaded m)
    → slice_get m.tables.segments i ≡ Some s → slice_get m.slots i ≡ Some slot → (s.kind ≡ Fixed) ⊎ (s.is_preload ≡ true)
    → (is_some (bytes_at new.handles.heap slot) ≡ true)
    ⊎ ((s.kind ≡ Discardable) × ((q : ℕ) → IsSomeAnd (object_at old.handles.heap q) (λ o. (o.kind ≡ Discardable) × (o.locks ≡ 0)) → bytes_at new.handles.heap q ≡ None)))
