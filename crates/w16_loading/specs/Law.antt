-- What holds of all files and of every world with modules, and the laws that show the definitions right, where other proofs stand on them. Each
-- law is the contract of a function of `w16_laws`, which also has those on which nothing stands.
use Rattle.w16_loading.specs
use Rattle.std.specs.Prelude.{◌≡◌, ℕ, ◌+◌, ◌<◌, ◌≤◌, ◌⊎◌, Bool, true, false, List, length, All, if◌then◌else◌, Option, Some, None, is_some, IfSome, IsSomeAnd, fold, [], MatchResult, IfOk}
use Rattle.std.specs.List.{AllZip}
use Rattle.w16_model.specs.Handles.{Handles, slot_of_selector, selector_in, offset_in, IsFreeSlot}
use Rattle.w16_model.specs.Heap.{Heap, Object, IsHeap, object_at, bytes_at}
use Rattle.w16_model.specs.{Bytes.part, Owned.owned_at, Owned.revival_options, declared.TheConstants.MOST_SLOTS, CallLaws.IsKeptOrDiscarded, Request.Allocates, Law.AreHandles, Law.empty_handles}
use Rattle.w16_model.specs.Commands.{Command}
use Rattle.w16_loading.specs.Families.{AnyCommand}
use Rattle.w16_model.specs.Commands.Family.{OfHandles, OfResizes, OfFar, OfModules, OfResources, OfLocals}
use Rattle.w16_model.specs.Commands.Command.{Read}
use Rattle.w16_model.specs.{Calls.rounded_size, Law.IsFarCommand, Law.FarStep, Far.pointer_in}
use Rattle.w16_model.specs.{Far.after_write, declared.Kind.Kind, Discards.is_member}
use specs.declared.TheConstants.{FIRST_MODULE, MOST_MODULES, MOST_USES}
use specs.File.{Saying, Format, ModuleFile, Segment, SegmentData, Far, Target, IsModuleFile, Resource, numbered}
use specs.Modules.{LoadingWorld, Lookup, Module, Load, Named, value_of, IsSegmentOf, IsResourceOf, name_of, module_at, usage}
use specs.Fill.{Fills}
use specs.Closure.{Closure}
use specs.Naming.{Choice, IsChoice, named, with_segment}
use specs.Load.Answer.{Says, StoreFails}
use specs.Answers.{StepOver, told, FetchesFrom}
use specs.Families.{access_of}
use specs.Replies.Reply.{Bytes, Done, Fault}
use specs.Fetch.{read_of, segment_bytes, needs_fetch}
use specs.{declared.FetchFault.FetchFault, Refusals.is_of_format, Modules.Named.Loaded, Release.without_objects, Load.Answer, Load.undone, Replies.Reply, Resource.is_too_long, Resource.resource_at}
use Rattle.w16_store.specs.Names.{is_named}
use Rattle.std.specs.FinMap as finmap
use Rattle.w16_model.specs.Owned as owned
use Rattle.w16_model.specs.Far as far
use Rattle.w16_loading.specs.Families.AnyCommand.{any}

-- Files, and steps in part.

-- what a load relies on in all files: those that are accepted, and why others aren't
abbrev pub AreModuleFiles : Saying → Type 0
AreModuleFiles says = (file : List ℕ) → MatchResult (says file) IsModuleFile (λ refusal. is_of_format refusal ≡ true)

-- and a fetch in each resource: bytes, as many as its object has
abbrev pub IsContent : Resource → List ℕ → Type 0
IsContent r bytes = (length bytes ≡ rounded_size r.length_in) × All (λ b. b < 256) bytes

pub record IsFormat (format : Format) : Type 0 where
  pub files : AreModuleFiles format.says
  pub contents : (file : List ℕ) (number : ℕ)
      → IfOk (format.says file) (λ read. IfSome (numbered read.tables.resources number) (λ r. IsSomeAnd (format.contents file number) (IsContent r)))

-- a command's numbers are in their range, where they have one
abbrev pub IsCommand : AnyCommand → Type 0
IsCommand (any OfHandles command) = Unit {0}
IsCommand (any OfResizes command) = Unit {0}
IsCommand (any OfFar command) = IsFarCommand command
IsCommand (any OfModules command) = Unit {0}
IsCommand (any OfResources command) = Unit {0}
IsCommand (any OfLocals command) = Unit {0}

-- whether a far access meets a module's object without bytes, and fetches it
abbrev pub far_reads_file : LoadingWorld → Command OfFar → Bool
far_reads_file old command = needs_fetch (access_of command old).0 old (selector_in (pointer_in command))

-- whether a slot's object is code
abbrev pub is_code : LoadingWorld → ℕ → Bool
is_code world slot = owned.is_code world.handles slot

-- the answer of a far access that a reply prints, if it prints one
abbrev pub far_answer_in : Reply → Option far.FarAnswer
far_answer_in (Bytes bytes) = Some (far.FarAnswer.Bytes bytes)
far_answer_in Done = Some far.FarAnswer.Done
far_answer_in (Fault fault) = Some (far.FarAnswer.Fault fault)
far_answer_in other = None

-- a far access that fetches nothing, its answer being the one that a reply prints
abbrev pub FarReplies : Handles → Command OfFar → Reply → Handles → Type 0
FarReplies old command reply new = IsSomeAnd (far_answer_in reply) (λ answer. FarStep old command answer new)

-- a fetch over a store whose count of failures went from one number to another meanwhile
abbrev pub FetchesOver : (honest : Type 0) → Format → (before after : ℕ) → LoadingWorld → ℕ → Option FetchFault → LoadingWorld → Type 0
FetchesOver honest format before after old slot fault new = FetchesFrom Fills (told honest format old.files before after) old slot fault new

-- Worlds.

-- an object of a module has the kind and the size that its file says, whether it has bytes or not
pub record IsObjectOf (world : LoadingWorld) (slot : ℕ) (kind : Kind) (size : ℕ) (code : Bool) : Type 0 where
  pub object : IsSomeAnd (object_at world.handles.heap slot) (λ o. (o.kind ≡ kind) × IfSome o.bytes (λ bytes. length bytes ≡ size))
  pub owned : owned_at world.handles slot ≡ Some (record { size = size; code = code })

-- a module that is loaded is in use
pub record IsModule (world : LoadingWorld) (handle : ℕ) (m : Module) : Type 0 where
  pub segments : AllZip (λ slot (s : Segment). IsObjectOf world slot s.kind s.size s.is_code) m.slots m.tables.segments
  pub used : 0 < usage world.modules handle
  pub full : m.uses ≤ MOST_USES

pub record IsLoad (world : LoadingWorld) (slot : ℕ) (load : Load) : Type 0 where
  pub resource : IsSomeAnd (resource_at world load.handle load.place) (λ r. IsObjectOf world slot r.kind (rounded_size r.length_in) false)
  pub short : IfSome (resource_at world load.handle load.place) (λ r. is_too_long r ≡ false)
  pub used : 0 < load.loads
  pub full : load.loads ≤ MOST_USES

-- Names are different, and so are the objects of segments and of resources; every owned object is one of these.
pub record IsLoadingWorld (world : LoadingWorld) : Type 0 where
  pub handles : AreHandles world.handles
  pub numbers : (handle : ℕ) → IfSome (finmap.get world.modules handle) (λ _. (FIRST_MODULE ≤ handle) × (handle < FIRST_MODULE + MOST_MODULES))
  pub names : (a b : ℕ) (m n : Named) → finmap.get world.modules a ≡ Some m → finmap.get world.modules b ≡ Some n → is_named (name_of m) (name_of n) ≡ true → a ≡ b
  pub modules : (handle : ℕ) → IfSome (module_at world.modules handle) (IsModule world handle)
  pub loads : (slot : ℕ) → IfSome (finmap.get world.loads slot) (IsLoad world slot)
  pub one_segment : (slot a i b j : ℕ) (m n : Module) → IsSegmentOf world slot a i m → IsSegmentOf world slot b j n → (a ≡ b) × (i ≡ j)
  pub one_object : (s t handle place : ℕ) (m n : Module) → IsResourceOf world s handle place m → IsResourceOf world t handle place n → s ≡ t
  pub no_resource : (slot a i b j : ℕ) (m n : Module) → IsSegmentOf world slot a i m → IsResourceOf world slot b j n → ⊥
  pub owners : (slot : ℕ) → IfSome (owned_at world.handles slot) (λ _. (handle number : ℕ) × (m : Module) × (IsSegmentOf world slot handle number m ⊎ IsResourceOf world slot handle number m))

-- Code that has bytes has those that its file gives it, under the values that were bound at load.
abbrev pub CodeIsItsFiles : Format → LoadingWorld → Type 0
CodeIsItsFiles format world = (slot handle number : ℕ) (m : Module) → IsSegmentOf world slot handle number m → is_code world slot ≡ true
    → IfSome (bytes_at world.handles.heap slot) (λ bytes. segment_bytes format world m number ≡ Some bytes)

-- A module is as its file says it: its tables are those of the file, whose segments are sound, with a value for each record.
pub record IsItsFiles (m : Module) (read : ModuleFile) : Type 0 where
  pub tables : read.tables ≡ m.tables
  pub values : AllZip (λ (s : SegmentData) (values : List Far). IsSomeAnd s.targets (λ targets. length values ≡ length targets)) read.segments m.values

abbrev pub ModulesAreItsFiles : Format → LoadingWorld → Type 0
ModulesAreItsFiles format world = (handle : ℕ) (m : Module) → module_at world.modules handle ≡ Some m → IsSomeAnd (read_of format world m) (IsItsFiles m)

pub record IsOfFiles (format : Format) (world : LoadingWorld) : Type 0 where
  pub code : CodeIsItsFiles format world
  pub modules : ModulesAreItsFiles format world

-- Laws.

-- the world over a memory and a store, with so many slots, in which nothing is loaded, is one
abbrev pub empty_loading_world : ℕ → ℕ → List (List ℕ × List ℕ) → ℕ → LoadingWorld
empty_loading_world memory slots files failures = record { handles = empty_handles memory slots; modules = finmap.empty; loads = finmap.empty; files = files; failures = failures }

abbrev pub EmptyLaw : Type 0
EmptyLaw = (memory slots : ℕ) (files : List (List ℕ × List ℕ)) (failures : ℕ) → slots ≤ MOST_SLOTS
    → IsLoadingWorld (empty_loading_world memory slots files failures)

-- in which all is of its files
abbrev pub EmptyOfFilesLaw : Type 0
EmptyOfFilesLaw = (format : Format) (memory slots : ℕ) (files : List (List ℕ × List ℕ)) (failures : ℕ)
    → IsOfFiles format (empty_loading_world memory slots files failures)

-- A step keeps what holds of every world, whatever the store answers,
abbrev pub KeepsWorldsLaw : (honest : Type 0) → Type 0
KeepsWorldsLaw honest = (format : Format) (old new : LoadingWorld) (command : AnyCommand) (reply : Reply) → IsLoadingWorld old → IsCommand command
    → StepOver honest format old command reply new → IsLoadingWorld new

-- and one over an honest store is one over any.
abbrev pub AnyStepLaw : (honest : Type 0) → Type 0
AnyStepLaw honest = (format : Format) (old new : LoadingWorld) (command : AnyCommand) (reply : Reply) → StepOver honest format old command reply new
    → StepOver ⊥ format old command reply new

-- an object keeps its owner, or has none any more
abbrev pub KeepsOwner : Handles → Handles → ℕ → Type 0
KeepsOwner old new slot = (owned_at new slot ≡ owned_at old slot) ⊎ (owned_at new slot ≡ None)

-- So does each object that is there, whatever the store answers: none comes to be a module's, or code.
abbrev pub OwnersLaw : (honest : Type 0) → Type 0
OwnersLaw honest = (format : Format) (old new : LoadingWorld) (command : AnyCommand) (reply : Reply) → IsLoadingWorld old → StepOver honest format old command reply new
    → (slot : ℕ) → is_some (object_at old.handles.heap slot) ≡ true → KeepsOwner old.handles new.handles slot

-- the code that a script reads is always its file's, relocated, where the store is honest
abbrev pub CodeLaw : (honest : Type 0) → Type 0
CodeLaw honest = (format : Format) (old new : LoadingWorld) (command : AnyCommand) (reply : Reply) → honest → IsLoadingWorld old → IsOfFiles format old
    → StepOver honest format old command reply new → IsOfFiles format new

-- What a far read of code answers is a part of its file's bytes, relocated: also where the code was discarded and is fetched for it.
abbrev pub CodeReadsLaw : (honest : Type 0) → Type 0
CodeReadsLaw honest = (format : Format) (old new : LoadingWorld) (pointer count : ℕ) (bytes : List ℕ) (slot handle number : ℕ) (m : Module) → honest
    → IsLoadingWorld old → IsOfFiles format old
    → StepOver honest format old (any _ (Read pointer count)) (Bytes bytes) new
    → slot_of_selector old.handles (selector_in pointer) ≡ Some slot → IsSegmentOf old slot handle number m → is_code old slot ≡ true
    → IsSomeAnd (segment_bytes format old m number) (λ image. bytes ≡ part image (offset_in pointer) count)

-- what a refused load leaves, whatever was read
pub record OnlyDiscards (old new : Heap) : Type 0 where
  pub sound : IsHeap new
  pub objects : (q : ℕ) → IsKeptOrDiscarded old new q
  pub rest : new ≡ record old { objects = new.objects; places = new.places; order = new.order }

-- an answer that isn't a handle
abbrev pub IsRefusal : Answer → Type 0
IsRefusal (Says number) = number < FIRST_MODULE
IsRefusal StoreFails = Unit {0}

-- What a record is bound to depends on no values: look-ups that differ in these alone give it the same.
abbrev pub without_values : Option Named → Option Named
without_values (Some (Loaded m)) = Some (Loaded (record m { values = [] }))
without_values other = other

abbrev pub ValuesLaw : Type 0
ValuesLaw = (f g : Lookup) (m : Module) (target : Target) → ((handle : ℕ) → without_values (f handle) ≡ without_values (g handle))
    → value_of f m target ≡ value_of g m target

-- objects that are added under free slots, however many so far, and are taken away again leave the same world
abbrev pub TakenBackLaw : Type 0
TakenBackLaw = (old : LoadingWorld) (slots : List ℕ) (xs : List (ℕ × Segment)) → AreHandles old.handles → All (IsFreeSlot old.handles) slots
    → All (λ x. is_member x.0 slots ≡ true) xs
    → without_objects (λ q. is_member q slots) (fold with_segment old xs) ≡ old

-- so names that are taken back do
abbrev pub UndoneLaw : Type 0
UndoneLaw = (old : LoadingWorld) (closure : Closure) (choice : Choice) → AreHandles old.handles → IsChoice old closure.found choice
    → undone old choice (named old closure choice).handles.heap ≡ old

-- an allocation for an object without bytes, and then a write of all of them, is a request that gives it these
abbrev pub FillLaw : Type 0
FillLaw = (old next : Heap) (slot : ℕ) (o : Object) (bytes : List ℕ) (answered : Bool) → object_at old slot ≡ Some o → o.bytes ≡ None → All (λ b. b < 256) bytes
    → Allocates old slot (length bytes) o.kind o.locks revival_options answered next → Fills old slot bytes answered (if answered then after_write next slot 0 bytes else next)
