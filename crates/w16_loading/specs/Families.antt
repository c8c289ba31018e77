-- What a step of each family of commands does. Only calls on local heaps have their steps elsewhere, in `LocalCalls` of w16_machine.
use Rattle.w16_loading.specs
use Rattle.std.specs.Prelude.{◌≡◌, ℕ, ◌⊎◌, Bool, true, false, List, Option, Some, MatchOption, unwrap_or}
use Rattle.w16_model.specs.Commands.{Command, Family, Label}
use Rattle.w16_model.specs.Commands.Family.{OfModules, OfResources, OfLocals, OfHandles, OfResizes, OfFar}
use Rattle.w16_model.specs.Commands.Command.{Read, Write, Fill, Builtin, LoadModule, LoadLibrary, FreeLibrary, FreeModule, GetModuleHandle, GetModuleUsage, GetProcAddress, FindResource, LoadResource, LockResource, FreeResource, SizeofResource}
use Rattle.w16_model.specs.Commands.Label.{Number, Text}
use Rattle.w16_model.specs.{Handles.Handles, Handles.selector_in, Handles.offset_in, Handles.dword_of, Bytes.repeated, Far.pointer_in, Far.FarAnswer}
use specs.Replies.{HandleReplies, ResizeReplies, Reply}
use specs.Modules.{LoadingWorld, Named, IsFreeModule, handle_named, usage, address_at, address_named}
use specs.Load.Answer.{Says, StoreFails}
use specs.Fetch.{Fetching, Accesses, far_read, far_write}
use specs.Resource.{LoadsResource, LocksResource, find_resource, size_of_resource, free_resource}
use specs.{File.Far, Modules.Named.BuiltIn, Load.Answer, Replies.Reply.Failed, Free.Frees}
use Rattle.std.specs.FinMap as finmap
use Rattle.w16_loading.specs.Replies as replies
use Rattle.w16_loading.specs.declared.FetchFault.TheVariants as faults

-- a command of whichever family
pub data AnyCommand : Type 0 where
  any : (family : Family) → Command family → AnyCommand

abbrev pub word : ℕ → Reply
word n = (replies.Reply.Word n)

abbrev pub dword : ℕ → Reply
dword n = (replies.Reply.Dword n)

-- a call on handles changes these alone; what a module owns refuses GlobalFree and GlobalReAlloc by the handles' own definitions
abbrev pub HandleStep : LoadingWorld → Command OfHandles → Reply → LoadingWorld → Type 0
HandleStep old command reply new = (next : Handles) × HandleReplies old.handles command reply next × (new ≡ record old { handles = next })

abbrev pub ResizesStep : LoadingWorld → Command OfResizes → Reply → LoadingWorld → Type 0
ResizesStep old command reply new = (next : Handles) × ResizeReplies old.handles command reply next × (new ≡ record old { handles = next })

abbrev pub access_of : Command OfFar → LoadingWorld → FarAnswer × LoadingWorld
access_of (Read pointer count) old = far_read (selector_in pointer) (offset_in pointer) count old
access_of (Write pointer bytes) old = far_write (selector_in pointer) (offset_in pointer) bytes old
access_of (Fill pointer count byte) old = far_write (selector_in pointer) (offset_in pointer) (repeated count byte) old

abbrev pub FarStep : Fetching → LoadingWorld → Command OfFar → Reply → LoadingWorld → Type 0
FarStep fetches old command reply new = Accesses fetches (access_of command) old (selector_in (pointer_in command)) reply new

-- Builtin: the handle of a built-in, the same for the same name; 0 where a loaded module has the name or no handle is free
abbrev pub AddsBuiltIn : LoadingWorld → List ℕ → ℕ → LoadingWorld → Type 0
AddsBuiltIn old name answer new =
    (((handle : ℕ) → IsFreeModule old.modules handle → ⊥) × (answer ≡ 0) × (new ≡ old))
    ⊎ (IsFreeModule old.modules answer × (new ≡ record old { modules = finmap.insert old.modules answer (BuiltIn name) }))

abbrev pub built_in : Option Named → ℕ → ℕ
built_in (Some (BuiltIn name)) handle = handle
built_in other handle = 0

abbrev pub GivesBuiltIn : LoadingWorld → List ℕ → ℕ → LoadingWorld → Type 0
GivesBuiltIn old name answer new = MatchOption (handle_named old.modules name) (AddsBuiltIn old name answer new) (λ handle. (answer ≡ built_in (finmap.get old.modules handle) handle) × (new ≡ old))

abbrev pub pointer_to : Far → ℕ
pointer_to far = dword_of far.selector far.offset

-- GetProcAddress
abbrev pub proc_address : LoadingWorld → ℕ → Label → Far
proc_address world handle (Number ordinal) = address_at (finmap.get world.modules) handle ordinal
proc_address world handle (Text name) = address_named (finmap.get world.modules) handle name

abbrev pub reply_of : Answer → Reply
reply_of (Says n) = word n
reply_of StoreFails = Failed faults.Store

-- what a load is, over the store that it is made over: whether it is LoadModule's, and the file that is asked for
abbrev pub Loading : Type 1
Loading = Bool → LoadingWorld → List ℕ → Answer → LoadingWorld → Type 0

abbrev pub ModuleStep : Loading → LoadingWorld → Command OfModules → Reply → LoadingWorld → Type 0
ModuleStep loads old (Builtin name) reply new = (handle : ℕ) × (reply ≡ word handle) × GivesBuiltIn old name handle new
ModuleStep loads old (LoadModule file) reply new = (answer : Answer) × (reply ≡ reply_of answer) × loads true old file answer new
ModuleStep loads old (LoadLibrary file) reply new = (answer : Answer) × (reply ≡ reply_of answer) × loads false old file answer new
ModuleStep loads old (FreeLibrary handle) reply new = (answer : ℕ) × (reply ≡ word answer) × Frees old handle answer new
ModuleStep loads old (FreeModule handle) reply new = (answer : ℕ) × (reply ≡ word answer) × Frees old handle answer new
ModuleStep loads old (GetModuleHandle name) reply new = (reply ≡ word (unwrap_or (handle_named old.modules name) 0)) × (new ≡ old)
ModuleStep loads old (GetModuleUsage handle) reply new = (reply ≡ word (usage old.modules handle)) × (new ≡ old)
ModuleStep loads old (GetProcAddress handle label) reply new = (reply ≡ dword (pointer_to (proc_address old handle label))) × (new ≡ old)

abbrev pub ResourceStep : Fetching → LoadingWorld → Command OfResources → Reply → LoadingWorld → Type 0
ResourceStep fetches old (FindResource handle name kind) reply new = (reply ≡ word (find_resource old handle name kind)) × (new ≡ old)
ResourceStep fetches old (LoadResource handle place) reply new = LoadsResource fetches old handle place reply new
ResourceStep fetches old (LockResource handle) reply new = LocksResource fetches old handle reply new
ResourceStep fetches old (FreeResource handle) reply new = (reply ≡ word (free_resource old handle).0) × (new ≡ (free_resource old handle).1)
ResourceStep fetches old (SizeofResource handle place) reply new = (reply ≡ dword (size_of_resource old handle place)) × (new ≡ old)

-- A step of a family: none here where the command is a call on local heaps.
abbrev pub FamilyStep : Fetching → Loading → LoadingWorld → AnyCommand → Reply → LoadingWorld → Type 0
FamilyStep fetches loads old (any OfHandles command) reply new = HandleStep old command reply new
FamilyStep fetches loads old (any OfResizes command) reply new = ResizesStep old command reply new
FamilyStep fetches loads old (any OfFar command) reply new = FarStep fetches old command reply new
FamilyStep fetches loads old (any OfModules command) reply new = ModuleStep loads old command reply new
FamilyStep fetches loads old (any OfResources command) reply new = ResourceStep fetches old command reply new
FamilyStep fetches loads old (any OfLocals command) reply new = ⊥
