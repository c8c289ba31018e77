-- Why calls are refused, by what the world answers to questions.
use Rattle.std.specs.Prelude.{◌≡◌, ◌%◌, ◌<◌, ℕ, true, false, None, IsNone, IsSome, option_map, unwrap_or}
use Rattle.w16_loading.specs.Families.{AnyCommand}
use Rattle.w16_model.specs.Commands.Family.{OfHandles, OfLocals}
use Rattle.w16_model.specs.Commands.Command.{GlobalSize, GlobalFlags, GlobalHandle, GetSelectorBase, GetSelectorLimit, GlobalReAlloc, GlobalDiscard, Read, Write, Fill, FreeLibrary, FreeModule}
use Rattle.w16_model.specs.Commands.Command.{GetModuleUsage, GetProcAddress, FindResource, LoadResource, SizeofResource, LocalInit, DS}
use Rattle.w16_model.specs.{Calls.global_flags, Calls.global_handle, Calls.global_size, Calls.has_flag, Calls.selector_limit, CallLaws.handle_in, Outcomes.Call.Calls, Handles.selector_in}
use Rattle.w16_model.specs.{Handles.slot_of_handle, Owned.owns, declared.TheConstants.GMEM_DISCARDABLE}
use Rattle.w16_machine.specs.{Local.current_heap, Local.object_named, LocalCalls.asked_of, LocalCalls.local_flags, LocalCalls.local_size, LocalLaw.named_by, World.World}
use Rattle.w16_machine.specs.{declared.local.TheConstants.LMEM_DISCARDABLE}
use Rattle.w16_kernel.specs.declared.kernel.why.Why.{Why}
use Rattle.std.specs.FinMap as finmap
use Rattle.w16_kernel.specs.declared.kernel.why.Why.TheVariants as why
use Rattle.w16_loading.specs.Families.AnyCommand.{any}

-- what a command names, by which it may be refused
pub data Subject : Type 0 where
  Object : (handle : ℕ) → Subject
  Selector : (selector : ℕ) → Subject
  Module : (handle : ℕ) → Subject
  LocalHeap : Subject
  LocalObject : (name : ℕ) → Subject
  Other : Subject

abbrev pub subject_of : AnyCommand → Subject
subject_of (any _ (GlobalSize handle)) = Object handle
subject_of (any _ (GlobalFlags handle)) = Object handle
subject_of (any _ (GlobalReAlloc handle size flags)) = Object handle
subject_of (any _ (GlobalDiscard handle)) = Object handle
subject_of (any _ (GlobalHandle selector)) = Selector selector
subject_of (any _ (GetSelectorBase selector)) = Selector selector
subject_of (any _ (GetSelectorLimit selector)) = Selector selector
subject_of (any OfHandles command) = unwrap_or (option_map Object (handle_in (Calls command))) Other
subject_of (any _ (Read pointer count)) = Selector (selector_in pointer)
subject_of (any _ (Write pointer bytes)) = Selector (selector_in pointer)
subject_of (any _ (Fill pointer count byte)) = Selector (selector_in pointer)
subject_of (any _ (FreeLibrary handle)) = Module handle
subject_of (any _ (FreeModule handle)) = Module handle
subject_of (any _ (GetModuleUsage handle)) = Module handle
subject_of (any _ (GetProcAddress handle label)) = Module handle
subject_of (any _ (FindResource handle name kind)) = Module handle
subject_of (any _ (LoadResource handle place)) = Module handle
subject_of (any _ (SizeofResource handle place)) = Module handle
subject_of (any _ (LocalInit selector start end)) = Other
subject_of (any _ (DS selector)) = Other
subject_of (any OfLocals command) = unwrap_or (option_map LocalObject (named_by command)) LocalHeap
subject_of command = Other

-- a reason holds in a world, of what a call names
abbrev pub IsWhy : World → Subject → Why → Type 0
IsWhy w (Object handle) why.BadHandle = slot_of_handle w.loading.handles handle ≡ None
IsWhy w (Object handle) why.Owned = owns w.loading.handles handle ≡ true
IsWhy w (Object handle) why.Locked = 0 < global_flags w.loading.handles handle % 256
IsWhy w (Object handle) why.NotDiscardable = has_flag (global_flags w.loading.handles handle) GMEM_DISCARDABLE ≡ false
IsWhy w (Object handle) why.NoBytes = global_size w.loading.handles handle ≡ 0
IsWhy w (Selector selector) why.BadSelector = global_handle w.loading.handles selector ≡ 0
IsWhy w (Selector selector) (why.Limit last) = selector_limit w.loading.handles selector ≡ last
IsWhy w (Module handle) why.BadModule = finmap.get w.loading.modules handle ≡ None
IsWhy w LocalHeap why.NoLocalHeap = IsNone (current_heap w)
IsWhy w (LocalObject name) why.NoLocalHeap = IsNone (current_heap w)
IsWhy w (LocalObject name) why.BadName = IsNone (object_named w name)
IsWhy w (LocalObject name) why.Locked = 0 < asked_of w name local_flags % 256
IsWhy w (LocalObject name) why.NotDiscardable = has_flag (asked_of w name local_flags) LMEM_DISCARDABLE ≡ false
IsWhy w (LocalObject name) why.NoBytes = asked_of w name local_size ≡ 0
IsWhy w subject reason = ⊥

-- What a call names is there; of a selector something is always told.
abbrev pub IsThere : World → Subject → Type 0
IsThere w (Object handle) = IsSome (slot_of_handle w.loading.handles handle)
IsThere w (Selector selector) = ⊥
IsThere w (Module handle) = IsSome (finmap.get w.loading.modules handle)
IsThere w LocalHeap = IsSome (current_heap w)
IsThere w (LocalObject name) = IsSome (object_named w name)
IsThere w Other = Unit {0}
