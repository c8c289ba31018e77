-- What whole runs promise of discards, read at each step: a call for room discards as few objects as it can, of the global heap or of a local
-- one, and is refused for room only where none could be made.
use Rattle.w16_machine.specs
use Rattle.std.specs.Prelude.{◌≡◌, ℕ, ◌<◌, List, false, Some}
use Rattle.w16_model.specs.{Calls.has_flag, Fewest.CompactsFewest}
use Rattle.w16_model.specs.Commands.Command.{GlobalAlloc, GlobalCompact, GlobalReAlloc, LocalAlloc, LocalReAlloc, LocalCompact}
use Rattle.w16_loading.specs.{Fewest.RequestsFewest, Replies.Reply.Word, Replies.Reply.Dword}
use specs.Local.{LocalHeap, LocalObject, heap_of, current_heap, object_named}
use specs.LocalFewest.{Left, AllocFewest, ReallocFewest}
use specs.{declared.local.TheConstants.LMEM_MODIFY, World.World, Law.EachStep, Law.IsOfLocals, Machine.Event}
use Rattle.w16_model.specs.Fewest as global
use Rattle.w16_model.specs.CallLaws as resizes
use Rattle.w16_loading.specs.Families.AnyCommand.{any}

-- The calls on the global heap.
abbrev pub GlobalAllocFewest : World → Event → Type 0
GlobalAllocFewest old event = (flags size handle : ℕ) → event.command ≡ (any _ (GlobalAlloc flags size)) → event.reply ≡ Word handle
    → global.AllocFewest old.loading.handles flags size handle event.after.loading.handles

abbrev pub GlobalReAllocFewest : World → Event → Type 0
GlobalReAllocFewest old event = (handle size flags answer : ℕ) → event.command ≡ (any _ (GlobalReAlloc handle size flags)) → event.reply ≡ Word answer
    → resizes.ReallocFewest old.loading.handles handle size flags answer event.after.loading.handles

abbrev pub GlobalCompactFewest : World → Event → Type 0
GlobalCompactFewest old event = (size answer : ℕ) → event.command ≡ (any _ (GlobalCompact size)) → event.reply ≡ Dword answer
    → CompactsFewest old.loading.handles.heap size answer event.after.loading.handles.heap

-- An allocation in the heap that DS names has discarded as few of its objects as it can, or there was no room in it and nothing changed.
abbrev pub LocalAllocFewest : World → Event → Type 0
LocalAllocFewest old event = (flags size answer : ℕ) (at : LocalHeap) → event.command ≡ (any _ (LocalAlloc flags size)) → event.reply ≡ Word answer → current_heap old ≡ Some at → AllocFewest old at flags size answer event.after

-- So has the reallocation of an object to a size.
abbrev pub LocalReAllocFewest : World → Event → Type 0
LocalReAllocFewest old event = (name size flags answer : ℕ) (o : LocalObject) → event.command ≡ (any _ (LocalReAlloc name size flags)) → event.reply ≡ Word answer → object_named old name ≡ Some o
    → has_flag flags LMEM_MODIFY ≡ false → 0 < size → ReallocFewest old o size flags answer event.after

-- A compaction answers the longest free stretch of any arrangement of what it leaves, and has discarded as few, or all that may be.
abbrev pub LocalCompactFewest : World → Event → Type 0
LocalCompactFewest old event = (size answer : ℕ) (at : LocalHeap) → event.command ≡ (any _ (LocalCompact size)) → event.reply ≡ Word answer → current_heap old ≡ Some at → Left event.after at (CompactsFewest (heap_of at) size answer)

-- So has each request of a load, and that of a fetch.
abbrev pub LoadingFewest : World → Event → Type 0
LoadingFewest old event = (IsOfLocals event.command → ⊥) → RequestsFewest old.loading event.command event.reply event.after.loading

pub record IsFewest (old : World) (event : Event) : Type 0 where
  pub alloc : GlobalAllocFewest old event
  pub realloc : GlobalReAllocFewest old event
  pub compact : GlobalCompactFewest old event
  pub local_alloc : LocalAllocFewest old event
  pub local_realloc : LocalReAllocFewest old event
  pub local_compact : LocalCompactFewest old event
  pub requests : LoadingFewest old event

-- each step is such
abbrev pub AreFewest : World → List Event → Type 0
AreFewest old events = EachStep IsFewest old events
