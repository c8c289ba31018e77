-- The laws of local heaps on which nothing stands.
use Rattle.std.specs.Prelude.{Bool, false, ◌≡◌, ◌≢◌, ℕ, ◌⊎◌, ◌==◌, true, List, All, Some, None, is_some}
use Rattle.w16_model.specs.{Heap.Heap, Heap.IsHeap, Heap.object_at, declared.Span.Span, declared.RoomOptions.RoomOptions, Law.IsFarCommand}
use Rattle.w16_model.specs.Commands.{Command}
use Rattle.w16_loading.specs.Families.{AnyCommand}
use Rattle.w16_model.specs.Commands.Family.{OfFar, OfLocals}
use Rattle.w16_model.specs.Commands.Command.{LocalInit, LocalSize, LocalFlags, LocalHandle, LocalCompact}
use Rattle.w16_laws.specs.CallLaws.{OthersStand}
use Rattle.w16_loading.specs.{File.Format, Replies.Reply, Law.FarReplies, Replies.Reply.Word}
use Rattle.w16_machine.specs
use specs.declared.local.TheConstants.{LOCAL_GRAIN, LOCAL_ENTRIES, LAST_LOCAL_END, LMEM_MOVEABLE, LMEM_NOCOMPACT, LMEM_NODISCARD, LMEM_ZEROINIT, LMEM_MODIFY, LMEM_DISCARDABLE, LMEM_DISCARDED}
use specs.Local.{LocalHeap, IsLowestFree, heap_of, local_in, current_heap, name_at, new_table}
use specs.LocalCalls.{LocalStep, MakesObject, IsRefusedAlloc, HasNoRoom}
use specs.Machine.{Step, Event, Run, after_loading}
use specs.LocalLaw.{asks_for_room, KeepsRestLonger, LeavesLonger, IsNamedBy, HasSameObjects}
use specs.{World.World, Law.AreLocalHeaps, Law.AreNamed, LocalGrowth.IsGrowth, LocalGrowth.IsKeptShort, LocalGrowth.Lengthens}
use Rattle.std.specs.FinMap as finmap
use Rattle.w16_loading.specs.Families.AnyCommand.{any}

-- the figures of the profile
pub record AreFigures : Type 0 where
  pub grain : LOCAL_GRAIN ≡ 4
  pub entries : LOCAL_ENTRIES ≡ 1024
  pub end : LAST_LOCAL_END ≡ 65536

-- the flags of LocalAlloc, LocalReAlloc and LocalFlags, as the manual has them
pub record AreFlags : Type 0 where
  pub moveable : LMEM_MOVEABLE ≡ 2
  pub nocompact : LMEM_NOCOMPACT ≡ 16
  pub nodiscard : LMEM_NODISCARD ≡ 32
  pub zeroinit : LMEM_ZEROINIT ≡ 64
  pub modify : LMEM_MODIFY ≡ 128
  pub discardable : LMEM_DISCARDABLE ≡ 3840
  pub discarded : LMEM_DISCARDED ≡ 16384

-- each object has a name
abbrev pub NamedLaw : Type 0
NamedLaw = (heap : Heap) (id : ℕ) → IsHeap heap → AreNamed heap → is_some (name_at heap id) ≡ is_some (object_at heap id)

-- a call for which a heap has grown leaves the rest
abbrev pub GrowthLaw : Type 0
GrowthLaw = (old new : World) (command : Command OfLocals) → AreLocalHeaps old → KeepsRestLonger old command new → LeavesLonger old new

-- the calls that only ask; LocalCompact only asks where it is given 0 bytes
abbrev pub only_tells : Command OfLocals → Bool
only_tells (LocalSize name) = true
only_tells (LocalFlags name) = true
only_tells (LocalHandle pointer) = true
only_tells (LocalCompact size) = size == 0
only_tells command = false

-- these change nothing
abbrev pub QueriesLaw : Type 0
QueriesLaw = (old new : World) (command : Command OfLocals) (reply : Reply) → only_tells command ≡ true → LocalStep old command reply new → new ≡ old

-- A call that asks for no room moves no object, named or not: what has a near pointer afterwards had the same before.
abbrev pub PlacesLaw : Type 0
PlacesLaw = (old new : World) (command : Command OfLocals) (reply : Reply) (at after : LocalHeap) (q pointer : ℕ) → LocalStep old command reply new
    → current_heap old ≡ Some at → local_in new at.slot ≡ Some after → asks_for_room command ≡ false
    → finmap.get (heap_of after).places q ≡ Some pointer → finmap.get (heap_of at).places q ≡ Some pointer

-- In the heap's order of use all objects that a call doesn't name, and that stay, stand as they did.
abbrev pub OrderLaw : Type 0
OrderLaw = (old new : World) (command : Command OfLocals) (reply : Reply) (at after : LocalHeap) → AreLocalHeaps old → LocalStep old command reply new
    → current_heap old ≡ Some at → local_in new at.slot ≡ Some after → OthersStand (IsNamedBy command (heap_of at)) (λ id. id) (heap_of at) (heap_of after)

-- an allocation that is answered in the heap as it is isn't refused, and doesn't lack room
abbrev pub OutcomeLaw : Type 0
OutcomeLaw = (old new : World) (at : LocalHeap) (flags size id answer : ℕ) → IsHeap (heap_of at) → IsLowestFree (heap_of at) id → MakesObject old at flags size id answer new
    → IsRefusedAlloc (heap_of at) flags size ⊎ HasNoRoom (heap_of at) flags size → ⊥

-- nor is a heap both lengthened and kept short: a request has one size to grow to at most, and a segment gets it or not
abbrev pub OneGrowthLaw : Type 0
OneGrowthLaw = (old : World) (at : LocalHeap) (id n size other : ℕ) (options : RoomOptions) → IsGrowth at id n options size → IsGrowth at id n options other
    → (size ≡ other) × (Lengthens old at options size → IsKeptShort old at options other → ⊥)

-- a far access leaves each local heap except bytes of its objects
abbrev pub FarLaw : Type 0
FarLaw = (old new : World) (command : Command OfFar) (reply : Reply) → AreLocalHeaps old → IsFarCommand command → FarReplies old.loading.handles command reply new.loading.handles → new ≡ after_loading old new.loading
    → (new.heaps ≡ old.heaps) × ((slot : ℕ) (at after : LocalHeap) → local_in old slot ≡ Some at → local_in new slot ≡ Some after → HasSameObjects (heap_of at) (heap_of after))

-- a heap began: LocalInit answered 1, and it has no object
pub record IsBegun (command : AnyCommand) (reply : Reply) (new : World) (slot : ℕ) : Type 0 where
  pub selector : ℕ
  pub start : ℕ
  pub end : ℕ
  pub asked : command ≡ (any _ (LocalInit selector start end))
  pub answered : reply ≡ Word 1
  pub range : Span
  pub begun : finmap.get new.heaps slot ≡ Some (new_table range)

-- where there is no local heap there is none after a step, unless one began
abbrev pub NeverBackLaw : (honest : Type 0) → Type 0
NeverBackLaw honest = (format : Format) (old new : World) (command : AnyCommand) (reply : Reply) → Step honest format old command reply new → (slot : ℕ) → finmap.get old.heaps slot ≡ None
    → (finmap.get new.heaps slot ≡ None) ⊎ IsBegun command reply new slot

-- so a heap that is gone is gone after any run in which no LocalInit is answered 1
abbrev pub BeginsNone : Event → Type 0
BeginsNone event = (selector start end : ℕ) → event.command ≡ (any _ (LocalInit selector start end)) → event.reply ≢ Word 1

abbrev pub GoneLaw : (honest : Type 0) → Type 0
GoneLaw honest = (format : Format) (old new : World) (events : List Event) → Run (Step honest format) old events new → All BeginsNone events → (slot : ℕ) → finmap.get old.heaps slot ≡ None → finmap.get new.heaps slot ≡ None
