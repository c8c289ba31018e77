-- What holds of every world, and the laws of steps of the whole machine. Each law is the contract of a function of `w16_laws`.
use Rattle.w16_machine.specs
use Rattle.std.specs.Prelude.{◌≡◌, ◌≢◌, ℕ, ◌+◌, ◌≤◌, ◌⊎◌, false, List, length, Some, IfSome, true, is_some, IsSomeAnd, [], ◌∷◌}
use Rattle.w16_model.specs.{declared.TheConstants.MOST_SLOTS, Heap.Heap, Heap.bytes_at, Owned.is_code, declared.Item.Item, Handles.handle_of, Walk.IsWalk, Heap.object_at, Heap.is_fixed, Table.Table, Table.heap_in, Law.AreHandles, Handles.Handles}
use Rattle.w16_loading.specs.Law.{IsLoadingWorld, IsOfFiles, empty_loading_world, IsCommand, FarReplies}
use Rattle.w16_loading.specs.Replies.{Reply, HandleReplies, ResizeReplies}
use Rattle.w16_loading.specs.Families.{AnyCommand}
use Rattle.w16_model.specs.Commands.Family.{OfHandles, OfResizes, OfFar, OfLocals}
use Rattle.w16_loading.specs.{File.Format}
use specs.Local.{LocalHeap, heap_of, local_in, IsLocalTable, segment_bytes}
use specs.Machine.{Step, Event}
use specs.{World.World}
use Rattle.std.specs.FinMap as finmap
use Rattle.w16_loading.specs.Families.AnyCommand.{any}

-- the world over a memory and a store, with so many slots, in which nothing is allocated and nothing loaded
abbrev pub empty_world : ℕ → ℕ → List (List ℕ × List ℕ) → ℕ → World
empty_world memory slots files failures = record { loading = empty_loading_world memory slots files failures; heaps = finmap.empty; ds = 0 }

-- a world's walk names objects by their handles
abbrev pub IsWorldWalk : World → List Item → Type 0
IsWorldWalk world items = IsWalk handle_of world.loading.handles.heap items

-- each fixed object has bytes, so that each object has a name
abbrev pub AreNamed : Heap → Type 0
AreNamed heap = (id : ℕ) → IfSome (object_at heap id) (λ o. is_fixed o.kind ≡ true → is_some o.bytes ≡ true)

-- a table is a local heap's in these bytes of its segment
abbrev pub IsLocalIn : Table → List ℕ → Type 0
IsLocalIn t bytes = IsLocalTable t × (t.hi ≤ length bytes) × AreNamed (heap_in t bytes)

-- what holds of the local heaps of every world
pub record AreLocalHeaps (w : World) : Type 0 where
  pub handles : AreHandles w.loading.handles
  pub heaps : (slot : ℕ) → IfSome (finmap.get w.heaps slot) (λ t. IsSomeAnd (segment_bytes w slot) (IsLocalIn t))

-- the calls on local heaps
abbrev pub IsOfLocals : AnyCommand → Type 0
IsOfLocals (any OfLocals command) = Unit {0}
IsOfLocals command = ⊥

-- What a command does to handles alone, where it does nothing else: a call on them, or a far access that fetches nothing.
abbrev pub OnHandles : Handles → AnyCommand → Reply → Handles → Type 0
OnHandles old (any OfHandles command) reply new = HandleReplies old command reply new
OnHandles old (any OfResizes command) reply new = ResizeReplies old command reply new
OnHandles old (any OfFar command) reply new = FarReplies old command reply new
OnHandles old command reply new = ⊥

-- the same world, which says nothing of the count of failures, but that it isn't lowered
pub record IsSame (old new : World) : Type 0 where
  pub counted : old.loading.failures ≤ new.loading.failures
  pub same : new ≡ record old { loading = record old.loading { failures = new.loading.failures } }

-- this holds of each step, from the world before it
abbrev pub EachStep : (World → Event → Type 0) → World → List Event → Type 0
EachStep holds old [] = Unit {0}
EachStep holds old (event ∷ events) = holds old event × EachStep holds event.after events

-- What holds of every world, whatever the store is.
pub record IsWorld (w : World) : Type 0 where
  pub loading : IsLoadingWorld w.loading
  pub heaps : AreLocalHeaps w
  -- no local heap lies in code, or local calls would write it
  pub uncoded : (slot : ℕ) → IfSome (finmap.get w.heaps slot) (λ _. is_code w.loading.handles slot ≡ false)

-- No two objects of a heap share a byte.
abbrev pub AreApart : Heap → Type 0
AreApart heap = (q r from to : ℕ) (bytes others : List ℕ) → q ≢ r → finmap.get heap.places q ≡ Some from → bytes_at heap q ≡ Some bytes → finmap.get heap.places r ≡ Some to → bytes_at heap r ≡ Some others
    → (from + length bytes ≤ to) ⊎ (to + length others ≤ from)

-- neither of the global heap nor of a local one
abbrev pub ShareNoByte : World → Type 0
ShareNoByte w = AreApart w.loading.handles.heap × ((slot : ℕ) (at : LocalHeap) → local_in w slot ≡ Some at → AreApart (heap_of at))

-- and so it is in every world
abbrev pub ApartLaw : Type 0
ApartLaw = (w : World) → IsWorld w → ShareNoByte w

-- And where the store is honest: all that is loaded is of its file.
abbrev pub IsWorldOfFiles : Format → World → Type 0
IsWorldOfFiles format w = IsWorld w × IsOfFiles format w.loading

abbrev pub EmptyLaw : Type 0
EmptyLaw = (format : Format) (memory slots : ℕ) (files : List (List ℕ × List ℕ)) (failures : ℕ) → slots ≤ MOST_SLOTS → IsWorldOfFiles format (empty_world memory slots files failures)

-- Each step keeps what holds of every world, whatever the store answers,
abbrev pub WorldLaw : (honest : Type 0) → Type 0
WorldLaw honest = (format : Format) (old new : World) (command : AnyCommand) (reply : Reply) → IsWorld old → IsCommand command → Step honest format old command reply new → IsWorld new

-- and where the store is honest code still reads as its file's relocated bytes.
abbrev pub FilesLaw : (honest : Type 0) → Type 0
FilesLaw honest = (format : Format) (old new : World) (command : AnyCommand) (reply : Reply) → honest → IsWorldOfFiles format old → IsCommand command → Step honest format old command reply new → IsWorldOfFiles format new
