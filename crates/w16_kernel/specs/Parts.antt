-- A step over the parts of the machine that the kernel has.
use Rattle.std.specs.Prelude.{◌≡◌, ◌≢◌, ◌≤◌, ℕ, ◌/◌, ◌==◌, ◌||◌, Bool, true, if◌then◌else◌, List, length, Option, Some, None, option_map, unwrap_or, IfSome, IsSomeAnd}
use Rattle.std.specs.{Ordering.nat_cmp, FinMap.FinMap}
use Rattle.w16_loading.specs.Families.{AnyCommand}
use Rattle.w16_model.specs.Commands.Family.{OfHandles, OfResizes, OfFar, OfModules, OfResources, OfLocals}
use Rattle.w16_model.specs.Commands.Command.{GlobalAlloc, GlobalFree, GlobalCompact, GlobalReAlloc, GlobalDiscard, Read}
use Rattle.w16_model.specs.{Bytes.part, Changes.without, Handles.Handles, Handles.offset_in, Handles.selector_in, Handles.slot_of_selector, Heap.Heap, Table.Table}
use Rattle.w16_loading.specs.Modules.{IsSegmentOf, LoadingWorld, Module, with_handles}
use Rattle.w16_loading.specs.{Fewest.FewestOver, Answers.StepOver, Law.is_code, Fetch.segment_bytes, Law.IsOfFiles, Replies.Reply, Replies.Reply.Bytes, Replies.Reply.Word}
use Rattle.w16_format.specs.Ne.{ne_format}
use Rattle.w16_machine.specs.Rows.{may_take_bytes}
use Rattle.w16_machine.specs.{World.World, Law.IsWorld, Local.has_range, Local.left_in, LocalCalls.LocalStep, Law.IsOfLocals, Law.OnHandles, Machine.Step}
use Rattle.std.specs.FinMap as finmap
use Rattle.w16_loading.specs.Families.AnyCommand.{any}

-- the world that these parts are
abbrev pub world_of : LoadingWorld → FinMap nat_cmp Table → ℕ → World
world_of loading heaps ds = record { loading = loading; heaps = heaps; ds = ds }

-- What holds of each world over a store: it is one; and where the store is honest, all that is loaded is of its file.
abbrev pub IsWorldOver : Type 0 → World → Type 0
IsWorldOver honest w = IsWorld w × (honest → IsOfFiles ne_format w.loading)

-- A step before local heaps go whose segments lost their range. A call on handles changes these alone, and a call on modules or resources leaves
-- the tables of local heaps as they are. A far access has the heaps go itself, where it fetches.
abbrev pub Unswept : Type 0 → World → AnyCommand → Reply → World → Type 0
Unswept honest old (any OfHandles command) reply new =
    OnHandles old.loading.handles (any OfHandles command) reply new.loading.handles × (new ≡ record old { loading = with_handles old.loading new.loading.handles })
Unswept honest old (any OfResizes command) reply new =
    OnHandles old.loading.handles (any OfResizes command) reply new.loading.handles × (new ≡ record old { loading = with_handles old.loading new.loading.handles })
Unswept honest old (any OfFar command) reply new = Step honest ne_format old (any OfFar command) reply new
Unswept honest old (any OfModules command) reply new =
    StepOver honest ne_format old.loading (any OfModules command) reply new.loading × (new ≡ record old { loading = new.loading })
Unswept honest old (any OfResources command) reply new =
    StepOver honest ne_format old.loading (any OfResources command) reply new.loading × (new ≡ record old { loading = new.loading })
Unswept honest old (any OfLocals command) reply new = LocalStep old command reply new

-- What a call on handles alone does to them; and what one on modules or resources does to the part of the machine that has them.
abbrev pub OnGlobal : Handles → AnyCommand → Reply → Handles → Type 0
OnGlobal old (any OfHandles command) reply new = OnHandles old (any OfHandles command) reply new
OnGlobal old (any OfResizes command) reply new = OnHandles old (any OfResizes command) reply new
OnGlobal old command reply new = ⊥

abbrev pub OnModules : Type 0 → LoadingWorld → AnyCommand → Reply → LoadingWorld → Type 0
OnModules honest old (any OfModules command) reply new = StepOver honest ne_format old (any OfModules command) reply new
OnModules honest old (any OfResources command) reply new = StepOver honest ne_format old (any OfResources command) reply new
OnModules honest old command reply new = ⊥

-- and one on local heaps to the world
abbrev pub OnLocals : World → AnyCommand → Reply → World → Type 0
OnLocals old (any OfLocals command) reply new = LocalStep old command reply new
OnLocals old command reply new = ⊥

-- which calls these are
abbrev pub IsOnGlobal : AnyCommand → Type 0
IsOnGlobal (any OfHandles command) = Unit {0}
IsOnGlobal (any OfResizes command) = Unit {0}
IsOnGlobal command = ⊥

abbrev pub IsOfModules : AnyCommand → Type 0
IsOfModules (any OfModules command) = Unit {0}
IsOfModules (any OfResources command) = Unit {0}
IsOfModules command = ⊥

-- the same, but that the store may have failed more often
pub record IsSameLoading (old new : LoadingWorld) : Type 0 where
  pub counted : old.failures ≤ new.failures
  pub same : new ≡ record old { failures = new.failures }

-- the local heaps that are left where bytes may have been taken
abbrev pub surviving_heaps : Bool → Heap → FinMap nat_cmp Table → FinMap nat_cmp Table
surviving_heaps may_take heap tables = if may_take then left_in heap tables else tables

-- the world that a sweep after a command leaves
abbrev pub with_surviving : World → AnyCommand → World
with_surviving w command = record w { heaps = surviving_heaps (may_take_bytes command) w.loading.handles.heap w.heaps }

-- the slot that a handle names, if its object still has it after a GlobalReAlloc has answered this
abbrev pub kept_slot : ℕ → ℕ → Option ℕ
kept_slot handle answer = if (answer == 0) || (answer / 8 == handle / 8) then Some (handle / 8) else None

-- Of the five calls of programs that may take bytes, the slot of the object that is named, or that GlobalAlloc has made by the handle that it
-- answers: 0, which no object has, where there is none. A GlobalReAlloc that answers another handle has none.
abbrev pub object_slot : AnyCommand → ℕ → Option ℕ
object_slot (any _ (GlobalAlloc flags size)) answer = Some (answer / 8)
object_slot (any _ (GlobalFree handle)) answer = Some (handle / 8)
object_slot (any _ (GlobalCompact size)) answer = Some 0
object_slot (any _ (GlobalReAlloc handle size flags)) answer = kept_slot handle answer
object_slot (any _ (GlobalDiscard handle)) answer = Some (handle / 8)
object_slot command answer = None

-- the word that a reply is, 0 of any other
abbrev pub word_of : Reply → ℕ
word_of (Word n) = n
word_of reply = 0

-- how many discardable objects with bytes there are beside that in a slot
abbrev pub discardable_beside : Option ℕ → Heap → ℕ
discardable_beside slot heap = unwrap_or (option_map (λ slot. length (without slot heap.order)) slot) 0

-- Where there are as many as before, every local heap has its range but that in the object itself.
abbrev pub OthersStay : Option ℕ → ℕ → World → Type 0
OthersStay slot before w = IfSome slot
    (λ slot. before ≤ length (without slot w.loading.handles.heap.order) → (q : ℕ) → q ≢ slot → IfSome (finmap.get w.heaps q) (λ _. has_range w.loading.handles.heap w.heaps q ≡ true))

-- What a far read of code answers is a part of its file's bytes, relocated with the values that were bound at load: also where the code was
-- discarded and is fetched for it.
abbrev pub ReadsCode : World → AnyCommand → Reply → Type 0
ReadsCode old command reply = (pointer count : ℕ) (bytes : List ℕ) (slot handle number : ℕ) (m : Module)
    → command ≡ (any _ (Read pointer count)) → reply ≡ Bytes bytes
    → slot_of_selector old.loading.handles (selector_in pointer) ≡ Some slot → IsSegmentOf old.loading slot handle number m → is_code old.loading slot ≡ true
    → IsSomeAnd (segment_bytes ne_format old.loading m number) (λ image. bytes ≡ part image (offset_in pointer) count)

-- One step of the machine over a store, of New Executable files. Where the store is honest, code reads as its file's. A load or a fetch asks room for
-- the bytes that it read, discards as few objects for them as it can, and is refused only where they have no room or the device failed.
pub record KernelStep (honest : Type 0) (old : World) (command : AnyCommand) (reply : Reply) (new : World) : Type 0 where
  pub step : Step honest ne_format old command reply new
  pub code : honest → ReadsCode old command reply
  pub requests : (IsOfLocals command → ⊥) → FewestOver honest ne_format old.loading command reply new.loading
