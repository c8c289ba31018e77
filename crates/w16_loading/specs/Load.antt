-- Loads: LoadModule and LoadLibrary.
use Rattle.w16_loading.specs
use Rattle.std.specs.Prelude.{◌≡◌, ℕ, ◌+◌, ◌<◌, ◌⊎◌, Bool, not, ◌&&◌, ◌==◌, if◌then◌else◌, nat_lt, length, Option, Some, None, slice_index_or}
use Rattle.w16_model.specs.{Heap.Heap, Discards.is_member}
use specs.declared.LoadRefusal.TheVariants.{BadFile, BadReference, LoadedTwice, NoRoom}
use specs.Modules.{LoadingWorld, Module, Named, with_heap}
use specs.Naming.{free_slots, segments_in, IsChoice, Choice, all_slots, named, fills}
use specs.{declared.TheConstants.MOST_USES, declared.FetchFault.FetchFault, declared.LoadRefusal.LoadRefusal, Refusals.refusal_number, Modules.Named.Loaded, Fill.Giving, Fill.Failure, Fill.InTurn, Release.heap_without, Closure.Closure}
use Rattle.std.specs.FinMap as finmap
use Rattle.w16_loading.specs.declared.FetchFault.TheVariants as faults

-- a handle or the number of a refusal, or that the store's device failed
pub data Answer : Type 0 where
  Says : (word : ℕ) → Answer
  StoreFails : Answer

abbrev pub refused_with : LoadRefusal → Answer
refused_with refusal = Says (refusal_number refusal)

-- an answer in the same world
abbrev pub Refuses : LoadingWorld → LoadRefusal → Answer → LoadingWorld → Type 0
Refuses old refusal answer new = (answer ≡ refused_with refusal) × (new ≡ old)

-- A load of a module that is there. An application isn't loaded twice by LoadModule; 65,000 explicit uses are full.
abbrev pub after_use : LoadingWorld → ℕ → Module → LoadingWorld
after_use world handle m = record world { modules = finmap.insert world.modules handle (Loaded (record m { uses = m.uses + 1 })) }

abbrev pub used_again : Bool → LoadingWorld → ℕ → Option Named → Answer × LoadingWorld
used_again is_load_module old handle (Some (Loaded m)) =
    if is_load_module && not m.tables.is_library then (refused_with LoadedTwice, old)
    else (if nat_lt m.uses MOST_USES then (Says handle, after_use old handle m) else (refused_with NoRoom, old))
used_again is_load_module old handle other = (Says handle, old)

-- What becomes of a load that has names: answered, or all that it made is gone but the discards that were made for it. A file that reads
-- otherwise than it did is as one that isn't accepted.
abbrev pub refusal_of : ℕ → FetchFault → Answer
refusal_of place faults.Store = StoreFails
refusal_of place faults.Damaged = refused_with (if place == 0 then BadFile else BadReference)
refusal_of place faults.NoRoom = refused_with NoRoom

abbrev pub outcome_of : Option Failure → ℕ → Answer
outcome_of None handle = Says handle
outcome_of (Some failure) handle = refusal_of failure.place failure.fault

abbrev pub undone : LoadingWorld → Choice → Heap → LoadingWorld
undone old choice heap = with_heap old (heap_without (λ q. is_member q (all_slots choice)) heap)

abbrev pub left : Option Failure → LoadingWorld → LoadingWorld → LoadingWorld
left None loaded refused = loaded
left (Some failure) loaded refused = refused

pub record Fulfils (gives : Giving) (old : LoadingWorld) (closure : Closure) (answer : Answer) (new : LoadingWorld) : Type 0 where
  pub choice : Choice
  pub is_choice : IsChoice old closure.found choice
  pub failure : Option Failure
  pub heap : Heap
  pub filled : InTurn gives (named old closure choice).handles.heap (fills old closure choice) failure heap
  pub answered : answer ≡ outcome_of failure (slice_index_or choice.handles 0 0)
  pub after : new ≡ left failure (with_heap (named old closure choice) heap) (undone old choice heap)

-- a load of new modules, which is refused where there are too few slots
abbrev pub LoadsNew : Giving → LoadingWorld → Closure → Answer → LoadingWorld → Type 0
LoadsNew gives old closure answer new =
    ((length (free_slots old.handles) < segments_in closure.found) × Refuses old NoRoom answer new) ⊎ Fulfils gives old closure answer new
