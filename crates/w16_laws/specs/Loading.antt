-- The laws of files, loads, fetches and uses that end on which nothing stands.
use Rattle.std.specs.Prelude.{◌≡◌, ◌≢◌, ℕ, ◌-◌, ◌<◌, ◌≤◌, ◌⊎◌, Bool, true, List, length, Option, Some, None, ◌↔◌}
use Rattle.std.specs.{List.AllByRecursion}
use Rattle.w16_model.specs.{Heap.Heap, Heap.IsHeap, Heap.bytes_at, CallLaws.IsKeptOrDiscarded, Law.KeepsOthers}
use Rattle.w16_model.specs.Commands.{Command}
use Rattle.w16_loading.specs.Families.{AnyCommand}
use Rattle.w16_model.specs.Commands.Family.{OfHandles}
use Rattle.w16_loading.specs
use specs.declared.TheConstants.{FIRST_MODULE, LARGEST_OWNED, MOST_MODULES, MOST_USES}
use specs.Modules.{with_heap, LoadingWorld, Module, value_of, IsSegmentOf, module_at, importers}
use specs.Closure.{Around, Closure, Found, around}
use specs.Naming.{Choice, AreSlots, free_slots, segments_in, given, with_modules, unbound, bound}
use specs.Answers.{ClosesFrom, GivesFrom, StepOver, told, LoadsFrom}
use specs.Law.{is_code, FetchesOver, IsLoadingWorld, CodeIsItsFiles, OnlyDiscards, IsRefusal}
use specs.{File.Saying, File.Format, File.Target, Fill.Fills, Fill.Filling, Fill.Failure, Fill.InTurn, Load.Answer.Says, Families.HandleStep, declared.FetchFault.FetchFault, Refusals.OrRefused, Load.Answer, Replies.Reply, Free.Go, Free.Frees}
use Rattle.w16_laws.specs.Closing.{Closes}
use Rattle.std.specs.FinMap as finmap
use Rattle.w16_loading.specs.declared.FetchFault.TheVariants as faults

-- a load over a store whose count of failures went from one number to another meanwhile
abbrev pub LoadsOver : (honest : Type 0) → Format → (before after : ℕ) → Bool → LoadingWorld → List ℕ → Answer → LoadingWorld → Type 0
LoadsOver honest format before after is_load_module old file answer new = LoadsFrom Fills (told honest format old.files before after) is_load_module old file answer new

-- the figures of the profile, each as it is told to users
pub record AreFigures : Type 0 where
  pub first_module : FIRST_MODULE ≡ 33
  pub most_modules : MOST_MODULES ≡ 200
  pub most_uses : MOST_USES ≡ 65000
  pub largest_owned : LARGEST_OWNED ≡ 65536

-- Calls on handles keep what holds of every world: what a module owns keeps its kind and its size, whatever is moved or discarded.
abbrev pub CallsKeepWorldsLaw : Type 0
CallsKeepWorldsLaw = (old new : LoadingWorld) (command : Command OfHandles) (reply : Reply) → IsLoadingWorld old → HandleStep old command reply new
    → IsLoadingWorld new

-- what was bound at load stays until the module goes
abbrev pub BoundOnceLaw : (honest : Type 0) → Type 0
BoundOnceLaw honest = (format : Format) (old new : LoadingWorld) (command : AnyCommand) (reply : Reply) → StepOver honest format old command reply new
    → (handle : ℕ) (m n : Module) → module_at old.modules handle ≡ Some m → module_at new.modules handle ≡ Some n → (n.values ≡ m.values) × (n.slots ≡ m.slots) × (n.imports ≡ m.imports)

-- the files decide which modules a load finds: one outcome
abbrev pub OneClosureLaw : Type 0
OneClosureLaw = (says : Saying) (a : Around) (closure : Closure) (x y : OrRefused Closure) → Closes says a closure x → Closes says a closure y → x ≡ y

-- and there is one, also where each file asks for another without end
abbrev pub ClosureEndsLaw : Type 0
ClosureEndsLaw = (says : Saying) (a : Around) (closure : Closure) → (outcome : OrRefused Closure) × Closes says a closure outcome

-- It is the one that a load gets from the answers of an honest store.
abbrev pub ClosureFilesLaw : (honest : Type 0) → Type 0
ClosureFilesLaw honest = (format : Format) (before after : ℕ) (old : LoadingWorld) (count : ℕ) (closure : Closure) (outcome : OrRefused Closure) → honest
    → ClosesFrom (told honest format old.files before after) (around old) count closure outcome → Closes format.says (around old) closure outcome

-- a load over an honest store that is refused with no handle taken leaves the same world: every number but 0
abbrev pub EarlyRefusalLaw : (honest : Type 0) → Type 0
EarlyRefusalLaw honest = (format : Format) (before after : ℕ) (is_load_module : Bool) (old new : LoadingWorld) (file : List ℕ) (number : ℕ) → honest → IsLoadingWorld old
    → LoadsOver honest format before after is_load_module old file (Says number) new
    → 0 < number → number < FIRST_MODULE → new ≡ old

-- a load's requests keep the objects that aren't its own, except the bytes of those that they discard, however far they came
abbrev pub FillsLaw : (honest : Type 0) → Type 0
FillsLaw honest = (format : Format) (files : List (List ℕ × List ℕ)) (before after : ℕ) (old new : Heap) (xs : List Filling) (failure : Option Failure) → IsHeap old
    → InTurn (GivesFrom Fills (told honest format files before after)) old xs failure new
    → IsHeap new × ((q : ℕ) → AllByRecursion (λ x. q ≢ x.slot) xs → IsKeptOrDiscarded old new q)

-- a refused load leaves the same world, except discards, whatever was read
abbrev pub RefusedLoadLaw : (honest : Type 0) → Type 0
RefusedLoadLaw honest = (format : Format) (before after : ℕ) (is_load_module : Bool) (old new : LoadingWorld) (file : List ℕ) (answer : Answer) → IsLoadingWorld old
    → LoadsOver honest format before after is_load_module old file answer new → IsRefusal answer
    → OnlyDiscards old.handles.heap new.handles.heap × (new ≡ with_heap old new.handles.heap)

-- there are slots for the segments of a load exactly where as many are free
abbrev pub SlotsLaw : Type 0
SlotsLaw = (world : LoadingWorld) (found : List Found)
    → (segments_in found ≤ length (free_slots world.handles)) ↔ ((slots : List (List ℕ)) × AreSlots world found slots)

-- a record is bound to the same by the modules of a load, bound or not yet
abbrev pub BoundAlikeLaw : Type 0
BoundAlikeLaw = (old : LoadingWorld) (closure : Closure) (choice : Choice) (m : Module) (target : Target)
    → value_of (finmap.get (with_modules (bound old closure choice) (given closure choice) old.modules)) m target ≡ value_of (finmap.get (with_modules (unbound closure choice) (given closure choice) old.modules)) m target

-- What code of a module had as bytes, it has again once it is fetched, whatever was moved, discarded or loaded between, while its module and
-- the files stay.
abbrev pub FetchAgainLaw : (honest : Type 0) → Type 0
FetchAgainLaw honest = (format : Format) (from to : ℕ) (before absent after : LoadingWorld) (slot handle number : ℕ) (m : Module) (bytes : List ℕ) → honest → IsLoadingWorld absent
    → CodeIsItsFiles format before
    → IsSegmentOf before slot handle number m → is_code before slot ≡ true → bytes_at before.handles.heap slot ≡ Some bytes
    → absent.modules ≡ before.modules → absent.files ≡ before.files → FetchesOver honest format from to absent slot None after → bytes_at after.handles.heap slot ≡ Some bytes

-- a fetch keeps all other objects, except those that it discards, of which it takes the bytes alone; and nothing else changes
pub record FetchKeeps (old : LoadingWorld) (slot : ℕ) (new : LoadingWorld) : Type 0 where
  pub number : ℕ
  pub others : KeepsOthers old.handles.heap (Some slot) number new.handles.heap
  pub rest : new ≡ record old { handles = record old.handles { heap = new.handles.heap } }

-- so every fetch does, answered or refused
abbrev pub FetchLaw : (honest : Type 0) → Type 0
FetchLaw honest = (format : Format) (before after : ℕ) (old new : LoadingWorld) (slot : ℕ) (fault : Option FetchFault) → IsHeap old.handles.heap
    → FetchesOver honest format before after old slot fault new → FetchKeeps old slot new

-- a fetch that is refused leaves the same world
abbrev pub FetchRefusedLaw : (honest : Type 0) → Type 0
FetchRefusedLaw honest = (format : Format) (before after : ℕ) (old new : LoadingWorld) (slot : ℕ) (fault : FetchFault) → FetchesOver honest format before after old slot (Some fault) new → new ≡ old

-- files that stay never read otherwise than they did: only the device and want of room refuse a fetch
abbrev pub FetchFaultsLaw : (honest : Type 0) → Type 0
FetchFaultsLaw honest = (format : Format) (before after : ℕ) (old new : LoadingWorld) (slot : ℕ) (fault : FetchFault) → honest → FetchesOver honest format before after old slot (Some fault) new
    → (fault ≡ faults.Store) ⊎ (fault ≡ faults.NoRoom)

-- Explicit uses and importers are counted apart. A module that others import, or that has another explicit use, loses one use at most, and all
-- else stays; where it has no explicit use, nothing at all changes.
pub record LosesUse (old : LoadingWorld) (handle answer : ℕ) (m : Module) (new : LoadingWorld) : Type 0 where
  pub answered : answer ≡ 1
  pub less : module_at new.modules handle ≡ Some (record m { uses = m.uses - 1 })
  pub others : (other : ℕ) → other ≢ handle → finmap.get new.modules other ≡ finmap.get old.modules other
  pub handles : new.handles ≡ old.handles
  pub loads : new.loads ≡ old.loads
  pub unused : m.uses ≡ 0 → new ≡ old

abbrev pub UsesApartLaw : Type 0
UsesApartLaw = (old new : LoadingWorld) (handle answer : ℕ) (m : Module) → IsLoadingWorld old → module_at old.modules handle ≡ Some m
    → (0 < importers old.modules handle) ⊎ (1 < m.uses) → Frees old handle answer new → LosesUse old handle answer m new

-- the order in which unused modules go doesn't matter
abbrev pub OneEndLaw : Type 0
OneEndLaw = (old a b : LoadingWorld) (xs ys : List ℕ) → Go old xs a → Go old ys b → a ≡ b
