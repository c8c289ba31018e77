-- Steps over what a store answers. Each time that a file is read it may say something else, so each question that a step puts has an answer of its
-- own, which says no more than what was read for it. A store that is honest answers what its files say.
use Rattle.w16_loading.specs
use Rattle.std.specs.Prelude.{◌≡◌, ℕ, zero, suc, ◌<◌, ◌≤◌, ◌⊎◌, Bool, true, false, List, [], ◌∷◌, length, Option, Some, None, IsSomeAnd, MatchOption, Ok, Err, MatchResult}
use Rattle.w16_model.specs.{Heap.Heap, Owned.owned_at}
use Rattle.w16_store.specs.Files.{file_of}
use specs.declared.LoadRefusal.TheVariants.{BadFile, NoFile, NoRoom}
use specs.File.{Saying, Format, ModuleFile, IsModuleFile, Tables}
use specs.Closure.{Around, Closure, Found, Reading, are_sound, around, begun, dll, meant, with_bound, with_found}
use specs.Closure.Referent.{There, New}
use specs.Closure.Reading.{Refused, Meant, Read}
use specs.Load.{Answer, LoadsNew, Refuses, refusal_of, used_again}
use specs.{declared.FetchFault.FetchFault, declared.LoadRefusal.LoadRefusal, Refusals.OrRefused, Refusals.by_reference, Refusals.is_of_format, Modules.LoadingWorld, Modules.with_heap, Fill.Giving, Fill.Fills, Fill.is_of_read, Load.Answer.StoreFails, Fetch.IsImage, Fetch.IsRead}
use specs.{Replies.Reply, Families.FamilyStep}
use Rattle.w16_loading.specs.Families.{AnyCommand}
use Rattle.std.specs.FinMap as finmap
use Rattle.w16_loading.specs.declared.FetchFault.TheVariants as faults

-- Which answers each question may get.
pub record Answers : Type 1 where
  -- the file of a name has these tables; or why it is refused
  pub says : List ℕ → OrRefused Tables → Type 0
  -- its relocations are sound, or not
  pub sound : List ℕ → Tables → Bool → Type 0
  -- a new module is of this file: what its records lead to, and what its segments hold
  pub holds : List ℕ → ModuleFile → Type 0
  -- what a segment was to hold is read as these bytes when it is filled
  pub again : (held read : List ℕ) → Type 0
  -- a slot's object, which a module owns, is read as these bytes
  pub gives : LoadingWorld → ℕ → List ℕ → Type 0
  -- what was there can't be read, for this reason
  pub fails : FetchFault → Type 0

-- Bytes for an object.

-- how a request for an object's bytes ends
abbrev pub Ending : Type 1
Ending = Heap → ℕ → List ℕ → Bool → Heap → Type 0

-- An object gets bytes of its size that were read for it; or there is no room for as many; or they can't be read, and nothing changes.
abbrev pub GivesRead : Ending → (MayFail : FetchFault → Type 0) → (IsSized IsRead : List ℕ → Type 0) → Heap → ℕ → Option FetchFault → Heap → Type 0
GivesRead ends MayFail IsSized IsRead old slot None new = (bytes : List ℕ) × IsSized bytes × IsRead bytes × ends old slot bytes true new
GivesRead ends MayFail IsSized IsRead old slot (Some faults.NoRoom) new = (bytes : List ℕ) × IsSized bytes × ends old slot bytes false new
GivesRead ends MayFail IsSized IsRead old slot (Some fault) new = MayFail fault × (new ≡ old)

-- as many as its owner says
abbrev pub IsOwnedSize : LoadingWorld → ℕ → List ℕ → Type 0
IsOwnedSize world slot bytes = IsSomeAnd (owned_at world.handles slot) (λ owned. length bytes ≡ owned.size)

-- a fetch
pub record FetchesFrom (ends : Ending) (answers : Answers) (old : LoadingWorld) (slot : ℕ) (fault : Option FetchFault) (new : LoadingWorld) : Type 0 where
  pub given : GivesRead ends answers.fails (IsOwnedSize old slot) (answers.gives old slot) old.handles.heap slot fault new.handles.heap
  pub rest : new ≡ with_heap old new.handles.heap

-- one of a load's segments, that was to hold these bytes
abbrev pub GivesFrom : Ending → Answers → Giving
GivesFrom ends answers old slot held fault new = GivesRead ends answers.fails (λ read. length read ≡ length held) (answers.again held) old slot fault new

-- Loads.

-- What a load makes of the file of a name. A name that is there decides before the relocations do, and these before the count of handles.
abbrev pub ReadsFile : Answers → Around → List Found → List ℕ → Reading → Type 0
ReadsFile answers a found name (Refused refusal) =
    answers.says name (Err refusal)
    ⊎ ((t : Tables) × answers.says name (Ok t) × (meant a found t.name ≡ None)
    × ((answers.sound name t false × (refusal ≡ BadFile)) ⊎ (answers.sound name t true × (a.free ≤ length found) × (refusal ≡ NoRoom))))
ReadsFile answers a found name (Meant referent) = (t : Tables) × answers.says name (Ok t) × (meant a found t.name ≡ Some referent)
ReadsFile answers a found name (Read read) =
    answers.says name (Ok read.tables) × (meant a found read.tables.name ≡ None) × answers.sound name read.tables true × answers.holds name read × (length found < a.free)

-- The closure that a reference leaves which nothing there means.
abbrev pub follow : Closure → ℕ → List ℕ → Reading → OrRefused Closure
follow closure place name (Refused refusal) = Err (by_reference refusal)
follow closure place name (Meant referent) = Ok (with_bound closure place referent)
follow closure place name (Read read) = Ok (with_bound (with_found closure (dll name) read) place (New (length closure.found)))

-- That many references are followed, each by what is there or by what its file says then, and none is left; or the last is refused.
abbrev pub ClosesFrom : Answers → Around → ℕ → Closure → OrRefused Closure → Type 0
ClosesFrom answers a zero closure outcome = (closure.pending ≡ []) × (outcome ≡ Ok closure)
ClosesFrom answers a (suc n) closure outcome =
    (place : ℕ) × (name : List ℕ) × (rest : List (ℕ × List ℕ)) × (closure.pending ≡ (place, name) ∷ rest)
    × MatchOption (meant a closure.found name)
    ((r : Reading) × ReadsFile answers a closure.found (dll name) r
    × MatchResult (follow (record closure { pending = rest }) place name r) (λ next. ClosesFrom answers a n next outcome) (λ refusal. outcome ≡ Err refusal))
    (λ referent. ClosesFrom answers a n (with_bound (record closure { pending = rest }) place referent) outcome)

-- A load by the file that it opens. When the records of new modules are bound, one of their files may read otherwise, or not at all: then it is
-- the same world.
abbrev pub LoadsFileFrom : Ending → Answers → Bool → LoadingWorld → List ℕ → Reading → Answer → LoadingWorld → Type 0
LoadsFileFrom ends answers is_load_module old file (Refused refusal) answer new = Refuses old refusal answer new
LoadsFileFrom ends answers is_load_module old file (Meant (There handle)) answer new = (answer, new) ≡ used_again is_load_module old handle (finmap.get old.modules handle)
LoadsFileFrom ends answers is_load_module old file (Meant (New place)) answer new = ⊥
LoadsFileFrom ends answers is_load_module old file (Read read) answer new =
    (count : ℕ) × (outcome : OrRefused Closure) × ClosesFrom answers (around old) count (begun file read) outcome
    × MatchResult outcome
    (λ closure. LoadsNew (GivesFrom ends answers) old closure answer new ⊎ ((place : ℕ) × (fault : FetchFault) × answers.fails fault × (answer ≡ refusal_of place fault) × (new ≡ old)))
    (λ refusal. Refuses old refusal answer new)

-- the store may fail while files are read
abbrev pub LoadsFrom : Ending → Answers → Bool → LoadingWorld → List ℕ → Answer → LoadingWorld → Type 0
LoadsFrom ends answers is_load_module old file answer new =
    (answers.fails faults.Store × (answer ≡ StoreFails) × (new ≡ old))
    ⊎ ((r : Reading) × ReadsFile answers (around old) [] file r × LoadsFileFrom ends answers is_load_module old file r answer new)

-- One step by the answers that it got. What a family's definition says is of worlds with one count of failures.
pub record StepFrom (ends : Ending) (answers : Answers) (old : LoadingWorld) (command : AnyCommand) (reply : Reply) (new : LoadingWorld) : Type 0 where
  pub counted : old.failures ≤ new.failures
  pub files : new.files ≡ old.files
  pub step : FamilyStep (FetchesFrom ends answers) (LoadsFrom ends answers) old command reply (record new { failures = old.failures })

-- The answers of a store.

-- what a file says, or why it is refused
abbrev pub said_by : Saying → Option (List ℕ) → OrRefused ModuleFile
said_by says None = Err NoFile
said_by says (Some bytes) = says bytes

-- Why a file is refused: whatever the store, there is none only where no file has the name; or it isn't accepted.
abbrev pub RefusesFile : Option (List ℕ) → LoadRefusal → Type 0
RefusesFile file refusal = ((refusal ≡ NoFile) × (file ≡ None)) ⊎ (is_of_format refusal ≡ true)

-- it has these tables, or is refused for this
abbrev pub HasTables : OrRefused ModuleFile → OrRefused Tables → Type 0
HasTables (Ok read) (Ok t) = read.tables ≡ t
HasTables (Err m) (Err n) = m ≡ n
HasTables other said = ⊥

-- why bytes can't be read: the store's device failed, and the count rose; or, where the store isn't honest, the file isn't what it was
abbrev pub MayFail : (honest : Type 0) → (before after : ℕ) → FetchFault → Type 0
MayFail honest before after fault = (is_of_read fault ≡ true) × (fault ≡ faults.Store → before < after) × (honest → fault ≡ faults.Store)

-- Whatever the store: refusals of files, files of modules, bytes of the right size, relocated as the load bound them. Where it is honest:
-- what its files say.
abbrev pub told : (honest : Type 0) → Format → (files : List (List ℕ × List ℕ)) → (before after : ℕ) → Answers
told honest format files before after = record {
  says = λ name said. MatchResult said (λ t. Unit {0}) (RefusesFile (file_of files name)) × (honest → HasTables (said_by format.says (file_of files name)) said);
  sound = λ name t b. honest → MatchResult (said_by format.says (file_of files name)) (λ read. are_sound read ≡ b) (λ refusal. ⊥);
  holds = λ name read. IsModuleFile read × (are_sound read ≡ true) × (honest → said_by format.says (file_of files name) ≡ Ok read);
  again = λ held read. honest → read ≡ held;
  gives = λ world slot bytes. IsRead format world slot bytes × (honest → IsImage format world slot bytes);
  fails = MayFail honest before after;
}

-- THE step over a store that is honest where the premise holds.
abbrev pub StepOver : (honest : Type 0) → Format → LoadingWorld → AnyCommand → Reply → LoadingWorld → Type 0
StepOver honest format old command reply new = StepFrom Fills (told honest format old.files old.failures new.failures) old command reply new
