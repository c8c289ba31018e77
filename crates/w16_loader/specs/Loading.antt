-- Loads of modules, as the code answers them.
use Rattle.std.specs.Prelude.{◌≡◌, ℕ, ◌⊎◌, Bool, true, false, not, ◌==◌, if◌then◌else◌, List, fold, slice_index_or, IfOk, Option, None, Some, Result, Ok, Err, alloc_error}
use Rattle.std.specs.{List.AllZip, declared.alloc.AllocError.AllocError}
use Rattle.w16_store.specs.Files.{file_of}
use Rattle.w16_model.specs.Handles.{Handles}
use Rattle.w16_format.specs.Ne.{ne_format}
use Rattle.w16_loading.specs.{Answers.GivesFrom, Answers.MayFail, Answers.told, Fewest.FillsFewest}
use Rattle.w16_loading.specs.{Closure.are_sound, Free.without_module, Load.Answer, Load.LoadsNew, Load.refusal_of, Load.Answer.Says, Load.Answer.StoreFails, Modules.LoadingWorld, Modules.Module, Modules.Modules, Refusals.refusal_number, declared.FetchFault.FetchFault}
use Rattle.w16_loading.specs.declared.LoadRefusal.{LoadRefusal}
use Rattle.w16_loading.specs.declared.LoadRefusal.TheVariants.{BadFile, BadReference, NoRoom}
use Rattle.w16_loader.specs.declared.fault.LoadFault.TheVariants.{Refused, Device, OutOfMemory}
use Rattle.w16_loader.specs.{declared.loading.LoadAnswer.LoadAnswer, declared.fault.LoadFault.LoadFault, Closing.Files, Closing.said, Reached.IsAlike, Answering.AreHeld, Answering.answers_of, Fetching.in_parts, Registry.in_world}
use Rattle.w16_loading.specs.Closure as closing
use Rattle.w16_loader.specs.declared.loading.LoadAnswer.TheVariants as answers
use Rattle.w16_loading.specs.declared.FetchFault.TheVariants as fetches

-- what the code answers, as loading has it
abbrev pub load_answer : LoadAnswer → Answer
load_answer (answers.Says word) = Says word
load_answer answers.StoreFails = StoreFails

-- what it answers where a load fails; an error is that there was no memory
abbrev pub refused_by : LoadFault → Result LoadAnswer AllocError
refused_by (Refused refusal) = Ok (answers.Says (refusal_number refusal))
refused_by Device = Ok answers.StoreFails
refused_by OutOfMemory = Err alloc_error

-- why it fails where the file of the new module at a place reads otherwise than it did, and where an object of it gets no bytes
abbrev pub damage_at : ℕ → LoadRefusal
damage_at place = if place == 0 then BadFile else BadReference

abbrev pub fault_of_failure : ℕ → FetchFault → LoadFault
fault_of_failure place fetches.Store = Device
fault_of_failure place fetches.NoRoom = Refused NoRoom
fault_of_failure place fetches.Damaged = Refused (damage_at place)

-- an application, and no library, is there
abbrev pub is_application : Option Module → Bool
is_application None = false
is_application (Some m) = not m.tables.is_library

-- a world that has these modules, handles, files and this count of failures, whatever else
abbrev pub in_store : LoadingWorld → Modules → Handles → Files → ℕ → LoadingWorld
in_store rest modules handles files failures = in_world (in_parts rest handles files failures) modules

-- a new module is what its file says, and its relocations are sound
abbrev pub IsOfFile : Files → closing.Found → Type 0
IsOfFile files f = (said (file_of files f.file) ≡ Ok f.read) × (are_sound f.read ≡ true)

-- A load whose closure is known, over a store whose count of failures went from one number to another: it is of modules that are those, whatever
-- their files hold beside their tables; or one of them couldn't be bound.
abbrev pub LoadsHeld : (honest : Type 0) → Files → (before after : ℕ) → LoadingWorld → closing.Closure → Answer → LoadingWorld → Type 0
LoadsHeld honest files before after old closure answer new =
    (found : List closing.Found) × AllZip IsAlike closure.found found × AreHeld (answers_of honest files) found
    × (LoadsNew (GivesFrom FillsFewest (told honest ne_format files before after)) old (record closure { found = found }) answer new
    ⊎ ((place : ℕ) × (fault : FetchFault) × MayFail honest before after fault × (answer ≡ refusal_of place fault) × (new ≡ old)))

-- New modules that have names were bound and filled, and their load is done; or that failed, and then it is once they are gone again. Want of memory
-- says nothing.
abbrev pub IsGivenHeld : (honest : Type 0) → Files → (before after : ℕ) → LoadingWorld → closing.Closure → List ℕ → Result (Unit {0}) LoadFault → LoadingWorld → Type 0
IsGivenHeld honest files before after old closure handles (Ok done) new = LoadsHeld honest files before after old closure (Says (slice_index_or handles 0 0)) new
IsGivenHeld honest files before after old closure handles (Err fault) new = IfOk (refused_by fault) (λ answer. LoadsHeld honest files before after old closure (load_answer answer) (fold without_module new handles))
