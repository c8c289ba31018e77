-- What a load makes of files, and finds, by what its store answered.
use Rattle.w16_loader.specs
use Rattle.std.specs.Prelude.{◌≡◌, ◌<◌, ◌⊎◌, ℕ, true, List, [], ◌∷◌, map, length, All, None, Ok, Err}
use Rattle.std.specs.List.{AllZip}
use Rattle.w16_loading.specs.{Answers.Answers, Answers.ClosesFrom, Answers.ReadsFile, Answers.told, Closure.dll, Closure.Reading.Refused, Closure.Reading.Meant, File.ModuleFile, File.Tables, Refusals.OrRefused, Refusals.by_reference, declared.LoadRefusal.LoadRefusal, Modules.Modules}
use Rattle.w16_loading.specs.Modules.{free_modules}
use Rattle.w16_format.specs.{Ne.ne_format, Tables.tables_in}
use specs.Closing.{Files, around_in, found_in, meant_in, referent_of}
use specs.Following.{LeadsByName, pair_of}
use specs.{declared.tagged.Found.Found, declared.found.Reading.Reading, declared.closure.Closure.Closure, declared.closure.Followed.Followed, Reached.Begins, Reached.IsFoundOf, Naming.IsFit}
use Rattle.w16_loading.specs.Closure as closing
use Rattle.w16_ne.specs.Modules as ne
use Rattle.w16_loader.specs.declared.found.Reading.TheVariants as makes
use Rattle.w16_loader.specs.declared.closure.Followed.TheVariants as leads

-- a store's answers of what it read, whatever its count of failures
abbrev pub answers_of : (honest : Type 0) → Files → Answers
answers_of honest files = told honest ne_format files 0 0

-- The file of a name has these tables, its relocations are sound, and its segments have sizes that objects may have.
abbrev pub IsAccepted : Answers → List ℕ → Tables → Type 0
IsAccepted answers name t = answers.says name (Ok t) × answers.sound name t true × All IsFit t.segments

-- so those of some modules
abbrev pub AreAccepted : Answers → List closing.Found → Type 0
AreAccepted answers [] = Unit {0}
AreAccepted answers (f ∷ fs) = IsAccepted answers f.file f.read.tables × AreAccepted answers fs

-- and their files hold what they are said to
abbrev pub AreHeld : Answers → List closing.Found → Type 0
AreHeld answers [] = Unit {0}
AreHeld answers (f ∷ fs) = answers.holds f.file f.read × AreHeld answers fs

-- it closes to this in some number of steps
abbrev pub ClosesTo : Answers → Modules → closing.Closure → OrRefused closing.Closure → Type 0
ClosesTo answers modules closure outcome = (n : ℕ) × ClosesFrom answers (around_in modules []) n closure outcome

module _ {A : Type 0} (answers : Answers) (modules : Modules) (found : List (Found A)) where
  -- what a load of these modules, which has found others, makes of the file of a name
  abbrev pub ReadsIn : List ℕ → closing.Reading → Type 0
  ReadsIn name r = ReadsFile answers (around_in modules []) (map (found_in []) found) name r

  -- a new module: its name means nothing, and a handle is left for it
  abbrev pub IsNewIn : List ℕ → ne.Tables → Type 0
  IsNewIn name t = IsAccepted answers name (tables_in t) × (meant_in modules found t.name ≡ None) × (length found < free_modules modules)

  abbrev pub MakesOf : List ℕ → Reading A → Type 0
  MakesOf name (makes.Meant referent) = ReadsIn name (Meant (referent_of referent))
  MakesOf name (makes.Read tables) = IsNewIn name tables

  -- where a reference leads by the file that it is looked for in, and by its name
  abbrev pub LeadsByAnswer : List ℕ → Followed A → Type 0
  LeadsByAnswer file (leads.Meant referent) = ReadsIn file (Meant (referent_of referent))
  LeadsByAnswer file (leads.New f) = (f.file.items ≡ file) × IsNewIn file f.module

  abbrev pub LeadsTo : List ℕ → Followed A → Type 0
  LeadsTo name followed = LeadsByName modules found name followed ⊎ ((meant_in modules found name ≡ None) × LeadsByAnswer (dll name) followed)

  -- why the file of a reference refuses a load, and so the reference
  abbrev pub IsRefusedFile : List ℕ → LoadRefusal → Type 0
  IsRefusedFile file refusal = (why : LoadRefusal) × ReadsIn file (Refused why) × (refusal ≡ by_reference why)

  abbrev pub IsRefusedName : List ℕ → LoadRefusal → Type 0
  IsRefusedName name refusal = (meant_in modules found name ≡ None) × IsRefusedFile (dll name) refusal

  -- One closure comes of another, whatever else the files of the modules that were found hold: what it closes to, the other does.
  abbrev pub LeadsBy : (before after : List closing.Found → closing.Closure) → Type 0
  LeadsBy before after =
      (all : List closing.Found) → Begins found all → AreHeld answers all → (outcome : OrRefused closing.Closure) → ClosesTo answers modules (after all) outcome → ClosesTo answers modules (before all) outcome

  -- and so it is refused for this
  abbrev pub RefusesBy : (before : List closing.Found → closing.Closure) → LoadRefusal → Type 0
  RefusesBy before refusal = AreAccepted answers (map (found_in []) found) → (all : List closing.Found) → Begins found all → AreHeld answers all → ClosesTo answers modules (before all) (Err refusal)

-- the module of a file that is asked for alone comes to this
abbrev pub ClosesOf : Answers → Modules → List ℕ → Tables → OrRefused closing.Closure → Type 0
ClosesOf answers modules file t outcome = (read : ModuleFile) → read.tables ≡ t → answers.holds file read → ClosesTo answers modules (closing.begun file read) outcome

-- What the code has found and bound is a closure of a file, whatever its modules hold beside their tables.
abbrev pub IsClosureBy : {A : Type 0} → Answers → Modules → List ℕ → Tables → Closure A → Type 0
IsClosureBy answers modules file t c = (found : List closing.Found) → AllZip IsFoundOf c.found.items found → AreHeld answers found
    → (read : ModuleFile) × (read.tables ≡ t) × answers.holds file read × ClosesTo answers modules (closing.begun file read) (Ok (record { found = found; pending = []; bound = map pair_of c.bound.items }))
