-- How the modules of a load get the values of their relocation records, and what their files say.
use Rattle.std.specs.Prelude.{◌≡◌, ℕ, ◌<◌, true, List, ◌∷◌, length, map, Some, None, IfSome, IsSomeAnd, Ok}
use Rattle.std.specs.List.{AllZip}
use Rattle.w16_store.specs.Files.{file_of}
use Rattle.w16_ne.specs.Modules.{tables_at}
use Rattle.w16_loading.specs.Modules.{Lookup, Module, Modules, module_at, value_of}
use Rattle.w16_loading.specs.{Closure.are_sound, File.Far, File.ModuleFile, File.Target, Modules.Named.Loaded}
use Rattle.w16_format.specs.{Data.far_of, Ne.ne_format, Tables.tables_in}
use Rattle.w16_loader.specs.{Closing.Files, Closing.IsFault, declared.fault.LoadFault.LoadFault, Loading.damage_at}
use Rattle.std.specs.FinMap as finmap
use Rattle.w16_ne.specs.Modules as ne
use Rattle.w16_reloc.specs.declared.value.Far as words
use Rattle.w16_loader.specs.declared.fault.LoadFault.TheVariants as faults

-- Values.

-- the values of a module's segments for these targets, by what handles name
abbrev pub values_for : Lookup → Module → List (List Target) → List (List Far)
values_for named m targets = map (λ ts. map (value_of named m) ts) targets

module _ (named : Lookup) (m : Module) where
  abbrev pub AreValuesOf : List Target → List words.Far → Type 0
  AreValuesOf targets fars = map far_of fars ≡ map (value_of named m) targets

-- Modules.

-- the module of a handle with these values; a handle that names none changes nothing
abbrev pub with_values : Modules → ℕ → List (List Far) → Modules
with_values modules handle values = elim (module_at modules handle) [ None ↦ modules | Some m ↦ finmap.insert modules handle (Loaded (record m { values = values })) ]

-- one module bound
abbrev pub bound_as : Lookup → Modules → ℕ → List (List Target) → Modules
bound_as named modules handle targets = elim (module_at modules handle) [ None ↦ modules | Some m ↦ finmap.insert modules handle (Loaded (record m { values = values_for named m targets })) ]

-- several, one after another
abbrev pub all_bound : Lookup → Modules → List ℕ → List (List (List Target)) → Modules
all_bound named modules (h ∷ hs) (ts ∷ more) = all_bound named (bound_as named modules h ts) hs more
all_bound named modules hs more = modules

-- as many lists of targets as the module of a handle has segments, and so for each handle
abbrev pub IsForEach : Modules → ℕ → List (List Target) → Type 0
IsForEach modules handle targets = IfSome (module_at modules handle) (λ m. length targets ≡ length m.tables.segments)

abbrev pub AreTargets : Modules → List ℕ → List (List (List Target)) → Type 0
AreTargets modules handles targets = AllZip (IsForEach modules) handles targets

-- Files.

-- the module's file is there, with the tables that the module was loaded with
pub record IsStoredAs (files : Files) (m : Module) (file : List ℕ) (t : ne.Tables) : Type 0 where
  pub stored : file_of files m.file ≡ Some file
  pub read : tables_at (Some file) ≡ Ok t
  pub tables : tables_in t ≡ m.tables

-- What a module's file says: it is there, is accepted with the tables that the module was loaded with, and its relocations are sound.
pub record IsSaid (files : Files) (m : Module) (read : ModuleFile) : Type 0 where
  pub file : List ℕ
  pub stored : file_of files m.file ≡ Some file
  pub accepted : ne_format.says file ≡ Ok read
  pub tables : read.tables ≡ m.tables
  pub sound : are_sound read ≡ true

abbrev pub AreSaid : Files → Modules → List ℕ → List ModuleFile → Type 0
AreSaid files modules handles reads = AllZip (λ handle read. IsSomeAnd (module_at modules handle) (λ m. IsSaid files m read)) handles reads

-- Faults.

-- Over files that still say what they said no module is refused: the device failed, or there was no memory.
abbrev pub IsFailure : ℕ → ℕ → LoadFault → Type 0
IsFailure = IsFault (λ refusal. ⊥)

-- over any store, the file of one of that many modules is refused
abbrev pub IsUnread : ℕ → LoadFault → Type 0
IsUnread many (faults.Refused refusal) = (place : ℕ) × (place < many) × (refusal ≡ damage_at place)
IsUnread many other = Unit {0}
