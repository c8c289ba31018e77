-- Files that come while a machine runs.
use Rattle.std.specs.Prelude.{◌≡◌, ◌<◌, ℕ, true, List, [], length, nat_lt, if◌then◌else◌, Option, Some, None, IsSome, is_some, Result, Err, refl}
use Rattle.std.specs.Coded.{Coded, code_by, coded×, coded_ℕ, coded_list, coded_option}
use Rattle.w16_store.specs.{Files.file_of, Files.AreWith, Files.AreWithout, Names.is_named, declared.store.StoreFault.StoreFault, declared.store.StoreFault.TheVariants.Missing}
use Rattle.w16_loading.specs.Modules.{LoadingWorld, Module, Modules, module_at}
use Rattle.w16_machine.specs.World.{World}
use Rattle.w16_kernel.specs.declared.growing.AddFault.TheVariants.{Exists, Memory, Unnamed}
use Rattle.w16_kernel.specs.declared.growing.RemoveFault.TheVariants as remove
use Rattle.w16_kernel.specs.{declared.growing.RemoveFault.RemoveFault, declared.growing.AddFault.AddFault, declared.growing.TheConstants.MOST_NAME}

-- A store that grows: its files, and the name by which a length was last asked for and no file found, if it is kept.
pub record Growing : Type 0 where
  pub files : List (List ℕ × List ℕ)
  pub missed : Option (List ℕ)

abbrev pub growing_code : Coded Growing
growing_code = code_by (List (List ℕ × List ℕ) × Option (List ℕ)) (coded× (coded_list (coded× (coded_list coded_ℕ) (coded_list coded_ℕ)))
    (coded_option (coded_list coded_ℕ))) (λ s. (s.files, s.missed)) (λ p. record { files = p.0; missed = p.1 }) (λ _. refl)

-- the name that is kept of a file, by what was said of its length: that of none, unless it is too long
abbrev pub missed_by : Result ℕ StoreFault → List ℕ → Option (List ℕ)
missed_by (Err Missing) name = if nat_lt MOST_NAME (length name) then None else Some name
missed_by len name = None

-- why a file isn't added: another one has the name; or none has, and there was no memory
abbrev pub IsNotAdded : List (List ℕ × List ℕ) → List ℕ → AddFault → Type 0
IsNotAdded files name Unnamed = name ≡ []
IsNotAdded files name Exists = IsSome (file_of files name)
IsNotAdded files name Memory = file_of files name ≡ None

-- the same world, with one file more
pub record AddsFile (old : World) (name bytes : List ℕ) (new : World) : Type 0 where
  pub named : 0 < length name
  pub unnamed : file_of old.loading.files name ≡ None
  pub files : AreWith name bytes old.loading.files new.loading.files
  pub rest : new ≡ record old { loading = record old.loading { files = new.loading.files } }

-- a module is loaded from the file of a name
pub record IsLoadedFrom (modules : Modules) (name : List ℕ) : Type 0 where
  pub handle : ℕ
  pub m : Module
  pub loaded : module_at modules handle ≡ Some m
  pub named : is_named name m.file ≡ true

-- why a file isn't taken away: a module is loaded from it; or no file has the name
abbrev pub IsNotRemoved : LoadingWorld → List ℕ → RemoveFault → Type 0
IsNotRemoved world name remove.InUse = IsLoadedFrom world.modules name
IsNotRemoved world name remove.Missing = file_of world.files name ≡ None

-- the same world without a file, from which no module is loaded
pub record RemovesFile (old : World) (name : List ℕ) (new : World) : Type 0 where
  pub unused : IsLoadedFrom old.loading.modules name → ⊥
  pub had : is_some (file_of old.loading.files name) ≡ true
  pub files : AreWithout name old.loading.files new.loading.files
  pub rest : new ≡ record old { loading = record old.loading { files = new.loading.files } }
