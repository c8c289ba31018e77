-- What a load has found, as the code keeps it, and what it makes of a name and of a file.
use Rattle.std.specs.Prelude.{◌≡◌, ◌<◌, ℕ, List, [], length, map, false, Option, Some, IsSomeAnd, unwrap_or, Ok}
use Rattle.w16_store.specs.{Files.file_of, declared.store.StoreFault.StoreFault}
use Rattle.w16_ne.specs.{declared.fault.NeFault.NeFault, Modules.tables_at}
use Rattle.w16_reloc.specs.declared.fault.RelocFault.{RelocFault}
use Rattle.w16_loading.specs.{Answers.said_by, File.ModuleFile, Modules.Modules, Modules.Named, Modules.handle_named, Modules.free_modules, Closure.Around, Closure.are_sound, Closure.Referent.There, Closure.Referent.New, Closure.Reading.Meant, Closure.Reading.Read, Refusals.OrRefused}
use Rattle.w16_loading.specs.declared.LoadRefusal.{LoadRefusal}
use Rattle.w16_format.specs.Ne.{ne_format, module_file, refusal_by_format}
use Rattle.w16_loading.specs.declared.LoadRefusal.TheVariants.{BadFile, NoFile}
use Rattle.w16_loader.specs.declared.fault.LoadFault.TheVariants.{Refused, Device, OutOfMemory}
use Rattle.w16_loader.specs.{declared.tagged.Found.Found, declared.found.Referent.Referent, declared.found.Reading.Reading, declared.fault.LoadFault.LoadFault}
use Rattle.std.specs.FinMap as finmap
use Rattle.w16_store.specs.declared.store.StoreFault.TheVariants as stores
use Rattle.w16_ne.specs.declared.fault.NeFault.TheVariants as faults
use Rattle.w16_ne.specs.Modules as ne
use Rattle.w16_reloc.specs.declared.fault.RelocFault.TheVariants as relocs
use Rattle.w16_loading.specs.Closure as closing
use Rattle.w16_loader.specs.declared.found.Referent.TheVariants as refers
use Rattle.w16_loader.specs.declared.found.Reading.TheVariants as makes

abbrev pub Files : Type 0
Files = List (List ℕ × List ℕ)

-- what a load asks of these modules, and of a store with these files
abbrev pub around_in : Modules → Files → Around
around_in modules files = record { named = handle_named modules; file = file_of files; free = free_modules modules }

abbrev pub referent_of : Referent → closing.Referent
referent_of (refers.There handle) = There handle
referent_of (refers.New place) = New place

-- what the file of a name says, by the tables that were read of it
abbrev pub read_in : Files → List ℕ → ne.Tables → ModuleFile
read_in files name tables = module_file (unwrap_or (file_of files name) []) tables

module _ {A : Type 0} where
  abbrev pub found_in : Files → Found A → closing.Found
  found_in files f = record { file = f.file.items; read = read_in files f.file.items f.module }

-- what a file says, or why it is refused
abbrev pub said : Option (List ℕ) → OrRefused ModuleFile
said = said_by ne_format.says

-- the tables are those of a file that is there and is accepted
abbrev pub IsFileWith : Option (List ℕ) → ne.Tables → Type 0
IsFileWith file tables = IsSomeAnd file (λ bytes. (tables_at (Some bytes) ≡ Ok tables) × (ne_format.says bytes ≡ Ok (module_file bytes tables)))

-- Why there is none: it is refused for this; the device failed, and then its count of failures rose; there was no memory, which says nothing.
abbrev pub IsFault : (LoadRefusal → Type 0) → ℕ → ℕ → LoadFault → Type 0
IsFault IsRefused before after (Refused refusal) = IsRefused refusal
IsFault IsRefused before after Device = before < after
IsFault IsRefused before after OutOfMemory = Unit {0}

-- what a fault of a file's length is to a load, of a file that is there, and of its relocations
abbrev pub fault_of_length : StoreFault → LoadFault
fault_of_length stores.Missing = Refused NoFile
fault_of_length stores.Device = Device
fault_of_length stores.Short = Refused BadFile

abbrev pub fault_of_tables : NeFault → LoadFault
fault_of_tables faults.OutOfMemory = OutOfMemory
fault_of_tables (faults.Store stores.Device) = Device
fault_of_tables e = Refused (refusal_by_format e)

abbrev pub fault_of_relocations : RelocFault → LoadFault
fault_of_relocations (relocs.Store stores.Device) = Device
fault_of_relocations e = Refused BadFile

-- a module whose relocations aren't sound is a bad file
abbrev pub IsUnsound : List ℕ → ne.Tables → LoadRefusal → Type 0
IsUnsound bytes tables refusal = (refusal ≡ BadFile) × (are_sound (module_file bytes tables) ≡ false)

module _ {A : Type 0} where
  -- what a name means to a load of these modules that has found others
  abbrev pub meant_in : Modules → List (Found A) → List ℕ → Option closing.Referent
  meant_in modules found name = closing.meant (around_in modules []) (map (found_in []) found) name

  -- a handle that a name means is one of these modules, and a place one of those found
  abbrev pub IsThere : Modules → List (Found A) → Reading A → Type 0
  IsThere modules found (makes.Meant (refers.There handle)) = (n : Named) × (finmap.get modules handle ≡ Some n)
  IsThere modules found (makes.Meant (refers.New place)) = place < length found
  IsThere modules found (makes.Read tables) = Unit {0}
