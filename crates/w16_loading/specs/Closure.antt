-- Which modules a load finds, and in which order. It depends on no choice.
use Rattle.std.specs.Prelude.{ℕ, Bool, List, [], ◌∷◌, ◌++◌, length, map, codes, position, Option, is_some}
use Rattle.std.specs.{List.list_all, Option.option_or, Option.option_map}
use Rattle.w16_store.specs.{Names.is_named, Files.file_of}
use Rattle.w16_loading.specs.{declared.LoadRefusal.LoadRefusal, File.ModuleFile, Modules.LoadingWorld, Modules.handle_named, Modules.free_modules}

-- a new module: the name of its file, and what that says
pub record Found : Type 0 where
  pub file : List ℕ
  pub read : ModuleFile

-- What a load asks of the world and of the store before it takes anything: which handle has a name, a file's bytes, how many handles are free.
pub record Around : Type 0 where
  pub named : List ℕ → Option ℕ
  pub file : List ℕ → Option (List ℕ)
  pub free : ℕ

abbrev pub around : LoadingWorld → Around
around world = record { named = handle_named world.modules; file = file_of world.files; free = free_modules world.modules }

-- what a name means: a module or built-in that is there, or a new module of this load, by its place among them from 0
pub data Referent : Type 0 where
  There : (handle : ℕ) → Referent
  New : (place : ℕ) → Referent

-- how far a load has come: the new modules; the references still to be followed, each with the place of the module that has it; and what the
-- others mean
pub record Closure : Type 0 where
  pub found : List Found
  pub pending : List (ℕ × List ℕ)
  pub bound : List (ℕ × Referent)

-- names are different, so it doesn't matter where one is looked for first
abbrev pub meant : Around → List Found → List ℕ → Option Referent
meant a found name = option_or (option_map There (a.named name)) (option_map New (position (λ f. is_named f.read.tables.name name) found))

-- what a load makes of a file: why it is refused; a module or built-in that has its name; or a new module
pub data Reading : Type 0 where
  Refused : LoadRefusal → Reading
  Meant : Referent → Reading
  Read : ModuleFile → Reading

abbrev pub are_sound : ModuleFile → Bool
are_sound read = list_all (λ s. is_some s.targets) read.segments

-- the closure in which a reference of the module at this place means this
abbrev pub with_bound : Closure → ℕ → Referent → Closure
with_bound closure place referent = record closure { bound = closure.bound ++ (place, referent) ∷ [] }

-- the closure with one more module, whose references are followed after all that are pending
abbrev pub with_found : Closure → List ℕ → ModuleFile → Closure
with_found closure file read = record closure {
  found = closure.found ++ record { file = file; read = read } ∷ [];
  pending = closure.pending ++ map (λ name. (length closure.found, name)) read.tables.references;
}

-- the file that a reference is looked for in
abbrev pub dll : List ℕ → List ℕ
dll name = name ++ codes ".DLL"

-- of the module asked for alone
abbrev pub begun : List ℕ → ModuleFile → Closure
begun file read = with_found (record { found = []; pending = []; bound = [] }) file read
