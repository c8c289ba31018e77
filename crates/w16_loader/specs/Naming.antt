-- How new modules of a load get handles, slots and names.
use Rattle.std.specs.Prelude.{◌≡◌, ℕ, ◌<◌, ◌≤◌, ◌==◌, if◌then◌else◌, List, [], ◌∷◌, length, map, filter, fold, zip, All, is_none}
use Rattle.std.specs.List.{AllZip, range_with_len}
use Rattle.w16_model.specs.{declared.TheConstants.GRAIN, Heap.IsMultiple, Handles.Handles, Handles.IsFreeSlot}
use Rattle.w16_loading.specs.declared.TheConstants.{FIRST_MODULE, MOST_MODULES, LARGEST_OWNED}
use Rattle.w16_loading.specs.Naming.{Choice, IsChoice, free_slots, Given, given, given_from, imports_at, unbound, with_modules, with_segment, segments_of}
use Rattle.w16_loading.specs.{File.Segment, Modules.LoadingWorld, Modules.Module, Modules.Modules, Modules.Named.Loaded}
use Rattle.w16_loading.specs.declared.LoadRefusal.TheVariants.{NoRoom}
use Rattle.w16_loader.specs.declared.fault.LoadFault.TheVariants.{Refused, OutOfMemory}
use Rattle.w16_loader.specs.{declared.fault.LoadFault.LoadFault, declared.closure.Closure.Closure, Reached.IsAlike, Reached.IsFoundOf, Following.pair_of}
use Rattle.std.specs.FinMap as finmap
use Rattle.w16_loading.specs.Closure as closing

module _ {A : Type 0} where
  pub record IsClosureOf (made : Closure A) (closure : closing.Closure) : Type 0 where
    pub found : AllZip IsFoundOf made.found.items closure.found
    pub bound : closure.bound ≡ map pair_of made.bound.items

-- the free handles, the lowest first
abbrev pub free_handles : Modules → List ℕ
free_handles modules = filter (λ h. is_none (finmap.get modules h)) (range_with_len FIRST_MODULE MOST_MODULES)

-- what the references of the module at a place mean, where new modules have these handles
abbrev pub imports_among : List ℕ → List (ℕ × closing.Referent) → ℕ → List ℕ
imports_among handles bound place = imports_at (record { found = []; pending = []; bound = bound }) (record { handles = handles; slots = [] }) place

-- a new module that isn't bound yet, by what the modules at each place import
abbrev pub unbound_by : (ℕ → List ℕ) → Given → Module
unbound_by imports g = record {
  file = g.found.file;
  tables = g.found.read.tables;
  uses = if g.place == 0 then 1 else 0;
  slots = g.slots;
  values = [];
  imports = imports g.place;
}

-- why new modules with this many segments get no names: too few slots are free, or there was no memory
abbrev pub IsNamingFault : LoadFault → Handles → ℕ → Type 0
IsNamingFault (Refused NoRoom) handles count = length (free_slots handles) < count
IsNamingFault OutOfMemory handles count = Unit {0}
IsNamingFault fault handles count = ⊥

-- a size that an object may have
pub record IsFit (s : Segment) : Type 0 where
  pub some : 0 < s.size
  pub small : s.size ≤ LARGEST_OWNED
  pub rounded : IsMultiple GRAIN s.size

-- each segment of these modules has one
abbrev pub AreFit : List closing.Found → Type 0
AreFit found = All (λ (f : closing.Found). All IsFit f.read.tables.segments) found

-- the world in which all new modules have names and objects without bytes, and none is bound yet
abbrev pub unbound_world : LoadingWorld → closing.Closure → Choice → LoadingWorld
unbound_world old closure choice =
    let world = fold with_segment old (segments_of (given closure choice)) in
    record world { modules = with_modules (unbound closure choice) (given closure choice) old.modules }

pub record IsUnbound (old : LoadingWorld) (closure : closing.Closure) (numbers : List ℕ) (new : LoadingWorld) : Type 0 where
  pub choice : Choice
  pub is_choice : IsChoice old closure.found choice
  pub handles : choice.handles ≡ numbers
  pub fit : AreFit closure.found
  pub after : new ≡ unbound_world old closure choice

-- so whatever the files of its modules say beside their tables
abbrev pub AreUnbound : LoadingWorld → closing.Closure → List ℕ → LoadingWorld → Type 0
AreUnbound old closure numbers new = (found : List closing.Found) → AllZip IsAlike closure.found found → IsUnbound old (record closure { found = found }) numbers new

-- Segments get objects without bytes, one after another, each in a slot that is free then.
abbrev pub Takes : LoadingWorld → List (ℕ × Segment) → LoadingWorld → Type 0
Takes old [] new = new ≡ old
Takes old (x ∷ xs) new = IsFreeSlot old.handles x.0 × Takes (with_segment old x) xs new

-- the segments of a module have objects, and a handle names it
pub record GetsName (old : LoadingWorld) (handle : ℕ) (m : Module) (new : LoadingWorld) : Type 0 where
  pub many : length m.slots ≡ length m.tables.segments
  pub fit : All IsFit m.tables.segments
  pub taken : Takes old (zip m.slots m.tables.segments) (record new { modules = old.modules })
  pub named : new.modules ≡ finmap.insert old.modules handle (Loaded m)

-- so for new modules from place 0 on, each with its handle
pub record GetNames (old : LoadingWorld) (module_of : Given → Module) (found : List closing.Found) (handles : List ℕ) (new : LoadingWorld) : Type 0 where
  pub slots : List (List ℕ)
  pub many : AllZip (λ (f : closing.Found) (s : List ℕ). length s ≡ length f.read.tables.segments) found slots
  pub fit : AreFit found
  pub taken : Takes old (segments_of (given_from 0 found handles slots)) (record new { modules = old.modules })
  pub named : new.modules ≡ with_modules module_of (given_from 0 found handles slots) old.modules
