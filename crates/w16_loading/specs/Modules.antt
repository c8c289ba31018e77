-- The world with modules: the handles as they were, and beside them what belongs to modules.
use Rattle.w16_loading.specs
use Rattle.std.specs.Prelude.{◌≡◌, ℕ, ◌+◌, ◌-◌, ◌<◌, ◌≤◌, Bool, false, not, ◌&&◌, ◌==◌, if◌then◌else◌, List, count_by, find, option_map, slice_get, slice_index_or, Option, Some, None, is_some}
use Rattle.std.specs.{Ordering.nat_cmp, FinMap.FinMap}
use Rattle.w16_model.specs.{Discards.is_member, Heap.Heap, Handles.Handles, Handles.selector_of}
use specs.declared.TheConstants.{FIRST_MODULE, MOST_MODULES}
use specs.File.{Far, Tables, Entry, Target, entry_at, entry_named}
use specs.File.Entry.{InSegment, Constant}
use specs.File.Target.{Internal, InternalEntry, Import, ImportName, System}
use Rattle.w16_store.specs.Names.{is_named}
use Rattle.std.specs.FinMap as finmap
use Rattle.w16_model.specs.Owned as owned

-- A module that is loaded: the file that it came from and what that says; its explicit uses; for each segment the slot of its object, and the
-- values of its relocation records, bound once; for each reference the handle of the module or built-in that it means.
pub record Module : Type 0 where
  pub file : List ℕ
  pub tables : Tables
  pub uses : ℕ
  pub slots : List ℕ
  pub values : List (List Far)
  pub imports : List ℕ

-- what a module handle names; a built-in has a name alone, and never goes
pub data Named : Type 0 where
  Loaded : Module → Named
  BuiltIn : (name : List ℕ) → Named

abbrev pub Modules : Type 0
Modules = FinMap nat_cmp Named

-- a resource that is loaded: whose it is, its place in the table, and how often it was loaded
pub record Load : Type 0 where
  pub handle : ℕ
  pub place : ℕ
  pub loads : ℕ

-- One field for what each layer of the machine keeps: objects by slot, modules by module handle, loads of resources by slot; and the store's
-- files and its count of failures.
pub record LoadingWorld : Type 0 where
  pub handles : Handles
  pub modules : Modules
  pub loads : FinMap nat_cmp Load
  pub files : List (List ℕ × List ℕ)
  pub failures : ℕ

-- a world with other handles
abbrev pub with_handles : LoadingWorld → Handles → LoadingWorld
with_handles world handles = record world { handles = handles }

-- the world with another heap
abbrev pub with_heap : LoadingWorld → Heap → LoadingWorld
with_heap world heap = record world { handles = record world.handles { heap = heap } }

abbrev pub is_owned : LoadingWorld → ℕ → Bool
is_owned world slot = owned.is_owned world.handles slot

-- Handles and names.

abbrev pub IsFreeModule : Modules → ℕ → Type 0
IsFreeModule modules handle = (FIRST_MODULE ≤ handle) × (handle < FIRST_MODULE + MOST_MODULES) × (finmap.get modules handle ≡ None)

abbrev pub free_modules : Modules → ℕ
free_modules modules = MOST_MODULES - finmap.len modules

abbrev pub name_of : Named → List ℕ
name_of (Loaded m) = m.tables.name
name_of (BuiltIn name) = name

-- the handle of the module or built-in of a name
abbrev pub handle_named : Modules → List ℕ → Option ℕ
handle_named modules name = option_map (λ e. e.0) (find (λ e. is_named (name_of e.1) name) (finmap.entries modules))

abbrev pub module_in : Option Named → Option Module
module_in (Some (Loaded m)) = Some m
module_in other = None

abbrev pub module_at : Modules → ℕ → Option Module
module_at modules handle = module_in (finmap.get modules handle)

-- Addresses.

-- what has no address (profile)
abbrev pub nowhere : Far
nowhere = record { selector = 0; offset = 0 }

abbrev pub in_segment : List ℕ → ℕ → ℕ → Far
in_segment slots number offset = record { selector = selector_of (slice_index_or slots (number - 1) 0); offset = offset }

-- the address of an entry of a module whose segments have these slots; a constant is one of selector FFFF (profile)
abbrev pub address_of : List ℕ → Option Entry → Far
address_of slots None = nowhere
address_of slots (Some (InSegment number offset)) = in_segment slots number offset
address_of slots (Some (Constant value)) = record { selector = 65535; offset = value }

-- where an ordinal leads; a built-in's leads to its handle (profile)
abbrev pub address_by_ordinal : ℕ → Option Named → ℕ → Far
address_by_ordinal handle None ordinal = nowhere
address_by_ordinal handle (Some (Loaded m)) ordinal = address_of m.slots (entry_at m.tables ordinal)
address_by_ordinal handle (Some (BuiltIn name)) ordinal = if ordinal == 0 then nowhere else record { selector = handle; offset = ordinal }

abbrev pub address_by_name : Option Named → List ℕ → Far
address_by_name (Some (Loaded m)) name = address_of m.slots (entry_named m.tables name)
address_by_name other name = nowhere

-- what each handle names, if it names anything
abbrev pub Lookup : Type 0
Lookup = ℕ → Option Named

-- GetProcAddress of an ordinal, and of a name
abbrev pub address_at : Lookup → ℕ → ℕ → Far
address_at named handle ordinal = address_by_ordinal handle (named handle) ordinal

abbrev pub address_named : Lookup → ℕ → List ℕ → Far
address_named named handle name = address_by_name (named handle) name

-- the module or built-in that a reference means
abbrev pub imported : Module → ℕ → ℕ
imported m reference = slice_index_or m.imports (reference - 1) 0

-- the value of a relocation record of a module
abbrev pub value_of : Lookup → Module → Target → Far
value_of named m (Internal number offset) = in_segment m.slots number offset
value_of named m (InternalEntry ordinal) = address_of m.slots (entry_at m.tables ordinal)
value_of named m (Import reference ordinal) = address_at named (imported m reference) ordinal
value_of named m (ImportName reference name) = address_named named (imported m reference) name
value_of named m System = nowhere

-- Uses.

abbrev pub imports : Named → ℕ → Bool
imports (Loaded m) handle = is_member handle m.imports
imports (BuiltIn name) handle = false

-- how many other modules import it
abbrev pub importers_among : List (ℕ × Named) → ℕ → ℕ
importers_among entries handle = count_by (λ e. not (e.0 == handle) && imports e.1 handle) entries

abbrev pub importers : Modules → ℕ → ℕ
importers modules handle = importers_among (finmap.entries modules) handle

-- GetModuleUsage: explicit uses and importers; 0 for a bad handle
abbrev pub usage_with : Option Named → ℕ → ℕ
usage_with None others = 0
usage_with (Some (Loaded m)) others = m.uses + others
usage_with (Some (BuiltIn name)) others = others

abbrev pub usage : Modules → ℕ → ℕ
usage modules handle = usage_with (finmap.get modules handle) (importers modules handle)

-- a module that nobody uses
abbrev pub is_idle : Modules → ℕ → Bool
is_idle modules handle = is_some (module_at modules handle) && (usage modules handle == 0)

-- Bytes.

-- Of which segment an object is, and of which resource: where it comes from. Else it is the script's.
pub record IsSegmentOf (world : LoadingWorld) (slot handle number : ℕ) (m : Module) : Type 0 where
  pub loaded : module_at world.modules handle ≡ Some m
  pub has : (0 < number) × (slice_get m.slots (number - 1) ≡ Some slot)

pub record IsResourceOf (world : LoadingWorld) (slot handle place : ℕ) (m : Module) : Type 0 where
  pub loaded : module_at world.modules handle ≡ Some m
  pub loads : ℕ
  pub has : finmap.get world.loads slot ≡ Some (record { handle = handle; place = place; loads = loads })
