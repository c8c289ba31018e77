-- Where a resource's bytes come from, and which resources may be loaded.
use Rattle.std.specs.Prelude.{◌≡◌, ℕ, ◌<◌, ◌==◌, ◌||◌, nat_lt, Bool, List, length, Some, None, Ok}
use Rattle.w16_ne.specs.{Modules.tables_at, Resources.Entry, Resources.Label}
use Rattle.w16_loading.specs.Modules.{LoadingWorld, Module, Modules, module_at}
use Rattle.w16_loading.specs.{declared.TheConstants.LARGEST_OWNED, File.Resource, Resource.load_of, Resource.resource_at}
use Rattle.w16_format.specs.Tables.{tables_in}
use Rattle.w16_ne.specs.Modules as ne

-- The resource of a place of a module is read from the file of this name, which has this entry for it.
pub record IsSourceAt (modules : Modules) (handle place : ℕ) (file : List ℕ) (entry : Entry) : Type 0 where
  pub m : Module
  pub loaded : module_at modules handle ≡ Some m
  pub named : m.file ≡ file
  pub t : ne.Tables
  pub tables : m.tables ≡ tables_in t
  pub kind : Label
  pub there : ne.resource_at t.resources place ≡ Some (kind, entry)
  pub inside : (bytes : List ℕ) → tables_at (Some bytes) ≡ Ok t → 0 < entry.len → entry.place < length bytes

-- whether a resource of that many bytes can't be loaded
abbrev pub is_long : ℕ → Bool
is_long len = (len == 0) || nat_lt LARGEST_OWNED len

-- a place of a module has this resource, which isn't loaded
pub record IsFirstLoad (world : LoadingWorld) (handle place : ℕ) (r : Resource) : Type 0 where
  pub there : resource_at world handle place ≡ Some r
  pub unloaded : load_of world handle place ≡ None
