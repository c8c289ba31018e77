-- Modules in a table by handle.
use Rattle.std.specs.Prelude.{◌≡◌, ℕ, ◌+◌, ◌<◌, ◌==◌, ◌&&◌, not, if◌then◌else◌, List, length, Option, None, Some, slice_index, slice_index_or, find, option_map}
use Rattle.w16_model.specs.{Discards.is_member, Table.by_id}
use Rattle.w16_store.specs.Names.{is_named}
use Rattle.w16_loading.specs.Modules.{LoadingWorld, Modules, Named, IsFreeModule, importers_among, name_of}
use Rattle.w16_loading.specs.{declared.TheConstants.FIRST_MODULE, declared.TheConstants.MOST_MODULES, Owner.Owner, Owner.Owner.Script, Owner.Owner.OfSegment}
use Rattle.w16_loader.specs.{declared.entry.Entry.Entry, declared.table.SegmentOf.SegmentOf, Entries.named_of}
use Rattle.std.specs.FinMap as finmap

module _ {A : Type 0} where
  -- what the table names, by handle
  abbrev pub listed : List (Option (Entry A)) → List (ℕ × Named)
  listed entries = by_id (λ _ e. named_of e) 0 entries

  abbrev pub registered : List (Option (Entry A)) → Modules
  registered entries = finmap.from_entries (listed entries)

  -- a place for each number up to the last handle, of which none is taken below the first
  pub record IsTable (entries : List (Option (Entry A))) : Type 0 where
    pub many : length entries ≡ FIRST_MODULE + MOST_MODULES
    pub none_below : (handle : ℕ) → handle < FIRST_MODULE → slice_index_or entries handle None ≡ None

  -- for each place, how many others import what has its number
  pub record AreCounts (entries : List (Option (Entry A))) (counts : List ℕ) : Type 0 where
    pub many : length counts ≡ FIRST_MODULE + MOST_MODULES
    pub each : (handle : ℕ) → handle < FIRST_MODULE + MOST_MODULES → slice_index counts handle ≡ importers_among (listed entries) handle

-- 1 where a module of a handle has another among its imports
abbrev pub counted_of : ℕ → List ℕ → ℕ → ℕ
counted_of own imports handle = if not (own == handle) && is_member handle imports then 1 else 0

-- a world that has these modules, whatever else
abbrev pub in_world : LoadingWorld → Modules → LoadingWorld
in_world rest modules = record rest { modules = modules }

-- no handle below it is free
abbrev pub IsLowest : Modules → ℕ → Type 0
IsLowest modules handle = (lower : ℕ) → lower < handle → IsFreeModule modules lower → ⊥

-- the first of a name
abbrev pub first_named : List (ℕ × Named) → List ℕ → Option ℕ
first_named entries name = option_map (λ e. e.0) (find (λ e. is_named (name_of e.1) name) entries)

-- a segment of a module, or the script
abbrev pub owner_in : Option SegmentOf → Owner
owner_in None = Script
owner_in (Some s) = OfSegment s.handle s.number
