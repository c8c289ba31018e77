-- Loads of resources in a list by slot.
use Rattle.std.specs.Prelude.{ℕ, if◌then◌else◌, List, Option, ◌==◌}
use Rattle.std.specs.{Ordering.nat_cmp, FinMap.FinMap}
use Rattle.w16_model.specs.Table.{by_id}
use Rattle.w16_loading.specs.{Free.is_left_over, Modules.LoadingWorld, Release.without_objects}
use Rattle.w16_resource.specs.declared.listing.Load.{Load}
use Rattle.std.specs.FinMap as finmap
use Rattle.w16_loading.specs.Modules as loading

-- a load as the meaning of modules has it
abbrev pub load_in : Load → loading.Load
load_in l = record { handle = l.handle; place = l.place; loads = l.loads }

-- the loads of a list, by slot
abbrev pub listed : List (Option Load) → List (ℕ × loading.Load)
listed loads = by_id (λ _ l. load_in l) 0 loads

abbrev pub loads_in : List (Option Load) → FinMap nat_cmp loading.Load
loads_in loads = finmap.from_entries (listed loads)

-- the world without a slot's object and its load
abbrev pub without_load : LoadingWorld → ℕ → LoadingWorld
without_load world slot = record (without_objects (λ q. q == slot) world) { loads = finmap.remove world.loads slot }

-- where its module is gone
abbrev pub without_orphan : LoadingWorld → ℕ → LoadingWorld
without_orphan world slot = if is_left_over world slot then without_load world slot else world
