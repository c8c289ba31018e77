-- A module goes, or loses a use.
use Rattle.w16_loading.proofs
use proofs.Common as C
use proofs.Common.{ℕ, ◌-◌, Option, Some, None, LoadingWorld, Module, Loaded, left}
use Rattle.std.specs.FinMap as finmap

-- Uses that end.

abbrev pub world_without : LoadingWorld → ℕ → Option Module → LoadingWorld
world_without world handle p = elim p [ None ↦ world | Some m ↦ let left = C.without_objects (λ q. C.is_member q m.slots) world in record left { modules = finmap.remove left.modules handle } ]

abbrev pub world_used_less : LoadingWorld → ℕ → Option Module → LoadingWorld
world_used_less world handle p = elim p [ None ↦ world | Some m ↦ record world { modules = finmap.insert world.modules handle (Loaded (record m { uses = m.uses - 1 })) } ]
