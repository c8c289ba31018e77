-- Uses that end: FreeLibrary and FreeModule, which are the same (profile).
use Rattle.std.specs.Prelude.{◌≡◌, ℕ, ◌-◌, not, Bool, true, false, if◌then◌else◌, List, [], ◌∷◌, Some, None, is_some}
use Rattle.w16_model.specs.Discards.{is_member}
use Rattle.w16_loading.specs.{Modules.LoadingWorld, Modules.module_at, Modules.is_idle, Modules.Named.Loaded, Release.without_objects}
use Rattle.std.specs.FinMap as finmap

-- one explicit use less, if there is one
abbrev pub used_less : LoadingWorld → ℕ → LoadingWorld
used_less world handle = elim (module_at world.modules handle) [
  | None ↦ world
  | Some m ↦ record world { modules = finmap.insert world.modules handle (Loaded (record m { uses = m.uses - 1 })) }
]

-- a module goes with the objects of its segments
abbrev pub without_module : LoadingWorld → ℕ → LoadingWorld
without_module world handle = elim (module_at world.modules handle) [
  | None ↦ world
  | Some m ↦ let left = without_objects (λ q. is_member q m.slots) world in record left { modules = finmap.remove left.modules handle }
]

-- modules that nobody uses go, in this order, until none is left
abbrev pub Go : LoadingWorld → List ℕ → LoadingWorld → Type 0
Go old [] new = ((handle : ℕ) → is_idle old.modules handle ≡ false) × (new ≡ old)
Go old (handle ∷ handles) new = (is_idle old.modules handle ≡ true) × Go (without_module old handle) handles new

-- What the loader does: one explicit use less, and then all go that nobody uses. It answers 1 where the handle still names a module or a
-- built-in, else 0.
pub record EndsUse (old : LoadingWorld) (handle answer : ℕ) (left : LoadingWorld) : Type 0 where
  pub gone : List ℕ
  pub went : Go (used_less old handle) gone left
  pub answered : answer ≡ (if finmap.contains_key left.modules handle then 1 else 0)

-- What the sweep of resources takes away: the objects of the resources of modules that are gone.
abbrev pub is_left_over : LoadingWorld → ℕ → Bool
is_left_over world slot = elim (finmap.get world.loads slot) [ None ↦ false | Some load ↦ not (is_some (module_at world.modules load.handle)) ]

abbrev pub without_orphans : LoadingWorld → LoadingWorld
without_orphans world = let left = without_objects (is_left_over world) world in record left { loads = finmap.retain_keys left.loads (λ q. not (is_left_over world q)) }

-- both in one step
pub record Frees (old : LoadingWorld) (handle answer : ℕ) (new : LoadingWorld) : Type 0 where
  pub left : LoadingWorld
  pub ended : EndsUse old handle answer left
  pub after : new ≡ without_orphans left
