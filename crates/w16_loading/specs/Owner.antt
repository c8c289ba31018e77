-- Where an object comes from.
use Rattle.std.specs.Prelude.{◌≡◌, ℕ, ◌+◌, ◌==◌, ◌↔◌, List, [], ◌∷◌, Option, Some, None, option_map, position}
use Rattle.w16_model.specs.Owned.{owned_at}
use Rattle.w16_loading.specs.Modules.{LoadingWorld, Module, Named, IsSegmentOf, IsResourceOf}
use Rattle.w16_loading.specs.{Modules.Named.Loaded, Modules.Named.BuiltIn, Law.IsLoadingWorld}
use Rattle.std.specs.FinMap as finmap

-- the script, a segment of a module by its number, or a resource of one by its place
pub data Owner : Type 0 where
  Script : Owner
  OfSegment : (handle number : ℕ) → Owner
  OfResource : (handle place : ℕ) → Owner

-- the number of the segment of a module that has this slot
abbrev pub number_in : Named → ℕ → Option ℕ
number_in (Loaded m) slot = option_map (λ i. i + 1) (position (λ q. q == slot) m.slots)
number_in (BuiltIn name) slot = None

abbrev pub segment_among : List (ℕ × Named) → ℕ → Owner
segment_among [] slot = Script
segment_among (e ∷ es) slot = elim (number_in e.1 slot) [ Some number ↦ OfSegment e.0 number | None ↦ segment_among es slot ]

abbrev pub owner_of : LoadingWorld → ℕ → Owner
owner_of world slot = elim (finmap.get world.loads slot) [ Some load ↦ OfResource load.handle load.place | None ↦ segment_among (finmap.entries world.modules) slot ]

-- what it means to come from there
abbrev pub IsOwnerOf : LoadingWorld → ℕ → Owner → Type 0
IsOwnerOf world slot Script = owned_at world.handles slot ≡ None
IsOwnerOf world slot (OfSegment handle number) = (m : Module) × IsSegmentOf world slot handle number m
IsOwnerOf world slot (OfResource handle place) = (m : Module) × IsResourceOf world slot handle place m

-- in every world each slot's object comes from one of these, and it is told which
abbrev pub OwnerLaw : Type 0
OwnerLaw = (world : LoadingWorld) (slot : ℕ) (owner : Owner) → IsLoadingWorld world → (owner_of world slot ≡ owner) ↔ IsOwnerOf world slot owner
