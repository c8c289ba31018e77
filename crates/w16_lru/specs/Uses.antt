-- The order of use: ids, each at most once, oldest first.
use Rattle.std.specs.Prelude.{◌≡◌, ◌<◌, ◌==◌, ℕ, if◌then◌else◌, List, map, All, AllPairs}
use Rattle.w16_model.specs.Changes.{newest, oldest}
use Rattle.w16_lru.specs.declared.End.{End}
use Rattle.w16_lru.specs.declared.End.TheVariants.{Oldest, Newest}

-- the ids of an order, oldest first, and below what they have to be
pub record Uses : Type 0 where
  pub cap : ℕ
  pub ids : List ℕ

-- what holds of every order: no id is in it twice, and none is too large
pub record AreUses (uses : Uses) : Type 0 where
  pub below : All (λ id. id < uses.cap) uses.ids
  pub apart : AllPairs (λ a b. a ≡ b → ⊥) uses.ids

-- the ids with one at an end of them
abbrev pub at_end : End → ℕ → List ℕ → List ℕ
at_end Oldest id ids = oldest id ids
at_end Newest id ids = newest id ids

-- the ids with one in another's place
abbrev pub renamed : ℕ → ℕ → List ℕ → List ℕ
renamed id to ids = map (λ q. if q == id then to else q) ids
