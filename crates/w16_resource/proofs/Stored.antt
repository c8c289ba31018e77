-- Fetches of resources that are loaded, in a world over a store.
use Rattle.w16_resource.proofs
use proofs.Common as C
use proofs.Common.{List, LoadingWorld, None, Option, Some, false≢true, refl, ℕ, ◌≡◌, Entry}
use proofs.{Fetched.there, Fetched.fetches, Given.GivesSource}
use Rattle.std.specs.FinMap as finmap
use Rattle.w16_loading.specs.Modules as loading

module _ {honest : Type 0} {world : LoadingWorld} (is : C.IsLoadingOver honest world) (slot : ℕ) where
  -- what is loaded is there
  pub not_there : {A : Type 0} → C.IsSome (finmap.get world.loads slot)
      → C.IfSome (finmap.get world.loads slot) (λ load. (rest : LoadingWorld) → C.resource_at (C.in_world rest world.modules) load.handle load.place ≡ None) → A
  not_there {A} some none = by (finmap.get world.loads slot) refl some none
    where
      by : (p : Option loading.Load) → finmap.get world.loads slot ≡ p → C.IsSome p
          → C.IfSome p (λ load. (rest : LoadingWorld) → C.resource_at (C.in_world rest world.modules) load.handle load.place ≡ None) → A
      by None e some none = absurd (false≢true some)
      by (Some load) e some none = absurd (there world slot load e is.0 (none world))

  -- and is fetched from there
  pub fetched : {name : List ℕ} {entry : Entry} → C.IsSomeAnd (finmap.get world.loads slot) (λ load. C.IsSourceAt world.modules load.handle load.place name entry)
      → {files : List (List ℕ × List ℕ)} {later : ℕ} → C.IsLater world.files world.failures files later → {fault : Option C.FetchFault} {new : C.Handles}
      → GivesSource honest world name entry later slot fault new
      → C.FetchesResource honest world slot fault (record world { handles = new; files = files; failures = later })
  fetched {name = name} {entry = entry} source {files = files} {later = later} stays {fault = fault} {new = new} given = rw stays.same (by (finmap.get world.loads slot) refl source)
    where
      by : (p : Option loading.Load) → finmap.get world.loads slot ≡ p → C.IsSomeAnd p (λ load. C.IsSourceAt world.modules load.handle load.place name entry)
          → C.FetchesResource honest world slot fault (record world { handles = new; failures = later })
      by None e s = absurd s
      by (Some load) e s = fetches world is slot load e name entry s later fault new given
