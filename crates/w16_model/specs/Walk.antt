-- A walk of a heap: its objects with bytes and its holes, by address (profile).
use Rattle.std.specs.Prelude.{◌≡◌, ℕ, ◌+◌, ◌<◌, List, length, All, AllPairs, Contains, Some, MatchOption, IsSomeAnd, option_map}
use Rattle.w16_model.specs.{declared.Kind.Kind, declared.Item.Item, declared.Owner.Owner, Gap.IsHole, Heap.Heap, Heap.blocks, Heap.object_at}
use Rattle.std.specs.FinMap as finmap

-- the object of an id has just these bytes, and is what the owner says
pub record HasBytes (heap : Heap) (id at size : ℕ) (owner : Owner) : Type 0 where
  pub place : finmap.get heap.places id ≡ Some at
  pub object : IsSomeAnd (object_at heap id) (λ o. (option_map length o.bytes ≡ Some size) × (owner.kind ≡ o.kind) × (owner.locks ≡ o.locks))

-- an object's bytes, the object named by its kind and id, or a hole
abbrev pub IsItem : (Kind → ℕ → ℕ) → Heap → Item → Type 0
IsItem name heap item = MatchOption item.owner
    (IsHole heap.lo heap.hi (blocks heap) item.at (item.at + item.size))
    (λ owner. (id : ℕ) × (owner.name ≡ name owner.kind id) × HasBytes heap id item.at item.size owner)

-- every object with bytes and every hole once, by rising address
pub record IsWalk (name : Kind → ℕ → ℕ) (heap : Heap) (items : List Item) : Type 0 where
  pub only : All (IsItem name heap) items
  pub each : (item : Item) → IsItem name heap item → Contains items item
  pub rising : AllPairs (λ s t. s.at < t.at) items
