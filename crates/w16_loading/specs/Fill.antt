-- Bytes for an object that has none: a request for room, as of an allocation with no flags, whose new bytes are given.
use Rattle.std.specs.Prelude.{◌≡◌, ◌<◌, All, ℕ, Bool, true, false, List, [], ◌∷◌, length, Option, Some, None, MatchOption}
use Rattle.w16_model.specs.{Heap.Heap, Heap.Object, Heap.IsMultiple, Heap.object_at, Changes.with_newest, Request.Request, Request.Asked, Request.discards_needed, Owned.revival_options}
use Rattle.w16_loading.specs.{declared.FetchFault.FetchFault, declared.FetchFault.TheVariants.NoRoom}

-- what is asked for the object: that it is as before, but has these bytes
abbrev pub asked_of : Heap → ℕ → Object → List ℕ → Asked
asked_of old slot before bytes = record {
  options = revival_options;
  prefix = discards_needed old (length bytes) (Some slot) revival_options;
  becomes = λ o. o ≡ record before { bytes = Some bytes };
  order = with_newest slot;
}

-- An object without bytes gets these; a discardable one becomes the newest.
pub record Fills (old : Heap) (slot : ℕ) (bytes : List ℕ) (answered : Bool) (new : Heap) : Type 0 where
  pub before : Object
  pub there : object_at old slot ≡ Some before
  pub absent : before.bytes ≡ None
  pub some : 0 < length bytes
  pub rounded : IsMultiple old.grain (length bytes)
  pub are_bytes : All (λ b. b < 256) bytes
  pub request : Request old slot (asked_of old slot before bytes) answered new

-- why a read may fail: the store's device, or the file itself, which reads otherwise than it did
abbrev pub is_of_read : FetchFault → Bool
is_of_read NoRoom = false
is_of_read other = true

-- how one object gets bytes, or doesn't and why
abbrev pub Giving : Type 1
Giving = Heap → ℕ → List ℕ → Option FetchFault → Heap → Type 0

-- What a load gives bytes: the place of its module among the new ones, from 0, its slot and its bytes.
pub record Filling : Type 0 where
  pub place : ℕ
  pub slot : ℕ
  pub bytes : List ℕ

-- why one of them got none, and the place of its module
pub record Failure : Type 0 where
  pub place : ℕ
  pub fault : FetchFault

-- Several, one after another, up to the first that gets none.
abbrev pub InTurn : Giving → Heap → List Filling → Option Failure → Heap → Type 0
InTurn gives old [] failure new = (failure ≡ None) × (new ≡ old)
InTurn gives old (x ∷ xs) failure new =
    (fault : Option FetchFault) × (next : Heap) × gives old x.slot x.bytes fault next
    × MatchOption fault (InTurn gives next xs failure new) (λ f. (failure ≡ Some (record { place = x.place; fault = f })) × (new ≡ next))
