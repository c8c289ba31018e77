-- An object's bytes, lent to what is done to them.
use Rattle.std.specs.Prelude.{◌≡◌, ◌<◌, ℕ, List, length, All, Some}
use Rattle.w16_model.specs.Heap.{Heap, bytes_at}

-- What was done to the bytes of a slot's object: those that it had, and those that are to be in their place, as many.
pub record Lends (heap : Heap) (slot : ℕ) (done : List ℕ → List ℕ → Type 0) : Type 0 where
  pub bytes : List ℕ
  pub after : List ℕ
  pub had : bytes_at heap slot ≡ Some bytes
  pub long : length after ≡ length bytes
  pub are_bytes : All (λ b. b < 256) after
  pub does : done bytes after
