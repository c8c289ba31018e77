-- Two frames with the same bytes and the same count are the same: the fact beside the two has one proof.
use Rattle.std.proofs.Common.{◌≡◌, ℕ, ◌≤◌}
use native.Mathlib.Bridge.{le_prop}

pub same_made : {X : Type 0} {a b : ℕ} (make : ℕ → a ≤ b → X) (u v : ℕ) (p q : a ≤ b) → u ≡ v → make u p ≡ make v q
same_made make u v p q e = λ i. make (e i) (le_prop p q i)
