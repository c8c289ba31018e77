-- The order of use has objects, whose slots are few.
use Rattle.w16_global.proofs
use proofs.Common.{ℕ, zero, suc, ◌≡◌, ◌<◌, inl, inr, List, [], ◌∷◌, Option, None, Some, true, is_some, slice_get, sym, refl, ◌∙◌, arith, Handles, AreHandles, Member, Object, object_at}
use proofs.Owners.{run_there}
use Rattle.w16_model.proofs.Discards.{true-is_member}
use Rattle.w16_model.specs.Heap.{is_in_order}

place_member : (xs : List ℕ) (i x : ℕ) → slice_get xs i ≡ Some x → Member x xs
place_member [] i x e = cc
place_member (y ∷ ys) zero x e = let f : y ≡ x = cc in inl (sym f)
place_member (y ∷ ys) (suc i) x e = inr (place_member ys i x e)

there : (p : Option Object) → is_in_order p ≡ true → is_some p ≡ true
there (Some o) e = refl
there None e = e

pub ordered_below : (w : Handles) (is : AreHandles w) (i slot : ℕ) → slice_get w.heap.order i ≡ Some slot → slot < 8192
ordered_below w is i slot e =
    let in_order = sym (is.heap.in_order slot) ∙ true-is_member slot w.heap.order (place_member _ i slot e) in
    let run = run_there w is slot (there _ in_order) in
    omega (arith, run.1, run.2)
