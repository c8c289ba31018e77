-- References that are left to a load.
use Rattle.w16_loader.proofs.Common as C
use Rattle.w16_loader.proofs.Common.{◌≡◌, ℕ, zero, suc, ◌+◌, ◌<◌, ◌≤◌, List, [], ◌∷◌, ◌++◌, length, drop, Some, sym, ap, ◌∙◌, arith, slice_get, drop-append-le, drop_all, references_of, references_from, left_from}
use Rattle.w16_loading.specs.Closure.{Found}

-- the first that is left, and the others
one_left : {X : Type 0} (xs : List X) (i : ℕ) (x : X) → slice_get xs i ≡ Some x → drop i xs ≡ x ∷ drop (suc i) xs
one_left [] i x e = cc
one_left (y ∷ ys) zero x e = let same : y ≡ x = cc in ap (λ z. z ∷ ys) same
one_left (y ∷ ys) (suc i) x e = one_left ys i x e

past : {X : Type 0} (xs ys : List X) (n : ℕ) → n ≡ length xs → drop n (xs ++ ys) ≡ ys
past xs ys n e = drop-append-le n xs ys (omega (arith, e)) ∙ ap (λ zs. zs ++ ys) (drop_all n xs (omega (arith, e)))

-- one more module
from_more : (place : ℕ) (fs : List Found) (f : Found) → references_from place (fs ++ f ∷ []) ≡ references_from place fs ++ references_of (place + length fs) f
from_more place [] f = C.append-nil _ ∙ ap (λ n. references_of n f) (let same : place ≡ place + 0 = omega arith in same)
from_more place (g ∷ fs) f =
    ap (λ xs. references_of place g ++ xs) (from_more _ fs f)
    ∙ sym (C.append_assoc (references_of place g) (references_from _ fs) (references_of _ f))
    ∙ ap (λ n. references_of place g ++ references_from (suc place) fs ++ references_of n f) (let same : suc place + length fs ≡ place + suc (length fs) = omega arith in same)

module _ (fs : List Found) (place : ℕ) (f : Found) (at : slice_get fs place ≡ Some f) where
  many : length (references_of place f) ≡ length f.read.tables.references
  many = C.length-map f.read.tables.references (λ name. (place, name))

  here : references_from place (drop place fs) ≡ references_of place f ++ references_from (suc place) (drop (suc place) fs)
  here = ap (references_from place) (one_left fs place f at)

  -- the next reference is left, and those after it
  pub next_left : (done : ℕ) (name : List ℕ) → slice_get f.read.tables.references done ≡ Some name → left_from place done fs ≡ (place, name) ∷ left_from place (suc done) fs
  next_left done name is =
      let lt : done < length f.read.tables.references = C.slice_get_within f.read.tables.references done name is in
      let got : slice_get (references_of place f) done ≡ Some (place, name) = C.slice_get-map (λ name. (place, name)) f.read.tables.references done ∙ ap (C.option_map (λ name. (place, name))) is in
      ap (drop done) here
      ∙ drop-append-le done (references_of place f) (references_from (suc place) (drop (suc place) fs)) (omega (arith, lt, many))
      ∙ ap (λ xs. xs ++ references_from (suc place) (drop (suc place) fs)) (one_left (references_of place f) done (place, name) got)
      ∙ ap (λ xs. (place, name) ∷ xs) (sym (ap (drop (suc done)) here ∙ drop-append-le (suc done) (references_of place f) (references_from (suc place) (drop (suc place) fs)) (omega (arith, lt, many))))

  -- after the last come those of the next module
  pub last_left : left_from place (length f.read.tables.references) fs ≡ left_from (suc place) 0 fs
  last_left = ap (drop (length f.read.tables.references)) here ∙ past (references_of place f) (references_from (suc place) (drop (suc place) fs)) (length f.read.tables.references) (sym many)

  -- those of a new module come after all
  pub more_left : (done : ℕ) (g : Found) → done ≤ length f.read.tables.references → left_from place done (fs ++ g ∷ []) ≡ left_from place done fs ++ references_of (length fs) g
  more_left done g le =
      let lt : place < length fs = C.slice_get_within fs place f at in
      let where_ : place + length (drop place fs) ≡ length fs = omega (arith, lt, C.length-drop place fs) in
      let long : done ≤ length (references_from place (drop place fs)) =
      (let both : length (references_from place (drop place fs)) ≡ length (references_of place f) + length (references_from (suc place) (drop (suc place) fs)) = ap length here ∙ C.length-append (references_of place f) (references_from (suc place) (drop (suc place) fs)) in
      omega (arith, le, many, both)) in
      ap (λ xs. drop done (references_from place xs)) (drop-append-le place fs (g ∷ []) (omega (arith, lt)))
      ∙ ap (drop done) (from_more place (drop place fs) g ∙ ap (λ n. references_from place (drop place fs) ++ references_of n g) where_)
      ∙ drop-append-le done (references_from place (drop place fs)) (references_of (length fs) g) long

-- none is left after the last module
pub none_left : (fs : List Found) (place done : ℕ) → length fs ≤ place → left_from place done fs ≡ []
none_left fs place done le = ap (λ xs. drop done (references_from place xs)) (drop_all place fs le) ∙ drop_all done [] (omega arith)

-- of one module all are
pub first_left : (f : Found) → left_from 0 0 (f ∷ []) ≡ references_of 0 f
first_left f = C.append-nil _
