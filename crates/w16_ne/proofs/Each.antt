-- Reading entries one after the other, as a loop does.
use Rattle.w16_ne.proofs.Common.{◌≡◌, ℕ, suc, ◌-◌, ◌+◌, ◌≤◌, ◌<◌, List, [], ◌∷◌, ◌++◌, Ok, Err, refl, sym, ap, ◌∙◌, append_assoc, arith, append-nil, NeFault, Reading, ◌>>=◌, each}

-- what was read before, and what is still read
abbrev pub with_front : {T : Type 0} → List T → Reading (List T) → Reading (List T)
with_front front read = read >>= λ x. Ok (front ++ x)

pub front_none : {T : Type 0} (read : Reading (List T)) → with_front [] read ≡ read
front_none (Ok xs) = refl
front_none (Err e) = refl

pub regroup : {T : Type 0} (front : List T) (x : T) (read : Reading (List T)) → with_front front (read >>= λ xs. Ok (x ∷ xs)) ≡ with_front (front ++ x ∷ []) read
regroup front x (Ok xs) = ap (λ ys. Ok ys) (simp append_assoc)
regroup front x (Err e) = refl

pub goes_on : {T : Type 0} (entry : ℕ → Reading T) (front : List T) (count i : ℕ) (x : T) (total : Reading (List T)) → i < count → entry i ≡ Ok x
    → with_front front (each entry (count - i) i) ≡ total → with_front (front ++ x ∷ []) (each entry (count - (i + 1)) (i + 1)) ≡ total
goes_on entry front count i x total lt h so_far =
    let k : count - i ≡ suc (count - (i + 1)) = omega arith in
    let one : with_front front (each entry (count - i) i) ≡ with_front (front ++ x ∷ []) (each entry (count - (i + 1)) (i + 1)) = rw (k, h) (regroup front x (each entry (count - (i + 1)) (i + 1))) in
    sym one ∙ so_far

-- an equation of what was read carries its fault on
pub stops : {T : Type 0} (entry : ℕ → Reading T) (front : List T) (count i : ℕ) (e : NeFault) (total : Reading (List T)) → i < count → entry i ≡ Err e
    → with_front front (each entry (count - i) i) ≡ total → total ≡ Err e
stops entry front count i e total lt h so_far =
    let k : count - i ≡ suc (count - (i + 1)) = omega arith in
    let one : with_front front (each entry (count - i) i) ≡ Err e = rw (k, h) refl in
    sym so_far ∙ one

pub is_done : {T : Type 0} (entry : ℕ → Reading T) (front : List T) (count i : ℕ) (total : Reading (List T)) → count ≤ i → with_front front (each entry (count - i) i) ≡ total → total ≡ Ok front
is_done entry front count i total le so_far =
    let k : count - i ≡ 0 = omega arith in
    let one : with_front front (each entry (count - i) i) ≡ Ok front = rw k (ap (λ ys. Ok ys) (append-nil front)) in
    sym so_far ∙ one
