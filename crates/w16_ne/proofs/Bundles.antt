-- Reading bundles one after the other, as a loop does.
use Rattle.w16_ne.proofs.Common.{◌≡◌, ℕ, zero, suc, ◌-◌, ◌+◌, ◌<◌, ◌==◌, ◌||◌, Bool, true, false, List, Option, [], ◌∷◌, ◌++◌, length, Ok, Err, refl, sym, ap, ◌∙◌, append_assoc, arith, nat_lt, nat_le, slice_index, append-nil, NeFault, Reading, ◌>>=◌, each, bundle_end, bundle_in, bundles_from}
use Rattle.w16_ne.specs.declared.fault.NeFault.TheVariants as faults
use Rattle.w16_ne.specs.declared.entry_table.Entry.{Entry}
use Rattle.w16_ne.proofs.Each.{with_front}

bind_length : {T : Type 0} (x : T) (read : Reading (List T)) (n : ℕ) (xs : List T) → ((ys : List T) → read ≡ Ok ys → length ys ≡ n) → (read >>= λ others. Ok (x ∷ others)) ≡ Ok xs → length xs ≡ suc n
bind_length x (Ok ys) n xs long h = let e : x ∷ ys ≡ xs = cc in rw (← e) (ap (λ k. suc k) (long ys refl))
bind_length x (Err e) n xs long h = cc

first_length : {T : Type 0} (first : Reading T) (read : Reading (List T)) (n : ℕ) (xs : List T) → ((ys : List T) → read ≡ Ok ys → length ys ≡ n) → (first >>= λ x. read >>= λ others. Ok (x ∷ others)) ≡ Ok xs → length xs ≡ suc n
first_length (Ok x) read n xs long h = bind_length x read n xs long h
first_length (Err e) read n xs long h = cc

pub each-length : {T : Type 0} (item : ℕ → Reading T) (n i : ℕ) (xs : List T) → each item n i ≡ Ok xs → length xs ≡ n
each-length {T} item zero i xs h = let e : ◌≡◌ {A = List T} [] xs = cc in rw (← e) refl
each-length item (suc n) i xs h = first_length (item i) (each item n (i + 1)) n xs (λ ys e. each-length item n (i + 1) ys e) h

abbrev pub is_end : List ℕ → ℕ → Bool
is_end table at = nat_le (length table) at || slice_index table at == 0

abbrev pub is_bad : List ℕ → ℕ → ℕ → Bool
is_bad table at ordinals = nat_lt (length table) (bundle_end table at) || nat_lt 65535 (ordinals + slice_index table at)

abbrev pub here : List ℕ → ℕ → ℕ → Reading (List (Option Entry))
here table segments at = bundle_in table segments (slice_index table (at + 1)) (slice_index table at) (at + 2)

regroup : {T : Type 0} (front xs : List T) (read : Reading (List T)) → with_front front (read >>= λ others. Ok (xs ++ others)) ≡ with_front (front ++ xs) read
regroup front xs (Ok ys) = ap (λ zs. Ok zs) (simp append_assoc)
regroup front xs (Err e) = refl

pub goes_on : (table : List ℕ) (segments : ℕ) (front : List (Option Entry)) (count i at : ℕ) (xs : List (Option Entry)) (total : Reading (List (Option Entry))) → i < count → is_end table at ≡ false → is_bad table at (length front) ≡ false
    → here table segments at ≡ Ok xs → with_front front (bundles_from table segments (count - i) at (length front)) ≡ total
    → with_front (front ++ xs) (bundles_from table segments (count - (i + 1)) (bundle_end table at) (length front + slice_index table at)) ≡ total
goes_on table segments front count i at xs total lt more sound is so_far =
    let k : count - i ≡ suc (count - (i + 1)) = omega arith in
    let rest = bundles_from table segments (count - (i + 1)) (bundle_end table at) (length front + slice_index table at) in
    let one : with_front front (bundles_from table segments (count - i) at (length front)) ≡ with_front (front ++ xs) rest = rw (k, more, sound, is) (regroup front xs rest) in
    sym one ∙ so_far

pub stops : (table : List ℕ) (segments : ℕ) (front : List (Option Entry)) (count i at : ℕ) (e : NeFault) (total : Reading (List (Option Entry))) → i < count → is_end table at ≡ false → is_bad table at (length front) ≡ false
    → here table segments at ≡ Err e → with_front front (bundles_from table segments (count - i) at (length front)) ≡ total → total ≡ Err e
stops table segments front count i at e total lt more sound is so_far =
    let k : count - i ≡ suc (count - (i + 1)) = omega arith in
    let one : with_front front (bundles_from table segments (count - i) at (length front)) ≡ Err e = rw (k, more, sound, is) refl in
    sym so_far ∙ one

pub is_refused : (table : List ℕ) (segments : ℕ) (front : List (Option Entry)) (count i at : ℕ) (total : Reading (List (Option Entry))) → i < count → is_end table at ≡ false → is_bad table at (length front) ≡ true
    → with_front front (bundles_from table segments (count - i) at (length front)) ≡ total → total ≡ Err faults.BadTable
is_refused table segments front count i at total lt more bad so_far =
    let k : count - i ≡ suc (count - (i + 1)) = omega arith in
    let one : with_front front (bundles_from table segments (count - i) at (length front)) ≡ Err faults.BadTable = rw (k, more, bad) refl in
    sym so_far ∙ one

pub is_done : (table : List ℕ) (segments : ℕ) (front : List (Option Entry)) (count i at : ℕ) (total : Reading (List (Option Entry))) → i < count → is_end table at ≡ true
    → with_front front (bundles_from table segments (count - i) at (length front)) ≡ total → total ≡ Ok front
is_done table segments front count i at total lt end so_far =
    let k : count - i ≡ suc (count - (i + 1)) = omega arith in
    let one : with_front front (bundles_from table segments (count - i) at (length front)) ≡ Ok front = rw (k, end) (ap (λ ys. Ok ys) (append-nil front)) in
    sym so_far ∙ one

pub bundle-length : (table : List ℕ) (segments indicator count at : ℕ) (xs : List (Option Entry)) → bundle_in table segments indicator count at ≡ Ok xs → length xs ≡ count
unfolding bundle_in
bundle-length table segments indicator count at xs h = each-length _ count 0 xs h
