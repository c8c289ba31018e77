-- Reading the names of a table one after the other, as a loop does.
use Rattle.w16_ne.proofs.Common.{◌≡◌, ℕ, suc, ◌-◌, ◌+◌, ◌<◌, ◌==◌, ◌||◌, Bool, true, false, List, [], ◌∷◌, ◌++◌, length, take, drop, Ok, Err, refl, sym, ap, ◌∙◌, arith, nat_lt, nat_le, slice_index, append-nil, Reading, word_of, Entry, names_in}
use Rattle.w16_ne.specs.declared.fault.NeFault.TheVariants as faults
use Rattle.w16_ne.proofs.Each.{with_front, regroup}

abbrev pub is_end : List ℕ → ℕ → Bool
is_end table at = nat_le (length table) at || slice_index table at == 0

abbrev pub here : List ℕ → ℕ → Entry
here table at = (take (slice_index table at) (drop (at + 1) table), word_of table (at + 1 + slice_index table at))

pub goes_on : (table : List ℕ) (front : List Entry) (count i at : ℕ) (total : Reading (List Entry)) → i < count → is_end table at ≡ false → nat_lt (length table) (at + 3 + slice_index table at) ≡ false
    → with_front front (names_in table (count - i) at) ≡ total → with_front (front ++ here table at ∷ []) (names_in table (count - (i + 1)) (at + 3 + slice_index table at)) ≡ total
goes_on table front count i at total lt more sound so_far =
    let k : count - i ≡ suc (count - (i + 1)) = omega arith in
    let rest = names_in table (count - (i + 1)) (at + 3 + slice_index table at) in
    let one : with_front front (names_in table (count - i) at) ≡ with_front (front ++ here table at ∷ []) rest = rw (k, more, sound) (regroup front (here table at) rest) in
    sym one ∙ so_far

pub is_refused : (table : List ℕ) (front : List Entry) (count i at : ℕ) (total : Reading (List Entry)) → i < count → is_end table at ≡ false → nat_lt (length table) (at + 3 + slice_index table at) ≡ true
    → with_front front (names_in table (count - i) at) ≡ total → total ≡ Err faults.BadTable
is_refused table front count i at total lt more bad so_far =
    let k : count - i ≡ suc (count - (i + 1)) = omega arith in
    let one : with_front front (names_in table (count - i) at) ≡ Err faults.BadTable = rw (k, more, bad) refl in
    sym so_far ∙ one

pub is_done : (table : List ℕ) (front : List Entry) (count i at : ℕ) (total : Reading (List Entry)) → i < count → is_end table at ≡ true
    → with_front front (names_in table (count - i) at) ≡ total → total ≡ Ok front
is_done table front count i at total lt end so_far =
    let k : count - i ≡ suc (count - (i + 1)) = omega arith in
    let one : with_front front (names_in table (count - i) at) ≡ Ok front = rw (k, end) (ap (λ ys. Ok ys) (append-nil front)) in
    sym so_far ∙ one
