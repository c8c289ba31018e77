-- Reading blocks of resources until there is none, as a loop does.
use Rattle.w16_ne.proofs
use proofs.Common.{◌≡◌, ℕ, zero, suc, ◌-◌, ◌+◌, ◌*◌, ◌≤◌, ◌<◌, true, ltb, eqb, List, Option, Some, None, [], ◌∷◌, ◌++◌, length, take, drop, Ok, Err, refl, sym, ap, ◌∙◌, arith, nat_tests, append-nil, NeFault, Block, Reading, length_at, word_of, block_at, blocks_from, blocks_at}
use proofs.{Each.with_front, Each.regroup, Until.reads_ok, Until.goes_past}
use Rattle.w16_ne.specs.declared.fault.NeFault.TheVariants as faults

abbrev pub end_of : Block → ℕ
end_of b = b.at + 12 * b.count

pub goes_on : (file : Option (List ℕ)) (front : List Block) (count i at : ℕ) (b : Block) (total : Reading (List Block)) → i < count → block_at file at ≡ Ok (Some b)
    → with_front front (blocks_from file (count - i) at) ≡ total → with_front (front ++ b ∷ []) (blocks_from file (count - (i + 1)) (end_of b)) ≡ total
goes_on file front count i at b total lt h so_far =
    let k : count - i ≡ suc (count - (i + 1)) = omega arith in
    let one : with_front front (blocks_from file (count - i) at) ≡ with_front (front ++ b ∷ []) (blocks_from file (count - (i + 1)) (end_of b)) = rw (k, h) (regroup front b (blocks_from file (count - (i + 1)) (end_of b))) in
    sym one ∙ so_far

pub stops : (file : Option (List ℕ)) (front : List Block) (count i at : ℕ) (e : NeFault) (total : Reading (List Block)) → i < count → block_at file at ≡ Err e
    → with_front front (blocks_from file (count - i) at) ≡ total → total ≡ Err e
stops file front count i at e total lt h so_far =
    let k : count - i ≡ suc (count - (i + 1)) = omega arith in
    let one : with_front front (blocks_from file (count - i) at) ≡ Err e = rw (k, h) refl in
    sym so_far ∙ one

pub is_done : (file : Option (List ℕ)) (front : List Block) (count i at : ℕ) (total : Reading (List Block)) → i < count → block_at file at ≡ Ok None
    → with_front front (blocks_from file (count - i) at) ≡ total → total ≡ Ok front
is_done file front count i at total lt h so_far =
    let k : count - i ≡ suc (count - (i + 1)) = omega arith in
    let one : with_front front (blocks_from file (count - i) at) ≡ Ok front = rw (k, h) (ap (λ ys. Ok ys) (append-nil front)) in
    sym so_far ∙ one

pub err_now : (file : Option (List ℕ)) (count i at : ℕ) (e : NeFault) → i < count → block_at file at ≡ Err e → blocks_from file (count - i) at ≡ Err e
err_now file count i at e lt h = let k : count - i ≡ suc (count - (i + 1)) = omega arith in rw (k, h) refl

pub err_later : (file : Option (List ℕ)) (count i at : ℕ) (b : Block) (e : NeFault) → i < count → block_at file at ≡ Ok (Some b)
    → blocks_from file (count - (i + 1)) (end_of b) ≡ Err e → blocks_from file (count - i) at ≡ Err e
err_later file count i at b e lt h later = let k : count - i ≡ suc (count - (i + 1)) = omega arith in rw (k, h, later) refl

pub err_over : (file : Option (List ℕ)) (count i at : ℕ) → count ≤ i → blocks_from file (count - i) at ≡ Err faults.Truncated
err_over file count i at le = let k : count - i ≡ 0 = omega arith in rw k refl

pub blocks_are : (file : Option (List ℕ)) (len at : ℕ) → length_at file ≡ Ok len → blocks_at file at ≡ blocks_from file len at
unfolding blocks_at
blocks_are file len at h = rw h refl

pub past_the_end : (file : Option (List ℕ)) (len at : ℕ) → length_at file ≡ Ok len → len ≤ at → block_at file at ≡ Err faults.Truncated
unfolding block_at
past_the_end None len at h le = cc
past_the_end (Some file) len at h le =
    let e : length file ≡ len = cc in
    let short : ltb (length file) (at + 2) ≡ true = grind (arith, nat_tests) in
    rw short refl

pub none_behind : (file : Option (List ℕ)) (len at : ℕ) → length_at file ≡ Ok len → len ≤ at → blocks_from file len at ≡ Err faults.Truncated
none_behind file zero at h le = refl
none_behind file (suc n) at h le = rw (past_the_end file (suc n) at h le) refl

-- a block that is there ends before the file does
pub block_ends : (file : Option (List ℕ)) (len at : ℕ) (b : Block) → length_at file ≡ Ok len → block_at file at ≡ Ok (Some b) → end_of b ≤ len
unfolding block_at
block_ends None len at b h r = cc
block_ends (Some file) len at b h r =
    let kind = take 2 (drop at file) in
    let head = take 8 (drop at file) in
    let end = at + 8 + 12 * word_of head 2 in
    let first = reads_ok (ltb (length file) (at + 2)) faults.Truncated kind _ (Some b) r in
    let more = goes_past (eqb (word_of kind 0) 0) _ b first.1 in
    let second = reads_ok (ltb (length file) (at + 8)) faults.Truncated head _ (Some b) more in
    let third = reads_ok (ltb (length file) end) faults.Truncated tt _ (Some b) second.1 in
    let whole : length file ≡ len = cc in
    let inside : end ≤ length file = grind (arith, nat_tests, third.0) in
    let is : record { kind = word_of head 0; count = word_of head 2; at = at + 8 } ≡ b = cc (third.1) in
    let ends = ap (λ x. end_of x) is in
    omega (arith, ends, inside, whole)
