-- Sound sites are no more than there are bytes.
use Rattle.w16_reloc.proofs.Common.{◌≡◌, ℕ, suc, zero, ◌+◌, ◌<◌, ◌≤◌, List, [], ◌∷◌, length, Bool, true, false, cond, not, refl, arith, nat_lt, ◌||◌, list_any, Site, covers, meets, AreSound, of_width}
use Rattle.w16_reloc.proofs.WalkLemmas.{site_apart}

abbrev count : (ℕ → Bool) → ℕ → ℕ
count p zero = 0
count p (suc n) = count p n + (cond (p n) 1 0)

count_bound : (p : ℕ → Bool) (n : ℕ) → count p n ≤ n
count_bound p zero = omega arith
count_bound p (suc n) = let h = count_bound p n in elim (p n) as (λ b. count p n + cond b 1 0 ≤ suc n) [ true ↦ omega (arith, h) | false ↦ omega (arith, h) ]

one_le : (m n : ℕ) (x y : Bool) → m ≤ n → (y ≡ true → x ≡ true) → m + cond y 1 0 ≤ n + cond x 1 0
one_le m n true true h i = omega arith
one_le m n true false h i = omega arith
one_le m n false true h i = let e : false ≡ true = i refl in cc
one_le m n false false h i = omega arith

count_le : (p q : ℕ → Bool) (n : ℕ) → ((b : ℕ) → q b ≡ true → p b ≡ true) → count q n ≤ count p n
count_le p q zero h = omega arith
count_le p q (suc n) h = one_le (count q n) (count p n) (p n) (q n) (count_le p q n h) (h n)

last_counts : (p q : ℕ → Bool) (n : ℕ) → count q n ≤ count p n → p n ≡ true → q n ≡ false → suc (count q n + (cond (q n) 1 0)) ≤ count p n + (cond (p n) 1 0)
last_counts p q n h lit off = rw (lit, off) (omega (arith, h))

more_counts : (p q : ℕ → Bool) (n : ℕ) → suc (count q n) ≤ count p n → (q n ≡ true → p n ≡ true) → suc (count q n + (cond (q n) 1 0)) ≤ count p n + (cond (p n) 1 0)
more_counts p q n h i = let both = one_le (suc (count q n)) (count p n) (p n) (q n) h i in omega (arith, both)

count_lt : (p q : ℕ → Bool) (n k : ℕ) → ((b : ℕ) → q b ≡ true → p b ≡ true) → k < n → p k ≡ true → q k ≡ false → suc (count q n) ≤ count p n
count_lt p q zero k h lt lit off = absurd (omega arith)
count_lt p q (suc n) k h lt lit off =
    elim (nat_lt k n) as (λ b. nat_lt k n ≡ b → suc (count q n + (cond (q n) 1 0)) ≤ count p n + (cond (p n) 1 0)) [
      | true ↦ λ e. more_counts p q n (count_lt p q n k h (grind arith) lit off) (h n)
      | false ↦ λ e. let same : k ≡ n = grind arith in last_counts p q n (count_le p q n h) (rw (← same) lit) (rw (← same) off)
    ] refl

-- how many bytes no site covers yet
abbrev free : List Site → ℕ → ℕ
free sites n = count (λ b. not (list_any (covers b) sites)) n

not_either : (x y : Bool) → not (x || y) ≡ true → not y ≡ true
not_either true y h = cc
not_either false y h = h

free_less : (sites : List Site) (at width n : ℕ) → 0 < width → at + width ≤ n → list_any (meets (record { at = at; width = width })) sites ≡ false
    → suc (free (record { at = at; width = width } ∷ sites) n) ≤ free sites n
free_less sites at width n wide inside apart =
    let clear : list_any (covers at) sites ≡ false = site_apart sites at width at apart (omega arith) (omega arith) in
    let own : covers at (record { at = at; width = width }) ≡ true = grind arith in
    count_lt (λ b. not (list_any (covers b) sites)) (λ b. not (list_any (covers b) (record { at = at; width = width } ∷ sites))) n at
    (λ b. not_either _ _) (omega arith) (rw clear refl) (rw own refl)

few : (len width : ℕ) (before : List Site) (ats : List ℕ) → 0 < width → AreSound len before (of_width width ats) → length ats ≤ free before len
few len width before [] wide sound = omega arith
few len width before (s ∷ ss) wide sound =
    let others = few len width (record { at = s; width = width } ∷ before) ss wide sound.2 in
    let less = free_less before s width len wide sound.0 sound.1 in
    omega (arith, others, less)

pub no_more_sites : (len width : ℕ) (before : List Site) (ats : List ℕ) → 0 < width → AreSound len before (of_width width ats) → length ats ≤ len
no_more_sites len width before ats wide sound =
    let most = few len width before ats wide sound in
    let all = count_bound (λ b. not (list_any (covers b) before)) len in
    omega (arith, most, all)
