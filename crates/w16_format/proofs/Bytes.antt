-- Bytes and words of a file.
use Rattle.w16_format.proofs.Common as C
use Rattle.w16_format.proofs.Common.{◌≡◌, ℕ, zero, suc, ◌+◌, ◌<◌, true, List, [], ◌∷◌, refl, sym, subst, arith, get_or, All, padded, has_bytes}

abbrev pub AreBytes : List ℕ → Type 0
AreBytes bytes = All (λ b. b < 256) bytes

pub at_any : (bytes : List ℕ) → AreBytes bytes → (o : ℕ) → get_or bytes o 0 < 256
at_any [] all o = omega arith
at_any (b ∷ bs) all zero = C.All-head (λ x. x < 256) b bs all
at_any (b ∷ bs) all (suc o) = at_any bs (C.All-tail (λ x. x < 256) b bs all) o

pub word_small : (bytes : List ℕ) → AreBytes bytes → (at : ℕ) → C.word_of bytes at < 65536
word_small bytes all at = let a = at_any bytes all at in let b = at_any bytes all (at + 1) in omega (arith, a, b)

pub padded_length : (bytes : List ℕ) (size : ℕ) → C.length (padded bytes size) ≡ size
padded_length bytes size = C.length-map-range_with_len (λ o. get_or bytes o 0) 0 size

pub padded_bytes : (bytes : List ℕ) (size : ℕ) → AreBytes bytes → AreBytes (padded bytes size)
padded_bytes bytes size all k d lt =
    let long = padded_length bytes size in
    let same : get_or (padded bytes size) k d ≡ get_or bytes k 0 = C.get_or-map-range_with_len (λ o. get_or bytes o 0) 0 size k k d (omega (arith, long, lt)) (omega arith) in
    subst (λ n. n < 256) (sym same) (at_any bytes all k)

-- what passes the test for bytes has bytes
pub passed_bytes : (file : List ℕ) → has_bytes file ≡ true → AreBytes file
passed_bytes [] e = C.All-nil (λ x. x < 256)
passed_bytes (b ∷ bs) e = let parts = C.and_parts (C.nat_lt b 256) (has_bytes bs) e in C.All-cons (λ x. x < 256) b bs (C.ltb-true b 256 parts.0) (passed_bytes bs parts.1)

pub bytes_pass : (file : List ℕ) → AreBytes file → has_bytes file ≡ true
bytes_pass [] all = refl
bytes_pass (b ∷ bs) all = C.and_from _ _ (C.lt-ltb b 256 (C.All-head (λ x. x < 256) b bs all)) (bytes_pass bs (C.All-tail (λ x. x < 256) b bs all))
