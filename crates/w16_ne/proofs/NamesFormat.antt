-- Names are read exactly where they are.
use Rattle.w16_ne.proofs
use proofs.Common.{◌≡◌, ℕ, zero, suc, ◌+◌, ◌≤◌, ◌<◌, Bool, true, false, cond, ltb, eqb, List, [], ◌∷◌, length, take, drop, get_or, length-drop, Option, Some, None, Ok, Err, refl, sym, ap, subst, ◌∙◌, arith, slice_index, length-take, take-take, get_or-drop, get_or-take, nat_tests, Reading}
use proofs.Common.{◌>>=◌, word_of, Entry, size, name_at, names_from, names_at, IsName, AreNames}
use proofs.Until.{reads_ok, goes_past}
use Rattle.w16_ne.specs.declared.fault.NeFault.TheVariants as faults

-- a byte and a word of what is cut from a file are the file's
pub cut_byte : (file : List ℕ) (at n k : ℕ) → k < n → slice_index (take n (drop at file)) k ≡ slice_index file (at + k)
cut_byte file at n k lt = get_or-take n (drop at file) k 0 lt ∙ get_or-drop at file k 0

pub cut_word : (file : List ℕ) (at n k : ℕ) → k + 1 < n → word_of (take n (drop at file)) k ≡ word_of file (at + k)
cut_word file at n k lt =
    let low = cut_byte file at n k (omega arith) in
    let high = cut_byte file at n (k + 1) (omega arith) in
    let next : at + (k + 1) ≡ at + k + 1 = omega arith in
    rw (low, high, next) refl

pub byte_here : (file : List ℕ) (at : ℕ) → slice_index (take 1 (drop at file)) 0 ≡ slice_index file at
byte_here file at = let here : at + 0 ≡ at = omega arith in cut_byte file at 1 0 (omega arith) ∙ ap (λ i. slice_index file i) here

pub is_read : (file : List ℕ) (at : ℕ) (e : Entry) → IsName file at e → name_at (Some file) at ≡ Ok (Some e)
unfolding name_at
is_read file at e is =
    let n = length e.0 in
    let first : ltb (length file) (at + 1) ≡ false = grind (arith, nat_tests, is.inside) in
    let count = byte_here file at ∙ is.len in
    let more : eqb n 0 ≡ false = grind (arith, nat_tests, is.some) in
    let second : ltb (length file) (at + 1 + (n + 2)) ≡ false = grind (arith, nat_tests, is.inside) in
    let text = take-take n (n + 2) (drop (at + 1) file) (omega arith) ∙ is.text in
    let ordinal = cut_word file (at + 1) (n + 2) n (omega arith) ∙ is.ordinal in
    rw (first, count, more, second, text, ordinal) refl

pub end_is_read : (file : List ℕ) (at : ℕ) → at < length file → slice_index file at ≡ 0 → name_at (Some file) at ≡ Ok None
unfolding name_at
end_is_read file at lt h =
    let first : ltb (length file) (at + 1) ≡ false = grind (arith, nat_tests) in
    let count = byte_here file at ∙ h in
    rw (first, count) refl

pub goes_on_past : {A : Type 0} (b : Bool) (read : Reading (Option A)) (x : A) → cond b (Ok None) read ≡ Ok (Some x) → b ≡ false
goes_on_past true read x h = cc
goes_on_past false read x h = refl

pub name_is : (file : List ℕ) (at : ℕ) (e : Entry) → name_at (Some file) at ≡ Ok (Some e) → IsName file at e
unfolding name_at
name_is file at e r =
    let first = reads_ok (ltb (length file) (at + 1)) faults.Truncated (take 1 (drop at file)) _ (Some e) r in
    let count = get_or (take 1 (drop at file)) 0 0 in
    let text = goes_past (eqb count 0) _ e first.1 in
    let more = goes_on_past (eqb count 0) _ e first.1 in
    let cut = take (count + 2) (drop (at + 1) file) in
    let rest = reads_ok (ltb (length file) (at + 1 + (count + 2))) faults.Truncated cut _ (Some e) text in
    let is : (take count cut, word_of cut count) ≡ e = cc (rest.1) in
    let inside : at + 1 + (count + 2) ≤ length file = grind (arith, nat_tests, rest.0) in
    let less = take-take count (count + 2) (drop (at + 1) file) (omega arith) in
    let text_is = sym less ∙ ap (λ x. x.0) is in
    let long : length e.0 ≡ count = omega (arith, ap length text_is, length-take count (drop (at + 1) file), length-drop (at + 1) file, inside) in
    record {
      inside = omega (arith, long, inside);
      some = rw long (grind (arith, nat_tests, more));
      len = sym (byte_here file at) ∙ sym long;
      text = rw long text_is;
      ordinal = rw long (sym (cut_word file (at + 1) (count + 2) count (omega arith)) ∙ ap (λ x. x.1) is);
    }

never_none : {A : Type 0} (b : Bool) (x : A) (f : A → Entry) → (cond b (Err faults.Truncated) (Ok x) >>= λ y. Ok (Some (f y))) ≡ Ok None → ⊥
never_none true x f h = cc
never_none false x f h = cc

pub ends_here : {A : Type 0} (b : Bool) (read : Reading (Option A)) → (read ≡ Ok None → ⊥) → cond b (Ok None) read ≡ Ok None → b ≡ true
ends_here true read never h = refl
ends_here false read never h = absurd (never h)

pub end_is : (file : List ℕ) (at : ℕ) → name_at (Some file) at ≡ Ok None → (at < length file) × (slice_index file at ≡ 0)
unfolding name_at
end_is file at r =
    let first = reads_ok (ltb (length file) (at + 1)) faults.Truncated (take 1 (drop at file)) _ None r in
    let count = get_or (take 1 (drop at file)) 0 0 in
    let over = ends_here (eqb count 0) _ (never_none (ltb (length file) (at + 1 + (count + 2))) _ (λ rest. (take count rest, word_of rest count))) first.1 in
    let zero_ : count ≡ 0 = grind (arith, nat_tests, over) in
    (grind (arith, nat_tests, first.0), sym (byte_here file at) ∙ zero_)

-- the names of a table, as far as there are any
next_are : (file : List ℕ) (at : ℕ) (e : Entry) (read : Reading (List Entry)) (names : List Entry) → IsName file at e → ((others : List Entry) → read ≡ Ok others → AreNames file (at + size e) others)
    → (read >>= λ others. Ok (e ∷ others)) ≡ Ok names → AreNames file at names
next_are file at e (Err f) names is rest h = cc
next_are file at e (Ok others) names is rest h = let same : e ∷ others ≡ names = cc in subst (λ ns. AreNames file at ns) same (is, rest others refl)

found_are : (file : List ℕ) (n at : ℕ) (read : Reading (Option Entry)) (names : List Entry) → name_at (Some file) at ≡ read → ((a : ℕ) (others : List Entry) → names_from (Some file) n a ≡ Ok others → AreNames file a others)
    → (read >>= λ found. elim found [ None ↦ Ok [] | Some e ↦ names_from (Some file) n (at + size e) >>= λ others. Ok (e ∷ others) ]) ≡ Ok names → AreNames file at names
found_are file n at (Err f) names is rest h = cc
found_are file n at (Ok None) names is rest h = let same : ◌≡◌ {A = List Entry} [] names = cc in subst (λ ns. AreNames file at ns) same (end_is file at is)
found_are file n at (Ok (Some e)) names is rest h = next_are file at e (names_from (Some file) n (at + size e)) names (name_is file at e is) (rest (at + size e)) h

read_are : (file : List ℕ) (n at : ℕ) (names : List Entry) → names_from (Some file) n at ≡ Ok names → AreNames file at names
read_are file zero at names h = cc
read_are file (suc n) at names h = found_are file n at (name_at (Some file) at) names refl (read_are file n) h

are_read : (file : List ℕ) (n at : ℕ) (names : List Entry) → length names < n → AreNames file at names → names_from (Some file) n at ≡ Ok names
are_read file zero at names few are = absurd (omega arith)
are_read file (suc n) at [] few are = rw (end_is_read file at are.0 are.1) refl
are_read file (suc n) at (e ∷ es) few are = rw (is_read file at e are.0, are_read file n (at + size e) es (omega arith) are.1) refl

few : (file : List ℕ) (at : ℕ) (names : List Entry) → AreNames file at names → at + length names < length file
few file at [] are = omega (arith, are.0)
few file at (e ∷ es) are = omega (arith, few file (at + size e) es are.1)

pub names_format : (file : List ℕ) (at : ℕ) (names : List Entry) → (names_at (Some file) at ≡ Ok names → AreNames file at names) × (AreNames file at names → names_at (Some file) at ≡ Ok names)
unfolding names_at
names_format file at names = (read_are file (length file) at names, λ are. are_read file (length file) at names (omega (arith, few file at names are)) are)
