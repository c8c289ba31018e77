-- A piece of a file has the same bytes and entries.
use Rattle.w16_ne.proofs
use proofs.Common as C
use proofs.Common.{◌≡◌, ℕ, ◌+◌, ◌-◌, ◌<◌, ◌≤◌, min, Bool, true, false, cond, ltb, eqb, List, length, take, drop, Option, Some, None, Ok, Err, refl, sym, ap, subst, ◌∙◌, arith, slice_index, NeFault, Reading, ◌>>=◌, Gives, Refuses, Tells, IsFailure, bytes_or, word_of, name_at}
use proofs.NamesFormat.{byte_here}
use Rattle.w16_store.specs.declared.store.StoreFault.TheVariants as stores
use Rattle.w16_ne.specs.declared.fault.NeFault.TheVariants as faults

-- Faults.

pub refused_is : {A : Type 0} (file : Option (List ℕ)) (before after : ℕ) (e : NeFault) (read : Reading A) → C.Refused e read → Refuses file before after e read
refused_is file before after faults.OutOfMemory read h = tt
refused_is file before after (faults.Store e) read h = absurd h
refused_is file before after faults.NotMz read h = h
refused_is file before after faults.NotNe read h = h
refused_is file before after (faults.Target t) read h = h
refused_is file before after faults.Unsupported read h = h
refused_is file before after faults.Truncated read h = h
refused_is file before after faults.BadTable read h = h

pub given : {X Y : Type 0} (view : X → Y) (file : Option (List ℕ)) (before after : ℕ) (r : C.Result X NeFault) (read : Reading Y) → Tells view r read → Gives view file before after r read
given view file before after (Ok x) read h = h
given view file before after (Err e) read h = refused_is file before after e read h

-- what failed says nothing of what was to be read, and may be told over a longer time
pub failure_is : {A : Type 0} (file : Option (List ℕ)) (old before after : ℕ) (e : NeFault) (read : Reading A) → old ≤ before → IsFailure before after e → Refuses file old after e read
failure_is file old before after faults.OutOfMemory read le h = tt
failure_is file old before after (faults.Store stores.Device) read le h = omega arith
failure_is file old before after (faults.Store stores.Missing) read le h = absurd h
failure_is file old before after (faults.Store stores.Short) read le h = absurd h
failure_is file old before after faults.NotMz read le h = absurd h
failure_is file old before after faults.NotNe read le h = absurd h
failure_is file old before after (faults.Target t) read le h = absurd h
failure_is file old before after faults.Unsupported read le h = absurd h
failure_is file old before after faults.Truncated read le h = absurd h
failure_is file old before after faults.BadTable read le h = absurd h

-- where all is read that was to be, only that is left
abbrev IsThere : Option (List ℕ) → Type 0
IsThere None = ⊥
IsThere (Some file) = Unit {0}

pub only_failure : {A : Type 0} (file : Option (List ℕ)) (before after : ℕ) (e : NeFault) (x : A) → IsThere file → Refuses file before after e (Ok x) → IsFailure before after e
only_failure file before after faults.OutOfMemory x some h = tt
only_failure file before after (faults.Store stores.Device) x some h = h
only_failure (Some f) before after (faults.Store stores.Missing) x some h = cc
only_failure None before after (faults.Store stores.Missing) x some h = absurd some
only_failure file before after (faults.Store stores.Short) x some h = h
only_failure file before after faults.NotMz x some h = cc
only_failure file before after faults.NotNe x some h = cc
only_failure file before after (faults.Target t) x some h = cc
only_failure file before after faults.Unsupported x some h = cc
only_failure file before after faults.Truncated x some h = cc
only_failure file before after faults.BadTable x some h = cc

-- Pieces.

abbrev front : ℕ → List ℕ → ℕ → List ℕ
front most file at = take most (drop at file)

pub front_is : (most : ℕ) (file : Option (List ℕ)) (len at count : ℕ) → C.length_at file ≡ Ok len → at < len → count ≡ min (len - at) most → bytes_or faults.Truncated file at count ≡ C.front_at most file at
front_is most None len at count h lt e = cc
front_is most (Some file) len at count h lt e =
    let whole : length file ≡ len = cc in
    let less : count ≤ len - at = grind arith in
    let inside : ltb (length file) (at + count) ≡ false = grind (arith, C.nat_tests) in
    let long = C.length-drop at file ∙ ap (λ n. n - at) whole in
    let count_is : count ≡ min most (length (drop at file)) = grind arith in
    rw (inside, count_is) (ap (λ xs. Ok xs) (C.take_min most (drop at file)))

pub not_read : (most : ℕ) (file : Option (List ℕ)) (len at count before after : ℕ) (e : NeFault) → C.length_at file ≡ Ok len → at < len → count ≡ min (len - at) most
    → Refuses file before after e (bytes_or faults.Truncated file at count) → IsFailure before after e
not_read most None len at count before after e h lt is refused = cc
not_read most (Some file) len at count before after e h lt is refused =
    only_failure (Some file) before after e (front most file at) tt (subst (Refuses (Some file) before after e) (front_is most (Some file) len at count h lt is) refused)

module _ (most : ℕ) (file : List ℕ) (pat : ℕ) where
  pub cut_same : (i n : ℕ) → i + n ≤ most → take n (drop i (front most file pat)) ≡ take n (drop (pat + i) file)
  cut_same i n le =
      let m = most - i in
      let whole : most ≡ i + m = omega arith in
      let one : drop i (front most file pat) ≡ take m (drop i (drop pat file)) = ap (λ k. drop i (take k (drop pat file))) whole ∙ C.drop-take i m (drop pat file) in
      ap (λ xs. take n xs) one ∙ C.take-take n m (drop i (drop pat file)) (omega arith) ∙ ap (λ xs. take n xs) (C.drop-drop i pat file)

  short_same : (i n : ℕ) → 0 < i + n → i + n ≤ most → ltb (length (front most file pat)) (i + n) ≡ ltb (length file) (pat + i + n)
  short_same i n some le =
      let long = C.length-take most (drop pat file) in
      let rest = C.length-drop pat file in
      grind (arith, C.nat_tests, long, rest)

  pub bytes_same : (short : NeFault) (i n : ℕ) → 0 < i + n → i + n ≤ most → bytes_or short (Some (front most file pat)) i n ≡ bytes_or short (Some file) (pat + i) n
  bytes_same short i n some le = rw (short_same i n some le, cut_same i n le) refl

-- An entry that lies in the piece, however long it is, is the file's.

pub bind_same : {A B : Type 0} (r : Reading A) (f g : A → Reading B) → ((x : A) → r ≡ Ok x → f x ≡ g x) → (r >>= f) ≡ (r >>= g)
bind_same (Ok x) f g h = h x refl
bind_same (Err e) f g h = refl

cond_same : {A : Type 0} (b : Bool) (x y z : A) → y ≡ z → cond b x y ≡ cond b x z
cond_same b x y z h = ap (λ v. cond b x v) h

cut_is : (b : Bool) (x y : List ℕ) → ◌≡◌ {A = Reading (List ℕ)} (cond b (Err faults.Truncated) (Ok x)) (Ok y) → x ≡ y
cut_is true x y h = cc
cut_is false x y h = cc

pub name_same : (file : List ℕ) (pat i at : ℕ) → pat + i ≡ at → i + 258 ≤ 1024 → slice_index (front 1024 file pat) i < 256 → name_at (Some (front 1024 file pat)) i ≡ name_at (Some file) at
unfolding name_at
name_same file pat i at place le small =
    let p = front 1024 file pat in
    let next : pat + (i + 1) ≡ at + 1 = omega (arith, place) in
    bind_same (bytes_or faults.Truncated (Some p) i 1) _
    (λ len. cond (eqb (slice_index len 0) 0) (Ok None) (bytes_or faults.Truncated (Some file) (at + 1) (slice_index len 0 + 2) >>= λ rest. Ok (Some (take (slice_index len 0) rest, word_of rest (slice_index len 0)))))
    (λ len is.
    (let cut = cut_is (ltb (length p) (i + 1)) (take 1 (drop i p)) len is in
    let count = sym (ap (λ xs. slice_index xs 0) cut) ∙ byte_here p i in
    let same : bytes_or faults.Truncated (Some p) (i + 1) (slice_index len 0 + 2) ≡ bytes_or faults.Truncated (Some file) (at + 1) (slice_index len 0 + 2) =
    bytes_same 1024 file pat faults.Truncated (i + 1) (slice_index len 0 + 2) (omega arith) (omega (arith, count, small, le)) ∙ ap (λ a. bytes_or faults.Truncated (Some file) a (slice_index len 0 + 2)) next in
    cond_same (eqb (slice_index len 0) 0) (Ok None) _ _ (ap (λ r. r >>= λ rest. Ok (Some (take (slice_index len 0) rest, word_of rest (slice_index len 0)))) same)))
    ∙ ap (λ r. r >>= λ len. cond (eqb (slice_index len 0) 0) (Ok None) (bytes_or faults.Truncated (Some file) (at + 1) (slice_index len 0 + 2) >>= λ rest. Ok (Some (take (slice_index len 0) rest, word_of rest (slice_index len 0)))))
    (bytes_same 1024 file pat faults.Truncated i 1 (omega arith) (omega (arith, le)) ∙ ap (λ a. bytes_or faults.Truncated (Some file) a 1) place)

pub name_in_piece : (file : Option (List ℕ)) (bytes : List ℕ) (pat i at : ℕ) → C.piece_at file pat ≡ Ok bytes → pat + i ≡ at → i + 258 ≤ 1024 → slice_index bytes i < 256 → name_at (Some bytes) i ≡ name_at file at
name_in_piece None bytes pat i at is place le small = cc
name_in_piece (Some file) bytes pat i at is place le small =
    let same : front 1024 file pat ≡ bytes = cc in
    ap (λ b. name_at (Some b) i) (sym same) ∙ name_same file pat i at place le (subst (λ b. slice_index b i < 256) (sym same) small)

pub bytes_in_piece : (file : Option (List ℕ)) (bytes : List ℕ) (pat i at n : ℕ) → C.piece_at file pat ≡ Ok bytes → pat + i ≡ at → 0 < i + n → i + n ≤ 1024
    → bytes_or faults.Truncated (Some bytes) i n ≡ bytes_or faults.Truncated file at n
bytes_in_piece None bytes pat i at n is place some le = cc
bytes_in_piece (Some file) bytes pat i at n is place some le =
    let same : front 1024 file pat ≡ bytes = cc in
    ap (λ b. bytes_or faults.Truncated (Some b) i n) (sym same) ∙ bytes_same 1024 file pat faults.Truncated i n some le ∙ ap (λ a. bytes_or faults.Truncated (Some file) a n) place
