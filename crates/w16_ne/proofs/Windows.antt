-- Texts that words lead to are those of the file.
use Rattle.w16_ne.proofs
use proofs.Common.{◌≡◌, ℕ, ◌+◌, ◌<◌, ◌≤◌, Bool, true, false, cond, ltb, List, All, length, take, drop, Option, Some, None, Result, Ok, Err, refl, sym, ap, subst, ◌∙◌, arith, slice_index, nat_tests, get_or_past, NeFault, Reading, ◌>>=◌, Refused, IsOfFile, bytes_or, text_at, HasText}
use proofs.Common.{text_in, texts_behind}
use proofs.{NamesFormat.byte_here, Pieces.bytes_same, Pieces.bind_same}
use Rattle.w16_ne.specs.declared.fault.NeFault.TheVariants as faults

abbrev front : ℕ → List ℕ → ℕ → List ℕ
front most file at = take most (drop at file)

cut_or : (b : Bool) (short : NeFault) (x y : List ℕ) → ◌≡◌ {A = Reading (List ℕ)} (cond b (Err short) (Ok x)) (Ok y) → x ≡ y
cut_or true short x y h = cc
cut_or false short x y h = cc

-- a front that has the most that a text takes has the same text
text_same : (most : ℕ) (short : NeFault) (file : List ℕ) (at word : ℕ) → word + 256 ≤ most → slice_index (front most file at) word < 256 → text_at short (Some (front most file at)) word ≡ text_at short (Some file) (at + word)
unfolding text_at
text_same most short file at word le small =
    let w = front most file at in
    let next : at + (word + 1) ≡ at + word + 1 = omega arith in
    bind_same (bytes_or short (Some w) word 1) (λ len. bytes_or short (Some w) (word + 1) (slice_index len 0)) (λ len. bytes_or short (Some file) (at + word + 1) (slice_index len 0))
    (λ len is.
    (let cut = cut_or (ltb (length w) (word + 1)) short (take 1 (drop word w)) len is in
    let count = sym (ap (λ xs. slice_index xs 0) cut) ∙ byte_here w word in
    bytes_same most file at short (word + 1) (slice_index len 0) (omega arith) (omega (arith, count, small, le)) ∙ ap (λ a. bytes_or short (Some file) a (slice_index len 0)) next))
    ∙ ap (λ r. r >>= λ len. bytes_or short (Some file) (at + word + 1) (slice_index len 0))
    (bytes_same most file at short word 1 (omega arith) (omega (arith, le)))

-- where the text is whole, and where it isn't
there : (short : NeFault) (bytes : List ℕ) (at : ℕ) → HasText bytes at → text_at short (Some bytes) at ≡ Ok (text_in bytes at)
unfolding text_at
there short bytes at has =
    let first : ltb (length bytes) (at + 1) ≡ false = grind (arith, nat_tests, has) in
    let second : ltb (length bytes) (at + 1 + slice_index bytes at) ≡ false = grind (arith, nat_tests, has) in
    rw (first, byte_here bytes at, second) refl

ends : (short : NeFault) (bytes : List ℕ) (at : ℕ) (b : Bool) → ltb (length bytes) (at + 1) ≡ b → length bytes < at + 1 + slice_index bytes at → text_at short (Some bytes) at ≡ Err short
unfolding text_at
ends short bytes at true q lt = rw q refl
ends short bytes at false q lt =
    let second : ltb (length bytes) (at + 1 + slice_index bytes at) ≡ true = grind (arith, nat_tests, lt) in
    rw (q, byte_here bytes at, second) refl

module _ (short : NeFault) (file : Option (List ℕ)) (at word : ℕ) (texts : List ℕ) where
  same_there : texts_behind file at ≡ Ok texts → word < 65536 → slice_index texts word < 256 → text_at short (Some texts) word ≡ text_at short file (at + word)
  same_there is lt small = elim file as (λ f. texts_behind f at ≡ Ok texts → text_at short (Some texts) word ≡ text_at short f (at + word)) [
    | None ↦ λ h. cc
    | Some f ↦ λ h. (let same : front 65791 f at ≡ texts = cc in
        ap (λ (b : List ℕ). text_at short (Some b) word) (sym same) ∙ text_same 65791 short f at word (omega arith) (subst (λ b. slice_index b word < 256) (sym same) small))
  ] is

  pub text_there : texts_behind file at ≡ Ok texts → word < 65536 → slice_index texts word < 256 → HasText texts word → text_at short file (at + word) ≡ Ok (text_in texts word)
  text_there is lt small has = sym (same_there is lt small) ∙ there short texts word has

  pub text_ends : texts_behind file at ≡ Ok texts → word < 65536 → slice_index texts word < 256 → length texts < word + 1 + slice_index texts word → text_at short file (at + word) ≡ Err short
  text_ends is lt small past = sym (same_there is lt small) ∙ ends short texts word (ltb (length texts) (word + 1)) refl past

pub refused_of_file : {Y : Type 0} (e : NeFault) (read : Result Y NeFault) → IsOfFile e → read ≡ Err e → Refused e read
refused_of_file faults.NotMz read plain h = h
refused_of_file faults.NotNe read plain h = h
refused_of_file (faults.Target t) read plain h = h
refused_of_file faults.Unsupported read plain h = h
refused_of_file faults.Truncated read plain h = h
refused_of_file faults.BadTable read plain h = h
refused_of_file (faults.Store e) read plain h = absurd plain
refused_of_file faults.OutOfMemory read plain h = absurd plain

pub byte_small : (bytes : List ℕ) (at : ℕ) → All (λ b. b < 256) bytes → slice_index bytes at < 256
byte_small bytes at all = elim (ltb at (length bytes)) as (λ b. ltb at (length bytes) ≡ b → slice_index bytes at < 256) [
  | true ↦ λ q. all at 0 (grind (arith, nat_tests, q))
  | false ↦ λ q. (let none = get_or_past bytes at 0 (grind (arith, nat_tests, q)) in omega (arith, none))
] refl
