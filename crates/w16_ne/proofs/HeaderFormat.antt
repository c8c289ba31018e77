-- A header is read exactly where it is.
use Rattle.w16_ne.proofs
use proofs.Common.{◌≡◌, ℕ, ◌+◌, ◌≤◌, ◌<◌, ◌⊎◌, inl, inr, Bool, true, false, not, ◌&&◌, ◌||◌, ltb, eqb, List, length, take, drop, Some, Ok, refl, sym, subst, ◌∙◌, arith, bit_and, nat_tests, word_of, dword_of, place_at, header_at, fields_of, flags_of, segment_count, shift_of, target_of}
use proofs.Common.{IsOldHeader, IsHeader, IsAccepted}
use proofs.{Until.reads_ok, NamesFormat.cut_word, SegmentsFormat.passed}
use Rattle.w16_ne.specs.declared.fault.NeFault.TheVariants as faults

cut_dword : (file : List ℕ) (at n k : ℕ) → k + 3 < n → dword_of (take n (drop at file)) k ≡ dword_of file (at + k)
cut_dword file at n k lt =
    let low = cut_word file at n k (omega arith) in
    let high = cut_word file at n (k + 2) (omega arith) in
    let next : at + (k + 2) ≡ at + k + 2 = omega arith in
    rw (low, high, next) refl

is_same : (a b : ℕ) → not (eqb a b) ≡ false → a ≡ b
is_same a b h = by (eqb a b) refl h
  where
    by : (t : Bool) → eqb a b ≡ t → not t ≡ false → a ≡ b
    by true q n = grind (arith, nat_tests, q)
    by false q n = cc

module _ (file : List ℕ) (ne : ℕ) where
  pub old_is : place_at (Some file) ≡ Ok ne → IsOldHeader file ne
  unfolding place_at
  old_is h =
      let first = reads_ok (ltb (length file) 2) faults.NotMz (take 2 (drop 0 file)) _ ne h in
      let mark = passed (not (eqb (word_of (take 2 (drop 0 file)) 0) 0x5a4d)) faults.NotMz _ ne first.1 in
      let second = reads_ok (ltb (length file) 64) faults.Truncated (take 64 (drop 0 file)) _ ne mark.1 in
      let is : dword_of (take 64 (drop 0 file)) 0x3c ≡ ne = cc (second.1) in
      record {
        mark = sym (cut_word file 0 2 0 (omega arith)) ∙ is_same _ _ mark.0;
        inside = grind (arith, nat_tests, second.0);
        place = sym (cut_dword file 0 64 0x3c (omega arith)) ∙ is;
      }

  pub old_read : IsOldHeader file ne → place_at (Some file) ≡ Ok ne
  unfolding place_at
  old_read is =
      let first : ltb (length file) 2 ≡ false = grind (arith, nat_tests, is.inside) in
      let mark : word_of (take 2 (drop 0 file)) 0 ≡ 0x5a4d = cut_word file 0 2 0 (omega arith) ∙ is.mark in
      let second : ltb (length file) 64 ≡ false = grind (arith, nat_tests, is.inside) in
      let place : dword_of (take 64 (drop 0 file)) 0x3c ≡ ne = cut_dword file 0 64 0x3c (omega arith) ∙ is.place in
      rw (first, mark, second, place) refl

  module _ (header : List ℕ) where
    pub header_is : header_at (Some file) ne ≡ Ok header → IsHeader file ne header
    unfolding header_at
    header_is h =
        let first = reads_ok (ltb (length file) (ne + 2)) faults.NotNe (take 2 (drop ne file)) _ header h in
        let mark = passed (not (eqb (word_of (take 2 (drop ne file)) 0) 0x454e)) faults.NotNe _ header first.1 in
        let second = passed (ltb (length file) (ne + 64)) faults.Truncated _ header mark.1 in
        let here : ne + 0 ≡ ne = omega arith in
        record {
          mark = subst (λ p. word_of file p ≡ 0x454e) here (sym (cut_word file ne 2 0 (omega arith)) ∙ is_same _ _ mark.0);
          inside = grind (arith, nat_tests, second.0);
          bytes = cc (second.1);
        }

    pub header_read : IsHeader file ne header → header_at (Some file) ne ≡ Ok header
    unfolding header_at
    header_read is =
        let first : ltb (length file) (ne + 2) ≡ false = grind (arith, nat_tests, is.inside) in
        let here : ne + 0 ≡ ne = omega arith in
        let mark : word_of (take 2 (drop ne file)) 0 ≡ 0x454e = cut_word file ne 2 0 (omega arith) ∙ subst (λ p. word_of file p ≡ 0x454e) (sym here) is.mark in
        let second : ltb (length file) (ne + 64) ≡ false = grind (arith, nat_tests, is.inside) in
        rw (first, mark, second, is.bytes) refl

is_target : (t : ℕ) → (not (eqb t 0) && not (eqb t 2)) ≡ false → (t ≡ 0) ⊎ (t ≡ 2)
is_target t h = by (eqb t 0) refl h
  where
    by : (b : Bool) → eqb t 0 ≡ b → (not b && not (eqb t 2)) ≡ false → (t ≡ 0) ⊎ (t ≡ 2)
    by true q n = inl (grind (arith, nat_tests, q))
    by false q n = inr (is_same t 2 n)

target_is : (t : ℕ) → (t ≡ 0) ⊎ (t ≡ 2) → (not (eqb t 0) && not (eqb t 2)) ≡ false
target_is t (inl none) = rw none refl
target_is t (inr windows) = rw windows refl

is_plain : (flags segments : ℕ) → (not (eqb flags 0) || ltb 253 segments) ≡ false → (flags ≡ 0) × (segments ≤ 253)
is_plain flags segments h = by (eqb flags 0) refl h
  where
    by : (b : Bool) → eqb flags 0 ≡ b → (not b || ltb 253 segments) ≡ false → (flags ≡ 0) × (segments ≤ 253)
    by true q n = (grind (arith, nat_tests, q), grind (arith, nat_tests, n))
    by false q n = cc

module _ (header : List ℕ) where
  pub fields_are : fields_of header ≡ Ok tt → IsAccepted header
  unfolding fields_of
  fields_are h =
      let first = passed (not (eqb (target_of header) 0) && not (eqb (target_of header) 2)) (faults.Target (target_of header)) _ tt h in
      let second = passed (not (eqb (bit_and (flags_of header) 0x2800) 0) || ltb 253 (segment_count header)) faults.Unsupported _ tt first.1 in
      let third = passed (ltb 15 (shift_of header)) faults.BadTable _ tt second.1 in
      let plain = is_plain (bit_and (flags_of header) 0x2800) (segment_count header) second.0 in
      record { target = is_target (target_of header) first.0; plain = plain.0; few = plain.1; shift = grind (arith, nat_tests, third.0) }

  pub fields_read : IsAccepted header → fields_of header ≡ Ok tt
  unfolding fields_of
  fields_read is =
      let first = target_is (target_of header) is.target in
      let few : ltb 253 (segment_count header) ≡ false = grind (arith, nat_tests, is.few) in
      let third : ltb 15 (shift_of header) ≡ false = grind (arith, nat_tests, is.shift) in
      rw (first, is.plain, few, third) refl
