-- Segments are read exactly where they are.
use Rattle.w16_ne.proofs
use proofs.Common.{◌≡◌, ◌≢◌, ℕ, zero, suc, ◌+◌, ◌*◌, ◌^◌, ◌≤◌, ◌<◌, inl, inr, max, Bool, true, false, not, cond, ltb, eqb, List, [], ◌∷◌, length, take, drop, Some, Ok, Err, refl, sym, ap, subst, ◌∙◌, arith, bit_and, nat_tests, NeFault, Segment, Reading, ◌>>=◌, bytes_or, reaches, word_of}
use proofs.Common.{each, segment_count, segment_table, shift_of, or_64k, rounded, records_at, data_at, segment_at, entries_at, segments_at, AreRecords, IsData, IsSegment, AreSegments, IsSegmentTable}
use proofs.{Until.reads_ok, NamesFormat.cut_word}
use Rattle.w16_ne.specs.declared.fault.NeFault.TheVariants as faults

-- what a reading of several steps says of its first
pub bind_ok : {A B : Type 0} (read : Reading A) (f : A → Reading B) (y : B) → (read >>= f) ≡ Ok y → (x : A) × ((read ≡ Ok x) × (f x ≡ Ok y))
bind_ok (Ok x) f y h = (x, (refl, h))
bind_ok (Err e) f y h = cc

pub passed : {A : Type 0} (b : Bool) (fault : NeFault) (read : Reading A) (x : A) → cond b (Err fault) read ≡ Ok x → (b ≡ false) × (read ≡ Ok x)
passed true fault read x h = cc
passed false fault read x h = (refl, h)

is_some : (n : ℕ) → n ≢ 0 → eqb n 0 ≡ false
is_some n some = grind (arith, nat_tests)

is_none : (n : ℕ) → n ≡ 0 → eqb n 0 ≡ true
is_none n none = grind (arith, nat_tests)

-- a file that reaches an end
pub reached : (file : List ℕ) (end : ℕ) → reaches (Some file) end ≡ Ok tt → end ≤ length file
reached file end h = let p = passed (ltb (length file) end) faults.Truncated (Ok tt) tt h in grind (arith, nat_tests, p.0)

pub reaches_there : (file : List ℕ) (end : ℕ) → end ≤ length file → reaches (Some file) end ≡ Ok tt
reaches_there file end le = let inside : ltb (length file) end ≡ false = grind (arith, nat_tests) in rw inside refl

pub word_here : (file : List ℕ) (end : ℕ) → word_of (take 2 (drop end file)) 0 ≡ word_of file end
word_here file end = let here : end + 0 ≡ end = omega arith in cut_word file end 2 0 (omega arith) ∙ ap (λ i. word_of file i) here

abbrev counted : List ℕ → ℕ → Reading ℕ
counted file end = bytes_or faults.Truncated (Some file) end 2 >>= λ count. reaches (Some file) (end + 2 + 8 * word_of count 0) >>= λ _. Ok (word_of count 0)

records_cases : (file : List ℕ) (flags end n : ℕ) (b : Bool) → eqb (bit_and flags 0x100) 0 ≡ b → cond b (Ok 0) (counted file end) ≡ Ok n → AreRecords file flags end n
records_cases file flags end n true q h = inl (grind (arith, nat_tests, q), let e : 0 ≡ n = cc in sym e)
records_cases file flags end n false q h =
    let first = reads_ok (ltb (length file) (end + 2)) faults.Truncated (take 2 (drop end file)) _ n h in
    let second = bind_ok (reaches (Some file) (end + 2 + 8 * word_of (take 2 (drop end file)) 0)) (λ _. Ok (word_of (take 2 (drop end file)) 0)) n first.1 in
    let all = reached file _ second.1.0 in
    let is : word_of (take 2 (drop end file)) 0 ≡ n = cc (second.1.1) in
    let said = sym is ∙ word_here file end in
    inr (λ e. absurd (grind (arith, nat_tests, q, e)), said, rw (← is) all)

pub records_are : (file : List ℕ) (flags end n : ℕ) → records_at (Some file) flags end ≡ Ok n → AreRecords file flags end n
unfolding records_at
records_are file flags end n h = records_cases file flags end n (eqb (bit_and flags 0x100) 0) refl h

pub records_read : (file : List ℕ) (flags end n : ℕ) → AreRecords file flags end n → records_at (Some file) flags end ≡ Ok n
unfolding records_at
records_read file flags end n (inl (none, zero_)) = let t : eqb (bit_and flags 0x100) 0 ≡ true = grind (arith, nat_tests, none) in rw (t, zero_) refl
records_read file flags end n (inr (some, said, all)) =
    let t = is_some (bit_and flags 0x100) some in
    let first : ltb (length file) (end + 2) ≡ false = grind (arith, nat_tests, all) in
    let count = word_here file end ∙ sym said in
    let second : ltb (length file) (end + 2 + 8 * n) ≡ false = grind (arith, nat_tests, all) in
    rw (t, first, count, second) refl

-- one segment, by the words of its entry
module _ (file : List ℕ) (shift at w0 w2 w4 w6 : ℕ) (e0 : w0 ≡ word_of file at) (e2 : w2 ≡ word_of file (at + 2)) (e4 : w4 ≡ word_of file (at + 4)) (e6 : w6 ≡ word_of file (at + 6)) where
  abbrev empty : Segment
  empty = record { place = 0; len = 0; flags = record { 0 = w4 }; size = rounded (or_64k w6); records = 0 }

  abbrev read_entry : Reading Segment
  read_entry = cond (not (eqb (bit_and w4 8) 0)) (Err faults.Unsupported) (cond (eqb w0 0) (Ok empty) (data_at (Some file) (w0 * 2 ^ shift) (or_64k w2) w4 (or_64k w6)))

  empty_is : (s : Segment) → w0 ≡ 0 → bit_and w4 8 ≡ 0 → ◌≡◌ {A = Reading Segment} (Ok empty) (Ok s) → IsSegment file shift at s
  empty_is s none plain h =
      let same : empty ≡ s = cc in
      let least : or_64k w6 ≡ max 0 (or_64k w6) = omega arith in
      subst (λ t. IsSegment file shift at t) same (record {
        flags = e4;
        plain = plain;
        placed = inl (sym e0 ∙ none, refl, refl, refl);
        size = ap rounded least ∙ ap (λ w. rounded (max 0 (or_64k w))) e6;
      })

  data_is : (s : Segment) → w0 ≢ 0 → bit_and w4 8 ≡ 0 → data_at (Some file) (w0 * 2 ^ shift) (or_64k w2) w4 (or_64k w6) ≡ Ok s → IsSegment file shift at s
  unfolding data_at
  data_is s some plain h =
      let place = w0 * 2 ^ shift in
      let len = or_64k w2 in
      let one = bind_ok (reaches (Some file) (place + len)) (λ _. records_at (Some file) w4 (place + len) >>= λ records. Ok (record { place = place; len = len; flags = record { 0 = w4 }; size = rounded (max len (or_64k w6)); records = records })) s h in
      let two = bind_ok (records_at (Some file) w4 (place + len)) (λ records. Ok (record { place = place; len = len; flags = record { 0 = w4 }; size = rounded (max len (or_64k w6)); records = records })) s one.1.1 in
      let same : record { place = place; len = len; flags = record { 0 = w4 }; size = rounded (max len (or_64k w6)); records = two.0 } ≡ s = cc (two.1.1) in
      subst (λ t. IsSegment file shift at t) same (record {
        flags = e4;
        plain = plain;
        placed = inr (λ e. some (e0 ∙ e), ap (λ w. w * 2 ^ shift) e0, ap or_64k e2, reached file (place + len) one.1.0, records_are file w4 (place + len) two.0 two.1.0);
        size = ap (λ w. rounded (max len (or_64k w))) e6;
      })

  sector_is : (s : Segment) (b : Bool) → eqb w0 0 ≡ b → bit_and w4 8 ≡ 0 → cond b (Ok empty) (data_at (Some file) (w0 * 2 ^ shift) (or_64k w2) w4 (or_64k w6)) ≡ Ok s → IsSegment file shift at s
  sector_is s true q plain h = empty_is s (grind (arith, nat_tests, q)) plain h
  sector_is s false q plain h = data_is s (λ e. absurd (grind (arith, nat_tests, q, e))) plain h

  pub segment_is : (s : Segment) → read_entry ≡ Ok s → IsSegment file shift at s
  segment_is s h =
      let one = passed (not (eqb (bit_and w4 8) 0)) faults.Unsupported (cond (eqb w0 0) (Ok empty) (data_at (Some file) (w0 * 2 ^ shift) (or_64k w2) w4 (or_64k w6))) s h in
      sector_is s (eqb w0 0) refl (is_plain (eqb (bit_and w4 8) 0) refl one.0) one.1
    where
      is_plain : (b : Bool) → eqb (bit_and w4 8) 0 ≡ b → not b ≡ false → bit_and w4 8 ≡ 0
      is_plain true q n = grind (arith, nat_tests, q)
      is_plain false q n = cc

  pub segment_read : (s : Segment) → IsSegment file shift at s → read_entry ≡ Ok s
  unfolding data_at
  segment_read s is = by is.placed
    where
      flags_is : w4 ≡ s.flags.0
      flags_is = e4 ∙ sym is.flags

      by : IsData file shift at s → read_entry ≡ Ok s
      by (inl (none, place, len, records)) =
          let plain : eqb (bit_and s.flags.0 8) 0 ≡ true = is_none _ is.plain in
          let no : eqb w0 0 ≡ true = is_none _ (e0 ∙ none) in
          let least : max 0 (or_64k (word_of file (at + 6))) ≡ or_64k (word_of file (at + 6)) = omega arith in
          let size : rounded (or_64k w6) ≡ s.size = ap (λ w. rounded (or_64k w)) e6 ∙ sym (is.size ∙ ap (λ l. rounded (max l (or_64k (word_of file (at + 6))))) len ∙ ap rounded least) in
          rw (flags_is, plain, no) (λ i. Ok (record { place = sym place i; len = sym len i; flags = s.flags; size = size i; records = sym records i }))
      by (inr (some, place, len, inside, records)) =
          let plain : eqb (bit_and s.flags.0 8) 0 ≡ true = is_none _ is.plain in
          let there : eqb w0 0 ≡ false = is_some w0 (λ e. some (sym e0 ∙ e)) in
          let place_is : w0 * 2 ^ shift ≡ s.place = ap (λ w. w * 2 ^ shift) e0 ∙ sym place in
          let len_is : or_64k w2 ≡ s.len = ap or_64k e2 ∙ sym len in
          let size : rounded (max s.len (or_64k w6)) ≡ s.size = ap (λ w. rounded (max s.len (or_64k w))) e6 ∙ sym is.size in
          rw (flags_is, plain, there, place_is, len_is, reaches_there file (s.place + s.len) inside, records_read file s.flags.0 (s.place + s.len) s.records records) (λ i. Ok (record { place = s.place; len = s.len; flags = s.flags; size = size i; records = s.records }))

-- the segments of a table that was cut from the file
module _ (file : List ℕ) (shift at count : ℕ) where
  abbrev table : List ℕ
  table = take (8 * count) (drop at file)

  abbrev item : ℕ → Reading Segment
  item i = segment_at (Some file) shift table (8 * i)

  word_there : (i k : ℕ) → i < count → k + 1 < 8 → word_of table (8 * i + k) ≡ word_of file (at + 8 * i + k)
  word_there i k lt less =
      let next : at + (8 * i + k) ≡ at + 8 * i + k = omega arith in
      cut_word file at (8 * count) (8 * i + k) (omega arith) ∙ ap (λ j. word_of file j) next

  first_there : (i : ℕ) → i < count → word_of table (8 * i) ≡ word_of file (at + 8 * i)
  first_there i lt = cut_word file at (8 * count) (8 * i) (omega arith)

  item_is : (i : ℕ) (s : Segment) → i < count → item i ≡ Ok s → IsSegment file shift (at + 8 * i) s
  unfolding segment_at
  item_is i s lt h =
      segment_is file shift (at + 8 * i) (word_of table (8 * i)) (word_of table (8 * i + 2)) (word_of table (8 * i + 4)) (word_of table (8 * i + 6))
      (first_there i lt) (word_there i 2 lt (omega arith)) (word_there i 4 lt (omega arith)) (word_there i 6 lt (omega arith)) s h

  item_read : (i : ℕ) (s : Segment) → i < count → IsSegment file shift (at + 8 * i) s → item i ≡ Ok s
  unfolding segment_at
  item_read i s lt is =
      segment_read file shift (at + 8 * i) (word_of table (8 * i)) (word_of table (8 * i + 2)) (word_of table (8 * i + 4)) (word_of table (8 * i + 6))
      (first_there i lt) (word_there i 2 lt (omega arith)) (word_there i 4 lt (omega arith)) (word_there i 6 lt (omega arith)) s is

  next_place : (i : ℕ) → at + 8 * (i + 1) ≡ at + 8 * i + 8
  next_place i = omega arith

  items_are : (n i : ℕ) (ss : List Segment) → i + n ≤ count → each item n i ≡ Ok ss → (length ss ≡ n) × AreSegments file shift (at + 8 * i) ss
  items_are zero i ss le h = let same : ◌≡◌ {A = List Segment} [] ss = cc in subst (λ xs. (length xs ≡ 0) × AreSegments file shift (at + 8 * i) xs) same (refl, tt)
  items_are (suc n) i ss le h =
      let one = bind_ok (item i) (λ first. each item n (i + 1) >>= λ others. Ok (first ∷ others)) ss h in
      let two = bind_ok (each item n (i + 1)) (λ others. Ok (one.0 ∷ others)) ss one.1.1 in
      let same : one.0 ∷ two.0 ≡ ss = cc (two.1.1) in
      let rest = items_are n (i + 1) two.0 (omega arith) two.1.0 in
      subst (λ xs. (length xs ≡ suc n) × AreSegments file shift (at + 8 * i) xs) same
      (ap (λ k. suc k) rest.0, (item_is i one.0 (omega arith) one.1.0, subst (λ p. AreSegments file shift p two.0) (next_place i) rest.1))

  items_read : (ss : List Segment) (i : ℕ) → i + length ss ≤ count → AreSegments file shift (at + 8 * i) ss → each item (length ss) i ≡ Ok ss
  items_read [] i le are = refl
  items_read (s ∷ ss) i le are =
      let rest = items_read ss (i + 1) (omega arith) (subst (λ p. AreSegments file shift p ss) (sym (next_place i)) are.1) in
      rw (item_read i s (omega arith) are.0, rest) refl

no_items : (file : List ℕ) (shift at : ℕ) (ss : List Segment) → length ss ≡ 0 → ◌≡◌ {A = Reading (List Segment)} (Ok []) (Ok ss)
no_items file shift at [] h = refl
no_items file shift at (s ∷ ss) h = cc

module _ (file header : List ℕ) (ne : ℕ) (ss : List Segment) where
  abbrev at : ℕ
  at = ne + segment_table header

  abbrev count : ℕ
  count = segment_count header

  table_is : (b : Bool) → eqb count 0 ≡ b → cond b (Ok []) (bytes_or faults.Truncated (Some file) at (8 * count) >>= λ bytes. entries_at (Some file) (shift_of header) bytes count) ≡ Ok ss → IsSegmentTable file (shift_of header) at count ss
  unfolding entries_at
  table_is true q h =
      let none : count ≡ 0 = grind (arith, nat_tests, q) in
      let same : ◌≡◌ {A = List Segment} [] ss = cc in
      subst (λ xs. IsSegmentTable file (shift_of header) at count xs) same (record { whole = sym none; inside = λ some. absurd (omega (arith, none, some)); are = tt })
  table_is false q h =
      let first = reads_ok (ltb (length file) (at + 8 * count)) faults.Truncated (take (8 * count) (drop at file)) _ ss h in
      let all = items_are file (shift_of header) at count count 0 ss (omega arith) first.1 in
      let here : at + 8 * 0 ≡ at = omega arith in
      record { whole = all.0; inside = λ some. grind (arith, nat_tests, first.0); are = subst (λ p. AreSegments file (shift_of header) p ss) here all.1 }

  table_read : (b : Bool) → eqb count 0 ≡ b → IsSegmentTable file (shift_of header) at count ss → cond b (Ok []) (bytes_or faults.Truncated (Some file) at (8 * count) >>= λ bytes. entries_at (Some file) (shift_of header) bytes count) ≡ Ok ss
  unfolding entries_at
  table_read true q is = let none : count ≡ 0 = grind (arith, nat_tests, q) in no_items file (shift_of header) at ss (is.whole ∙ none)
  table_read false q is =
      let some : 0 < count = grind (arith, nat_tests, q) in
      let first : ltb (length file) (at + 8 * count) ≡ false = grind (arith, nat_tests, is.inside some) in
      let here : at + 8 * 0 ≡ at = omega arith in
      let all = items_read file (shift_of header) at count ss 0 (omega (arith, is.whole)) (subst (λ p. AreSegments file (shift_of header) p ss) (sym here) is.are) in
      rw first (subst (λ n. each (item file (shift_of header) at count) n 0 ≡ Ok ss) is.whole all)

pub segments_format : (file header : List ℕ) (ne : ℕ) (ss : List Segment)
    → (segments_at (Some file) ne header ≡ Ok ss → IsSegmentTable file (shift_of header) (ne + segment_table header) (segment_count header) ss)
    × (IsSegmentTable file (shift_of header) (ne + segment_table header) (segment_count header) ss → segments_at (Some file) ne header ≡ Ok ss)
unfolding segments_at
segments_format file header ne ss = (table_is file header ne ss (eqb (segment_count header) 0) refl, table_read file header ne ss (eqb (segment_count header) 0) refl)
