-- The segments of a module lie in its file.
use Rattle.w16_reloc.proofs
use proofs.Common.{◌≡◌, ℕ, suc, zero, ◌+◌, ◌*◌, ◌<◌, ◌≤◌, List, [], ◌∷◌, length, take, drop, Some, Ok, Err, Bool, true, false, cond, refl, ◌∙◌, ap, arith, max, nat_lt, nat_eq, slice_get, bit_and, nat_tests, NeFault, Segment, Reading, bytes_or, reaches, word_of, each, place_at, header_at}
use proofs.Common.{fields_of, shift_of, segment_count, segment_table, records_at, data_at, segment_at, entries_at, segments_at, rounded, resident_at, nonresident_at, references_at, table_at, resources_at, Tables, tables_at, tables_behind, tables_of, LiesIn}
use Rattle.w16_ne.specs.Reading.{◌>>=◌}
use Rattle.w16_ne.specs.declared.fault.NeFault.TheVariants as faults

-- what was read went through each step
bind_ok : {A B : Type 0} (read : Reading A) (f : A → Reading B) (y : B) → (read >>= f) ≡ Ok y → (x : A) × (read ≡ Ok x) × (f x ≡ Ok y)
bind_ok (Ok x) f y h = (x, refl, h)
bind_ok (Err e) f y h = cc

ok_same : {A : Type 0} (x y : A) → ◌≡◌ {A = Reading A} (Ok x) (Ok y) → x ≡ y
ok_same x y h = cc

test_ok : {A B : Type 0} (b : Bool) (fault : NeFault) (x : A) (f : A → Reading B) (y : B) → (cond b (Err fault) (Ok x) >>= f) ≡ Ok y → (b ≡ false) × (f x ≡ Ok y)
test_ok true fault x f y h = cc
test_ok false fault x f y h = (refl, h)

-- records that are counted lie in the file
pub table_inside : (file : List ℕ) (flags end count : ℕ) → records_at (Some file) flags end ≡ Ok count → 0 < count → end + 2 + 8 * count ≤ length file
unfolding records_at
table_inside file flags end count h some =
    elim (nat_eq (bit_and flags 256) 0) as (λ b. cond b (Ok 0) (bytes_or faults.Truncated (Some file) end 2 >>= λ x. reaches (Some file) (end + 2 + 8 * word_of x 0) >>= λ y. Ok (word_of x 0)) ≡ Ok count → end + 2 + 8 * count ≤ length file) [
      | true ↦ λ e. let none : 0 ≡ count = cc in absurd (omega (arith, none, some))
      | false ↦ λ e.
          let p = test_ok (nat_lt (length file) (end + 2)) faults.Truncated (take 2 (drop end file)) _ count e in
          let q = test_ok (nat_lt (length file) (end + 2 + 8 * word_of (take 2 (drop end file)) 0)) faults.Truncated tt _ count p.1 in
          let same : word_of (take 2 (drop end file)) 0 ≡ count = cc (q.1) in
          let inside : nat_lt (length file) (end + 2 + 8 * count) ≡ false = rw same at q.0 in
          grind (arith, nat_tests, inside)
    ] h

segment_lies : (file : List ℕ) (place len flags least : ℕ) (s : Segment) → data_at (Some file) place len flags least ≡ Ok s → 0 < len → LiesIn file s
unfolding data_at
segment_lies file place len flags least s h some =
    let p = test_ok (nat_lt (length file) (place + len)) faults.Truncated tt _ s h in
    let q = bind_ok (records_at (Some file) flags (place + len)) (λ records. Ok (record { place = place; len = len; flags = record { 0 = flags }; size = rounded (max len least); records = records })) s p.1 in
    let is : record { place = place; len = len; flags = record { 0 = flags }; size = rounded (max len least); records = q.0 } ≡ s = cc (q.2) in
    let inside : place + len ≤ length file = grind (arith, nat_tests, p.0) in
    rw (← is) ((λ none. absurd (omega (arith, none, some))), (λ lies. (inside, q.1)))

positive : (n : ℕ) → 0 < cond (nat_eq n 0) 65536 n
positive n = grind arith

picked : (file : List ℕ) (b c : Bool) (flags size place len least : ℕ) (s : Segment) → 0 < len
    → cond b (Err faults.Unsupported) (cond c (Ok (record { place = 0; len = 0; flags = record { 0 = flags }; size = size; records = 0 })) (data_at (Some file) place len flags least)) ≡ Ok s → LiesIn file s
picked file true c flags size place len least s some h = cc
picked file false true flags size place len least s some h =
    let is : record { place = 0; len = 0; flags = record { 0 = flags }; size = size; records = 0 } ≡ s = cc in
    rw (← is) ((λ none. refl), (λ lies. absurd (omega (arith, lies))))
picked file false false flags size place len least s some h = segment_lies file place len flags least s h some

entry_lies : (file : List ℕ) (shift : ℕ) (table : List ℕ) (at : ℕ) (s : Segment) → segment_at (Some file) shift table at ≡ Ok s → LiesIn file s
unfolding segment_at
entry_lies file shift table at s h = picked file _ _ _ _ _ _ _ s (positive (word_of table (at + 2))) h

item_of_each : {T : Type 0} (item : ℕ → Reading T) (n i k : ℕ) (xs : List T) (x : T) → each item n i ≡ Ok xs → slice_get xs k ≡ Some x → (j : ℕ) × (item j ≡ Ok x)
item_of_each item zero i k xs x h found = let none : [] ≡ xs = cc in let no = rw (← none) at found in cc
item_of_each item (suc n) i zero xs x h found =
    let p = bind_ok (item i) (λ first. each item n (i + 1) >>= λ others. Ok (first ∷ others)) xs h in
    let q = bind_ok (each item n (i + 1)) (λ others. Ok (p.0 ∷ others)) xs p.2 in
    let is : p.0 ∷ q.0 ≡ xs = cc (q.2) in
    let here = rw (← is) at found in
    let same : p.0 ≡ x = cc (here) in
    (i, p.1 ∙ ap (λ y. Ok y) same)
item_of_each item (suc n) i (suc k) xs x h found =
    let p = bind_ok (item i) (λ first. each item n (i + 1) >>= λ others. Ok (first ∷ others)) xs h in
    let q = bind_ok (each item n (i + 1)) (λ others. Ok (p.0 ∷ others)) xs p.2 in
    let is : p.0 ∷ q.0 ≡ xs = cc (q.2) in
    item_of_each item n (i + 1) k q.0 x q.1 (rw (← is) at found)

segments_lie : (file : List ℕ) (ne : ℕ) (header : List ℕ) (segments : List Segment) (k : ℕ) (s : Segment) → segments_at (Some file) ne header ≡ Ok segments → slice_get segments k ≡ Some s → LiesIn file s
unfolding segments_at entries_at
segments_lie file ne header segments k s h found =
    elim (nat_eq (segment_count header) 0) as (λ b. cond b (Ok []) (bytes_or faults.Truncated (Some file) (ne + segment_table header) (8 * segment_count header) >>= λ table. each (λ i. segment_at (Some file) (shift_of header) table (8 * i)) (segment_count header) 0) ≡ Ok segments → LiesIn file s) [
      | true ↦ λ e. let none : [] ≡ segments = cc in let no = rw (← none) at found in cc
      | false ↦ λ e.
          let p = bind_ok (bytes_or faults.Truncated (Some file) (ne + segment_table header) (8 * segment_count header)) _ segments e in
          let m = item_of_each (λ i. segment_at (Some file) (shift_of header) p.0 (8 * i)) (segment_count header) 0 k segments s p.2 found in
          entry_lies file (shift_of header) p.0 (8 * m.0) s m.1
    ] h

pub module_lies : (file : List ℕ) (t : Tables) (k : ℕ) (s : Segment) → tables_at (Some file) ≡ Ok t → slice_get t.segments k ≡ Some s → LiesIn file s
unfolding tables_at tables_behind
module_lies file t k s h found =
    let p = bind_ok (place_at (Some file)) _ t h in
    let header = bind_ok (header_at (Some file) p.0) _ t p.2 in
    let fields = bind_ok (fields_of header.0) _ t header.2 in
    let segments = bind_ok (segments_at (Some file) p.0 header.0) _ t fields.2 in
    let resident = bind_ok (resident_at (Some file) p.0 header.0) _ t segments.2 in
    let references = bind_ok (references_at (Some file) p.0 header.0) _ t resident.2 in
    let entries = bind_ok (table_at (Some file) p.0 header.0) _ t references.2 in
    let nonresident = bind_ok (nonresident_at (Some file) header.0) _ t entries.2 in
    let resources = bind_ok (resources_at (Some file) p.0 header.0) _ t nonresident.2 in
    let is : tables_of p.0 header.0 segments.0 resident.0 references.0 entries.0 nonresident.0 resources.0 ≡ t = ok_same _ t resources.2 in
    let same : segments.0 ≡ t.segments = ap (λ (x : Tables). x.segments) is in
    segments_lie file p.0 header.0 segments.0 k s segments.1 (rw same found)
