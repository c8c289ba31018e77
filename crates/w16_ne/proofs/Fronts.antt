-- A front of a file is read as the file is, or ends too early.
use Rattle.w16_ne.proofs
use proofs.Common as C
use proofs.Common.{◌≡◌, ℕ, zero, suc, ◌-◌, ◌+◌, ◌*◌, ◌^◌, ◌≤◌, ◌⊎◌, inl, inr, Bool, true, false, cond, ltb, List, [], ◌∷◌, ◌++◌, length, take, drop, Option, Some, None, Ok, Err, refl, ap, ◌∙◌, arith, slice_index, ◌==◌, nat_lt, not, NeFault, Block, Reading, ◌>>=◌, bytes_or, reaches}
use proofs.Common.{word_of, each, place_at, header_at, segment_count, reference_count, records_at, data_at, segment_at, segments_at, size, name_at, names_from, resident_at, nonresident_at, text_at, references_at, table_at, Typed, block_at, blocks_from, label_at, resource_at, typed_at}
use proofs.Common.{resources_at, tables_at, IsOfEnd}
use proofs.SegmentsFormat.{bind_ok}
use Rattle.w16_ne.specs.declared.fault.NeFault.TheVariants as faults
use Rattle.w16_ne.specs.Names as names
use Rattle.w16_ne.specs.Resources as resources

abbrev Ends : {A : Type 0} → Reading A → Type 0
Ends read = (e : NeFault) × (read ≡ Err e) × IsOfEnd e

-- what is read of a front where a file reads as Ok
abbrev IsFront : {A : Type 0} → Reading A → Reading A → Type 0
IsFront {A} front whole = (x : A) → whole ≡ Ok x → (front ≡ Ok x) ⊎ Ends front

same : {A : Type 0} (read : Reading A) → IsFront read read
same read = λ x h. inl h

ends : {A B : Type 0} (front : Reading A) (k : A → Reading B) → Ends front → Ends (front >>= k)
ends front k e = (e.0, ap (λ r. r >>= k) e.1, e.2)

bind : {A B : Type 0} (front whole : Reading A) (k m : A → Reading B) → IsFront front whole → ((x : A) → IsFront (k x) (m x)) → IsFront (front >>= k) (whole >>= m)
bind {A} {B} front whole k m first rest = λ y h.
    let one = bind_ok whole m y h in
    go one.0 y (first one.0 one.1.0) (rest one.0 y one.1.1)
  where
    go : (x : A) (y : B) → (front ≡ Ok x) ⊎ Ends front → (k x ≡ Ok y) ⊎ Ends (k x) → ((front >>= k) ≡ Ok y) ⊎ Ends (front >>= k)
    go x y (inr e) r = inr (ends front k e)
    go x y (inl h) (inl g) = inl (ap (λ r. r >>= k) h ∙ g)
    go x y (inl h) (inr e) = inr (e.0, ap (λ r. r >>= k) h ∙ e.1, e.2)

choose : {A : Type 0} (b : Bool) (p q r s : Reading A) → IsFront p r → IsFront q s → IsFront (cond b p q) (cond b r s)
choose true p q r s one two = one
choose false p q r s one two = two

each_front : {T : Type 0} (f g : ℕ → Reading T) → ((i : ℕ) → IsFront (f i) (g i)) → (n i : ℕ) → IsFront (each f n i) (each g n i)
each_front f g h zero i = same (Ok [])
each_front f g h (suc n) i = bind (f i) (g i) _ _ (h i) (λ x. bind (each f n (i + 1)) (each g n (i + 1)) _ _ (each_front f g h n (i + 1)) (λ xs. same (Ok (x ∷ xs))))

module _ (file more : List ℕ) where
  abbrev front : Option (List ℕ)
  front = Some file

  abbrev whole : Option (List ℕ)
  whole = Some (file ++ more)

  bytes_cases : (short : NeFault) (at n : ℕ) → IsOfEnd short → (b : Bool) → ltb (length file) (at + n) ≡ b → IsFront (cond b (Err short) (Ok (take n (drop at file)))) (bytes_or short whole at n)
  bytes_cases short at n is true q = λ x h. inr (short, refl, is)
  bytes_cases short at n is false q =
      let inside : at + n ≤ length file = grind (arith, C.nat_tests, q) in
      let longer : ltb (length (file ++ more)) (at + n) ≡ false = let l = C.length-append file more in grind (arith, C.nat_tests) in
      let cut : take n (drop at (file ++ more)) ≡ take n (drop at file) = ap (λ xs. take n xs) (C.drop-append-le at file more (omega arith)) ∙ C.take-append-le n (drop at file) more (omega (arith, C.length-drop at file)) in
      rw (longer, cut) (same (Ok (take n (drop at file))))

  bytes : (short : NeFault) (at n : ℕ) → IsOfEnd short → IsFront (bytes_or short front at n) (bytes_or short whole at n)
  bytes short at n is = bytes_cases short at n is (ltb (length file) (at + n)) refl

  reach_cases : (end : ℕ) (b : Bool) → ltb (length file) end ≡ b → IsFront (cond b (Err faults.Truncated) (Ok tt)) (reaches whole end)
  reach_cases end true q = λ x h. inr (faults.Truncated, refl, tt)
  reach_cases end false q = λ x h. inl refl

  reach : (end : ℕ) → IsFront (reaches front end) (reaches whole end)
  reach end = reach_cases end (ltb (length file) end) refl

  place_front : IsFront (place_at front) (place_at whole)
  unfolding place_at
  place_front = bind _ _ _ _ (bytes faults.NotMz 0 2 tt) (λ mark. choose (not (word_of mark 0 == 0x5a4d)) _ _ _ _ (same _) (bind _ _ _ _ (bytes faults.Truncated 0 64 tt) (λ old. same _)))

  header_front : (ne : ℕ) → IsFront (header_at front ne) (header_at whole ne)
  unfolding header_at
  header_front ne = bind _ _ _ _ (bytes faults.NotNe ne 2 tt) (λ mark. choose (not (word_of mark 0 == 0x454e)) _ _ _ _ (same _) (bytes faults.Truncated ne 64 tt))

  records_front : (flags end : ℕ) → IsFront (records_at front flags end) (records_at whole flags end)
  unfolding records_at
  records_front flags end = choose (C.bit_and flags 0x100 == 0) _ _ _ _ (same _) (bind _ _ _ _ (bytes faults.Truncated end 2 tt) (λ count. bind _ _ _ _ (reach (end + 2 + 8 * word_of count 0)) (λ _. same _)))

  data_front : (place len flags least : ℕ) → IsFront (data_at front place len flags least) (data_at whole place len flags least)
  unfolding data_at
  data_front place len flags least = bind _ _ _ _ (reach (place + len)) (λ _. bind _ _ _ _ (records_front flags (place + len)) (λ records. same _))

  segment_front : (shift : ℕ) (table : List ℕ) (at : ℕ) → IsFront (segment_at front shift table at) (segment_at whole shift table at)
  unfolding segment_at
  segment_front shift table at = choose (not (C.bit_and (word_of table (at + 4)) 8 == 0)) _ _ _ _ (same _) (choose (word_of table at == 0) _ _ _ _ (same _) (data_front _ _ _ _))

  segments_front : (ne : ℕ) (header : List ℕ) → IsFront (segments_at front ne header) (segments_at whole ne header)
  unfolding segments_at C.entries_at
  segments_front ne header = choose (segment_count header == 0) _ _ _ _ (same _) (bind _ _ _ _ (bytes faults.Truncated (ne + C.segment_table header) (8 * segment_count header) tt) (λ table. each_front _ _ (λ i. segment_front (C.shift_of header) table (8 * i)) (segment_count header) 0))

  name_front : (at : ℕ) → IsFront (name_at front at) (name_at whole at)
  unfolding name_at
  name_front at = bind _ _ _ _ (bytes faults.Truncated at 1 tt) (λ len. choose (slice_index len 0 == 0) _ _ _ _ (same _) (bind _ _ _ _ (bytes faults.Truncated (at + 1) (slice_index len 0 + 2) tt) (λ rest. same _)))

  more_names : (n m at : ℕ) → ((a : ℕ) → IsFront (names_from front n a) (names_from whole m a)) → (found : Option names.Entry)
      → IsFront (elim found [ None ↦ Ok [] | Some e ↦ names_from front n (at + size e) >>= λ others. Ok (e ∷ others) ]) (elim found [ None ↦ Ok [] | Some e ↦ names_from whole m (at + size e) >>= λ others. Ok (e ∷ others) ])
  more_names n m at h None = same (Ok [])
  more_names n m at h (Some e) = bind _ _ _ _ (h (at + size e)) (λ others. same (Ok (e ∷ others)))

  names_fronts : (n m at : ℕ) → IsFront (names_from front n at) (names_from whole m at)
  names_fronts zero m at = λ x h. inr (faults.Truncated, refl, tt)
  names_fronts (suc n) zero at = λ x h. cc
  names_fronts (suc n) (suc m) at = bind _ _ _ _ (name_front at) (more_names n m at (names_fronts n m))

  resident_front : (ne : ℕ) (header : List ℕ) → IsFront (resident_at front ne header) (resident_at whole ne header)
  unfolding resident_at C.names_at
  resident_front ne header = bind _ _ _ _ (names_fronts (length file) (length (file ++ more)) (ne + C.resident_names header)) (λ names. same _)

  text_front : (short : NeFault) (at : ℕ) → IsOfEnd short → IsFront (text_at short front at) (text_at short whole at)
  unfolding text_at
  text_front short at is = bind _ _ _ _ (bytes short at 1 is) (λ len. bytes short (at + 1) (slice_index len 0) is)

  references_front : (ne : ℕ) (header : List ℕ) → IsFront (references_at front ne header) (references_at whole ne header)
  unfolding references_at C.texts_at
  references_front ne header =
      choose (reference_count header == 0) _ _ _ _ (same _) (bind _ _ _ _ (bytes faults.Truncated (ne + C.reference_table header) (2 * reference_count header) tt)
      (λ table. bind _ _ _ _ (each_front _ _ (λ i. text_front faults.Truncated (ne + C.imported_names header + word_of table (2 * i)) tt) (reference_count header) 0) (λ texts. same _)))

  entries_front : (ne : ℕ) (header : List ℕ) → IsFront (table_at front ne header) (table_at whole ne header)
  unfolding table_at
  entries_front ne header = choose (C.entry_length header == 0) _ _ _ _ (same _) (bind _ _ _ _ (bytes faults.Truncated (ne + C.entry_table header) (C.entry_length header) tt) (λ table. same _))

  nonresident_front : (header : List ℕ) → IsFront (nonresident_at front header) (nonresident_at whole header)
  unfolding nonresident_at
  nonresident_front header = choose (C.nonresident_length header == 0) _ _ _ _ (same _) (bind _ _ _ _ (bytes faults.Truncated (C.nonresident_names header) (C.nonresident_length header) tt) (λ table. same _))

  block_front : (at : ℕ) → IsFront (block_at front at) (block_at whole at)
  unfolding block_at
  block_front at =
      bind _ _ _ _ (bytes faults.Truncated at 2 tt)
      (λ kind. choose (word_of kind 0 == 0) _ _ _ _ (same _) (bind _ _ _ _ (bytes faults.Truncated at 8 tt) (λ head. bind _ _ _ _ (reach (at + 8 + 12 * word_of head 2)) (λ _. same _))))

  more_blocks : (n m : ℕ) → ((a : ℕ) → IsFront (blocks_from front n a) (blocks_from whole m a)) → (found : Option Block)
      → IsFront (elim found [ None ↦ Ok [] | Some b ↦ blocks_from front n (b.at + 12 * b.count) >>= λ others. Ok (b ∷ others) ]) (elim found [ None ↦ Ok [] | Some b ↦ blocks_from whole m (b.at + 12 * b.count) >>= λ others. Ok (b ∷ others) ])
  more_blocks n m h None = same (Ok [])
  more_blocks n m h (Some b) = bind _ _ _ _ (h (b.at + 12 * b.count)) (λ others. same (Ok (b ∷ others)))

  blocks_fronts : (n m at : ℕ) → IsFront (blocks_from front n at) (blocks_from whole m at)
  blocks_fronts zero m at = λ x h. inr (faults.Truncated, refl, tt)
  blocks_fronts (suc n) zero at = λ x h. cc
  blocks_fronts (suc n) (suc m) at = bind _ _ _ _ (block_front at) (more_blocks n m (blocks_fronts n m))

  label_front : (table word : ℕ) → IsFront (label_at front table word) (label_at whole table word)
  unfolding label_at
  label_front table word = choose (nat_lt word 0x8000) _ _ _ _ (bind _ _ _ _ (text_front faults.BadTable (table + word) tt) (λ text. same _)) (same _)

  resource_front : (table shift at : ℕ) → IsFront (resource_at front table shift at) (resource_at whole table shift at)
  unfolding resource_at
  resource_front table shift at = bind _ _ _ _ (bytes faults.Truncated at 12 tt) (λ entry. bind _ _ _ _ (label_front table (word_of entry 6)) (λ id. same _))

  typed_front : (table shift : ℕ) (block : Block) → IsFront (typed_at front table shift block) (typed_at whole table shift block)
  unfolding typed_at C.resources_of
  typed_front table shift block =
      bind _ _ _ _ (label_front table block.kind) (λ kind. bind _ _ _ _ (each_front _ _ (λ i. resource_front table shift (block.at + 12 * i)) block.count 0) (λ found. same _))

  all_typed_front : (table shift : ℕ) (blocks : List Block) → IsFront (C.all_typed front table shift blocks) (C.all_typed whole table shift blocks)
  all_typed_front table shift [] = same (Ok [])
  all_typed_front table shift (b ∷ bs) = bind _ _ _ _ (typed_front table shift b) (λ first. bind _ _ _ _ (all_typed_front table shift bs) (λ others. same (Ok (first ∷ others))))

  placed_front : (unit : ℕ) (rs : List resources.Entry) → IsFront (C.are_placed front unit rs) (C.are_placed whole unit rs)
  placed_front unit [] = same (Ok tt)
  placed_front unit (r ∷ rs) = bind (C.is_placed front unit r) (C.is_placed whole unit r) _ _ (choose (r.len == 0) _ _ _ _ (same _) (reach (r.place + r.len - unit + 1))) (λ _. placed_front unit rs)

  all_placed_front : (unit : ℕ) (ts : List Typed) → IsFront (C.are_all_placed front unit ts) (C.are_all_placed whole unit ts)
  all_placed_front unit [] = same (Ok tt)
  all_placed_front unit (t ∷ ts) = bind _ _ _ _ (placed_front unit t.1) (λ _. all_placed_front unit ts)

  resources_front : (ne : ℕ) (header : List ℕ) → IsFront (resources_at front ne header) (resources_at whole ne header)
  unfolding resources_at C.blocks_at C.typed_in
  resources_front ne header =
      let at = ne + C.resource_table header in
      choose (C.resource_table header == C.resident_names header) _ _ _ _ (same _) (bind _ _ _ _ (bytes faults.Truncated at 2 tt) (λ shift. bind _ _ _ _ (blocks_fronts (length file) (length (file ++ more)) (at + 2)) (λ blocks.
      choose (nat_lt 15 (word_of shift 0)) _ _ _ _ (same _) (bind _ _ _ _ (all_typed_front at (word_of shift 0) blocks) (λ types.
      choose (nat_lt 65535 (C.resource_count types)) _ _ _ _ (same _) (bind _ _ _ _ (all_placed_front (2 ^ word_of shift 0) types) (λ _. same _)))))))

  tables_front : IsFront (tables_at front) (tables_at whole)
  unfolding tables_at C.tables_behind
  tables_front =
      bind _ _ _ _ place_front (λ ne. bind _ _ _ _ (header_front ne) (λ header. bind _ _ _ _ (same (C.fields_of header)) (λ _.
      bind _ _ _ _ (segments_front ne header) (λ segments. bind _ _ _ _ (resident_front ne header) (λ resident. bind _ _ _ _ (references_front ne header) (λ references.
      bind _ _ _ _ (entries_front ne header) (λ entries. bind _ _ _ _ (nonresident_front header) (λ nonresident. bind _ _ _ _ (resources_front ne header) (λ resources. same _)))))))))

pub front_law : C.FrontLaw
front_law file more = tables_front file more
