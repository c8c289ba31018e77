-- What a check and a relocation give is what the format says.
use Rattle.w16_format.proofs
use proofs.Common as C
use proofs.Common.{◌≡◌, ℕ, ◌<◌, ◌%◌, List, [], ◌∷◌, length, map, Ok, Err, refl, sym, ◌∙◌, ap, subst, arith, All, Segment, Tables, Held, checked, data_of, records_of, offer_of, ◌>>=◌, check_from, IsSound, IsImage, naming, image_of, IsFar, far_in, far_of, Some, None, cond, ◌≤◌, any_offer}
use proofs.Common.{ne_format}
use Rattle.std.proofs.lemmas.List.{length-map}
use Rattle.w16_reloc.specs.declared.value.Far as words

-- a check that passes holds the segment's data, and the records that passed
held_by : (file : List ℕ) (s : Segment) (r : C.Result (List C.Record) C.RelocFault) (held : Held) → (r >>= λ records. Ok (record { bytes = data_of file s; records = records })) ≡ Ok held
    → (held.bytes ≡ data_of file s) × (r ≡ Ok held.records)
held_by file s (Ok records) held h = let same : ◌≡◌ {A = Held} (record { bytes = data_of file s; records = records }) held = cc in (ap (λ (x : Held). x.bytes) (sym same), ap (λ (x : Held). Ok x.records) same)
held_by file s (Err e) held h = cc

held_is : (file : List ℕ) (t : Tables) (s : Segment) (held : Held) → checked file t s ≡ Ok held
    → (held.bytes ≡ data_of file s) × (check_from (offer_of file t) (data_of file s) (records_of file s) s.records 0 [] ≡ Ok held.records)
unfolding checked
held_is file t s held h = held_by file s (check_from _ _ (records_of file s) _ 0 []) held h

pub is_relocated : (file : List ℕ) (t : Tables) (s : Segment) (held : Held) → checked file t s ≡ Ok held → C.IsRelocated file t s held
is_relocated file t s held h =
    let p = held_is file t s held h in
    let passed = C.passed_is_sound _ _ (records_of file s) _ _ p.1 in
    let names = C.naming_is (data_of file s) held.records passed.sound.0 passed.sound.1 in
    let sound : IsSound (data_of file s) held.records (naming (data_of file s) held.records) = subst (λ named. IsSound (data_of file s) held.records named) names passed.sound.1 in record {
      same = p.0;
      sound = subst (λ bytes. IsSound bytes held.records (naming bytes held.records)) (sym p.0) sound;
      targets = ap (C.targets_in file t) h;
      image = λ values bytes is long.
          let image : IsImage (data_of file s) held.records (map far_in values) (naming (data_of file s) held.records) bytes =
          subst (λ xs. IsImage xs held.records (map far_in values) (naming xs held.records) bytes) p.0 is in
          let given : bytes ≡ image_of (data_of file s) held.records (map far_in values) (length bytes) =
          C.image_is_of _ _ _ (naming _ _) bytes sound image in
          ap (λ r. image_of (data_of file s) (C.records_in r) (map far_in values) s.size) h
          ∙ ap (λ n. image_of (data_of file s) held.records (map far_in values) n) (sym long) ∙ sym given;
    }

word_same : (n : ℕ) → n < 65536 → n % 65536 ≡ n
word_same n lt = omega arith

far_same : (far : words.Far) → IsFar far → far_in (far_of far) ≡ far
far_same far is = let a = word_same _ is.0 in let b = word_same _ is.1 in λ i. record { selector = a i; offset = b i }

pub words_same : (values : List words.Far) → All IsFar values → map far_in (map far_of values) ≡ values
words_same [] all = refl
words_same (v ∷ vs) all = ap (λ x. x ∷ map far_in (map far_of vs)) (far_same v (C.All-head IsFar v vs all)) ∙ ap (λ xs. v ∷ xs) (words_same vs (C.All-tail IsFar v vs all))

-- The image of data in which the records of a table are sound.
pub relocated_law : (t : Tables) (source table : List ℕ) (records : List C.Record) (values : List words.Far) (bytes : List ℕ)
    → (sound : C.IsSoundSegment (any_offer (length t.segments) (length t.references)) source table (length values) records) → All IsFar values → length source ≤ length bytes
    → IsImage source records values sound.sound.0 bytes → ne_format.relocated (C.tables_in t) source table (map far_of values) (length bytes) ≡ Some bytes
relocated_law t source table records values bytes sound are_words room image =
    let check = λ (segments count : ℕ). check_from (any_offer segments (length t.references)) source table count 0 [] in
    let write = λ (fs : List words.Far). Some (image_of source records fs (length bytes)) in
    ap (C.written source (map far_of values) _)
    (ap (λ n. check n (length (map far_of values))) (length-map t.segments C.segment_in) ∙ ap (check (length _)) (length-map values far_of)
    ∙ C.sound_passes _ source table _ records sound)
    ∙ ap (λ b. cond b (write (map far_in (map far_of values))) None) (C.le-leb _ _ room)
    ∙ ap write (words_same values are_words) ∙ ap Some (sym (C.image_is_of source records values _ bytes sound.sound.1 image))
