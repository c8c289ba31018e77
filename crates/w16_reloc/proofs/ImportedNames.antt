-- The imported names that records ask for, and where they are read.
use Rattle.w16_reloc.proofs
use Rattle.w16_reloc.specs
use proofs.Common as C
use Rattle.std.proofs.lemmas.List as M
use proofs.Common.{◌≡◌, ◌≢◌, ◌⊎◌, inl, inr, ℕ, zero, suc, ◌+◌, ◌-◌, ◌*◌, ◌<◌, ◌≤◌, Bool, true, false, cond, nat_eq, nat_lt, nat_tests, bit_and, List, [], ◌∷◌, length, take, drop, get_or, All, Option, Some, None, Result, Ok, Err, refl, sym, ap, ◌∙◌, ◌&&◌, subst, arith, word_of, RelocFault}
use proofs.Common.{Record, Part, Fixup, Stored, Added, Site, Offer, AreRecords, ◌>>=◌, record_at, target_at, formed, check_from, any_offer, offer_in, offer_of}
use proofs.SoundLemmas.{passed_is_sound}
use Rattle.std.proofs.{lemmas.List.Elements.All-get_or, lemmas.Nat.and_le_r}
use Rattle.std.specs.Prelude.{IfErr, IfSome, MatchResult, OnOk, min, option_map}
use Rattle.w16_ne.specs.{Modules.imported_place, Texts.text_in}
use specs.declared.record.Target.{Target}
use specs.declared.record.Target.TheVariants.{Internal, Entry, ByOrdinal, ByName}
use specs.Records.{fixup_of, has_text, imported_of, internal_of, name_in, part_of, text_of}
use specs.Segments.{AreNamesFor, AreTextsOf, has_text_at, names_from}
use Rattle.w16_reloc.specs.declared.fault.RelocFault.TheVariants as faults

-- Which records ask for a name, and for which.

internal_asks : (segments segment word : ℕ) (b c : Bool) (t : Target) → cond b (Some (Entry word)) (cond c None (Some (Internal segment word))) ≡ Some t → text_of t ≡ None
internal_asks segments segment word true c t h = let e : Entry word ≡ t = cc in ap text_of (sym e)
internal_asks segments segment word false true t h = cc
internal_asks segments segment word false false t h = let e : Internal segment word ≡ t = cc in ap text_of (sym e)

imported_asks : (reference word : ℕ) (b c : Bool) (t : Target) → cond b None (cond c (Some (ByOrdinal reference word)) (Some (ByName reference word))) ≡ Some t → (text_of t ≡ None) ⊎ ((c ≡ false) × (text_of t ≡ Some word))
imported_asks reference word true c t h = cc
imported_asks reference word false true t h = let e : ByOrdinal reference word ≡ t = cc in inl (ap text_of (sym e))
imported_asks reference word false false t h = let e : ByName reference word ≡ t = cc in inr (refl, ap text_of (sym e))

fixup_asks : (P : Option ℕ → Type 0) (b : Bool) (part : Option Part) (offset : ℕ) (target : Option Target) → ((t : Target) → target ≡ Some t → P (text_of t))
    → (r : Record) → option_map (λ f. cond b (Stored f) (Added f)) (fixup_of part offset target) ≡ Some r → P (name_in r)
fixup_asks P b None offset target asks r h = cc
fixup_asks P b (Some part) offset None asks r h = cc
fixup_asks P true (Some part) offset (Some t) asks r h = let e : Stored (record { part = part; offset = offset; target = t }) ≡ r = cc in subst (λ r. P (name_in r)) e (asks t refl)
fixup_asks P false (Some part) offset (Some t) asks r h = let e : Added (record { part = part; offset = offset; target = t }) ≡ r = cc in subst (λ r. P (name_in r)) e (asks t refl)

module _ (segments references : ℕ) (raw : List ℕ) (at : ℕ) where
  abbrev kind : ℕ
  kind = bit_and (get_or raw (at + 1) 0) 3

  -- no name, or the last word, of a record that imports by name
  abbrev Asks : Option ℕ → Type 0
  Asks name = (name ≡ None) ⊎ ((kind ≡ 2) × (name ≡ Some (word_of raw (at + 6))))

  target_asks : (t : Target) → nat_eq kind 3 ≡ false → target_at segments references raw at ≡ Some t → Asks (text_of t)
  unfolding target_at
  target_asks t not_system = elim (nat_eq kind 0) as (λ b. nat_eq kind 0 ≡ b → cond b (internal_of segments (get_or raw (at + 4) 0) (word_of raw (at + 6))) (imported_of references (word_of raw (at + 4)) (word_of raw (at + 6)) (nat_eq kind 1)) ≡ Some t → Asks (text_of t)) [
    | true ↦ λ e h. inl (internal_asks segments (get_or raw (at + 4) 0) (word_of raw (at + 6)) _ _ t h)
    | false ↦ λ e h. elim (imported_asks (word_of raw (at + 4)) (word_of raw (at + 6)) _ (nat_eq kind 1) t h) [
      | inl none ↦ inl none
      | inr some ↦ let most = and_le_r (get_or raw (at + 1) 0) 3 in inr (grind (arith, nat_tests, not_system, e, some.0, most), some.1)
    ]
  ] refl

  pub asks : (r : Record) → record_at segments references raw at ≡ Some r → Asks (name_in r)
  unfolding record_at
  asks r = elim (nat_eq kind 3) as (λ b. nat_eq kind 3 ≡ b → cond b (Some C.System) (option_map (λ f. cond (nat_eq (bit_and (get_or raw (at + 1) 0) 4) 0) (Stored f) (Added f))
      (fixup_of (part_of (bit_and (get_or raw at 0) 127)) (word_of raw (at + 2)) (target_at segments references raw at))) ≡ Some r → Asks (name_in r)) [
        | true ↦ λ e h. let same : C.System ≡ r = cc in inl (ap name_in (sym same))
        | false ↦ λ e h. fixup_asks Asks _ _ _ (target_at segments references raw at) (λ t. target_asks t e) r h
      ] refl

-- Bytes.

byte_small : (xs : List ℕ) (i : ℕ) → All (λ b. b < 256) xs → get_or xs i 0 < 256
byte_small xs i all = elim (nat_lt i (length xs)) as (λ b. nat_lt i (length xs) ≡ b → get_or xs i 0 < 256) [
  | true ↦ λ e. All-get_or (λ b. b < 256) xs i 0 (grind (arith, nat_tests, e)) all
  | false ↦ λ e. let past : length xs ≤ i = grind (arith, nat_tests, e) in subst (λ b. b < 256) (sym (C.get_or_past xs i 0 past)) (omega arith)
] refl

word_small : (raw : List ℕ) (at : ℕ) → All (λ b. b < 256) raw → word_of raw at < 65536
word_small raw at all = let low = byte_small raw at all in let high = byte_small raw (at + 1) all in omega (arith, low, high)

lt_same : (k n j len m : ℕ) → m ≡ min k (len - n) → j < k → nat_lt (n + j) len ≡ nat_lt j m
lt_same k n j len m e lt = grind (arith, nat_tests, e, lt)

-- A name that is read stands in the file so.
module _ (file : List ℕ) (names name : ℕ) (small : name < 65536) (all : All (λ b. b < 256) (names_from file names)) where
  abbrev texts : List ℕ
  texts = names_from file names

  long : length texts ≡ min 65791 (length file - names)
  long = M.length-take 65791 (drop names file) ∙ ap (min 65791) (M.length-drop names file)

  same_byte : get_or texts name 0 ≡ get_or file (names + name) 0
  same_byte = M.get_or-take 65791 (drop names file) name 0 (omega (arith, small)) ∙ C.get_or-drop names file name 0

  is_byte : get_or texts name 0 < 256
  is_byte = byte_small texts name all

  pub same_has : has_text_at file (names + name) ≡ has_text_at texts name
  same_has =
      let first = lt_same 65791 names name (length file) (length texts) long (omega (arith, small)) in
      let sum : names + name + get_or texts name 0 ≡ names + (name + get_or texts name 0) = omega arith in
      let last = ap (λ n. nat_lt n (length file)) sum ∙ lt_same 65791 names (name + get_or texts name 0) (length file) (length texts) long (omega (arith, small, is_byte)) in
      ap (λ n. nat_lt (names + name) (length file) && nat_lt (names + name + n) (length file)) (sym same_byte) ∙ (λ i. first i && last i)

  pub same_text : text_in texts name ≡ text_in file (names + name)
  same_text =
      let rest : ℕ = 65791 - (name + 1) in
      let whole : 65791 ≡ name + 1 + rest = omega (arith, small) in
      let room : get_or texts name 0 ≤ rest = omega (arith, small, is_byte) in
      let at : names + (name + 1) ≡ names + name + 1 = omega arith in
      ap (λ n. take (get_or texts name 0) (drop (name + 1) (take n (drop names file)))) whole
      ∙ ap (take (get_or texts name 0)) (M.drop-take (name + 1) rest (drop names file)) ∙ M.take-take (get_or texts name 0) rest (drop (name + 1) (drop names file)) room
      ∙ ap (take (get_or texts name 0)) (M.drop-drop (name + 1) names file ∙ ap (λ n. drop n file) at) ∙ ap (λ n. take n (drop (names + name + 1) file)) same_byte

-- Checks by offers that agree of what the records ask for.
module _ (segments references : ℕ) (f g : ℕ → Bool) (bytes raw : List ℕ) (count : ℕ) where
  abbrev A : Offer
  A = record { segments = segments; references = references; has_name = f }

  abbrev B : Offer
  B = record { segments = segments; references = references; has_name = g }

  module _ (same : (k : ℕ) → k < count → (r : Record) → record_at segments references raw (8 * k) ≡ Some r → C.is_named A r ≡ C.is_named B r) where
    formed_same : (k : ℕ) → k < count → (o : Option Record) → record_at segments references raw (8 * k) ≡ o → formed A o ≡ formed B o
    formed_same k lt None e = refl
    formed_same k lt (Some r) e = ap (λ b. cond b (Ok r) (Err C.BadRecord)) (same k lt r e)

    pub same_check : (n i : ℕ) (before : List Site) → i + n ≡ count → check_from A bytes raw n i before ≡ check_from B bytes raw n i before
    unfolding check_from
    same_check zero i before e = refl
    same_check (suc n) i before e =
        let first : formed A (record_at segments references raw (8 * i)) ≡ formed B (record_at segments references raw (8 * i)) = formed_same i (omega (arith, e)) (record_at segments references raw (8 * i)) refl in
        let more : i + 1 + n ≡ count = omega (arith, e) in
        λ j. first j >>= λ r. C.sites_at bytes before r >>= λ after. same_check n (i + 1) after more j >>= λ others. Ok (r ∷ others)

-- The bytes that are read for a table tell what the file tells of its records.
module _ (file : List ℕ) (t : C.Tables) (raw texts : List ℕ) (count : ℕ) (are : AreNamesFor file t raw count texts) (raw_bytes : All (λ b. b < 256) raw) (text_bytes : All (λ b. b < 256) texts) where
  abbrev here : Offer
  here = offer_in texts (length t.segments) (length t.references)

  -- of each name that a record asks for
  asked : (P : ℕ → Type 0) → (texts ≡ names_from file (imported_place t) → (name : ℕ) → name < 65536 → P name) → (k : ℕ) → k < count → (r : Record) → record_at (length t.segments) (length t.references) raw (8 * k) ≡ Some r → IfSome (name_in r) P
  asked P told k lt r e = elim (asks (length t.segments) (length t.references) raw (8 * k) r e) [
    | inl none ↦ subst (λ o. IfSome o P) (sym none) tt
    | inr some ↦ elim are [
      | inl same ↦ subst (λ o. IfSome o P) (sym some.1) (told same (word_of raw (8 * k + 6)) (word_small raw (8 * k + 6) raw_bytes))
      | inr never ↦ absurd (never k lt some.0)
    ]
  ]

  named_same : (o : Option ℕ) → IfSome o (λ name. has_text_at file (imported_place t + name) ≡ has_text_at texts name) → has_text (offer_of file t) o ≡ has_text here o
  named_same None h = refl
  named_same (Some name) h = h

  pub same_said : (bytes : List ℕ) → check_from (offer_of file t) bytes raw count 0 [] ≡ check_from here bytes raw count 0 []
  same_said bytes = same_check (length t.segments) (length t.references) (λ name. has_text_at file (imported_place t + name)) (has_text_at texts) bytes raw count
      (λ k lt r e. named_same (name_in r) (asked (λ name. has_text_at file (imported_place t + name) ≡ has_text_at texts name)
      (λ same name small. subst (λ xs. has_text_at file (imported_place t + name) ≡ has_text_at xs name) (sym same) (same_has file (imported_place t) name small (subst (All (λ b. b < 256)) same text_bytes))) k lt r e)) count 0 [] (omega arith)

  pub texts_of : (offer : Offer) → offer.segments ≡ length t.segments → offer.references ≡ length t.references → (i : ℕ) (records : List Record) → AreRecords offer raw i records → i + length records ≤ count → AreTextsOf file t records texts
  texts_of offer s r i [] formed le = C.All-nil (λ r. IfSome (name_in r) (λ name. text_in texts name ≡ text_in file (imported_place t + name)))
  texts_of offer s r i (x ∷ xs) formed le =
      let first : record_at (length t.segments) (length t.references) raw (8 * i) ≡ Some x = subst (λ n. record_at n (length t.references) raw (8 * i) ≡ Some x) s (subst (λ n. record_at offer.segments n raw (8 * i) ≡ Some x) r formed.0.0) in
      C.All-cons (λ r. IfSome (name_in r) (λ name. text_in texts name ≡ text_in file (imported_place t + name))) x xs
      (asked (λ name. text_in texts name ≡ text_in file (imported_place t + name))
      (λ same name small. subst (λ ys. text_in ys name ≡ text_in file (imported_place t + name)) (sym same) (same_text file (imported_place t) name small (subst (All (λ b. b < 256)) same text_bytes))) i (omega (arith, le)) x first)
      (texts_of offer s r (i + 1) xs formed.1 (omega (arith, le)))

  -- So does what a check by these bytes answers.
  abbrev Said : {X : Type 0} → Result X RelocFault → List ℕ → List Record → Type 0
  Said r bytes records = MatchResult r (λ _. check_from here bytes raw count 0 [] ≡ Ok records) (λ e. check_from here bytes raw count 0 [] ≡ Err e)

  pub texts_told : {X : Type 0} (r : Result X RelocFault) (bytes : List ℕ) (records : List Record) → Said r bytes records → OnOk r (AreTextsOf file t records texts)
  texts_told (Ok x) bytes records h = let s = passed_is_sound here bytes raw count records h in texts_of here refl refl 0 records s.formed (omega (arith, s.many))
  texts_told (Err e) bytes records h = tt

  pub answers_told : {X : Type 0} (r : Result X RelocFault) (before after : ℕ) (bytes : List ℕ) (records : List Record) → IfErr r C.IsOfRecords → Said r bytes records → C.Answers (λ _. records) before after r (check_from (offer_of file t) bytes raw count 0 [])
  answers_told (Ok x) before after bytes records own h = same_said bytes ∙ h
  answers_told (Err (faults.Store e)) before after bytes records own h = absurd own
  answers_told (Err C.BadRecord) before after bytes records own h = same_said bytes ∙ h
  answers_told (Err C.SiteOutside) before after bytes records own h = same_said bytes ∙ h
  answers_told (Err C.Overlap) before after bytes records own h = same_said bytes ∙ h

-- Records that are well formed by what a module offers are so where each name is taken to have a text.
any_named : (segments references : ℕ) (o : Option ℕ) → has_text (any_offer segments references) o ≡ true
any_named segments references None = refl
any_named segments references (Some name) = refl

any_formed : (texts raw : List ℕ) (segments references i : ℕ) (records : List Record) → AreRecords (offer_in texts segments references) raw i records → AreRecords (any_offer segments references) raw i records
any_formed _ raw segments references i [] formed = tt
any_formed names raw segments references i (r ∷ rs) formed = ((formed.0.0, any_named segments references (name_in r)), any_formed names raw segments references (i + 1) rs formed.1)

pub sound_passed : {X : Type 0} (r : Result X RelocFault) (texts bytes raw : List ℕ) (segments references count : ℕ) (records : List Record)
    → MatchResult r (λ _. check_from (offer_in texts segments references) bytes raw count 0 [] ≡ Ok records) (λ e. check_from (offer_in texts segments references) bytes raw count 0 [] ≡ Err e)
    → OnOk r ((table : List ℕ) × (count : ℕ) × C.IsSoundSegment (any_offer segments references) bytes table count records)
sound_passed (Ok x) texts bytes raw segments references count records h =
    let s = passed_is_sound (offer_in texts segments references) bytes raw count records h in
    (raw, count, record { many = s.many; formed = any_formed texts raw segments references 0 records s.formed; sound = s.sound })
sound_passed (Err e) texts bytes raw segments references count records h = tt
