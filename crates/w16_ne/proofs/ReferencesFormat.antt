-- References are read exactly where they are.
use Rattle.w16_ne.proofs
use proofs.Common as C
use proofs.Common.{◌≡◌, ℕ, zero, suc, ◌+◌, ◌*◌, ◌≤◌, ◌<◌, Bool, true, false, ◌||◌, cond, ltb, eqb, List, [], ◌∷◌, length, take, drop, Some, Ok, Err, refl, sym, ap, subst, ◌∙◌, arith, ◌==◌, nat_tests, Reading, ◌>>=◌, word_of, each, text_at, texts_at, references_at, IsText, AreReferences}
use proofs.Common.{IsReferenceTable}
use proofs.Until.{reads_ok}
use proofs.NamesFormat.{byte_here, cut_word}
use proofs.SegmentsFormat.{bind_ok, passed}
use Rattle.w16_ne.specs.declared.fault.NeFault.TheVariants as faults

-- a length byte and its text
module _ (short : C.NeFault) (file : List ℕ) (at : ℕ) (text : List ℕ) where
  pub text_is : text_at short (Some file) at ≡ Ok text → IsText file at text
  unfolding text_at
  text_is h =
      let first = reads_ok (ltb (length file) (at + 1)) short (take 1 (drop at file)) _ text h in
      let count = C.slice_index (take 1 (drop at file)) 0 in
      let second = passed (ltb (length file) (at + 1 + count)) short _ text first.1 in
      let bytes : take count (drop (at + 1) file) ≡ text = cc (second.1) in
      let inside : at + 1 + count ≤ length file = grind (arith, nat_tests, second.0) in
      let long : length text ≡ count = omega (arith, ap length bytes, C.length-take count (drop (at + 1) file), C.length-drop (at + 1) file, inside) in
      record { inside = omega (arith, long, inside); len = sym (byte_here file at) ∙ sym long; bytes = rw long bytes }

  pub text_read : IsText file at text → text_at short (Some file) at ≡ Ok text
  unfolding text_at
  text_read is =
      let first : ltb (length file) (at + 1) ≡ false = grind (arith, nat_tests, is.inside) in
      let count : C.slice_index (take 1 (drop at file)) 0 ≡ length text = byte_here file at ∙ is.len in
      let second : ltb (length file) (at + 1 + length text) ≡ false = grind (arith, nat_tests, is.inside) in
      rw (first, count, second, is.bytes) refl

abbrev has_empty : List (List ℕ) → Bool
has_empty texts = C.list_any (λ text. length text == 0) texts

both : (a b : Bool) → (a || b) ≡ false → (a ≡ false) × (b ≡ false)
both true b h = cc
both false b h = (refl, h)

-- the texts by the words of a table that was cut from the file
module _ (file : List ℕ) (names at count : ℕ) where
  abbrev table : List ℕ
  table = take (2 * count) (drop at file)

  abbrev item : ℕ → Reading (List ℕ)
  item i = text_at faults.Truncated (Some file) (names + word_of table (2 * i))

  word_there : (i : ℕ) → i < count → word_of table (2 * i) ≡ word_of file (at + 2 * i)
  word_there i lt = cut_word file at (2 * count) (2 * i) (omega arith)

  next_place : (i : ℕ) → at + 2 * (i + 1) ≡ at + 2 * i + 2
  next_place i = omega arith

  items_are : (n i : ℕ) (ts : List (List ℕ)) → i + n ≤ count → each item n i ≡ Ok ts → has_empty ts ≡ false → (length ts ≡ n) × AreReferences file names (at + 2 * i) ts
  items_are zero i ts le h some = let same : ◌≡◌ {A = List (List ℕ)} [] ts = cc in subst (λ xs. (length xs ≡ 0) × AreReferences file names (at + 2 * i) xs) same (refl, tt)
  items_are (suc n) i ts le h some =
      let one = bind_ok (item i) (λ first. each item n (i + 1) >>= λ others. Ok (first ∷ others)) ts h in
      let two = bind_ok (each item n (i + 1)) (λ others. Ok (one.0 ∷ others)) ts one.1.1 in
      let same : one.0 ∷ two.0 ≡ ts = cc (two.1.1) in
      let none = both (eqb (length one.0) 0) (has_empty two.0) (subst (λ xs. has_empty xs ≡ false) (sym same) some) in
      let rest = items_are n (i + 1) two.0 (omega arith) two.1.0 none.1 in
      let here = text_is faults.Truncated file (names + word_of table (2 * i)) one.0 one.1.0 in
      subst (λ xs. (length xs ≡ suc n) × AreReferences file names (at + 2 * i) xs) same
      (ap (λ k. suc k) rest.0, (subst (λ w. IsText file (names + w) one.0) (word_there i (omega arith)) here, grind (arith, nat_tests, none.0), subst (λ p. AreReferences file names p two.0) (next_place i) rest.1))

  items_read : (ts : List (List ℕ)) (i : ℕ) → i + length ts ≤ count → AreReferences file names (at + 2 * i) ts → (each item (length ts) i ≡ Ok ts) × (has_empty ts ≡ false)
  items_read [] i le are = (refl, refl)
  items_read (t ∷ ts) i le are =
      let rest = items_read ts (i + 1) (omega arith) (subst (λ p. AreReferences file names p ts) (sym (next_place i)) are.2) in
      let here = subst (λ w. IsText file (names + w) t) (sym (word_there i (omega arith))) are.0 in
      let some : eqb (length t) 0 ≡ false = grind (arith, nat_tests, are.1) in
      (rw (text_read faults.Truncated file (names + word_of table (2 * i)) t here, rest.0) refl, rw some rest.1)

no_items : (ts : List (List ℕ)) → length ts ≡ 0 → ◌≡◌ {A = Reading (List (List ℕ))} (Ok []) (Ok ts)
no_items [] h = refl
no_items (t ∷ ts) h = cc

module _ (file header : List ℕ) (ne : ℕ) (ts : List (List ℕ)) where
  abbrev at : ℕ
  at = ne + C.reference_table header

  abbrev names : ℕ
  names = ne + C.imported_names header

  abbrev count : ℕ
  count = C.reference_count header

  abbrev read : Bool → Reading (List (List ℕ))
  read b = cond b (Ok []) (C.bytes_or faults.Truncated (Some file) at (2 * count) >>= λ table. texts_at (Some file) names table count >>= λ texts. cond (has_empty texts) (Err faults.BadTable) (Ok texts))

  table_is : (b : Bool) → eqb count 0 ≡ b → read b ≡ Ok ts → IsReferenceTable file names at count ts
  unfolding texts_at
  table_is true q h =
      let none : count ≡ 0 = grind (arith, nat_tests, q) in
      let same : ◌≡◌ {A = List (List ℕ)} [] ts = cc in
      subst (λ xs. IsReferenceTable file names at count xs) same (record { whole = sym none; inside = λ some. absurd (omega (arith, none, some)); are = tt })
  table_is false q h =
      let first = reads_ok (ltb (length file) (at + 2 * count)) faults.Truncated (take (2 * count) (drop at file)) _ ts h in
      let texts = bind_ok (each (item file names at count) count 0) (λ texts. cond (has_empty texts) (Err faults.BadTable) (Ok texts)) ts first.1 in
      let full = passed (has_empty texts.0) faults.BadTable (Ok texts.0) ts texts.1.1 in
      let same : texts.0 ≡ ts = cc (full.1) in
      let all = items_are file names at count count 0 texts.0 (omega arith) texts.1.0 full.0 in
      let here : at + 2 * 0 ≡ at = omega arith in
      subst (λ xs. IsReferenceTable file names at count xs) same
      (record { whole = all.0; inside = λ some. grind (arith, nat_tests, first.0); are = subst (λ p. AreReferences file names p texts.0) here all.1 })

  table_read : (b : Bool) → eqb count 0 ≡ b → IsReferenceTable file names at count ts → read b ≡ Ok ts
  unfolding texts_at
  table_read true q is = let none : count ≡ 0 = grind (arith, nat_tests, q) in no_items ts (is.whole ∙ none)
  table_read false q is =
      let some : 0 < count = grind (arith, nat_tests, q) in
      let first : ltb (length file) (at + 2 * count) ≡ false = grind (arith, nat_tests, is.inside some) in
      let here : at + 2 * 0 ≡ at = omega arith in
      let all = items_read file names at count ts 0 (omega (arith, is.whole)) (subst (λ p. AreReferences file names p ts) (sym here) is.are) in
      let texts : each (item file names at count) count 0 ≡ Ok ts = subst (λ n. each (item file names at count) n 0 ≡ Ok ts) is.whole all.0 in
      rw (first, texts, all.1) refl

  pub references_are : references_at (Some file) ne header ≡ Ok ts → IsReferenceTable file names at count ts
  unfolding references_at
  references_are h = table_is (eqb count 0) refl h

  pub references_read : IsReferenceTable file names at count ts → references_at (Some file) ne header ≡ Ok ts
  unfolding references_at
  references_read is = table_read (eqb count 0) refl is
