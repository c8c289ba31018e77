-- Ordinals of names, and how one is found.
use Rattle.w16_ne.proofs
use proofs.Common as C
use proofs.Common.{◌≡◌, ℕ, ◌<◌, ◌≤◌, ◌++◌, Bool, true, false, cond, List, [], ◌∷◌, length, map, Option, Some, None, refl, sym, ap, ◌∙◌, arith, option_map, is_some, find, bytes_eq, str_to_ascii_uppercase, is_named, is_named-Decides, Entry, Finds, ordinal_in}
use Rattle.std.specs.{Map.lookup, Option.option_or, Prelude.Vec}
use Rattle.indexmap.proofs.CallerLemmas.{insert_entry-new}
use Rattle.indexmap.specs.IndexMap.{IndexMap, get_by, insert_entry}

told_first : (b : Bool) (e : Entry) (o : Option Entry) → option_map (λ x. x.1) (cond b (Some e) o) ≡ cond b (Some e.1) (option_map (λ x. x.1) o)
told_first true e o = refl
told_first false e o = refl

abbrev pub told : (Entry → Bool) → List Entry → Option ℕ
told p names = option_map (λ (e : Entry). e.1) (find p names)

-- A look-up by an upper-cased text.

named_upper : (e : Entry) (text name : List ℕ) → text ≡ str_to_ascii_uppercase e.0 → bytes_eq (str_to_ascii_uppercase name) text ≡ is_named e.0 name
named_upper e text name up =
    let u = str_to_ascii_uppercase name in
    C.same_from_decides (bytes_eq u text) (is_named e.0 name) (C.bytes_eq-Decides u text)
    (λ t. sym ((is_named-Decides e.0 name).0 t) ∙ sym up, λ h. (is_named-Decides e.0 name).1 (sym up ∙ sym h))

more_by : (b : Bool) (n : ℕ) {o : Option ℕ} (p q : Option ℕ) → o ≡ option_or p q → cond b (Some n) o ≡ option_or (cond b (Some n) p) q
more_by true n p q h = refl
more_by false n p q h = h

told_more : (p : Entry → Bool) (names : List Entry) (e : Entry) → told p (names ++ e ∷ []) ≡ option_or (told p names) (cond (p e) (Some e.1) None)
told_more p [] e = told_first (p e) e None
told_more p (x ∷ xs) e =
    told_first (p x) x (find p (xs ++ e ∷ [])) ∙ more_by (p x) x.1 _ _ (told_more p xs e) ∙ ap (λ o. option_or o (cond (p e) (Some e.1) None)) (sym (told_first (p x) x (find p xs)))

lookup_more : {K : Type 0} (p : K → Bool) (es : List (K × ℕ)) (e : K × ℕ) → lookup p (es ++ e ∷ []) ≡ option_or (lookup p es) (cond (p e.0) (Some e.1) None)
lookup_more p [] e = refl
lookup_more p (x ∷ xs) e = more_by (p x.0) x.1 _ _ (lookup_more p xs e)

module _ {Z S : Type 0} (m : IndexMap (Vec ℕ Z) ℕ S) (names : List Entry) (finds : Finds m names) (e : Entry) (text : List ℕ) (up : text ≡ str_to_ascii_uppercase e.0) where
  -- a name whose text isn't there is put last
  pub finds_new : is_some (get_by (λ key. bytes_eq text key.items) m) ≡ false → (n : IndexMap (Vec ℕ Z) ℕ S) (k : Vec ℕ Z) → k.items ≡ text
      → n.entries ≡ insert_entry (λ x y. bytes_eq x.items y.items) m.entries k e.1 → Finds n (names ++ e ∷ [])
  finds_new miss n k same entries name =
      let test = λ (key : Vec ℕ Z). bytes_eq (str_to_ascii_uppercase name) key.items in
      let here : test k ≡ is_named e.0 name = ap (bytes_eq (str_to_ascii_uppercase name)) same ∙ named_upper e text name up in
      let absent = ap (λ (t : List ℕ). get_by (λ key. bytes_eq t key.items) m) same ∙ none _ miss in
      ap (lookup test) (entries ∙ insert_entry-new (λ x y. bytes_eq x.items y.items) m k e.1 absent) ∙ lookup_more test m.entries (k, e.1)
      ∙ (λ i. option_or (finds name i) (cond (here i) (Some e.1) None)) ∙ sym (told_more (λ x. is_named x.0 name) names e)
    where
      none : (o : Option ℕ) → is_some o ≡ false → o ≡ None
      none None h = refl
      none (Some n) h = cc

  -- one whose text is there is passed over
  pub finds_old : is_some (get_by (λ key. bytes_eq text key.items) m) ≡ true → Finds m (names ++ e ∷ [])
  finds_old there name = finds name ∙ by (is_named e.0 name) refl ∙ sym (told_more (λ x. is_named x.0 name) names e)
    where
      among : Option ℕ
      among = told (λ x. is_named x.0 name) names

      kept : (o : Option ℕ) (q : Option ℕ) → is_some o ≡ true → o ≡ option_or o q
      kept None q h = cc
      kept (Some n) q h = refl

      none : (o : Option ℕ) → o ≡ option_or o None
      none None = refl
      none (Some n) = refl

      by : (b : Bool) → is_named e.0 name ≡ b → among ≡ option_or among (cond (is_named e.0 name) (Some e.1) None)
      by true h =
          let same : text ≡ str_to_ascii_uppercase name = up ∙ (is_named-Decides e.0 name).0 h in
          kept among _ (ap is_some (sym (finds name)) ∙ ap (λ (t : List ℕ). is_some (get_by (λ key. bytes_eq t key.items) m)) (sym same) ∙ there)
      by false h = none among ∙ ap (λ b. option_or among (cond b (Some e.1) None)) (sym h)

-- a text that is longer than all names is none of them
longer_by : (b : Bool) (e : Entry) (name : List ℕ) (o : Option Entry) → is_named e.0 name ≡ b → length e.0 < length name → o ≡ None → cond b (Some e) o ≡ None
longer_by true e name o h less none =
    let same = ap length ((is_named-Decides e.0 name).0 h) in
    let one = C.length-map e.0 C.to_ascii_uppercase in
    let two = C.length-map name C.to_ascii_uppercase in
    absurd (omega (arith, same, one, two, less))
longer_by false e name o h less none = none

find_longer : (es : List Entry) (name : List ℕ) → 255 < length name → C.AllByRecursion (λ e. length e.0 ≤ 255) es → find (λ e. is_named e.0 name) es ≡ None
find_longer [] name long short = refl
find_longer (e ∷ es) name long short = longer_by (is_named e.0 name) e name _ refl (omega (arith, short.0, long)) (find_longer es name long short.1)

pub none_longer : (names : List Entry) (name : List ℕ) → 255 < length name → C.AllByRecursion (λ e. length e.0 ≤ 255) names → ordinal_in names name ≡ 0
none_longer names name long all = ap (λ o. C.unwrap_or (option_map (λ e. e.1) o) 0) (find_longer names name long all)
