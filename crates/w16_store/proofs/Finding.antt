-- Files that are found by name.
use Rattle.std.proofs.Common.{not, filter, ◌≡◌, ℕ, zero, suc, ◌+◌, ◌<◌, ◌≤◌, Bool, true, false, cond, List, [], ◌∷◌, ◌++◌, Option, Some, None, Ok, Err, length, get_or, position, refl, sym, ap, ◌∙◌, subst, arith, ltb}
use Rattle.std.proofs.{Math.ListN.set, lemmas.Bool.Decides.nat_tests, lemmas.List.Sums.fails_before_first}
use Rattle.std.specs.{Prelude.option_map, Prelude.unwrap_or, List.find, List.position_or_len}
use Rattle.w16_store.specs.{declared.memory.File.File, Names.is_named, Files.file_of, Files.bytes_of, Files.length_of, Files.AreWith, Files.AreWithout, Files.HasBytes, declared.store.StoreFault.TheVariants.Short, Memory.files_in, Folder.content_of, Folder.listed, Folder.IsHonestRead}
use Rattle.w16_store.proofs.Naming.{named_alike, named_by}

-- By recursion.

pub file_of-cons : (f : List ℕ × List ℕ) (fs : List (List ℕ × List ℕ)) (n : List ℕ) → file_of (f ∷ fs) n ≡ cond (is_named f.0 n) (Some f.1) (file_of fs n)
unfolding file_of
file_of-cons f fs n =
    elim (is_named f.0 n) as (λ b. option_map (λ g. g.1) (cond b (Some f) (find (λ g. is_named g.0 n) fs)) ≡ cond b (Some f.1) (option_map (λ g. g.1) (find (λ g. is_named g.0 n) fs))) [ true ↦ refl | false ↦ refl ]

pub file_of-nil : (n : List ℕ) → file_of [] n ≡ None
unfolding file_of
file_of-nil n = refl

pub fails_before : {X : Type 0} (p : X → Bool) (xs : List X) → position p xs ≡ None → (k : ℕ) (d : X) → k < length xs → p (get_or xs k d) ≡ false
fails_before p xs h k d lt =
    let le : length xs ≤ position_or_len p xs = grind (arith, nat_tests) in
    fails_before_first p xs k d (omega arith)

-- In memory.

pub at_place : (files : List File) (n : List ℕ) (i : ℕ) (d : File) → i < length files → is_named (get_or files i d).name.items n ≡ true → ((k : ℕ) → k < i → is_named (get_or files k d).name.items n ≡ false)
    → file_of (files_in files) n ≡ Some (get_or files i d).bytes.items
at_place [] n i d lt here before = absurd (omega arith)
at_place (f ∷ fs) n zero d lt here before = rw (file_of-cons, here) refl
at_place (f ∷ fs) n (suc i) d lt here before =
    let first = before 0 (omega arith) in
    rw (file_of-cons, first) (at_place fs n i d (omega arith) here (λ k h. before (suc k) (omega arith)))

pub nowhere : (files : List File) (n : List ℕ) → ((k : ℕ) (d : File) → k < length files → is_named (get_or files k d).name.items n ≡ false) → file_of (files_in files) n ≡ None
nowhere [] n none = file_of-nil n
nowhere (f ∷ fs) n none =
    let first = none 0 f (omega arith) in
    rw (file_of-cons, first) (nowhere fs n (λ k d h. none (suc k) d (omega arith)))

-- a file before that has another name changes nothing
passed_by : (a b : Bool) (x bytes : List ℕ) (rest : Option (List ℕ)) → (b ≡ true → a ≡ false) → cond a (Some x) (cond b (Some bytes) rest) ≡ cond b (Some bytes) (cond a (Some x) rest)
passed_by true true x bytes rest h = cc (h refl)
passed_by true false x bytes rest h = refl
passed_by false b x bytes rest h = refl

replaced : (a : Bool) (x bytes : List ℕ) (rest : Option (List ℕ)) → cond a (Some bytes) rest ≡ cond a (Some bytes) (cond a (Some x) rest)
replaced true x bytes rest = refl
replaced false x bytes rest = refl

pub with_replaced : (name bytes : List ℕ) (files : List File) (i : ℕ) (d g : File) → i < length files → is_named (get_or files i d).name.items name ≡ true → ((k : ℕ) → k < i → is_named (get_or files k d).name.items name ≡ false)
    → g.name.items ≡ (get_or files i d).name.items → g.bytes.items ≡ bytes → AreWith name bytes (files_in files) (files_in (set files i g))
with_replaced name bytes [] i d g lt here before e b n = absurd (omega arith)
with_replaced name bytes (f ∷ fs) zero d g lt here before e b n =
    rw (file_of-cons, file_of-cons, e, b, named_alike f.name.items name n here) (replaced (is_named name n) f.bytes.items bytes (file_of (files_in fs) n))
with_replaced name bytes (f ∷ fs) (suc i) d g lt here before e b n =
    let rest = with_replaced name bytes fs i d g (omega arith) here (λ k h. before (suc k) (omega arith)) e b n in
    rw (file_of-cons (f.name.items, f.bytes.items) (files_in (set fs i g)) n, file_of-cons (f.name.items, f.bytes.items) (files_in fs) n, rest)
    (passed_by (is_named f.name.items n) (is_named name n) f.bytes.items bytes (file_of (files_in fs) n) (λ t. sym (named_by f.name.items name n t) ∙ before 0 (omega arith)))

pub with_added : (name bytes : List ℕ) (files : List File) (g : File) → ((k : ℕ) (d : File) → k < length files → is_named (get_or files k d).name.items name ≡ false) → g.name.items ≡ name → g.bytes.items ≡ bytes
    → AreWith name bytes (files_in files) (files_in (files ++ g ∷ []))
with_added name bytes [] g none e b n = rw (file_of-cons (g.name.items, g.bytes.items) [] n, e, b) refl
with_added name bytes (f ∷ fs) g none e b n =
    let rest = with_added name bytes fs g (λ k d h. none (suc k) d (omega arith)) e b n in
    rw (file_of-cons (f.name.items, f.bytes.items) (files_in (fs ++ g ∷ [])) n, file_of-cons (f.name.items, f.bytes.items) (files_in fs) n, rest)
    (passed_by (is_named f.name.items n) (is_named name n) f.bytes.items bytes (file_of (files_in fs) n) (λ t. sym (named_by f.name.items name n t) ∙ none 0 f (omega arith)))

dropped : (a b : Bool) (x : List ℕ) (rest : Option (List ℕ)) → (b ≡ true → a ≡ false) → cond a (Some x) (cond b None rest) ≡ cond b None (cond a (Some x) rest)
dropped a true x rest h = rw (h refl) refl
dropped a false x rest h = refl

none : (b : Bool) → None ≡ cond {A = Option (List ℕ)} b None None
none true = refl
none false = refl

twice : (b : Bool) (x : List ℕ) (rest : Option (List ℕ)) → cond b None rest ≡ cond b None (cond b (Some x) rest)
twice true x rest = refl
twice false x rest = refl

pub with_removed : (name : List ℕ) (files : List File) → AreWithout name (files_in files) (files_in (filter (λ (f : File). not (is_named f.name.items name)) files))
with_removed name [] n = rw (file_of-nil n) (none (is_named name n))
with_removed name (f ∷ fs) n = turn (is_named f.name.items name) refl (with_removed name fs n)
  where
    turn : (b : Bool) → is_named f.name.items name ≡ b → file_of (files_in (filter (λ (g : File). not (is_named g.name.items name)) fs)) n ≡ cond (is_named name n) None (file_of (files_in fs) n)
        → file_of (files_in (cond {A = List File} (not b) (f ∷ filter (λ (g : File). not (is_named g.name.items name)) fs) (filter (λ (g : File). not (is_named g.name.items name)) fs))) n
        ≡ cond (is_named name n) None (file_of (files_in (f ∷ fs)) n)
    turn true e rest = rw (rest, file_of-cons (f.name.items, f.bytes.items) (files_in fs) n, named_alike f.name.items name n e) (twice (is_named name n) f.bytes.items (file_of (files_in fs) n))
    turn false e rest = rw (file_of-cons (f.name.items, f.bytes.items) (files_in (filter (λ (g : File). not (is_named g.name.items name)) fs)) n, file_of-cons (f.name.items, f.bytes.items) (files_in fs) n, rest)
        (dropped (is_named f.name.items n) (is_named name n) f.bytes.items (file_of (files_in fs) n) (λ t. sym (named_by f.name.items name n t) ∙ e))

-- In a folder.

-- the first listed name that fits, and what the folder has of it
pub in_folder : (names : List (List ℕ)) (held : List (List ℕ × List ℕ)) (name : List ℕ) → file_of (listed names held) name ≡ option_map (λ n. unwrap_or (content_of held n) []) (find (λ m. is_named m name) names)
unfolding listed
in_folder [] held name = file_of-nil name
in_folder (m ∷ ms) held name = file_of-cons (m, unwrap_or (content_of held m) []) (listed ms held) name ∙ turn (is_named m name) (in_folder ms held name)
  where
    turn : (b : Bool) → file_of (listed ms held) name ≡ option_map (λ n. unwrap_or (content_of held n) []) (find (λ k. is_named k name) ms)
        → cond b (Some (unwrap_or (content_of held m) [])) (file_of (listed ms held) name) ≡ option_map (λ n. unwrap_or (content_of held n) []) (cond b (Some m) (find (λ k. is_named k name) ms))
    turn true rest = refl
    turn false rest = rest

-- where the first listed name that fits is a file's, that file is found
pub found_in_folder : (names : List (List ℕ)) (held : List (List ℕ × List ℕ)) (name n bytes : List ℕ) → find (λ m. is_named m name) names ≡ Some n → content_of held n ≡ Some bytes → file_of (listed names held) name ≡ Some bytes
found_in_folder names held name n bytes h e = in_folder names held name ∙ ap (option_map (λ n. unwrap_or (content_of held n) [])) h ∙ ap (λ p. Some (unwrap_or p [])) e

-- where no listed name fits, no file is found
pub not_in_folder : (names : List (List ℕ)) (held : List (List ℕ × List ℕ)) (name : List ℕ) → find (λ m. is_named m name) names ≡ None → file_of (listed names held) name ≡ None
not_in_folder names held name h = in_folder names held name ∙ ap (option_map (λ n. unwrap_or (content_of held n) [])) h

-- What is answered of the file of a listed name, once it was read.
abbrev IsListedAs : List (List ℕ) → List ℕ → List ℕ → Type 0
IsListedAs names name n = Some n ≡ find (λ m. is_named m name) names

pub length_from_read : (names : List (List ℕ)) (held : List (List ℕ × List ℕ)) (name n bytes : List ℕ) (len : ℕ) → IsListedAs names name n → content_of held n ≡ Some bytes → len ≡ length bytes → length_of (file_of (listed names held) name) ≡ Ok len
length_from_read names held name n bytes len is content long =
    rw (found_in_folder names held name n bytes (sym is) content, long) refl

pub bytes_from_read : (names : List (List ℕ)) (held : List (List ℕ × List ℕ)) (name n : List ℕ) (before after len at : ℕ) (old new : List ℕ) → IsListedAs names name n → IsHonestRead before after (Ok len) (content_of held n) at old new
    → at + length old ≤ len → bytes_of (file_of (listed names held) name) at (length old) ≡ Ok new
bytes_from_read names held name n before after len at old new is read le =
    let enough : at + length old ≤ length read.0 = omega (arith, read.2) in
    let e = read.3 enough in
    let not_short : ltb (length read.0) (at + length old) ≡ false = grind (arith, nat_tests) in
    rw (found_in_folder names held name n read.0 (sym is) read.1, not_short, e) refl

pub short_from_read : (names : List (List ℕ)) (held : List (List ℕ × List ℕ)) (name n : List ℕ) (before after len at : ℕ) (old new : List ℕ) → IsListedAs names name n → IsHonestRead before after (Ok len) (content_of held n) at old new
    → len < at + length old → bytes_of (file_of (listed names held) name) at (length old) ≡ Err Short
short_from_read names held name n before after len at old new is read lt =
    let less : length read.0 < at + length old = omega (arith, read.2) in
    let short : ltb (length read.0) (at + length old) ≡ true = grind (arith, nat_tests) in
    rw (found_in_folder names held name n read.0 (sym is) read.1, short) refl

pub bytes_of_listed : (names : List (List ℕ)) (held : List (List ℕ × List ℕ)) (name n bytes : List ℕ) → IsListedAs names name n → content_of held n ≡ Some bytes → HasBytes (content_of held n) → HasBytes (file_of (listed names held) name)
bytes_of_listed names held name n bytes is content all =
    subst HasBytes (sym (found_in_folder names held name n bytes (sym is) content)) (subst HasBytes content all)
