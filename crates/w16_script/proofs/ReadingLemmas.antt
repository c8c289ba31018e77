-- A line has only one reading.
use Rattle.w16_script.proofs
use proofs.Common as C
use proofs.Common.{◌≡◌, ℕ, List, [], ◌∷◌, Some, None, sym, ap, ◌∙◌, refl, arith, decimal, if◌then◌else◌, Name, Label, Argument, Makes, Said, Reads, text_of}
use proofs.OneNumberLemmas.{number-same, literal_same}
use Rattle.w16_machine.specs.declared.name.Name.TheVariants as name
use Rattle.w16_machine.specs.declared.name.Parameter.TheVariants as p

-- Arguments.

label-one : (word : List ℕ) (a b : Label) → C.IsLabel word a → C.IsLabel word b → a ≡ b
label-one word a b h k = grind (arith, C.nat_tests, literal_same)

module _ (registers : List ℕ) where
  argument-one : (word : List ℕ) (parameter : C.Parameter) (a b : Argument) → C.IsArgument registers word parameter a → C.IsArgument registers word parameter b → a ≡ b
  argument-one word p.Word (Argument.Word m) (Argument.Word n) h k = ap Argument.Word (number-same registers word m n h.0 k.0)
  argument-one word p.Dword (Argument.Dword m) (Argument.Dword n) h k = ap Argument.Dword (number-same registers word m n h.0 k.0)
  argument-one word (p.Count most) (Argument.Count m) (Argument.Count n) h k = ap Argument.Count (number-same registers word m n h.0 k.0)
  argument-one word p.Byte (Argument.Byte m) (Argument.Byte n) h k = ap Argument.Byte (number-same registers word m n h.0 k.0)
  argument-one word p.Bytes (Argument.Bytes s) (Argument.Bytes t) h k = ap Argument.Bytes (C.decode_of-same word s t h.0 k.0)
  argument-one word p.Text (Argument.Text s) (Argument.Text t) h k = ap Argument.Text (h.0 ∙ sym k.0)
  argument-one word p.Label (Argument.Label s) (Argument.Label t) h k = ap Argument.Label (label-one word s t h k)
  argument-one word parameter a b h k = absurd (assumption (h, k))

  arguments-one : (words : List (List ℕ)) (parameters : List C.Parameter) (a b : List Argument) → C.AreArguments registers words parameters a → C.AreArguments registers words parameters b → a ≡ b
  arguments-one [] [] [] [] h k = refl
  arguments-one (word ∷ words) (parameter ∷ parameters) (a ∷ as_) (b ∷ bs) h k =
      cc (argument-one word parameter a b h.0 k.0, arguments-one words parameters as_ bs h.1 k.1)
  arguments-one words parameters a b h k = absurd (assumption (h, k))

-- Names.

-- all of them
abbrev all_names : List Name
all_names = name.GlobalAlloc ∷ name.GlobalFree ∷ name.GlobalLock ∷ name.GlobalUnlock ∷ name.GlobalSize ∷ name.GlobalFlags ∷ name.GlobalHandle ∷ name.GetSelectorBase ∷ name.GetSelectorLimit
    ∷ name.GlobalCompact ∷ name.GlobalReAlloc ∷ name.GlobalDiscard ∷ name.GlobalLRUNewest ∷ name.GlobalLRUOldest ∷ name.Moved ∷ name.Walk ∷ name.Read ∷ name.Write ∷ name.Fill
    ∷ name.Builtin ∷ name.LoadModule ∷ name.LoadLibrary ∷ name.FreeLibrary ∷ name.FreeModule ∷ name.GetModuleHandle ∷ name.GetModuleUsage ∷ name.GetProcAddress
    ∷ name.FindResource ∷ name.LoadResource ∷ name.SizeofResource ∷ name.LockResource ∷ name.FreeResource
    ∷ name.LocalInit ∷ name.LocalAlloc ∷ name.LocalReAlloc ∷ name.LocalDiscard ∷ name.LocalFree ∷ name.LocalLock ∷ name.LocalUnlock ∷ name.LocalSize ∷ name.LocalFlags ∷ name.LocalHandle ∷ name.LocalCompact ∷ name.DS ∷ []

-- the first of these that is written so
found : List ℕ → List Name → C.Option Name
found text [] = None
found text (name ∷ names) = if C.bytes_eq text (text_of name) then Some name else found text names

found-own : (n : Name) → found (text_of n) all_names ≡ Some n
unfolding found
found-own name.GlobalAlloc = refl
found-own n = refl

-- no two names are written alike
pub name-one : (m n : Name) → text_of m ≡ text_of n → m ≡ n
name-one m n e =
    let same : Some m ≡ Some n = sym (found-own m) ∙ rw e (found-own n) in
    cc

-- no command is written as a register
pub not_register : (n : Name) (r : ℕ) → text_of n ≡ 114 ∷ decimal r → ⊥
not_register name.GlobalAlloc r e = omega (arith, ap (λ l. C.get_or l 0 0) e)
not_register n r e = omega (arith, ap (λ l. C.get_or l 0 0) e)

-- the words after a target
pub behind_one : (words : List (List ℕ)) (s t : C.Option ℕ) (m n : Name) (a b : List (List ℕ)) → C.GoesTo words s (text_of m ∷ a) → C.GoesTo words t (text_of n ∷ b)
    → (s ≡ t) × (text_of m ≡ text_of n) × (a ≡ b)
behind_one words None None m n a b p q = (refl, cc, cc)
behind_one words None (Some r) m n a b p (word, named, whole) = absurd (not_register m r (cc))
behind_one words (Some r) None m n a b (word, named, whole) q = absurd (not_register n r (cc))
behind_one words (Some r) (Some x) m n a b (word, named, whole) (other, named_too, whole_too) =
    let digits : decimal r ≡ decimal x = cc in
    (ap Some (C.decimal_injective r x (omega (arith, named.0)) (omega (arith, named_too.0)) digits), cc, cc)

makes-one : {registers words name a b : _} → Makes registers name words a → Makes registers name words b → a ≡ b
makes-one {registers} {words} {name} h k = h.is ∙ ap (C.command_with name) (arguments-one registers words (C.parameters_of name) h.arguments k.arguments h.right k.right) ∙ sym k.is

spells-one : {registers words s t a b : _} → C.Spells registers words s a → C.Spells registers words t b → (s ≡ t) × (a ≡ b)
spells-one {words} {s} {t} h k =
    let (targets, texts, rests) = behind_one words s t h.name k.name h.rest k.rest h.goes k.goes in
    (targets, makes-one h.makes (rw (name-one h.name k.name texts, rests) k.makes))

pub Reads-one : (registers line : List ℕ) (a b : Said) → Reads registers line a → Reads registers line b → a ≡ b
Reads-one registers line Said.Silent Said.Silent p q = refl
Reads-one registers line Said.Bad Said.Bad p q = refl
Reads-one registers line (Said.Says s a) (Said.Says t b) p q = let same = spells-one p.1 q.1 in cc
Reads-one registers line Said.Bad (Said.Says t b) p q = absurd (p.1 t b q.1)
Reads-one registers line (Said.Says s a) Said.Bad p q = absurd (q.1 s a p.1)
Reads-one registers line a b p q = cc
