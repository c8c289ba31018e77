-- A line that says a command has plain bytes alone.
use Rattle.w16_script.proofs
use proofs.Common as C
use proofs.Common.{◌≡◌, ℕ, Bool, true, List, [], ◌∷◌, refl, arith, inl, inr, list_all, nat_tests, Name, Label, Argument, Said, Reads, is_plain}
use proofs.RegisterLemmas.{two_digits}
use Rattle.std.proofs.lemmas.List.Folds.{list_all-append}
use Rattle.w16_machine.specs.declared.name.Name.TheVariants as name
use Rattle.w16_machine.specs.declared.name.Parameter.TheVariants as p

abbrev plain_word : List ℕ → Bool
plain_word word = list_all is_plain word

-- each byte of each word is plain
abbrev are_plain : List (List ℕ) → Bool
are_plain words = list_all plain_word words

-- The bytes of words.

-- where each byte with p is plain, and all have p
all_weaker : (p : ℕ → Bool) (xs : List ℕ) → ((x : ℕ) → p x ≡ true → is_plain x ≡ true) → list_all p xs ≡ true → plain_word xs ≡ true
all_weaker p [] f e = refl
all_weaker p (x ∷ xs) f e = grind (arith, f, all_weaker p xs f)

literal_plain : (word : List ℕ) (n : ℕ) → C.IsLiteral word n → plain_word word ≡ true
literal_plain word n (inl decimal, small) = all_weaker (C.is_digit 10) word (λ x e. grind (arith, nat_tests)) decimal.1.digits
literal_plain word n (inr (tail, is, some, few, digits), small) = rw is (all_weaker (C.is_digit 16) tail (λ x e. grind (arith, nat_tests)) digits.digits)

text_plain : (word : List ℕ) → C.IsText word → plain_word word ≡ true
text_plain word (some, few, graphic) = all_weaker C.is_ascii_graphic word (λ x e. grind (arith, nat_tests)) graphic

label_plain : (word : List ℕ) (label : Label) → C.IsLabel word label → plain_word word ≡ true
label_plain word (Label.Text text) (same, is, other) = text_plain word is
label_plain word (Label.Number n) (digits, is, reads, small) = rw is (literal_plain digits n reads)

name_plain : (n : Name) → plain_word (C.text_of n) ≡ true
name_plain name.GlobalAlloc = refl
name_plain n = refl

-- Words and lines.

register_plain : (word : List ℕ) (r : ℕ) → C.IsRegister word r → plain_word word ≡ true
register_plain word r h = grind (arith, nat_tests, C.decimal_digit, two_digits)

form_plain : (value : ℕ) (suffix : List ℕ) (n : ℕ) → C.IsForm value suffix n → plain_word suffix ≡ true
form_plain value suffix n (inl (is, same)) = rw is refl
form_plain value suffix n (inr (inl (is, same))) = rw is refl
form_plain value suffix n (inr (inr (inl (is, same)))) = rw is refl
form_plain value suffix n (inr (inr (inr (tail, more, is, literal, same)))) = rw is (literal_plain tail more literal)

number_plain : (registers word : List ℕ) (n : ℕ) → C.IsNumber registers word n → plain_word word ≡ true
number_plain registers word n (inl literal, small) = literal_plain word n literal
number_plain registers word n (inr h, small) =
    rw (h.whole, list_all-append, register_plain h.name h.register h.named) (form_plain _ h.suffix n h.form)

module _ (registers : List ℕ) where
  argument_plain : (word : List ℕ) (parameter : C.Parameter) (a : Argument) → C.IsArgument registers word parameter a → plain_word word ≡ true
  argument_plain word p.Word (Argument.Word n) h = number_plain registers word n h.0
  argument_plain word p.Dword (Argument.Dword n) h = number_plain registers word n h.0
  argument_plain word (p.Count most) (Argument.Count n) h = number_plain registers word n h.0
  argument_plain word p.Byte (Argument.Byte n) h = number_plain registers word n h.0
  argument_plain word p.Bytes (Argument.Bytes bytes) h = all_weaker C.is_hex_digit word (λ x e. grind (arith, nat_tests)) (C.list_all-from_AllPass C.is_hex_digit word (C.decode_of-ok word bytes h.0).1)
  argument_plain word p.Text (Argument.Text text) h = text_plain word h.1
  argument_plain word p.Label (Argument.Label label) h = label_plain word label h
  argument_plain word parameter a h = absurd h

  arguments_plain : (words : List (List ℕ)) (parameters : List C.Parameter) (a : List Argument) → C.AreArguments registers words parameters a → are_plain words ≡ true
  arguments_plain [] [] [] h = refl
  arguments_plain (word ∷ words) (parameter ∷ parameters) (a ∷ more) h = rw (argument_plain word parameter a h.0) (arguments_plain words parameters more h.1)
  arguments_plain words parameters a h = absurd h

goes_plain : (words : List (List ℕ)) (target : C.Option ℕ) (rest : List (List ℕ)) → C.GoesTo words target rest → are_plain rest ≡ true → are_plain words ≡ true
goes_plain words target rest h e = grind (arith, register_plain)

spelled_plain : {registers words target command : _} → C.Spells registers words target command → are_plain words ≡ true
spelled_plain {registers} {words} {target} h =
    goes_plain words target (C.text_of h.name ∷ h.rest) h.goes (rw (name_plain h.name) (arguments_plain registers h.rest (C.parameters_of h.name) h.makes.arguments h.makes.right))

-- a byte that was put before words is plain, and so are the words
with_byte-parts : (byte : ℕ) (rest : List ℕ) (words : List (List ℕ)) → are_plain (C.with_byte byte rest words) ≡ true → (is_plain byte ≡ true) × (are_plain words ≡ true)
with_byte-parts byte rest words e = grind arith

line_plain : (line : List ℕ) → are_plain (C.words_of line) ≡ true → plain_word line ≡ true
line_plain [] e = refl
line_plain (byte ∷ rest) e = grind (arith, nat_tests, with_byte-parts, line_plain rest)

pub plain : (registers line : List ℕ) (target : C.Option ℕ) (command : C.AnyCommand) → Reads registers line (Said.Says target command) → list_all is_plain line ≡ true
plain registers line target command h = line_plain line (spelled_plain h.1)
