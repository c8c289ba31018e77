-- Lemmas on the arguments of commands.
use Rattle.w16_script.proofs.Common as C
use Rattle.w16_script.proofs.Common.{◌≡◌, ◌≢◌, ℕ, ◌*◌, ◌^◌, ◌<◌, ◌≤◌, List, [], ◌∷◌, refl, ap, sym, subst, ◌∙◌, arith, Ok, Some, None, Name, Label, IsNumber, Argument, IsArgument, AreArguments, Makes}
use Rattle.w16_machine.specs.declared.name.Parameter.TheVariants as p

-- a word of another length doesn't have that many bytes
pub length_bytes : (word bytes : _) → C.decode_of word ≡ Ok bytes → C.length word ≡ 2 * C.length bytes
length_bytes word bytes h = (C.decode_of-ok word bytes h).2

pub IfNone-weaker : {X P Q : Type 0} (o : C.Option X) → (P → Q) → C.IfNone o P → C.IfNone o Q
IfNone-weaker o f h = grind arith

-- Words that a parameter doesn't take.

module _ (registers word : List ℕ) where
  pub no_word : ((n : ℕ) → IsNumber registers word n → n ≤ 65535 → ⊥) → (value : Argument) → IsArgument registers word p.Word value → ⊥
  no_word none (Argument.Word n) h = none n h.0 (omega (arith, h.1))
  no_word none value h = absurd h

  pub no_dword : ((n : ℕ) → IsNumber registers word n → ⊥) → (value : Argument) → IsArgument registers word p.Dword value → ⊥
  no_dword none (Argument.Dword n) h = none n h.0
  no_dword none value h = absurd h

  pub no_count : (most : ℕ) → ((n : ℕ) → IsNumber registers word n → n ≤ most → ⊥) → (value : Argument) → IsArgument registers word (p.Count most) value → ⊥
  no_count most none (Argument.Count n) h = none n h.0 h.1
  no_count most none value h = absurd h

  pub no_byte : ((n : ℕ) → IsNumber registers word n → n ≤ 255 → ⊥) → (value : Argument) → IsArgument registers word p.Byte value → ⊥
  no_byte none (Argument.Byte n) h = none n h.0 (omega (arith, h.1))
  no_byte none value h = absurd h

-- a label that is a number begins with `#`
pub hash : (word digits : List ℕ) → word ≡ 35 ∷ digits → C.get_or word 0 0 ≢ 35 → ⊥
hash word digits is other = other (rw is refl)

-- what begins with `#` is no label without a number
pub no_number_behind : (word digits : List ℕ) → word ≡ 35 ∷ digits → ((n : ℕ) → C.IsLiteral digits n → n < 2 ^ 16 → ⊥) → (label : Label) → C.IsLabel word label → ⊥
no_number_behind word digits is none (Label.Text text) (same, reads, other) = hash word digits is other
no_number_behind word digits is none (Label.Number n) (others, is_too, reads, small) =
    let same : others ≡ digits = cc in
    none n (rw same at reads) small

-- the first word is no value
pub no_value : (registers first words behind parameter : _) → words ≡ first ∷ behind → ((other : _) → IsArgument registers first parameter other → ⊥)
    → (word rest other : _) → words ≡ word ∷ rest → IsArgument registers word parameter other → ⊥
no_value registers first words behind parameter is none word rest other too reads = grind arith

-- Arguments, one by one.

pub nothing_left : (registers words : _) → words ≡ [] → AreArguments registers words [] []
nothing_left registers words is = rw is tt

pub something_left : (registers words : _) → (words ≡ [] → ⊥) → (values : _) → AreArguments registers words [] values → ⊥
something_left registers [] some values h = some refl
something_left registers (word ∷ words) some values h = absurd h

module _ (registers word : List ℕ) (words rest : List (List ℕ)) (parameter : C.Parameter) (parameters : List C.Parameter) where
  pub more : (value values : _) → words ≡ word ∷ rest → IsArgument registers word parameter value → AreArguments registers rest parameters values → AreArguments registers words (parameter ∷ parameters) (value ∷ values)
  more value values is first others = rw is (first, others)

  pub no_rest : words ≡ word ∷ rest → ((values : _) → AreArguments registers rest parameters values → ⊥) → (values : _) → AreArguments registers words (parameter ∷ parameters) values → ⊥
  no_rest is none values h = grind arith

pub no_first : (registers words parameter parameters : _) → ((word rest other : _) → words ≡ word ∷ rest → IsArgument registers word parameter other → ⊥)
    → (values : _) → AreArguments registers words (parameter ∷ parameters) values → ⊥
no_first registers [] parameter parameters none values h = absurd h
no_first registers (word ∷ words) parameter parameters none [] h = absurd h
no_first registers (word ∷ words) parameter parameters none (value ∷ values) h = none word words value refl h.0

pub ruleset taken = (C.common_steps, more, no_first, no_rest)

-- Commands of their arguments.

pub makes : (registers words name parameters arguments command : _) → AreArguments registers words parameters arguments → C.parameters_of name ≡ parameters → command ≡ C.command_with name arguments → Makes registers name words command
makes registers words name parameters arguments command right same is = record { arguments = arguments; right = rw same right; is = is }

pub makes_none : (registers words name parameters : _) → ((values : _) → AreArguments registers words parameters values → ⊥) → C.parameters_of name ≡ parameters → (command : _) → Makes registers name words command → ⊥
makes_none registers words name parameters none same command made = none made.arguments (rw same at made.right)

pub ruleset making = (C.common_steps, makes, makes_none)
