-- What a line says.
use Rattle.std.specs.Prelude.{◌≡◌, ◌≢◌, ℕ, ◌^◌, ◌<◌, ◌≤◌, Bool, true, false, ◌==◌, List, [], ◌∷◌, length, codes, Ok, Option, Some, None, slice_index}
use Rattle.std.specs.{Char.is_ascii_graphic, List.list_all}
use Rattle.w16_loading.specs.Families.{AnyCommand}
use Rattle.w16_machine.specs.Rows.{Argument, row_of}
use Rattle.w16_machine.specs.Rows.Argument.{Word, Dword, Count, Byte, Bytes, Text, Label}
use Rattle.w16_machine.specs.{declared.name.Name.Name, declared.name.Parameter.Parameter}
use Rattle.w16_machine.specs.declared.name.Parameter.TheVariants as p
use Rattle.w16_model.specs.Commands as commands
use Rattle.hex.specs.Hex.{decode_of}
use Rattle.w16_script.specs.{declared.bytes.TheConstants.MOST_BYTES, Words.words_of, Registers.IsRegister, Numbers.IsLiteral, Numbers.IsNumber}

-- What the table of the commands says of a name.

abbrev pub text_of : Name → List ℕ
text_of name = (row_of name).text

abbrev pub parameters_of : Name → List Parameter
parameters_of name = (row_of name).parameters

abbrev pub command_with : Name → List Argument → AnyCommand
command_with name = (row_of name).command

-- The forms of an argument.

-- one to 1,024 bytes in hexadecimal, its letters in either case
abbrev pub IsBytes : List ℕ → List ℕ → Type 0
IsBytes word bytes = (decode_of word ≡ Ok bytes) × (0 < length bytes) × (length bytes ≤ MOST_BYTES)

-- one to 255 bytes from 21 to 7E in hexadecimal
abbrev pub IsText : List ℕ → Type 0
IsText word = (0 < length word) × (length word ≤ 255) × (list_all is_ascii_graphic word ≡ true)

-- a text that doesn't begin with `#`; or after a `#` a number that stands as it is and is a word
abbrev pub IsLabel : List ℕ → commands.Label → Type 0
IsLabel word (commands.Label.Text text) = (text ≡ word) × IsText word × (slice_index word 0 ≢ 35)
IsLabel word (commands.Label.Number n) = (digits : List ℕ) × (word ≡ 35 ∷ digits) × IsLiteral digits n × (n < 2 ^ 16)

-- a word that a parameter takes, and its value
abbrev pub IsArgument : List ℕ → List ℕ → Parameter → Argument → Type 0
IsArgument registers word p.Word (Word n) = IsNumber registers word n × (n < 2 ^ 16)
IsArgument registers word p.Dword (Dword n) = IsNumber registers word n × (n < 2 ^ 32)
IsArgument registers word (p.Count most) (Count n) = IsNumber registers word n × (n ≤ most)
IsArgument registers word p.Byte (Byte n) = IsNumber registers word n × (n < 2 ^ 8)
IsArgument registers word p.Bytes (Bytes bytes) = IsBytes word bytes
IsArgument registers word p.Text (Text text) = (text ≡ word) × IsText word
IsArgument registers word p.Label (Label label) = IsLabel word label
IsArgument registers word parameter argument = ⊥

-- the words are what the parameters ask for, one by one
abbrev pub AreArguments : List ℕ → List (List ℕ) → List Parameter → List Argument → Type 0
AreArguments registers [] [] [] = Unit {0}
AreArguments registers (word ∷ words) (parameter ∷ parameters) (argument ∷ arguments) = IsArgument registers word parameter argument × AreArguments registers words parameters arguments
AreArguments registers words parameters arguments = ⊥

-- Lines.

-- the register before a command, `rN =`, if there is one, and the words after it
abbrev pub GoesTo : List (List ℕ) → Option ℕ → List (List ℕ) → Type 0
GoesTo words None rest = words ≡ rest
GoesTo words (Some r) rest = (word : List ℕ) × IsRegister word r × (words ≡ word ∷ codes "=" ∷ rest)

-- words that are a name's arguments make this command
pub record Makes (registers : List ℕ) (name : Name) (words : List (List ℕ)) (command : AnyCommand) : Type 0 where
  pub arguments : List Argument
  pub right : AreArguments registers words (parameters_of name) arguments
  pub is : command ≡ command_with name arguments

-- the words are a register, if there is one, and after it a command's name and its arguments
pub record Spells (registers : List ℕ) (words : List (List ℕ)) (target : Option ℕ) (command : AnyCommand) : Type 0 where
  pub name : Name
  pub rest : List (List ℕ)
  pub goes : GoesTo words target (text_of name ∷ rest)
  pub makes : Makes registers name rest command

-- no word, or the first begins with a semicolon
abbrev pub is_silent : List (List ℕ) → Bool
is_silent [] = true
is_silent (word ∷ words) = slice_index word 0 == 59

-- what a line may say: nothing, nothing that is known, or a command whose reply goes to a register, if to any
pub data Said : Type 0 where
  Silent : Said
  Bad : Said
  Says : (target : Option ℕ) (command : AnyCommand) → Said

-- the register that the line's reply goes to
abbrev pub target_of : Said → Option ℕ
target_of Silent = None
target_of Bad = None
target_of (Says target command) = target

-- what a line says
abbrev pub Reads : List ℕ → List ℕ → Said → Type 0
Reads registers line Silent = is_silent (words_of line) ≡ true
Reads registers line Bad = (is_silent (words_of line) ≡ false) × ((target : Option ℕ) (command : AnyCommand) → Spells registers (words_of line) target command → ⊥)
Reads registers line (Says target command) = (is_silent (words_of line) ≡ false) × Spells registers (words_of line) target command
