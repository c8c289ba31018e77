-- What is said of a line that is bad.
use Rattle.std.specs.Prelude.{◌≡◌, length}
use Rattle.w16_machine.specs.declared.name.Name.{Name}
use Rattle.w16_script.specs.{declared.expected.Expected.Expected, Words.words_of, Grammar.text_of, Grammar.parameters_of}
use Rattle.w16_script.specs.declared.expected.Expected.TheVariants as expected

-- a word that is said to be no command's name is none, and a command is said to take as many parameters as it does
abbrev pub IsExpected : Expected → Type 0
IsExpected (expected.Name word) = (name : Name) → word.now ≡ text_of name → ⊥
IsExpected expected.Command = Unit {0}
IsExpected (expected.Arguments word parameters) = (name : Name) × (word.now ≡ text_of name) × (length (words_of parameters.now) ≡ length (parameters_of name))
