-- Laws of the language.
use Rattle.std.specs.Prelude.{◌≡◌, ℕ, Bool, true, ◌||◌, ◌&&◌, ◌==◌, nat_le, List, Option}
use Rattle.std.specs.List.{list_all}
use Rattle.w16_loading.specs.Families.{AnyCommand}
use Rattle.w16_script.specs.Grammar.{Said, Reads}

-- what a line says is one thing, whatever the registers have
abbrev pub OneReading : Type 0
OneReading = (registers line : List ℕ) (a b : Said) → Reads registers line a → Reads registers line b → a ≡ b

-- a byte from 20 to 7E in hexadecimal, or a tab
abbrev pub is_plain : ℕ → Bool
is_plain byte = (byte == 9) || (nat_le 32 byte && nat_le byte 126)

-- no other byte stands in a line that says a command
abbrev pub EachIsPlain : Type 0
EachIsPlain = (registers line : List ℕ) (target : Option ℕ) (command : AnyCommand) → Reads registers line (Said.Says target command) → list_all is_plain line ≡ true
