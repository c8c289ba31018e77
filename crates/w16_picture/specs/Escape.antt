-- Text of others in XML and on a terminal: no part of it is markup or a control character.
use Rattle.std.specs.Prelude.{◌≡◌, ◌≢◌, ℕ, ◌^◌, ◌-◌, ◌≤◌, Result, OnOk, String, string_bytes, List, [], ◌∷◌, ◌++◌, codes, false, ◌==◌, ◌||◌, nat_lt, if◌then◌else◌, Contains}
use Rattle.std.specs.{Global.Global, Fmt.digits, Fmt.padded_integral, Fmt.format_spec, List.flat_map, declared.alloc.AllocError.AllocError}

-- A call that answers `Ok` has appended this text.
abbrev pub Adds : Result (Unit {0}) AllocError → String Global → String Global → List ℕ → Type 0
Adds result old new text = OnOk result (string_bytes new ≡ string_bytes old ++ text)

-- a number in hexadecimal, with zeros in front up to that many digits
abbrev pub hex : ℕ → ℕ → List ℕ
hex width n = padded_integral (format_spec 32 0 4 width (2 ^ 64 - 1)) false [] (digits 16 false n)

-- a byte as ASCII prints it, or by its code
unfoldable pub byte_shown : ℕ → List ℕ
byte_shown b = if nat_lt b 32 || nat_lt 126 b then codes "\\x" ++ hex 2 b else b ∷ []

abbrev pub shown : List ℕ → List ℕ
shown bytes = flat_map byte_shown bytes

-- a byte in XML: by its entity where it has a meaning there
unfoldable pub byte_text : ℕ → List ℕ
byte_text b =
    if b == 34 then codes "&quot;" else if b == 38 then codes "&amp;" else if b == 39 then codes "&apos;" else if b == 60 then codes "&lt;" else
    if b == 62 then codes "&gt;" else byte_shown b

abbrev pub escaped : List ℕ → List ℕ
escaped bytes = flat_map byte_text bytes

-- the five entities that every reader of XML knows
abbrev pub entities : List (List ℕ)
entities = codes "&quot;" ∷ codes "&amp;" ∷ codes "&apos;" ∷ codes "&lt;" ∷ codes "&gt;" ∷ []

-- a character that ASCII prints and that has no meaning in XML: no quote, no ampersand, no angle bracket
pub record IsPlain (b : ℕ) : Type 0 where
  pub low : 32 ≤ b
  pub high : b ≤ 126
  pub quote : b ≢ 34
  pub ampersand : b ≢ 38
  pub apostrophe : b ≢ 39
  pub less : b ≢ 60
  pub greater : b ≢ 62

-- plain characters and entities: in an attribute or between tags no reader takes a part of it for markup, or refuses it
pub data IsText : List ℕ → Type 0 where
  nothing : IsText []
  plain : (b : ℕ) (rest : List ℕ) → IsPlain b → IsText rest → IsText (b ∷ rest)
  entity : (name rest : List ℕ) → Contains entities name → IsText rest → IsText (name ++ rest)
