-- Texts that words lead to: each a length byte and so many bytes, at a word's offset from one place of the file.
use Rattle.std.specs.Prelude.{ℕ, ◌+◌, ◌≤◌, List, length, take, drop, Option, slice_index}
use Rattle.w16_ne.specs.{declared.text_window.TheConstants.TEXTS, Reading.Reading, Reading.front_at}

-- as far as texts go that words lead to
abbrev pub texts_behind : Option (List ℕ) → ℕ → Reading (List ℕ)
texts_behind file at = front_at TEXTS file at

-- bytes that have a text whole at an index, and that text
abbrev pub HasText : List ℕ → ℕ → Type 0
HasText bytes at = at + 1 + slice_index bytes at ≤ length bytes

abbrev pub text_in : List ℕ → ℕ → List ℕ
text_in bytes at = take (slice_index bytes at) (drop (at + 1) bytes)
