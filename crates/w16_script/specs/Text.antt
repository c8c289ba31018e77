-- How a text falls into lines.
use Rattle.std.specs.Prelude.{◌≢◌, ℕ, ◌≤◌, List, [], ◌∷◌, ◌++◌, length, map}
use Rattle.std.specs.{List.AllByRecursion, Io.BufRead.strip_last}

-- a line of the text with its LF
abbrev pub ended : List ℕ → List ℕ
ended line = line ++ 10 ∷ []

-- no LF is among these
abbrev pub HasNoLf : List ℕ → Type 0
HasNoLf bytes = AllByRecursion (λ byte. byte ≢ 10) bytes

-- what stands before an LF: at most 4,096 bytes
abbrev pub IsRaw : List ℕ → Type 0
IsRaw line = HasNoLf line × (length line ≤ 4096)

-- a line loses one CR directly before its LF
abbrev pub without_cr : List ℕ → List ℕ
without_cr line = strip_last 13 line

-- what stands after the last LF is a line too, if there is something
abbrev pub last_of : List ℕ → List (List ℕ)
last_of [] = []
last_of (byte ∷ rest) = (byte ∷ rest) ∷ []

-- the lines, where these stand before LFs, and the rest after the last
abbrev pub lines_of : List (List ℕ) → List ℕ → List (List ℕ)
lines_of raw rest = map without_cr raw ++ last_of rest
