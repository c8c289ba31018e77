-- What is known between two bytes of a script.
use Rattle.std.specs.Prelude.{◌≡◌, ◌≢◌, ℕ, ◌+◌, ◌-◌, ◌*◌, ◌<◌, ◌≤◌, ◌⊎◌, List, [], ◌∷◌, ◌++◌, length}

-- the unfinished line, how many lines ended before it, and how many of those had a reply
pub record Progress : Type 0 where
  pub line : List ℕ
  pub lines : ℕ
  pub replies : ℕ

-- before the first byte
abbrev pub fresh : Progress
fresh = record { line = []; lines = 0; replies = 0 }

-- the unfinished line goes on with these bytes
abbrev pub with_bytes : Progress → List ℕ → Progress
with_bytes here bytes = record { line = here.line ++ bytes; lines = here.lines; replies = here.replies }

-- no limit is passed: at most 1,000,000 lines ended and nothing stands after the millionth, and the unfinished line has at most 4,096 bytes
pub record IsWithinLimits (here : Progress) : Type 0 where
  pub replies : here.replies ≤ here.lines
  pub lines : here.lines ≤ 1000000
  pub last : 0 < length here.line → here.lines < 1000000
  pub short : length here.line ≤ 4096

-- this byte passes a limit: it stands after the millionth line, or a line goes on with it that has its 4,096 bytes
abbrev pub IsOver : Progress → ℕ → Type 0
IsOver here byte = (here.lines ≡ 1000000) ⊎ ((length here.line ≡ 4096) × (byte ≢ 10))

-- bytes of one line pass a limit: at this one of them
pub record Overflows (before : Progress) (bytes : List ℕ) : Type 0 where
  pub front : List ℕ
  pub byte : ℕ
  pub more : List ℕ
  pub whole : bytes ≡ front ++ byte ∷ more
  pub fits : IsWithinLimits (with_bytes before front)
  pub over : IsOver (with_bytes before front) byte

-- how many bytes may come at most before a limit is passed
abbrev pub room_of : Progress → ℕ
room_of here = (1000000 - here.lines) * 4097 + (4097 - length here.line)
