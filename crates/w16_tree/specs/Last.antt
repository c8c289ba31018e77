-- What the list is asked that std has no word for.
use Rattle.std.specs.Prelude.{ℕ, zero, suc, nat_lt, if◌then◌else◌, List, Option, Some, None, slice_index}

-- the highest index below another whose number is not 0
abbrev pub last_below : List ℕ → ℕ → Option ℕ
last_below xs zero = None
last_below xs (suc i) = if nat_lt 0 (slice_index xs i) then Some i else last_below xs i
