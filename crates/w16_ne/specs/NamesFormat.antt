-- Where names lie (volume 4).
use Rattle.std.specs.Prelude.{◌≡◌, ◌<◌, ◌≤◌, ℕ, ◌+◌, ◌⊎◌, List, [], ◌∷◌, length, take, drop, slice_index}
use Rattle.w16_ne.specs.{Reading.word_of, Names.Entry, Names.size}

-- a name at an offset: its length byte, which isn't 0, its text and its ordinal
pub record IsName (file : List ℕ) (at : ℕ) (e : Entry) : Type 0 where
  pub inside : at + size e ≤ length file
  pub some : 0 < length e.0
  pub len : slice_index file at ≡ length e.0
  pub text : take (length e.0) (drop (at + 1) file) ≡ e.0
  pub ordinal : word_of file (at + 1 + length e.0) ≡ e.1

-- names one directly after the other, and a 0 after the last
abbrev pub AreNames : List ℕ → ℕ → List Entry → Type 0
AreNames file at [] = (at < length file) × (slice_index file at ≡ 0)
AreNames file at (e ∷ es) = IsName file at e × AreNames file (at + size e) es

-- the same in a table that has a length, which may end them too
abbrev pub AreListed : List ℕ → ℕ → List Entry → Type 0
AreListed table at [] = (length table ≤ at) ⊎ (slice_index table at ≡ 0)
AreListed table at (e ∷ es) = IsName table at e × AreListed table (at + size e) es
