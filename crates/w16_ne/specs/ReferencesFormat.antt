-- Where the names of other modules lie (volume 4).
use Rattle.std.specs.Prelude.{◌≡◌, ◌<◌, ◌≤◌, ℕ, ◌+◌, ◌*◌, List, [], ◌∷◌, length, take, drop, slice_index}
use Rattle.w16_ne.specs.Reading.{word_of}

-- a text at an offset: its length byte and its bytes
pub record IsText (file : List ℕ) (at : ℕ) (text : List ℕ) : Type 0 where
  pub inside : at + 1 + length text ≤ length file
  pub len : slice_index file at ≡ length text
  pub bytes : take (length text) (drop (at + 1) file) ≡ text

-- texts, none of them empty, whose offsets from the imported names stand one directly after the other
abbrev pub AreReferences : List ℕ → ℕ → ℕ → List (List ℕ) → Type 0
AreReferences file names at [] = Unit {0}
AreReferences file names at (t ∷ ts) = IsText file (names + word_of file at) t × (0 < length t) × AreReferences file names (at + 2) ts

-- a table of so many, all of whose words are there
pub record IsReferenceTable (file : List ℕ) (names at count : ℕ) (texts : List (List ℕ)) : Type 0 where
  pub whole : length texts ≡ count
  pub inside : 0 < count → at + 2 * count ≤ length file
  pub are : AreReferences file names at texts
