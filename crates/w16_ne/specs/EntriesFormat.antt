-- Where the entries of ordinals lie (volume 4).
use Rattle.std.specs.Prelude.{◌≡◌, ◌<◌, ◌≤◌, ℕ, ◌+◌, ◌*◌, ◌⊎◌, List, [], ◌∷◌, length, Option, Some, None, slice_index}
use Rattle.std.specs.List.{flat_map}
use Rattle.w16_ne.specs.declared.entry_table.Entry.TheVariants.{InSegment, Constant}
use Rattle.w16_ne.specs.{declared.entry_table.Entry.Entry, Entries.entry_size, Entries.entry_in}

-- an entry's segment is one of so many, from 1; an ordinal may have no entry, and a constant has no segment
abbrev pub IsInside : ℕ → Option Entry → Type 0
IsInside segments None = Unit {0}
IsInside segments (Some (Constant value)) = Unit {0}
IsInside segments (Some (InSegment segment offset)) = (0 < segment) × (segment ≤ segments)

-- entries of one kind, one directly after the other
abbrev pub AreEntries : List ℕ → ℕ → ℕ → ℕ → List (Option Entry) → Type 0
AreEntries table segments indicator at [] = Unit {0}
AreEntries table segments indicator at (e ∷ es) = (e ≡ entry_in table indicator at) × IsInside segments e × AreEntries table segments indicator (at + entry_size indicator) es

-- a bundle at an index of the table: its count, which isn't 0, its indicator and its entries
pub record IsBundle (table : List ℕ) (segments at : ℕ) (es : List (Option Entry)) : Type 0 where
  pub some : 0 < length es
  pub count : slice_index table at ≡ length es
  pub inside : at + 2 + length es * entry_size (slice_index table (at + 1)) ≤ length table
  pub are : AreEntries table segments (slice_index table (at + 1)) (at + 2) es

-- bundles one directly after the other, up to a count of 0 or the table's end
abbrev pub AreBundles : List ℕ → ℕ → ℕ → List (List (Option Entry)) → Type 0
AreBundles table segments at [] = (length table ≤ at) ⊎ (slice_index table at ≡ 0)
AreBundles table segments at (b ∷ bs) = IsBundle table segments at b × AreBundles table segments (at + 2 + length b * entry_size (slice_index table (at + 1))) bs

-- The entries of a table by ordinal are those of its bundles, and there are few enough for a word.
pub record IsEntryTable (table : List ℕ) (segments : ℕ) (es : List (Option Entry)) : Type 0 where
  pub bundles : List (List (Option Entry))
  pub are : AreBundles table segments 0 bundles
  pub whole : es ≡ flat_map (λ b. b) bundles
  pub few : length es ≤ 65535
