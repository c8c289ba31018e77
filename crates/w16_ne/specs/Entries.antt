-- The entry table: bundles of a count byte and an indicator byte (volume 4).
use Rattle.w16_ne.specs
use Rattle.std.specs.Prelude.{ℕ, zero, suc, ◌+◌, ◌*◌, List, [], ◌++◌, length, Option, Some, None, Ok, Err, ◌==◌, nat_lt, nat_le, ◌||◌, Bool, false, if◌then◌else◌, slice_index}
use specs.declared.fault.NeFault.TheVariants.{Truncated, BadTable}
use specs.declared.entry_table.Entry.{Entry}
use specs.declared.entry_table.Entry.TheVariants.{InSegment, Constant}
use specs.Reading.{Reading, ◌>>=◌, bytes_or, word_of, each}
use specs.Header.{entry_table, entry_length, segment_count}

-- An entry takes 6 bytes in a bundle of indicator FF (flags, CD, 3F, segment, offset), none in one of 0, which skips ordinals, and 3 in any
-- other: flags, and an offset in the segment of the indicator's number, or in FE a constant.
abbrev pub entry_size : ℕ → ℕ
entry_size indicator = if indicator == 0 then 0 else (if indicator == 255 then 6 else 3)

abbrev pub entry_in : List ℕ → ℕ → ℕ → Option Entry
entry_in table indicator at =
    if indicator == 0 then None else
    if indicator == 255 then Some (InSegment (slice_index table (at + 3)) (word_of table (at + 4))) else
    if indicator == 254 then Some (Constant (word_of table (at + 1))) else
    Some (InSegment indicator (word_of table (at + 1)))

-- an entry's segment has to be one of so many, from 1; a constant has none
abbrev pub is_astray : ℕ → Option Entry → Bool
is_astray segments None = false
is_astray segments (Some (Constant value)) = false
is_astray segments (Some (InSegment segment offset)) = segment == 0 || nat_lt segments segment

abbrev pub sound_entry : ℕ → Option Entry → Reading (Option Entry)
sound_entry segments entry = if is_astray segments entry then Err BadTable else Ok entry

-- where a bundle ends: after its count, its indicator and its entries
abbrev pub bundle_end : List ℕ → ℕ → ℕ
bundle_end table at = at + 2 + slice_index table at * entry_size (slice_index table (at + 1))

-- so many entries of a bundle, whose first is at an index of the table
unfoldable pub bundle_in : List ℕ → ℕ → ℕ → ℕ → ℕ → Reading (List (Option Entry))
bundle_in table segments indicator count at = each (λ i. sound_entry segments (entry_in table indicator (at + i * entry_size indicator))) count 0

-- At most so many bundles from an index on, after so many ordinals. A count of 0 or the table's end ends them. No bundle may go past the
-- table, and no ordinal over 65,535.
abbrev pub bundles_from : List ℕ → ℕ → ℕ → ℕ → ℕ → Reading (List (Option Entry))
bundles_from table segments zero at ordinals = Ok []
bundles_from table segments (suc n) at ordinals =
    let count = slice_index table at in
    let indicator = slice_index table (at + 1) in
    let end = bundle_end table at in
    if nat_le (length table) at || count == 0 then Ok [] else
    if nat_lt (length table) end || nat_lt 65535 (ordinals + count) then Err BadTable else do
      entries ← bundle_in table segments indicator count (at + 2)
      others ← bundles_from table segments n end (ordinals + count)
      Ok (entries ++ others)

-- the entries by ordinal, from 1: there are fewer bundles than bytes
unfoldable pub entries_in : List ℕ → ℕ → Reading (List (Option Entry))
entries_in table segments = bundles_from table segments (length table) 0 0

-- a table of no bytes is nowhere past the file's end
unfoldable pub table_at : Option (List ℕ) → ℕ → List ℕ → Reading (List (Option Entry))
table_at file ne header = if entry_length header == 0 then Ok [] else do
  table ← bytes_or Truncated file (ne + entry_table header) (entry_length header)
  entries_in table (segment_count header)
