-- The segment table: for each segment a sector, the length in the file, flags, and the minimum allocation (volume 4).
use Rattle.w16_ne.specs
use Rattle.std.specs.Prelude.{◌≡◌, ◌≤◌, ℕ, ◌%◌, ◌+◌, ◌*◌, ◌/◌, ◌^◌, max, List, [], Option, Ok, Err, ◌==◌, not, if◌then◌else◌, bit_and}
use specs.declared.fault.NeFault.TheVariants.{Unsupported, Truncated}
use specs.declared.segment_table.Segment.{Segment}
use specs.declared.segment_table.TheConstants.{LARGEST_SEGMENT, SEGMENT_UNIT}
use specs.Reading.{Reading, ◌>>=◌, bytes_or, reaches, word_of, each}
use specs.Header.{shift_of, segment_count, segment_table}

-- a length or a minimum of 0 stands for 65,536
abbrev pub or_64k : ℕ → ℕ
or_64k n = if n == 0 then 65536 else n

-- the next multiple of 32
abbrev pub rounded : ℕ → ℕ
rounded n = (n + 31) / 32 * 32

-- A segment has at most 65,536 bytes of data. Its object has room for them; its size is a multiple of 32, from 32 to 65,536 (profile).
pub record IsSized (s : Segment) : Type 0 where
  pub short : s.len ≤ LARGEST_SEGMENT
  pub room : s.len ≤ s.size
  pub some : SEGMENT_UNIT ≤ s.size
  pub small : s.size ≤ LARGEST_SEGMENT
  pub whole : s.size % SEGMENT_UNIT ≡ 0

-- how many relocation records stand directly after the data, after their count: none without flag 0100
unfoldable pub records_at : Option (List ℕ) → ℕ → ℕ → Reading ℕ
records_at file flags end = if bit_and flags 0x100 == 0 then Ok 0 else do
  count ← bytes_or Truncated file end 2
  _ ← reaches file (end + 2 + 8 * word_of count 0)
  Ok (word_of count 0)

-- a segment with data in the file: the object's size is the larger of length and minimum, rounded up (profile)
unfoldable pub data_at : Option (List ℕ) → ℕ → ℕ → ℕ → ℕ → Reading Segment
data_at file place len flags least = do
  _ ← reaches file (place + len)
  records ← records_at file flags (place + len)
  Ok (record { place = place; len = len; flags = record { 0 = flags }; size = rounded (max len least); records = records })

-- the segment at an index of the table: its data stand at its sector times the unit; sector 0 means that there are none. Iterated data (0008)
-- aren't read.
unfoldable pub segment_at : Option (List ℕ) → ℕ → List ℕ → ℕ → Reading Segment
segment_at file shift table at =
    let sector = word_of table at in
    let len = or_64k (word_of table (at + 2)) in
    let flags = word_of table (at + 4) in
    let least = or_64k (word_of table (at + 6)) in
    if not (bit_and flags 8 == 0) then Err Unsupported else
    if sector == 0 then Ok (record { place = 0; len = 0; flags = record { 0 = flags }; size = rounded least; records = 0 }) else
    data_at file (sector * 2 ^ shift) len flags least

-- so many segments of the table
unfoldable pub entries_at : Option (List ℕ) → ℕ → List ℕ → ℕ → Reading (List Segment)
entries_at file shift table count = each (λ i. segment_at file shift table (8 * i)) count 0

-- the segments; a table of none is nowhere past the file's end
unfoldable pub segments_at : Option (List ℕ) → ℕ → List ℕ → Reading (List Segment)
segments_at file ne header = if segment_count header == 0 then Ok [] else do
  table ← bytes_or Truncated file (ne + segment_table header) (8 * segment_count header)
  entries_at file (shift_of header) table (segment_count header)
