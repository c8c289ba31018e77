-- Where segments lie, their data and their relocation records (volume 4).
use Rattle.std.specs.Prelude.{◌≡◌, ◌≢◌, ◌<◌, ◌≤◌, ℕ, ◌+◌, ◌*◌, ◌^◌, ◌⊎◌, max, List, [], ◌∷◌, length, bit_and}
use Rattle.w16_ne.specs.{declared.segment_table.Segment.Segment, Reading.word_of, Segments.or_64k, Segments.rounded}

-- how many relocation records stand at an end of data: none without flag 0100, or as many as the word there says, and all are there
abbrev pub AreRecords : List ℕ → ℕ → ℕ → ℕ → Type 0
AreRecords file flags end records =
    (bit_and flags 0x100 ≡ 0) × (records ≡ 0)
    ⊎ (bit_and flags 0x100 ≢ 0) × (records ≡ word_of file end) × (end + 2 + 8 * records ≤ length file)

-- a segment's data: none for sector 0, or so many bytes at the sector times the unit, with the records after them
abbrev pub IsData : List ℕ → ℕ → ℕ → Segment → Type 0
IsData file shift at s =
    (word_of file at ≡ 0) × (s.place ≡ 0) × (s.len ≡ 0) × (s.records ≡ 0)
    ⊎ (word_of file at ≢ 0) × (s.place ≡ word_of file at * 2 ^ shift) × (s.len ≡ or_64k (word_of file (at + 2))) × (s.place + s.len ≤ length file)
    × AreRecords file s.flags.0 (s.place + s.len) s.records

-- a segment by its 8 bytes at an offset, which aren't those of iterated data
pub record IsSegment (file : List ℕ) (shift at : ℕ) (s : Segment) : Type 0 where
  pub flags : s.flags.0 ≡ word_of file (at + 4)
  pub plain : bit_and s.flags.0 8 ≡ 0
  pub placed : IsData file shift at s
  pub size : s.size ≡ rounded (max s.len (or_64k (word_of file (at + 6))))

-- segments whose entries stand one directly after the other
abbrev pub AreSegments : List ℕ → ℕ → ℕ → List Segment → Type 0
AreSegments file shift at [] = Unit {0}
AreSegments file shift at (s ∷ ss) = IsSegment file shift at s × AreSegments file shift (at + 8) ss

-- a table of so many, all of whose bytes are there
pub record IsSegmentTable (file : List ℕ) (shift at count : ℕ) (segments : List Segment) : Type 0 where
  pub whole : length segments ≡ count
  pub inside : 0 < count → at + 8 * count ≤ length file
  pub are : AreSegments file shift at segments
