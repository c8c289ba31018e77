-- The header: the old one's offset to it, its 64 bytes and their fields, and what is accepted of them (volume 4).
use Rattle.std.specs.Prelude.{ℕ, List, Option, Ok, Err, nat_lt, ◌==◌, ◌||◌, ◌&&◌, not, Bool, if◌then◌else◌, bit_and, slice_index}
use Rattle.w16_ne.specs.declared.fault.NeFault.TheVariants.{NotMz, NotNe, Target, Unsupported, Truncated, BadTable}
use Rattle.w16_ne.specs.Reading.{Reading, ◌>>=◌, bytes_or, word_of, dword_of}

-- the offset of the header: the double word at 3C of the old header, which begins with `MZ`
unfoldable pub place_at : Option (List ℕ) → Reading ℕ
place_at file = do
  mark ← bytes_or NotMz file 0 2
  if not (word_of mark 0 == 0x5a4d) then Err NotMz else do
    old ← bytes_or Truncated file 0 64
    Ok (dword_of old 0x3c)

-- its 64 bytes, which begin with `NE`
unfoldable pub header_at : Option (List ℕ) → ℕ → Reading (List ℕ)
header_at file ne = do
  mark ← bytes_or NotNe file ne 2
  if not (word_of mark 0 == 0x454e) then Err NotNe else bytes_or Truncated file ne 64

-- The fields that are read. Offsets count from the header but for that of the nonresident names, which counts from the file's start.
abbrev pub entry_table : List ℕ → ℕ
entry_table header = word_of header 0x04

abbrev pub entry_length : List ℕ → ℕ
entry_length header = word_of header 0x06

abbrev pub flags_of : List ℕ → ℕ
flags_of header = word_of header 0x0c

abbrev pub segment_count : List ℕ → ℕ
segment_count header = word_of header 0x1c

abbrev pub reference_count : List ℕ → ℕ
reference_count header = word_of header 0x1e

abbrev pub nonresident_length : List ℕ → ℕ
nonresident_length header = word_of header 0x20

abbrev pub segment_table : List ℕ → ℕ
segment_table header = word_of header 0x22

abbrev pub resource_table : List ℕ → ℕ
resource_table header = word_of header 0x24

abbrev pub resident_names : List ℕ → ℕ
resident_names header = word_of header 0x26

abbrev pub reference_table : List ℕ → ℕ
reference_table header = word_of header 0x28

abbrev pub imported_names : List ℕ → ℕ
imported_names header = word_of header 0x2a

abbrev pub nonresident_names : List ℕ → ℕ
nonresident_names header = dword_of header 0x2c

-- the alignment shift; 0 is taken as 9 (profile)
abbrev pub shift_of : List ℕ → ℕ
shift_of header = if word_of header 0x32 == 0 then 9 else word_of header 0x32

-- the target system; 2 is Windows, and 0 is taken as Windows (profile)
abbrev pub target_of : List ℕ → ℕ
target_of header = slice_index header 0x36

-- a library (flag 8000)
abbrev pub is_library : List ℕ → Bool
is_library header = not (bit_and (flags_of header) 0x8000 == 0)

-- Another target; self-loading (0800), linked with errors (2000), over 253 segments; a shift over 15.
unfoldable pub fields_of : List ℕ → Reading (Unit {0})
fields_of header =
    if not (target_of header == 0) && not (target_of header == 2) then Err (Target (target_of header)) else
    if not (bit_and (flags_of header) 0x2800 == 0) || nat_lt 253 (segment_count header) then Err Unsupported else
    if nat_lt 15 (shift_of header) then Err BadTable else Ok tt
