-- Where a module's header lies, and what is accepted of it (volume 4).
use Rattle.std.specs.Prelude.{◌≡◌, ◌≤◌, ◌⊎◌, ℕ, ◌+◌, List, length, take, drop, bit_and}
use Rattle.w16_ne.specs.Reading.{word_of, dword_of}
use Rattle.w16_ne.specs.Header.{flags_of, segment_count, shift_of, target_of}

-- the old header: 64 bytes that begin with `MZ` and have the header's offset at 3C
pub record IsOldHeader (file : List ℕ) (ne : ℕ) : Type 0 where
  pub mark : word_of file 0 ≡ 0x5a4d
  pub inside : 64 ≤ length file
  pub place : dword_of file 0x3c ≡ ne

-- the header: the 64 bytes at an offset, which begin with `NE`
pub record IsHeader (file : List ℕ) (ne : ℕ) (header : List ℕ) : Type 0 where
  pub mark : word_of file ne ≡ 0x454e
  pub inside : ne + 64 ≤ length file
  pub bytes : take 64 (drop ne file) ≡ header

-- a header for Windows, of a module that doesn't load itself (0800), was linked without errors (2000) and has not too many segments
pub record IsAccepted (header : List ℕ) : Type 0 where
  pub target : (target_of header ≡ 0) ⊎ (target_of header ≡ 2)
  pub plain : bit_and (flags_of header) 0x2800 ≡ 0
  pub few : segment_count header ≤ 253
  pub shift : shift_of header ≤ 15
