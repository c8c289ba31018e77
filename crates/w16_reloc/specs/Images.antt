-- What a relocated segment holds.
use Rattle.w16_reloc.specs
use Rattle.std.specs.Prelude.{◌≡◌, ℕ, ◌+◌, ◌-◌, ◌%◌, ◌/◌, List, [], ◌∷◌, ◌++◌, length, nat_lt, nat_le, ◌&&◌, if◌then◌else◌, slice_index}
use Rattle.w16_ne.specs.Reading.{word_of}
use specs.declared.record.Part.TheVariants.{LowByte, Selector, Pointer, Offset}
use specs.declared.record.Record.TheVariants.{Stored, Added, System}
use specs.{declared.record.Part.Part, declared.record.Record.Record, declared.value.Far.Far}

-- a word's bytes, the low one first
abbrev pub word_bytes : ℕ → List ℕ
word_bytes word = word % 256 ∷ word / 256 ∷ []

-- what is written of a far pointer (volume 4)
abbrev pub value_of : Part → Far → List ℕ
value_of LowByte far = far.offset % 256 ∷ []
value_of Selector far = word_bytes far.selector
value_of Pointer far = far.offset % 256 ∷ far.offset / 256 ∷ word_bytes far.selector
value_of Offset far = word_bytes far.offset

-- What an additive record adds to: the byte or the word at its site. The sum of offsets has no carry; a selector is stored (profile).
abbrev pub found_at : Part → List ℕ → ℕ → ℕ
found_at LowByte bytes at = slice_index bytes at
found_at Selector bytes at = 0
found_at Pointer bytes at = word_of bytes at
found_at Offset bytes at = word_of bytes at

abbrev pub moved : Far → ℕ → Far
moved far by = record far { offset = (far.offset + by) % 65536 }

-- bytes to be written from an offset on
pub record Patch : Type 0 where
  pub at : ℕ
  pub value : List ℕ

-- what a record's value is at each offset that it names in the file's bytes
abbrev pub stored_at : List ℕ → List ℕ → List Patch
stored_at value [] = []
stored_at value (at ∷ ats) = record { at = at; value = value } ∷ stored_at value ats

abbrev pub added_at : List ℕ → Part → Far → List ℕ → List Patch
added_at file part far [] = []
added_at file part far (at ∷ ats) = record { at = at; value = value_of part (moved far (found_at part file at)) } ∷ added_at file part far ats

abbrev pub patches_of : List ℕ → Record → Far → List ℕ → List Patch
patches_of file (Stored fixup) far ats = stored_at (value_of fixup.part far) ats
patches_of file (Added fixup) far ats = added_at file fixup.part far ats
patches_of file System far ats = []

-- the same of all records, one value and the named offsets of each
abbrev pub patches : List ℕ → List Record → List Far → List (List ℕ) → List Patch
patches file [] values named = []
patches file (r ∷ records) [] named = []
patches file (r ∷ records) (far ∷ values) [] = []
patches file (r ∷ records) (far ∷ values) (ats ∷ named) = patches_of file r far ats ++ patches file records values named

-- the byte at an offset: 0 past the end
abbrev pub byte : List ℕ → ℕ → ℕ
byte bytes o = slice_index bytes o

-- Offset by offset: under a patch its byte, and else the old byte. (The first counts; those of a sound segment share no byte.)
abbrev pub image_at : List Patch → (ℕ → ℕ) → ℕ → ℕ
image_at [] old o = old o
image_at (p ∷ ps) old o = if nat_le p.at o && nat_lt o (p.at + length p.value) then slice_index p.value (o - p.at) else image_at ps old o

-- The bytes are the image of these: past the file's data zero, under a site its value's byte, else the file's byte.
abbrev pub IsImage : List ℕ → List Record → List Far → List (List ℕ) → List ℕ → Type 0
IsImage file records values named bytes = (o : ℕ) → byte bytes o ≡ image_at (patches file records values named) (byte file) o
