-- How numbers, bytes and flags are printed, and the words for what has no text of its own.
use Rattle.std.specs.Prelude.{◌≡◌, ℕ, ◌^◌, ◌-◌, Option, Some, None, Result, OnOk, List, [], ◌∷◌, ◌++◌, codes, false, ◌==◌, ◌||◌, nat_lt, decimal, if◌then◌else◌, bit_and}
use Rattle.std.specs.{Char.encode_utf8, Io.KnownBytes.Appends, Fmt.digits, Fmt.padded_integral, Fmt.format_spec, List.flat_map, declared.alloc.AllocError.AllocError}
use Rattle.w16_ne.specs.{declared.fault.NeFault.NeFault, declared.part.FilePart.FilePart}
use Rattle.w16_reloc.specs.declared.record.Part.TheVariants.{LowByte, Selector, Pointer, Offset}
use Rattle.w16_reloc.specs.{declared.fault.RelocFault.RelocFault, declared.record.Part.Part}
use Rattle.w16_ne.specs.declared.fault.NeFault.TheVariants as files
use Rattle.w16_ne.specs.declared.part.FilePart.TheVariants as parts
use Rattle.w16_reloc.specs.declared.fault.RelocFault.TheVariants as relocs

-- A call that answers `Ok` has put this text after what was there.
abbrev pub Adds : Result (Unit {0}) AllocError → List ℕ → List ℕ → List ℕ → Type 0
Adds result old new text = OnOk result (new ≡ old ++ text)

-- A call that answers `Ok` has sent this text to a writer, where it is known what that holds.
abbrev pub Sends : {E : Type 0} → Result (Unit {0}) E → Option (List ℕ) → Option (List ℕ) → List ℕ → Type 0
Sends result held holds text = OnOk result (Appends held holds text)

abbrev pub line_end : List ℕ
line_end = 10 ∷ []

-- a number in hexadecimal, with zeros in front up to so many digits
abbrev pub hex : ℕ → ℕ → List ℕ
hex width n = padded_integral (format_spec 32 0 4 width (2 ^ 64 - 1)) false [] (digits 16 false n)

-- Bytes as text: what ASCII prints as it is, but for quotes and backslashes, and any other byte by its code, so that no name begins a line.
unfoldable pub byte_text : ℕ → List ℕ
byte_text b = if nat_lt b 32 || nat_lt 126 b || b == 34 || b == 92 then codes "\\x" ++ hex 2 b else b ∷ []

abbrev pub escaped : List ℕ → List ℕ
escaped bytes = flat_map byte_text bytes

-- bytes as characters of the same codes, which is exact, and which JSON asks for
abbrev pub characters : List ℕ → List ℕ
characters bytes = flat_map encode_utf8 bytes

-- a flag's word, where the flag is set
unfoldable pub flag_text : ℕ → ℕ → List ℕ → List ℕ
flag_text flags bit word = if bit_and flags bit == 0 then [] else 32 ∷ word

-- the first fault of a file
unfoldable pub fault_text : NeFault → List ℕ
fault_text files.NotMz = codes "not a program"
fault_text files.NotNe = codes "not a segmented program"
fault_text (files.Target system) = codes "for target system " ++ decimal system
fault_text files.Unsupported = codes "unsupported"
fault_text files.Truncated = codes "truncated"
fault_text files.BadTable = codes "bad table"
fault_text (files.Store e) = codes "not read"
fault_text files.OutOfMemory = codes "out of memory"

-- the part of a file that the fault is in
unfoldable pub file_part_text : FilePart → List ℕ
file_part_text parts.OldHeader = codes "old header"
file_part_text parts.Header = codes "header"
file_part_text parts.SegmentTable = codes "segments"
file_part_text parts.ResidentNames = codes "resident names"
file_part_text parts.References = codes "references"
file_part_text parts.EntryTable = codes "entries"
file_part_text parts.NonresidentNames = codes "nonresident names"
file_part_text parts.ResourceTable = codes "resources"

-- the first fault of a segment's relocation records
unfoldable pub unsound_text : RelocFault → List ℕ
unsound_text relocs.BadRecord = codes "bad record"
unsound_text relocs.SiteOutside = codes "site outside the data"
unsound_text relocs.Overlap = codes "sites overlap"
unsound_text (relocs.Store e) = codes "not read"

-- what of its target a relocation record writes
unfoldable pub part_text : Part → List ℕ
part_text LowByte = codes "byte"
part_text Selector = codes "selector"
part_text Pointer = codes "pointer"
part_text Offset = codes "offset"

-- the manual's names for types of resources (volume 4)
abbrev pub kind_name : ℕ → Option (List ℕ)
kind_name kind =
    if kind == 1 then Some (codes "CURSOR") else if kind == 2 then Some (codes "BITMAP") else if kind == 3 then Some (codes "ICON") else
    if kind == 4 then Some (codes "MENU") else if kind == 5 then Some (codes "DIALOG") else if kind == 6 then Some (codes "STRING") else
    if kind == 7 then Some (codes "FONTDIR") else if kind == 8 then Some (codes "FONT") else if kind == 9 then Some (codes "ACCELERATOR") else
    if kind == 10 then Some (codes "RCDATA") else if kind == 12 then Some (codes "GROUP_CURSOR") else if kind == 14 then Some (codes "GROUP_ICON") else
    if kind == 16 then Some (codes "VERSION") else None
