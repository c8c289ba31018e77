-- What is printed of a module as text, line by line.
use Rattle.std.specs.Prelude.{ℕ, ◌+◌, ◌-◌, Bool, Option, Some, None, Result, Ok, Err, List, [], ◌++◌, codes, decimal, ◌==◌, nat_lt, if◌then◌else◌, length, slice_index, slice_index_or, unwrap_or}
use Rattle.std.specs.List.{flat_map}
use Rattle.w16_ne.specs.declared.entry_table.Entry.TheVariants.{InSegment, Constant}
use Rattle.w16_ne.specs.declared.segment_table.Segment.{Segment}
use Rattle.w16_ne.specs.{declared.entry_table.Entry.Entry, Header.flags_of, Header.is_library, Header.shift_of, Header.target_of, Modules.Tables, Modules.imported_place, Reading.word_of, Texts.text_in, Resources.Label, Resources.Number, Resources.Text}
use Rattle.w16_reloc.specs.declared.record.Record.TheVariants.{Stored, Added, System}
use Rattle.w16_reloc.specs.{declared.fault.RelocFault.RelocFault, declared.record.Fixup.Fixup, declared.record.Record.Record, declared.record.Target.Target, Naming.offsets_of, Segments.Held, Segments.checked}
use Rattle.w16_show.specs.Words.{line_end, hex, escaped, flag_text, unsound_text, part_text, kind_name}
use Rattle.w16_ne.specs.Resources as resources
use Rattle.w16_reloc.specs.declared.record.Target.TheVariants as target

-- the first line: the file, and which module it has
unfoldable pub front_text : List ℕ → Bool → List ℕ
front_text name library = name ++ codes ": " ++ (if library then codes "library " else codes "application ")

unfoldable pub description_text : List ℕ → List ℕ
description_text text = if length text == 0 then [] else codes ", described as " ++ escaped text

abbrev pub title_text : List ℕ → Tables → List ℕ
title_text name tables = front_text name (is_library tables.header) ++ escaped tables.name ++ description_text tables.description ++ line_end

-- The header's fields, by their offsets: linker's version at 2, automatic data's segment at 0E, the sizes of heap and stack at 10 and 12, the
-- entry point at 14, the stack's top at 18, Windows' version at 3E (volume 4).
unfoldable pub linker_text : ℕ → List ℕ → List ℕ
linker_text place header = codes "header at " ++ hex 8 place ++ codes ": linker " ++ decimal (slice_index header 2) ++ codes "." ++ decimal (slice_index header 3)

unfoldable pub heap_text : ℕ → ℕ → List ℕ
heap_text heap stack = codes ", heap " ++ hex 4 heap ++ codes ", stack " ++ hex 4 stack

unfoldable pub far_text : ℕ → ℕ → List ℕ
far_text segment offset = decimal segment ++ codes ":" ++ hex 4 offset

unfoldable pub sizes_text : ℕ → ℕ → ℕ → List ℕ
sizes_text automatic heap stack = codes ", dgroup " ++ decimal automatic ++ heap_text heap stack

unfoldable pub entry_point : ℕ → ℕ → List ℕ
entry_point segment offset = codes ", cs:ip " ++ far_text segment offset

unfoldable pub stack_top : ℕ → ℕ → List ℕ
stack_top segment offset = codes ", ss:sp " ++ far_text segment offset

unfoldable pub words_text : List ℕ → List ℕ
words_text header =
    sizes_text (word_of header 0x0e) (word_of header 0x10) (word_of header 0x12) ++ entry_point (word_of header 0x16) (word_of header 0x14)
    ++ stack_top (word_of header 0x1a) (word_of header 0x18)

unfoldable pub versions_text : List ℕ → List ℕ
versions_text header =
    codes ", shift " ++ decimal (shift_of header) ++ codes ", target " ++ decimal (target_of header)
    ++ codes ", version " ++ decimal (slice_index header 0x3f) ++ codes "." ++ decimal (slice_index header 0x3e)

unfoldable pub header_flags : ℕ → List ℕ
header_flags flags =
    codes ", flags " ++ hex 4 flags ++ flag_text flags 0x0001 (codes "singledata") ++ flag_text flags 0x0002 (codes "multipledata")
    ++ flag_text flags 0x8000 (codes "library") ++ line_end

abbrev pub header_text : ℕ → List ℕ → List ℕ
header_text place header = linker_text place header ++ words_text header ++ versions_text header ++ header_flags (flags_of header)

-- the words of a segment's flags: what it is in memory, and what else is said of it
unfoldable pub memory_words : ℕ → List ℕ
memory_words flags =
    flag_text flags 0x0001 (codes "data") ++ flag_text flags 0x0010 (codes "moveable") ++ flag_text flags 0x0020 (codes "shareable")
    ++ flag_text flags 0x0040 (codes "preload")

unfoldable pub segment_words : ℕ → List ℕ
segment_words flags =
    memory_words flags ++ flag_text flags 0x0080 (codes "protected") ++ flag_text flags 0x0100 (codes "relocations") ++ flag_text flags 0x1000 (codes "discardable")

unfoldable pub data_text : ℕ → Segment → List ℕ
data_text n s = codes "segment " ++ decimal n ++ codes ": place " ++ hex 8 s.place ++ codes ", length " ++ hex 5 s.len

unfoldable pub object_text : Segment → List ℕ
object_text s = codes ", object " ++ hex 5 s.size ++ codes ", flags " ++ hex 4 s.flags.0

abbrev pub segment_text : ℕ → Segment → List ℕ
segment_text n s = data_text n s ++ object_text s ++ segment_words s.flags.0 ++ line_end

-- the name of a reference, by its number from 1, and an imported name, by its offset
abbrev pub reference_name : Tables → ℕ → List ℕ
reference_name tables n = if n == 0 then [] else slice_index_or tables.references (n - 1) []

abbrev pub imported_name : List ℕ → Tables → ℕ → List ℕ
imported_name file tables offset = text_in file (imported_place tables + offset)

-- where a relocation record points
unfoldable pub target_text : List ℕ → Tables → Target → List ℕ
target_text file tables (target.Internal segment offset) = decimal segment ++ codes ":" ++ hex 4 offset
target_text file tables (target.Entry ordinal) = codes "entry " ++ decimal ordinal
target_text file tables (target.ByOrdinal reference ordinal) = escaped (reference_name tables reference) ++ codes " #" ++ decimal ordinal
target_text file tables (target.ByName reference name) = escaped (reference_name tables reference) ++ codes " " ++ escaped (imported_name file tables name)

abbrev pub site_text : ℕ → List ℕ
site_text offset = codes " " ++ hex 4 offset

abbrev pub fixup_text : List ℕ → Tables → List ℕ → List ℕ → Fixup → List ℕ
fixup_text file tables sites sign fixup = codes " " ++ flat_map site_text sites ++ codes " " ++ part_text fixup.part ++ sign ++ target_text file tables fixup.target ++ line_end

-- A record: each site of its chain, what is written there, and of which target. A sum has a `+`.
abbrev pub relocation_text : List ℕ → Tables → List ℕ → Record → List ℕ
relocation_text file tables bytes (Stored fixup) = fixup_text file tables (offsets_of bytes (Stored fixup)) (codes " = ") fixup
relocation_text file tables bytes (Added fixup) = fixup_text file tables (offsets_of bytes (Added fixup)) (codes " + ") fixup
relocation_text file tables bytes System = codes "  system" ++ line_end

-- the records of a segment, or why they aren't sound
abbrev pub relocations_text : List ℕ → Tables → Result Held RelocFault → List ℕ
relocations_text file tables (Ok held) = flat_map (relocation_text file tables held.bytes) held.records
relocations_text file tables (Err fault) = codes "  " ++ unsound_text fault ++ line_end

abbrev pub whole_segment : List ℕ → Tables → ℕ → Segment → List ℕ
whole_segment file tables n s = segment_text n s ++ relocations_text file tables (checked file tables s)

-- an ordinal, and where it leads; nothing where it has no entry
unfoldable pub entry_text : ℕ → Option Entry → List ℕ
entry_text n None = []
entry_text n (Some (InSegment segment offset)) = codes "entry " ++ decimal n ++ codes ": " ++ decimal segment ++ codes ":" ++ hex 4 offset ++ line_end
entry_text n (Some (Constant value)) = codes "entry " ++ decimal n ++ codes ": constant " ++ hex 4 value ++ line_end

-- a name of an entry by its number from 0: the resident ones come first
unfoldable pub standing_text : Bool → List ℕ
standing_text resident = if resident then codes "resident name " else codes "nonresident name "

unfoldable pub name_text : ℕ → ℕ → List ℕ × ℕ → List ℕ
name_text resident n name = standing_text (nat_lt n resident) ++ escaped name.0 ++ codes ": entry " ++ decimal name.1 ++ line_end

unfoldable pub reference_text : ℕ → List ℕ → List ℕ
reference_text n name = codes "reference " ++ decimal n ++ codes ": " ++ escaped name ++ line_end

-- what is imported from a module that is referred to
abbrev pub import_text : List ℕ → Tables → Target → List ℕ
import_text file tables import = codes "import " ++ target_text file tables import ++ line_end

-- a type or an id of resources: its number, or its text in quotes
unfoldable pub label_text : Label → List ℕ
label_text (Number n) = codes "#" ++ decimal n
label_text (Text text) = codes "\"" ++ escaped text ++ codes "\""

-- a type that the manual names is printed by this name
unfoldable pub kind_text : Label → List ℕ
kind_text (Number n) = unwrap_or (kind_name n) (label_text (Number n))
kind_text (Text text) = label_text (Text text)

unfoldable pub resource_words : ℕ → List ℕ
resource_words flags = flag_text flags 0x0010 (codes "moveable") ++ flag_text flags 0x0020 (codes "pure") ++ flag_text flags 0x0040 (codes "preload") ++ flag_text flags 0x1000 (codes "discardable")

unfoldable pub place_text : resources.Entry → List ℕ
place_text r = codes ", place " ++ hex 8 r.place ++ codes ", length " ++ hex 8 r.len ++ codes ", flags " ++ hex 4 r.flags

unfoldable pub labels_text : ℕ → Label → Label → List ℕ
labels_text n kind id = (codes "resource " ++ decimal n ++ codes ": type ") ++ kind_text kind ++ codes ", id " ++ label_text id

unfoldable pub resource_text : ℕ → Label × resources.Entry → List ℕ
resource_text n r = labels_text n r.0 r.1.id ++ place_text r.1 ++ resource_words r.1.flags ++ line_end
