-- What is printed of a module as JSON: objects, whose members stand in the order of their keys.
use Rattle.std.specs.Prelude.{ℕ, Bool, true, false, Option, Some, None, Result, Ok, Err, List, [], ◌∷◌, ◌++◌, codes, decimal, map, nat_lt, unwrap_or, option_map, slice_index}
use Rattle.serde_json.specs.Data.{Data, null, boolean, number, unsigned, string, array, no_items, item, object, no_members, member}
use Rattle.serde_json.specs.View.{items_of}
use Rattle.w16_ne.specs.declared.entry_table.Entry.TheVariants.{InSegment, Constant}
use Rattle.w16_ne.specs.declared.segment_table.Segment.{Segment}
use Rattle.w16_ne.specs.{declared.entry_table.Entry.Entry, declared.part.PartFault.PartFault, Header.flags_of, Header.is_library, Header.shift_of, Header.target_of, Modules.Tables, Modules.listed_resources, Reading.word_of, Resources.Label, Resources.Number, Resources.Text}
use Rattle.w16_reloc.specs.declared.record.Record.TheVariants.{Stored, Added, System}
use Rattle.w16_reloc.specs.{declared.fault.RelocFault.RelocFault, declared.record.Fixup.Fixup, declared.record.Record.Record, declared.record.Target.Target, Naming.offsets_of, Segments.Held, Segments.checked}
use Rattle.w16_show.specs.Words.{characters, fault_text, file_part_text, unsound_text, part_text, kind_name}
use Rattle.w16_show.specs.{declared.verdict.Verdict.Verdict, Numbered.numbered, Imports.imports, Text.reference_name, Text.imported_name}
use Rattle.w16_ne.specs.Resources as resources
use Rattle.w16_reloc.specs.declared.record.Target.TheVariants as target
use Rattle.w16_show.specs.declared.verdict.Verdict.TheVariants as verdict

-- a number; a text of these bytes, each a character of its code; a list
abbrev pub n : ℕ → Data
n x = number (unsigned x)

abbrev pub text : List ℕ → Data
text bytes = string (characters bytes)

abbrev pub list : List Data → Data
list items = array (items_of items)

abbrev pub pair : ℕ → ℕ → Data
pair a b = array (item (n a) (item (n b) no_items))

-- a header's fields, by what they are about
unfoldable pub sizes_json : List ℕ → Data
sizes_json header = object
    (member (codes "automatic_data") (n (word_of header 0x0e)) (member (codes "heap") (n (word_of header 0x10)) (member (codes "stack") (n (word_of header 0x12)) no_members)))

unfoldable pub start_json : List ℕ → Data
start_json header = object
    (member (codes "entry") (pair (word_of header 0x16) (word_of header 0x14)) (member (codes "stack_top") (pair (word_of header 0x1a) (word_of header 0x18)) no_members))

unfoldable pub fields_json : List ℕ → Data
fields_json header = object
    (member (codes "flags") (n (flags_of header)) (member (codes "linker") (pair (slice_index header 2) (slice_index header 3))
    (member (codes "shift") (n (shift_of header)) (member (codes "sizes") (sizes_json header) (member (codes "start") (start_json header)
    (member (codes "target") (n (target_of header)) (member (codes "version") (pair (slice_index header 0x3f) (slice_index header 0x3e)) no_members)))))))

unfoldable pub header_json : Tables → Data
header_json tables = object
    (member (codes "description") (text tables.description) (member (codes "fields") (fields_json tables.header)
    (member (codes "library") (boolean (is_library tables.header)) (member (codes "name") (text tables.name) (member (codes "place") (n tables.place) no_members)))))

-- where a relocation record points
abbrev pub target_json : List ℕ → Tables → Target → Data
target_json file tables (target.Internal segment offset) = object (member (codes "offset") (n offset) (member (codes "segment") (n segment) no_members))
target_json file tables (target.Entry ordinal) = object (member (codes "ordinal") (n ordinal) no_members)
target_json file tables (target.ByOrdinal reference ordinal) = object (member (codes "module") (text (reference_name tables reference)) (member (codes "ordinal") (n ordinal) no_members))
target_json file tables (target.ByName reference name) =
    object (member (codes "module") (text (reference_name tables reference)) (member (codes "name") (text (imported_name file tables name)) no_members))

abbrev pub fixup_json : List ℕ → Tables → List ℕ → Bool → Fixup → Data
fixup_json file tables sites add fixup = object
    (member (codes "add") (boolean add) (member (codes "part") (string (part_text fixup.part)) (member (codes "sites") (list (map n sites))
    (member (codes "target") (target_json file tables fixup.target) no_members))))

abbrev pub relocation_json : List ℕ → Tables → List ℕ → Record → Data
relocation_json file tables bytes (Stored fixup) = fixup_json file tables (offsets_of bytes (Stored fixup)) false fixup
relocation_json file tables bytes (Added fixup) = fixup_json file tables (offsets_of bytes (Added fixup)) true fixup
relocation_json file tables bytes System = object (member (codes "system") (boolean true) no_members)

-- a segment with its records, or with their first fault and none of them
abbrev pub segment_object : ℕ → Segment → Data → List Data → Data
segment_object i s fault records = object
    (member (codes "fault") fault (member (codes "flags") (n s.flags.0) (member (codes "length") (n s.len) (member (codes "number") (n i)
    (member (codes "object") (n s.size) (member (codes "place") (n s.place) (member (codes "relocations") (list records) no_members)))))))

-- the text of a sound segment up to its records
abbrev pub segment_front : ℕ → Segment → List ℕ
segment_front i s =
    codes "{\"fault\":null,\"flags\":" ++ (decimal s.flags.0 ++ (codes ",\"length\":" ++ (decimal s.len ++ (codes ",\"number\":" ++ (decimal i
    ++ (codes ",\"object\":" ++ (decimal s.size ++ (codes ",\"place\":" ++ (decimal s.place ++ codes ",\"relocations\":")))))))))

abbrev pub segment_said : List ℕ → Tables → ℕ → Segment → Result Held RelocFault → Data
segment_said file tables i s (Ok held) = segment_object i s null (map (relocation_json file tables held.bytes) held.records)
segment_said file tables i s (Err fault) = segment_object i s (string (unsound_text fault)) []

abbrev pub segment_json : List ℕ → Tables → ℕ → Segment → List Data
segment_json file tables i s = segment_said file tables i s (checked file tables s) ∷ []

-- an ordinal, and where it leads; nothing where it has no entry
abbrev pub entry_object : ℕ → Entry → Data
entry_object ordinal (InSegment segment offset) = object (member (codes "offset") (n offset) (member (codes "ordinal") (n ordinal) (member (codes "segment") (n segment) no_members)))
entry_object ordinal (Constant value) = object (member (codes "constant") (n value) (member (codes "ordinal") (n ordinal) no_members))

abbrev pub entry_json : ℕ → Option Entry → List Data
entry_json ordinal None = []
entry_json ordinal (Some entry) = entry_object ordinal entry ∷ []

abbrev pub name_object : ℕ → ℕ → List ℕ × ℕ → Data
name_object resident i name = object (member (codes "name") (text name.0) (member (codes "ordinal") (n name.1) (member (codes "resident") (boolean (nat_lt i resident)) no_members)))

abbrev pub name_json : ℕ → ℕ → List ℕ × ℕ → List Data
name_json resident i name = name_object resident i name ∷ []

abbrev pub reference_json : ℕ → List ℕ → List Data
reference_json i name = text name ∷ []

abbrev pub label_json : Label → Data
label_json (Number x) = n x
label_json (Text bytes) = text bytes

abbrev pub kind_json : Label → Data
kind_json (Number x) = unwrap_or (option_map string (kind_name x)) null
kind_json (Text bytes) = null

abbrev pub resource_object : Label × resources.Entry → Data
resource_object r = object
    (member (codes "flags") (n r.1.flags) (member (codes "id") (label_json r.1.id) (member (codes "length") (n r.1.len) (member (codes "place") (n r.1.place)
    (member (codes "type") (label_json r.0) (member (codes "type_name") (kind_json r.0) no_members))))))

abbrev pub resource_json : ℕ → Label × resources.Entry → List Data
resource_json i r = resource_object r ∷ []

abbrev pub is_sound : Verdict → Bool
is_sound verdict.Sound = true
is_sound other = false

unfoldable pub module_json : List ℕ → Tables → Data
module_json file tables = object
    (member (codes "entries") (list (numbered entry_json 1 tables.entries))
    (member (codes "header") (header_json tables)
    (member (codes "imports") (list (map (target_json file tables) (imports file tables)))
    (member (codes "names") (list (numbered (name_json tables.resident) 0 tables.names))
    (member (codes "references") (list (numbered reference_json 1 tables.references))
    (member (codes "resources") (list (numbered resource_json 1 (listed_resources tables.resources)))
    (member (codes "segments") (list (numbered (segment_json file tables) 1 tables.segments)) no_members)))))))

abbrev pub whole_json : List ℕ → List ℕ → Tables → Bool → Data
whole_json name file tables sound = object
    (member (codes "fault") null (member (codes "file") (string name) (member (codes "module") (module_json file tables) (member (codes "sound") (boolean sound) no_members))))

abbrev pub fault_json : List ℕ → PartFault → Data
fault_json name e = object
    (member (codes "fault") (string (fault_text e.fault)) (member (codes "file") (string name) (member (codes "part") (string (file_part_text e.part)) no_members)))
