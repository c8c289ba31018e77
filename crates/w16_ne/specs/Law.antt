-- What the definitions of the format come to.
use Rattle.std.specs.Prelude.{◌≡◌, ◌↔◌, ◌⊎◌, ℕ, ◌+◌, ◌++◌, List, map, Option, Some, Ok, Err}
use Rattle.w16_ne.specs.{declared.fault.NeFault.NeFault, declared.segment_table.Segment.Segment, Header.segment_table, Header.segment_count, Header.shift_of, Segments.segments_at, Names.Entry, Names.names_at, Modules.Tables, Modules.tables_at, Parts.parts_at}
use Rattle.w16_ne.specs.{Parts.without_part, Entries.entries_in, NamesFormat.AreNames, SegmentsFormat.IsSegmentTable, EntriesFormat.IsEntryTable, ModuleFormat.IsModule}
use Rattle.w16_ne.specs.declared.entry_table.Entry as entries
use Rattle.w16_ne.specs.declared.fault.NeFault.TheVariants as faults

-- a table of names is read exactly where its bytes are names and a 0
abbrev pub NamesFormatLaw : Type 0
NamesFormatLaw = (file : List ℕ) (at : ℕ) (names : List Entry) → names_at (Some file) at ≡ Ok names ↔ AreNames file at names

-- the segment table is read exactly where it is
abbrev pub SegmentsFormatLaw : Type 0
SegmentsFormatLaw = (file header : List ℕ) (ne : ℕ) (segments : List Segment) → segments_at (Some file) ne header ≡ Ok segments
    ↔ IsSegmentTable file (shift_of header) (ne + segment_table header) (segment_count header) segments

-- and so are the entries of a table's bytes
abbrev pub EntriesFormatLaw : Type 0
EntriesFormatLaw = (table : List ℕ) (segments : ℕ) (es : List (Option entries.Entry)) → entries_in table segments ≡ Ok es ↔ IsEntryTable table segments es

-- and so is a module as a whole
abbrev pub ModuleFormatLaw : Type 0
ModuleFormatLaw = (file : List ℕ) (tables : Tables) → tables_at (Some file) ≡ Ok tables ↔ IsModule file tables

-- a file has one module, or one fault and then none
abbrev pub OneModuleLaw : Type 0
OneModuleLaw = (file : List ℕ) → ((t : Tables) × (IsModule file t) × ((u : Tables) → IsModule file u → u ≡ t))
    ⊎ ((e : NeFault) × (tables_at (Some file) ≡ Err e) × ((t : Tables) → IsModule file t → ⊥))

-- a fault that is told with its part is the file's first fault
abbrev pub PartsLaw : Type 0
PartsLaw = (file : Option (List ℕ)) → without_part (parts_at file) ≡ tables_at file

-- a fault that a file may have because it ends too early
abbrev pub IsOfEnd : NeFault → Type 0
IsOfEnd faults.NotMz = Unit {0}
IsOfEnd faults.NotNe = Unit {0}
IsOfEnd faults.Truncated = Unit {0}
IsOfEnd faults.BadTable = Unit {0}
IsOfEnd fault = ⊥

-- a front of a file that is accepted says the same, or ends too early
abbrev pub FrontLaw : Type 0
FrontLaw = (file more : List ℕ) (tables : Tables) → tables_at (Some (file ++ more)) ≡ Ok tables
    → (tables_at (Some file) ≡ Ok tables) ⊎ ((e : NeFault) × (tables_at (Some file) ≡ Err e) × IsOfEnd e)
