-- A module's file as a whole, in which nothing is read: where each table lies that the module has.
use Rattle.w16_ne.specs
use Rattle.std.specs.Prelude.{◌≡◌, ◌<◌, ◌≤◌, ℕ, ◌+◌, ◌++◌, List, drop, length, take}
use specs.Header.{shift_of, entry_table, entry_length, segment_count, segment_table, resident_names, reference_count, reference_table, imported_names, nonresident_length, nonresident_names}
use specs.Names.{Entry, first_text}
use specs.HeaderFormat.{IsOldHeader, IsHeader, IsAccepted}
use specs.NamesFormat.{AreNames, AreListed}
use specs.{Modules.Tables, SegmentsFormat.IsSegmentTable, ReferencesFormat.IsReferenceTable, EntriesFormat.IsEntryTable, ResourcesFormat.HasResources}

-- so many bytes of a file at an offset, and that they are there; none are nowhere
abbrev pub part : List ℕ → ℕ → ℕ → List ℕ
part file at len = take len (drop at file)

abbrev pub IsPart : List ℕ → ℕ → ℕ → Type 0
IsPart file at len = 0 < len → at + len ≤ length file

-- The first resident name is the module's, and there is one; the first nonresident name is its description. The others are names of entries,
-- resident ones first.
pub record AreNamed (t : Tables) (resident nonresident : List Entry) : Type 0 where
  pub some : 0 < length resident
  pub name : t.name ≡ first_text resident
  pub description : t.description ≡ first_text nonresident
  pub names : t.names ≡ drop 1 resident ++ drop 1 nonresident
  pub many : t.resident ≡ length (drop 1 resident)

-- These are the tables of the file: it has such headers, and each table lies where the header says.
pub record IsModule (file : List ℕ) (t : Tables) : Type 0 where
  pub old : IsOldHeader file t.place
  pub header : IsHeader file t.place t.header
  pub accepted : IsAccepted t.header
  pub segments : IsSegmentTable file (shift_of t.header) (t.place + segment_table t.header) (segment_count t.header) t.segments
  pub resident : List Entry
  pub nonresident : List Entry
  pub resident_are : AreNames file (t.place + resident_names t.header) resident
  pub references : IsReferenceTable file (t.place + imported_names t.header) (t.place + reference_table t.header) (reference_count t.header) t.references
  pub entries_part : IsPart file (t.place + entry_table t.header) (entry_length t.header)
  pub entries : IsEntryTable (part file (t.place + entry_table t.header) (entry_length t.header)) (segment_count t.header) t.entries
  pub nonresident_part : IsPart file (nonresident_names t.header) (nonresident_length t.header)
  pub nonresident_are : AreListed (part file (nonresident_names t.header) (nonresident_length t.header)) 0 nonresident
  pub resources : HasResources file t.place t.header t.resources
  pub named : AreNamed t resident nonresident
