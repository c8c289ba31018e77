-- A module file as a whole: its tables, or its first fault.
use Rattle.w16_ne.specs
use Rattle.std.specs.Prelude.{ℕ, zero, suc, ◌+◌, ◌++◌, List, drop, length, Option, None, Ok, map, slice_get, slice_index_or}
use Rattle.std.specs.List.{flat_map}
use specs.declared.segment_table.Segment.{Segment}
use specs.Header.{place_at, header_at, fields_of, imported_names}
use specs.Resources.{Label, Typed, resources_at}
use specs.{declared.entry_table.Entry.Entry, Reading.Reading, Reading.◌>>=◌, Segments.segments_at, Names.first_text, Names.resident_at, Names.nonresident_at, References.references_at, Entries.table_at}
use Rattle.w16_ne.specs.Names as names
use Rattle.w16_ne.specs.Resources as resources

-- what a module's file says
pub record Tables : Type 0 where
  -- the header's offset in the file
  pub place : ℕ
  pub header : List ℕ
  pub name : List ℕ
  pub description : List ℕ
  -- the names of entries with their ordinals, and how many of them are resident: those that stand first
  pub names : List names.Entry
  pub resident : ℕ
  pub segments : List Segment
  pub references : List (List ℕ)
  -- the first has ordinal 1
  pub entries : List (Option Entry)
  pub resources : List Typed

-- The first resident name is the module's, and the first nonresident one its description. The others are names of entries, resident ones first.
abbrev pub tables_of : ℕ → List ℕ → List Segment → List names.Entry → List (List ℕ) → List (Option Entry) → List names.Entry → List Typed → Tables
tables_of place header segments resident references entries nonresident resources = record {
  place = place;
  header = header;
  name = first_text resident;
  description = first_text nonresident;
  names = drop 1 resident ++ drop 1 nonresident;
  resident = length (drop 1 resident);
  segments = segments;
  references = references;
  entries = entries;
  resources = resources;
}

-- the tables after a header
unfoldable pub tables_behind : Option (List ℕ) → ℕ → List ℕ → Reading Tables
tables_behind file ne header = do
  segments ← segments_at file ne header
  resident ← resident_at file ne header
  references ← references_at file ne header
  entries ← table_at file ne header
  nonresident ← nonresident_at file header
  resources ← resources_at file ne header
  Ok (tables_of ne header segments resident references entries nonresident resources)

-- The parts are tested in this order, and the first fault counts.
unfoldable pub tables_at : Option (List ℕ) → Reading Tables
tables_at file = do
  ne ← place_at file
  header ← header_at file ne
  _ ← fields_of header
  tables_behind file ne header

-- where the imported names begin in the file: their offset counts from the header
abbrev pub imported_place : Tables → ℕ
imported_place tables = tables.place + imported_names tables.header

-- where an ordinal leads, from 1; none where it has no entry
abbrev pub entry_at : List (Option Entry) → ℕ → Option Entry
entry_at entries zero = None
entry_at entries (suc i) = slice_index_or entries i None

-- the resources with their types, in the table's order, and the one of a place from 1
abbrev pub listed_resources : List Typed → List (Label × resources.Entry)
listed_resources types = flat_map (λ t. map (λ r. (t.0, r)) t.1) types

abbrev pub resource_at : List Typed → ℕ → Option (Label × resources.Entry)
resource_at types zero = None
resource_at types (suc i) = slice_get (listed_resources types) i
