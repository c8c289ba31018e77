-- What a module file says, apart from how it says it: what the formats of files and relocations give to a load.
use Rattle.std.specs.Prelude.{◌≡◌, ℕ, ◌-◌, ◌<◌, ◌≤◌, Bool, false, ◌==◌, if◌then◌else◌, List, [], length, find, All, Option, None, unwrap_or, option_map, slice_get}
use Rattle.std.specs.List.{AllZip}
use Rattle.w16_model.specs.{declared.Kind.Kind, declared.TheConstants.GRAIN, Heap.IsMultiple}
use Rattle.w16_model.specs.Commands.{Label}
use Rattle.w16_model.specs.Commands.Label.{Number, Text}
use Rattle.w16_loading.specs.{Refusals.OrRefused, declared.TheConstants.LARGEST_OWNED}
use Rattle.w16_store.specs.Names.{is_named}
use base.Stored.{Gv}

-- a selector and an offset
pub record Far : Type 0 where
  pub selector : ℕ
  pub offset : ℕ

-- Tables. What is numbered in a file is numbered from 1.

-- a segment: its object's kind and size, whether it refuses writes, and whether a load gives it its bytes
pub record Segment : Type 0 where
  pub kind : Kind
  pub is_code : Bool
  pub is_preload : Bool
  pub size : ℕ

-- where an ordinal of the entry table leads
pub data Entry : Type 0 where
  InSegment : (number offset : ℕ) → Entry
  Constant : (value : ℕ) → Entry

-- a resource: the length is that in the file
pub record Resource : Type 0 where
  pub kind_of : Label
  pub label : Label
  pub length_in : ℕ
  pub kind : Kind

-- The tables of a file. What its format says beside them, such as where the file keeps each part, is one value, a tree of numbers: a module that is
-- loaded is asked for its parts by it, so a file that is read again has to say the same.
pub record Tables : Type 0 where
  pub name : List ℕ
  pub is_library : Bool
  pub segments : List Segment
  pub references : List (List ℕ)
  pub entries : List (Option Entry)
  pub names : List (List ℕ × ℕ)
  pub resources : List Resource
  pub layout : Gv

abbrev pub numbered : {X : Type 0} → List X → ℕ → Option X
numbered xs number = if number == 0 then None else slice_get xs (number - 1)

abbrev pub entry_at : Tables → ℕ → Option Entry
entry_at tables ordinal = unwrap_or (numbered tables.entries ordinal) None

-- of equal names the first counts, also where its ordinal has no entry
abbrev pub entry_named : Tables → List ℕ → Option Entry
entry_named tables name = unwrap_or (option_map (λ e. entry_at tables e.1) (find (λ e. is_named e.0 name) tables.names)) None

abbrev pub is_label : Label → Label → Bool
is_label (Number m) (Number n) = m == n
is_label (Text s) (Text t) = is_named s t
is_label other label = false

-- The whole file.

-- where a relocation record points
pub data Target : Type 0 where
  Internal : (number offset : ℕ) → Target
  InternalEntry : (ordinal : ℕ) → Target
  Import : (reference ordinal : ℕ) → Target
  ImportName : (reference : ℕ) (name : List ℕ) → Target
  -- a system fixup, which isn't applied
  System : Target

-- A segment's target for each relocation record, or none where its relocations aren't sound; and, given a value for each, the bytes of its
-- object.
pub record SegmentData : Type 0 where
  pub targets : Option (List Target)
  pub image : List Far → List ℕ

pub record ModuleFile : Type 0 where
  pub tables : Tables
  pub segments : List SegmentData

abbrev pub targets_of : SegmentData → List Target
targets_of s = unwrap_or s.targets []

-- what a file says, or why it isn't accepted
abbrev pub Saying : Type 0
Saying = List ℕ → OrRefused ModuleFile

-- A format: what files say; the bytes of the object of each resource of a file that is accepted, by its number: those of the file, and zeros
-- after them (a load doesn't read these); and as many bytes as are asked for of the object of a segment of a module with some tables, by the
-- segment's data, its table of relocation records, and a value for each: none where the records aren't sound in the data.
pub record Format : Type 0 where
  pub says : Saying
  pub contents : List ℕ → ℕ → Option (List ℕ)
  pub relocated : Tables → (source table : List ℕ) → List Far → (size : ℕ) → Option (List ℕ)

-- What a load relies on in a file that is accepted: as much data as there are segments, sizes and images that go together.
pub record IsSegmentData (segment : Segment) (s : SegmentData) : Type 0 where
  pub some : 0 < segment.size
  pub small : segment.size ≤ LARGEST_OWNED
  pub rounded : IsMultiple GRAIN segment.size
  pub image : (values : List Far) → (length (s.image values) ≡ segment.size) × All (λ b. b < 256) (s.image values)

pub record IsModuleFile (read : ModuleFile) : Type 0 where
  pub segments : AllZip IsSegmentData read.tables.segments read.segments
