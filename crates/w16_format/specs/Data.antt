-- What an NE file gives to the objects of a module: the bytes of its segments, relocated, and of its resources.
use Rattle.std.specs.Prelude.{ℕ, ◌+◌, ◌%◌, List, [], map, take, drop, slice_index, Option, Some, None, Result, Ok, Err}
use Rattle.std.specs.List.{range_with_len}
use Rattle.w16_model.specs.Calls.{rounded_size}
use Rattle.w16_ne.specs.{declared.segment_table.Segment.Segment, Texts.text_in, Modules.Tables, Modules.imported_place}
use Rattle.w16_reloc.specs.declared.record.Record.TheVariants.{Stored, Added, System}
use Rattle.w16_reloc.specs.{declared.fault.RelocFault.RelocFault, declared.record.Record.Record, Segments.Held, Segments.checked, Segments.data_of, Naming.image_of}
use Rattle.w16_loading.specs.File.{Far, Target, SegmentData}
use Rattle.w16_ne.specs.Resources as ne_resources
use Rattle.w16_reloc.specs.declared.record.Target as pointing
use Rattle.w16_reloc.specs.declared.record.Target.TheVariants as points
use Rattle.w16_reloc.specs.declared.value.Far as words
use Rattle.w16_loading.specs.File as loading

-- where a target and a record point, by the text that stands at the offset of a name
abbrev pub target_by : (ℕ → List ℕ) → pointing.Target → Target
target_by text (points.Internal segment offset) = loading.Target.Internal segment offset
target_by text (points.Entry ordinal) = loading.Target.InternalEntry ordinal
target_by text (points.ByOrdinal reference ordinal) = loading.Target.Import reference ordinal
target_by text (points.ByName reference name) = loading.Target.ImportName reference (text name)

abbrev pub record_target : (ℕ → List ℕ) → Record → Target
record_target text (Stored fixup) = target_by text fixup.target
record_target text (Added fixup) = target_by text fixup.target
record_target text System = loading.Target.System

-- in the file of a module with these tables
abbrev pub target_of : List ℕ → Tables → Record → Target
target_of file tables = record_target (λ name. text_in file (imported_place tables + name))

-- a far pointer by the low words of its numbers
abbrev pub far_in : Far → words.Far
far_in far = record { selector = far.selector % 65536; offset = far.offset % 65536 }

abbrev pub far_of : words.Far → Far
far_of far = record { selector = far.selector; offset = far.offset }

-- the targets of a check, and its records: none where it fails
abbrev pub targets_in : List ℕ → Tables → Result Held RelocFault → Option (List Target)
targets_in file tables (Ok held) = Some (map (target_of file tables) held.records)
targets_in file tables (Err e) = None

abbrev pub records_in : Result Held RelocFault → List Record
records_in (Ok held) = held.records
records_in (Err e) = []

abbrev pub data_in : List ℕ → Tables → Segment → SegmentData
data_in file tables s = record {
  targets = targets_in file tables (checked file tables s);
  image = λ values. image_of (data_of file s) (records_in (checked file tables s)) (map far_in values) s.size;
}

-- so many bytes, zeros after those that are there
abbrev pub padded : List ℕ → ℕ → List ℕ
padded bytes size = map (λ o. slice_index bytes o) (range_with_len 0 size)

abbrev pub contents_in : List ℕ → ne_resources.Label × ne_resources.Entry → List ℕ
contents_in file r = padded (take r.1.len (drop r.1.place file)) (rounded_size r.1.len)
