-- The tables of an NE file as a load takes them.
use Rattle.std.specs.Prelude.{ℕ, map, option_map, Bool, true, not, ◌==◌, if◌then◌else◌, bit_and}
use Rattle.w16_model.specs.declared.Kind.{Kind}
use Rattle.w16_model.specs.declared.Kind.TheVariants.{Fixed, Moveable, Discardable}
use Rattle.w16_ne.specs.{Header.is_library, Modules.listed_resources}
use Rattle.w16_format.specs.Layout.{layout_of}
use Rattle.w16_loading.specs.{File.Segment, File.Entry, File.Resource, File.Tables, File.Entry.InSegment, File.Entry.Constant}
use Rattle.w16_model.specs.Commands.{Label}
use Rattle.w16_model.specs.Commands.Label.{Number, Text}
use Rattle.w16_ne.specs.declared.segment_table.Segment as ne_segment
use Rattle.w16_ne.specs.declared.entry_table.Entry as ne_entry
use Rattle.w16_ne.specs.declared.entry_table.Entry.TheVariants as ne_entries
use Rattle.w16_ne.specs.Resources as ne_resources
use Rattle.w16_ne.specs.Modules as ne

abbrev pub has : ℕ → ℕ → Bool
has flags flag = not (bit_and flags flag == 0)

-- data has flag 0001
abbrev pub is_code_flags : ℕ → Bool
is_code_flags flags = bit_and flags 1 == 0

-- code and resources: discardable with flags 0010 and 1000, moveable with 0010, else fixed; data are never discardable (profile)
abbrev pub kind_of_flags : ℕ → Bool → Kind
kind_of_flags flags can_go = if has flags 0x10 then (if can_go then (if has flags 0x1000 then Discardable else Moveable) else Moveable) else Fixed

abbrev pub segment_in : ne_segment.Segment → Segment
segment_in s = record { kind = kind_of_flags s.flags.0 (is_code_flags s.flags.0); is_code = is_code_flags s.flags.0; is_preload = has s.flags.0 0x40; size = s.size }

abbrev pub entry_in : ne_entry.Entry → Entry
entry_in (ne_entries.InSegment segment offset) = InSegment segment offset
entry_in (ne_entries.Constant value) = Constant value

abbrev pub label_in : ne_resources.Label → Label
label_in (ne_resources.Number value) = Number value
label_in (ne_resources.Text text) = Text text

abbrev pub resource_in : ne_resources.Label × ne_resources.Entry → Resource
resource_in r = record { kind_of = label_in r.0; label = label_in r.1.id; length_in = r.1.len; kind = kind_of_flags r.1.flags true }

abbrev pub tables_in : ne.Tables → Tables
tables_in t = record {
  name = t.name;
  is_library = is_library t.header;
  segments = map segment_in t.segments;
  references = t.references;
  entries = map (option_map entry_in) t.entries;
  names = t.names;
  resources = map resource_in (listed_resources t.resources);
  layout = layout_of t;
}
