-- What is printed of a file as a whole: the verdict, and the text and the JSON of its module, or its first fault.
use Rattle.std.specs.Prelude.{◌≡◌, ℕ, suc, Bool, Option, Some, None, Result, Ok, Err, List, [], ◌∷◌, ◌++◌, codes, decimal, if◌then◌else◌}
use Rattle.std.specs.List.{flat_map}
use Rattle.serde_json.specs.Data.{Data}
use Rattle.w16_ne.specs.{declared.segment_table.Segment.Segment, Modules.Tables, Modules.listed_resources, Modules.tables_at, declared.part.PartFault.PartFault}
use Rattle.w16_store.specs.Files.{file_of}
use Rattle.w16_reloc.specs.{declared.fault.RelocFault.RelocFault, Segments.Held, Segments.checked}
use Rattle.w16_show.specs.Text.{title_text, header_text, whole_segment, entry_text, name_text, reference_text, import_text, resource_text}
use Rattle.w16_show.specs.{declared.parts.Parts.Parts, declared.verdict.Unsound.Unsound, declared.verdict.Verdict.Verdict, Numbered.numbered, Words.line_end, Words.fault_text, Words.file_part_text, Words.unsound_text, Json.whole_json, Json.fault_json, Json.is_sound, Imports.imports}
use Rattle.w16_show.specs.declared.verdict.Verdict.TheVariants as verdict

-- A store has this file under the name, and these are the tables of its module.
pub record IsOpened (store : List (List ℕ × List ℕ)) (name file : List ℕ) (tables : Tables) : Type 0 where
  pub stored : file_of store name ≡ Some file
  pub accepted : tables_at (Some file) ≡ Ok tables

-- The first segment whose relocation records aren't sound, by its number, with their first fault.
abbrev pub this_or : ℕ → Result Held RelocFault → Option Unsound → Option Unsound
this_or n (Ok held) others = others
this_or n (Err fault) others = Some (record { segment = n; fault = fault })

abbrev pub first_unsound : List ℕ → Tables → ℕ → List Segment → Option Unsound
first_unsound file tables n [] = None
first_unsound file tables n (s ∷ ss) = this_or n (checked file tables s) (first_unsound file tables (suc n) ss)

abbrev pub verdict_on : Option Unsound → Verdict
verdict_on None = verdict.Sound
verdict_on (Some unsound) = verdict.NotSound unsound

-- The verdict on a file: its module is accepted and each segment sound, or the first fault with its part.
abbrev pub verdict_of : List ℕ → Result Tables PartFault → Verdict
verdict_of file (Ok tables) = verdict_on (first_unsound file tables 1 tables.segments)
verdict_of file (Err fault) = verdict.NotAccepted fault

abbrev pub verdict_text : Verdict → List ℕ
verdict_text verdict.Sound = codes "sound" ++ line_end
verdict_text (verdict.NotSound unsound) = codes "not sound: segment " ++ decimal unsound.segment ++ codes ", " ++ unsound_text unsound.fault ++ line_end
verdict_text (verdict.NotAccepted e) = codes "not accepted: " ++ file_part_text e.part ++ codes ": " ++ fault_text e.fault ++ line_end

-- a part of the text, where it is asked for
unfoldable pub part : Bool → List ℕ → List ℕ
part asked text = if asked then text else []

abbrev pub module_text : Parts → List ℕ → Tables → List ℕ
module_text parts file tables =
    part parts.header (header_text tables.place tables.header)
    ++ part parts.segments (numbered (whole_segment file tables) 1 tables.segments)
    ++ part parts.entries (numbered entry_text 1 tables.entries ++ numbered (name_text tables.resident) 0 tables.names)
    ++ part parts.references (numbered reference_text 1 tables.references ++ flat_map (import_text file tables) (imports file tables))
    ++ part parts.resources (numbered resource_text 1 (listed_resources tables.resources))

-- The text of a file: its title, what is asked for of its module, and the verdict. Of a file that isn't accepted there is its fault alone.
abbrev pub text_of : Parts → List ℕ → List ℕ → Result Tables PartFault → List ℕ
text_of parts name file (Ok tables) = title_text name tables ++ module_text parts file tables ++ verdict_text (verdict_of file (Ok tables))
text_of parts name file (Err fault) = name ++ codes ": " ++ verdict_text (verdict.NotAccepted fault)

-- The JSON of a file, and of one that isn't accepted its fault alone.
abbrev pub json_of : List ℕ → List ℕ → Result Tables PartFault → Data
json_of name file (Ok tables) = whole_json name file tables (is_sound (verdict_of file (Ok tables)))
json_of name file (Err fault) = fault_json name fault
