-- NE files as a format.
use Rattle.std.specs.Prelude.{ℕ, Bool, nat_le, nat_lt, List, [], length, map, ◌==◌, if◌then◌else◌, Option, Some, None, option_map, Result, Ok, Err}
use Rattle.std.specs.List.{list_all}
use Rattle.w16_ne.specs.{declared.fault.NeFault.NeFault, declared.fault.NeFault.TheVariants.Target, Modules.Tables, Modules.tables_at, Modules.resource_at}
use Rattle.w16_reloc.specs.{declared.fault.RelocFault.RelocFault, declared.record.Record.Record, Check.check_from, Naming.image_of, Segments.any_offer}
use Rattle.w16_loading.specs.declared.LoadRefusal.TheVariants.{BadFile, ForOs2, ForDos4, ForOtherSystem}
use Rattle.w16_loading.specs.{Refusals.OrRefused, declared.LoadRefusal.LoadRefusal, File.Far, File.Saying, File.Format, File.ModuleFile}
use Rattle.w16_format.specs.{Tables.tables_in, Data.data_in, Data.contents_in, Data.far_in}

abbrev pub module_file : List ℕ → Tables → ModuleFile
module_file file t = record {
  tables = tables_in t;
  segments = map (data_in file t) t.segments;
}

abbrev pub content_at : List ℕ → ℕ → Result Tables NeFault → Option (List ℕ)
content_at file number (Ok t) = option_map (contents_in file) (resource_at t.resources number)
content_at file number (Err e) = None

-- why a load is refused for a fault (profile)
abbrev pub refusal_by_format : NeFault → LoadRefusal
refusal_by_format (Target system) = if system == 1 then ForOs2 else (if system == 3 then ForDos4 else ForOtherSystem)
refusal_by_format other = BadFile

-- of bytes
abbrev pub read_as : List ℕ → Result Tables NeFault → OrRefused ModuleFile
read_as file (Ok t) = Ok (module_file file t)
read_as file (Err e) = Err (refusal_by_format e)

abbrev pub plain_format : Saying
plain_format file = read_as file (tables_at (Some file))

-- A file has bytes: what has other numbers isn't accepted.
abbrev pub has_bytes : List ℕ → Bool
has_bytes file = list_all (λ b. nat_lt b 256) file

-- so many bytes of data that have room in them, with these values at the sites of records that passed their check
abbrev pub written : List ℕ → List Far → ℕ → Result (List Record) RelocFault → Option (List ℕ)
written source values size (Ok records) = if nat_le (length source) size then Some (image_of source records (map far_in values) size) else None
written source values size (Err e) = None

abbrev pub ne_format : Format
ne_format = record {
  says = λ file. if has_bytes file then plain_format file else Err BadFile;
  contents = λ file number. content_at file number (tables_at (Some file));
  relocated = λ t source table values size. written source values size (check_from (any_offer (length t.segments) (length t.references)) source table (length values) 0 []);
}
