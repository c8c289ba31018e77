-- What the format comes to.
use Rattle.w16_format.specs
use Rattle.std.specs.Prelude.{◌≡◌, ℕ, ◌-◌, ◌<◌, ◌≤◌, List, [], length, map, All, slice_get, slice_index_or, option_map, Some, None, Ok, Err, is_ok}
use Rattle.std.specs.List.{list_all}
use Rattle.w16_store.specs.{declared.store.StoreFault.TheVariants.Missing, Files.file_of}
use Rattle.w16_ne.specs.{declared.fault.NeFault.NeFault, declared.fault.NeFault.TheVariants.Store, declared.segment_table.Segment.Segment, Resources.Label, Resources.Entry, Modules.Tables, Modules.tables_at, Modules.entry_at, Modules.resource_at, Names.ordinal_in}
use Rattle.w16_reloc.specs.{declared.record.Record.Record, Segments.Held, Segments.any_offer, Segments.checked, Segments.data_of, Sound.IsSound, Sound.IsSoundSegment, Images.IsImage, Naming.naming, Law.IsFar}
use Rattle.w16_loading.specs.{Law.IsFormat, File.Far, File.numbered, Law.IsOfFiles, Modules.LoadingWorld, Modules.Module, Modules.module_at, Closure.are_sound, Fetch.segment_bytes, Fetch.resource_bytes}
use specs.Tables.{segment_in, entry_in, resource_in, tables_in}
use specs.Data.{data_in, contents_in, target_of, far_in, far_of}
use specs.Ne.{module_file, refusal_by_format, ne_format, plain_format}
use Rattle.w16_reloc.specs.declared.value.Far as words
use Rattle.w16_loading.specs.File as loading

abbrev pub FormatLaw : Type 0
FormatLaw = IsFormat ne_format

abbrev pub PlainLaw : Type 0
PlainLaw = (file : List ℕ) → All (λ b. b < 256) file → ne_format.says file ≡ plain_format file

-- A segment that is checked has sound records in its data, and the format gives it their targets. Bytes as many as it has are its image where the
-- values of these records were written over its data.
pub record IsRelocated (file : List ℕ) (t : Tables) (s : Segment) (held : Held) : Type 0 where
  pub same : held.bytes ≡ data_of file s
  pub sound : IsSound held.bytes held.records (naming held.bytes held.records)
  pub targets : (data_in file t s).targets ≡ Some (map (target_of file t) held.records)
  pub image : (values : List Far) (bytes : List ℕ) → IsImage held.bytes held.records (map far_in values) (naming held.bytes held.records) bytes → length bytes ≡ s.size
      → (data_in file t s).image values ≡ bytes

abbrev pub SegmentLaw : Type 0
SegmentLaw = (file : List ℕ) (t : Tables) (s : Segment) (held : Held) → checked file t s ≡ Ok held → IsRelocated file t s held

-- values that are words are written as they are
abbrev pub WordsLaw : Type 0
WordsLaw = (values : List words.Far) → All IsFar values → map far_in (map far_of values) ≡ values

-- Some data and a table of records that is sound in it, in a module with these tables: where the data have room, their image is what the format says.
abbrev pub RelocatedLaw : Type 0
RelocatedLaw = (t : Tables) (source table : List ℕ) (records : List Record) (values : List words.Far) (bytes : List ℕ)
    → (sound : IsSoundSegment (any_offer (length t.segments) (length t.references)) source table (length values) records) → All IsFar values → length source ≤ length bytes
    → IsImage source records values sound.sound.0 bytes → ne_format.relocated (tables_in t) source table (map far_of values) (length bytes) ≡ Some bytes

-- The data of a segment have room in its object.
abbrev pub RoomLaw : Type 0
RoomLaw = (file : List ℕ) (t : Tables) (k : ℕ) (s : Segment) → tables_at (Some file) ≡ Ok t → slice_get t.segments k ≡ Some s → length (data_of file s) ≤ s.size

-- What a load and a fetch make of a file of bytes.

-- accepted or not
abbrev pub AcceptedLaw : Type 0
AcceptedLaw = (file : List ℕ) (t : Tables) → All (λ b. b < 256) file → tables_at (Some file) ≡ Ok t → ne_format.says file ≡ Ok (module_file file t)

abbrev pub RefusedLaw : Type 0
RefusedLaw = (file : List ℕ) (e : NeFault) → All (λ b. b < 256) file → tables_at (Some file) ≡ Err e → ne_format.says file ≡ Err (refusal_by_format e)

-- none is accepted where there is no file
abbrev pub MissingLaw : Type 0
MissingLaw = tables_at None ≡ Err (Store Missing)

-- its relocations are sound where each segment's check passes
abbrev pub SoundLaw : Type 0
SoundLaw = (file : List ℕ) (t : Tables) → are_sound (module_file file t) ≡ list_all (λ s. is_ok (checked file t s)) t.segments

-- a module's file in a store
pub record IsFileOf (world : LoadingWorld) (m : Module) (file : List ℕ) (t : Tables) : Type 0 where
  pub stored : file_of world.files m.file ≡ Some file
  pub bytes : All (λ b. b < 256) file
  pub tables : tables_at (Some file) ≡ Ok t

-- What a segment's object is given: as many bytes as it has, over which the values that were bound at load were written.
abbrev pub SegmentBytesLaw : Type 0
SegmentBytesLaw = (world : LoadingWorld) (m : Module) (file : List ℕ) (t : Tables) (number : ℕ) (s : Segment) (held : Held) (values : List words.Far) (bytes : List ℕ) → IsFileOf world m file t
    → numbered t.segments number ≡ Some s → checked file t s ≡ Ok held → All IsFar values → slice_index_or m.values (number - 1) [] ≡ map far_of values
    → IsImage held.bytes held.records values (naming held.bytes held.records) bytes → length bytes ≡ s.size → segment_bytes ne_format world m number ≡ Some bytes

-- and a resource's
abbrev pub ResourceBytesLaw : Type 0
ResourceBytesLaw = (world : LoadingWorld) (m : Module) (file : List ℕ) (t : Tables) (place : ℕ) (r : Label × Entry) → IsFileOf world m file t
    → resource_at t.resources place ≡ Some r → resource_bytes ne_format world m place ≡ Some (contents_in file r)

-- What a module is asked by number and by name: its segments and resources, and where its entries lead.
abbrev pub EntryLaw : Type 0
EntryLaw = (t : Tables) (ordinal : ℕ) → loading.entry_at (tables_in t) ordinal ≡ option_map entry_in (entry_at t.entries ordinal)

abbrev pub NameLaw : Type 0
NameLaw = (t : Tables) (name : List ℕ) → loading.entry_named (tables_in t) name ≡ option_map entry_in (entry_at t.entries (ordinal_in t.names name))

abbrev pub PlaceLaw : Type 0
PlaceLaw = (t : Tables) (number : ℕ) → (numbered (tables_in t).segments number ≡ option_map segment_in (numbered t.segments number))
    × (numbered (tables_in t).resources number ≡ option_map resource_in (resource_at t.resources number))

-- The tables of a load tell the file's own, and where it keeps each part.
abbrev pub ApartLaw : Type 0
ApartLaw = (t u : Tables) → tables_in t ≡ tables_in u → t ≡ u

-- So where all is of its files, a module that was loaded with some tables has a file of bytes that still says these.
abbrev pub StoredLaw : Type 0
StoredLaw = (world : LoadingWorld) (handle : ℕ) (m : Module) (t : Tables) → IsOfFiles ne_format world → module_at world.modules handle ≡ Some m → m.tables ≡ tables_in t
    → (file : List ℕ) × IsFileOf world m file t
