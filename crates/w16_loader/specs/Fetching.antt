-- How a segment's object gets its bytes from the file of its module.
use Rattle.std.specs.Prelude.{◌≡◌, ℕ, ◌-◌, ◌<◌, ◌≤◌, true, List, [], length, map, All, IsSomeAnd, Option, Some, None, Result, Ok, Err, slice_get, slice_index_or}
use Rattle.w16_model.specs.{Handles.Handles, Owned.owned_at}
use Rattle.w16_store.specs.Files.{file_of}
use Rattle.w16_ne.specs.{declared.segment_table.Segment.Segment, Modules.Tables, Modules.tables_at}
use Rattle.w16_reloc.specs.{declared.fault.RelocFault.RelocFault, declared.record.Record.Record, Images.IsImage, Law.IsFar, Segments.Held, Segments.any_offer, Segments.checked, Sound.IsSound, Sound.IsSoundSegment}
use Rattle.w16_loading.specs.declared.FetchFault.TheVariants.{Store, Damaged}
use Rattle.w16_loading.specs.{declared.FetchFault.FetchFault, Fewest.FillsFewest, Answers.GivesRead, Answers.MayFail, Fill.Fills, Law.IsLoadingWorld, Law.IsOfFiles, Modules.LoadingWorld, Modules.Module, Modules.IsSegmentOf}
use Rattle.w16_format.specs.{Data.data_in, Data.far_of, Ne.ne_format, Tables.tables_in}
use Rattle.w16_store.specs.declared.store.StoreFault.TheVariants as stores
use Rattle.w16_reloc.specs.declared.fault.RelocFault.TheVariants as relocs
use Rattle.w16_reloc.specs.declared.value.Far as words

-- why a fetch fails whose segment isn't relocated: the store's device failed, or the file isn't what it was
abbrev pub fetch_fault : RelocFault → FetchFault
fetch_fault (relocs.Store stores.Device) = Store
fetch_fault other = Damaged

-- what a fetch answers, as loading has it
abbrev pub fault_in : {A : Type 0} → Result A FetchFault → Option FetchFault
fault_in (Ok done) = None
fault_in (Err fault) = Some fault

-- The image of a segment, where its records are sound in its data, and these have room. Its values are words.
pub record IsWritten (source : List ℕ) (records : List Record) (values : List words.Far) (bytes : List ℕ) : Type 0 where
  pub image : (named : List (List ℕ)) → IsSound source records named → length source ≤ length bytes → IsImage source records values named bytes
  pub words : All IsFar values

-- An object that a module owns, and that has no bytes, gets such bytes, as many as its owner says.
pub record GivesBytes (old : Handles) (slot : ℕ) (IsBytes : List ℕ → Type 0) (new : Handles) : Type 0 where
  pub bytes : List ℕ
  pub sized : IsSomeAnd (owned_at old slot) (λ owned. length bytes ≡ owned.size)
  pub are : IsBytes bytes
  pub filled : Fills old.heap slot bytes true new.heap
  pub rest : new ≡ record old { heap = new.heap }

-- The segment of a number of a module is read from the file of this name, under the values that were bound at load.
pub record IsSourceOf (m : Module) (number : ℕ) (file : List ℕ) (values : List words.Far) : Type 0 where
  pub named : m.file ≡ file
  pub bound : slice_index_or m.values (number - 1) [] ≡ map far_of values

-- In a world where all is of its file, if the store is honest, a slot's object is that segment of a module that was loaded with these tables.
pub record IsFetchable (honest : Type 0) (world : LoadingWorld) (slot number : ℕ) (name : List ℕ) (t : Tables) (values : List words.Far) : Type 0 where
  pub sound : IsLoadingWorld world
  pub of_files : honest → IsOfFiles ne_format world
  pub handle : ℕ
  pub m : Module
  pub segment : IsSegmentOf world slot handle number m
  pub source : IsSourceOf m number name values
  pub tables : m.tables ≡ tables_in t

-- A file of bytes says the tables of a module, and a segment of it has records that are sound in its data, one for each value.
pub record IsSoundIn (file : List ℕ) (t : Tables) (number : ℕ) (values : List words.Far) : Type 0 where
  pub are_bytes : All (λ b. b < 256) file
  pub tables : tables_at (Some file) ≡ Ok t
  pub segment : Segment
  pub there : slice_get t.segments (number - 1) ≡ Some segment
  pub held : Held
  pub passed : checked file t segment ≡ Ok held
  pub many : length held.records ≡ length values

-- what the object of a segment is given under these values
abbrev pub image_in : List ℕ → Tables → Segment → List words.Far → List ℕ
image_in file t s values = (data_in file t s).image (map far_of values)

-- A slot's object, which a module owns, gets bytes that were read for it, by a request that discards as few as it can; or there is no room, or they
-- can't be read. Where it is known what is there, the device alone fails.
pub record GivesOwned (Known : Type 0) (IsRead : List ℕ → Type 0) (before after : ℕ) (old : Handles) (slot : ℕ) (fault : Option FetchFault) (new : Handles) : Type 0 where
  pub given : GivesRead FillsFewest (MayFail Known before after) (λ bytes. IsSomeAnd (owned_at old slot) (λ owned. length bytes ≡ owned.size)) IsRead old.heap slot fault new.heap
  pub rest : new ≡ record old { heap = new.heap }

-- Bytes that are some data, zeros after it, and these values at the sites of the records of some table, which are sound in it, in a module with
-- these tables.
pub record IsRelocatedBy (t : Tables) (values : List words.Far) (bytes : List ℕ) : Type 0 where
  pub source : List ℕ
  pub table : List ℕ
  pub records : List Record
  pub sound : IsSoundSegment (any_offer (length t.segments) (length t.references)) source table (length values) records
  pub fits : length source ≤ length bytes
  pub image : IsImage source records values sound.sound.0 bytes
  pub words : All IsFar values

-- Where the store is honest: the file of this name has the segment, sound and of the size that the slot's owner says.
pub record IsSoundSource (honest : Type 0) (files : List (List ℕ × List ℕ)) (name : List ℕ) (t : Tables) (number : ℕ) (values : List words.Far) (handles : Handles) (slot : ℕ) : Type 0 where
  pub truly : honest
  pub file : List ℕ
  pub stored : file_of files name ≡ Some file
  pub sound : IsSoundIn file t number values
  pub sized : IsSomeAnd (owned_at handles slot) (λ owned. owned.size ≡ sound.segment.size)

-- The object of a segment gets data that was read, with the values that were bound at load; its image, where its file has it.
abbrev pub GivesSegment : (honest : Type 0) → List (List ℕ × List ℕ) → List ℕ → Tables → ℕ → List words.Far → (before after : ℕ) → Handles → ℕ → Option FetchFault → Handles → Type 0
GivesSegment honest files name t number values before after old slot fault new =
    GivesOwned (IsSoundSource honest files name t number values old slot)
    (λ bytes. ((s : Segment) → slice_get t.segments (number - 1) ≡ Some s → length bytes ≡ s.size → IsRelocatedBy t values bytes)
    × ((k : IsSoundSource honest files name t number values old slot) → bytes ≡ image_in k.file t k.sound.segment values)) before after old slot fault new

-- a world that has these handles, these files and this count of failures, whatever else
abbrev pub in_parts : LoadingWorld → Handles → List (List ℕ × List ℕ) → ℕ → LoadingWorld
in_parts rest handles files failures = record rest { handles = handles; files = files; failures = failures }
