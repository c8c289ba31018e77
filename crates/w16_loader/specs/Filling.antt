-- What a load gives bytes once its modules have names, and what holds of these and of their objects before.
use Rattle.std.specs.Prelude.{◌≡◌, ◌≢◌, ℕ, ◌+◌, List, [], ◌∷◌, ◌++◌, length, flat_map, All, AllPairs, Option, Some, None, IfSome, IsSomeAnd, Result, Ok, Err, option_map, slice_get, unwrap_or}
use Rattle.std.specs.List.{AllZip}
use Rattle.w16_model.specs.{Handles.Handles, Heap.object_at, Owned.owned_at}
use Rattle.w16_loading.specs.File.{Far, ModuleFile, Segment, SegmentData, IsModuleFile}
use Rattle.w16_loading.specs.{declared.FetchFault.FetchFault, Answers.GivesFrom, Answers.told, Fill.Filling, Fill.Fills, Fill.Giving, Law.IsItsFiles, Modules.Module, Modules.Modules, Modules.module_at, Naming.fills_from}
use Rattle.w16_format.specs.Ne.{ne_format}
use Rattle.w16_loader.specs.declared.fault.Failure.{Failure}
use Rattle.w16_loading.specs.Fill as loading

-- what a load answers, as loading has it: of the module at a place, and of several
abbrev pub failure_at : {A : Type 0} → ℕ → Result A FetchFault → Option loading.Failure
failure_at place (Ok done) = None
failure_at place (Err fault) = Some (record { place = place; fault = fault })

abbrev pub failure_in : {A : Type 0} → Result A Failure → Option loading.Failure
failure_in (Ok done) = None
failure_in (Err failure) = Some (record { place = failure.place; fault = failure.fault })

-- How a load's object gets its bytes over a store, whose count of failures went from one number to another; its files are no matter.
abbrev pub gives_over : (honest : Type 0) → (before after : ℕ) → Giving
gives_over honest before after = GivesFrom Fills (told honest ne_format [] before after)

-- what gets bytes of a module, whose file says this
abbrev pub fills_in : ℕ → Module → ModuleFile → List Filling
fills_in place m read = fills_from place m.slots m.tables.segments read.segments m.values

-- and of the modules of these handles, in turn
abbrev pub fills_with : Modules → ℕ → List ℕ → List ModuleFile → List Filling
fills_with modules place (h ∷ hs) (read ∷ reads) = elim (module_at modules h) [ None ↦ [] | Some m ↦ fills_in place m read ] ++ fills_with modules (place + 1) hs reads
fills_with modules place hs reads = []

-- A segment of a module, at a place among them from 0: its slot, what its file says of it and gives to it, and the values of its relocation
-- records.
pub record Part (m : Module) (read : ModuleFile) (i : ℕ) : Type 0 where
  pub slot : ℕ
  pub segment : Segment
  pub its_data : SegmentData
  pub its_values : List Far
  pub slot_at : slice_get m.slots i ≡ Some slot
  pub segment_at : slice_get m.tables.segments i ≡ Some segment
  pub data_at : slice_get read.segments i ≡ Some its_data
  pub values_at : slice_get m.values i ≡ Some its_values

abbrev pub fills_of_part : {m : Module} {read : ModuleFile} {i : ℕ} → ℕ → Part m read i → List Filling
fills_of_part place part = fills_from place (part.slot ∷ []) (part.segment ∷ []) (part.its_data ∷ []) (part.its_values ∷ [])

-- A module's file, as far as sizes go: its tables, and as many slots and values as segments.
pub record IsReadAs (m : Module) (read : ModuleFile) : Type 0 where
  pub tables : read.tables ≡ m.tables
  pub is_file : IsModuleFile read
  pub slots : length m.slots ≡ length m.tables.segments
  pub values : length m.values ≡ length m.tables.segments

abbrev pub AreReadAs : Modules → List ℕ → List ModuleFile → Type 0
AreReadAs modules handles reads = AllZip (λ h read. IsSomeAnd (module_at modules h) (λ m. IsReadAs m read)) handles reads

-- the modules of these handles are as their files say them, with a value for each relocation record
abbrev pub AreItsFiles : Modules → List ℕ → List ModuleFile → Type 0
AreItsFiles modules handles reads = AllZip (λ h read. IsSomeAnd (module_at modules h) (λ m. IsItsFiles m read)) handles reads

-- an object of a segment's kind that has no bytes, and whose owner says the segment's size
pub record IsUnfilled (handles : Handles) (slot : ℕ) (s : Segment) : Type 0 where
  pub object : IsSomeAnd (object_at handles.heap slot) (λ o. (o.kind ≡ s.kind) × (o.bytes ≡ None))
  pub owned : IsSomeAnd (owned_at handles slot) (λ owned. owned.size ≡ s.size)

-- the objects of a module's segments are so, and different
pub record HasUnfilled (handles : Handles) (m : Module) : Type 0 where
  pub objects : AllZip (IsUnfilled handles) m.slots m.tables.segments
  pub apart : AllPairs ◌≢◌ m.slots

abbrev pub slots_at : Modules → ℕ → List ℕ
slots_at modules handle = unwrap_or (option_map (λ (m : Module). m.slots) (module_at modules handle)) []

-- those of the modules of these handles
pub record AreUnfilled (modules : Modules) (handles : Handles) (new : List ℕ) : Type 0 where
  pub objects : All (λ h. IfSome (module_at modules h) (λ m. AllZip (IsUnfilled handles) m.slots m.tables.segments)) new
  pub apart : AllPairs ◌≢◌ (flat_map (slots_at modules) new)
