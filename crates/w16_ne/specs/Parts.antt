-- The tables of a module file, or its first fault with the part of the file that it is in.
use Rattle.w16_ne.specs
use Rattle.std.specs.Prelude.{◌≡◌, ℕ, List, Option, Result, Ok, Err}
use specs.declared.part.FilePart.TheVariants.{OldHeader, Header, SegmentTable, ResidentNames, References, EntryTable, NonresidentNames, ResourceTable}
use specs.{declared.fault.NeFault.NeFault, declared.part.FilePart.FilePart, declared.part.PartFault.PartFault, Reading.Reading, Reading.IsOfFile, Header.place_at, Header.header_at, Header.fields_of, Segments.segments_at, Names.resident_at, Names.nonresident_at, References.references_at}
use specs.{Entries.table_at, Resources.resources_at, Modules.Tables, Modules.tables_of}

-- a part is read, and then the next; where it can't be, the fault is this part's
abbrev pub reads : {Y Z : Type 0} → FilePart → Reading Y → (Y → Result Z PartFault) → Result Z PartFault
reads part (Ok y) next = next y
reads part (Err fault) next = Err (record { part = part; fault = fault })

-- the tables after a header
unfoldable pub parts_behind : Option (List ℕ) → ℕ → List ℕ → Result Tables PartFault
parts_behind file ne header =
    reads SegmentTable (segments_at file ne header) (λ segments.
    reads ResidentNames (resident_at file ne header) (λ resident.
    reads References (references_at file ne header) (λ references.
    reads EntryTable (table_at file ne header) (λ entries.
    reads NonresidentNames (nonresident_at file header) (λ nonresident.
    reads ResourceTable (resources_at file ne header) (λ resources.
    Ok (tables_of ne header segments resident references entries nonresident resources)))))))

-- the parts in their order
unfoldable pub parts_at : Option (List ℕ) → Result Tables PartFault
parts_at file =
    reads OldHeader (place_at file) (λ ne.
    reads Header (header_at file ne) (λ header.
    reads Header (fields_of header) (λ _. parts_behind file ne header)))

-- what was read, without the part of a fault
abbrev pub without_part : {X : Type 0} → Result X PartFault → Result X NeFault
without_part (Ok x) = Ok x
without_part (Err e) = Err e.fault

-- A function answered what is read, where it answered no fault of the store and had memory.
abbrev pub IsTold : {X : Type 0} → Result X PartFault → Result X PartFault → Type 0
IsTold (Ok x) read = read ≡ Ok x
IsTold (Err e) read = IsOfFile e.fault → read ≡ Err e
