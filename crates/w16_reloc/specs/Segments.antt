-- A segment of a module's file, and what a check of it answers.
use Rattle.std.specs.Prelude.{◌≡◌, ◌≢◌, ◌⊎◌, bit_and, ℕ, ◌+◌, ◌*◌, ◌<◌, ◌≤◌, List, [], length, take, drop, All, Some, IfSome, Result, Ok, Err, nat_lt, ◌&&◌, Bool, true, false, slice_index}
use Rattle.w16_store.specs.{declared.store.StoreFault.StoreFault, Later.is_device}
use Rattle.w16_ne.specs.{declared.segment_table.Segment.Segment, Segments.records_at, declared.text_window.TheConstants.TEXTS, Texts.text_in, Modules.Tables, Modules.imported_place}
use Rattle.w16_reloc.specs.{declared.fault.RelocFault.RelocFault, declared.record.Record.Record, Records.Offer, Records.name_in, Check.◌>>=◌, Check.check_from}
use Rattle.w16_store.specs.declared.store.StoreFault.TheVariants as stores
use Rattle.w16_reloc.specs.declared.fault.RelocFault.TheVariants as faults

-- a length byte at an offset and the text after it lie in the file
abbrev pub has_text_at : List ℕ → ℕ → Bool
has_text_at file at = nat_lt at (length file) && nat_lt (at + slice_index file at) (length file)

-- what a module offers by its file
abbrev pub offer_of : List ℕ → Tables → Offer
offer_of file tables = record { segments = length tables.segments; references = length tables.references; has_name = λ name. has_text_at file (imported_place tables + name) }

-- what one offers whose imported names stand in these bytes
abbrev pub offer_in : List ℕ → ℕ → ℕ → Offer
offer_in texts segments references = record { segments = segments; references = references; has_name = has_text_at texts }

-- one in whose file each name is taken to have a text
abbrev pub any_offer : ℕ → ℕ → Offer
any_offer segments references = record { segments = segments; references = references; has_name = λ name. true }

-- a segment's data in the file, and its records: directly after the data and their count
abbrev pub data_of : List ℕ → Segment → List ℕ
data_of file s = take s.len (drop s.place file)

abbrev pub records_of : List ℕ → Segment → List ℕ
records_of file s = take (8 * s.records) (drop (s.place + s.len + 2) file)

-- a segment without data has no records; the data and the records of any other lie in the file
abbrev pub LiesIn : List ℕ → Segment → Type 0
LiesIn file s = (s.len ≡ 0 → s.records ≡ 0) × (0 < s.len → (s.place + s.len ≤ length file) × (records_at (Some file) s.flags.0 (s.place + s.len) ≡ Ok s.records))

-- what is known of a segment that was checked
pub record Held : Type 0 where
  pub bytes : List ℕ
  pub records : List Record

-- what a scratch holds: that, and bytes of the file in which the names stand that the records ask for
pub record Scratched : Type 0 where
  pub held : Held
  pub texts : List ℕ

-- the check of a segment: its data and records, or the first fault
unfoldable pub checked : List ℕ → Tables → Segment → Result Held RelocFault
checked file tables s = do
  records ← check_from (offer_of file tables) (data_of file s) (records_of file s) s.records 0 []
  Ok (record { bytes = data_of file s; records = records })

-- The imported names of a module begin at an offset of its file: as many bytes from there as a name can reach.
abbrev pub names_from : List ℕ → ℕ → List ℕ
names_from file at = take TEXTS (drop at file)

-- The bytes read for so many records of a table: those, or none where no record imports by name.
abbrev pub AreNamesFor : List ℕ → Tables → List ℕ → ℕ → List ℕ → Type 0
AreNamesFor file tables raw count texts = (texts ≡ names_from file (imported_place tables)) ⊎ ((i : ℕ) → i < count → bit_and (slice_index raw (8 * i + 1)) 3 ≢ 2)

-- where these records ask for names, they stand in such bytes as in the file
abbrev pub AreTextsOf : List ℕ → Tables → List Record → List ℕ → Type 0
AreTextsOf file tables records texts = All (λ r. IfSome (name_in r) (λ name. text_in texts name ≡ text_in file (imported_place tables + name))) records

-- a fault of the store's device
abbrev pub is_reloc_device : RelocFault → Bool
is_reloc_device (faults.Store e) = is_device e
is_reloc_device other = false

-- What a call answered, seen by view, is this. A fault of the store is the device's alone, and then its count of failures rose.
abbrev pub IsFailure : ℕ → ℕ → StoreFault → Type 0
IsFailure before after stores.Device = before < after
IsFailure before after other = ⊥

abbrev pub Refuses : {Y : Type 0} → ℕ → ℕ → RelocFault → Result Y RelocFault → Type 0
Refuses before after (faults.Store e) said = IsFailure before after e
Refuses before after e said = said ≡ Err e

abbrev pub Answers : {X Y : Type 0} → (X → Y) → ℕ → ℕ → Result X RelocFault → Result Y RelocFault → Type 0
Answers view before after (Ok x) said = said ≡ Ok (view x)
Answers view before after (Err e) said = Refuses before after e said
