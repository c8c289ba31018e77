-- The first fault of a segment, apart from how it is found.
use Rattle.w16_reloc.specs
use Rattle.std.specs.Prelude.{◌≡◌, ◌≢◌, ℕ, ◌+◌, ◌*◌, ◌<◌, ◌≤◌, List, [], ◌∷◌, ◌++◌, length, true}
use Rattle.std.specs.List.{list_any}
use Rattle.w16_ne.specs.Reading.{word_of}
use specs.declared.fault.RelocFault.TheVariants.{BadRecord, SiteOutside, Overlap, Store}
use specs.declared.record.Record.TheVariants.{Stored, Added, System}
use specs.Sound.{AreRecords, IsSound, of_width, width_of, all_sites}
use specs.{declared.fault.RelocFault.RelocFault, declared.record.Record.Record, Sites.Site, Sites.covers, Sites.AreApart, Records.Offer, Records.IsRecord}

-- A chain leads from an offset over these offsets to one more.
abbrev pub LeadsTo : List ℕ → ℕ → List ℕ → ℕ → Type 0
LeadsTo bytes from [] at = (from ≡ at) × (from ≢ 65535)
LeadsTo bytes from (site ∷ sites) at = (from ≡ site) × (from ≢ 65535) × LeadsTo bytes (word_of bytes site) sites at

-- A record names these offsets first, and then one more.
abbrev pub NamesNext : List ℕ → Record → List ℕ → ℕ → Type 0
NamesNext bytes (Stored fixup) ats at = LeadsTo bytes fixup.offset ats at
NamesNext bytes (Added fixup) ats at = (ats ≡ []) × (fixup.offset ≡ at)
NamesNext bytes System ats at = ⊥

-- what is wrong with one more site beside those before it: it covers a byte past the data, or, inside them, a byte that another covers
abbrev pub IsWrong : ℕ → List Site → Site → RelocFault → Type 0
IsWrong len before site SiteOutside = len < site.at + site.width
IsWrong len before site Overlap = (site.at + site.width ≤ len) × ((o : ℕ) × (covers o site ≡ true) × (list_any (covers o) before ≡ true))
IsWrong len before site BadRecord = ⊥
IsWrong len before site (Store e) = ⊥

-- The first site that is wrong is one of this record: those before it, of this record and the earlier ones, are sound.
pub record HasWrongSite (bytes : List ℕ) (before : List Site) (r : Record) (e : RelocFault) : Type 0 where
  pub ats : List ℕ
  pub at : ℕ
  pub names : NamesNext bytes r ats at
  pub sound : AreApart (length bytes) (before ++ of_width (width_of r) ats)
  pub wrong : IsWrong (length bytes) (before ++ of_width (width_of r) ats) (record { at = at; width = width_of r }) e

-- The record at an index of the table is at fault: it isn't well formed, or else one of its sites is wrong.
abbrev pub IsAtFault : Offer → List ℕ → List ℕ → ℕ → List Site → RelocFault → Type 0
IsAtFault offer bytes raw at before BadRecord = (r : Record) → IsRecord offer raw at r → ⊥
IsAtFault offer bytes raw at before e = (r : Record) × IsRecord offer raw at r × HasWrongSite bytes before r e

-- A segment's first fault: the records before some number are sound, and the one of that number is at fault.
pub record IsFirstFault (offer : Offer) (bytes raw : List ℕ) (count : ℕ) (e : RelocFault) : Type 0 where
  pub records : List Record
  pub named : List (List ℕ)
  pub few : length records < count
  pub formed : AreRecords offer raw 0 records
  pub sound : IsSound bytes records named
  pub fault : IsAtFault offer bytes raw (8 * length records) (all_sites records named) e
