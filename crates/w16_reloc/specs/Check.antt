-- The check of a segment's records, one site after another, with the first fault.
use Rattle.w16_reloc.specs
use Rattle.std.specs.Prelude.{◌≡◌, ℕ, zero, suc, ◌+◌, ◌<◌, ◌*◌, List, [], ◌∷◌, length, Option, Some, None, Result, Ok, Err, nat_lt, ◌==◌, Bool, false, if◌then◌else◌, slice_index_or}
use Rattle.std.specs.List.{list_any, AllByRecursion}
use Rattle.w16_ne.specs.Reading.{word_of}
use specs.declared.fault.RelocFault.TheVariants.{BadRecord, SiteOutside, Overlap, Store}
use specs.declared.record.Record.TheVariants.{Stored, Added, System}
use specs.{declared.fault.RelocFault.RelocFault, declared.record.Record.Record, Records.Offer, Records.is_named, Records.record_at, Sound.chain_width, Sound.value_width, Sites.Site, Sites.covers, Sites.meets}

infixl 10 ◌>>=◌
abbrev pub ◌>>=◌ : {A B : Type 0} → Result A RelocFault → (A → Result B RelocFault) → Result B RelocFault
(Ok x) >>= f = f x
(Err e) >>= f = Err e

-- one more site, in so many bytes and beside those before it
unfoldable pub site_at : ℕ → List Site → Site → Result (List Site) RelocFault
site_at len before site =
    if nat_lt len (site.at + site.width) then Err SiteOutside else
    if list_any (meets site) before then Err Overlap else Ok (site ∷ before)

-- a chain of fewer sites than this; one with more returns
unfoldable pub chain_at : List ℕ → ℕ → ℕ → List Site → ℕ → Result (List Site) RelocFault
chain_at bytes width zero before at = Err Overlap
chain_at bytes width (suc n) before at = if at == 0xffff then Ok before else do
  more ← site_at (length bytes) before (record { at = at; width = width })
  chain_at bytes width n more (word_of bytes at)

-- the bytes marked are those that these sites cover
pub record AreMarks (sites : List Site) (marks : List Bool) : Type 0 where
  pub wide : AllByRecursion (λ s. 0 < s.width) sites
  pub marked : (b : ℕ) → b < length marks → slice_index_or marks b false ≡ list_any (covers b) sites

-- a fault of the records, and none of the store
abbrev pub IsOfRecords : RelocFault → Type 0
IsOfRecords (Store e) = ⊥
IsOfRecords e = Unit {0}

-- what code answered and marked is what the check says
abbrev pub Marks : {A : Type 0} → Result A RelocFault → List Bool → Result (List Site) RelocFault → Type 0
Marks (Ok x) marks said = (sites : List Site) × (said ≡ Ok sites) × AreMarks sites marks
Marks (Err e) marks said = said ≡ Err e

-- the sites of a record
unfoldable pub sites_at : List ℕ → List Site → Record → Result (List Site) RelocFault
sites_at bytes before (Stored fixup) = chain_at bytes (chain_width fixup.part) (length bytes + 1) before fixup.offset
sites_at bytes before (Added fixup) = site_at (length bytes) before (record { at = fixup.offset; width = value_width fixup.part })
sites_at bytes before System = Ok before

-- the record of a number, which has to be well formed
abbrev pub formed : Offer → Option Record → Result Record RelocFault
formed offer None = Err BadRecord
formed offer (Some r) = if is_named offer r then Ok r else Err BadRecord

-- So many records, from the one of a number on, are checked in their order: first a record itself, then its sites. All of them, or the first fault.
unfoldable pub check_from : Offer → List ℕ → List ℕ → ℕ → ℕ → List Site → Result (List Record) RelocFault
check_from offer bytes raw zero i before = Ok []
check_from offer bytes raw (suc n) i before = do
  r ← formed offer (record_at offer.segments offer.references raw (8 * i))
  after ← sites_at bytes before r
  others ← check_from offer bytes raw n (i + 1) after
  Ok (r ∷ others)
