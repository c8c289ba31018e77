-- When a segment is sound, apart from how it is checked.
use Rattle.w16_reloc.specs
use Rattle.std.specs.Prelude.{◌≡◌, ◌≢◌, ℕ, ◌+◌, ◌*◌, List, [], ◌∷◌, ◌++◌, length}
use Rattle.w16_ne.specs.Reading.{word_of}
use specs.declared.record.Part.TheVariants.{LowByte, Selector, Pointer, Offset}
use specs.declared.record.Record.TheVariants.{Stored, Added, System}
use specs.{declared.record.Part.Part, declared.record.Record.Record, Sites.Site, Sites.AreApart, Records.Offer, Records.IsRecord}

-- The chain from an offset on names these offsets: the word at each is the next, and FFFF ends it (volume 4).
abbrev pub IsChain : List ℕ → ℕ → List ℕ → Type 0
IsChain bytes at [] = at ≡ 65535
IsChain bytes at (site ∷ sites) = (at ≡ site) × (at ≢ 65535) × IsChain bytes (word_of bytes site) sites

-- The offsets that a record names in the file's bytes: its chain's; or its one offset, where the value is added; a system fixup has none.
abbrev pub Names : List ℕ → Record → List ℕ → Type 0
Names bytes (Stored fixup) ats = IsChain bytes fixup.offset ats
Names bytes (Added fixup) ats = ats ≡ fixup.offset ∷ []
Names bytes System ats = ats ≡ []

abbrev pub AreNamed : List ℕ → List Record → List (List ℕ) → Type 0
AreNamed bytes [] [] = Unit {0}
AreNamed bytes [] (ats ∷ others) = ⊥
AreNamed bytes (r ∷ records) [] = ⊥
AreNamed bytes (r ∷ records) (ats ∷ others) = Names bytes r ats × AreNamed bytes records others

-- how many bytes a value has: a byte, a word, or two words (volume 4)
abbrev pub value_width : Part → ℕ
value_width LowByte = 1
value_width Selector = 2
value_width Pointer = 4
value_width Offset = 2

-- in a chain a site has a link to hold
abbrev pub chain_width : Part → ℕ
chain_width LowByte = 2
chain_width Selector = 2
chain_width Pointer = 4
chain_width Offset = 2

abbrev pub width_of : Record → ℕ
width_of (Stored fixup) = chain_width fixup.part
width_of (Added fixup) = value_width fixup.part
width_of System = 0

-- the sites at these offsets, in their order, of one record and of all
abbrev pub of_width : ℕ → List ℕ → List Site
of_width width [] = []
of_width width (at ∷ ats) = record { at = at; width = width } ∷ of_width width ats

abbrev pub all_sites : List Record → List (List ℕ) → List Site
all_sites [] named = []
all_sites (r ∷ records) [] = []
all_sites (r ∷ records) (ats ∷ others) = of_width (width_of r) ats ++ all_sites records others

-- The records of a segment are sound in its data: each names offsets, and the sites there lie in the data, no two sharing a byte.
abbrev pub IsSound : List ℕ → List Record → List (List ℕ) → Type 0
IsSound bytes records named = AreNamed bytes records named × AreApart (length bytes) (all_sites records named)

-- so many records, each well formed, the first at number i
abbrev pub AreRecords : Offer → List ℕ → ℕ → List Record → Type 0
AreRecords offer bytes i [] = Unit {0}
AreRecords offer bytes i (r ∷ records) = IsRecord offer bytes (8 * i) r × AreRecords offer bytes (i + 1) records

-- a segment is sound: these are its records, and what each names
pub record IsSoundSegment (offer : Offer) (bytes raw : List ℕ) (count : ℕ) (records : List Record) : Type 0 where
  pub many : length records ≡ count
  pub formed : AreRecords offer raw 0 records
  pub sound : (named : List (List ℕ)) × IsSound bytes records named
