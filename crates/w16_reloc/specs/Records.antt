-- Relocation records: 8 bytes each, an address type, a relocation type, an offset word, and two words for the target (volume 4).
use Rattle.w16_reloc.specs
use Rattle.std.specs.Prelude.{◌≡◌, ℕ, ◌+◌, List, Option, Some, None, ◌==◌, nat_lt, ◌||◌, Bool, true, if◌then◌else◌, bit_and, slice_index, option_map}
use Rattle.w16_ne.specs.Reading.{word_of}
use specs.declared.record.Part.TheVariants.{LowByte, Selector, Pointer, Offset}
use specs.declared.record.Target.TheVariants.{Internal, Entry, ByOrdinal, ByName}
use specs.declared.record.Record.TheVariants.{Stored, Added, System}
use specs.{declared.record.Part.Part, declared.record.Target.Target, declared.record.Fixup.Fixup, declared.record.Record.Record}

-- what a module offers to its records: how many segments and references, and where the imported names have a text in the file
pub record Offer : Type 0 where
  pub segments : ℕ
  pub references : ℕ
  pub has_name : ℕ → Bool

-- the address types; the 48-bit and 32-bit ones aren't taken, and the top bit is ignored (profile)
abbrev pub part_of : ℕ → Option Part
part_of kind =
    if kind == 0 then Some LowByte else
    if kind == 2 then Some Selector else
    if kind == 3 then Some Pointer else
    if kind == 5 then Some Offset else None

-- an internal target: segment FF stands for an ordinal, and any other has to be there
abbrev pub internal_of : ℕ → ℕ → ℕ → Option Target
internal_of segments segment word =
    if segment == 255 then Some (Entry word) else
    if segment == 0 || nat_lt segments segment then None else Some (Internal segment word)

-- an imported one, by ordinal or by name: the reference has to be there
abbrev pub imported_of : ℕ → ℕ → ℕ → Bool → Option Target
imported_of references reference word by_ordinal =
    if reference == 0 || nat_lt references reference then None else
    if by_ordinal then Some (ByOrdinal reference word) else Some (ByName reference word)

-- the low two bits of the relocation type: 0 internal, 1 import by ordinal, 2 import by name
unfoldable pub target_at : ℕ → ℕ → List ℕ → ℕ → Option Target
target_at segments references bytes at =
    let kind = bit_and (slice_index bytes (at + 1)) 3 in
    if kind == 0 then internal_of segments (slice_index bytes (at + 4)) (word_of bytes (at + 6)) else
    imported_of references (word_of bytes (at + 4)) (word_of bytes (at + 6)) (kind == 1)

abbrev pub fixup_of : Option Part → ℕ → Option Target → Option Fixup
fixup_of None offset target = None
fixup_of (Some part) offset None = None
fixup_of (Some part) offset (Some target) = Some (record { part = part; offset = offset; target = target })

-- bit 2 says that the value is added; a system fixup (3) is well formed whatever else it says (profile)
unfoldable pub record_at : ℕ → ℕ → List ℕ → ℕ → Option Record
record_at segments references bytes at =
    if bit_and (slice_index bytes (at + 1)) 3 == 3 then Some System else
    option_map (λ f. if bit_and (slice_index bytes (at + 1)) 4 == 0 then Stored f else Added f)
    (fixup_of (part_of (bit_and (slice_index bytes at) 127)) (word_of bytes (at + 2)) (target_at segments references bytes at))

-- the imported name that a record asks for, by its offset; its text has to lie in the file
abbrev pub text_of : Target → Option ℕ
text_of (ByName reference name) = Some name
text_of other = None

abbrev pub name_in : Record → Option ℕ
name_in (Stored fixup) = text_of fixup.target
name_in (Added fixup) = text_of fixup.target
name_in System = None

abbrev pub has_text : Offer → Option ℕ → Bool
has_text offer None = true
has_text offer (Some name) = offer.has_name name

abbrev pub is_named : Offer → Record → Bool
is_named offer r = has_text offer (name_in r)

-- The record whose bytes begin at an index is this one, well formed.
abbrev pub IsRecord : Offer → List ℕ → ℕ → Record → Type 0
IsRecord offer bytes at r = (record_at offer.segments offer.references bytes at ≡ Some r) × (is_named offer r ≡ true)
