-- What a sound segment names, and what it holds once it is relocated, as functions.
use Rattle.std.specs.Prelude.{ℕ, zero, suc, List, [], ◌∷◌, length, map, ◌==◌, if◌then◌else◌}
use Rattle.std.specs.List.{range_with_len}
use Rattle.w16_ne.specs.Reading.{word_of}
use Rattle.w16_reloc.specs.declared.record.Record.TheVariants.{Stored, Added, System}
use Rattle.w16_reloc.specs.{declared.record.Record.Record, declared.value.Far.Far, Images.byte, Images.patches, Images.image_at}

-- so many sites at most of the chain from an offset on
abbrev pub chain_from : List ℕ → ℕ → ℕ → List ℕ
chain_from bytes zero at = []
chain_from bytes (suc n) at = if at == 65535 then [] else at ∷ chain_from bytes n (word_of bytes at)

-- the offsets that a record names: a chain that is sound has no more sites than there are bytes
abbrev pub offsets_of : List ℕ → Record → List ℕ
offsets_of bytes (Stored fixup) = chain_from bytes (length bytes) fixup.offset
offsets_of bytes (Added fixup) = fixup.offset ∷ []
offsets_of bytes System = []

abbrev pub naming : List ℕ → List Record → List (List ℕ)
naming bytes records = map (offsets_of bytes) records

-- so many bytes: the file's data and zeros after them, with the values written
abbrev pub image_of : List ℕ → List Record → List Far → ℕ → List ℕ
image_of file records values size = map (image_at (patches file records values (naming file records)) (byte file)) (range_with_len 0 size)
