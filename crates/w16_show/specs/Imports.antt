-- What a module imports, each import once.
use Rattle.std.specs.Prelude.{ℕ, ◌+◌, ◌*◌, List, [], ◌∷◌, Result, Ok, Err, map}
use Rattle.std.specs.{BTreeMap.insert_entry, List.flat_map, List.fold, Ordering.nat_cmp}
use Rattle.w16_ne.specs.Modules.{Tables}
use Rattle.w16_reloc.specs.declared.record.Record.TheVariants.{Stored, Added, System}
use Rattle.w16_reloc.specs.{declared.fault.RelocFault.RelocFault, declared.record.Record.Record, declared.record.Target.Target, Segments.Held, Segments.checked}
use Rattle.w16_reloc.specs.declared.record.Target.TheVariants as target

-- where a relocation record points, and all sound records of a segment; those of an unsound one aren't told
abbrev pub targets_of : Record → List Target
targets_of (Stored fixup) = fixup.target ∷ []
targets_of (Added fixup) = fixup.target ∷ []
targets_of System = []

abbrev pub targets_in : Result Held RelocFault → List Target
targets_in (Ok held) = flat_map targets_of held.records
targets_in (Err fault) = []

-- Imports ascend by the number of their reference, and of one reference those by ordinal come before those by name. An import that is there
-- already is not put in again, and a target in the module itself is no import.
abbrev pub with_import : List (ℕ × Target) → Target → List (ℕ × Target)
with_import imports (target.ByOrdinal reference ordinal) = insert_entry nat_cmp imports (131072 * reference + ordinal) (target.ByOrdinal reference ordinal)
with_import imports (target.ByName reference name) = insert_entry nat_cmp imports (131072 * reference + 65536 + name) (target.ByName reference name)
with_import imports other = imports

abbrev pub ranked_imports : List ℕ → Tables → List (ℕ × Target)
ranked_imports file tables = fold with_import [] (flat_map (λ s. targets_in (checked file tables s)) tables.segments)

abbrev pub imports : List ℕ → Tables → List Target
imports file tables = map (λ import. import.1) (ranked_imports file tables)
