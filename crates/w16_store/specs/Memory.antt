-- What a store in memory holds.
use Rattle.std.specs.Prelude.{ℕ, List, map}
use Rattle.w16_store.specs.declared.memory.File.{File}

abbrev pub files_in : List File → List (List ℕ × List ℕ)
files_in files = map (λ f. (f.name.items, f.bytes.items)) files
