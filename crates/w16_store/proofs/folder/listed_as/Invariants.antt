use Rattle.std.proofs.Common.{◌≡◌, map, drop}
use Rattle.std.specs.{List.find, String.string_bytes}
use Rattle.w16_store.specs.Names.{is_named}
use Rattle.w16_store.proofs.folder.listed_as.Given as goal

abbrev pub invariant-loop-listed : goal.invariant-loop-listed
invariant-loop-listed l = find (λ n. is_named n l.name) (map string_bytes (drop l.listed-index l.names)) ≡ find (λ n. is_named n l.name) (map string_bytes l.names)
