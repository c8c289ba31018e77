use Rattle.std.proofs.Common.{◌≡◌, ◌++◌, drop, string_bytes}
use Rattle.w16_show.specs.{Numbered.numbered, Text.name_text}
use Rattle.w16_show.proofs.entries.push_names.Given as goal

abbrev pub invariant-loop-i : goal.invariant-loop-i
invariant-loop-i l =
    string_bytes l.out ++ numbered (name_text l.tables.resident) l.i (drop l.i l.tables.names) ≡ string_bytes l.initial.out ++ numbered (name_text l.tables.resident) 0 l.tables.names
