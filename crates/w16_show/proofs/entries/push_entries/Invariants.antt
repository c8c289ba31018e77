use Rattle.std.proofs.Common.{◌≡◌, ◌++◌, ◌+◌, drop, string_bytes}
use Rattle.w16_show.specs.{Numbered.numbered, Text.entry_text}
use Rattle.w16_show.proofs.entries.push_entries.Given as goal

abbrev pub invariant-loop-i : goal.invariant-loop-i
invariant-loop-i l = string_bytes l.out ++ numbered entry_text (l.i + 1) (drop l.i l.tables.entries) ≡ string_bytes l.initial.out ++ numbered entry_text 1 l.tables.entries
