use Rattle.std.proofs.Common.{◌≡◌, take, string_bytes}
use Rattle.w16_show.specs.Words.{characters}
use Rattle.w16_show.proofs.json_values.text_value.Given as goal

abbrev pub invariant-loop-byte : goal.invariant-loop-byte
invariant-loop-byte l = string_bytes l.text ≡ characters (take l.byte-index l.bytes)
