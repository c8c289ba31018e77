use Rattle.std.proofs.Common.{◌≡◌, ◌++◌, take, string_bytes}
use Rattle.std.specs.{Char.encode_utf8, List.flat_map}
use Rattle.json.specs.Print.{escape}
use Rattle.w16_show.proofs.json_values.push_characters.Given as goal

abbrev pub invariant-loop-byte : goal.invariant-loop-byte
invariant-loop-byte l = string_bytes l.out ≡ string_bytes l.initial.out ++ flat_map (λ b. escape (encode_utf8 b)) (take l.byte-index l.bytes)
