use Rattle.std.proofs.Common.{◌≡◌, ◌++◌, drop, map, nat_lt, string_bytes}
use Rattle.serde_json.specs.{View.items_of, Written.items_text, Written.compact_text}
use Rattle.w16_show.specs.Json.{n, list}
use Rattle.w16_show.proofs.json_values.push_offsets.Given as goal

abbrev pub invariant-loop-i : goal.invariant-loop-i
invariant-loop-i l = string_bytes l.out ++ items_text (nat_lt 0 l.i) (items_of (map n (drop l.i l.offsets))) ≡ string_bytes l.fn.out ++ compact_text (list (map n l.offsets))
