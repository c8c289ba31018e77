use Rattle.w16_script.proofs.Common.{◌≡◌, drop, list_all, place_value, is_digit}
use Rattle.w16_script.proofs.NumberLemmas.{value_behind}
use Rattle.w16_script.proofs.number.digits.Given as goal

abbrev pub invariant-loop-byte : goal.invariant-loop-byte
invariant-loop-byte l = record {
  value : value_behind l.base l.value (drop l.byte-index l.text) ≡ place_value l.base l.text;
  digits : list_all (is_digit l.base) (drop l.byte-index l.text) ≡ list_all (is_digit l.base) l.text;
}
