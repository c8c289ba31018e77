use Rattle.w16_script.proofs.Common.{◌≡◌, ◌*◌, ◌++◌, take, drop, encode_lower}
use Rattle.w16_script.proofs.bytes.encode.Given as goal

-- the digits of the bytes up to here stand in the text
abbrev pub invariant-bytes : goal.invariant-bytes
invariant-bytes l = take (2 * l.at) l.text ++ encode_lower (drop l.at l.bytes) ≡ encode_lower l.bytes
