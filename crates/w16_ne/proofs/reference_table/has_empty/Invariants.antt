use Rattle.w16_ne.proofs.Common.{◌≡◌, ◌==◌, length, map, drop, list_any, text_in}
use Rattle.w16_ne.proofs.reference_table.has_empty.Given as goal

abbrev pub invariant-loop-offset : goal.invariant-loop-offset
invariant-loop-offset l = list_any (λ text. length text == 0) (map (text_in l.texts) (drop l.offset-index l.offsets)) ≡ list_any (λ text. length text == 0) (map (text_in l.texts) l.offsets)
