use Rattle.w16_reloc.proofs.Common.{◌≢◌, ℕ, ◌+◌, ◌*◌, ◌<◌, bit_and, get_or}
use Rattle.w16_reloc.proofs.records.import_by_name.Given as goal

abbrev pub invariant-loop-i : goal.invariant-loop-i
invariant-loop-i l = (k : ℕ) → k < l.i → bit_and (get_or l.table (8 * k + 1) 0) 3 ≢ 2
