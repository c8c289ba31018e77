use Rattle.std.proofs.Common.{◌≡◌, drop}
use Rattle.w16_store.specs.Names.{name_cmp}
use Rattle.w16_store.proofs.name.compare_names.Given as goal

abbrev pub invariant-loop-i : goal.invariant-loop-i
invariant-loop-i l = name_cmp (drop l.i l.name) (drop l.i l.other) ≡ name_cmp l.name l.other
