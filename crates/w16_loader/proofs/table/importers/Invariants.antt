-- Those that are counted, and those among the places that are left, are all.
use Rattle.w16_loader.proofs.Common.{◌≡◌, ◌+◌, ◌≤◌, importers_among, listed}
use Rattle.w16_loader.proofs.Listed.{listed_from}
use Rattle.w16_loader.proofs.table.importers.Given as goal

abbrev pub invariant-loop-other : goal.invariant-loop-other
invariant-loop-other g l = record {
  counted : l.importers + importers_among (listed_from l.other l.entries) l.handle ≡ importers_among (listed l.entries) l.handle;
  few : l.importers ≤ l.other;
}
