use Rattle.std.proofs.Common.{◌≡◌, ◌+◌, ◌*◌, ◌≤◌, ◌^◌, drop}
use Rattle.std.specs.List.{sum_by}
use Rattle.w16_ne.specs.Modules.{listed_resources}
use Rattle.w16_show.proofs.extract.Resources.total.Given as goal

abbrev pub invariant-loop-i : goal.invariant-loop-i
invariant-loop-i l =
    (l.total + sum_by (λ r. r.1.len) (drop l.i (listed_resources l.self.resources)) ≡ sum_by (λ r. r.1.len) (listed_resources l.self.resources)) × (l.total ≤ l.i * 2 ^ 32)
