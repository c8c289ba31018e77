use Rattle.w16_region.proofs.Common.{◌+◌, ◌-◌, ◌≡◌, ◌≤◌, part, put_part}
use Rattle.w16_region.proofs.storage.slide_up.Given as goal

abbrev pub invariant-loop-left : goal.invariant-loop-left
invariant-loop-left l = record {
  left : l.left ≤ l.size;
  is : l.bytes ≡ put_part l.fn.bytes (l.to + l.left) (part l.fn.bytes (l.from + l.left) (l.size - l.left));
}

abbrev pub decreases-loop-left : goal.decreases-loop-left
decreases-loop-left l = l.left
