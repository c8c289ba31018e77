use Rattle.w16_region.proofs.Common.{◌-◌, ◌≡◌, ◌≤◌, part, put_part}
use Rattle.w16_region.proofs.storage.slide_down.Given as goal

abbrev pub invariant-loop-done : goal.invariant-loop-done
invariant-loop-done l = record {
  done : l.done ≤ l.size;
  is : l.bytes ≡ put_part l.fn.bytes l.to (part l.fn.bytes l.from l.done);
}

abbrev pub decreases-loop-done : goal.decreases-loop-done
decreases-loop-done l = l.size - l.done
