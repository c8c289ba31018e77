-- The handles so far are counted anew, and the others as they were.
use Rattle.w16_loader.proofs.Common.{◌≡◌, ℕ, ◌+◌, ◌<◌, ◌≤◌, length, slice_index, counted_of}
use Rattle.w16_loader.proofs.counts.recount.Given as goal

abbrev pub invariant-loop-handle : goal.invariant-loop-handle
invariant-loop-handle g l = record {
  many : length l.counts.items ≡ 233;
  done : (q : ℕ) → q < l.handle → slice_index l.counts.items q + counted_of l.own l.fn.before q ≡ slice_index l.initial.counts.items q + counted_of l.own l.fn.after q;
  left : (q : ℕ) → l.handle ≤ q → slice_index l.counts.items q ≡ slice_index l.initial.counts.items q;
}
