use Rattle.w16_script.proofs.Common.{◌≡◌, ℕ, ◌+◌, ◌≤◌, List, ◌++◌, length, IsWithinLimits, room_of, Feeds, progress_of, state_of}
use Rattle.w16_script.proofs.feed.feed.Given as goal

-- the front of the piece was fed
abbrev pub invariant-lines : goal.invariant-lines
invariant-lines g l = record {
  fed : (done : List ℕ) × (l.piece ≡ done ++ l.rest)
      × Feeds g.K.Machine.steps (g.W.Write.contents l.initial.writer) (progress_of l.initial.state) (state_of l.initial.state (g.K.Machine.world l.initial.kernel)) done (g.W.Write.contents l.writer) (progress_of l.state) (state_of l.state (g.K.Machine.world l.kernel))
      × (room_of (progress_of l.state) + length done ≤ room_of (progress_of l.initial.state));
  fits : IsWithinLimits (progress_of l.state);
}

abbrev pub decreases-lines : goal.decreases-lines
decreases-lines g l = length l.rest
