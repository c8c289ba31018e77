use Rattle.w16_script.proofs.Common.{◌≡◌, ℕ, List, length, Consumes, start, fresh, IsWithinLimits, room_of, Feeds, progress_of, state_of}
use Rattle.w16_script.proofs.script.run_over.Given as goal

-- what was read so far was fed
abbrev pub invariant-pieces : goal.invariant-pieces
invariant-pieces g l = record {
  fed : (text : List ℕ) × Consumes (g.R.Read.remaining l.initial.reader) (g.R.Read.remaining l.reader) text
      × Feeds g.K.Machine.steps (g.W.Write.contents l.initial.writer) fresh (start (g.K.Machine.world l.initial.kernel)) text (g.W.Write.contents l.writer) (progress_of l.state) (state_of l.state (g.K.Machine.world l.kernel));
  fits : IsWithinLimits (progress_of l.state);
  size : length l.buffer ≡ 65536;
}

abbrev pub decreases-pieces : goal.decreases-pieces
decreases-pieces g l = room_of (progress_of l.state)
