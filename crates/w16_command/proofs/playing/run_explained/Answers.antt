use Rattle.std.proofs.Common.{refl, inl, inr}
use Rattle.std.proofs.KnownBytes.{Keeps-refl}
use Rattle.w16_command.proofs.playing.run_explained.Goals as goal

pub returns-in_default-clause-plays : goal.returns-in_default-clause-plays
returns-in_default-clause-plays g c = inr (refl, Keeps-refl _)

pub returns-clause-plays : goal.returns-clause-plays
returns-clause-plays g c = inl (g.R.Read.remaining c.run_flushed.new.source.reader, c.run_flushed.new.kernel.kernel, rw c.new-3.ensures at c.run_flushed.ensures.plays)
