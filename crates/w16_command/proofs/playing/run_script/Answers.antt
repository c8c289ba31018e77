use Rattle.std.proofs.Common.{refl, inl, inr}
use Rattle.std.proofs.KnownBytes.{Keeps-refl}
use Rattle.w16_command.proofs.playing.run_script.Goals as goal

pub returns-in-Ok-clause-plays : goal.returns-in-Ok-clause-plays
returns-in-Ok-clause-plays g c = rw c.in-Ok.ensures.ok at c.run_explained.ensures.plays

pub returns-in-Ok-2-clause-plays : goal.returns-in-Ok-2-clause-plays
returns-in-Ok-2-clause-plays g c = inl (g.R.Read.remaining c.run_flushed.new.source.reader, c.run_flushed.new.kernel, rw (c.new.ensures, c.in-Ok.ensures.ok) at c.run_flushed.ensures.plays)

pub returns-in-Err-clause-plays : goal.returns-in-Err-clause-plays
returns-in-Err-clause-plays g c = inr (rw c.in-Err.ensures.err refl, Keeps-refl _)
