use Rattle.std.proofs.Common.{refl, inr, rules}
use Rattle.std.proofs.lemmas.Result.{MatchResult-from_both}
use Rattle.w16_command.proofs.playing.run_flushed.Goals as goal

pub returns-then-is_err-clause-plays : goal.returns-then-is_err-clause-plays
returns-then-is_err-clause-plays g c = record {
  ended = _;
  written = _;
  ran = MatchResult-from_both c.run-ended.result _ _ c.run-ended.ensures.ok c.run-ended.ensures.err;
  kept = c.flush.ensures.bytes;
  answers = search rules;
}

pub returns-then-is_err-clause-flushed : goal.returns-then-is_err-clause-flushed
returns-then-is_err-clause-flushed g c = λ other. absurd (other refl)

pub returns-in-Ok-clause-plays : goal.returns-in-Ok-clause-plays
returns-in-Ok-clause-plays g c = record {
  ended = _;
  written = _;
  ran = MatchResult-from_both c.run-ended.result _ _ c.run-ended.ensures.ok c.run-ended.ensures.err;
  kept = c.flush.ensures.bytes;
  answers = rw c.in-Ok.is refl;
}

pub returns-in-Err-clause-plays : goal.returns-in-Err-clause-plays
returns-in-Err-clause-plays g c = record {
  ended = _;
  written = _;
  ran = MatchResult-from_both c.run-ended.result _ _ c.run-ended.ensures.ok c.run-ended.ensures.err;
  kept = c.flush.ensures.bytes;
  answers = inr (rw c.in-Err.is (c.run-ended.new.reader.fault, c.of_run.ensures));
}
