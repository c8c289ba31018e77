use Rattle.w16_script.proofs.{Common.IfErr-weaker, WholeLemmas.Fails-later}
use Rattle.w16_script.proofs.script.run.Goals as goal

pub returns-clause-err : goal.returns-clause-err
returns-clause-err g c = IfErr-weaker c.run_over.result _ _ (λ fault (text, consumed, fails). (text, consumed, Fails-later _ _ _ _ text fault _ _ fails)) c.run_over.ensures.err
