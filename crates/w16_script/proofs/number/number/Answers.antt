use Rattle.w16_script.proofs.{ArgumentLemmas.IfNone-weaker, OneNumberLemmas.no_number}
use Rattle.w16_script.proofs.number.number.Goals as goal

pub returns-in-None-clause-none : goal.returns-in-None-clause-none
returns-in-None-clause-none c = IfNone-weaker c.literal.result (no_number c.args.registers.now c.args.word.now c.in-None.ensures.none) c.literal.ensures.none
