use Rattle.w16_model.proofs.AtEnds.{answer_law}
use Rattle.w16_laws.proofs.model.answers_are_told_before.Goals as goal

pub returns : goal.returns
returns c = answer_law
