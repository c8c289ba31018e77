use Rattle.w16_model.proofs.CallLaws.{slots_law}
use Rattle.w16_laws.proofs.CallLaws.{contents_law}
use Rattle.w16_laws.proofs.model.calls_keep_contents.Goals as goal

pub returns-clause-contents : goal.returns-clause-contents
returns-clause-contents c = contents_law

pub returns-clause-slots : goal.returns-clause-slots
returns-clause-slots c = slots_law
