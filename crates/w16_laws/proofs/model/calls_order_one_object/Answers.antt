use Rattle.w16_laws.proofs.CallLaws.{use_law, new_object_law, unordered_law, others_order_law}
use Rattle.w16_laws.proofs.model.calls_order_one_object.Goals as goal

pub returns-clause-uses : goal.returns-clause-uses
returns-clause-uses c = use_law

pub returns-clause-allocated : goal.returns-clause-allocated
returns-clause-allocated c = new_object_law

pub returns-clause-unordered : goal.returns-clause-unordered
returns-clause-unordered c = unordered_law

pub returns-clause-others : goal.returns-clause-others
returns-clause-others c = others_order_law
