-- After the list there is no load.
use Rattle.w16_resource.proofs.{Common.arith, Listed.none_behind}
use Rattle.w16_resource.proofs.resources.Resources.end.Goals as goal

pub returns-clause-all : goal.returns-clause-all
returns-clause-all g c = λ slot le. rw (← c.self.view_is) (none_behind c.self.inside.loads.items slot (omega arith))
