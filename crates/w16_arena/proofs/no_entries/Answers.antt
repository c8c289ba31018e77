use Rattle.w16_arena.proofs.Common.{rules, IfOk-weaker}
use Rattle.w16_arena.proofs.no_entries.Goals as goal

pub returns : goal.returns
returns g c = IfOk-weaker c.vec.result _ _ (λ entries items. items (λ y h. search rules)) c.vec.ensures.items_if_clones_equal
