-- A use ends, what nobody uses goes, and the handle is looked up.
use Rattle.w16_loader.proofs.Common.{with_handles, named_of, in_world}
use Rattle.w16_loader.proofs.Endings.{ends, still_names}
use Rattle.w16_loader.proofs.ending.free.Goals as goal

pub returns-clause-ends : goal.returns-clause-ends
returns-clause-ends g c = λ rest.
    ends _ (in_world (with_handles rest _) _)
    _ _ _
    (c.end_use.ensures (with_handles rest _)) (c.release_idle.ensures.go rest)
    (still_names c.get.result (λ e. named_of e.now) c.release_idle.new.registry c.args.handle c.is_some.result c.from.result c.get.ensures c.is_some.ensures c.from.ensures)
