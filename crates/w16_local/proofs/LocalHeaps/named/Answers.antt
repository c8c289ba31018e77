use Rattle.w16_local.proofs.LocalHeaps.named.Goals as goal

pub returns-clause-some : goal.returns-clause-some
returns-clause-some g c = let some = c.in_ok-current.ensures.some in record { heap = some; has = c.in_ok-id.ensures some.bytes some.over }
