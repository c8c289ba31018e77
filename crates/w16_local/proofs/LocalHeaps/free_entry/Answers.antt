use Rattle.w16_local.proofs.Common.{IfNone, IfSome, IsSomeAnd, ap, is_some, subst, sym, ◌∙◌, false≢true, IsFull, IsLowest}
use Rattle.w16_local.proofs.LocalHeaps.free_entry.Goals as goal

pub unreachable-requires : goal.unreachable-requires
unreachable-requires g c = false≢true (sym (ap is_some c.in_default.ensures.none) ∙ c.requires)

pub returns-clause-found : goal.returns-clause-found
returns-clause-found g c = subst (λ m. IfSome c.lowest_free.result (λ id. IsSomeAnd m (λ t. IsLowest t id))) (sym c.in-Some.ensures.some) c.lowest_free.ensures.found

pub returns-clause-none : goal.returns-clause-none
returns-clause-none g c = subst (λ m. IfNone c.lowest_free.result (IsSomeAnd m IsFull)) (sym c.in-Some.ensures.some) c.lowest_free.ensures.none
