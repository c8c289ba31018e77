use Rattle.w16_local.proofs.Common.{IsSomeAnd, subst, sym, MayStep, Unlock}
use Rattle.w16_local.proofs.Stepping.{unlock_calls, unlock_none}
use Rattle.w16_local.proofs.LocalHeaps.local_unlock.Goals as goal

pub returns-in_default : goal.returns-in_default
returns-in_default g c = unlock_none c.args.global.now.handles c.args.self.now c.args.ds c.args.name c.in_default.ensures.none

pub returns : goal.returns
returns g c =
    let n = c.in-Some.ensures.some in
    unlock_calls n _ (c.locks_of-locks.ensures n.heap.bytes n.heap.over) c.step-done.result c.step-done.new.self c.step-done.ensures.stepped c.step-done.ensures.refused _ c.unlock_answer.ensures

pub step-done-requires : goal.step-done-requires
step-done-requires g c = let n = c.in-Some.ensures.some in subst (λ m. IsSomeAnd m (MayStep Unlock c.in-Some.field-0.id)) (sym n.heap.kept) tt
