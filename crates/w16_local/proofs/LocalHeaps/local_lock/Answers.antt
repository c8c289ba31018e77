use Rattle.w16_local.proofs.Common.{IsSomeAnd, subst, sym, MayStep, Lock}
use Rattle.w16_local.proofs.Stepping.{lock_calls, lock_none}
use Rattle.w16_local.proofs.LocalHeaps.local_lock.Goals as goal

pub returns-in_default : goal.returns-in_default
returns-in_default g c = lock_none c.args.global.now.handles c.args.self.now c.args.ds c.args.name c.in_default.ensures.none

pub returns : goal.returns
returns g c =
    let n = c.in-Some.ensures.some in
    lock_calls n _ (c.place_of-pointer.ensures n.heap.bytes n.heap.over) c.step-done.result c.step-done.new.self c.step-done.ensures.stepped c.step-done.ensures.refused _ c.lock_answer.ensures

pub step-done-requires : goal.step-done-requires
step-done-requires g c = let n = c.in-Some.ensures.some in subst (λ m. IsSomeAnd m (MayStep Lock c.in-Some.field-0.id)) (sym n.heap.kept) tt
