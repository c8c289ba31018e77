use Rattle.w16_kernel.proofs
use proofs.Common as C
use proofs.Common.{List, sym, subst, arith, Call}
use proofs.Running.{Ran, ran_none, none_done, ran_all, ran_more, ran_stops}
use Rattle.w16_kernel.specs.declared.call.Call.TheVariants.{GlobalAlloc}
use Rattle.w16_kernel.proofs.kernel.Kernel.run_calls.Goals as goal

pub loop-call-init : goal.loop-call-init
loop-call-init g c =
    let count = c.in_ok-answers.ensures.len in let room = c.in_ok-answers.ensures.capacity in
    record { count = omega arith; room = omega arith; ran = ran_none _ _ _ c.in_ok-answers.ensures.items }

pub loop-call-preserved : goal.loop-call-preserved
loop-call-preserved g c =
    let i = c.loop-call.call-index in
    let calls = c.args.calls.now in
    let first : Call = GlobalAlloc (record { 0 = 0 }) 0 in
    let call = C.get_or calls i first in
    let step = rw (← c.of.ensures) at c.in_ok-reply.ensures.step in
    let promises = rw (← c.of.ensures) at c.in_ok-reply.ensures.promises in
    let longer = ran_more _ _ _ _ _ call c.of.result _ c.loop-call.invariant.ran step promises in
    let longest = c.push_reserved.ensures.capacity in let one = c.push_reserved.ensures.len in let count = c.loop-call.invariant.count in let room = c.loop-call.invariant.room in
    record {
      count = omega arith;
      room = omega arith;
      ran = subst (λ (cs : List Call). Ran (C.KernelStep g.S.Store.is_honest) c.args.self.now cs c.push_reserved.new.self.items c.call.new.self)
          (sym (C.take_more calls i first (omega arith))) (rw c.push_reserved.ensures.items longer);
    }

pub returns-in_err-answers-clause-refused : goal.returns-in_err-answers-clause-refused
returns-in_err-answers-clause-refused g c = C.on_any c.from_residual.result _ (none_done _ _ _)

pub push_reserved-requires : goal.push_reserved-requires
push_reserved-requires g c = let more = c.loop-call-test.true in let count = c.loop-call.invariant.count in let room = c.loop-call.invariant.room in omega arith

pub returns-clause-run : goal.returns-clause-run
returns-clause-run g c =
    ran_all _ _ _ _ _ _ (let past = c.loop-call-test.false in omega arith) c.loop-call.invariant.ran

pub returns-in_err-reply-clause-refused : goal.returns-in_err-reply-clause-refused
returns-in_err-reply-clause-refused g c =
    let i = c.loop-call.call-index in
    let calls = c.args.calls.now in
    let next = C.slice_get-get_or calls i (GlobalAlloc (record { 0 = 0 }) 0) (omega arith) in
    let wanted = subst (λ p. C.IsSomeAnd p (λ (call : Call). C.TakesMemory c.loop-call.self (C.command_of call))) (sym next) c.in_err-reply.ensures.wanted in
    C.on_any c.from_residual-in_err-reply.result _ (ran_stops _ _ _ _ _ _ _ c.loop-call.invariant.ran wanted c.in_err-reply.ensures.refused)
