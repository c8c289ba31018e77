-- One module more is bound.
use Rattle.w16_loader.proofs
use proofs.Common as C
use proofs.Bindings as M
use proofs.Common.{◌∷◌, ◌<◌, ◌≤◌, [], drop, length, sym, ap, ◌∙◌, subst, arith}
use proofs.{Values.fault_so, Bindings.step}
use Rattle.std.specs.FinMap as finmap
use Rattle.w16_loader.proofs.binding.bind_modules.Goals as goal

pub loop-place-preserved : goal.loop-place-preserved
loop-place-preserved g c =
    let old = c.args.registry.now in
    let now = c.loop-place.registry in
    let next = c.bind_module.new.registry in
    let handles = c.args.handles.now in
    let place = c.loop-place.place in
    let handle = C.get_or handles place 0 in
    let files = g.S.Store.files _ in
    let before = c.loop-place.invariant in
    let lt : place < length handles = omega arith in
    let here = C.drop_more handles place 0 lt in
    let ts = c.in-Ok.ensures.any in
    record {
      files = c.in-Ok.ensures.stays.same ∙ before.files;
      failures = omega (arith, c.in-Ok.ensures.stays.counted, before.failures);
      values = M.still_alike old now next handles place handle here before.values ts.0 ts.2;
      others = λ q none. M.others_next old now next handles place handle here before.values ts.0 ts.2 q none (before.others q none);
      any = λ more are.
          (let b = before.any _ (M.targets_left old now next handles place handle here before.values ts.0 ts.1 more are) in (
            b.0,
            b.1,
            b.2 ∙ step old now next handles place handle here before.values ts.0 ts.2 more,
            λ reads honest said rest.
                (let read = M.read_here old now next handles place handle here before.values files reads said lt in
                let is = M.said_here old now next handles place handle here before.values files reads said lt in
                let still = subst (λ fs. C.IsSomeAnd (C.module_at now handle) (λ m. C.IsSaid fs m read)) (sym before.files) is in
                b.3 reads honest said (M.targets_next old now next handles place handle here before.values files reads said lt ts.0 more (ts.3 read honest still) rest)),
          ));
    }

pub returns-in-Err-clause-values : goal.returns-in-Err-clause-values
returns-in-Err-clause-values g c = λ q. ap (λ modules. C.without_values (finmap.get modules q)) c.in-Err.ensures.err ∙ c.loop-place.invariant.values q

pub returns-in-Err-clause-others : goal.returns-in-Err-clause-others
returns-in-Err-clause-others g c = λ q none. ap (λ modules. finmap.get modules q) c.in-Err.ensures.err ∙ c.loop-place.invariant.others q none

pub returns-in-Err-clause-faults : goal.returns-in-Err-clause-faults
returns-in-Err-clause-faults g c = λ reads honest said.
    let old = c.args.registry.now in
    let now = c.loop-place.registry in
    let handles = c.args.handles.now in
    let place = c.loop-place.place in
    let handle = C.get_or handles place 0 in
    let files = g.S.Store.files _ in
    let before = c.loop-place.invariant in
    let lt : place < length handles = omega arith in
    let here = C.drop_more handles place 0 lt in
    let read = M.read_here old now now handles place handle here before.values files reads said lt in
    let is = M.said_here old now now handles place handle here before.values files reads said lt in
    let still = subst (λ fs. C.IsSomeAnd (C.module_at now handle) (λ m. C.IsSaid fs m read)) (sym before.files) is in
    c.fault_at.ensures.failure _ _ (fault_so (λ refusal h. h) _ _ _ c.in-Err.fault before.failures (c.in-Err.ensures.failed read honest still))

pub returns-clause-any : goal.returns-clause-any
returns-clause-any g c =
    let old = c.args.registry.now in
    let past : length c.args.handles.now ≤ c.loop-place.place = omega arith in
    let none = C.drop_all _ _ past in
    let all = c.loop-place.invariant.any [] (subst (λ hs. C.AreTargets old hs []) (sym none) tt) in (
      all.0,
      all.1,
      sym (all.2 ∙ M.none_left (finmap.get old) _ _ [] none),
      λ reads honest said. all.3 reads honest said (sym (ap M.targets_in_all (C.drop_all _ reads (M.no_more _ reads _ said _ past)))),
    )

pub returns-clause-bound : goal.returns-clause-bound
returns-clause-bound g c = λ reads honest said.
    let all = returns-clause-any g c in all.2 ∙ ap (C.all_bound (finmap.get _) c.args.registry.now c.args.handles.now) (all.3 reads honest said)
