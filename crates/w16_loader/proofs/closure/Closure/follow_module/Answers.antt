-- Each reference leads on, and the last to the next module.
use Rattle.w16_loader.proofs
use proofs.Common.{[], map, found_in, AreAccepted, IsFault, LeadsBy, RefusesBy, answers_of, ◌≡◌, ◌+◌, ◌-◌, ◌∙◌, refl, ap, sym, length, subst, arith, reached_of}
use proofs.Few.{few_through, few_same}
use proofs.Closings.{module_followed, nowhere, refused_through, through}
use Rattle.w16_loader.proofs.Followings as old
use Rattle.w16_loader.proofs.closure.Closure.follow_module.Goals as goal

pub loop-done-preserved : goal.loop-done-preserved
loop-done-preserved g c = record {
  files = c.in-Ok.ensures.stays.same ∙ c.loop-done.invariant.files;
  failures = omega (arith, c.in-Ok.ensures.stays.counted, c.loop-done.invariant.failures);
  same = c.in-Ok.ensures.same ∙ c.loop-done.invariant.same;
  few = few_through _ _ c.loop-done.self.found.items _ c.loop-done.invariant.few c.in-Ok.ensures.few;
  accepted = λ all. subst (λ fs. AreAccepted (answers_of g.S.Store.is_honest fs) (map (found_in []) c.loop-done.self.found.items) → AreAccepted (answers_of g.S.Store.is_honest fs) (map (found_in []) c.follow_reference.new.self.found.items)) c.loop-done.invariant.files
      c.in-Ok.ensures.accepted (c.loop-done.invariant.accepted all);
  answered =
      let back : c.loop-done.done + 1 - 1 ≡ c.loop-done.done = omega arith in
      through (answers_of _ _) _ c.loop-done.self.found.items _ c.in-Ok.ensures.few.since (reached_of _ 0 c.args.self.now) (reached_of _ _ c.loop-done.self)
      (reached_of _ _ c.follow_reference.new.self) c.in-Ok.ensures.few.kept c.loop-done.invariant.answered
      (subst (λ n. LeadsBy (answers_of _ (g.S.Store.files c.args.store.now)) c.args.registry.now c.follow_reference.new.self.found.items (reached_of c.args.place n c.loop-done.self) (reached_of c.args.place (c.loop-done.done + 1) c.follow_reference.new.self)) back
      (subst (λ fs. LeadsBy (answers_of g.S.Store.is_honest fs) c.args.registry.now c.follow_reference.new.self.found.items (reached_of c.args.place (c.loop-done.done + 1 - 1) c.loop-done.self) (reached_of c.args.place (c.loop-done.done + 1) c.follow_reference.new.self))
      c.loop-done.invariant.files c.in-Ok.ensures.leads));
}

pub returns-clause-few : goal.returns-clause-few
returns-clause-few g c = c.loop-done.invariant.few

pub loop-done-init : goal.loop-done-init
loop-done-init g c = record {
  files = refl;
  failures = omega arith;
  same = refl;
  few = few_same _ _;
  accepted = λ all. all;
  answered = nowhere (answers_of _ _) _ _ (reached_of _ 0 c.args.self.now);
}

pub returns-clause-leads : goal.returns-clause-leads
returns-clause-leads g c =
    let end : c.loop-done.done ≡ c.reference_count-count.result = omega arith in
    module_followed (answers_of _ _) _
    c.args.place c.loop-done.done (reached_of _ 0 c.args.self.now) c.loop-done.self
    (end ∙ c.reference_count-count.ensures ∙ ap length (sym c.loop-done.invariant.same))
    c.loop-done.invariant.answered

pub returns-clause-accepted : goal.returns-clause-accepted
returns-clause-accepted g c = c.loop-done.invariant.accepted

pub returns-in-Err-clause-refused : goal.returns-in-Err-clause-refused
returns-in-Err-clause-refused g c =
    let back : c.loop-done.done + 1 - 1 ≡ c.loop-done.done = omega arith in
    refused_through _ _ _ _ 0 c.args.self.now c.loop-done.self.found.items c.loop-done.invariant.few.since (reached_of _ _ c.loop-done.self) c.loop-done.invariant.few.kept
    c.loop-done.invariant.accepted c.loop-done.invariant.answered _ _ _ c.loop-done.invariant.failures _
    (subst (λ n. IsFault (RefusesBy (answers_of _ (g.S.Store.files c.args.store.now))
    c.args.registry.now c.loop-done.self.found.items (reached_of c.args.place n c.loop-done.self))
    (g.S.Store.failures c.loop-done.store) (g.S.Store.failures c.follow_reference.new.store) c.in-Err.fault) back
    (subst (λ fs. IsFault (RefusesBy (answers_of g.S.Store.is_honest fs) c.args.registry.now c.loop-done.self.found.items (reached_of c.args.place (c.loop-done.done + 1 - 1) c.loop-done.self)) (g.S.Store.failures c.loop-done.store) (g.S.Store.failures c.follow_reference.new.store) c.in-Err.fault)
    c.loop-done.invariant.files c.in-Err.ensures.refused))
