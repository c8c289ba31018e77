-- Each module leads on, and after the last place none is left.
use Rattle.w16_loader.proofs
use proofs.Common.{[], map, subst, found_in, AreAccepted, IsFault, LeadsBy, RefusesBy, answers_of, ◌+◌, ◌≤◌, ◌∙◌, refl, arith, MOST_MODULES, free_modules, reached_of}
use proofs.Closings.{all_followed, nowhere, refused_through, through}
use proofs.{Followings.few_free, Few.few_through, Few.few_same}
use Rattle.w16_loader.proofs.Followings as old
use Rattle.w16_loader.proofs.closure.Closure.follow_all.Goals as goal

pub loop-place-preserved : goal.loop-place-preserved
loop-place-preserved g c = record {
  files = c.in-Ok.ensures.stays.same ∙ c.loop-place.invariant.files;
  failures = omega (arith, c.in-Ok.ensures.stays.counted, c.loop-place.invariant.failures);
  few = few_through _ _ c.loop-place.self.found.items _ c.loop-place.invariant.few c.in-Ok.ensures.few;
  accepted = λ all. subst (λ fs. AreAccepted (answers_of g.S.Store.is_honest fs) (map (found_in []) c.loop-place.self.found.items) → AreAccepted (answers_of g.S.Store.is_honest fs) (map (found_in []) c.follow_module.new.self.found.items)) c.loop-place.invariant.files
      c.in-Ok.ensures.accepted (c.loop-place.invariant.accepted all);
  answered = through (answers_of _ _) _ c.loop-place.self.found.items _ c.in-Ok.ensures.few.since (reached_of 0 0 c.args.self.now) (reached_of _ 0 c.loop-place.self)
      (reached_of _ 0 c.follow_module.new.self) c.in-Ok.ensures.few.kept c.loop-place.invariant.answered
      (subst (λ fs. LeadsBy (answers_of g.S.Store.is_honest fs) c.args.registry.now c.follow_module.new.self.found.items (reached_of c.loop-place.place 0 c.loop-place.self) (reached_of (c.loop-place.place + 1) 0 c.follow_module.new.self))
      c.loop-place.invariant.files c.in-Ok.ensures.leads);
}

pub returns-clause-few : goal.returns-clause-few
returns-clause-few g c = c.loop-place.invariant.few

pub loop-place-init : goal.loop-place-init
loop-place-init g c = record {
  files = refl;
  failures = omega arith;
  few = few_same _ _;
  accepted = λ all. all;
  answered = nowhere (answers_of _ _) _ _ (reached_of 0 0 c.args.self.now);
}

pub returns-clause-leads : goal.returns-clause-leads
returns-clause-leads g c =
    let most : MOST_MODULES ≤ c.loop-place.place = omega (arith, c.from-place-end.ensures, c.loop-place-test.false) in
    let free = few_free c.args.registry.now in
    all_followed (answers_of _ _) _ c.loop-place.place (reached_of 0 0 c.args.self.now) c.loop-place.self
    (c.loop-place.invariant.few.few _ (omega (arith, most, free)) (omega (arith, most, c.requires))) c.loop-place.invariant.answered

pub returns-clause-accepted : goal.returns-clause-accepted
returns-clause-accepted g c = c.loop-place.invariant.accepted

pub returns-in-Err-clause-refused : goal.returns-in-Err-clause-refused
returns-in-Err-clause-refused g c =
    refused_through _ _ _ 0 0 c.args.self.now c.loop-place.self.found.items c.loop-place.invariant.few.since (reached_of _ 0 c.loop-place.self) c.loop-place.invariant.few.kept
    c.loop-place.invariant.accepted c.loop-place.invariant.answered _ _ _ c.loop-place.invariant.failures _
    (subst (λ fs. IsFault (RefusesBy (answers_of g.S.Store.is_honest fs) c.args.registry.now c.loop-place.self.found.items (reached_of c.loop-place.place 0 c.loop-place.self)) (g.S.Store.failures c.loop-place.store) (g.S.Store.failures c.follow_module.new.store) c.in-Err.fault)
    c.loop-place.invariant.files c.in-Err.ensures.refused)
