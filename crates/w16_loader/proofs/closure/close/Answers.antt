-- What is reached of the module asked for alone is how its closure begins.
use Rattle.w16_loader.proofs.Common.{[], map, sym, found_in, AreAccepted, answers_of, length, ap, subst, arith, free_modules}
use Rattle.w16_loader.proofs.Closings.{closes_by, refused_of}
use Rattle.w16_loader.proofs.closure.close.Goals as goal

pub returns-in-Ok-follow_all-clause-few : goal.returns-in-Ok-follow_all-clause-few
returns-in-Ok-follow_all-clause-few g c = λ left. c.in-Ok-follow_all.ensures.few.few _ (omega arith) (omega (arith, left, ap length c.in-Ok.ensures.found))

pub returns-in-Err-clause-refused : goal.returns-in-Err-clause-refused
returns-in-Err-clause-refused g c = λ accepted.
    refused_of (answers_of _ _) c.args.registry.now c.in-Ok.closure c.args.first c.in-Ok.ensures.found c.in-Ok.ensures.bound accepted _ _ _ c.in-Err.ensures.refused

pub returns-in-Ok-follow_all-clause-closes : goal.returns-in-Ok-follow_all-clause-closes
returns-in-Ok-follow_all-clause-closes g c =
    closes_by (answers_of _ _) _ c.in-Ok.closure
    c.args.first c.in-Ok.ensures.found c.in-Ok.ensures.bound c.follow_all.new.self
    c.in-Ok-follow_all.ensures.few.since c.in-Ok-follow_all.ensures.few.kept c.in-Ok-follow_all.ensures.leads

pub returns-in-Ok-follow_all-clause-accepted : goal.returns-in-Ok-follow_all-clause-accepted
returns-in-Ok-follow_all-clause-accepted g c = λ accepted.
    c.in-Ok-follow_all.ensures.accepted (subst (λ xs. AreAccepted (answers_of g.S.Store.is_honest (g.S.Store.files c.args.store.now)) (map (found_in []) xs)) (sym c.in-Ok.ensures.found) (accepted, tt))
