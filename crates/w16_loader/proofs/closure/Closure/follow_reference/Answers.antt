-- A reference that is followed is the next of those that are left.
use Rattle.w16_loader.proofs.{Common.answers_of, Common.ap, Common.◌∙◌, Common.references_at, Followings.indexed, Followings.same_after, Few.few_after, Closings.accepts_more, Closings.leads_on, Closings.refused_at}
use Rattle.w16_loader.proofs.closure.Closure.follow_reference.Goals as goal

pub returns-in-Ok-add_bound-clause-same : goal.returns-in-Ok-add_bound-clause-same
returns-in-Ok-add_bound-clause-same g c =
    let at = indexed c.args.self.now.found.items c.args.place c.args.number c.index.result.now c.requires.first c.requires.last c.index.ensures in
    ap (λ found. references_at found c.args.place) c.in-Ok-add_bound.ensures.found ∙ same_after c.args.self.now.found.items c.args.place _ c.in-Ok.followed at.0

pub returns-in-Ok-add_bound-clause-few : goal.returns-in-Ok-add_bound-clause-few
returns-in-Ok-add_bound-clause-few g c = few_after (answers_of _ _) _ _ c.reference-name.result.now c.in-Ok.followed c.in-Ok.ensures.leads _ c.in-Ok-add_bound.ensures.found

pub returns-in-Err-clause-refused : goal.returns-in-Err-clause-refused
returns-in-Err-clause-refused g c =
    let at = indexed c.args.self.now.found.items c.args.place c.args.number c.index.result.now c.requires.first c.requires.last c.index.ensures in
    refused_at (answers_of _ _) c.args.registry.now c.args.place c.args.self.now _ at.0 _ c.requires.first at.1
    c.reference-name.result.now c.reference-name.ensures _ _ _ c.in-Err.ensures.refused

pub returns-in-Ok-add_bound-clause-leads : goal.returns-in-Ok-add_bound-clause-leads
returns-in-Ok-add_bound-clause-leads g c =
    let at = indexed c.args.self.now.found.items c.args.place c.args.number c.index.result.now c.requires.first c.requires.last c.index.ensures in
    leads_on (answers_of _ _) _ c.args.place c.args.self.now _ at.0 _ c.requires.first at.1
    c.reference-name.result.now c.reference-name.ensures c.add_bound.new.self c.in-Ok.followed c.in-Ok.ensures.leads c.in-Ok-add_bound.ensures.found c.in-Ok-add_bound.ensures.bound

pub returns-in-Ok-add_bound-clause-accepted : goal.returns-in-Ok-add_bound-clause-accepted
returns-in-Ok-add_bound-clause-accepted g c = λ all.
    accepts_more (answers_of _ _) c.args.registry.now _ c.reference-name.result.now c.in-Ok.followed c.in-Ok.ensures.leads _
    c.in-Ok-add_bound.ensures.found all
