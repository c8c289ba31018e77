-- Over an honest store the bytes are read, or the device failed.
use Rattle.w16_resource.proofs.Common.{ap, drop, length, subst, sym, take, ◌<◌, ◌∙◌}
use Rattle.w16_resource.proofs.Given.{failed, has_some, none_empty, read_held}
use Rattle.w16_resource.proofs.fetching.read.Goals as goal

pub returns-in-Err-clause-exact : goal.returns-in-Err-clause-exact
returns-in-Err-clause-exact g c = λ file honest has short inside.
    c.fetch_fault.ensures.fault ∙ failed _ _ _ c.in-Err.fault (c.in-Err.ensures.exact file honest has)

pub returns-then-is_empty-clause-exact : goal.returns-then-is_empty-clause-exact
returns-then-is_empty-clause-exact g c = λ file honest has short inside.
    let read = read_held _ _ (c.in_default.ensures.exact file honest has) ∙ ap (λ at. take c.args.source.now.resource.len (drop at file)) c.from.ensures in
    none_empty c.bytes.result.now (sym c.is_empty.ensures ∙ c.if-is_empty.true)
    (subst (λ bs. 0 < length bs) (sym (c.bytes.ensures ∙ read)) (has_some file c.args.source.now.resource.place c.args.source.now.resource.len short inside))
