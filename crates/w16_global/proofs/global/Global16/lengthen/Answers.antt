use Rattle.w16_global.proofs.{Common.refl, Common.sym, Common.◌∙◌, Resizing.lengthened}
use Rattle.w16_global.proofs.global.Global16.lengthen.Goals as goal

pub returns-in-Some-clause-step : goal.returns-in-Some-clause-step
returns-in-Some-clause-step g c = lengthened _ _ _ _ _ _ _ c.reveal_handles.ensures c.handle_at.ensures c.in-Some.ensures

pub returns-in-None-clause-step : goal.returns-in-None-clause-step
returns-in-None-clause-step g c = lengthened _ _ _ _ _ _ _ c.reveal_handles.ensures refl c.in-None.ensures

pub returns-in-Some-clause-refused : goal.returns-in-Some-clause-refused
returns-in-Some-clause-refused g c = λ null. c.in-Some.ensures.refused (sym c.handle_at.ensures ∙ null)
