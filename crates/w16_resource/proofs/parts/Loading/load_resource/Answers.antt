-- A load is refused, counted, or makes an object.
use Rattle.w16_resource.proofs.Common.{arith, entry_of, load_in, refl, resource_in, sym, ◌∙◌}
use Rattle.w16_resource.proofs.Steps.{no_source, long_source, again, first_load, seen}
use Rattle.w16_resource.proofs.parts.Loading.load_resource.Goals as goal

pub returns-in_default-clause-step : goal.returns-in_default-clause-step
returns-in_default-clause-step g c = rw (← c.self.view_is) (λ is. no_source _ _ c.args.handle c.args.place (c.in_default.ensures.none (seen c.self.view_is)))

pub returns-then-is_too_long-clause-step : goal.returns-then-is_too_long-clause-step
returns-then-is_too_long-clause-step g c = rw (← c.self.view_is) (λ is.
    long_source _ _ c.args.handle c.args.place c.in-Some.source.file.now (entry_of c.in-Some.source.resource) c.in-Some.ensures.found (sym c.is_too_long.ensures ∙ c.if-is_too_long.true))

pub returns-in-Some-first_of-clause-step : goal.returns-in-Some-first_of-clause-step
returns-in-Some-first_of-clause-step g c = rw (← c.self.view_is) (λ is.
    again _ _ c.args.handle c.args.place c.in-Some.source.file.now (entry_of c.in-Some.source.resource) c.in-Some.ensures.found (sym c.is_too_long.ensures ∙ c.if-is_too_long.false)
    (c.in-Some-first_of.slot, load_in c.in-Some-first_of.load) c.in-Some-first_of.ensures.first c.load_again.result c.load_again.new.self
    (c.load_again.ensures (seen c.self.view_is) (resource_in (c.in-Some.ensures.found.kind, entry_of c.in-Some.source.resource)) (sym c.kind_of-kind.ensures)))

pub returns-in-None-clause-step : goal.returns-in-None-clause-step
returns-in-None-clause-step g c = λ is.
    c.load_new.ensures.step (resource_in (c.in-Some.ensures.found.kind, entry_of c.in-Some.source.resource)) is
    (rw c.self.view_is at (first_load (seen c.self.view_is) c.in-Some.ensures.found c.in-None.ensures.first)) (sym c.kind_of-kind.ensures) refl

pub returns-in-Some-first_of-clause-stays : goal.returns-in-Some-first_of-clause-stays
returns-in-Some-first_of-clause-stays g c = rw (← c.self.view_is) (record { counted = omega arith; same = refl })
