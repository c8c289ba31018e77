-- The module is taken out, and put back with one use less.
use Rattle.w16_loader.proofs.{Common.refl, Common.ap, Common.◌∙◌, Common.registered, Common.Module, Counting.again_counts, Counting.again_named, Registered.module_there, Uses.less_of_module, Uses.none_less}
use Rattle.std.specs.FinMap as finmap
use Rattle.w16_loader.proofs.registry.Registry.end_use.Goals as goal

pub returns-in-None : goal.returns-in-None
returns-in-None g c = λ rest. none_less rest _ _ _ (module_there c.self.inside.entries _ c.self.view_is c.in-None.ensures.found) (ap registered c.in-None.ensures.none ∙ c.self.view_is)

pub invariant_of-self-in-Some : goal.invariant_of-self-in-Some
invariant_of-self-in-Some g c = again_counts c.self.invariant _ c.in-Some.ensures.found _
    c.in-Some.ensures.gone c.put.ensures c.end_use.new.self refl (ap (λ m. m.imports) c.end_use.ensures ∙ ap (λ m. m.imports) c.deref_mut.ensures.value)

pub returns-in-Some : goal.returns-in-Some
returns-in-Some g c =
    let there = module_there c.self.inside.entries _ c.self.view_is c.in-Some.ensures.found in
    let put = again_named c.self.invariant _ c.in-Some.ensures.found _
    c.in-Some.ensures.gone c.put.ensures c.self.view_is in
    λ rest. less_of_module rest _ _ _ _ c.in-Some.loaded.value c.deref_mut.result.now c.end_use.new.self
    there refl put c.deref_mut.ensures.value c.end_use.ensures
