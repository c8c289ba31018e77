-- The module is taken out, and put back with these values.
use Rattle.w16_loader.proofs.Common.{refl, ap, ◌∙◌, registered, map, far_of}
use Rattle.w16_loader.proofs.{Counting.again_counts, Counting.again_named, Registered.module_there, Bindings.bound_again, Bindings.none_bound}
use Rattle.w16_loader.proofs.registry.Registry.set_values.Goals as goal

pub returns-in-None : goal.returns-in-None
returns-in-None g c = none_bound _ _ _ (map (λ v. map far_of v.items) _) (module_there c.self.inside.entries _ c.self.view_is c.in-None.ensures.found) (ap registered c.in-None.ensures.none ∙ c.self.view_is)

pub invariant_of-self-in-Some : goal.invariant_of-self-in-Some
invariant_of-self-in-Some g c = again_counts c.self.invariant _ c.in-Some.ensures.found _
    c.in-Some.ensures.gone c.put.ensures c.set_values.new.self refl (ap (λ m. m.imports) c.set_values.ensures ∙ ap (λ m. m.imports) c.deref_mut.ensures.value)

pub returns-in-Some : goal.returns-in-Some
returns-in-Some g c =
    let there = module_there c.self.inside.entries _ c.self.view_is c.in-Some.ensures.found in
    let put = again_named c.self.invariant _ c.in-Some.ensures.found _
    c.in-Some.ensures.gone c.put.ensures c.self.view_is in
    bound_again _ _ _ _ (map (λ v. map far_of v.items) _) c.in-Some.loaded.value c.deref_mut.result.now c.set_values.new.self
    there refl put c.deref_mut.ensures.value c.set_values.ensures
