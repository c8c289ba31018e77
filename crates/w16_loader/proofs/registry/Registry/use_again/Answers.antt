-- The module is taken out, and put back with one use more, or as it was.
use Rattle.w16_loader.proofs.{Common.refl, Common.ap, Common.◌∙◌, Common.registered, Common.Module, Counting.again_counts, Counting.again_named, Registered.module_there, Uses.more_of_module, Uses.none_used, Uses.use_imports}
use Rattle.std.specs.FinMap as finmap
use Rattle.w16_loader.proofs.registry.Registry.use_again.Goals as goal

pub returns-in-None : goal.returns-in-None
returns-in-None g c = λ rest. none_used rest _ _ _ (module_there c.self.inside.entries _ c.self.view_is c.in-None.ensures.found) (ap registered c.in-None.ensures.none ∙ c.self.view_is)

pub invariant_of-self-in-Some : goal.invariant_of-self-in-Some
invariant_of-self-in-Some g c = again_counts c.self.invariant _ c.in-Some.ensures.found _
    c.in-Some.ensures.gone c.put.ensures c.use_again-had_room.new.self refl (use_imports c.use_again-had_room.result c.deref_mut.result.now c.use_again-had_room.new.self c.use_again-had_room.ensures.more c.use_again-had_room.ensures.full ∙ ap (λ m. m.imports) c.deref_mut.ensures.value)

pub returns-in-Some : goal.returns-in-Some
returns-in-Some g c =
    let there = module_there c.self.inside.entries _ c.self.view_is c.in-Some.ensures.found in
    let put = again_named c.self.invariant _ c.in-Some.ensures.found _
    c.in-Some.ensures.gone c.put.ensures c.self.view_is in
    λ rest. more_of_module rest _ _ _ _ c.in-Some.loaded.value c.deref_mut.result.now c.use_again-had_room.new.self
    there refl put c.deref_mut.ensures.value _ c.use_again-had_room.ensures.room c.use_again-had_room.ensures.more c.use_again-had_room.ensures.full
