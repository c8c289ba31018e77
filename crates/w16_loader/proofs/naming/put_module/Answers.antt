-- The module comes back where memory ends, and its slots are those of the objects that go.
use Rattle.w16_loader.proofs.Common.{List, ℕ, ap, ◌∙◌, is_member, Module, with_handles, without_objects}
use Rattle.w16_loader.proofs.naming.put_module.Goals as goal

pub returns-in-Err-clause-gone : goal.returns-in-Err-clause-gone
returns-in-Err-clause-gone g c = λ rest.
    c.release_slots.ensures.gone rest
    ∙ ap (λ qs. without_objects (λ q. is_member q qs) (with_handles rest c.args.global.now.handles)) (c.slots.ensures.slots ∙ ap (λ m. m.slots) c.in-Err.ensures.value_returned)
