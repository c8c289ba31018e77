-- No resource, a load less, a locked object, or the last load and its object.
use Rattle.w16_resource.proofs.Common.{and_mask, ap, load_in, subst, sym, ℕ, ◌%◌, ◌∙◌, ◌≤◌}
use Rattle.w16_resource.proofs.{Freed.last_gone, Freed.lock_count, Named.named_slot, Steps.seen}
use Rattle.w16_loading.specs.Modules as loading
use Rattle.w16_resource.proofs.parts.Loading.free_resource.Goals as goal

pub returns-clause-freed : goal.returns-clause-freed
returns-clause-freed g c =
    let x : ℕ × loading.Load = (c.in-Some.slot, load_in c.in-Some.load) in
    let found = rw (← c.self.view_is) at (sym c.in-Some.ensures.named) in
    let slotted = named_slot (seen c.self.view_is) c.args.handle x found in
    let count = and_mask c.global_flags.result 8 ∙ ap (λ n. n % 256) c.global_flags.ensures ∙ lock_count c.self.inside.global.handles c.reveal_handles.ensures c.args.handle c.in-Some.slot slotted in
    let none = subst (λ n. n ≤ 0) count c.if-global_flags-gt0.false in
    rw (← c.self.view_is, c.release_slot.ensures, c.remove.ensures) (last_gone (seen c.self.view_is) c.args.handle x found c.if-load-gt1.false none)
