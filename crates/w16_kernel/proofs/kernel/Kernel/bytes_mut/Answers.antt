use Rattle.w16_kernel.proofs.{Common.world_of, Common.◌∙◌, Lent.lent}
use Rattle.w16_kernel.proofs.kernel.Kernel.bytes_mut.Goals as goal

pub invariant_of-self-lent : goal.invariant_of-self-lent
invariant_of-self-lent g c =
    lent ((λ i. let x = c.self-inside-inside.view_is i in world_of x.0.0.loading x.0.0.locals x.0.0.ds)
    ∙ (λ i. (c.self-inside.view_is i).parts) ∙ c.self.view_is) c.args.place c.requires.there c.requires.taken.2
