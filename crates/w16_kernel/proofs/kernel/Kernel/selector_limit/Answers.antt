use Rattle.w16_kernel.proofs.{Common.ap, Common.refl, Stepping.answered}
use Rattle.w16_model.specs.Commands.Command.{GetSelectorLimit}
use Rattle.w16_kernel.specs.declared.call.Reply.TheVariants.{Dword}
use Rattle.w16_model.specs.Calls as calls
use Rattle.w16_kernel.proofs.kernel.Kernel.selector_limit.Goals as goal

pub returns : goal.returns
returns g c = rw (← c.self.view_is, ← c.self-inside.view_is, ← c.self-inside-inside.view_is)
    (answered _ _ (rw (← c.self-inside.view_is, ← c.self-inside-inside.view_is) at c.self.invariant) (GetSelectorLimit c.args.selector)
    (Dword c.get_selector_limit.result) tt (ap calls.Answer.Dword c.get_selector_limit.ensures, refl) refl)
