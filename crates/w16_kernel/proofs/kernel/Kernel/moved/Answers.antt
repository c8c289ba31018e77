use Rattle.w16_kernel.proofs.{Common.ap, Common.refl, Stepping.answered}
use Rattle.w16_model.specs.Commands.Command.{Moved}
use Rattle.w16_kernel.specs.declared.call.Reply.TheVariants.{Dword}
use Rattle.w16_model.specs.Calls as calls
use Rattle.w16_kernel.proofs.kernel.Kernel.moved.Goals as goal

pub returns : goal.returns
returns g c = rw (← c.self.view_is, ← c.self-inside.view_is, ← c.self-inside-inside.view_is)
    (answered _ _ (rw (← c.self-inside.view_is, ← c.self-inside-inside.view_is) at c.self.invariant) Moved (Dword c.moved.result) tt (ap calls.Answer.Dword c.moved.ensures.value, refl) refl)
