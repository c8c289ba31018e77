use Rattle.w16_kernel.proofs.{Common.ap, Common.refl, Stepping.answered}
use Rattle.w16_model.specs.Commands.Command.{GlobalFlags}
use Rattle.w16_kernel.specs.declared.call.Reply.TheVariants.{Word}
use Rattle.w16_model.specs.Calls as calls
use Rattle.w16_kernel.proofs.kernel.Kernel.global_flags.Goals as goal

pub returns : goal.returns
returns g c = rw (← c.self.view_is, ← c.self-inside.view_is, ← c.self-inside-inside.view_is)
    (answered _ _ (rw (← c.self-inside.view_is, ← c.self-inside-inside.view_is) at c.self.invariant) (GlobalFlags c.args.handle)
    (Word c.global_flags.result) tt (ap calls.Answer.Word c.global_flags.ensures, refl) refl)
