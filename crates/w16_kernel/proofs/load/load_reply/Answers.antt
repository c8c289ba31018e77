-- A load over the kernel's parts.
use Rattle.w16_kernel.proofs.Modules.{load_told}
use Rattle.w16_kernel.proofs.load.load_reply.Goals as goal

pub returns-clause-step : goal.returns-clause-step
returns-clause-step g c = rw (← c.loading.view_is) (load_told c.args.is_load_module c.reply_to_load.ensures.told c.load.ensures.stays c.in_ok-answer.ensures.over)
