use Rattle.w16_kernel.proofs.{Common.sym, Common.subst, Common.IsWorldOver, Spared.others_stay, Stepping.recounted, Stepping.told_promises, Stepping.told_step, Stepping.told_world}
use Rattle.w16_kernel.specs.Runs.{command_of, reply_of}
use Rattle.w16_kernel.proofs.step.made.Goals as goal

pub sweep-requires : goal.sweep-requires
sweep-requires g c =
    let is = rw (← c.refresh.ensures) at c.requires.world in
    rw (c.object_slot-slot.ensures, c.word.ensures, c.discardable_beside-before.ensures, c.object_slot.ensures)
    (others_stay _ _ is _ (told_world _ _ is (command_of c.args.call.now) c.in_ok-reply.reply _ c.in_ok-reply.ensures.step c.in_ok-reply.ensures.ranged).0.loading.handles
    (command_of c.args.call.now) (reply_of c.in_ok-reply.reply) c.in_ok-reply.ensures.step)

pub returns-clause-made : goal.returns-clause-made
returns-clause-made g c =
    let is = rw (← c.refresh.ensures) at c.requires.world in
    let step = c.in_ok-reply.ensures.step in
    record {
      step = rw (← c.refresh.ensures, c.sweep.ensures) (told_step _ _ is _ c.in_ok-reply.reply _ step);
      promises = rw (← c.refresh.ensures, c.sweep.ensures) (told_promises _ _ is _ c.in_ok-reply.reply _ step c.in_ok-reply.ensures.ranged);
      short = c.in_ok-reply.ensures.short;
      wanted = _;
      refused = _;
    }

pub returns-clause-world : goal.returns-clause-world
returns-clause-world g c =
    let is = rw (← c.refresh.ensures) at c.requires.world in
    rw c.sweep.ensures (told_world _ _ is (command_of c.args.call.now) c.in_ok-reply.reply _ c.in_ok-reply.ensures.step c.in_ok-reply.ensures.ranged)

pub returns-in_err-reply-clause-world : goal.returns-in_err-reply-clause-world
returns-in_err-reply-clause-world g c =
    let refused = c.in_err-reply.ensures.refused in
    subst (IsWorldOver g.S.Store.is_honest) (sym refused.same) (recounted g.S.Store.is_honest _ (rw (← c.refresh.ensures) at c.requires.world) _ refused.counted)
