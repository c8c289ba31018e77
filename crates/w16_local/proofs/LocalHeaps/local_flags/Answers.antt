use Rattle.w16_machine.specs.LocalCalls.{local_flags}
use Rattle.w16_local.proofs.Choices.{asked_none, asked_told}
use Rattle.w16_local.proofs.LocalHeaps.local_flags.Goals as goal

pub returns-in_default : goal.returns-in_default
returns-in_default g c rest = asked_none c.args.global.now.handles c.args.self.now c.args.ds c.args.name local_flags c.in_default.ensures.none

pub returns : goal.returns
returns g c rest = let n = c.in-Some.ensures.some in asked_told c.args.global.now.handles c.args.self.now c.args.ds n local_flags _ (c.flags_of.ensures n.heap.bytes n.heap.over)
