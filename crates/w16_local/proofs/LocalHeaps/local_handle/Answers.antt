use Rattle.w16_local.proofs.Choices.{handle_none, handle_told}
use Rattle.w16_local.proofs.LocalHeaps.local_handle.Goals as goal

pub returns-in_default : goal.returns-in_default
returns-in_default g c rest = handle_none c.args.global.now.handles c.args.self.now c.args.ds c.args.pointer c.in_default.ensures.none

pub returns : goal.returns
returns g c rest = let is = c.in-Some.ensures.some in handle_told c.args.global.now.handles c.args.self.now c.args.ds is c.args.pointer _ (c.handle_at.ensures is.bytes is.over)
