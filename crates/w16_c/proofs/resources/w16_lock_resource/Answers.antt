use Rattle.w16_c.proofs.ReplyKinds.{fetches, of_kind}
use Rattle.std.proofs.Common.{refl}
use Rattle.w16_machine.specs.Rows.ReplyKind.{FetchedDword}
use Rattle.w16_model.specs.Commands.Command.{LockResource}
use Rattle.w16_c.proofs.resources.w16_lock_resource.Goals as goal
use Rattle.w16_loading.specs.Families.AnyCommand.{any}

pub dword_told-requires : goal.dword_told-requires
dword_told-requires c = of_kind _ _ (any _ (LockResource c.args.object)) _ FetchedDword refl c.in-Ok.ensures.made.step

pub returns-in-Ok : goal.returns-in-Ok
returns-in-Ok c = fetches _ _ _ _ _ _ _ _ c.dword_told.ensures c.in-Ok.ensures.made
