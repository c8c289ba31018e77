-- Calls that read no bytes.
use Rattle.std.specs.Prelude.{◌≡◌, ◌≢◌}
use Rattle.w16_kernel.specs.{Runs.HasRoom, Runs.command_of, declared.call.Call.Call, declared.call.Call.TheVariants.Read}
use Rattle.w16_machine.specs.Rows.{ReplyKind, reply_kind}
use Rattle.w16_machine.specs.Rows.ReplyKind.{SomeBytes}

-- a call whose reply is of another kind than bytes
pub roomless : (call : Call) (kind : ReplyKind) → reply_kind (command_of call) ≡ kind → SomeBytes ≢ kind → HasRoom call 0
roomless (Read pointer count) kind is other = absurd (other is)
roomless call kind is other = tt
