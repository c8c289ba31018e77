-- What a call does.
use Rattle.std.specs.Prelude.{[], ◌∷◌, Result, IfOk, OnErr}
use Rattle.w16_machine.specs.{World.World, Law.IsSame, Machine.Steps}
use Rattle.w16_writes.specs.Promises.{Promises}
use Rattle.w16_kernel.specs.{declared.call.Call.Call, declared.call.Reply.Reply, Runs.IsReply, Runs.TakesMemory, Runs.command_of, Runs.reply_of}

-- A call is a step that it answers, and a run of one step, which keeps what each run promises; its reply has no more bytes than may be asked for. An
-- error is that there was no memory, for a call that takes some, and the world is the same but for the count of the store's failures.
pub record IsMade {E : Type 0} (steps : Steps) (old : World) (call : Call) (result : Result Reply E) (new : World) : Type 0 where
  pub step : IfOk result (λ reply. steps old (command_of call) (reply_of reply) new)
  pub promises : IfOk result (λ reply. Promises old (record { command = command_of call; reply = reply_of reply; after = new } ∷ []))
  pub short : IfOk result IsReply
  pub wanted : OnErr result (TakesMemory old (command_of call))
  pub refused : OnErr result (IsSame old new)
