-- What a call answers, by the kind of its reply.
use Rattle.w16_c.proofs.Common.{◌≡◌, ℕ, subst, Reply, Word, Dword, Done, Failed, KernelStep, ne_format}
use Rattle.std.proofs.Common.{inl, inr}
use Rattle.w16_loading.specs.Families.{AnyCommand}
use Rattle.w16_loading.specs.Replies.Reply.{Fault}
use Rattle.w16_machine.proofs.ReplyKinds.{reply_kind_law}
use Rattle.w16_machine.specs.{World.World, Rows.IsOfKind, Rows.ReplyKind, Rows.reply_kind}
use Rattle.w16_kernel.specs.Lent.{IsFarFault}
use Rattle.w16_c.specs.Makes.{FarCalls, FetchCalls, IsStatus, Makes, Stays, Tells}
use Rattle.w16_c.specs.declared.held.Held.{Held}

-- the reply is of the kind that the command's row has
pub of_kind : (old new : World) (command : AnyCommand) (reply : Reply) (kind : ReplyKind) → reply_kind command ≡ kind → KernelStep (Unit {0}) old command reply new → IsOfKind kind reply
of_kind old new command reply kind is step = subst (λ k. IsOfKind k reply) is (reply_kind_law (Unit {0}) ne_format old new command reply step.step)

-- what is told of such a reply is what the call answers
pub fetches : (made : ℕ → Reply) (old : Held) (command : AnyCommand) (status : ℕ) (reply : Reply) (before answer : ℕ) (new : Held) → Tells made status reply before answer → Makes old command reply new
    → FetchCalls old command status (made answer) new × Stays status before answer
fetches made old command status (Failed fault) before answer new tells makes = (inr (fault, tells.0, makes), inr tells.1)
fetches made old command status reply before answer new tells makes = (inl (inl (tells.0, subst (λ r. Makes old command r new) tells.1 makes)), inl tells.0)

-- what is told of a fault is what the access answers
pub fault_calls : (old : Held) (command : AnyCommand) (status : ℕ) (reply wanted : Reply) (new : Held) → IsFarFault reply → IsStatus status reply → Makes old command reply new → FarCalls old command status wanted new
fault_calls old command status (Fault fault) wanted new k is makes = inr (inl (fault, is, makes))
fault_calls old command status (Failed fault) wanted new k is makes = inr (inr (fault, is, makes))
fault_calls old command status reply wanted new k is makes = absurd k

-- and so is that something is done
pub done_calls : (old : Held) (command : AnyCommand) (status : ℕ) (reply : Reply) (new : Held) → IsStatus status reply → Makes old command reply new → FarCalls old command status Done new
done_calls old command status Done new is makes = inl (inl (is, makes))
done_calls old command status (Fault fault) new is makes = inr (inl (fault, is, makes))
done_calls old command status (Failed fault) new is makes = inr (inr (fault, is, makes))
done_calls old command status reply new is makes = absurd is
