-- The calls that give an object another size or another kind.
use Rattle.w16_model.specs.Commands.Family.{OfResizes}
use Rattle.w16_model.specs.Commands.{Command}
use Rattle.w16_model.specs.Commands.Command.{GlobalReAlloc, GlobalDiscard}
use Rattle.w16_model.specs.{Calls.Answer, Calls.Answer.Word, Handles.Handles, Resizes.GlobalReAllocs, Resizes.GlobalDiscards}

-- one step: each answers a handle, or NULL
abbrev pub ResizeStep : Handles → Command OfResizes → Answer → Handles → Type 0
ResizeStep old (GlobalReAlloc handle size flags) (Word answer) new = GlobalReAllocs old handle size flags answer new
ResizeStep old (GlobalDiscard handle) (Word answer) new = GlobalDiscards old handle answer new
ResizeStep old command answer new = ⊥
