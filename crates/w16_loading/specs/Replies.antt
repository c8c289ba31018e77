-- What is printed of an answer, whichever family of commands gave it.
use Rattle.std.specs.Prelude.{ℕ, List, IsSomeAnd, Option, Some, None}
use Rattle.w16_model.specs.{declared.FarFault.FarFault, Calls.HandleStep, Handles.Handles}
use Rattle.w16_model.specs.Commands.{Command}
use Rattle.w16_model.specs.Commands.Family.{OfHandles, OfResizes}
use Rattle.w16_loading.specs.{declared.FetchFault.FetchFault, Resizes.ResizeStep}
use Rattle.w16_model.specs.Calls as calls

pub data Reply : Type 0 where
  Word : (value : ℕ) → Reply
  Dword : (value : ℕ) → Reply
  Bytes : (bytes : List ℕ) → Reply
  Done : Reply
  Fault : (fault : FarFault) → Reply
  -- a module's object didn't get its bytes
  Failed : (fault : FetchFault) → Reply
  -- so many objects with bytes and holes, which a walk then tells one by one
  Walked : (count : ℕ) → Reply

-- the answer of a call on handles that a reply prints, if it prints one
abbrev pub answer_in : Reply → Option calls.Answer
answer_in (Word n) = Some (calls.Answer.Word n)
answer_in (Dword n) = Some (calls.Answer.Dword n)
answer_in (Walked count) = Some (calls.Answer.Walked count)
answer_in other = None

-- a step of a family, its answer being the one that a reply prints
abbrev pub HandleReplies : Handles → Command OfHandles → Reply → Handles → Type 0
HandleReplies old command reply new = IsSomeAnd (answer_in reply) (λ answer. HandleStep old command answer new)

abbrev pub ResizeReplies : Handles → Command OfResizes → Reply → Handles → Type 0
ResizeReplies old command reply new = IsSomeAnd (answer_in reply) (λ answer. ResizeStep old command answer new)
