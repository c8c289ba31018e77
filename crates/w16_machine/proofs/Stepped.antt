-- Steps that read no file: calls on handles, which leave the rest of the world, and far accesses that fetch nothing.
use Rattle.w16_machine.proofs.Common as C
use Rattle.w16_machine.proofs.Common.{false≢true, inl, inr, ◌≡◌, ℕ, false, refl, sym, ap, ◌∙◌, subst, arith, FarAnswer, Read, Write, Fill, Handles, Command, OfFar, gives, reply_of_far, Format, LoadingWorld, with_handles, Reply, Done}
use Rattle.w16_model.specs.Commands.{Command}
use Rattle.w16_loading.specs.Families.{AnyCommand}
use Rattle.w16_model.specs.Commands.Family.{OfFar}
use Rattle.w16_loading.proofs.Cases.{by_bool}
use Rattle.w16_loading.specs.Families.{HandleStep, FarStep, Loading, access_of}
use Rattle.w16_loading.specs.{Fetch.Fetching, Fill.Fills, Answers.FetchesFrom, Answers.LoadsFrom, Answers.StepOver, Answers.told, Replies.Reply.Bytes, Replies.Reply.Fault, Law.far_reads_file}
use Rattle.w16_model.specs.Far.{pointer_in}
use Rattle.w16_model.specs.Law as far
use Rattle.w16_loading.specs.Families.AnyCommand.{any}

-- the fetches and loads of a step over a store
abbrev pub fetching : Type 0 → Format → LoadingWorld → LoadingWorld → Fetching
fetching honest format old new = FetchesFrom Fills (told honest format old.files old.failures new.failures)

abbrev pub loading : Type 0 → Format → LoadingWorld → LoadingWorld → Loading
loading honest format old new = LoadsFrom Fills (told honest format old.files old.failures new.failures)

handles_of : (old new : LoadingWorld) (next : Handles) → new ≡ record old { handles = next } → next ≡ new.handles
handles_of old new next e = sym (ap (λ w. w.handles) e)

pub call_replies : (honest : Type 0) (format : Format) (old new : LoadingWorld) (command : C.Command C.OfHandles) (reply : Reply) → StepOver honest format old (any C.OfHandles command) reply new → C.HandleReplies old.handles command reply new.handles
call_replies honest format old new command reply s =
    let step : HandleStep old command reply (record new { failures = old.failures }) = s.step in
    subst (C.HandleReplies old.handles command reply) (handles_of old (record new { failures = old.failures }) _ step.2) step.1

pub resize_replies : (honest : Type 0) (format : Format) (old new : LoadingWorld) (command : C.Command C.OfResizes) (reply : Reply) → StepOver honest format old (any C.OfResizes command) reply new → C.ResizeReplies old.handles command reply new.handles
resize_replies honest format old new command reply s =
    let step : C.ResizesStep old command reply (record new { failures = old.failures }) = s.step in
    subst (C.ResizeReplies old.handles command reply) (handles_of old (record new { failures = old.failures }) _ step.2) step.1

-- A far access that fetches nothing is made once.
module _ (fetches : Fetching) (access : LoadingWorld → FarAnswer × LoadingWorld) (old new : LoadingWorld) (selector : ℕ) (reply : Reply) (none : C.needs_fetch (access old).0 old selector ≡ false) where
  pub once : C.Accesses fetches access old selector reply new → new ≡ (access old).1
  once a = elim (by_bool (C.needs_fetch (access old).0 old selector) a) [ inl (e, f) ↦ absurd (false≢true (sym none ∙ e)) | inr (e, g) ↦ g.1 ]

  pub accessed : gives (access old) reply new → C.Accesses fetches access old selector reply new
  accessed g = rw none g

-- what a reply prints
replied : (h next : Handles) (command : Command OfFar) (reply : Reply) → C.FarReplies h command reply next → (answer : FarAnswer) × (reply ≡ reply_of_far answer) × far.FarStep h command answer next
replied h next command (Bytes bytes) s = (FarAnswer.Bytes _, refl, s)
replied h next command Done s = (FarAnswer.Done, refl, s)
replied h next command (Fault fault) s = (FarAnswer.Fault _, refl, s)
replied h next command reply s = absurd s

far_step : (fetches : Fetching) (old : LoadingWorld) (next : Handles) (command : Command OfFar) (reply : Reply) → far_reads_file old command ≡ false → C.FarReplies old.handles command reply next → FarStep fetches old command reply (with_handles old next)
far_step fetches old next command reply none s =
    let r = replied old.handles next command reply s in
    accessed fetches (access_of command) old (with_handles old next) (C.selector_in (pointer_in command)) reply none (by command r.0 r.1 r.2)
  where
    by : (command : Command OfFar) (answer : FarAnswer) → reply ≡ reply_of_far answer → far.FarStep old.handles command answer next → gives (access_of command old) reply (with_handles old next)
    by (Read pointer count) answer e s = (e ∙ ap reply_of_far s.0, ap (with_handles old) s.1)
    by (Write pointer bytes) answer e s = (e ∙ ap reply_of_far s.0, ap (with_handles old) s.1)
    by (Fill pointer count byte) answer e s = (e ∙ ap reply_of_far s.0, ap (with_handles old) s.1)

-- each command but one on local heaps makes a step of loading
pub loading_part : (honest : Type 0) (format : Format) (old new : C.World) (command : AnyCommand) (reply : Reply) → (C.IsOfLocals command → ⊥) → C.Step honest format old command reply new → C.LoadingStep honest format old command reply new
loading_part honest format old new (any C.OfLocals command) reply other step = absurd (other tt)
loading_part honest format old new command reply other step = step

-- what is done on handles alone, and fetches nothing, is a step
abbrev pub FetchesNothing : LoadingWorld → AnyCommand → Type 0
FetchesNothing old (any OfFar command) = far_reads_file old command ≡ false
FetchesNothing old command = Unit {0}

pub handles_step : (honest : Type 0) (format : Format) (old : LoadingWorld) (next : Handles) (command : AnyCommand) (reply : Reply) → FetchesNothing old command → C.OnHandles old.handles command reply next → StepOver honest format old command reply (with_handles old next)
handles_step honest format old next command reply none s = record { counted = omega arith; files = refl; step = turn _ none s }
  where
    turn : (command : AnyCommand) → FetchesNothing old command → C.OnHandles old.handles command reply next → C.FamilyStep (fetching honest format old old) (loading honest format old old) old command reply (with_handles old next)
    turn (any C.OfHandles command) none s = (next, s, refl)
    turn (any C.OfResizes command) none s = (next, s, refl)
    turn (any OfFar command) none s = far_step (fetching honest format old old) old _ command reply none s
    turn (any C.OfModules command) none s = absurd s
    turn (any C.OfResources command) none s = absurd s
    turn (any C.OfLocals command) none s = absurd s
