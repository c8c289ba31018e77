-- A step over the kernel's parts, and the sweep after it, are one step of the machine.
use Rattle.w16_kernel.proofs
use proofs.Common as C
use proofs.Common.{ne_format, IsWorldOver, with_surviving, may_take_bytes, reply_of, StepOver, Bool, Command, Dword, Heap, IsCommand, LoadingWorld, OfFar}
use proofs.Common.{OfHandles, Step, World, [], false, false≢true, left_in, refl, sym, true, ℕ, ◌∷◌, ◌≡◌, ◌≤◌, step_may_take, Moved}
use Rattle.w16_loading.proofs.Requests.{requests_fewest_law}
use Rattle.w16_machine.proofs.Stepped.{loading_part}
use Rattle.w16_loading.specs.{Fewest.FewestOver, Replies.Reply.Bytes}
use Rattle.w16_model.specs.Commands.{Command}
use Rattle.w16_loading.specs.Families.{AnyCommand}
use Rattle.w16_model.specs.Commands.Family.{OfHandles}
use Rattle.w16_model.specs.Commands.Command.{Read, DS}
use Rattle.w16_kernel.specs.declared.call.Reply.{Reply}
use Rattle.w16_kernel.specs.Questions.{IsAnswered}
use Rattle.w16_machine.specs.Law.{OnHandles}
use Rattle.w16_loading.specs.Replies as printed
use Rattle.w16_loading.specs.Families.AnyCommand.{any}

module _ (honest : Type 0) (old : World) (is : IsWorldOver honest old) where
  -- after a step that takes no bytes all heaps stay
  pub stay : (command : AnyCommand) (reply : printed.Reply) (new : LoadingWorld) → step_may_take old.loading command ≡ false
      → StepOver honest ne_format old.loading command reply new → left_in new.handles.heap old.heaps ≡ old.heaps
  stay command reply new none s = C.heaps_law honest ne_format old (C.after_loading old new) command reply is.0.heaps none (s, refl)

  survive : (b : Bool) (heap : Heap) → (b ≡ false → left_in heap old.heaps ≡ old.heaps) → C.surviving_heaps b heap old.heaps ≡ left_in heap old.heaps
  survive true heap same = refl
  survive false heap same = sym (same refl)

  swept : (command : AnyCommand) (reply : printed.Reply) (new : LoadingWorld)
      → (may_take_bytes command ≡ false → step_may_take old.loading command ≡ false) → StepOver honest ne_format old.loading command reply new
      → C.LoadingStep honest ne_format old command reply (with_surviving (record old { loading = new }) command)
  swept command reply new none s =
      (s, (λ i. record { loading = new; heaps = survive (may_take_bytes command) new.handles.heap (λ e. stay command reply new (none e) s) i; ds = old.ds }))

  -- the step from a world in which the tables of local heaps are as they were
  unchanged : (command : AnyCommand) (reply : printed.Reply) (mid : World) (new : LoadingWorld) → mid ≡ record old { loading = new }
      → (may_take_bytes command ≡ false → step_may_take old.loading command ≡ false)
      → StepOver honest ne_format old.loading command reply new → C.LoadingStep honest ne_format old command reply (with_surviving mid command)
  unchanged command reply mid new same none s = rw same (swept command reply new none s)

  swept_step : (command : AnyCommand) (reply : printed.Reply) (mid : World) → C.Unswept honest old command reply mid → Step honest ne_format old command reply (with_surviving mid command)
  swept_step (any _ (DS selector)) reply mid s = s
  swept_step (any C.OfLocals other) reply mid s = s
  swept_step (any OfHandles command) reply mid s =
      unchanged (any OfHandles command) _ _ _ s.1 (λ e. e) (C.handles_step honest ne_format old.loading _ (any OfHandles command) reply tt s.0)
  swept_step (any C.OfResizes command) reply mid s =
      unchanged (any C.OfResizes command) _ _ _ s.1 (λ e. e) (C.handles_step honest ne_format old.loading _ (any C.OfResizes command) reply tt s.0)
  swept_step (any _ (Read pointer count)) reply mid s = s
  swept_step (any OfFar other) reply mid s = s
  swept_step (any C.OfModules command) reply mid s = unchanged (any C.OfModules command) _ _ _ s.1 (λ e. e) s.0
  swept_step (any C.OfResources command) reply mid s = unchanged (any C.OfResources command) _ _ _ s.1 (λ e. e) s.0

  -- what an answered read of code tells
  pub reads_code : (command : AnyCommand) (reply : printed.Reply) (new : World) → Step honest ne_format old command reply new → honest → C.ReadsCode old command reply
  reads_code command reply new s h = λ pointer count bytes slot handle number m c r named segment coded.
      let far : Step honest ne_format old (any _ (Read pointer count)) (Bytes bytes) new = rw (c, r) at s in
      C.code_reads_law honest ne_format old.loading new.loading pointer count bytes slot handle number m h is.0.loading (is.1 h) far.0 named segment coded

  -- and what is asked room for
  pub asks : (command : AnyCommand) (reply : printed.Reply) (new : World) → Step honest ne_format old command reply new
      → (C.IsOfLocals command → ⊥) → FewestOver honest ne_format old.loading command reply new.loading
  asks command reply new s other =
      requests_fewest_law honest ne_format old.loading new.loading command reply is.0.loading (loading_part honest ne_format old new command reply other s).0

  -- a step leaves a world, of its files where the store is honest
  pub kept : (command : AnyCommand) (reply : printed.Reply) (new : World) → IsCommand command → Step honest ne_format old command reply new → IsWorldOver honest new
  kept command reply new known step = (
    C.world_law honest ne_format old new command reply is.0 known step,
    λ h. (C.files_law honest ne_format old new command reply h (is.0, is.1 h) known step).1,
  )

  -- So does a call that did nothing but that the store failed meanwhile: it is as one that only tells a number.
  pub recounted : (failures : ℕ) → old.loading.failures ≤ failures → IsWorldOver honest (record old { loading = record old.loading { failures = failures } })
  recounted failures counted =
      let told : printed.Reply = Dword old.loading.handles.moved in
      let new : LoadingWorld = record old.loading { failures = failures } in
      kept (any _ Moved) told (record old { loading = new }) tt
      (swept (any _ Moved) told new (λ e. e) (record { counted = counted; files = refl; step = (old.loading.handles, (refl, refl), refl) }))

  -- What the kernel tells of a reply: the step, what a run of it promises, and that it leaves a world.
  module _ (command : AnyCommand) (reply : Reply) (mid : World) (step : C.Unswept honest old command (reply_of reply) mid) where
    made : Step honest ne_format old command (reply_of reply) (with_surviving mid command)
    made = swept_step command _ mid step

    pub told_step : C.KernelStep honest old command (reply_of reply) (with_surviving mid command)
    told_step = record { step = made; code = reads_code command (reply_of reply) (with_surviving mid command) made; requests = asks command (reply_of reply) (with_surviving mid command) made }

    pub told_promises : IsCommand command → C.Promises old (record { command = command; reply = reply_of reply; after = with_surviving mid command } ∷ [])
    told_promises known = C.promised_step honest ne_format old (with_surviving mid command) command (reply_of reply) is.0 known made

    pub told_world : IsCommand command → IsWorldOver honest (with_surviving mid command)
    told_world known = kept command (reply_of reply) (with_surviving mid command) known made

-- What a call on local heaps does in whatever world, it does in one.
pub local_step : {E : Type 0} (honest : Type 0) (old new : World → World) (command : AnyCommand) (r : C.Result Reply E)
    → C.IfOk r (λ reply. (rest : World) → C.OnLocals (old rest) command (reply_of reply) (new rest))
    → (rest : World) → C.IfOk r (λ reply. C.Unswept honest (old rest) command (reply_of reply) (new rest))
local_step honest old new command (C.Err e) s rest = tt
local_step honest old new (any C.OfLocals command) (C.Ok reply) s rest = s rest
local_step honest old new command (C.Ok reply) s rest = absurd (s rest)

pub wanted_at : {A E : Type 0} (P : World → Type 0) (r : C.Result A E) → C.OnErr r ((rest : World) → P rest) → (rest : World) → C.OnErr r (P rest)
wanted_at P (C.Ok a) wanted rest = tt
wanted_at P (C.Err e) wanted rest = wanted rest

-- A question leaves the world as it is.
pub answered : (honest : Type 0) (w : World) → IsWorldOver honest w → (command : Command OfHandles) (reply : Reply) → IsCommand (any OfHandles command)
    → OnHandles w.loading.handles (any OfHandles command) (reply_of reply) w.loading.handles → may_take_bytes (any OfHandles command) ≡ false → IsAnswered honest w command (reply_of reply)
answered honest w is command reply known on none =
    let c : AnyCommand = (any OfHandles command) in
    let same : with_surviving w c ≡ w = λ i. record w { heaps = C.surviving_heaps (none i) w.loading.handles.heap w.heaps } in
    record {
      step = C.subst (λ (x : World). C.KernelStep honest w c (reply_of reply) x) same (told_step honest w is c reply w (on, refl));
      promises = C.subst (λ (x : World). C.Promises w (record { command = c; reply = reply_of reply; after = x } ∷ [])) same (told_promises honest w is c reply w (on, refl) known);
    }
