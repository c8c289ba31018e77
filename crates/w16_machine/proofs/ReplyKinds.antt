-- Each step's reply is of the kind that its command's row has.
use Rattle.w16_machine.proofs.Common.{inl, inr, ◌⊎◌, ◌≡◌, ℕ, true, false, cond, List, length, Option, Some, None, Result, Ok, Err, sym, ap, subst, Heap, Handles, FarAnswer, LoadingWorld, Reply, Word, Dword, Done, World}
use Rattle.std.specs.Prelude.{Bool, nat_lt, MatchBool, MatchOption}
use Rattle.w16_loading.specs.Fetch.{Fetching, Accesses, gives, needs_fetch, reply_of_far}
use Rattle.w16_loading.specs.File.{Format, Resource}
use Rattle.w16_loading.specs.Load.Answer.{Says, StoreFails}
use Rattle.w16_loading.specs.Replies.Reply.{Fault, Failed, Walked}
use Rattle.w16_loading.specs.Replies.{HandleReplies, ResizeReplies}
use Rattle.w16_loading.specs.Resource.{AnswersNone, LoadsNewResource, LoadsResource, LocksResource, is_too_long, load_of, lock_outcome, reply_of_call, resource_at, resource_outcome, slot_of_resource}
use Rattle.w16_loading.specs.declared.FetchFault.{FetchFault}
use Rattle.w16_loading.specs.declared.TheConstants.{MOST_USES}
use Rattle.w16_machine.specs.LocalCalls.{LocalStep}
use Rattle.w16_machine.specs.Rows.{IsOfKind, ReplyKind, ReplyKindLaw, reply_kind}
use Rattle.w16_machine.specs.Rows.ReplyKind.{AWord, ADword, FetchedWord, FetchedDword, SomeBytes, OnlyDone}
use Rattle.w16_model.specs.{Bytes.repeated, Handles.slot_of_handle, Handles.selector_of, Handles.selector_in, Handles.offset_in, Handles.far_pointer, Handles.IsFreeSlot, Heap.bytes_at, OneObject.after_free, OneObject.after_lock}
use Rattle.w16_model.specs.{OneObject.after_unlock, OneObject.after_newest, OneObject.after_oldest, Owned.owns, Owned.refuses_write, Calls.Answer, Calls.HandleStep, Calls.global_lock, Calls.handle_or_0, declared.Refusal.Refusal, declared.FarFault.FarFault}
use Rattle.w16_model.specs.Far.{far_fault, far_read, far_write}
use Rattle.w16_model.specs.Commands.{Command}
use Rattle.w16_loading.specs.Families.{AnyCommand}
use Rattle.w16_model.specs.Commands.Family.{OfHandles, OfResizes, OfLocals}
use Rattle.w16_model.specs.Commands.Command.{GlobalAlloc, GlobalFree, GlobalLock, GlobalUnlock, GlobalCompact, GlobalLRUNewest, GlobalLRUOldest, Walk, GlobalReAlloc, GlobalDiscard, Read, Write, Fill}
use Rattle.w16_model.specs.Commands.Command.{Builtin, LoadModule, LoadLibrary, FreeLibrary, FreeModule, LoadResource, LockResource, DS}
use Rattle.w16_machine.proofs.Stepped.{fetching}
use Rattle.w16_machine.specs.Machine.{Step}
use Rattle.w16_loading.specs.Families as families
use Rattle.w16_loading.specs.Load as load
use Rattle.w16_loading.specs.declared.FetchFault.TheVariants as fetch
use Rattle.w16_model.specs.Calls as calls
use Rattle.w16_model.specs.declared.Refusal.TheVariants as refusals
use Rattle.w16_loading.specs.Families.AnyCommand.{any}

-- an answer of a call on handles, as a reply
abbrev Answers : ReplyKind → Answer → Type 0
Answers kind answer = IsOfKind kind (reply_of_call answer)

-- what is answered to a call that names an object, and by what becomes of it
by_name : (P : Answer → Type 0) (bad : Answer × Handles) (done : ℕ → Answer × Handles) → P bad.0 → ((slot : ℕ) → P (done slot).0) → (named : Option ℕ) → P (elim named as (λ _. Answer × Handles) [ None ↦ bad | Some slot ↦ done slot ]).0
by_name P bad done b d None = b
by_name P bad done b d (Some slot) = d slot

by_result : (refused : Answer × Handles) (done : Heap → Answer × Handles) → Answers AWord refused.0 → ((heap : Heap) → Answers AWord (done heap).0) → (s : Result Heap Refusal)
    → Answers AWord (elim s as (λ _. Answer × Handles) [ Ok heap ↦ done heap | Err _ ↦ refused ]).0
by_result refused done r d (Ok heap) = d heap
by_result refused done r d (Err e) = r

if_both : {A B : Type 0} (P : A → Type 0) (b : Bool) (x y : A × B) → P x.0 → P y.0 → P (cond b x y).0
if_both P true x y h k = h
if_both P false x y h k = k

order_word : (after : Heap → ℕ → Result Heap Refusal) (old : Handles) (handle : ℕ) → Answers AWord (handle_or_0 after old handle).0
order_word after old handle = by_name (Answers AWord) _ _ tt (λ slot. by_result _ _ tt (λ _. tt) (after old.heap slot)) (slot_of_handle old handle)

lock_dword : (old : Handles) (handle : ℕ) → Answers ADword (global_lock old handle).0
lock_dword old handle = by_name (Answers ADword) _ _ tt (λ slot. locked slot (after_lock old.heap slot)) (slot_of_handle old handle)
  where
    locked : (slot : ℕ) (s : Result Heap Refusal) → Answers ADword (elim s as (λ _. Answer × Handles) [
      | Ok heap ↦ (calls.Answer.Dword (far_pointer (selector_of slot) 0), record old { heap = heap })
      | Err refusals.Fixed ↦ (calls.Answer.Dword (far_pointer (selector_of slot) 0), old)
      | Err _ ↦ (calls.Answer.Dword 0, old)
    ]).0
    locked slot (Ok heap) = tt
    locked slot (Err refusals.Fixed) = tt
    locked slot (Err e) = tt

module _ (old new : Handles) where
  answered : (command : Command OfHandles) (answer : Answer) → HandleStep old command answer new → Answers (reply_kind (any _ command)) answer
  answered (GlobalAlloc flags size) (calls.Answer.Word n) h = tt
  answered (GlobalAlloc flags size) answer h = absurd h
  answered (GlobalFree handle) answer h =
      rw h.0 (if_both (Answers AWord) (owns old handle) _ _ tt (by_name (Answers AWord) _ _ tt (λ slot. by_result _ _ tt (λ _. tt) (after_free old.heap slot)) (slot_of_handle old handle)))
  answered (GlobalLock handle) answer h = rw h.0 (lock_dword old handle)
  answered (GlobalUnlock handle) answer h = rw h.0 (by_name (Answers AWord) _ _ tt (λ slot. by_result _ _ tt (λ _. tt) (after_unlock old.heap slot)) (slot_of_handle old handle))
  answered (GlobalCompact size) (calls.Answer.Dword n) h = tt
  answered (GlobalCompact size) answer h = absurd h
  answered (GlobalLRUNewest handle) answer h = rw h.0 (order_word after_newest old handle)
  answered (GlobalLRUOldest handle) answer h = rw h.0 (order_word after_oldest old handle)
  answered Walk (calls.Answer.Walked n) h = tt
  answered Walk answer h = absurd h
  answered command answer h = rw h.0 tt

  replied : (command : Command OfHandles) (reply : Reply) → HandleReplies old command reply new → IsOfKind (reply_kind (any _ command)) reply
  replied command (Word n) h = answered command (calls.Answer.Word n) h
  replied command (Dword n) h = answered command (calls.Answer.Dword n) h
  replied command (Walked n) h = answered command (calls.Answer.Walked n) h
  replied command reply h = absurd h

  resized : (command : Command OfResizes) (reply : Reply) → ResizeReplies old command reply new → IsOfKind (reply_kind (any _ command)) reply
  resized (GlobalReAlloc handle size flags) (Word n) h = tt
  resized (GlobalDiscard handle) (Word n) h = tt
  resized (GlobalReAlloc handle size flags) reply h = absurd h
  resized (GlobalDiscard handle) reply h = absurd h

local_kind : (old new : World) (command : Command OfLocals) (reply : Reply) → LocalStep old command reply new → IsOfKind (reply_kind (any _ command)) reply
local_kind old new (DS selector) Done h = tt
local_kind old new (DS selector) reply h = absurd h
local_kind old new command (Word n) h = tt
local_kind old new command reply h = absurd h

-- Loads, and locks of resources.

load_answer : (answer : load.Answer) → IsOfKind FetchedWord (families.reply_of answer)
load_answer (Says n) = tt
load_answer StoreFails = tt

either : (b : Bool) (A B P : Type 0) → (A → P) → (B → P) → MatchBool b A B → P
either true A B P f g h = f h
either false A B P f g h = g h

by_option : {A : Type 0} (p : Option A) (N : Type 0) (S : A → Type 0) (P : Type 0) → (N → P) → ((x : A) → S x → P) → MatchOption p N S → P
by_option None N S P f g h = f h
by_option (Some x) N S P f g h = g x h

module _ (F : Fetching) (old : LoadingWorld) (reply : Reply) (new : LoadingWorld) where
  -- the reply of an outcome has the kind that the outcome has
  of_outcome : (kind : ReplyKind) (x : Reply × LoadingWorld) → (reply, new) ≡ x → IsOfKind kind x.0 → IsOfKind kind reply
  of_outcome kind x e h = subst (IsOfKind kind) (sym (ap (λ p. p.0) e)) h

  none_word : AnswersNone old reply new → IsOfKind FetchedWord reply
  none_word h = rw h.0 tt

  outcome_word : (fault : Option FetchFault) (handle : ℕ) (next : LoadingWorld) → IsOfKind FetchedWord (resource_outcome fault handle next old).0
  outcome_word None handle next = tt
  outcome_word (Some fetch.NoRoom) handle next = tt
  outcome_word (Some fault) handle next = tt

  load_word : (handle place : ℕ) → LoadsResource F old handle place reply new → IsOfKind FetchedWord reply
  load_word handle place =
      by_option (resource_at old handle place) _ _ _ none_word (λ r. either (is_too_long r) _ _ _ none_word (by_option (load_of old handle place) _ _ _ (fresh r)
      (λ x e. of_outcome FetchedWord _ e (if_both (IsOfKind FetchedWord) (nat_lt x.1.loads MOST_USES) _ _ tt tt))))
    where
      fresh : (r : Resource) → (((slot : ℕ) → IsFreeSlot old.handles slot → ⊥) × AnswersNone old reply new) ⊎ LoadsNewResource F old handle place r reply new → IsOfKind FetchedWord reply
      fresh r (inl h) = none_word h.1
      fresh r (inr l) = of_outcome FetchedWord _ l.outcome (outcome_word l.fault _ l.next)

  told_dword : (answer : Answer) → Answers ADword answer → Answers FetchedDword answer
  told_dword (calls.Answer.Dword n) h = tt
  told_dword answer h = absurd h

  outcome_dword : (fault : Option FetchFault) (handle : ℕ) (next : LoadingWorld) → IsOfKind FetchedDword (lock_outcome fault handle next).0
  outcome_dword None handle next = told_dword (global_lock next.handles handle).0 (lock_dword next.handles handle)
  outcome_dword (Some fetch.NoRoom) handle next = tt
  outcome_dword (Some fault) handle next = tt

  locked_dword : (handle : ℕ) → LocksResource F old handle reply new → IsOfKind FetchedDword reply
  locked_dword handle =
      by_option (slot_of_resource old handle) _ _ _ (λ h. subst (IsOfKind FetchedDword) (sym h.0) tt) (λ x. by_option (bytes_at old.handles.heap x.0) _ _ _
      (λ h. of_outcome FetchedDword _ h.3 (outcome_dword h.0 handle h.1)) (λ b e. of_outcome FetchedDword _ e (told_dword (global_lock old.handles handle).0 (lock_dword old.handles handle))))

-- Far accesses.

-- what is true of each answer of an access, and of each fault of a fetch, is true of what is replied
accessed : (kind : ReplyKind) (fetches : Fetching) (access : LoadingWorld → FarAnswer × LoadingWorld) (old : LoadingWorld) (selector : ℕ) (reply : Reply) (new : LoadingWorld)
    → ((w : LoadingWorld) → IsOfKind kind (reply_of_far (access w).0)) → ((f : FetchFault) → IsOfKind kind (Failed f)) → Accesses fetches access old selector reply new → IsOfKind kind reply
accessed kind fetches access old selector reply new each fails =
    either (needs_fetch (access old).0 old selector) _ _ (IsOfKind kind reply) (λ h. fetched h.0 h.1 h.3) (λ h. subst (IsOfKind kind) (sym h.0) (each old))
  where
    fetched : (fault : Option FetchFault) (next : LoadingWorld) → MatchOption fault (gives (access next) reply new) (λ f. (reply ≡ Failed f) × (new ≡ next)) → IsOfKind kind reply
    fetched None next h = subst (IsOfKind kind) (sym h.0) (each next)
    fetched (Some f) next h = subst (IsOfKind kind) (sym h.0) (fails f)

-- what an access answers where there is a fault, and where there is none
by_fault : (kind : ReplyKind) (old : Handles) (done : FarAnswer × Handles) → ((fault : FarFault) → IsOfKind kind (Fault fault)) → IsOfKind kind (reply_of_far done.0) → (p : Option FarFault)
    → IsOfKind kind (reply_of_far (elim p as (λ _. FarAnswer × Handles) [ Some fault ↦ (FarAnswer.Fault fault, old) | None ↦ done ]).0)
by_fault kind old done faulty right None = right
by_fault kind old done faulty right (Some fault) = faulty fault

read_kind : (old : Handles) (selector offset count : ℕ) → IsOfKind SomeBytes (reply_of_far (far_read old selector offset count).0)
read_kind old selector offset count = by_fault SomeBytes old _ (λ _. tt) tt (far_fault old selector offset count)

write_kind : (old : Handles) (selector offset : ℕ) (slice : List ℕ) → IsOfKind OnlyDone (reply_of_far (far_write old selector offset slice).0)
write_kind old selector offset slice =
    if_both (λ a. IsOfKind OnlyDone (reply_of_far a)) (refuses_write old selector) _ _ tt (by_fault OnlyDone old _ (λ _. tt) tt (far_fault old selector offset (length slice)))

module _ (honest : Type 0) (format : Format) (old new : World) where
  abbrev over : Fetching
  over = fetching honest format old.loading new.loading

  kind_of : (command : AnyCommand) (reply : Reply) → Step honest format old command reply new → IsOfKind (reply_kind command) reply
  kind_of (any OfHandles command) reply s = let h = s.0.step in replied old.loading.handles h.0 command reply h.1
  kind_of (any OfResizes command) reply s = let h = s.0.step in resized old.loading.handles h.0 command reply h.1
  kind_of (any _ (Read pointer count)) reply s =
      accessed SomeBytes over (families.access_of (Read pointer count)) old.loading (selector_in pointer) reply (record new.loading { failures = old.loading.failures })
      (λ w. read_kind w.handles (selector_in pointer) (offset_in pointer) count) (λ f. tt) s.0.step
  kind_of (any _ (Write pointer bytes)) reply s = accessed OnlyDone over _ _ _ _ _ (λ w. write_kind w.handles (selector_in pointer) (offset_in pointer) bytes) (λ f. tt) s.0.step
  kind_of (any _ (Fill pointer count byte)) reply s = accessed OnlyDone over _ _ _ _ _ (λ w. write_kind w.handles (selector_in pointer) (offset_in pointer) (repeated count byte)) (λ f. tt) s.0.step
  kind_of (any _ (LoadModule file)) reply s = let h = s.0.step in rw h.1 (load_answer h.0)
  kind_of (any _ (LoadLibrary file)) reply s = let h = s.0.step in rw h.1 (load_answer h.0)
  kind_of (any _ (Builtin name)) reply s = rw s.0.step.1 tt
  kind_of (any _ (FreeLibrary handle)) reply s = rw s.0.step.1 tt
  kind_of (any _ (FreeModule handle)) reply s = rw s.0.step.1 tt
  kind_of (any _ (LoadResource handle place)) reply s = load_word over old.loading reply _ handle place s.0.step
  kind_of (any _ (LockResource handle)) reply s = locked_dword over old.loading reply _ handle s.0.step
  kind_of (any OfLocals command) reply s = local_kind old new command reply s
  kind_of command reply s = rw s.0.step.0 tt

pub reply_kind_law : (honest : Type 0) → ReplyKindLaw honest
reply_kind_law honest format old new command reply s = kind_of honest format old new command reply s
