-- What a local call does to the object that it names, and what it answers, where nothing refuses it; and what is refused.
use Rattle.w16_machine.specs
use Rattle.std.specs.Prelude.{◌≡◌, ℕ, ◌+◌, ◌-◌, ◌<◌, ◌⊎◌, Bool, true, false, not, ◌&&◌, ◌||◌, ◌==◌, if◌then◌else◌, nat_lt, Option, Some, None, is_some}
use Rattle.w16_model.specs.{Heap.Object, Heap.object_at, Heap.is_fixed, Heap.is_discardable, Calls.has_flag, CallLaws.IsNewestOf}
use Rattle.w16_loading.specs.{Replies.Reply, Replies.Reply.Word}
use specs.declared.local.TheConstants.{LMEM_MOVEABLE, LMEM_MODIFY}
use specs.Local.{LocalObject, heap_of, object_named}
use specs.LocalCalls.{LocalStep, moveable_or_discardable}
use Rattle.w16_model.specs.Commands.{Command}
use Rattle.w16_model.specs.Commands.Family.{OfLocals}
use Rattle.w16_model.specs.Commands.Command.{LocalReAlloc, LocalDiscard, LocalFree, LocalLock, LocalUnlock}
use specs.{World.World, LocalLaw.named_by, LocalFewest.Left, Law.AreLocalHeaps}
use Rattle.std.specs.FinMap as finmap

-- a name names this object of the current heap
pub record IsLocalNamed (w : World) (name : ℕ) (n : LocalObject) (o : Object) : Type 0 where
  pub named : object_named w name ≡ Some n
  pub there : object_at (heap_of n.heap) n.id ≡ Some o

-- what is under its entry in the heap that a call leaves
abbrev pub Ends : World → LocalObject → Option Object → Type 0
Ends new n p = Left new n.heap (λ next. object_at next n.id ≡ p)

-- a lock was counted; a discardable object is the newest of its heap; and the near pointer is answered
pub record IsLocked (n : LocalObject) (o : Object) (reply : Reply) (new : World) : Type 0 where
  pub counted : Ends new n (Some (record o { locks = o.locks + 1 }))
  pub newest : is_discardable o.kind ≡ true → Left new n.heap (λ next. IsNewestOf n.id (heap_of n.heap).order next.order)
  pub answered : (pointer : ℕ) × (finmap.get (heap_of n.heap).places n.id ≡ Some pointer) × (reply ≡ Word pointer)

-- The laws. So is a LocalLock of an object that has bytes and isn't fixed, while fewer than 255 locks are counted.
abbrev pub LockLaw : Type 0
LockLaw = (old new : World) (name : ℕ) (n : LocalObject) (o : Object) (reply : Reply) → AreLocalHeaps old → IsLocalNamed old name n o → is_some o.bytes ≡ true → is_fixed o.kind ≡ false → o.locks < 255
    → LocalStep old (LocalLock name) reply new → IsLocked n o reply new

-- LocalUnlock takes one lock of an object that isn't fixed, and says whether any are left
abbrev pub UnlockLaw : Type 0
UnlockLaw = (old new : World) (name : ℕ) (n : LocalObject) (o : Object) (reply : Reply) → IsLocalNamed old name n o → is_fixed o.kind ≡ false
    → LocalStep old (LocalUnlock name) reply new → Ends new n (Some (record o { locks = o.locks - 1 })) × (reply ≡ Word (if nat_lt 0 (o.locks - 1) then 1 else 0))

-- LocalFree frees an object that isn't locked
abbrev pub FreeLaw : Type 0
FreeLaw = (old new : World) (name : ℕ) (n : LocalObject) (o : Object) (reply : Reply) → IsLocalNamed old name n o → o.locks ≡ 0
    → LocalStep old (LocalFree name) reply new → Ends new n None × (reply ≡ Word 0)

-- with LMEM_MODIFY an object that isn't fixed gets the kind asked for, whatever the size
abbrev pub ModifyLaw : Type 0
ModifyLaw = (old new : World) (name size flags : ℕ) (n : LocalObject) (o : Object) (reply : Reply) → IsLocalNamed old name n o → has_flag flags LMEM_MODIFY ≡ true → is_fixed o.kind ≡ false
    → LocalStep old (LocalReAlloc name size flags) reply new → Ends new n (Some (record o { kind = moveable_or_discardable flags })) × (reply ≡ Word name)

-- the calls that ask for a discard: LocalDiscard, and a size of 0 with LMEM_MOVEABLE
abbrev pub AsksDiscard : ℕ → Command OfLocals → Type 0
AsksDiscard name command = (command ≡ LocalDiscard name) ⊎ ((flags : ℕ) × (has_flag flags LMEM_MODIFY ≡ false) × (has_flag flags LMEM_MOVEABLE ≡ true) × (command ≡ LocalReAlloc name 0 flags))

-- a discardable object that isn't locked loses its bytes to them
abbrev pub DiscardLaw : Type 0
DiscardLaw = (old new : World) (name : ℕ) (command : Command OfLocals) (n : LocalObject) (o : Object) (reply : Reply) → IsLocalNamed old name n o → AsksDiscard name command → is_discardable o.kind ≡ true → o.locks ≡ 0
    → LocalStep old command reply new → Ends new n (Some (record o { bytes = None })) × (reply ≡ Word name)

-- What is refused.

-- a discard of an object that is locked or not discardable
abbrev pub discard_is_refused : Object → Bool
discard_is_refused o = nat_lt 0 o.locks || not (is_discardable o.kind)

-- a lock of one that is absent, fixed or has 255 locks; an unlock or a change of kind of a fixed one; the freeing of a locked one; and a size
-- of 0 without LMEM_MOVEABLE
abbrev pub is_refused : Command OfLocals → Object → Bool
is_refused (LocalLock name) o = not (is_some o.bytes) || is_fixed o.kind || o.locks == 255
is_refused (LocalUnlock name) o = is_fixed o.kind
is_refused (LocalFree name) o = nat_lt 0 o.locks
is_refused (LocalDiscard name) o = discard_is_refused o
is_refused (LocalReAlloc name size flags) o = if has_flag flags LMEM_MODIFY then is_fixed o.kind else (size == 0 && (not (has_flag flags LMEM_MOVEABLE) || discard_is_refused o))
is_refused command o = false

-- a call that is refused of the object that it names changes nothing
abbrev pub RefusedLaw : Type 0
RefusedLaw = (old new : World) (command : Command OfLocals) (reply : Reply) (name : ℕ) (n : LocalObject) (o : Object) → named_by command ≡ Some name → IsLocalNamed old name n o → is_refused command o ≡ true
    → LocalStep old command reply new → new ≡ old
