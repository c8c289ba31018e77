-- Bytes of objects that are lent: far accesses that copy nothing, and what a borrower leaves.
use Rattle.std.specs.Prelude.{◌≡◌, ℕ, Bool, true, false, List, length, Some, Result, Ok, Err}
use Rattle.w16_model.specs.{declared.FarFault.FarFault, Handles.Handles, Handles.offset_in, Handles.selector_in}
use Rattle.w16_model.specs.Commands.{Command}
use Rattle.w16_model.specs.Commands.Family.{OfFar}
use Rattle.w16_model.specs.Commands.Command.{Read, Write}
use Rattle.w16_global.specs.{Access.access_fault, Loans.IsPlaceIn, Loans.left_of, Loans.lent_bytes, Loans.with_bytes_there, declared.loan.Place.Place}
use Rattle.w16_loading.specs.{Modules.with_handles, Law.FarReplies, Replies.Reply, Replies.Reply.Bytes, Replies.Reply.Done, Replies.Reply.Failed, Replies.Reply.Fault}
use Rattle.w16_machine.specs.{World.World}
use Rattle.w16_kernel.specs.{Parts.IsWorldOver, Parts.KernelStep, Runs.reply_of}
use Rattle.w16_kernel.specs.declared.call.Reply as code
use Rattle.w16_loading.specs.Families.AnyCommand.{any}

-- a place of so many bytes that are there
abbrev pub IsFound : ℕ → Handles → Place → Type 0
IsFound count handles place = IsPlaceIn handles place × (place.count ≡ count)

-- An access that fetches nothing finds a place: a read gives the bytes there, and if they are to be written, a write of as many leaves them there.
-- Or it meets its fault.
abbrev pub FindsPlaceOnce : Handles → Bool → ℕ → ℕ → Result Place FarFault → Handles → Type 0
FindsPlaceOnce old write pointer count (Ok place) new = IsFound count new place × FarReplies old (Read pointer count) (Bytes (lent_bytes new place)) new
    × (write ≡ true → (bytes : List ℕ) → length bytes ≡ count → FarReplies old (Write pointer bytes) Done (with_bytes_there new place bytes))
FindsPlaceOnce old write pointer count (Err fault) new = access_fault old write (selector_in pointer) (offset_in pointer) count ≡ Some fault

-- the world with other bytes at a place
abbrev pub with_left : World → Place → List ℕ → World
with_left w place new = record w { loading = with_handles w.loading (with_bytes_there w.loading.handles place new) }

-- A place that an access through a pointer took: whatever bytes stand there, as many as there are, are what a write of them leaves.
pub record IsTaken (honest : Type 0) (before : World) (pointer : ℕ) (w : World) (place : Place) : Type 0 where
  pub sound : IsWorldOver honest before
  pub writes : (bytes : List ℕ) → length bytes ≡ place.count → KernelStep honest before (any _ (Write pointer bytes)) Done (with_left w place bytes)

-- what holds of a read of so many bytes, or of each write of as many
abbrev pub OfEach : Bool → ℕ → ℕ → (Command OfFar → Type 0) → Type 0
OfEach false pointer count Holds = Holds (Read pointer count)
OfEach true pointer count Holds = (bytes : List ℕ) → length bytes ≡ count → Holds (Write pointer bytes)

-- a reply that says why an access was not made
abbrev pub IsFarFault : Reply → Type 0
IsFarFault (Fault f) = Unit {0}
IsFarFault (Failed f) = Unit {0}
IsFarFault reply = ⊥

-- An access that copies nothing is a read of the bytes at the place that it answers; if they are to be written, it is a write of whatever is left
-- there. Where there is none, the reply is what each such access would have got.
abbrev pub FindsPlace : Type 0 → World → Bool → ℕ → ℕ → Result Place code.Reply → World → Type 0
FindsPlace honest old write pointer count (Ok place) new = KernelStep honest old (any _ (Read pointer count)) (Bytes (lent_bytes new.loading.handles place)) new
    × IsFound count new.loading.handles place × (write ≡ true → IsTaken honest old pointer new place)
FindsPlace honest old write pointer count (Err reply) new = OfEach write pointer count (λ command. KernelStep honest old (any OfFar command) (reply_of reply) new)

-- the world once a place was lent, and others are left there
abbrev pub after_lending : Place → World → List ℕ → World
after_lending place w new = with_left w place (left_of (lent_bytes w.loading.handles place) new)
