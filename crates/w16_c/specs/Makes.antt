-- What a call on a holder leaves, and the status that it answers.
use Rattle.w16_c.specs
use Rattle.std.specs.Prelude.{◌≡◌, ◌≢◌, ℕ, ◌⊎◌, Bool, true, false, [], ◌∷◌}
use Rattle.w16_model.specs.{declared.FarFault.FarFault}
use Rattle.w16_loading.specs.Families.{AnyCommand}
use Rattle.w16_model.specs.Commands.Family.{OfFar}
use Rattle.w16_model.specs.Commands.Command.{Read}
use Rattle.w16_loading.specs.Replies.Reply.{Word, Dword, Bytes, Done, Fault, Failed}
use Rattle.w16_loading.specs.{declared.FetchFault.FetchFault, Replies.Reply}
use Rattle.w16_loading.specs.Law.{IsCommand}
use Rattle.w16_machine.specs.{Law.IsSame}
use Rattle.w16_writes.specs.Promises.{Promises}
use Rattle.w16_global.specs.{Loans.lent_bytes, declared.loan.Place.Place}
use Rattle.w16_kernel.specs.{Lent.IsFound, Lent.IsTaken, Lent.OfEach, Parts.KernelStep, Runs.TakesMemory}
use specs.declared.asked.Refusal.TheVariants.{NoMachine, NoMemory}
use specs.declared.status.TheConstants.{DONE, NO_MACHINE, NO_MEMORY, BAD_SIZE, FAULT_SELECTOR, FAULT_READ_ONLY, FAULT_NOT_PRESENT, FAULT_LIMIT, FAULT_ROOM, FAULT_STORE, FAULT_DAMAGED}
use specs.{declared.held.Held.Held, declared.lent.Lent.Lent, declared.asked.Refusal.Refusal}
use Rattle.w16_model.specs.declared.FarFault.TheVariants as fault
use Rattle.w16_loading.specs.declared.FetchFault.TheVariants as fetch
use Rattle.w16_loading.specs.Families.AnyCommand.{any}

-- The command is a step of the machine that is held, and a run of this one step keeps what every run promises.
pub record Makes (old : Held) (command : AnyCommand) (reply : Reply) (new : Held) : Type 0 where
  pub was : old.is_held ≡ true
  pub is : new.is_held ≡ true
  pub step : KernelStep (Unit {0}) old.world command reply new.world
  pub promises : Promises old.world (record { command = command; reply = reply; after = new.world } ∷ [])

-- There was no machine, and there is none.
abbrev pub IsEmpty : Held → Held → Type 0
IsEmpty old new = (old.is_held ≡ false) × (new.is_held ≡ false)

-- The host had no memory for what the command takes, and the world of the machine that is held is the same.
pub record LacksMemory (old : Held) (command : AnyCommand) (new : Held) : Type 0 where
  pub was : old.is_held ≡ true
  pub is : new.is_held ≡ true
  pub wanted : TakesMemory old.world command
  pub same : IsSame old.world new.world

-- A call that isn't made, and why.
abbrev pub Refuses : Held → AnyCommand → Refusal → Held → Type 0
Refuses old command NoMachine new = IsEmpty old new
Refuses old command NoMemory new = LacksMemory old command new

-- A call, its status, and the reply that it has where it is done. A machine that is held makes the step, except for want of memory.
abbrev pub Calls : Held → AnyCommand → ℕ → Reply → Held → Type 0
Calls old command status reply new =
    ((status ≡ DONE) × Makes old command reply new)
    ⊎ ((status ≡ NO_MACHINE) × IsEmpty old new)
    ⊎ ((status ≡ NO_MEMORY) × LacksMemory old command new)

-- what was lent for the answer stays as it was where the call isn't done
abbrev pub Stays : ℕ → {A : Type 0} → A → A → Type 0
Stays status before after = (status ≡ DONE) ⊎ (after ≡ before)

-- a call that answers a word, and what stood before in the answer's place
abbrev pub WordCalls : Held → AnyCommand → ℕ → ℕ → ℕ → Held → Type 0
WordCalls old command status before answer new = Calls old command status (Word answer) new × Stays status before answer

-- and one that answers a double word
abbrev pub DwordCalls : Held → AnyCommand → ℕ → ℕ → ℕ → Held → Type 0
DwordCalls old command status before answer new = Calls old command status (Dword answer) new × Stays status before answer

-- the status of a far access's fault
abbrev pub fault_status : FarFault → ℕ
fault_status fault.BadSelector = FAULT_SELECTOR
fault_status fault.ReadOnly = FAULT_READ_ONLY
fault_status fault.NotPresent = FAULT_NOT_PRESENT
fault_status fault.Limit = FAULT_LIMIT

-- and that of a fetch that gives a module's object no bytes
abbrev pub fetch_status : FetchFault → ℕ
fetch_status fetch.NoRoom = FAULT_ROOM
fetch_status fetch.Store = FAULT_STORE
fetch_status fetch.Damaged = FAULT_DAMAGED

-- a far access: a call that may be answered by a fault, its own or that of a fetch
abbrev pub FarCalls : Held → AnyCommand → ℕ → Reply → Held → Type 0
FarCalls old command status reply new =
    Calls old command status reply new
    ⊎ ((f : FarFault) × (status ≡ fault_status f) × Makes old command (Fault f) new)
    ⊎ ((f : FetchFault) × (status ≡ fetch_status f) × Makes old command (Failed f) new)

-- a call that reads files: it may be answered by why a read failed
abbrev pub FetchCalls : Held → AnyCommand → ℕ → Reply → Held → Type 0
FetchCalls old command status reply new =
    Calls old command status reply new ⊎ ((f : FetchFault) × (status ≡ fetch_status f) × Makes old command (Failed f) new)

-- one that else answers a word, and one that else answers a double word
abbrev pub WordFetches : Held → AnyCommand → ℕ → ℕ → ℕ → Held → Type 0
WordFetches old command status before answer new = FetchCalls old command status (Word answer) new × Stays status before answer

abbrev pub DwordFetches : Held → AnyCommand → ℕ → ℕ → ℕ → Held → Type 0
DwordFetches old command status before answer new = FetchCalls old command status (Dword answer) new × Stays status before answer

-- the status of such a call's reply, which is made of the answer, or has none
abbrev pub Tells : (ℕ → Reply) → ℕ → Reply → ℕ → ℕ → Type 0
Tells made status (Failed f) before answer = (status ≡ fetch_status f) × (answer ≡ before)
Tells made status reply before answer = (status ≡ DONE) × (reply ≡ made answer)

-- the status of a reply that has no more to tell
abbrev pub IsStatus : ℕ → Reply → Type 0
IsStatus status Done = status ≡ DONE
IsStatus status (Fault f) = status ≡ fault_status f
IsStatus status (Failed f) = status ≡ fetch_status f
IsStatus status reply = ⊥

-- more bytes than a call may ask for: nothing changes
abbrev pub AsksTooMuch : Held → ℕ → Held → Type 0
AsksTooMuch old status new = (status ≡ BAD_SIZE) × (new ≡ old)

-- Bytes at a place are lent: the call is a read of them. If they are to be written, it is a write of whatever bytes stand there.
pub record IsLent (old : Held) (write : Bool) (pointer count : ℕ) (place : Place) (new : Held) : Type 0 where
  pub found : IsFound count new.world.loading.handles place
  pub read : Makes old (any _ (Read pointer count)) (Bytes (lent_bytes new.world.loading.handles place)) new
  pub taken : write ≡ true → IsTaken (Unit {0}) old.world pointer new.world place

-- A far access whose bytes are lent, whose number goes out. Where there are none, what was lent before stays, and the status is that of a read of so
-- many bytes, or of each write of as many.
abbrev pub Lends : Held → Bool → ℕ → ℕ → ℕ → Lent → Lent → Held → Type 0
Lends old write pointer count status before after new =
    ((status ≡ DONE) × (after.count ≡ count) × ((place : Place) × IsLent old write pointer count place new))
    ⊎ ((status ≡ NO_MACHINE) × (after ≡ before) × IsEmpty old new)
    ⊎ ((status ≢ DONE) × (after ≡ before) × OfEach write pointer count (λ far. IsCommand (any OfFar far) → FarCalls old (any OfFar far) status Done new))
