-- Module files that come from C, and what names things in them.
use Rattle.std.specs.Prelude.{◌≡◌, ℕ, ◌⊎◌, true, MatchBool, nat_lt, List, [], ◌∷◌, ◌++◌, length, drop, Option, Some, None, IfSome}
use Rattle.w16_store.specs.Files.{file_of}
use Rattle.w16_model.specs.Commands.{Label}
use Rattle.w16_model.specs.Commands.Label.{Number, Text}
use Rattle.w16_kernel.specs.declared.growing.AddFault.TheVariants.{Exists, Memory, Unnamed}
use Rattle.w16_kernel.specs.declared.growing.RemoveFault.TheVariants as remove
use Rattle.w16_kernel.specs.Growing.{AddsFile, IsNotAdded, IsNotRemoved, RemovesFile}
use Rattle.w16_c.specs.declared.status.TheConstants.{DONE, NO_MACHINE, NO_MEMORY, BAD_SIZE, EXISTS, IN_USE, NO_FILE, NONE_MISSING}
use Rattle.w16_c.specs.{declared.held.Held.Held, Makes.IsEmpty}

-- a machine is held, and its world is the same
abbrev pub SameMachine : Held → Held → Type 0
SameMachine old new = (old.is_held ≡ true) × (new.is_held ≡ true) × (new.world ≡ old.world)

-- A file is added to a machine that is held, under a name that no file of it had; or nothing changes.
abbrev pub AddCalls : Held → List ℕ → List ℕ → ℕ → Held → Type 0
AddCalls old name bytes status new =
    ((status ≡ DONE) × (old.is_held ≡ true) × (new.is_held ≡ true) × AddsFile old.world name bytes new.world)
    ⊎ ((status ≡ NO_MACHINE) × IsEmpty old new)
    ⊎ ((status ≡ BAD_SIZE) × IsNotAdded old.world.loading.files name Unnamed × SameMachine old new)
    ⊎ ((status ≡ EXISTS) × IsNotAdded old.world.loading.files name Exists × SameMachine old new)
    ⊎ ((status ≡ NO_MEMORY) × IsNotAdded old.world.loading.files name Memory × SameMachine old new)

-- A file is taken away from a machine that is held, from which no module of it is loaded; or nothing changes.
abbrev pub RemoveCalls : Held → List ℕ → ℕ → Held → Type 0
RemoveCalls old name status new =
    ((status ≡ DONE) × (old.is_held ≡ true) × (new.is_held ≡ true) × RemovesFile old.world name new.world)
    ⊎ ((status ≡ NO_MACHINE) × IsEmpty old new)
    ⊎ ((status ≡ IN_USE) × IsNotRemoved old.world.loading name remove.InUse × SameMachine old new)
    ⊎ ((status ≡ NO_FILE) × IsNotRemoved old.world.loading name remove.Missing × SameMachine old new)

-- A name goes to the begin of a buffer, and its length beside it; both stay as they were where there is none, or where it doesn't fit.
abbrev pub TellsName : (nothing : ℕ) → Option (List ℕ) → ℕ → List ℕ → List ℕ → ℕ → ℕ → Type 0
TellsName nothing None status before after was is = (status ≡ nothing) × (after ≡ before) × (is ≡ was)
TellsName nothing (Some name) status before after was is = MatchBool (nat_lt (length before) (length name))
    ((status ≡ BAD_SIZE) × (after ≡ before) × (is ≡ was))
    ((status ≡ DONE) × (after ≡ name ++ drop (length name) before) × (is ≡ length name))

-- the name of a file that a held machine doesn't have
abbrev pub TellsMissing : Held → ℕ → List ℕ → List ℕ → ℕ → ℕ → Type 0
TellsMissing held status before after was is =
    (name : Option (List ℕ)) × IfSome name (λ n. file_of held.world.loading.files n ≡ None) × TellsName NONE_MISSING name status before after was is

-- what names an entry, a resource or a type: a text, or where that has no bytes a number
abbrev pub label_in : List ℕ → ℕ → Label
label_in [] number = Number number
label_in (byte ∷ bytes) number = Text (byte ∷ bytes)
