-- What C is told of modules that are loaded.
use Rattle.std.specs.Prelude.{◌≡◌, ◌⊎◌, ℕ, List, Option, Some, None, IfSome, option_and_then, option_map, slice_get, slice_set}
use Rattle.w16_loading.specs.Modules.{Module, Modules, module_at}
use Rattle.w16_kernel.specs.{declared.kernel.modules.Start.Start, Asked.IsFirstModule, Asked.IsStart, Asked.segment_selector}
use Rattle.w16_c.specs.declared.status.TheConstants.{DONE, END, NO_MACHINE, NO_MODULE}
use Rattle.w16_c.specs.{declared.held.Held.Held, Files.SameMachine, Files.TellsName, Makes.IsEmpty, Makes.Stays}

-- A question leaves a machine as it is, and the answer is told; where none is held, what was lent stays too.
abbrev pub Asks : Held → ℕ → Held → Type 0 → Type 0 → Type 0
Asks old status new IsTold HasStayed = (SameMachine old new × IsTold) ⊎ ((status ≡ NO_MACHINE) × IsEmpty old new × HasStayed)

abbrev pub modules_of : Held → Modules
modules_of held = held.world.loading.modules

-- What is found is told; where there is nothing, the status says so.
abbrev pub Told : {X : Type 0} → (nothing : ℕ) → Option X → (status : ℕ) → (before after : X) → Type 0
Told nothing None status before after = (status ≡ nothing) × (after ≡ before)
Told nothing (Some found) status before after = (status ≡ DONE) × (after ≡ found)

abbrev pub TellsStart : Held → ℕ → ℕ → Start → Start → Type 0
TellsStart held handle status before after = (start : Option Start) × IsStart (module_at (modules_of held) handle) start × Told NO_MODULE start status before after

abbrev pub TellsModule : Held → ℕ → ℕ → ℕ → ℕ → Type 0
TellsModule held from status before after = (first : Option ℕ) × IsFirstModule (modules_of held) from first × Told END first status before after

-- the status where there is no such module, or it hasn't got what it is asked for
abbrev pub end_of : Option Module → ℕ
end_of None = NO_MODULE
end_of (Some m) = END

abbrev pub TellsSegment : Option Module → ℕ → ℕ → ℕ → ℕ → Type 0
TellsSegment m number status before after = Told (end_of m) (option_and_then (λ m. segment_selector m.slots number) m) status before after

abbrev pub TellsImport : Option Module → ℕ → ℕ → ℕ → ℕ → Type 0
TellsImport m place status before after = Told (end_of m) (option_and_then (λ m. slice_get m.imports place) m) status before after

-- a name of an entry, and beside it the ordinal and the far pointer
abbrev pub TellsExport : (nothing : ℕ) → Option (List ℕ × (ℕ × ℕ)) → ℕ → List ℕ → List ℕ → ℕ → ℕ → ℕ × ℕ → ℕ × ℕ → Type 0
TellsExport nothing export status before after was is others_before others_after =
    TellsName nothing (option_map (λ e. e.0) export) status before after was is
    × Stays status others_before others_after
    × IfSome export (λ e. status ≡ DONE → others_after ≡ e.1)

-- what is found next is marked in a table, and answered
abbrev pub Marks : Option ℕ → ℕ → List ℕ → List ℕ → ℕ → ℕ → Type 0
Marks None status before after was is = (status ≡ END) × (after ≡ before) × (is ≡ was)
Marks (Some next) status before after was is = (status ≡ DONE) × (after ≡ slice_set before next 1) × (is ≡ next)
