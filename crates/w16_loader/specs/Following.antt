-- How a load follows the references of the modules that it finds, as the code keeps it.
use Rattle.w16_loader.specs
use Rattle.std.specs.Prelude.{◌≡◌, ◌≤◌, ℕ, suc, List, [], ◌∷◌, ◌++◌, map, drop, length, slice_get, None, Some}
use Rattle.w16_loading.specs.{Refusals.by_reference, Modules.Modules, Modules.free_modules, Closure.Referent.New, Closure.Reading.Meant}
use specs.declared.fault.LoadFault.TheVariants.{Refused, Device, OutOfMemory}
use specs.Closing.{Files, referent_of, found_in, meant_in}
use specs.{declared.tagged.Found.Found, declared.fault.LoadFault.LoadFault, declared.closure.Bound.Bound, declared.closure.Closure.Closure, declared.closure.Followed.Followed}
use Rattle.w16_loading.specs.Closure as closing
use Rattle.w16_loader.specs.declared.found.Referent as kept
use Rattle.w16_loader.specs.declared.found.Referent.TheVariants as refers
use Rattle.w16_loader.specs.declared.closure.Followed.TheVariants as leads

abbrev pub fault_of_reference : LoadFault → LoadFault
fault_of_reference (Refused refusal) = Refused (by_reference refusal)
fault_of_reference Device = Device
fault_of_reference OutOfMemory = OutOfMemory

-- the references of a module, each with the module's place
abbrev pub references_of : ℕ → closing.Found → List (ℕ × List ℕ)
references_of place f = map (λ name. (place, name)) f.read.tables.references

-- the references of modules, of which the first is at this place
abbrev pub references_from : ℕ → List closing.Found → List (ℕ × List ℕ)
references_from place [] = []
references_from place (f ∷ fs) = references_of place f ++ references_from (suc place) fs

-- the references of the modules from a place on, except for that many that come first
abbrev pub left_from : ℕ → ℕ → List closing.Found → List (ℕ × List ℕ)
left_from place done found = drop done (references_from place (drop place found))

abbrev pub pair_of : Bound → ℕ × closing.Referent
pair_of b = (b.place, referent_of b.referent)

module _ {A : Type 0} where
  -- what the code has found and bound, with these references pending
  abbrev pub pending_in : Files → List (ℕ × List ℕ) → Closure A → closing.Closure
  pending_in files pending c = record { found = map (found_in files) c.found.items; pending = pending; bound = map pair_of c.bound.items }

  -- with none pending
  abbrev pub closed_in : Files → Closure A → closing.Closure
  closed_in files c = pending_in files [] c

  -- the references of the module at a place; none where there is none
  abbrev pub references_at : List (Found A) → ℕ → List (List ℕ)
  references_at found place = elim (slice_get found place) [ None ↦ [] | Some f ↦ f.module.references ]

  -- Where a reference leads by its name alone; and by a file, whatever that says: to what some name means, or to a new module of that file, whose name
  -- means nothing and for which a handle is left.
  abbrev pub LeadsByName : Modules → List (Found A) → List ℕ → Followed A → Type 0
  LeadsByName modules found name (leads.Meant referent) = meant_in modules found name ≡ Some (referent_of referent)
  LeadsByName modules found name (leads.New f) = ⊥

  -- Modules are found after those that were there, and no more than handles are free, or than there were.
  pub record FindsFew (modules : Modules) (before after : List (Found A)) : Type 0 where
    pub since : List (Found A)
    pub kept : after ≡ before ++ since
    pub few : (most : ℕ) → free_modules modules ≤ most → length before ≤ most → length after ≤ most

  -- the modules after it, and what it means after that many modules
  abbrev pub found_after : List (Found A) → Followed A → List (Found A)
  found_after found (leads.Meant referent) = found
  found_after found (leads.New f) = found ++ f ∷ []

  abbrev pub referent_after : ℕ → Followed A → kept.Referent
  referent_after many (leads.Meant referent) = referent
  referent_after many (leads.New f) = refers.New many
