-- What the code of a load has found and reached, as a closure.
use Rattle.std.specs.Prelude.{◌≡◌, ℕ, List, [], ◌∷◌, map, take, length}
use Rattle.w16_format.specs.Tables.{tables_in}
use Rattle.w16_loader.specs.{declared.tagged.Found.Found, declared.closure.Closure.Closure, Following.left_from, Following.pair_of}
use Rattle.w16_loading.specs.Closure as closing

-- one module as another, except for what its file says beside its tables
abbrev pub IsAlike : closing.Found → closing.Found → Type 0
IsAlike f g = (g.file ≡ f.file) × (g.read.tables ≡ f.read.tables)

module _ {A : Type 0} where
  -- a module that the code found is one of a closure: by its file's name, and by what the file says in its tables
  abbrev pub IsFoundOf : Found A → closing.Found → Type 0
  IsFoundOf f c = (c.file ≡ f.file.items) × (c.read.tables ≡ tables_in f.module)

  -- the modules that the code found are the first of these
  abbrev pub Begins : List (Found A) → List closing.Found → Type 0
  Begins [] all = Unit {0}
  Begins (f ∷ fs) [] = ⊥
  Begins (f ∷ fs) (c ∷ cs) = IsFoundOf f c × Begins fs cs

  -- what the code has reached, where its modules are the first of these
  abbrev pub reached_of : ℕ → ℕ → Closure A → List closing.Found → closing.Closure
  reached_of place done c all =
      record { found = take (length c.found.items) all; pending = left_from place done (take (length c.found.items) all); bound = map pair_of c.bound.items }

  abbrev pub closed_of : Closure A → List closing.Found → closing.Closure
  closed_of c all = record { found = take (length c.found.items) all; pending = []; bound = map pair_of c.bound.items }
