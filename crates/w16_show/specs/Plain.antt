-- Values whose text reads back as they are: numbers are of 64 bits without a sign, and the members of an object stand in the order of their keys.
use Rattle.std.specs.Prelude.{◌≡◌, ℕ, ◌<◌, ◌^◌, ⊤, Bool, true, Option, Some, Result, OnOk, IfOk, List, [], ◌∷◌, ◌++◌}
use Rattle.std.specs.{Io.KnownBytes.Appends, declared.alloc.AllocError.AllocError}
use Rattle.serde_json.specs.Data.{unsigned, negative, float, Data, null, boolean, number, string, array, object, Items, no_items, item, Members, no_members, member, put}
use Rattle.serde_json.specs.{Read.read, View.view, Written.comma_if, Written.compact_text, declared.value.Value.Value}

-- members that are put to others one after another
abbrev pub put_all : Members → Members → Members
put_all no_members found = found
put_all (member k d ms) found = put_all ms (put k d found)

abbrev mutual
  pub IsPlain : Data → Type 0
  IsPlain null = ⊤
  IsPlain (boolean b) = ⊤
  IsPlain (number (unsigned n)) = n < 2 ^ 64
  IsPlain (number (negative z)) = ⊥
  IsPlain (number (float x)) = ⊥
  IsPlain (string s) = ⊤
  IsPlain (array ds) = ArePlain ds
  IsPlain (object ms) = (put_all ms no_members ≡ ms) × HasPlain ms

  pub ArePlain : Items → Type 0
  ArePlain no_items = ⊤
  ArePlain (item d ds) = IsPlain d × ArePlain ds

  pub HasPlain : Members → Type 0
  HasPlain no_members = ⊤
  HasPlain (member k d ms) = IsPlain d × HasPlain ms

-- A call that answers `Ok` has made such a value.
abbrev pub Makes : Result Value AllocError → Data → Type 0
Makes result d = IfOk result (λ v. (view v ≡ d) × IsPlain d)

-- A call that answers `Ok` has put the text of such a value after what was there, or has sent it to a writer.
abbrev pub AddsJson : Result (Unit {0}) AllocError → List ℕ → List ℕ → Data → Type 0
AddsJson result old new d = OnOk result ((new ≡ old ++ compact_text d) × IsPlain d)

abbrev pub SendsJson : {E : Type 0} → Result (Unit {0}) E → Option (List ℕ) → Option (List ℕ) → Data → Type 0
SendsJson result held holds d = OnOk result (Appends held holds (compact_text d) × IsPlain d)

-- Of a list's values the one that a thing gives was sent, or none, and whether something stands before what comes next.
abbrev pub PassesOn : Option (List ℕ) → Option (List ℕ) → Bool → Bool → List Data → Type 0
PassesOn held holds later now [] = Appends held holds [] × (now ≡ later)
PassesOn held holds later now (d ∷ []) = Appends held holds (comma_if later ++ compact_text d) × IsPlain d × (now ≡ true)
PassesOn held holds later now (d ∷ e ∷ ds) = ⊥

-- A text was sent that reads back as this value.
abbrev pub Prints : Option (List ℕ) → Option (List ℕ) → Data → Type 0
Prints held holds d = Appends held holds (compact_text d) × (read (compact_text d) ≡ Some d)
