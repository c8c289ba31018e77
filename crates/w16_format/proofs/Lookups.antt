-- Look-ups by number and by name.
use Rattle.w16_format.proofs.Common as C
use Rattle.w16_format.proofs.Common.{◌≡◌, ℕ, zero, suc, ◌-◌, false, cond, List, [], ◌∷◌, map, Some, refl, sym, ◌∙◌, ap, arith, Option, None, option_map, unwrap_or, slice_get, find, Tables, entry_at, listed_resources, numbered, entry_in, resource_in, tables_in}
use Rattle.w16_ne.specs.Names.{Entry}
use Rattle.w16_ne.specs.declared.entry_table.Entry as ne_entry
use Rattle.w16_ne.specs.Resources as ne_resources
use Rattle.w16_loading.specs.File as loading

-- Numbers.

not_zero : (i : ℕ) → C.nat_eq (suc i) 0 ≡ false
not_zero i = grind arith

before : (i : ℕ) → suc i - 1 ≡ i
before i = omega arith

numbered_suc : {X : Type 0} (xs : List X) (i : ℕ) → numbered xs (suc i) ≡ slice_get xs i
numbered_suc {X} xs i = ap (λ b. cond {A = Option X} b None (slice_get xs (suc i - 1))) (not_zero i) ∙ ap (λ k. slice_get xs k) (before i)

pub numbered_map : {X Y : Type 0} (f : X → Y) (xs : List X) (number : ℕ) → numbered (map f xs) number ≡ option_map f (numbered xs number)
numbered_map f xs zero = refl
numbered_map f xs (suc i) = numbered_suc _ i ∙ C.slice_get-map f xs i ∙ ap (option_map f) (sym (numbered_suc xs i))

at_entry : (xs : List (Option ne_entry.Entry)) (i : ℕ) → unwrap_or (slice_get (map (option_map entry_in) xs) i) None ≡ option_map entry_in (C.slice_index_or xs i None)
at_entry [] i = refl
at_entry (x ∷ xs) zero = refl
at_entry (x ∷ xs) (suc i) = at_entry xs i

pub entry_law : (t : Tables) (ordinal : ℕ) → loading.entry_at (tables_in t) ordinal ≡ option_map entry_in (entry_at t.entries ordinal)
entry_law t zero = refl
entry_law t (suc i) = ap (λ (p : Option (Option loading.Entry)). unwrap_or p None) (numbered_suc _ i) ∙ at_entry _ i

resource_place : (types : List (ne_resources.Label × List ne_resources.Entry)) (place : ℕ) → numbered (listed_resources types) place ≡ C.resource_at types place
resource_place types zero = refl
resource_place types (suc i) = numbered_suc _ i

pub place_law : (t : Tables) (number : ℕ) → (numbered (tables_in t).segments number ≡ option_map C.segment_in (numbered t.segments number))
    × (numbered (tables_in t).resources number ≡ option_map resource_in (C.resource_at t.resources number))
place_law t number = (
  numbered_map _ _ number,
  numbered_map _ _ number ∙ ap (option_map resource_in) (resource_place t.resources number),
)

-- Names.

leads : (t : Tables) (o : Option Entry)
    → unwrap_or (option_map (λ (e : Entry). loading.entry_at (tables_in t) e.1) o) None ≡ option_map entry_in (entry_at t.entries (unwrap_or (option_map (λ (e : Entry). e.1) o) 0))
leads t None = refl
leads t (Some e) = entry_law t e.1

pub name_law : (t : Tables) (name : List ℕ) → loading.entry_named (tables_in t) name ≡ option_map entry_in (entry_at t.entries (C.ordinal_in t.names name))
name_law t name = leads t (find (λ e. C.is_named e.0 name) t.names)
