-- Places in a list of names, in the order of these.
use Rattle.std.specs.Prelude.{◌≡◌, ℕ, ◌<◌, List, length, [], true, false, nat_eq, slice_index_or}
use Rattle.std.specs.Ordering.{nat_cmp, on, then_cmp, is_lt}
use Rattle.std.specs.{List.list_any, List.Sorted.IsSorted, List.Sorted.IsPartitionPoint, declared.cmp.Ordering.Ordering}
use Rattle.w16_store.specs.Names.{name_cmp}

-- the name at a place, and no bytes where there is none
abbrev pub name_at : List (List ℕ) → ℕ → List ℕ
name_at names place = slice_index_or names place []

-- The order of places is that of the names there. Of equal names the first is the first.
abbrev pub place_cmp : List (List ℕ) → ℕ → ℕ → Ordering
place_cmp names = then_cmp (on (name_at names) name_cmp) nat_cmp

abbrev pub AreInOrder : List (List ℕ) → List ℕ → Type 0
AreInOrder names places = IsSorted (place_cmp names) places

-- each place is among these, where they are as many as the names
abbrev pub AreWhole : List (List ℕ) → List ℕ → Type 0
AreWhole names places = length places ≡ length names → (place : ℕ) → place < length names → list_any (nat_eq place) places ≡ true

-- the places before this one in their list have lesser names than this name, and those from it on have none
abbrev pub IsSplitAt : List (List ℕ) → List ℕ → List ℕ → ℕ → Type 0
IsSplitAt names places name at =
    IsPartitionPoint (λ place. is_lt (name_cmp (name_at names place) name) ≡ true) (λ place. is_lt (name_cmp (name_at names place) name) ≡ false) places at
