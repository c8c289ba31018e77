-- What the code of local heaps keeps.
use Rattle.std.specs.Prelude.{◌≡◌, ◌<◌, ℕ, true, if◌then◌else◌, List, length, slice_index, slice_index_or, Option, None, is_some}
use Rattle.std.specs.{Ordering.nat_cmp, FinMap.FinMap}
use Rattle.w16_model.specs.Table.{Table, by_id, entry_at}
use Rattle.w16_machine.specs.{declared.local.TheConstants.LOCAL_ENTRIES, Local.IsLocalTable}
use Rattle.std.specs.FinMap as finmap

-- for each entry 1 where it is free, else 0
pub record AreFree (table : Table) (free : List ℕ) : Type 0 where
  pub many : length free ≡ LOCAL_ENTRIES
  pub says : (q : ℕ) → q < LOCAL_ENTRIES → slice_index_or free q 0 ≡ (if is_some (entry_at table q) then 0 else 1)

-- what holds of one heap: its table is a local heap's, and beside it is kept which entries are free
pub record LocalHeapInvariant (table : Table) (free : List ℕ) : Type 0 where
  pub is_local : IsLocalTable table
  pub free_entries : AreFree table free

-- the lowest free entry of a table, and that none is free
pub record IsLowest (table : Table) (id : ℕ) : Type 0 where
  pub known : id < LOCAL_ENTRIES
  pub free : entry_at table id ≡ None
  pub lowest : (q : ℕ) → q < id → entry_at table q ≡ None → ⊥

abbrev pub IsFull : Table → Type 0
IsFull table = (q : ℕ) → q < LOCAL_ENTRIES → entry_at table q ≡ None → ⊥

-- the tables of the heaps in a list by slot
abbrev pub tables_of : {X : Type 0} → List (Option X) → (X → Table) → FinMap nat_cmp Table
tables_of heaps table = finmap.from_entries (by_id (λ _ h. table h) 0 heaps)

-- a list has a slot
abbrev pub IsListed : List ℕ → ℕ → Type 0
IsListed slots slot = (k : ℕ) × (k < length slots) × (slice_index slots k ≡ slot)

-- each slot that has a heap is listed
abbrev pub AreListed : {X : Type 0} → List (Option X) → List ℕ → Type 0
AreListed heaps slots = (slot : ℕ) → is_some (slice_index_or heaps slot None) ≡ true → IsListed slots slot
