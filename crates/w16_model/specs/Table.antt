-- What one heap's code keeps, and the heap that it stands for in a memory.
use Rattle.std.specs.Prelude.{◌≡◌, ℕ, ◌+◌, ◌≤◌, ◌==◌, ◌&&◌, ◌||◌, if◌then◌else◌, nat_lt, Bool, false, IsTrue, IfSome, is_some, slice_index_or, List, [], ◌∷◌, map, find, take, drop, slice_range, All, AllPairs, Option, Some, None, option_map, IsSomeAnd}
use Rattle.w16_model.specs.{declared.Block.Block, declared.Entry.Entry, declared.Hold.Hold, declared.Hold.TheVariants.Pinned, declared.Hold.TheVariants.Loose, Discards.is_member, Gap.IsLaid, Heap.Heap, Heap.Object, Heap.is_fixed, Heap.is_discardable, Heap.IsMultiple}
use Rattle.std.specs.FinMap as finmap

-- the entries by id, none where no object is, the blocks by address, and the order of use
pub record Table : Type 0 where
  pub lo : ℕ
  pub hi : ℕ
  pub grain : ℕ
  pub entries : List (Option Entry)
  pub blocks : List Block
  pub order : List ℕ

abbrev pub entry_at : Table → ℕ → Option Entry
entry_at t id = slice_index_or t.entries id None

-- where an object stands
abbrev pub block_with : List Block → ℕ → Option Block
block_with xs id = find (λ x. x.id == id) xs

-- an entry's object, with the bytes that the memory has at its block
abbrev pub object_in : List Block → List ℕ → ℕ → Entry → Object
object_in xs memory id e = record { kind = e.kind; locks = e.locks; bytes = option_map (λ x. slice_range memory x.at (x.at + x.size)) (block_with xs id) }

-- what the entries from an id on give, each by its id
abbrev pub by_id : {E X : Type 0} → (ℕ → E → X) → ℕ → List (Option E) → List (ℕ × X)
by_id give id [] = []
by_id give id (None ∷ es) = by_id give (id + 1) es
by_id give id (Some e ∷ es) = (id, give id e) ∷ by_id give (id + 1) es

-- the heap that the table stands for in this memory
abbrev pub heap_in : Table → List ℕ → Heap
heap_in t memory = record {
  lo = t.lo;
  hi = t.hi;
  grain = t.grain;
  objects = finmap.from_entries (by_id (object_in t.blocks memory) 0 t.entries);
  places = finmap.from_entries (map (λ x. (x.id, x.at)) t.blocks);
  order = t.order;
}

-- whether an entry's block may move
abbrev pub hold_of_entry : Entry → Hold
hold_of_entry e = if is_fixed e.kind || nat_lt 0 e.locks then Pinned else Loose

-- whether an id is in the order of use, by its entry and its block
abbrev pub is_listed : Option Entry → Option Block → Bool
is_listed (Some e) b = is_discardable e.kind && is_some b
is_listed None b = false

-- the locks of an entry, by its block: at most 255, and none where it is fixed or has no block
abbrev pub IsCountedBy : Option Block → Entry → Type 0
IsCountedBy b e = (e.locks ≤ 255) × (IsTrue (is_fixed e.kind) → e.locks ≡ 0) × (b ≡ None → e.locks ≡ 0)

-- the blocks are laid out by address, no two have one id, and each is an entry's
pub record IsTable (t : Table) : Type 0 where
  pub laid : IsLaid t.lo t.hi t.blocks
  pub ids : AllPairs (λ x y. x.id ≡ y.id → ⊥) t.blocks
  pub holds : All (λ x. IsSomeAnd (entry_at t x.id) (λ e. x.hold ≡ hold_of_entry e)) t.blocks

-- and what else holds of each table
pub record IsSound (t : Table) : Type 0 where
  pub table : IsTable t
  pub grained : All (λ x. IsMultiple t.grain x.at × IsMultiple t.grain x.size) t.blocks
  pub low_grained : IsMultiple t.grain t.lo
  pub in_order : (id : ℕ) → is_member id t.order ≡ is_listed (entry_at t id) (block_with t.blocks id)
  pub no_repeats : AllPairs (λ a b. a ≡ b → ⊥) t.order
  pub counted : (id : ℕ) → IfSome (entry_at t id) (IsCountedBy (block_with t.blocks id))

-- A step of a heap over [lo, hi) leaves the rest of the memory as it was.
pub record IsSameOutside (lo hi : ℕ) (memory after : List ℕ) : Type 0 where
  pub below : take lo after ≡ take lo memory
  pub above : drop hi after ≡ drop hi memory
