-- What an arena is, and a step of its heap in every memory.
use Rattle.std.specs.Prelude.{◌≡◌, ℕ, ◌≤◌, ◌&&◌, if◌then◌else◌, Bool, List, [], length, replicate, Option, None, Result}
use Rattle.std.specs.Borrow.{GName}
use Rattle.w16_model.specs.{declared.Entry.Entry, declared.Refusal.Refusal, declared.Block.Block, declared.Span.Span, Law.holes, Heap.Heap, Heap.Object, Changes.newest, Changes.without, OneObject.after_newest, OneObject.after_oldest, Table.Table, Table.IsSound, Table.heap_in}
use Rattle.w16_blocks.specs.{Layout.Layout, Stay.Leaves}
use Rattle.w16_lru.specs.{declared.End.End, declared.End.TheVariants.Oldest, declared.End.TheVariants.Newest}
use Rattle.w16_compact.specs.{Gather.contents, Rest.IsSameRest}

-- the table of an arena's heap, and the ids that its last request discarded, oldest first
pub record ArenaState : Type 0 where
  pub table : Table
  pub discarded : List ℕ

-- the entries by id, the blocks and the order of use, as a table
abbrev pub table_of : List (Option Entry) → Layout → List ℕ → Table
table_of entries layout order = record { lo = layout.lo; hi = layout.hi; grain = layout.grain; entries = entries; blocks = layout.blocks; order = order }

-- the heap that they and a memory stand for
abbrev pub heap_of : List (Option Entry) → Layout → List ℕ → List ℕ → Heap
heap_of entries layout order memory = heap_in (table_of entries layout order) memory

-- no object yet
abbrev pub empty_table : ℕ → ℕ → ℕ → ℕ → Table
empty_table cap lo hi grain = record { lo = lo; hi = hi; grain = grain; entries = replicate cap None; blocks = []; order = [] }

-- what is known of an object beside its bytes
abbrev pub entry_of : Object → Entry
entry_of o = record { kind = o.kind; locks = o.locks }

-- the holes between the blocks of a table
abbrev pub holes_in : Table → List Span
holes_in t = holes t.lo t.hi t.blocks

-- two tables over one range, with as many ids, and the second is sound
pub record IsSameRange (old new : Table) : Type 0 where
  pub lo : new.lo ≡ old.lo
  pub hi : new.hi ≡ old.hi
  pub grain : new.grain ≡ old.grain
  pub ids : length new.entries ≡ length old.entries
  pub sound : IsSound new

-- What a step of an arena leaves of the rest: the table's range and its soundness, and the memory, which has what is kept of the holes that there are then, and is the same outside the range.
pub record KeepsRest {X : Type 0} (are_in : List Span → List ℕ → Type 0) (bytes : X → List ℕ) (lenders : X → List GName) (old : Table) (before : X) (new : Table) (after : X) : Type 0 where
  pub range : IsSameRange old new
  pub memory : Leaves are_in bytes lenders (holes_in new) (IsSameRest old.lo old.hi) before after

-- What a step leaves of a memory where it only gives or takes free bytes between two bounds: each block's bytes, the count of bytes written, and the memory but for the bounds, with what is kept of the holes that there are then.
pub record KeepsBytes {X : Type 0} (are_in : List Span → List ℕ → Type 0) (bytes : X → List ℕ) (lenders : X → List GName) (written : X → ℕ) (holes : List Span) (lo hi : ℕ) (blocks : List Block) (before after : X) : Type 0 where
  pub contents : contents (bytes after) blocks ≡ contents (bytes before) blocks
  pub rest : Leaves are_in bytes lenders holes (IsSameRest lo hi) before after
  pub count : written after ≡ written before

-- A step that asks for no room, in every memory that has the range: it changes the table alone.
pub record Steps (old new : ArenaState) (step : Heap → Heap → Type 0) : Type 0 where
  pub heaps : (memory : List ℕ) → old.table.hi ≤ length memory → step (heap_in old.table memory) (heap_in new.table memory)
  pub range : IsSameRange old.table new.table
  pub rest : new ≡ record old { table = new.table }

-- what a step to an end of the order leaves, or why it is refused
abbrev pub after_end : End → Heap → ℕ → Result Heap Refusal
after_end Oldest heap id = after_oldest heap id
after_end Newest heap id = after_newest heap id

-- the order of use once an id was, or wasn't, and is, or isn't, discardable
abbrev pub relisted : Bool → Bool → Bool → ℕ → List ℕ → List ℕ
relisted was is has_bytes id order = if was && is then order else (if is && has_bytes then newest id order else without id order)
