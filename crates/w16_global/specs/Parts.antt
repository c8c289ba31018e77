-- What the objects of the global heap are: an arena beside its memory, and the heap that they stand for.
use Rattle.std.specs.Prelude.{◌≡◌, ℕ, ◌+◌, ◌<◌, ◌≤◌, List, length, All, IsSomeAnd, refl}
use Rattle.std.specs.Coded.{Coded, code_by, coded×, coded_ℕ, coded_list}
use Rattle.w16_model.specs.{declared.TheConstants.GRAIN, Codes.heap_code, Heap.Heap, Heap.bytes_at, Table.IsSound, Table.heap_in}
use Rattle.w16_holes.specs.Thread.{AreThreaded}
use Rattle.w16_arena.specs.State.{ArenaState, holes_in}

-- a heap, how many ids its objects may have, the ids that its last request discarded, and how many bytes of its memory were written so far
pub record Holding : Type 0 where
  pub cap : ℕ
  pub heap : Heap
  pub discarded : List ℕ
  pub written : ℕ

-- by what a proof tells them apart
abbrev pub holding_code : Coded Holding
holding_code = code_by (ℕ × (Heap × (List ℕ × ℕ))) (coded× coded_ℕ (coded× heap_code (coded× (coded_list coded_ℕ) coded_ℕ))) (λ h. (h.cap, (h.heap, (h.discarded, h.written))))
    (λ p. record { cap = p.0; heap = p.1.0; discarded = p.1.1.0; written = p.1.1.1 }) (λ _. refl)

-- what an arena and a memory stand for, of which so many bytes were written
abbrev pub holding_of : ArenaState → List ℕ → ℕ → Holding
holding_of state memory written = record { cap = length state.table.entries; heap = heap_in state.table memory; discarded = state.discarded; written = written }

-- what holds of them: the arena is over all of the memory, from 0 on, at multiples of the grain, and its holes are a thread through the free bytes
pub record AreParts (state : ArenaState) (memory : List ℕ) : Type 0 where
  pub sound : IsSound state.table
  pub low : state.table.lo ≡ 0
  pub grain : state.table.grain ≡ GRAIN
  pub high : state.table.hi ≡ length memory
  pub bytes : All (λ b. b < 256) memory
  pub kept : AreThreaded (holes_in state.table) memory
  pub few : length state.table.entries ≤ 8192

-- an object has n bytes from an offset on
abbrev pub HasPart : Heap → ℕ → ℕ → ℕ → Type 0
HasPart heap id at n = IsSomeAnd (bytes_at heap id) (λ bytes. at + n ≤ length bytes)
