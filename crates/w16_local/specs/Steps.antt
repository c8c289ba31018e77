-- Steps of one local heap that ask for no room and give up no byte.
use Rattle.std.specs.Prelude.{◌≡◌, ◌≤◌, ◌<◌, ℕ, List, length, None, Some, Result, Ok, Err}
use Rattle.std.specs.{Ordering.nat_cmp, FinMap.FinMap}
use Rattle.w16_model.specs.{declared.Refusal.Refusal, Changes.with_object, Heap.Heap, OneObject.after_lock, OneObject.after_modify, OneObject.after_unlock, Table.Table, Table.entry_at, Table.heap_in}
use Rattle.w16_arena.specs.State.{IsSameRange}
use Rattle.w16_machine.specs.{declared.local.TheConstants.LOCAL_ENTRIES, Local.IsLocalTable}
use Rattle.w16_local.specs.declared.steps.TableOp.{TableOp}
use Rattle.w16_local.specs.declared.steps.TableOp.TheVariants.{Enter, Lock, Modify, Unlock}
use Rattle.std.specs.FinMap as finmap

-- when a step may be taken: a new object needs an entry that is free
abbrev pub MayStep : TableOp → ℕ → Table → Type 0
MayStep (Enter kind) id table = (id < LOCAL_ENTRIES) × (entry_at table id ≡ None)
MayStep Lock id table = Unit {0}
MayStep Unlock id table = Unit {0}
MayStep (Modify kind) id table = Unit {0}

-- what a step on an object leaves, or why it is refused
abbrev pub after_step : TableOp → Heap → ℕ → Result Heap Refusal
after_step (Enter kind) heap id = Ok (with_object heap id (record { kind = kind; locks = 0; bytes = None }))
after_step Lock heap id = after_lock heap id
after_step Unlock heap id = after_unlock heap id
after_step (Modify kind) heap id = after_modify heap id kind

-- the same as a call tells it
abbrev pub outcome : {X : Type 0} → Result X Refusal → Heap → Result Heap Refusal
outcome (Ok done) heap = Ok heap
outcome (Err refusal) heap = Err refusal

-- the answer of a step that is taken, or the one to its refusal
abbrev pub answer_of : {X : Type 0} → Result X Refusal → ℕ → (Refusal → ℕ) → ℕ
answer_of (Ok done) taken refused = taken
answer_of (Err refusal) taken refused = refused refusal

-- A heap's table becomes another, and the heap takes a step whatever its bytes are.
pub record Turns (old new : Table) (step : Heap → Heap → Type 0) : Type 0 where
  pub heaps : (bytes : List ℕ) → old.hi ≤ length bytes → step (heap_in old bytes) (heap_in new bytes)
  pub range : IsSameRange old new

-- One heap's table becomes another among those by slot, and the heap takes the step whatever its bytes are.
pub record Stepped (old : FinMap nat_cmp Table) (slot : ℕ) (step : Heap → Heap → Type 0) (new : FinMap nat_cmp Table) : Type 0 where
  pub before : Table
  pub after : Table
  pub was : finmap.get old slot ≡ Some before
  pub range : (after.lo ≡ before.lo) × (after.hi ≡ before.hi)
  pub is_local : IsLocalTable after
  pub heaps : (bytes : List ℕ) → before.hi ≤ length bytes → step (heap_in before bytes) (heap_in after bytes)
  pub rest : new ≡ finmap.insert old slot after
