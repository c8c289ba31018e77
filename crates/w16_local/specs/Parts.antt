-- A step of the local calls in whatever world has these parts, and what is known of the heap that DS names there.
use Rattle.std.specs.Prelude.{◌≡◌, ◌<◌, ◌≤◌, ℕ, List, [], length, All, Some, IsSome}
use Rattle.std.specs.{Ordering.nat_cmp, FinMap.FinMap}
use Rattle.w16_model.specs.{Handles.Handles, Heap.bytes_at, Table.Table, Table.heap_in}
use Rattle.w16_loading.specs.{Modules.with_handles}
use Rattle.w16_model.specs.Commands.{Command}
use Rattle.w16_model.specs.Commands.Family.{OfLocals}
use Rattle.w16_machine.specs.{World.World, Law.empty_world, Local.IsLocalTable, Local.beginning, Local.current_heap, Local.id_named, LocalCalls.Answers}
use Rattle.std.specs.FinMap as finmap

-- a world with these handles, tables of local heaps, and DS
abbrev pub with_parts : World → Handles → FinMap nat_cmp Table → ℕ → World
with_parts rest handles tables ds = record rest { loading = with_handles rest.loading handles; heaps = tables; ds = ds }

-- one of them alone: which heap DS names, and which object has a name there, is the same in each
abbrev pub alone : Handles → FinMap nat_cmp Table → ℕ → World
alone handles tables ds = with_parts (empty_world 0 0 [] 0) handles tables ds

-- a call is answered so, and leaves these handles and tables
abbrev pub Calls : Handles → FinMap nat_cmp Table → ℕ → Command OfLocals → ℕ → Handles → FinMap nat_cmp Table → Type 0
Calls handles tables ds command answer next left = (rest : World) → Answers (with_parts rest handles tables ds) command answer (with_parts rest next left ds)

-- a local heap may begin there, in whatever world has these parts
abbrev pub MayBegin : Handles → FinMap nat_cmp Table → ℕ → ℕ → ℕ → ℕ → Type 0
MayBegin handles tables ds selector start end = (rest : World) → IsSome (beginning (with_parts rest handles tables ds) selector start end)

-- a table in bytes of its segment, as long as they have its range
pub record IsOver (table : Table) (bytes : List ℕ) : Type 0 where
  pub is_local : IsLocalTable table
  pub inside : table.hi ≤ length bytes
  pub are_bytes : All (λ b. b < 256) bytes

-- DS names the heap of a slot, of which this is the table
pub record IsIn (handles : Handles) (tables : FinMap nat_cmp Table) (ds slot : ℕ) (table : Table) : Type 0 where
  pub bytes : List ℕ
  pub is_current : current_heap (alone handles tables ds) ≡ Some (record { slot = slot; table = table; bytes = bytes })
  pub kept : finmap.get tables slot ≡ Some table
  pub had : bytes_at handles.heap slot ≡ Some bytes
  pub over : IsOver table bytes

-- and an object there has a name
pub record IsNamed (handles : Handles) (tables : FinMap nat_cmp Table) (ds name slot : ℕ) (table : Table) (id : ℕ) : Type 0 where
  pub heap : IsIn handles tables ds slot table
  pub has : id_named (heap_in table heap.bytes) name ≡ Some id
