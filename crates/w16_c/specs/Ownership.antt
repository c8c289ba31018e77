-- What a held machine owns: what a box of it owns, where there is one.
use base.Fml.{Fml}
use base.Stored.{Coded}
use denote.RattleType.{RattleType}
use denote.RawPtr.{Ptr}
use Rattle.std.specs.{Box.Ownership.box_owns, Global.Global, Prelude.Bool, Vec.Ownership.owns_if}
use Rattle.std_heap.specs.contracts.GlobalAllocator.TheImpl.{ghosts}
use Rattle.std_heap.specs.contracts.Global as Heap
use Rattle.core.specs.declared.clone.Clone as Clone
use Rattle.w16_kernel.specs.contracts.growing.GrowingStore as store
use Rattle.w16_kernel.specs.contracts.growing.GrowingStoreStore.TheImpl as stores
use Rattle.w16_kernel.specs.contracts.kernel.Kernel as kernel

-- the allocator, of which there is one
abbrev pub here : Global
here = record { memory = record { seal = tt } }

-- what is told of the allocator's clones, on which nothing of a machine rests
abbrev pub clones : Clone.Ghosts Heap.the_row.Denot
clones = record { is_clone = λ x y. Unit {0}; is_infallible = λ _. Unit {0} }

-- a machine over a store of files in memory
abbrev pub machine_row : RattleType
machine_row = kernel.the_row store.the_row Heap.the_row stores.ghosts ghosts clones

abbrev pub held_owns : Bool → Ptr → machine_row.Denot → Fml
held_owns held at world = owns_if held (box_owns (ghosts.dealloc_token here) machine_row at world)

abbrev pub machine_coded : Coded machine_row.Denot
machine_coded = machine_row.coded
