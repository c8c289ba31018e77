-- What the calls for room promise of discards, in whatever world has these parts: the laws of the machine, of one call.
use Rattle.std.specs.Prelude.{◌≡◌, ℕ, ◌<◌, false, Some}
use Rattle.std.specs.{Ordering.nat_cmp, FinMap.FinMap}
use Rattle.w16_model.specs.{Calls.has_flag, Fewest.CompactsFewest, Handles.Handles, Table.Table}
use Rattle.w16_machine.specs.{declared.local.TheConstants.LMEM_MODIFY, World.World, Local.LocalHeap, Local.LocalObject, Law.AreLocalHeaps, Local.current_heap, Local.heap_of, Local.object_named, LocalFewest.AllocFewest, LocalFewest.Left, LocalFewest.ReallocFewest}
use Rattle.w16_local.specs.Parts.{with_parts}

-- what is so of the worlds before and after a call, where the tables before it are local heaps in their segments
abbrev pub InWorlds : Handles → FinMap nat_cmp Table → ℕ → Handles → FinMap nat_cmp Table → (World → World → Type 0) → Type 0
InWorlds handles tables ds next left so = (rest : World) → AreLocalHeaps (with_parts rest handles tables ds) → so (with_parts rest handles tables ds) (with_parts rest next left ds)

-- LocalAlloc discards as few as it can, and is refused for room only where no discards would have made it;
abbrev pub AllocsFewest : ℕ → ℕ → ℕ → World → World → Type 0
AllocsFewest flags size answer old new = (at : LocalHeap) → current_heap old ≡ Some at → AllocFewest old at flags size answer new

-- so does LocalReAlloc to a size above 0;
abbrev pub ReallocsFewest : ℕ → ℕ → ℕ → ℕ → World → World → Type 0
ReallocsFewest name size flags answer old new = (o : LocalObject) → object_named old name ≡ Some o → has_flag flags LMEM_MODIFY ≡ false → 0 < size → ReallocFewest old o size flags answer new

-- and LocalCompact, which answers the longest free stretch of any arrangement of what it leaves.
abbrev pub CompactionsFewest : ℕ → ℕ → World → World → Type 0
CompactionsFewest size answer old new = (at : LocalHeap) → current_heap old ≡ Some at → Left new at (CompactsFewest (heap_of at) size answer)
