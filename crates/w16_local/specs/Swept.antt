-- How far heaps that have to go have gone, listed slot by listed slot.
use Rattle.std.specs.Prelude.{◌≡◌, ◌<◌, ◌≤◌, ◌⊎◌, ℕ, true, false, List, length, slice_index, Option, None}
use Rattle.std.specs.{Ordering.nat_cmp, FinMap.FinMap}
use Rattle.w16_model.specs.{Heap.Heap, Table.Table}
use Rattle.w16_machine.specs.Local.{has_range}
use Rattle.w16_local.specs.Kept.{AreListed, tables_of}
use Rattle.std.specs.FinMap as finmap

-- Of the listed slots those from a place on have been looked at: each has its range, and of the old heaps just such are gone as haven't.
pub record AreSwept {X : Type 0} (heap : Heap) (table : X → Table) (old : FinMap nat_cmp Table) (i : ℕ) (heaps : List (Option X)) (live : List ℕ) : Type 0 where
  pub listed : AreListed heaps live
  pub inside : i ≤ length live
  pub ranged : (k : ℕ) → i ≤ k → k < length live → has_range heap (tables_of heaps table) (slice_index live k) ≡ true
  pub left : (q : ℕ) → (finmap.get (tables_of heaps table) q ≡ finmap.get old q) ⊎ ((finmap.get (tables_of heaps table) q ≡ None) × (has_range heap old q ≡ false))
