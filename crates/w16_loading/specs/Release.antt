-- Objects that modules own go, locked or not: all at once, so that their order doesn't matter.
use Rattle.std.specs.Prelude.{ℕ, not, Bool, filter}
use Rattle.std.specs.FinMap as finmap
use Rattle.w16_model.specs.Heap.{Heap}
use Rattle.w16_loading.specs.Modules.{LoadingWorld}

abbrev pub heap_without : (ℕ → Bool) → Heap → Heap
heap_without gone heap = record heap {
  objects = finmap.retain_keys heap.objects (λ q. not (gone q));
  places = finmap.retain_keys heap.places (λ q. not (gone q));
  order = filter (λ q. not (gone q)) heap.order;
}

abbrev pub without_objects : (ℕ → Bool) → LoadingWorld → LoadingWorld
without_objects gone world = record world {
  handles = record world.handles { heap = heap_without gone world.handles.heap; attributes = finmap.retain_keys world.handles.attributes (λ q. not (gone q)) };
}
