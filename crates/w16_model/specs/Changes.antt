-- A heap with one thing changed.
use Rattle.std.specs.Prelude.{ℕ, not, ◌==◌, if◌then◌else◌, List, [], ◌∷◌, ◌++◌, filter, Some, None}
use Rattle.std.specs.{Ordering.nat_cmp, FinMap.FinMap}
use Rattle.w16_model.specs.{Heap.Heap, Heap.Object, Heap.is_in_order, Discards.is_member}
use Rattle.std.specs.FinMap as finmap

-- The order of use without an object, and with it at the newest or the oldest end.
abbrev pub without : ℕ → List ℕ → List ℕ
without id order = filter (λ q. not (q == id)) order

abbrev pub newest : ℕ → List ℕ → List ℕ
newest id order = without id order ++ id ∷ []

abbrev pub oldest : ℕ → List ℕ → List ℕ
oldest id order = id ∷ without id order

-- used: a member becomes the newest, and what is no member stays out
abbrev pub touched : ℕ → List ℕ → List ℕ
touched id order = if is_member id order then newest id order else order

-- the order once an id has this object: it is the newest where it belongs there, and out where it doesn't
abbrev pub with_newest : ℕ → Object → List ℕ → List ℕ
with_newest id o order = if is_in_order (Some o) then newest id order else without id order

-- the heap with this object, its place in the order kept
abbrev pub with_object : Heap → ℕ → Object → Heap
with_object heap id o = record heap { objects = finmap.insert heap.objects id o }

-- and with another order
abbrev pub with_ordered : Heap → ℕ → Object → (List ℕ → List ℕ) → Heap
with_ordered heap id o order = record heap { objects = finmap.insert heap.objects id o; order = order heap.order }

-- the objects with this one changed, if it is there
abbrev pub update : FinMap nat_cmp Object → ℕ → (Object → Object) → FinMap nat_cmp Object
update objects id change = elim (finmap.get objects id) [ Some o ↦ finmap.insert objects id (change o) | None ↦ objects ]

-- the heap with an object's bytes given up: its id, kind and locks stay (GlobalDiscard)
abbrev pub absent : Heap → ℕ → Heap
absent heap id = record heap { objects = update heap.objects id (λ o. record o { bytes = None }); places = finmap.remove heap.places id; order = without id heap.order }

-- the heap without an object
abbrev pub removed : Heap → ℕ → Heap
removed heap id = record heap { objects = finmap.remove heap.objects id; places = finmap.remove heap.places id; order = without id heap.order }
