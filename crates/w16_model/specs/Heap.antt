-- A heap: objects by id, their addresses apart from what they contain, and the order of use. One text serves the global heap, of grain 32,
-- and a local heap inside a segment, of grain 4.
use Rattle.w16_model.specs
use Rattle.std.specs.Prelude.{◌≡◌, ℕ, ◌*◌, ◌<◌, ◌≤◌, Bool, true, false, ◌&&◌, ◌||◌, if◌then◌else◌, nat_lt, IsTrue, IfSome, List, length, All, AllPairs, Option, Some, None, option_map, unwrap_or, is_some}
use Rattle.std.specs.{List.filter_map, Ordering.nat_cmp, FinMap.FinMap}
use specs.declared.Hold.TheVariants.{Pinned, Loose}
use specs.declared.Kind.TheVariants.{Fixed, Moveable, Discardable}
use specs.{declared.Block.Block, declared.Hold.Hold, declared.Kind.Kind, Gap.ArePlaced, Discards.is_member}
use Rattle.std.specs.FinMap as finmap

-- an object: its kind, its lock count, and its bytes, or none where it is absent (the manual: discarded)
pub record Object : Type 0 where
  pub kind : Kind
  pub locks : ℕ
  pub bytes : Option (List ℕ)

pub record Heap : Type 0 where
  pub lo : ℕ
  pub hi : ℕ
  pub grain : ℕ
  pub objects : FinMap nat_cmp Object
  -- the address of each object with bytes
  pub places : FinMap nat_cmp ℕ
  -- the discardable objects with bytes, oldest first
  pub order : List ℕ

abbrev pub is_fixed : Kind → Bool
is_fixed Fixed = true
is_fixed Moveable = false
is_fixed Discardable = false

abbrev pub is_discardable : Kind → Bool
is_discardable Fixed = false
is_discardable Moveable = false
is_discardable Discardable = true

-- a fixed or locked object keeps its address (GMEM_FIXED; GlobalLock)
abbrev pub is_pinned_object : Object → Bool
is_pinned_object o = is_fixed o.kind || nat_lt 0 o.locks

abbrev pub hold_of_object : Object → Hold
hold_of_object o = if is_pinned_object o then Pinned else Loose

-- where an object stands, if it has bytes
abbrev pub block_of : FinMap nat_cmp ℕ → ℕ × Object → Option Block
block_of places e = option_map (λ bytes. record { id = e.0; at = unwrap_or (finmap.get places e.0) 0; size = length bytes; hold = hold_of_object e.1 }) e.1.bytes

abbrev pub blocks : Heap → List Block
blocks heap = filter_map (block_of heap.places) (finmap.entries heap.objects)

abbrev pub object_at : Heap → ℕ → Option Object
object_at heap id = finmap.get heap.objects id

-- the bytes of an object, if it has any
abbrev pub bytes_at : Heap → ℕ → Option (List ℕ)
bytes_at heap id = elim (object_at heap id) [ Some o ↦ o.bytes | None ↦ None ]

abbrev pub size_of : Object → ℕ
size_of o = unwrap_or (option_map length o.bytes) 0

-- the order of use has the discardable objects with bytes
abbrev pub is_in_order : Option Object → Bool
is_in_order (Some o) = is_discardable o.kind && is_some o.bytes
is_in_order None = false

-- a whole number of grains (GlobalAlloc rounds a size up)
abbrev pub IsMultiple : ℕ → ℕ → Type 0
IsMultiple grain n = (m : ℕ) × (n ≡ grain * m)

-- the locks of an object: at most 255, and none where it is fixed or has no bytes (GlobalLock; the bound is the profile's)
abbrev pub IsCounted : Object → Type 0
IsCounted o = (o.locks ≤ 255) × (IsTrue (is_fixed o.kind) → o.locks ≡ 0) × (o.bytes ≡ None → o.locks ≡ 0)

-- What holds of every heap: its objects lie apart inside its bounds, at multiples of the grain; an object has an address just where it has
-- bytes; the order of use has each discardable object with bytes once; no count of locks is over 255, and a fixed object and one without bytes have none.
pub record IsHeap (heap : Heap) : Type 0 where
  pub placed : ArePlaced heap.lo heap.hi (blocks heap)
  pub grained : All (λ x. IsMultiple heap.grain x.at × IsMultiple heap.grain x.size) (blocks heap)
  pub low_grained : IsMultiple heap.grain heap.lo
  pub at_bytes : (id : ℕ) → finmap.contains_key heap.places id ≡ is_some (bytes_at heap id)
  pub are_bytes : (id : ℕ) → IfSome (bytes_at heap id) (All (λ b. b < 256))
  pub in_order : (id : ℕ) → is_member id heap.order ≡ is_in_order (object_at heap id)
  pub no_repeats : AllPairs (λ a b. a ≡ b → ⊥) heap.order
  pub counted : (id : ℕ) → IfSome (object_at heap id) IsCounted
