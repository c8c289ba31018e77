-- What is known of the local heap that DS names, and of the worlds that a local call leaves.
use Rattle.w16_machine.proofs
use proofs.Common as C
use proofs.Common.{◌≡◌, ◌≢◌, ℕ, ◌<◌, ◌≤◌, Bool, true, false, cond, List, length, All, Option, Some, None, option_map, refl, sym, ap, ◌∙◌, subst, arith, put_part, Heap, Object, object_at, Table, World, LocalHeap, LocalObject, IsLocalIn, Acts, segment_bytes, heap_of, local_in, current_heap}
use proofs.Common.{id_named}
use Rattle.std.specs.FinMap as finmap

-- A local heap is there: its table, and its segment's bytes, which have its range.
pub record IsThere (w : World) (at : LocalHeap) : Type 0 where
  pub table : finmap.get w.heaps at.slot ≡ Some at.table
  pub bytes : segment_bytes w at.slot ≡ Some at.bytes
  pub inside : at.table.hi ≤ length at.bytes

-- the one of a slot's table and bytes
abbrev pub found : ℕ → Option Table → Option (List ℕ) → Option LocalHeap
found slot t b = elim t [ None ↦ None | Some t ↦ elim b [ None ↦ None | Some bytes ↦ C.local_of slot t bytes ] ]

-- the one in a slot is there
pub local_there : (w : World) (slot : ℕ) (at : LocalHeap) → local_in w slot ≡ Some at → IsThere w at × (at.slot ≡ slot)
local_there w slot at e = turn _ refl _ refl e
  where
    inside : (t : Table) → finmap.get w.heaps slot ≡ Some t → (bytes : List ℕ) → segment_bytes w slot ≡ Some bytes → (l : Bool) → C.nat_le t.hi (length bytes) ≡ l
        → ◌≡◌ {A = Option LocalHeap} (cond l (Some (record { slot = slot; table = t; bytes = bytes })) None) (Some at) → IsThere w at × (at.slot ≡ slot)
    inside t p bytes q false l e = cc
    inside t p bytes q true l e =
        let mine : LocalHeap = record { slot = slot; table = t; bytes = bytes } in
        let same : mine ≡ at = cc in
        subst (λ h. IsThere w h × (h.slot ≡ slot)) same (record { table = p; bytes = q; inside = C.leb-true _ _ l }, refl)

    turn : (t : Option Table) → finmap.get w.heaps slot ≡ t → (b : Option (List ℕ)) → segment_bytes w slot ≡ b → found slot t b ≡ Some at → IsThere w at × (at.slot ≡ slot)
    turn None p b q e = cc
    turn (Some t) p None q e = cc
    turn (Some t) p (Some bytes) q e = inside t p _ q _ refl e

-- and what is there is the one in its slot
pub there_local : (w : World) (at : LocalHeap) → IsThere w at → local_in w at.slot ≡ Some at
there_local w at is =
    ap (λ t. found at.slot t (segment_bytes w at.slot)) is.table ∙ ap (λ b. found at.slot (Some at.table) b) is.bytes
    ∙ ap (λ l. cond {A = Option _} l (Some at) None) (C.le-leb _ _ is.inside)

-- the current heap is there
pub current_there : (w : World) (at : LocalHeap) → current_heap w ≡ Some at → IsThere w at
current_there w at e = turn _ e
  where
    turn : (s : Option ℕ) → ◌≡◌ {A = Option LocalHeap} (elim s [ None ↦ None | Some slot ↦ local_in w slot ]) (Some at) → IsThere w at
    turn None e = cc
    turn (Some slot) e = (local_there w _ at e).0

abbrev with_id : LocalHeap → Option ℕ → Option LocalObject
with_id at p = option_map (λ id. record { heap = at; id = id }) p

-- a named object is in the current heap
pub named_there : (w : World) (name : ℕ) (o : LocalObject) → C.object_named w name ≡ Some o → (current_heap w ≡ Some o.heap) × (id_named (heap_of o.heap) name ≡ Some o.id)
named_there w name o e = turn _ refl e
  where
    by_id : (at : LocalHeap) → current_heap w ≡ Some at → (p : Option ℕ) → id_named (heap_of at) name ≡ p → with_id at p ≡ Some o → (current_heap w ≡ Some o.heap) × (id_named (heap_of o.heap) name ≡ Some o.id)
    by_id at c None p e = cc
    by_id at c (Some id) p e =
        let mine : LocalObject = record { heap = at; id = id } in
        let same : mine ≡ o = cc in
        subst (λ o. (current_heap w ≡ Some o.heap) × (id_named (heap_of o.heap) name ≡ Some o.id)) same (c, p)

    turn : (c : Option LocalHeap) → current_heap w ≡ c → ◌≡◌ {A = Option LocalObject} (elim c [ None ↦ None | Some at ↦ with_id at (id_named (heap_of at) name) ]) (Some o) → (current_heap w ≡ Some o.heap) × (id_named (heap_of o.heap) name ≡ Some o.id)
    turn None c e = cc
    turn (Some at) c e = by_id at c _ refl e

-- A local heap of a world with such heaps.
module _ (w : World) (is : C.AreLocalHeaps w) (at : LocalHeap) (there : IsThere w at) where
  -- its table is one in its segment's bytes
  pub local_here : IsLocalIn at.table at.bytes
  local_here = subst (λ b. C.IsSomeAnd b (IsLocalIn at.table)) there.bytes (subst (λ t. C.IfSome t (λ t. C.IsSomeAnd (segment_bytes w at.slot) (IsLocalIn t))) there.table (is.heaps at.slot))

  -- these are bytes
  pub bytes_here : All (λ b. b < 256) at.bytes
  bytes_here = subst (λ b. C.IfSome b (All (λ n. n < 256))) there.bytes (is.handles.heap.are_bytes at.slot)

  -- and it is a heap
  pub heap_here : C.IsHeap (heap_of at)
  heap_here = C.sound_law at.table at.bytes local_here.0.sound local_here.1 bytes_here

-- all bytes replaced by as many
pub put_all : (bytes after : List ℕ) → length after ≡ length bytes → put_part bytes 0 after ≡ after
put_all bytes after long = sym (C.take_all _ _ (omega (arith, C.length-put_part bytes 0 after (omega arith)))) ∙ C.part-put_part bytes 0 after _ refl (omega arith)

-- A segment's bytes are replaced by as many.
module _ (heap : Heap) (slot : ℕ) (o : Object) (there : object_at heap slot ≡ Some o) (bytes : List ℕ) (has : o.bytes ≡ Some bytes) (after : List ℕ) (long : length after ≡ length bytes) where
  pub segment_after : object_at (C.after_write heap slot 0 after) slot ≡ Some (record o { bytes = Some after })
  segment_after = C.get-update_same heap.objects slot (λ (o : Object). record o { bytes = option_map (λ bytes. put_part bytes 0 after) o.bytes })
      ∙ ap (option_map (λ (o : Object). record o { bytes = option_map (λ bytes. put_part bytes 0 after) o.bytes })) there
      ∙ ap (λ (b : Option (List ℕ)). Some (record o { bytes = b })) (ap (option_map (λ bytes. put_part bytes 0 after)) has ∙ ap Some (put_all bytes after long))

pub segment_other : (heap : Heap) (slot : ℕ) (after : List ℕ) (q : ℕ) → q ≢ slot → object_at (C.after_write heap slot 0 after) q ≡ object_at heap q
segment_other heap slot after q d = C.get-update_other _ _ (λ o. record o { bytes = option_map (λ bytes. put_part bytes 0 after) _ }) q d

-- the object that has the bytes
pub object_of : (heap : Heap) (slot : ℕ) (bytes : List ℕ) → C.bytes_at heap slot ≡ Some bytes → (o : Object) × (object_at heap slot ≡ Some o) × (o.bytes ≡ Some bytes)
object_of heap slot bytes e = turn _ refl e
  where
    turn : (p : Option Object) → object_at heap slot ≡ p → C.bytes_in p ≡ Some bytes → (o : Object) × (object_at heap slot ≡ Some o) × (o.bytes ≡ Some bytes)
    turn None t e = cc
    turn (Some o) t e = (o, t, e)

-- what a local heap is after it acted
pub acted_there : (old new : World) (at : LocalHeap) (P : Heap → Type 0) → IsThere old at → (a : Acts old at P new) → IsThere new (record { slot = at.slot; table = a.table; bytes = a.bytes })
acted_there old new at P there a =
    let o = object_of old.loading.handles.heap at.slot at.bytes there.bytes in
    record {
      table = ap (λ w. finmap.get w.heaps at.slot) a.rest ∙ C.inserted_here _ at.slot _ _ refl;
      bytes = ap (λ w. segment_bytes w at.slot) a.rest ∙ ap C.bytes_in (segment_after old.loading.handles.heap _ o.0 o.1 _ o.2 _ a.long);
      inside = omega (arith, a.range.1, a.long, there.inside);
    }

-- and after it became another with the same bytes
pub became_there : (old new : World) (at : LocalHeap) (next : Heap) → IsThere old at → (b : C.Becomes old at next new) → IsThere new (record { slot = at.slot; table = b.table; bytes = at.bytes })
became_there old new at next there b = record {
  table = ap (λ w. finmap.get w.heaps at.slot) b.rest ∙ C.inserted_here _ at.slot _ _ refl;
  bytes = ap (λ w. segment_bytes w at.slot) b.rest ∙ there.bytes;
  inside = omega (arith, b.range.1, there.inside);
}
