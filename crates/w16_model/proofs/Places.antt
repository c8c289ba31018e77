-- An object that is with_ordered bytes at a free place: the heap that this makes.
use Rattle.w16_model.proofs
use proofs.Common as C
use proofs.Gaps as M
use Rattle.std.specs.List.{AllByRecursion as Each}
use proofs.Common.{◌≡◌, ◌≢◌, ℕ, ◌≤◌, ◌<◌, ◌⊎◌, List, Some, sym, ap, ◌∙◌, inl, inr, ⊎_elim, Block, Misses, block_end, Heap, blocks}
use proofs.Heaps.{IsBlockOf, block_member, member_block, blocks_differ}
use Rattle.std.specs.FinMap as finmap

-- a heap's blocks are placed if each two that it speaks of are
pub placed_from : (heap : Heap) → ((x : Block) → IsBlockOf heap x → (heap.lo ≤ x.at) × (0 < x.size) × (block_end x ≤ heap.hi))
    → ((x y : Block) → IsBlockOf heap x → IsBlockOf heap y → x ≢ y → Misses x.at x.size y.at (block_end y)) → C.ArePlaced heap.lo heap.hi (blocks heap)
placed_from heap inside apart = record {
  inside = M.All-from_Each _ _ (M.Each-from (λ x. (heap.lo ≤ x.at) × (0 < x.size) × (block_end x ≤ heap.hi)) _ (λ x m. inside x (member_block heap x m)));
  apart = M.AllPairs-from_EachPair (λ x y. Misses x.at _ y.at _) _
      (M.EachPair-member (λ x y. x ≢ y) (λ x y. Misses x.at _ y.at _) _ (λ x y m n d. apart x y (member_block heap x m) (member_block heap y n) d) (blocks_differ heap));
}

-- and placed blocks tell each two
pub two_placed : (heap : Heap) → C.IsHeap heap → (x y : Block) → IsBlockOf heap x → IsBlockOf heap y → x ≢ y → Misses x.at x.size y.at (block_end y)
two_placed heap is x y p q d =
    elim (M.Each-at (λ z. (z ≡ y) ⊎ Misses z.at _ y.at _) _
    (M.Each-at (λ w. Each (λ z. (z ≡ w) ⊎ Misses z.at _ w.at _) _) _
    (M.each_two (λ x y. Misses x.at x.size y.at (block_end y)) (λ x y. ⊎_elim inr inl) (blocks heap) (M.EachPair-from_AllPairs _ _ is.placed.apart)) y (block_member heap y q)) x (block_member heap x p)) [
      | inl e ↦ absurd (d e)
      | inr f ↦ f
    ]

-- a heap has one block of an id
pub same_id : (heap : Heap) (x y : Block) → IsBlockOf heap x → IsBlockOf heap y → x.id ≡ y.id → x ≡ y
same_id heap x y b c e =
    let same_object : b.object ≡ c.object = (let some : ◌≡◌ {A = C.Option C.Object} (Some b.object) (Some c.object) = sym b.is_there ∙ ap (C.object_at heap) e ∙ c.is_there in cc) in
    let same_bytes : b.bytes ≡ c.bytes = (let some : ◌≡◌ {A = C.Option (List ℕ)} (Some b.bytes) (Some c.bytes) = sym b.has_bytes ∙ ap (λ (p : C.Object). p.bytes) same_object ∙ c.has_bytes in cc) in
    let at = b.place ∙ ap (λ q. C.unwrap_or (finmap.get heap.places q) 0) e ∙ sym c.place in
    let size = b.size ∙ ap C.length same_bytes ∙ sym c.size in
    let hold = b.hold ∙ ap C.hold_of_object same_object ∙ sym c.hold in
    λ i. record { id = e i; at = at i; size = size i; hold = hold i }
