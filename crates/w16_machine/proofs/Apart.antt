-- No two objects of a world share a byte.
use Rattle.w16_machine.proofs.Common.{◌≡◌, ℕ, List, length, Some, refl, ap, sym, unwrap_or, Heap, Object, IsHeap, IsBlockOf, object_at, two_placed}
use Rattle.w16_machine.proofs.LocalFacts.{heap_here, local_there, object_of}
use Rattle.w16_model.specs.{declared.Block.Block, Heap.hold_of_object}
use Rattle.w16_machine.specs.{Law.ApartLaw, Law.AreApart, Local.heap_of}
use Rattle.std.specs.FinMap as finmap

-- the block of an object with bytes
abbrev block_at : ℕ → ℕ → List ℕ → Object → Block
block_at q at bytes o = record { id = q; at = at; size = length bytes; hold = hold_of_object o }

is_block : (heap : Heap) (q at : ℕ) (bytes : List ℕ) (o : Object) → finmap.get heap.places q ≡ Some at → object_at heap q ≡ Some o → o.bytes ≡ Some bytes → IsBlockOf heap (block_at q at bytes o)
is_block heap q at bytes o placed there has = record { object = o; bytes = bytes; is_there = there; has_bytes = has; place = sym (ap (λ p. unwrap_or p 0) placed); size = refl; hold = refl }

apart_in : (heap : Heap) → IsHeap heap → AreApart heap
apart_in heap is q r from to bytes others differ placed has beside had =
    let (o, there, own) = object_of heap q _ has in
    let (p, near, next) = object_of heap r _ had in
    two_placed _ is (block_at q _ _ o) (block_at r to _ p) (is_block _ q _ _ o placed there own) (is_block _ r to _ p beside near next) (λ e. differ (ap (λ x. x.id) e))

pub apart_law : ApartLaw
apart_law w is = (
  apart_in w.loading.handles.heap is.loading.handles.heap,
  λ slot at e. apart_in (heap_of at) (heap_here w is.heaps at (local_there w _ at e).0),
)
