-- An object that got bytes while it was left out of the heap: of the whole heap the same holds.
use Rattle.w16_arena.proofs.Common as C
use Rattle.w16_arena.proofs.Common.{◌≡◌, ◌≢◌, ℕ, ◌+◌, ◌<◌, ◌≤◌, ◌⊎◌, not, ◌==◌, Some, None, sym, ap, ◌∙◌, false≢true, Block, Heap, blocks, removed, taken_other}
use Rattle.w16_model.proofs.Maps.{put_where_taken}
use Rattle.std.specs.FinMap as finmap

module _ (heap : Heap) (id : ℕ) where
  -- the other blocks are left
  left : (x : Block) → x.id ≢ id → C.IsBlockOf heap x → C.IsBlockOf (removed heap id) x
  left x d b = record {
    object = b.object;
    bytes = b.bytes;
    is_there = taken_other heap.objects id x.id d ∙ b.is_there;
    has_bytes = b.has_bytes;
    place = b.place ∙ ap (λ p. C.unwrap_or p 0) (sym (taken_other heap.places id x.id d));
    size = b.size;
    hold = b.hold;
  }

  pub put_back : {n : ℕ} {becomes : C.Object → Type 0} {options : C.RoomOptions} {p : C.Placed} {new : Heap} → C.Stands (removed heap id) id n becomes (λ _ _. heap.order) options p new
      → (moved : ℕ) → moved ≡ C.moved_bytes heap new → heap.lo + moved ≤ heap.hi → C.Stands heap id n becomes (λ _ order. order) options (record p { moved = moved }) new
  put_back {n} {becomes} {options} {p} {new} s moved counted few = record {
    object = s.object;
    such = s.such;
    settled = record {
      same = s.settled.same ∙ (λ i. record { lo = heap.lo; hi = heap.hi; grain = heap.grain; objects = put_where_taken heap.objects id s.object i; places = new.places; order = heap.order });
      sound = s.settled.sound;
      kept = C.All-from_Each Stays (blocks heap) (C.Each-from Stays (blocks heap) (λ x m t.
          let d : x.id ≢ id = λ e. other x.id e (C.and_parts (not (x.id == id)) _ t).0 in
          C.Each-at Stays (blocks (removed heap id)) (C.Each-from_All Stays (blocks (removed heap id)) s.settled.kept) x (C.block_member (removed heap id) x (left x d (C.member_block heap x m))) t));
    };
    placed = record {
      place = s.placed.place;
      inside = s.placed.inside;
      still = λ q d. there q d (finmap.get new.places q) (s.placed.still q d);
      moved = counted;
      few = few;
    };
  }
    where
      Stays : Block → Type 0
      Stays x = C.IsTrue (C.stays_for id options x) → finmap.get new.places x.id ≡ Some x.at

      other : (q : ℕ) → q ≡ id → C.IsTrue (not (q == id)) → ⊥
      other q e t = false≢true (sym (ap not (C.eq-eqb q id e)) ∙ t)

      there : (q : ℕ) → q ≢ id → (at : C.Option ℕ) → C.IfSome at (λ at. ((at < p.slid.from) ⊎ (p.slid.to ≤ at)) → finmap.get (removed heap id).places q ≡ Some at)
          → C.IfSome at (λ at. ((at < p.slid.from) ⊎ (p.slid.to ≤ at)) → finmap.get heap.places q ≡ Some at)
      there q d None f = tt
      there q d (Some at) f = λ out. sym (taken_other heap.places id q d) ∙ f out
