-- Blocks that have slid together, and nothing else: what is kept, and the heap after it.
use Rattle.w16_arena.proofs
use proofs.Common as C
use proofs.Common.{arith, ◌≡◌, ℕ, ◌<◌, ◌≤◌, All, List, Some, refl, sym, ap, ◌∙◌, subst, Entry, Span, is_pinned, Heap, Layout, Uses, GName, table_of, heap_of}
use proofs.Listed.{whole, listed_with, is_listed}
use proofs.Slid.{slid_parts, slid_object, slid_still, slid_pinned}
use proofs.Steps.{state_of, beside, kept_with}
use proofs.{Parts.AreParts, Lookups.is_heap, Moved.moved_is, Moved.moved_few, Shown.known, Shown.told}
use Rattle.std.specs.FinMap as finmap

module _ {entries : List (C.Option Entry)} {layout : Layout} {uses : Uses} {gap_rooms : ℕ} {room : ℕ} (kept : C.ArenaInvariant entries layout uses gap_rooms room)
    {discarded : List ℕ} {old : C.ArenaState} (shown : state_of entries layout uses.ids discarded ≡ old)
    (memory : List ℕ) (bytes : All (λ b. b < 256) memory) (inside : old.table.hi ≤ C.length memory)
    (slid : Span) {new : Layout} {after : List ℕ} (moved : C.AreMoved slid.from slid.to layout memory new after) where
  parts : AreParts entries layout uses.ids memory
  parts = beside kept memory (known kept shown (λ t. t.hi ≤ C.length memory) inside)

  parts_new : AreParts entries new uses.ids after
  parts_new = slid_parts parts moved

  abbrev before : Heap
  before = heap_of entries layout uses.ids memory

  pub kept_slid : C.ArenaInvariant entries new uses gap_rooms room
  kept_slid = kept_with kept entries new uses parts_new.sound refl (ap (λ (l : Layout). l.cap) moved.same) refl

  pub rest_slid : {X : Type 0} {are_in : List Span → List ℕ → Type 0} {bytes : X → List ℕ} {lenders : X → List GName} {x y : X} → C.Leaves are_in bytes lenders (C.holes_of new) (C.IsSameRest layout.lo layout.hi) x y → C.KeepsRest are_in bytes lenders old.table x (table_of entries new uses.ids) y
  rest_slid {X} {are_in} {bytes} {lenders} {x} {y} rest = told kept shown (λ t. C.KeepsRest are_in bytes lenders t x (table_of entries new uses.ids) y) (record {
    range = record {
      lo = ap (λ (l : Layout). l.lo) moved.same;
      hi = ap (λ (l : Layout). l.hi) moved.same;
      grain = ap (λ (l : Layout). l.grain) moved.same;
      ids = refl;
      sound = parts_new.sound;
    };
    memory = rest;
  })

  settled : C.Settles before is_pinned before (heap_of entries new uses.ids after)
  settled = record {
    same =
        let lo = ap (λ (l : Layout). l.lo) moved.same in let hi = ap (λ (l : Layout). l.hi) moved.same in let grain = ap (λ (l : Layout). l.grain) moved.same in
        let objects = C.same_map C.nat_cmp_total C.nat_cmp-IsAntisymmetric (heap_of entries new uses.ids after).objects before.objects (slid_object parts moved) in
        λ i. record { lo = lo i; hi = hi i; grain = grain i; objects = objects i; places = (heap_of entries new uses.ids after).places; order = uses.ids };
    sound = is_heap parts_new (moved.bytes bytes);
    kept = C.All-from_Each (λ x. C.IsTrue (is_pinned x) → finmap.get (heap_of entries new uses.ids after).places x.id ≡ Some x.at) (C.blocks before)
        (C.Each-from (λ x. C.IsTrue (is_pinned x) → finmap.get (heap_of entries new uses.ids after).places x.id ≡ Some x.at) (C.blocks before) (λ x m t.
        slid_pinned parts moved x.id x (listed_with parts x (is_listed parts x m)) t));
  }

  pub slides : (c : C.Compacted) → c.slid ≡ slid → c.room ≡ C.longest_hole new.lo new.hi new.blocks → c.moved ≡ C.moved_between layout.blocks new.blocks → C.SlidesTogether (C.heap_in old.table memory) c (heap_of entries new uses.ids after)
  slides c slid_is longest counted = told kept shown (λ t. C.SlidesTogether (C.heap_in t memory) c (heap_of entries new uses.ids after)) (record {
    settled = settled;
    longest = longest ∙ sym (C.table_longest (table_of entries new uses.ids) parts_new.sound.table after (whole parts_new));
    slid = record {
      still = λ q. subst (λ (range : Span). C.IsStill range before (heap_of entries new uses.ids after) q) (sym slid_is) (slid_still parts moved q);
      moved = counted ∙ moved_is parts moved parts_new (heap_of entries new uses.ids after) (λ b m. refl);
      few = let e = counted ∙ moved_is parts moved parts_new (heap_of entries new uses.ids after) (λ b m. refl) in omega (arith, e, moved_few (table_of entries layout uses.ids) parts.sound memory parts.high (heap_of entries new uses.ids after));
    };
  })
