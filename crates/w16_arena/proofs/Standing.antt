-- An object at a place that was found or made: what its call asks, and the heap after it. Its id has no block before.
use Rattle.w16_arena.proofs
use proofs.Common as C
use proofs.Common.{◌≡◌, ◌≢◌, ℕ, ◌+◌, ◌<◌, ◌≤◌, ◌⊎◌, inl, inr, Bool, true, false, not, ◌&&◌, ◌||◌, ◌==◌, IsTrue, List, set, Option, Some, None, refl, sym, ap, ◌∙◌, subst, arith, false≢true, Block, Entry, Hold, is_pinned, Heap, Object, IsMultiple, blocks, stays_for, block_with}
use proofs.Common.{hold_of_entry, Layout, IsOrdered, Fits, placed, Stands, heap_of}
use proofs.Allocated.{AreLocks, differ, fits, new_parts, objects, place_new, others_stay}
use proofs.Slid.{slid_parts, slid_object, slid_with, slid_still, slid_pinned}
use proofs.{Parts.AreParts, Lookups.is_heap, Lookups.place_here, Listed.listed_with, Listed.is_listed, Changed.ReordersOne, Pairs.BothOrNone, Moved.moved_is, Moved.moved_few, Cleared.Makes}
use Rattle.std.specs.FinMap as finmap

module _ {entries : List (Option Entry)} {layout : Layout} {order memory : List ℕ} (parts : AreParts entries layout order memory)
    (id n : ℕ) (entry : Entry) (locks : AreLocks entry) (options : C.RoomOptions) (lt : id < C.length entries) (absent : block_with layout.blocks id ≡ None) (some : 0 < n) (rounded : IsMultiple layout.grain n) where
  abbrev before : Heap
  before = heap_of entries layout order memory

  other : (x : Block) → C.Member x layout.blocks → x.id ≢ id
  other x m = C.Each-at (λ (c : Block). c.id ≢ id) layout.blocks (differ parts id n entry locks lt absent some rounded) x m

  -- Others slid or not, and the object stands at a place that is free then.
  module _ {mid : Layout} {mid_memory : List ℕ} (p : C.Placed) (moved : C.AreMoved p.slid.from p.slid.to layout memory mid mid_memory) (place : C.AreFreeBytes mid n p.at) where
    mid_parts : AreParts entries mid order mid_memory
    mid_parts = slid_parts parts moved

    mid_absent : block_with mid.blocks id ≡ None
    mid_absent = from (block_with mid.blocks id) (subst (λ b. BothOrNone (C.Slides p.slid.from p.slid.to memory mid_memory) b (block_with mid.blocks id)) absent (slid_with parts moved id))
      where
        from : (c : Option Block) → BothOrNone (C.Slides p.slid.from p.slid.to memory mid_memory) None c → c ≡ None
        from None s = refl
        from (Some c) s = absurd s

    mid_rounded : IsMultiple mid.grain n
    mid_rounded = subst (λ g. IsMultiple g n) (sym (ap (λ (l : Layout). l.grain) moved.same)) rounded

    -- the place lies in memory
    pub in_memory : p.at + n ≤ C.length mid_memory
    in_memory = let end = place.below in let hi = ap (λ (l : Layout). l.hi) moved.same in let high = parts.high in let size = moved.size in omega arith

    abbrev named : Hold → Block
    named h = record { id = id; at = p.at; size = n; hold = h }

    module _ {hold : Hold} (hold_is : hold ≡ hold_of_entry entry) where
      pub may_insert : Fits mid (named hold)
      may_insert = subst (λ h. Fits mid (named h)) (sym hold_is) (fits mid_parts id n entry locks lt mid_absent some mid_rounded p.at place)

      module _ {new : Layout} (value : new ≡ record mid { blocks = placed (named hold) mid.blocks }) (ordered : IsOrdered new)
          {after : List ℕ} (made : Makes p.at n mid_memory after) {uses : List ℕ} (reorders : ReordersOne id (C.is_discardable entry.kind && true) order uses) where
        new_is : new ≡ record mid { blocks = placed (named (hold_of_entry entry)) mid.blocks }
        new_is = value ∙ ap (λ h. record mid { blocks = placed (named h) mid.blocks }) hold_is

        ordered_new : IsOrdered (record mid { blocks = placed (named (hold_of_entry entry)) mid.blocks })
        ordered_new = subst IsOrdered new_is ordered

        granted_parts : AreParts (set entries id (Some entry)) (record mid { blocks = placed (named (hold_of_entry entry)) mid.blocks }) uses after
        granted_parts = new_parts mid_parts id n entry locks lt mid_absent some mid_rounded p.at place reorders ordered_new after made

        pub parts_after : AreParts (set entries id (Some entry)) new uses after
        parts_after = subst (λ l. AreParts (set entries id (Some entry)) l uses after) (sym new_is) granted_parts

        abbrev granted : Heap
        granted = heap_of (set entries id (Some entry)) (record mid { blocks = placed (named (hold_of_entry entry)) mid.blocks }) uses after

        abbrev o : Object
        o = record { kind = entry.kind; locks = entry.locks; bytes = Some (C.slice_range after p.at (p.at + n)) }

        -- each other stands where it slid to
        place_mid : (q : ℕ) → q ≢ id → finmap.get granted.places q ≡ finmap.get (heap_of entries mid order mid_memory).places q
        place_mid q d = (others_stay mid_parts id n entry locks lt mid_absent some mid_rounded p.at place reorders ordered_new after made q d).1

        objects_same : granted.objects ≡ finmap.insert before.objects id o
        objects_same =
            let mid_same : (heap_of entries mid order mid_memory).objects ≡ before.objects = C.same_map C.nat_cmp_total C.nat_cmp-IsAntisymmetric (heap_of entries mid order mid_memory).objects before.objects (slid_object parts moved) in
            C.same_map C.nat_cmp_total C.nat_cmp-IsAntisymmetric granted.objects (finmap.insert (heap_of entries mid order mid_memory).objects id o) (objects mid_parts id n entry locks lt mid_absent some mid_rounded p.at place reorders ordered_new after made)
            ∙ ap (λ os. finmap.insert os id o) mid_same

        module _ (still : options.compact ≡ false → mid.blocks ≡ layout.blocks) where
          place_same : options.compact ≡ false → (q : ℕ) → finmap.get (heap_of entries mid order mid_memory).places q ≡ finmap.get before.places q
          place_same off q = place_here mid_parts q ∙ ap (λ (bs : List Block). C.option_map (λ (x : Block). x.at) (block_with bs q)) (still off) ∙ sym (place_here parts q)

          stays : (x : Block) → C.Member x layout.blocks → IsTrue (stays_for id options x) → finmap.get granted.places x.id ≡ Some x.at
          stays x m t =
              let here = listed_with parts x m in
              place_mid x.id (other x m) ∙ elim (C.cases_Bool options.compact) [
                | inl on ↦ slid_pinned parts moved x.id x here (first (is_pinned x) (ap (λ v. is_pinned x || not v) (sym on) ∙ (C.and_parts (not (x.id == id)) (is_pinned x || not options.compact) t).1))
                | inr off ↦ place_same off x.id ∙ place_here parts x.id ∙ ap (C.option_map (λ (y : Block). y.at)) here
              ]
            where
              first : (t : Bool) → (t || not true) ≡ true → t ≡ true
              first true e = refl
              first false e = absurd (false≢true e)

          -- The object is such as is asked, and the order of use is what is asked with it.
          module _ {becomes : Object → Type 0} {order_with : Object → List ℕ → List ℕ} (such : becomes o) (listed : order_with o order ≡ uses) (counted : p.moved ≡ C.moved_between layout.blocks mid.blocks) where
            stands_granted : Stands before id n becomes order_with options p granted
            stands_granted = record {
              object = o;
              such = such;
              settled = record {
                same =
                    let lo = ap (λ (l : Layout). l.lo) moved.same in let hi = ap (λ (l : Layout). l.hi) moved.same in let grain = ap (λ (l : Layout). l.grain) moved.same in
                    λ i. record { lo = lo i; hi = hi i; grain = grain i; objects = objects_same i; places = granted.places; order = sym listed i };
                sound = is_heap granted_parts made.bytes;
                kept = C.All-from_Each (λ x. IsTrue (stays_for id options x) → finmap.get granted.places x.id ≡ Some x.at) (blocks before)
                    (C.Each-from (λ x. IsTrue (stays_for id options x) → finmap.get granted.places x.id ≡ Some x.at) (blocks before) (λ x m. stays x (is_listed parts x m)));
              };
              placed = record {
                place = place_new mid_parts id n entry locks lt mid_absent some mid_rounded p.at place reorders ordered_new after made;
                inside = let hi = ap (λ (l : Layout). l.hi) moved.same in let end = place.below in omega arith;
                still = λ q d. subst (λ (at : Option ℕ). C.IfSome at (λ at. ((at < p.slid.from) ⊎ (p.slid.to ≤ at)) → finmap.get before.places q ≡ Some at)) (sym (place_mid q d)) (slid_still parts moved q);
                moved = counted ∙ moved_is parts moved mid_parts granted (λ b m. place_mid b.id (other b m));
                few = let e = counted ∙ moved_is parts moved mid_parts granted (λ b m. place_mid b.id (other b m)) in omega (arith, e, moved_few (C.table_of entries layout order) parts.sound memory parts.high granted);
              };
            }

            pub stands : Stands before id n becomes order_with options p (heap_of (set entries id (Some entry)) new uses after)
            stands = subst (λ l. Stands before id n becomes order_with options p (heap_of (set entries id (Some entry)) l uses after)) (sym new_is) stands_granted
