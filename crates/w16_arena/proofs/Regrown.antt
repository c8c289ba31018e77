-- An object that got more bytes, where it stood or elsewhere: what its call leaves kept and answers. It is looked at as if it had been absent.
use Rattle.w16_arena.proofs
use proofs.Common as C
use proofs.Common.{◌≡◌, ℕ, ◌+◌, ◌-◌, ◌<◌, ◌≤◌, ◌⊎◌, inl, inr, Bool, true, false, not, ◌&&◌, ◌==◌, cond, if◌then◌else◌, IsTrue, All, List, length, set, Some, None, refl, sym, ap, ◌∙◌, subst, arith, Block, Entry, part, Misses, is_any, Heap, IsMultiple, blocks, without, IsGrown, Table}
use proofs.Common.{block_with, Layout, all_but, moved_between, Uses, GName, Stands, heap_of, but_for, Span}
use proofs.Lookups.{IsArranged, in_list}
use proofs.Moved.{bytes_by, bytes_permutation, moved_few}
use proofs.Singles.{removed_parts, removed_heap}
use proofs.{Keeping.leaves_cleared, Keeping.used_placed, Parts.AreParts, With.with-without, Listed.is_listed as in_blocks, Listed.listed_permutation, Changed.ReordersOne, Reordered.member_other, Steps.beside, Steps.kept_with, Cleared.Makes, Allocated.AreLocks, PutBack.put_back}
use Rattle.std.specs.FinMap as finmap
use Rattle.w16_arena.proofs.Sized as sized
use Rattle.w16_arena.proofs.Longer as longer
use Rattle.w16_arena.proofs.Standing as standing

module _ {entries : List (C.Option Entry)} {layout : Layout} {uses : Uses} {gap_rooms : ℕ} {room : ℕ} (kept : C.ArenaInvariant entries layout uses gap_rooms room)
    (b : Block) (known : block_with layout.blocks b.id ≡ Some b) (ordered : C.IsOrdered layout) (memory : List ℕ) (inside : layout.hi ≤ length memory) (n : ℕ) (more : b.size < n) (rounded : IsMultiple layout.grain n) (options : C.RoomOptions) where
  abbrev t : Table
  t = C.table_of entries layout uses.ids

  abbrev h : Heap
  h = C.heap_in t memory

  parts : AreParts entries layout uses.ids memory
  parts = beside kept memory inside

  abbrev entry_is : (e : Entry) × (C.get_or entries b.id None ≡ Some e) × (b.hold ≡ C.hold_of_entry e)
  entry_is = sized.entry_known t kept.sound memory inside b known

  abbrev entry : Entry
  entry = entry_is.0

  lt : b.id < length entries
  lt = in_list entries b.id entry entry_is.1

  -- Without it.
  arranged : IsArranged (record layout { blocks = all_but b.id layout.blocks })
  arranged = record {
    laid = C.IsLaid-all_but layout.lo layout.hi b.id layout.blocks kept.sound.table.laid;
    ids = C.AllPairs-from_EachPair (λ x y. x.id ≡ y.id → ⊥) (all_but b.id layout.blocks) (C.pairs_filter (λ x y. x.id ≡ y.id → ⊥) (λ (x : Block). not (x.id == b.id)) layout.blocks (C.EachPair-from_AllPairs (λ x y. x.id ≡ y.id → ⊥) layout.blocks kept.sound.table.ids));
    grained = C.All-from_Each (λ x. IsMultiple layout.grain x.at × IsMultiple layout.grain x.size) (all_but b.id layout.blocks)
        (C.All-all_but (λ x. IsMultiple layout.grain x.at × IsMultiple layout.grain x.size) b.id layout.blocks (C.Each-from_All (λ x. IsMultiple layout.grain x.at × IsMultiple layout.grain x.size) layout.blocks kept.sound.grained));
    low_grained = kept.sound.low_grained;
  }

  left : AreParts (set entries b.id None) (but_for b.id layout) (without b.id uses.ids) memory
  left = removed_parts parts b.id lt arranged

  lt_left : b.id < length (set entries b.id None)
  lt_left = let e = C.length-set entries b.id None in omega (arith, e, lt)

  absent : block_with (all_but b.id layout.blocks) b.id ≡ None
  absent = with-without b.id layout.blocks b.id ∙ ap (λ v. cond {A = C.Option Block} v None (block_with layout.blocks b.id)) (C.eq-eqb b.id b.id refl)

  locks : AreLocks entry
  locks = (counted.0, counted.1)
    where
      counted : C.IsCountedBy (block_with layout.blocks b.id) entry
      counted = subst (λ p. C.IfSome p (C.IsCountedBy (block_with layout.blocks b.id))) entry_is.1 (kept.sound.counted b.id)

  entries_again : set (set entries b.id None) b.id (Some entry) ≡ entries
  entries_again = C.set-set entries b.id None (Some entry) ∙ ap (set entries b.id) (sym entry_is.1) ∙ C.set-get_or entries b.id None

  reorders : ReordersOne b.id (C.is_discardable entry.kind && true) (without b.id uses.ids) uses.ids
  reorders = record {
    here = kept.sound.in_order b.id ∙ (λ i. C.is_listed (entry_is.1 i) (known i));
    there = λ q d. sym (member_other b.id q uses.ids d);
    once = kept.sound.no_repeats;
  }

  some : 0 < n
  some = omega arith

  -- With its bytes, its own and new ones.
  module _ (p : C.Placed) {new : Layout} {mid : List ℕ} (value : new ≡ record (but_for b.id new) { blocks = C.placed (record b { at = p.at; size = n }) (all_but b.id new.blocks) }) (laid : C.IsOrdered new)
      (moved : C.AreMoved p.slid.from p.slid.to (but_for b.id layout) memory (but_for b.id new) mid) (place : C.AreFreeBytes (but_for b.id new) n p.at) (came : part mid p.at b.size ≡ part memory b.at b.size) (small : All (λ b. b < 256) memory)
      {after : List ℕ} (filled : after ≡ (if options.zero then C.put_part mid (p.at + b.size) (C.repeated (n - b.size) 0) else mid)) where
    pub in_mid : p.at + n ≤ length mid
    in_mid = standing.in_memory left b.id n entry locks options lt_left absent some rounded p moved place

    made : Makes p.at n mid after
    made = longer.made p.at b.size n mid after more in_mid (moved.bytes small) options.zero filled

    parts_after : AreParts entries new uses.ids after
    parts_after = subst (λ es. AreParts es new uses.ids after) entries_again (standing.parts_after left b.id n entry locks options lt_left absent some rounded p moved place entry_is.2 value laid made reorders)

    pub kept_grown : C.ArenaInvariant entries new uses gap_rooms room
    kept_grown = kept_with kept entries new uses parts_after.sound refl (ap (λ (l : Layout). l.cap) moved.same) refl

    pub rest_grown : {X : Type 0} {are_in : List Span → List ℕ → Type 0} {bytes : X → List ℕ} {lenders : X → List GName} {x y z : X} → ((hs : List Span) (old new : List ℕ) → are_in hs old → C.AreSameIn hs old new → are_in hs new)
        → C.Leaves are_in bytes lenders (C.holes_of new) (C.IsSameRest layout.lo layout.hi) x y → C.IsSameRest (p.at + b.size) (p.at + b.size + (n - b.size)) (bytes y) (bytes z) → lenders z ≡ lenders y → C.KeepsRest are_in bytes lenders t x (C.table_of entries new uses.ids) z
    rest_grown stay made cleared loans =
        let lo = ap (λ (l : Layout). l.lo) moved.same in let hi = ap (λ (l : Layout). l.hi) moved.same in let above = place.above in let end = place.below in
        record {
          range = record { lo = lo; hi = hi; grain = ap (λ (l : Layout). l.grain) moved.same; ids = refl; sound = parts_after.sound };
          memory = leaves_cleared p.at (p.at + n) stay made (C.rest_wider cleared (omega arith) (omega arith)) loans (omega arith) (omega arith) (used_placed (but_for b.id new) new _ value laid);
        }

    abbrev grown : Heap
    grown = heap_of entries new uses.ids after

    abbrev object : C.Object
    object = sized.object t kept.sound memory inside b known

    abbrev less : C.Placed
    less = record p { moved = moved_between (all_but b.id layout.blocks) (all_but b.id new.blocks) }

    module _ (still : options.compact ≡ false → all_but b.id new.blocks ≡ all_but b.id layout.blocks) where
      stands_left : Stands (heap_of (set entries b.id None) (but_for b.id layout) (without b.id uses.ids) memory) b.id n (IsGrown options.zero n object) (λ _ _. uses.ids) options less grown
      stands_left = subst (λ es. Stands (heap_of (set entries b.id None) (but_for b.id layout) (without b.id uses.ids) memory) b.id n (IsGrown options.zero n object) (λ _ _. uses.ids) options less (heap_of es new uses.ids after)) entries_again
          (standing.stands left b.id n entry locks options lt_left absent some rounded less moved place entry_is.2 value laid made reorders still {becomes = IsGrown options.zero n object} {order_with = λ _ _. uses.ids}
          (longer.is_grown p.at b.size n mid after more in_mid (moved.bytes small) options.zero filled (C.slice_range memory b.at (b.at + b.size)) (sized.own_size t kept.sound memory inside b known) (came ∙ sym (C.range_part memory b.at b.size)) entry.kind entry.locks)
          refl refl)

      abbrev Elsewhere : Block → Bool
      Elsewhere x = C.is_elsewhere x.at (finmap.get grown.places x.id)

      -- the bytes that were moved are those of the others and its own
      all_moved : C.moved_bytes h grown ≡ moved_between (all_but b.id layout.blocks) (all_but b.id new.blocks) + (if p.at == b.at then 0 else b.size)
      all_moved =
          let others = sym stands_left.placed.moved in
          let listed = bytes_permutation Elsewhere (all_but b.id layout.blocks) (blocks (heap_of (set entries b.id None) (but_for b.id layout) (without b.id uses.ids) memory)) (listed_permutation left) in
          let whole = bytes_permutation Elsewhere layout.blocks (blocks h) (listed_permutation parts) in
          let by = bytes_by Elsewhere layout.blocks in
          let by_left = bytes_by Elsewhere (all_but b.id layout.blocks) in
          let split = C.sum-all_but layout.cap (λ x. cond (Elsewhere x) x.size 0) b.id b layout.blocks ordered.named known in
          let own = ap (λ at. cond (C.is_elsewhere b.at at) b.size 0) stands_left.placed.place ∙ turn (p.at == b.at) in
          omega (arith, others, listed, whole, by, by_left, split, own)
        where
          turn : (v : Bool) → cond (not v) b.size 0 ≡ (if v then 0 else b.size)
          turn true = refl
          turn false = refl

      pub stands_grown : p.moved ≡ moved_between (all_but b.id layout.blocks) (all_but b.id new.blocks) + (if p.at == b.at then 0 else b.size) → Stands h b.id n (IsGrown options.zero n object) (λ _ order. order) options p grown
      stands_grown counted =
          let all = counted ∙ sym all_moved in
          put_back h b.id (subst (λ g. Stands g b.id n (IsGrown options.zero n object) (λ _ _. uses.ids) options less grown) (removed_heap parts b.id lt arranged) stands_left)
          p.moved all (omega (arith, all, moved_few t kept.sound memory inside grown))

      pub hole_grown : (p.at ≡ b.at) ⊎ C.IsClear is_any layout.lo layout.hi layout.blocks p.at (p.at + n) → C.StaysOrMovesToHole h b.id n grown
      hole_grown where_to = subst (λ at. C.IsSomeAnd at (λ at. (finmap.get h.places b.id ≡ Some at) ⊎ C.IsClear is_any h.lo h.hi (blocks h) at (at + n))) (sym stands_left.placed.place) (elim where_to [
        | inl same ↦ inl (sized.stands_at t kept.sound memory inside b known ∙ ap Some (sym same))
        | inr k ↦ inr (record {
          above = k.above;
          below = k.below;
          misses = C.All-from_Each (λ x. IsTrue (is_any x) → Misses x.at x.size p.at (p.at + n)) (blocks h) (C.Each-from (λ x. IsTrue (is_any x) → Misses x.at x.size p.at (p.at + n)) (blocks h)
              (λ x m. C.Each-at (λ x. IsTrue (is_any x) → Misses x.at x.size p.at (p.at + n)) layout.blocks (C.Each-from_All (λ x. IsTrue (is_any x) → Misses x.at x.size p.at (p.at + n)) layout.blocks k.misses) x (in_blocks parts x m)));
        })
      ])
