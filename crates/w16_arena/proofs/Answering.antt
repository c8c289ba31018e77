-- A request, by what was found and made for it.
use Rattle.w16_arena.proofs
use Rattle.std.specs.List.{AllByRecursion as Each}
use proofs.Common.{◌≡◌, ◌≢◌, ℕ, ◌+◌, ◌<◌, ◌≤◌, ◌⊎◌, inl, inr, true, false, ◌&&◌, if◌then◌else◌, IfSome, IsSomeAnd, MatchBool, MatchOption, All, List, [], ◌∷◌, length, take, fold, slice_range, Option, Some, None, option_map, is_some, unwrap_or, refl, sym, ap, ◌∙◌, subst, arith, ne_eqb}
use proofs.Common.{eq-eqb, take_all, false≢true, and_parts, cases_eq, cases_Bool, Block, Kind, Discardable, Span, KeepsOthers, RoomOptions, room, longest_hole, is_pinned, eligible, blocks_without, room_for, needed, snapshot, Heap, Object, IsHeap, IsMultiple, blocks, object_at, bytes_at}
use proofs.Common.{absent, with_newest, with_ordered, moved_bytes, Allocates, Compacts, MakesRoom, IsNew, Settles, discards_needed, stays_for, discarded, compaction_prefix, eligible_count, most_room, snapshot_of, Table, IsSound, block_with, heap_in, Each-from, place_is, table_longest}
use proofs.Common.{sound_heap, taken_here, taken_other, room-discarded, others_law, prefix_hole, prefix_no_hole, prefix_now, prefix_kept, prefix_needed, needed_by_members, needed_enough, eligible_by_members, room_by_members, allocates_after, settles_after, settles_before, moved_after}
use proofs.Common.{discarded_all, Layout, Stands, SlidesTogether, HasDiscarded, IsStill, IsPlaced, IsSlid, Discards, first_eligible, Placed, Compacted, GName, IsSameRest, ArenaState, IsSameRange, KeepsRest, most_in, room_whole, Leaves, leaves_more, rest_wider}
use proofs.Listed.{is_listed, listed_permutation, listed_room, listed_with}
use proofs.{Parts.AreParts, Parts.range_then, Lookups.bytes_here, Moved.moved_few, Oldest.eligible_few}
use Rattle.std.specs.FinMap as finmap

-- where a discarded heap has a place, the heap before has it
places_before : (ids : List ℕ) (heap : Heap) (q : ℕ) (at : ℕ) → finmap.get (fold absent heap ids).places q ≡ Some at → finmap.get heap.places q ≡ Some at
places_before [] heap q at e = e
places_before (id ∷ ids) heap q at e = elim (cases_eq q id) [
  | inl same ↦ let none : ◌≡◌ {A = Option ℕ} None (Some at) = sym (taken_here _ id q same) ∙ places_before ids _ q at e in cc
  | inr other ↦ sym (taken_other _ id q other) ∙ places_before ids _ q at e
]

-- and where the one before has none, it has none
places_none : (ids : List ℕ) (heap : Heap) (q : ℕ) → finmap.get heap.places q ≡ None → finmap.get (fold absent heap ids).places q ≡ None
places_none ids heap q none = from _ refl
  where
    from : (p : Option ℕ) → finmap.get (fold absent heap ids).places q ≡ p → p ≡ None
    from None e = refl
    from (Some at) e = let some : ◌≡◌ {A = Option ℕ} None (Some at) = sym none ∙ places_before ids heap q at e in cc

-- what stands as it stood after the discards stands as before them
pub still_before : (heap new : Heap) (k : ℕ) (h : Option ℕ) (slid : Span) (q : ℕ) → IsStill slid (discarded heap k h) new q → IsStill slid heap new q
still_before heap new k h slid q = from _
  where
    from : (p : Option ℕ) → IfSome p (λ at. ((at < slid.from) ⊎ (slid.to ≤ at)) → finmap.get (discarded heap k h).places q ≡ Some at) → IfSome p (λ at. ((at < slid.from) ⊎ (slid.to ≤ at)) → finmap.get heap.places q ≡ Some at)
    from None f = tt
    from (Some at) f = λ out. places_before (take k _) heap q at (f out)

-- what a step leaves of the rest, after a step that kept all but free bytes
pub rest_after : {X : Type 0} {are_in : List Span → List ℕ → Type 0} {bytes : X → List ℕ} {lenders : X → List GName} {hs : List Span} {old mid new : Table} {x y z : X} → IsSameRange old mid → Leaves are_in bytes lenders hs (IsSameRest mid.lo mid.hi) x y → KeepsRest are_in bytes lenders mid y new z
    → KeepsRest are_in bytes lenders old x new z
rest_after range made rest = let lo = range.lo in let hi = range.hi in record { range = range_then range rest.range; memory = leaves_more (record { kept = made.kept; bytes = rest_wider made.bytes (omega arith) (omega arith); loans = made.loans }) rest.memory (omega arith) (omega arith) }

-- each stands where it stands
pub still_same : (heap : Heap) (slid : Span) (q : ℕ) → IsStill slid heap heap q
still_same heap slid q = from _
  where
    from : (p : Option ℕ) → IfSome p (λ at. ((at < slid.from) ⊎ (slid.to ≤ at)) → p ≡ Some at)
    from None = tt
    from (Some at) = λ _. refl

-- an object without bytes has no place
no_place : (heap : Heap) → IsHeap heap → (q : ℕ) (o : Object) → object_at heap q ≡ Some (record o { bytes = None }) → finmap.get heap.places q ≡ None
no_place heap is q o there = from _ refl
  where
    from : (p : Option ℕ) → finmap.get heap.places q ≡ p → p ≡ None
    from None e = refl
    from (Some at) e =
        let some = ap is_some e in
        let none = ap (λ p. is_some (elim p as (λ _. Option (List ℕ)) [ Some o ↦ o.bytes | None ↦ None ])) there in
        absurd (false≢true (sym none ∙ sym (is.at_bytes q) ∙ some))

-- so a discarded one has none
pub gone : (old new : Heap) → IsHeap new → (q : ℕ) → IsSomeAnd (object_at old q) (λ o. (o.kind ≡ Discardable) × (o.locks ≡ 0) × (is_some o.bytes ≡ true) × (object_at new q ≡ Some (record o { bytes = None }))) → finmap.get new.places q ≡ None
gone old new is q = from _
  where
    from : (p : Option Object) → IsSomeAnd p (λ o. (o.kind ≡ Discardable) × (o.locks ≡ 0) × (is_some o.bytes ≡ true) × (object_at new q ≡ Some (record o { bytes = None }))) → finmap.get new.places q ≡ None
    from None f = absurd f
    from (Some o) f = no_place new is q o f.3

-- the room where an object without a block is left out
none_out : (id : ℕ) (xs : List Block) → Each (λ x. x.id ≢ id) xs → blocks_without xs [] (Some id) ≡ xs
none_out id [] all = refl
none_out id (x ∷ xs) all = rw (ne_eqb x.id id all.0) (ap (λ ys. x ∷ ys) (none_out id xs all.1))

abbrev layout_in : Table → Layout
layout_in t = record { cap = length t.entries; lo = t.lo; hi = t.hi; grain = t.grain; blocks = t.blocks }

-- the room that a table has is its heap's
room_of : (t : Table) → IsSound t → (memory : List ℕ) → t.hi ≤ length memory → room_for (snapshot t.lo t.hi (blocks (heap_in t memory)) t.order) 0 None ≡ room t.lo t.hi t.blocks
room_of t sound memory inside =
    let parts : AreParts t.entries (layout_in t) t.order memory = record { sound = sound; ids = refl; high = inside } in
    room_whole t.lo t.hi (blocks (heap_in t memory)) t.order ∙ listed_room parts

-- also where an object without a block is left out
room_about : (t : Table) → IsSound t → (memory : List ℕ) → t.hi ≤ length memory → (id : ℕ) → block_with t.blocks id ≡ None → room_for (snapshot t.lo t.hi (blocks (heap_in t memory)) t.order) 0 (Some id) ≡ room t.lo t.hi t.blocks
room_about t sound memory inside id none =
    let parts : AreParts t.entries (layout_in t) t.order memory = record { sound = sound; ids = refl; high = inside } in
    ap (room t.lo t.hi) (none_out id _ (Each-from (λ x. x.id ≢ id) (blocks (heap_in t memory)) (λ x m e.
    let some : ◌≡◌ {A = Option Block} None (Some x) = sym none ∙ ap (block_with _) (sym e) ∙ listed_with parts x (is_listed parts x m) in cc))) ∙ listed_room parts

module _ (old : ArenaState) (sound : IsSound old.table) (memory : List ℕ) (inside : old.table.hi ≤ length memory) where
  abbrev t : Table
  t = old.table

  parts : AreParts t.entries (layout_in t) t.order memory
  parts = record { sound = sound; ids = refl; high = inside }

  abbrev h : Heap
  h = heap_in t memory

  longest : longest_hole t.lo t.hi (blocks h) ≡ longest_hole t.lo t.hi t.blocks
  longest = table_longest t sound.table memory inside

  pub eligible_same : (about : Option ℕ) → eligible t.blocks t.order about ≡ eligible (blocks h) t.order about
  eligible_same about = eligible_by_members t.blocks (blocks h) (listed_permutation parts) t.order about

  needed_same : (n : ℕ) (about : Option ℕ) → needed (snapshot t.lo t.hi t.blocks t.order) n about ≡ needed (snapshot t.lo t.hi (blocks h) t.order) n about
  needed_same n about = needed_by_members t.lo t.hi t.blocks (blocks h) (listed_permutation parts) t.order n about

  module _ (id n : ℕ) (kind : Kind) (options : RoomOptions) (none : block_with t.blocks id ≡ None) (some : 0 < n) (rounded : IsMultiple t.grain n) where
    without_bytes : bytes_at h id ≡ None
    without_bytes = bytes_here parts id ∙ ap (option_map (λ (x : Block). slice_range memory x.at (x.at + x.size))) none

    -- With as much room as that nothing is discarded.
    prefix_0 : n ≤ most_in t options.compact → discards_needed h n (Some id) options ≡ Some 0
    prefix_0 enough = elim (cases_Bool options.compact) [
      | inl on ↦ prefix_now t.lo t.hi (blocks h) t.order n (Some id) options on (let e = room_about t sound memory inside id none in let k : n ≤ room t.lo t.hi t.blocks = subst (λ b. n ≤ (if b then room t.lo t.hi t.blocks else longest_hole t.lo t.hi t.blocks)) on enough in omega arith)
      | inr off ↦ prefix_hole t.lo t.hi (blocks h) t.order n (Some id) options off (let e = longest in let k : n ≤ longest_hole t.lo t.hi t.blocks = subst (λ b. n ≤ (if b then room t.lo t.hi t.blocks else longest_hole t.lo t.hi t.blocks)) off enough in omega arith)
    ]

    pub allocates_now : {p : Placed} {new : Heap} → n ≤ most_in t options.compact → Stands h id n (IsNew options.zero n kind 0) (with_newest id) options p new → Allocates h id n kind 0 options true new
    allocates_now {p} {new} enough s = allocates_after h id n kind options 0 some rounded without_bytes (prefix_0 enough) s.object s.such new s.settled

    pub discards_none : n ≤ most_in t options.compact → {ids : List ℕ} → ids ≡ [] → HasDiscarded h id n options ids
    discards_none enough e = record { prefix = 0; needed = prefix_0 enough; listed = e }

    -- Refused.
    refused_by : discards_needed h n (Some id) options ≡ None → Allocates h id n kind 0 options false h
    refused_by e = record {
      some = some;
      rounded = rounded;
      without_bytes = without_bytes;
      request = subst (λ p. MatchOption p ((false ≡ false) × (h ≡ h)) (λ k. (false ≡ true) × ((o : Object) × IsNew options.zero n kind 0 o × Settles h (stays_for id options) (with_ordered (discarded h k (Some id)) id o (with_newest id o)) h))) (sym e) (refl, refl);
    }

    pub refused_kept : most_in t options.compact < n → (options.compact && options.discard) ≡ false → Allocates h id n kind 0 options false h
    refused_kept short kept = refused_by (elim (cases_Bool options.compact) [
      | inl on ↦ prefix_kept t.lo t.hi (blocks h) t.order n (Some id) options on (subst (λ b. (b && options.discard) ≡ false) on kept)
          (let e = room_about t sound memory inside id none in let k : room t.lo t.hi t.blocks < n = subst (λ b. (if b then room t.lo t.hi t.blocks else longest_hole t.lo t.hi t.blocks) < n) on short in omega arith)
      | inr off ↦ prefix_no_hole t.lo t.hi (blocks h) t.order n (Some id) options off
          (let e = longest in let k : longest_hole t.lo t.hi t.blocks < n = subst (λ b. (if b then room t.lo t.hi t.blocks else longest_hole t.lo t.hi t.blocks) < n) off short in omega arith)
    ])

    -- As many were sought as make room.
    module _ (may : (options.compact && options.discard) ≡ true) {found : Option ℕ} (found_is : found ≡ needed (snapshot t.lo t.hi t.blocks t.order) n (Some id)) where
      compact : options.compact ≡ true
      compact = (and_parts options.compact options.discard may).0

      prefix_is : discards_needed h n (Some id) options ≡ found
      prefix_is = prefix_needed t.lo t.hi (blocks h) t.order n (Some id) options compact (and_parts options.compact options.discard may).1 ∙ sym (needed_same n (Some id)) ∙ sym found_is

      pub refused_needed : found ≡ None → Allocates h id n kind 0 options false h
      refused_needed e = refused_by (prefix_is ∙ e)

      -- The first k were discarded.
      module _ (k : ℕ) (some_is : found ≡ Some k) (mid : ArenaState) (discards : Discards k (Some id) old mid) where
        mid_inside : mid.table.hi ≤ length memory
        mid_inside = let same = discards.range.hi in omega arith

        pub absent_then : block_with mid.table.blocks id ≡ None
        absent_then = from (block_with mid.table.blocks id) refl
          where
            here : finmap.get h.places id ≡ None
            here = place_is t sound.table memory inside id ∙ ap (option_map (λ (x : Block). x.at)) none

            from : (b : Option Block) → block_with mid.table.blocks id ≡ b → b ≡ None
            from None e = refl
            from (Some x) e =
                let out : ◌≡◌ {A = Option ℕ} None (Some x.at) = sym
                (places_none (take k (eligible (blocks h) h.order (Some id))) h id here) ∙ ap
                (λ (g : Heap). finmap.get g.places id) (sym (discards.heaps memory inside)) ∙ place_is mid.table
                discards.range.sound.table memory mid_inside id ∙ ap (option_map (λ (y : Block). y.at)) e in
                cc

        -- so there is as much room as that
        pub room_then : n ≤ most_in mid.table options.compact
        room_then =
            let is = discards.heaps memory inside in
            let now : room_for (snapshot mid.table.lo mid.table.hi (blocks (heap_in mid.table memory)) mid.table.order) 0 (Some id) ≡ room mid.table.lo mid.table.hi mid.table.blocks = room_about mid.table discards.range.sound memory mid_inside id absent_then in
            let later : room_for (snapshot mid.table.lo mid.table.hi (blocks (heap_in mid.table memory)) mid.table.order) 0 (Some id) ≡ room_for (snapshot t.lo t.hi (blocks h) t.order) k (Some id) =
            (λ i. room_for (snapshot_of (is i)) 0 (Some id)) ∙ room-discarded h k (Some id) in
            let enough : n ≤ room_for (snapshot t.lo t.hi (blocks h) t.order) k (Some id) = needed_enough t.lo t.hi (blocks h) t.order n (Some id) k (sym (needed_same n (Some id)) ∙ sym found_is ∙ some_is) in
            subst (λ b. n ≤ (if b then room mid.table.lo mid.table.hi mid.table.blocks else longest_hole mid.table.lo mid.table.hi mid.table.blocks)) (sym compact) (omega (arith, now, later, enough))

        pub discards_then : {ids : List ℕ} → ids ≡ mid.discarded → HasDiscarded h id n options ids
        discards_then e = record { prefix = k; needed = prefix_is ∙ some_is; listed = e ∙ discards.listed ∙ ap (take k) (eligible_same (Some id)) }

        module _ {p : Placed} {new : Heap} (s : Stands (heap_in mid.table memory) id n (IsNew options.zero n kind 0) (with_newest id) options p new) where
          stands : Stands (discarded h k (Some id)) id n (IsNew options.zero n kind 0) (with_newest id) options p new
          stands = subst (λ g. Stands g id n (IsNew options.zero n kind 0) (with_newest id) options p new) (discards.heaps memory inside) s

          pub allocates_then : Allocates h id n kind 0 options true new
          allocates_then = allocates_after h id n kind options k some rounded without_bytes (prefix_is ∙ some_is) stands.object stands.such new stands.settled

          module _ (bytes : All (λ b. b < 256) memory) where
            moved_then : p.moved ≡ moved_bytes h new
            moved_then =
                let keeps : KeepsOthers h (Some id) k new = (others_law h new (sound_heap t sound memory inside bytes) k).0 id options stands.object (with_newest id stands.object)
                (settles_after h id n options k (prefix_is ∙ some_is) (with_ordered (discarded h k (Some id)) id stands.object (with_newest id stands.object)) new stands.settled) in
                stands.placed.moved ∙ sym (moved_after h k (Some id) new (λ q m. gone h new stands.settled.sound q (keeps.discarded q m)))

            pub placed_then : IsPlaced h id n p new
            placed_then = record {
              place = stands.placed.place;
              inside = let e = ap (λ (g : Heap). g.hi) (discards.heaps memory inside) in let range = discards.range.hi in let i = s.placed.inside in omega arith;
              still = λ q d. still_before h new k (Some id) p.slid q (stands.placed.still q d);
              moved = moved_then;
              few = let e = moved_then in omega (arith, moved_few t sound memory inside new);
            }

  -- with all left out that may be, the room is the most that there can be
  pub room_most : (k : ℕ) → length t.order ≤ k → room_for (snapshot t.lo t.hi t.blocks t.order) k None ≡ most_room h
  room_most k all =
      let few : length (eligible (blocks h) t.order None) ≤ k = let le = eligible_few (blocks h) t.order None in omega arith in
      room_by_members t.lo t.hi t.blocks (blocks h) (listed_permutation parts) t.order k None
      ∙ ap (λ ids. room t.lo t.hi (blocks_without (blocks h) ids None)) (take_all k (eligible (blocks h) t.order None) few ∙ sym (take_all (eligible_count h) (eligible (blocks h) t.order None) (omega arith)))

  -- Compaction. For no bytes it only answers.
  pub compacts_none : (most : ℕ) → most ≡ most_room h → (n : ℕ) → n ≡ 0 → Compacts h n most h
  compacts_none most is n none = subst (λ b. MatchBool b ((most ≡ most_room h) × (h ≡ h)) (MakesRoom h n most h)) (sym (eq-eqb n 0 none)) (is, refl)

  -- For some, as many are discarded as are needed, or all.
  module _ (n : ℕ) (some : 0 < n) (k : Option ℕ) (k_is : k ≡ needed (snapshot t.lo t.hi t.blocks t.order) n None) (all : ℕ) (few : length t.order ≤ all) (mid : ArenaState) (discards : Discards (unwrap_or k all) None old mid) where
    count_few : eligible_count h ≤ all
    count_few = let e = ap (length {A = ℕ}) (eligible_same None) in let le = eligible_few t.blocks t.order None in omega arith

    prefix_same : unwrap_or k all ≡ unwrap_or (needed (snapshot t.lo t.hi (blocks h) t.order) n None) all
    prefix_same = ap (λ p. unwrap_or p all) (k_is ∙ needed_same n None)

    mid_heap : heap_in mid.table memory ≡ discarded h (compaction_prefix h n) None
    mid_heap = discards.heaps memory inside ∙ ap (λ j. discarded h j None) prefix_same ∙ from (needed (snapshot t.lo t.hi (blocks h) t.order) n None)
      where
        from : (p : Option ℕ) → discarded h (unwrap_or p all) None ≡ discarded h (unwrap_or p (eligible_count h)) None
        from None = discarded_all h None all count_few
        from (Some j) = refl

    pub listed_then : {ids : List ℕ} → ids ≡ mid.discarded → ids ≡ first_eligible h (compaction_prefix h n) None
    listed_then e = e ∙ discards.listed ∙ (λ i. take (prefix_same i) (eligible_same None i)) ∙ from (needed (snapshot t.lo t.hi (blocks h) t.order) n None)
      where
        from : (p : Option ℕ) → take (unwrap_or p all) (eligible (blocks h) h.order None) ≡ take (unwrap_or p (eligible_count h)) (eligible (blocks h) h.order None)
        from None = take_all all (eligible (blocks h) h.order None) count_few ∙ sym (take_all (eligible_count h) (eligible (blocks h) h.order None) (omega arith))
        from (Some j) = refl

    module _ {c : Compacted} {new : Heap} (room_is : c.room ≡ room mid.table.lo mid.table.hi mid.table.blocks) (s : SlidesTogether (heap_in mid.table memory) c new) where
      slides : SlidesTogether (discarded h (compaction_prefix h n) None) c new
      slides = subst (λ g. SlidesTogether g c new) mid_heap s

      settled : Settles h is_pinned (discarded h (compaction_prefix h n) None) new
      settled = settles_before h (compaction_prefix h n) None (discarded h (compaction_prefix h n) None) new slides.settled

      pub compacts_then : Compacts h n c.room new
      compacts_then = subst (λ b. MatchBool b ((c.room ≡ most_room h) × (new ≡ h)) (MakesRoom h n c.room new)) (sym (ne_eqb n 0 (omega arith))) (record {
        settled = settled;
        promised = room_is ∙ sym (room_of mid.table discards.range.sound memory (let same = discards.range.hi in omega arith))
            ∙ (λ i. room_for (snapshot_of (mid_heap i)) 0 None) ∙ room-discarded h (compaction_prefix h n) None;
        longest = slides.longest;
      })

      module _ (bytes : All (λ b. b < 256) memory) where
        slid_moved : c.moved ≡ moved_bytes h new
        slid_moved =
            let keeps : KeepsOthers h None (compaction_prefix h n) new = (others_law h new (sound_heap t sound memory inside bytes) (compaction_prefix h n)).1 settled in
            slides.slid.moved ∙ sym (moved_after h (compaction_prefix h n) None new (λ q m. gone h new slides.settled.sound q (keeps.discarded q m)))

        pub slid_then : IsSlid h c new
        slid_then = record {
          still = λ q. still_before h new (compaction_prefix h n) None c.slid q (slides.slid.still q);
          moved = slid_moved;
          few = let e = slid_moved in omega (arith, moved_few t sound memory inside new);
        }
