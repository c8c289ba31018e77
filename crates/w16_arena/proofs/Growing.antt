-- A growth, by what was found and made for it.
use Rattle.w16_arena.proofs
use proofs.Common as C
use proofs.Common.{◌≡◌, ℕ, ◌<◌, ◌≤◌, inl, inr, Bool, true, false, not, ◌&&◌, ◌||◌, ◌==◌, cond, nat_le, IsSomeAnd, All, List, [], ◌∷◌, length, take, fold, Option, Some, None, refl, sym, ap, ◌∙◌, subst, arith, false≢true, and_parts, Block, room, growth_for, needed, none_discarded_if}
use proofs.Common.{room_for, snapshot, Heap, blocks, object_at, with_ordered, IsGrown, Reallocates, discarded, snapshot_of, Table, IsSound, block_with, heap_in, IsBlockOf, all_but, Stands, may_grow_in}
use proofs.{Parts.AreParts, Lookups.in_list, Listed.listed_permutation, Moved.moved_few, Answering.gone, Answering.still_before}
use Rattle.w16_arena.proofs.Sized as sized

-- a discard of others leaves an object
absents_at : (ids : List ℕ) (heap : Heap) (q : ℕ) → (C.Member q ids → ⊥) → object_at (fold C.absent heap ids) q ≡ object_at heap q
absents_at [] heap q out = refl
absents_at (id ∷ ids) heap q out = absents_at ids _ q (λ m. out (inr m)) ∙ C.get-update_other _ id (λ o. record o { bytes = None }) q (λ e. out (inl e))

-- a block's id is one
pub entry_below : (t : Table) → IsSound t → (b : Block) → block_with t.blocks b.id ≡ Some b → b.id < length t.entries
entry_below t sound b known =
    let high : t.hi ≤ length {A = ℕ} (C.replicate t.hi 0) = (let e = C.length-replicate {A = ℕ} t.hi 0 in omega arith) in
    let e = sized.entry_known t sound _ high b known in
    in_list _ b.id e.0 e.1

-- the room with an object left out
room_left : (t : Table) → IsSound t → (memory : List ℕ) → t.hi ≤ length memory → (id : ℕ) → room_for (snapshot t.lo t.hi (blocks (heap_in t memory)) t.order) 0 (Some id) ≡ room t.lo t.hi (all_but id t.blocks)
room_left t sound memory inside id =
    let parts : AreParts t.entries (record { cap = length t.entries; lo = t.lo; hi = t.hi; grain = t.grain; blocks = t.blocks }) t.order memory = record { sound = sound; ids = refl; high = inside } in
    sym (C.room_by_members t.lo t.hi t.blocks (blocks (heap_in t memory)) (listed_permutation parts) t.order 0 (Some id))

module _ (old : C.ArenaState) (sound : IsSound old.table) (memory : List ℕ) (inside : old.table.hi ≤ length memory) (b : Block) (known : block_with old.table.blocks b.id ≡ Some b)
    (n : ℕ) (more : b.size < n) (rounded : C.IsMultiple old.table.grain n) (options : C.RoomOptions) (free : (C.holds_still b.hold && not options.may_move) ≡ false) where
  abbrev t : Table
  t = old.table

  abbrev h : Heap
  h = heap_in t memory

  abbrev object : C.Object
  object = sized.object t sound memory inside b known

  some : 0 < n
  some = omega arith

  abbrev by_way : Bool → Option ℕ
  by_way compact = cond {A = Option ℕ} compact (C.discards_needed h n (Some b.id) options) (none_discarded_if (C.fits_in_place (snapshot_of h) n b.id || nat_le n (C.longest_hole h.lo h.hi (blocks h))))

  abbrev may_by : Bool → Bool
  may_by compact = may_grow_in t b.id n compact

  -- without sliding it is a matter of the two holes
  still_same : (C.fits_in_place (snapshot_of h) n b.id || nat_le n (C.longest_hole h.lo h.hi (blocks h))) ≡ may_by false
  still_same = λ i. (sized.fits_in_heap t sound memory inside b known n ∙ sym (sized.fits_by_blocks t sound memory inside b known [] n)) i || nat_le n (C.table_longest t sound.table memory inside i)

  growth_now : may_grow_in t b.id n options.compact ≡ true → growth_for (snapshot_of h) n b.id options ≡ Some 0
  growth_now may = elim (C.cases_Bool options.compact) [
    | inl on ↦ ap by_way on ∙ C.prefix_now t.lo t.hi (blocks h) t.order n (Some b.id) options on (let e = room_left t sound memory inside b.id in let le = C.leb-true n (room t.lo t.hi (all_but b.id t.blocks)) (sym (ap may_by on) ∙ may) in omega (arith, e, le))
    | inr off ↦ ap by_way off ∙ ap none_discarded_if (still_same ∙ sym (ap may_by off) ∙ may)
  ]

  growth_none : may_grow_in t b.id n options.compact ≡ false → (options.compact && options.discard) ≡ false → growth_for (snapshot_of h) n b.id options ≡ None
  growth_none short keeps = elim (C.cases_Bool options.compact) [
    | inl on ↦ ap by_way on ∙ C.prefix_kept t.lo t.hi (blocks h) t.order n (Some b.id) options on (subst (λ v. (v && options.discard) ≡ false) on keeps)
        (let e = room_left t sound memory inside b.id in let lt = C.leb-false n (room t.lo t.hi (all_but b.id t.blocks)) (sym (ap may_by on) ∙ short) in omega (arith, e, lt))
    | inr off ↦ ap by_way off ∙ ap none_discarded_if (still_same ∙ sym (ap may_by off) ∙ short)
  ]

  abbrev Answers : Bool → Heap → Option ℕ → Type 0
  Answers answered new prefix = C.MatchOption prefix ((answered ≡ false) × (new ≡ h))
      (λ k. (answered ≡ true) × ((o : C.Object) × IsGrown options.zero n object o × C.Settles h (C.stays_for b.id options) (with_ordered (discarded h k (Some b.id)) b.id o (λ order. order)) new))

  refused_by : growth_for (snapshot_of h) n b.id options ≡ None → Reallocates h b.id n options false h
  refused_by none = sized.asks t sound memory inside b known n some rounded options more free false h (subst (Answers false h) (sym none) (refl, refl)) (λ off said. absurd (false≢true said))

  -- Without a discard.
  pub refused_now : may_grow_in t b.id n options.compact ≡ false → (options.compact && options.discard) ≡ false → Reallocates h b.id n options false h
  refused_now short keeps = refused_by (growth_none short keeps)

  pub grows_now : may_grow_in t b.id n options.compact ≡ true → {p : C.Placed} {new : Heap} → IsSomeAnd (object_at h b.id) (λ o. Stands h b.id n (IsGrown options.zero n o) (λ _ order. order) options p new)
      → (options.compact ≡ false → C.StaysOrMovesToHole h b.id n new) → {discarded : List ℕ} → discarded ≡ [] → C.IsResized h b.id n options p discarded new
  grows_now may {p} {new} stood hole none =
      let s : Stands h b.id n (IsGrown options.zero n object) (λ _ order. order) options p new = subst (λ q. IsSomeAnd q (λ o. Stands h b.id n (IsGrown options.zero n o) (λ _ order. order) options p new)) (sized.object_is t sound memory inside b known) stood in
      record {
        reallocated = sized.asks t sound memory inside b known n some rounded options more free true new (subst (Answers true new) (sym (growth_now may)) (refl, (s.object, s.such, s.settled))) (λ off _. hole off);
        placed = s.placed;
        listed = record { prefix = 0; needed = sized.ask_prefix t sound memory inside b known n some rounded options more free 0 (growth_now may); listed = none };
      }

  -- As many were sought as make room.
  module _ (may : (options.compact && options.discard) ≡ true) {found : Option ℕ} (found_is : found ≡ needed (snapshot t.lo t.hi t.blocks t.order) n (Some b.id)) where
    on : options.compact ≡ true
    on = (and_parts options.compact options.discard may).0

    needed_same : needed (snapshot t.lo t.hi t.blocks t.order) n (Some b.id) ≡ needed (snapshot t.lo t.hi (blocks h) t.order) n (Some b.id)
    needed_same = C.needed_by_members t.lo t.hi t.blocks (blocks h) (listed_permutation (sized.parts t sound memory inside b known)) t.order n (Some b.id)

    prefix_is : C.discards_needed h n (Some b.id) options ≡ found
    prefix_is = C.prefix_needed t.lo t.hi (blocks h) t.order n (Some b.id) options on (and_parts options.compact options.discard may).1 ∙ sym needed_same ∙ sym found_is

    growth_is : growth_for (snapshot_of h) n b.id options ≡ found
    growth_is = ap by_way on ∙ prefix_is

    pub refused_then : found ≡ None → Reallocates h b.id n options false h
    refused_then none = refused_by (growth_is ∙ none)

    -- The first k were discarded.
    module _ (k : ℕ) (some_is : found ≡ Some k) (mid : C.ArenaState) (discards : C.Discards k (Some b.id) old mid) where
      abbrev ids : List ℕ
      ids = take k (C.eligible (blocks h) h.order (Some b.id))

      mid_inside : mid.table.hi ≤ length memory
      mid_inside = let same = discards.range.hi in omega arith

      -- the object isn't among them
      stays_out : C.Member b.id ids → ⊥
      stays_out m =
          let e = C.member_filter (λ id. not (C.is_pinned_id (blocks h) id) && not (C.is_about (Some b.id) id)) h.order b.id (C.from_take k (C.eligible (blocks h) h.order (Some b.id)) b.id m) in
          false≢true (sym (ap not (C.eq-eqb b.id b.id refl)) ∙ (and_parts (not (C.is_pinned_id (blocks h) b.id)) (not (b.id == b.id)) e.1).1)

      pub known_then : block_with mid.table.blocks b.id ≡ Some b
      known_then =
          let before : IsBlockOf h b = C.table_block t sound.table memory inside b (C.member_with t.blocks b.id b known).0 in
          let left : IsBlockOf (heap_in mid.table memory) b = subst (λ g. IsBlockOf g b) (sym (discards.heaps memory inside)) (C.absents_of_block ids h b before stays_out) in
          C.with_member mid.table.blocks b (C.EachPair-from_AllPairs (λ x y. x.id ≡ y.id → ⊥) mid.table.blocks discards.range.sound.table.ids) (C.block_table mid.table discards.range.sound.table memory mid_inside b left)

      -- so there is as much room as that
      pub room_then : may_grow_in mid.table b.id n options.compact ≡ true
      room_then =
          let is = discards.heaps memory inside in
          let now = room_left mid.table discards.range.sound memory mid_inside b.id in
          let later : room_for (snapshot mid.table.lo mid.table.hi (blocks (heap_in mid.table memory)) mid.table.order) 0 (Some b.id) ≡ room_for (snapshot t.lo t.hi (blocks h) t.order) k (Some b.id) =
          (λ i. room_for (snapshot_of (is i)) 0 (Some b.id)) ∙ C.room-discarded h k (Some b.id) in
          let enough : n ≤ room_for (snapshot t.lo t.hi (blocks h) t.order) k (Some b.id) = C.needed_enough t.lo t.hi (blocks h) t.order n (Some b.id) k (sym needed_same ∙ sym found_is ∙ some_is) in
          ap (may_grow_in mid.table b.id n) on ∙ C.le-leb n (room mid.table.lo mid.table.hi (all_but b.id mid.table.blocks)) (omega (arith, now, later, enough))

      module _ (p : C.Placed) (new : Heap) (stood : IsSomeAnd (object_at (heap_in mid.table memory) b.id) (λ o. Stands (heap_in mid.table memory) b.id n (IsGrown options.zero n o) (λ _ order. order) options p new)) (bytes : All (λ b. b < 256) memory) where
        s : Stands (discarded h k (Some b.id)) b.id n (IsGrown options.zero n object) (λ _ order. order) options p new
        s = subst (λ q. IsSomeAnd q (λ o. Stands (discarded h k (Some b.id)) b.id n (IsGrown options.zero n o) (λ _ order. order) options p new)) (absents_at ids h b.id stays_out ∙ sized.object_is t sound memory inside b known)
            (subst (λ g. IsSomeAnd (object_at g b.id) (λ o. Stands g b.id n (IsGrown options.zero n o) (λ _ order. order) options p new)) (discards.heaps memory inside) stood)

        settled : C.Settles h (C.stays_for b.id options) (with_ordered (discarded h k (Some b.id)) b.id s.object (λ order. order)) new
        settled = C.settles_after h b.id n options k (prefix_is ∙ some_is) (with_ordered (discarded h k (Some b.id)) b.id s.object (λ order. order)) new s.settled

        moved_then : p.moved ≡ C.moved_bytes h new
        moved_then =
            let keeps : C.KeepsOthers h (Some b.id) k new = (C.others_law h new (C.sound_heap t sound memory inside bytes) k).0 b.id options s.object (λ order. order) settled in
            s.placed.moved ∙ sym (C.moved_after h k (Some b.id) new (λ q m. gone h new s.settled.sound q (keeps.discarded q m)))

        pub grows_then : {listed : List ℕ} → listed ≡ mid.discarded → C.IsResized h b.id n options p listed new
        grows_then e = record {
          reallocated = sized.asks t sound memory inside b known n some rounded options more free true new (subst (Answers true new) (sym (growth_is ∙ some_is)) (refl, (s.object, s.such, settled))) (λ off _. absurd (false≢true (sym off ∙ on)));
          placed = record {
            place = s.placed.place;
            inside = let hi = ap (λ (g : Heap). g.hi) (discards.heaps memory inside) in let range = discards.range.hi in let end = s.placed.inside in omega (arith, hi, range, end);
            still = λ q d. still_before h new k (Some b.id) p.slid q (s.placed.still q d);
            moved = moved_then;
            few = let e = moved_then in omega (arith, e, moved_few t sound memory inside new);
          };
          listed = record {
            prefix = k;
            needed = sized.ask_prefix t sound memory inside b known n some rounded options more free k (growth_is ∙ some_is);
            listed = e ∙ discards.listed ∙ ap (take k) (C.eligible_by_members t.blocks (blocks h) (listed_permutation (sized.parts t sound memory inside b known)) t.order (Some b.id));
          };
        }
