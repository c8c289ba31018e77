-- The object of a block, and its reallocation by what was found and made for it.
use Rattle.w16_arena.proofs
use proofs.Common as C
use proofs.Common.{◌≡◌, ℕ, ◌+◌, ◌<◌, ◌≤◌, Bool, true, false, not, ◌&&◌, nat_le, cond, MatchBool, IsSomeAnd, IsTrue, List, [], ◌∷◌, length, take, get_or, slice_range, Option, Some, None, option_map, unwrap_or, refl, sym, ap, ◌∙◌, subst, arith, inl, inr, Block, Entry, Hold, Loose}
use proofs.Common.{holds_still, block_end, first_from, hole_after, is_any, fits_in_place, growth_for, snapshot, Heap, Object, blocks, object_at, is_pinned_object, with_object, IsGrown, Grows, Reallocates, snapshot_of, Table, block_with, hold_of_entry, Member, reallocation_prefix}
use proofs.Lookups.{holds_at, object_here, bytes_here, place_here, ends_in_memory}
use proofs.{Parts.AreParts, Listed.is_listed, Listed.listed_with}
use Rattle.std.specs.List.{AllByRecursion as Each}
use Rattle.std.specs.FinMap as finmap

-- what keeps a block's address
pub still_hold : (b : Bool) → holds_still (cond {A = Hold} b C.Pinned Loose) ≡ b
still_hold true = refl
still_hold false = refl

-- a member's id has a block
member_some : (xs : List Block) (x : Block) → Member x xs → block_with xs x.id ≡ None → ⊥
member_some [] x m none = m
member_some (y ∷ ys) x m none = elim (C.eqb_tells y.id x.id) [
  | inl same ↦ let some : ◌≡◌ {A = Option Block} (Some y) None = rw same.0 at none in cc
  | inr other ↦ elim m [ inl e ↦ other.1 (ap (λ z. z.id) (sym e)) | inr k ↦ member_some ys x k (rw other.0 at none) ]
]

module _ (t : Table) (sound : C.IsSound t) (memory : List ℕ) (inside : t.hi ≤ length memory) (b : Block) (known : block_with t.blocks b.id ≡ Some b) where
  abbrev layout : C.Layout
  layout = record { cap = length t.entries; lo = t.lo; hi = t.hi; grain = t.grain; blocks = t.blocks }

  pub parts : AreParts t.entries layout t.order memory
  parts = record { sound = sound; ids = refl; high = inside }

  abbrev h : Heap
  h = C.heap_in t memory

  -- its entry
  pub entry_known : (e : Entry) × (get_or t.entries b.id None ≡ Some e) × (b.hold ≡ hold_of_entry e)
  entry_known = from (get_or t.entries b.id None) refl (holds_at t.entries layout t.order sound b.id b known)
    where
      from : (p : Option Entry) → get_or t.entries b.id None ≡ p → IsSomeAnd p (λ e. b.hold ≡ hold_of_entry e) → (e : Entry) × (get_or t.entries b.id None ≡ Some e) × (b.hold ≡ hold_of_entry e)
      from None e h = absurd h
      from (Some d) e h = (d, e, h)

  -- its bytes
  abbrev pub own : List ℕ
  own = slice_range memory b.at (b.at + b.size)

  pub own_size : length own ≡ b.size
  own_size = C.length_range memory b.at b.size (ends_in_memory parts b.id b known).1

  abbrev pub object : Object
  object = record { kind = entry_known.0.kind; locks = entry_known.0.locks; bytes = Some own }

  pub object_is : object_at h b.id ≡ Some object
  object_is = object_here parts b.id ∙ ap (option_map (C.object_in t.blocks memory b.id)) entry_known.1
      ∙ ap (λ (p : Option Block). let o : Object = record { kind = entry_known.0.kind; locks = entry_known.0.locks; bytes = option_map (λ (x : Block). slice_range memory x.at (x.at + x.size)) p } in Some o) known

  pub stands_at : finmap.get h.places b.id ≡ Some b.at
  stands_at = place_here parts b.id ∙ ap (option_map (λ (x : Block). x.at)) known

  -- the range
  pub range_is : t.lo ≤ t.hi
  range_is = C.laid_le t.lo t.hi t.blocks sound.table.laid

  pub size_is : unwrap_or (option_map (length {A = ℕ}) (C.bytes_at h b.id)) 0 ≡ b.size
  size_is = ap (λ p. unwrap_or (option_map (length {A = ℕ}) p) 0) (bytes_here parts b.id ∙ ap (option_map (λ (x : Block). slice_range memory x.at (x.at + x.size))) known) ∙ own_size

  -- what holds of it holds of the heap's object
  pub of_object : (P : Object → Type 0) → P object → IsSomeAnd (object_at h b.id) P
  of_object P is = subst (λ p. IsSomeAnd p P) (sym object_is) is

  pub pinned_is : is_pinned_object object ≡ holds_still b.hold
  pinned_is = sym (ap holds_still entry_known.2 ∙ still_hold (is_pinned_object object))

  -- The hole behind it is the heap's.
  first_le : (end : ℕ) (xs ys : List Block) → ((x : Block) → Member x ys → Member x xs) → (a : ℕ) → first_from is_any end xs a ≤ first_from is_any end ys a
  first_le end xs ys among a =
      let all : (first_from is_any end xs a ≤ end) × Each (λ x. IsTrue (is_any x) → a ≤ x.at → first_from is_any end xs a ≤ x.at) xs = C.first_from-below is_any end xs a (first_from is_any end xs a) (omega arith) in
      C.first_from-greatest is_any end ys a (first_from is_any end xs a) all.0
      (C.Each-from (λ x. IsTrue (is_any x) → a ≤ x.at → first_from is_any end xs a ≤ x.at) ys (λ x m. C.Each-at (λ x. IsTrue (is_any x) → a ≤ x.at → first_from is_any end xs a ≤ x.at) xs all.1 x (among x m)))

  hole_same : (end a : ℕ) → hole_after end (blocks h) a ≡ hole_after end t.blocks a
  hole_same end a =
      let to : first_from is_any end (blocks h) a ≤ first_from is_any end t.blocks a = first_le end (blocks h) t.blocks (λ x m. C.block_member h x (C.table_block t sound.table memory inside x m)) a in
      let back : first_from is_any end t.blocks a ≤ first_from is_any end (blocks h) a = first_le end t.blocks (blocks h) (is_listed parts) a in
      omega arith

  -- so it fits in the heap where it fits by the blocks
  abbrev fits_with : ℕ → List Block → ℕ → Option Block → Bool
  fits_with end xs n p = elim p as (λ _. Bool) [
    | Some x ↦ nat_le n (x.size + hole_after end xs (block_end x))
    | None ↦ false
  ]

  pub fits_by_blocks_at : (end : ℕ) (order : List ℕ) (n : ℕ) → fits_in_place (snapshot t.lo end t.blocks order) n b.id ≡ nat_le n (b.size + hole_after end t.blocks (block_end b))
  fits_by_blocks_at end order n = ap (fits_with end t.blocks n) known

  pub fits_by_blocks : (order : List ℕ) (n : ℕ) → fits_in_place (snapshot t.lo t.hi t.blocks order) n b.id ≡ nat_le n (b.size + hole_after t.hi t.blocks (block_end b))
  fits_by_blocks = fits_by_blocks_at t.hi

  known_in_heap : block_with (blocks h) b.id ≡ Some b
  known_in_heap = from (block_with (blocks h) b.id) refl
    where
      from : (p : Option Block) → block_with (blocks h) b.id ≡ p → p ≡ Some b
      from None e = absurd (member_some (blocks h) b (C.block_member h b (C.table_block t sound.table memory inside b (C.member_with t.blocks b.id b known).0)) e)
      from (Some x) e =
          let m = C.member_with (blocks h) b.id x e in
          sym (listed_with parts x (is_listed parts x m.0)) ∙ ap (block_with t.blocks) m.1 ∙ known

  pub fits_in_heap_at : (end n : ℕ) → fits_in_place (snapshot t.lo end (blocks h) t.order) n b.id ≡ nat_le n (b.size + hole_after end t.blocks (block_end b))
  fits_in_heap_at end n = ap (fits_with end (blocks h) n) known_in_heap ∙ ap (λ k. nat_le n (b.size + k)) (hole_same end (block_end b))

  pub fits_in_heap : (n : ℕ) → fits_in_place (snapshot_of h) n b.id ≡ nat_le n (b.size + hole_after t.hi t.blocks (block_end b))
  fits_in_heap = fits_in_heap_at t.hi

  module _ (n : ℕ) (some : 0 < n) (rounded : C.IsMultiple t.grain n) (options : C.RoomOptions) where
    abbrev held : Bool
    held = is_pinned_object object && not options.may_move

    held_is : (v : Bool) → (holds_still b.hold && not options.may_move) ≡ v → held ≡ v
    held_is v is = ap (λ p. p && not options.may_move) pinned_is ∙ is

    -- It is as long, or longer.
    module _ (less : n ≤ b.size) where
      short : nat_le n (length own) ≡ true
      short = C.le-leb n (length own) (omega (arith, own_size))

      pub cuts : (new : Heap) → new ≡ with_object h b.id (record object { bytes = Some (take n own) }) → Reallocates h b.id n options true new
      cuts new is = record {
        some = some;
        rounded = rounded;
        object = of_object (λ o. C.ReallocatesObject h b.id o n options true new) (subst (λ v. MatchBool v ((true ≡ true) × (new ≡ with_object h b.id (record object { bytes = Some (take n own) }))) (Grows h b.id object n options true new)) (sym short) (refl, is));
      }

      pub cut_prefix : IsSomeAnd (object_at h b.id) (λ o. reallocation_prefix h b.id o n options ≡ Some 0)
      cut_prefix = of_object (λ o. reallocation_prefix h b.id o n options ≡ Some 0) (ap (λ v. cond {A = Option ℕ} v (Some 0) (cond held (Some 0) (growth_for (snapshot_of h) n b.id options))) short)

    -- It is shorter.
    module _ (more : b.size < n) where
      long : nat_le n (length own) ≡ false
      long = C.lt-leb n (length own) (omega (arith, own_size))

      abbrev Extends : Bool → Heap → Bool → Type 0
      Extends answered new fits = MatchBool fits ((answered ≡ true) × ((grown : Object) × IsGrown options.zero n object grown × (new ≡ with_object h b.id grown))) ((answered ≡ false) × (new ≡ h))

      abbrev Asks : Bool → Heap → Type 0
      Asks answered new = C.Request h b.id (record { options = options; prefix = growth_for (snapshot_of h) n b.id options; becomes = IsGrown options.zero n object; order = λ _ order. order }) answered new × (options.compact ≡ false → answered ≡ true → C.StaysOrMovesToHole h b.id n new)

      grows : (answered : Bool) (new : Heap) (v : Bool) → held ≡ v → MatchBool v (Extends answered new (fits_in_place (snapshot_of h) n b.id)) (Asks answered new) → Reallocates h b.id n options answered new
      grows answered new v is step = record {
        some = some;
        rounded = rounded;
        object = of_object (λ o. C.ReallocatesObject h b.id o n options answered new) (subst (λ w. MatchBool w ((answered ≡ true) × (new ≡ with_object h b.id (record object { bytes = Some (take n own) }))) (Grows h b.id object n options answered new)) (sym long)
            (subst (λ w. MatchBool w (Extends answered new (fits_in_place (snapshot_of h) n b.id)) (Asks answered new)) (sym is) step));
      }

      -- It may not move.
      module _ (keeps : (holds_still b.hold && not options.may_move) ≡ true) where
        pub extends : fits_in_place (snapshot_of h) n b.id ≡ true → (new : Heap) → (grown : Object) × IsGrown options.zero n object grown × (new ≡ with_object h b.id grown) → Reallocates h b.id n options true new
        extends fits new grown = grows true new true (held_is true keeps) (subst (Extends true new) (sym fits) (refl, grown))

        pub doesnt_extend : fits_in_place (snapshot_of h) n b.id ≡ false → Reallocates h b.id n options false h
        doesnt_extend fits = grows false h true (held_is true keeps) (subst (Extends false h) (sym fits) (refl, refl))

        pub extend_prefix : IsSomeAnd (object_at h b.id) (λ o. reallocation_prefix h b.id o n options ≡ Some 0)
        extend_prefix = of_object (λ o. reallocation_prefix h b.id o n options ≡ Some 0)
            (ap (λ v. cond {A = Option ℕ} v (Some 0) (cond held (Some 0) (growth_for (snapshot_of h) n b.id options))) long ∙ ap (λ v. cond {A = Option ℕ} v (Some 0) (growth_for (snapshot_of h) n b.id options)) (held_is true keeps))

      -- It may move.
      module _ (free : (holds_still b.hold && not options.may_move) ≡ false) where
        pub asks : (answered : Bool) (new : Heap) → C.Request h b.id (record { options = options; prefix = growth_for (snapshot_of h) n b.id options; becomes = IsGrown options.zero n object; order = λ _ order. order }) answered new
            → (options.compact ≡ false → answered ≡ true → C.StaysOrMovesToHole h b.id n new) → Reallocates h b.id n options answered new
        asks answered new request hole = grows answered new false (held_is false free) (request, hole)

        pub ask_prefix : (k : ℕ) → growth_for (snapshot_of h) n b.id options ≡ Some k → IsSomeAnd (object_at h b.id) (λ o. reallocation_prefix h b.id o n options ≡ Some k)
        ask_prefix k is = of_object (λ o. reallocation_prefix h b.id o n options ≡ Some k)
            (ap (λ v. cond {A = Option ℕ} v (Some 0) (cond held (Some 0) (growth_for (snapshot_of h) n b.id options))) long ∙ ap (λ v. cond {A = Option ℕ} v (Some 0) (growth_for (snapshot_of h) n b.id options)) (held_is false free) ∙ is)
