-- An object that got another size where it stands: what its call leaves kept and answers.
use Rattle.w16_arena.proofs
use proofs.Common as C
use proofs.Common.{◌≡◌, ◌≢◌, ℕ, ◌+◌, ◌<◌, ◌≤◌, ◌⊎◌, true, false, not, ◌&&◌, cond, List, [], length, take, drop, replicate, slice_range, Option, Some, None, option_map, refl, sym, ap, ◌∙◌, subst, arith, GName, Block, Entry, part, block_end, hole_after, Heap, with_object, Table, block_with}
use proofs.Common.{Layout, all_but, Uses, table_of, heap_of, ArenaInvariant, Span}
use proofs.Steps.{beside, some_parts, kept_with}
use proofs.{Parts.AreParts, With.with-without, Keeping.bytes_with, Unmoved.unmoved, Answering.still_same, Resized.resized_parts, Resized.resized_heap}
use Rattle.std.specs.FinMap as finmap
use Rattle.w16_arena.proofs.Sized as sized

module _ {entries : List (Option Entry)} {layout : Layout} {uses : Uses} {gap_rooms : ℕ} {room : ℕ} (kept : ArenaInvariant entries layout uses gap_rooms room)
    (b : Block) (known : block_with layout.blocks b.id ≡ Some b) (n : ℕ) {new : Layout} (value : new ≡ record layout { blocks = C.replaced (record b { size = n }) layout.blocks }) (laid : C.IsOrdered new) where
  abbrev t : Table
  t = table_of entries layout uses.ids

  same : (new.lo ≡ layout.lo) × (new.hi ≡ layout.hi) × (new.grain ≡ layout.grain) × (new.cap ≡ layout.cap)
  same = (ap (λ (l : Layout). l.lo) value, ap (λ (l : Layout). l.hi) value, ap (λ (l : Layout). l.grain) value, ap (λ (l : Layout). l.cap) value)

  some_high : layout.hi ≤ length {A = ℕ} (replicate layout.hi 0)
  some_high = (some_parts kept).high

  sound_resized : AreParts entries new uses.ids (replicate layout.hi 0)
  sound_resized = let e = sized.entry_known t kept.sound (replicate layout.hi 0) some_high b known in
      resized_parts (some_parts kept) b known e.0 e.1 e.2 n value laid (replicate layout.hi 0) refl (λ q d. refl)

  pub kept_resized : ArenaInvariant entries new uses gap_rooms room
  kept_resized = kept_with kept entries new uses sound_resized.sound refl same.3 refl

  pub rest_resized : {X : Type 0} {are_in : List Span → List ℕ → Type 0} {bytes : X → List ℕ} {lenders : X → List GName} {x y : X} → C.Leaves are_in bytes lenders (C.holes_of new) (C.IsSameRest layout.lo layout.hi) x y → C.KeepsRest are_in bytes lenders t x (table_of entries new uses.ids) y
  rest_resized rest = record { range = record { lo = same.0; hi = same.1; grain = same.2; ids = refl; sound = sound_resized.sound }; memory = rest }

  module _ (memory : List ℕ) (inside : layout.hi ≤ length memory) where
    parts : AreParts entries layout uses.ids memory
    parts = beside kept memory inside

    abbrev h : Heap
    h = C.heap_in t memory

    abbrev object : C.Object
    object = sized.object t kept.sound memory inside b known

    -- Some memory after it, in which the others have their bytes.
    module _ (after : List ℕ) (long : length after ≡ length memory)
        (others : (q : ℕ) → q ≢ b.id → option_map (λ (x : Block). slice_range after x.at (x.at + x.size)) (block_with layout.blocks q) ≡ option_map (λ (x : Block). slice_range memory x.at (x.at + x.size)) (block_with layout.blocks q)) where
      abbrev after_heap : Heap
      after_heap = heap_of entries new uses.ids after

      heap_is : after_heap ≡ with_object h b.id (record object { bytes = Some (slice_range after b.at (b.at + n)) })
      heap_is = let e = sized.entry_known t kept.sound memory inside b known in resized_heap parts b known e.0 e.1 e.2 n value laid after long others

      places_are : after_heap.places ≡ h.places
      places_are = ap (λ (g : Heap). g.places) heap_is

      placed : (p : C.Placed) → p.at ≡ b.at → p.moved ≡ 0 → b.at + n ≤ layout.hi → C.IsPlaced h b.id n p after_heap
      placed p at moved end = record {
        place = ap (λ (places : C.FinMap C.nat_cmp ℕ). finmap.get places b.id) places_are ∙ sized.stands_at t kept.sound memory inside b known ∙ ap Some (sym at);
        inside = omega arith;
        still = λ q d. subst (λ (places : C.FinMap C.nat_cmp ℕ). C.IfSome (finmap.get places q) (λ at. ((at < p.slid.from) ⊎ (p.slid.to ≤ at)) → finmap.get h.places q ≡ Some at)) (sym places_are) (still_same h p.slid q);
        moved = moved ∙ sym (unmoved h after_heap places_are);
        few = let range = sized.range_is t kept.sound memory inside b known in omega arith;
      }

      module _ (some : 0 < n) (rounded : C.IsMultiple layout.grain n) (options : C.RoomOptions) (p : C.Placed) (at : p.at ≡ b.at) (moved : p.moved ≡ 0) (end : b.at + n ≤ layout.hi) where
        pub is_cut : n ≤ b.size → part after b.at n ≡ part memory b.at n → {discarded : List ℕ} → discarded ≡ [] → C.IsResized h b.id n options p discarded after_heap
        is_cut less own none = record {
          reallocated = sized.cuts t kept.sound memory inside b known n some rounded options less after_heap (heap_is
              ∙ ap (λ bs. with_object h b.id (record object { bytes = Some bs })) (C.range_part after b.at n ∙ own ∙ sym (C.take-take n b.size (drop b.at memory) less) ∙ ap (take n) (sym (C.range_part memory b.at b.size))));
          placed = placed p at moved end;
          listed = record { prefix = 0; needed = sized.cut_prefix t kept.sound memory inside b known n some rounded options less; listed = none };
        }

        pub is_extended : (more : b.size < n) → (C.holds_still b.hold && not options.may_move) ≡ true → n ≤ b.size + hole_after layout.hi layout.blocks (block_end b)
            → C.IsGrown options.zero n object (record object { bytes = Some (slice_range after b.at (b.at + n)) }) → {discarded : List ℕ} → discarded ≡ [] → C.IsResized h b.id n options p discarded after_heap
        is_extended more keeps fits grown none = record {
          reallocated = sized.extends t kept.sound memory inside b known n some rounded options more keeps
              (sized.fits_in_heap t kept.sound memory inside b known n ∙ C.le-leb n (b.size + hole_after layout.hi layout.blocks (block_end b)) fits)
              after_heap (record object { bytes = Some (slice_range after b.at (b.at + n)) }, grown, heap_is);
          placed = placed p at moved end;
          listed = record { prefix = 0; needed = sized.extend_prefix t kept.sound memory inside b known n some rounded options more keeps; listed = none };
        }

  -- The others have their bytes where each block but this has its own,
  pub others_with : (memory after : List ℕ) → C.contents after (all_but b.id layout.blocks) ≡ C.contents memory (all_but b.id layout.blocks) → (q : ℕ) → q ≢ b.id
      → option_map (λ (x : Block). slice_range after x.at (x.at + x.size)) (block_with layout.blocks q) ≡ option_map (λ (x : Block). slice_range memory x.at (x.at + x.size)) (block_with layout.blocks q)
  others_with memory after is q d =
      let other : block_with (all_but b.id layout.blocks) q ≡ block_with layout.blocks q = with-without b.id layout.blocks q ∙ ap (λ v. cond {A = Option Block} v None (block_with layout.blocks q)) (C.ne_eqb b.id q (λ e. d (sym e))) in
      subst (λ (p : Option Block). option_map (λ (x : Block). slice_range after x.at (x.at + x.size)) p ≡ option_map (λ (x : Block). slice_range memory x.at (x.at + x.size)) p) other (bytes_with memory after (all_but b.id layout.blocks) is q)

-- It isn't extended, where the hole behind it is too short.
pub not_extended : {entries : List (Option Entry)} {layout : Layout} {uses : Uses} {gap_rooms : ℕ} {room : ℕ} (kept : ArenaInvariant entries layout uses gap_rooms room)
    (b : Block) (known : block_with layout.blocks b.id ≡ Some b) (n : ℕ) (memory : List ℕ) (inside : layout.hi ≤ length memory) → C.IsMultiple layout.grain n → (options : C.RoomOptions) → b.size < n → (C.holds_still b.hold && not options.may_move) ≡ true
    → b.size + hole_after layout.hi layout.blocks (block_end b) < n → C.Reallocates (heap_of entries layout uses.ids memory) b.id n options false (heap_of entries layout uses.ids memory)
not_extended {entries} {layout} {uses} kept b known n memory inside rounded options more keeps short =
    let t = table_of entries layout _ in
    sized.doesnt_extend t kept.sound memory inside b known n (omega arith) rounded options more keeps
    (sized.fits_in_heap t kept.sound memory inside b known n ∙ C.lt-leb n _ short)
