-- The heap after an object was put at a free place, under an id that has no block.
use Rattle.w16_arena.proofs
use proofs.Common as C
use proofs.Changed as M
use Rattle.std.specs.List.{AllByRecursion as Each}
use proofs.Common.{◌≡◌, ◌≢◌, ℕ, ◌+◌, ◌<◌, ◌≤◌, inl, inr, cond, List, set, slice_range, Option, Some, None, option_map, refl, sym, ap, ◌∙◌, arith, Block, Entry, Misses, Heap, object_at, block_with, Fits}
use proofs.{Parts.AreParts, With.with-placed, Lookups.ordered_arranged, Cleared.Makes}
use Rattle.std.specs.FinMap as finmap

-- an entry's locks, where it has a block
abbrev pub AreLocks : Entry → Type 0
AreLocks entry = (entry.locks ≤ 255) × (C.IsTrue (C.is_fixed entry.kind) → entry.locks ≡ 0)

module _ {entries : List (Option Entry)} {layout : C.Layout} {order memory : List ℕ} (parts : AreParts entries layout order memory) where
  abbrev before : Heap
  before = C.heap_of entries layout order memory

  module _ (id n : ℕ) (entry : Entry) (locks : AreLocks entry) (lt : id < C.length entries) (absent : block_with layout.blocks id ≡ None)
      (some : 0 < n) (rounded : C.IsMultiple layout.grain n) where
    -- no block has its id
    pub differ : Each (λ c. c.id ≢ id) layout.blocks
    differ = C.Each-from (λ c. c.id ≢ id) layout.blocks (λ c m e. no c (C.with_member layout.blocks c (C.EachPair-from_AllPairs (λ x y. x.id ≡ y.id → ⊥) layout.blocks parts.sound.table.ids) m) e)
      where
        no : (c : Block) → block_with layout.blocks c.id ≡ Some c → c.id ≢ id
        no c here e = let none : ◌≡◌ {A = Option Block} None (Some c) = sym absent ∙ ap (block_with layout.blocks) (sym e) ∙ here in cc

    -- The object gets its bytes at a free place.
    module _ (at : ℕ) (place : C.AreFreeBytes layout n at) where
      abbrev block : Block
      block = record { id = id; at = at; size = n; hold = C.hold_of_entry entry }

      pub fits : Fits layout block
      fits = record {
        id = let ids = parts.ids in omega arith;
        free = differ;
        inside = (place.above, some, place.below);
        apart = C.Each-map (λ x. Misses x.at x.size at (at + n)) (λ c. C.IsApart block c) (λ c m. turned c m) layout.blocks place.misses;
        grained = (place.grained, rounded);
      }
        where
          turned : (c : Block) → Misses c.at c.size at (at + n) → C.IsApart block c
          turned c (inl m) = inr m
          turned c (inr m) = inl m

      abbrev with_block : C.Layout
      with_block = record layout { blocks = C.placed block layout.blocks }

      together : M.GoTogether (Some entry) (Some block)
      together = record {
        holds = λ x e. ap (λ (y : Block). y.hold) (let s : x ≡ block = cc in s);
        counted = (locks.0, locks.1, λ none. cc);
      }

      changes : M.ChangesOne id (Some block) layout with_block
      changes = record { cap = refl; lo = refl; hi = refl; grain = refl; blocks = λ q. with-placed block layout.blocks q differ }

      module _ {uses : List ℕ} (reorders : M.ReordersOne id (C.is_listed (Some entry) (Some block)) order uses) (ordered : C.IsOrdered with_block) (after : List ℕ) (made : Makes at n memory after) where
        pub new_parts : AreParts (set entries id (Some entry)) with_block uses after
        new_parts = M.changed_parts parts (Some entry) after lt together changes reorders (ordered_arranged with_block ordered) made.long

        abbrev pub new : Heap
        new = C.heap_of (set entries id (Some entry)) with_block uses after

        abbrev pub object : C.Object
        object = record { kind = entry.kind; locks = entry.locks; bytes = Some (slice_range after at (at + n)) }

        -- the bytes of the others stay
        same_bytes : (q : ℕ) → option_map (λ (x : Block). slice_range after x.at (x.at + x.size)) (block_with layout.blocks q) ≡ option_map (λ (x : Block). slice_range memory x.at (x.at + x.size)) (block_with layout.blocks q)
        same_bytes q = from (block_with layout.blocks q) refl
          where
            from : (b : Option Block) → block_with layout.blocks q ≡ b → option_map (λ (x : Block). slice_range after x.at (x.at + x.size)) b ≡ option_map (λ (x : Block). slice_range memory x.at (x.at + x.size)) b
            from None e = refl
            from (Some x) e = ap Some (made.others x.at x.size (C.Each-at (λ (y : Block). Misses y.at y.size at (at + n)) layout.blocks place.misses x (C.member_with layout.blocks q x e).0))

        -- the object is there, at its place, and the others stay
        object_new : object_at new id ≡ Some object
        object_new = M.object_at_id parts (Some entry) after lt together changes reorders (ordered_arranged with_block ordered) made.long

        pub place_new : finmap.get new.places id ≡ Some at
        place_new = M.place_at_id parts (Some entry) after lt together changes reorders (ordered_arranged with_block ordered) made.long

        pub others_stay : (q : ℕ) → q ≢ id → (object_at new q ≡ object_at before q) × (finmap.get new.places q ≡ finmap.get before.places q)
        others_stay q d = (
          M.object_at_other parts (Some entry) after lt together changes reorders (ordered_arranged with_block ordered) made.long q (λ i. d (sym i)) (same_bytes q),
          M.place_at_other parts (Some entry) after lt together changes reorders (ordered_arranged with_block ordered) made.long q (λ i. d (sym i)),
        )

        pub objects : (q : ℕ) → object_at new q ≡ finmap.get (finmap.insert before.objects id object) q
        objects q = elim (C.cases_eq q id) [
          | inl i ↦ ap (object_at new) i ∙ object_new
              ∙ sym (C.get-insert C.nat_cmp_total before.objects id object q ∙ ap (λ b. cond b (Some object) (object_at before q)) (ap (λ k. C.eq_by_cmp C.nat_cmp k id) i ∙ C.tied_itself id))
          | inr d ↦ (others_stay q d).0
              ∙ sym (C.get-insert C.nat_cmp_total before.objects id object q ∙ ap (λ b. cond b (Some object) (object_at before q)) (C.untied q id d))
        ]
