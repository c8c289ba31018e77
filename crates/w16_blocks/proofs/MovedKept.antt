-- What is kept where a block gets a place elsewhere, at least as long as its own.
use Rattle.w16_blocks.proofs
use proofs.Common as C
use proofs.Keeping as M
use proofs.Common.{ℕ, suc, ◌≡◌, ◌+◌, ◌-◌, ◌*◌, ◌≤◌, List, length, set, Some, arith, refl, sym, ap, ◌∙◌, subst, inl, inr, Block, Span, holes, part, Range, IsUsed, IsPart, taken, Layout, replaced, holes_of, layout_in, BlocksInvariant}
use proofs.Ordered.{IsOrdered-placed, IsOrdered-all_but, sum_fits}
use proofs.{Place.sum-placed, Step.part_known}
use Rattle.w16_holes.proofs.Slid.{free_stays, come_along, others_stay}
use Rattle.w16_holes.proofs.Write as write
use Rattle.w16_blocks.proofs.Moved as moved

module _ {cap lo hi g : ℕ} {slots : List Block} {cells : List ℕ} {free pinned : ℕ} {range : Range} {kept : List Span} (k : BlocksInvariant cap lo hi g slots cells free pinned range kept) (long : cap ≡ length slots)
    {l : Layout} (is : layout_in cap lo hi g slots cells ≡ l) (x : Block) {to n : ℕ} (known_l : C.block_with l.blocks x.id ≡ Some x) (more : x.size ≤ n) (fits_l : C.FitsFor l (record x { at = to; size = n })) (out : C.IsApart (record x { at = to; size = n }) x) where
  abbrev now : Layout
  now = layout_in cap lo hi g slots cells

  abbrev grown : Block
  grown = record x { at = to; size = n }

  known : C.block_with now.blocks x.id ≡ Some x
  known = M.known_now k long is x.id known_l

  fits : C.FitsFor now grown
  fits = M.fits_for k long is grown known_l fits_l

  pub part_new : IsPart range to n
  part_new = subst (λ (r : Range). IsPart r to n) (sym k.ranged) (moved.part_new now x to n known fits out k.tables.ordered k.tables.ids)

  pub free_new : C.IsFree to (to + n) kept
  free_new = subst (C.IsFree to (to + n)) (sym k.between) (moved.free_new now x to n known fits out k.tables.ordered k.tables.ids)

  pub counts_more : n - x.size ≤ free
  counts_more =
      let after = IsOrdered-placed (record now { blocks = C.all_but x.id now.blocks }) grown k.tables.ids fits (IsOrdered-all_but now x.id k.tables.ids k.tables.ordered) in
      let all = sum_fits lo hi (replaced grown now.blocks) after.laid in
      let sum = sum-placed M.size_of grown (C.all_but x.id now.blocks) in
      let split = M.sum_split k long is _ known_l in let counted = k.counted in omega arith

  -- the block lies inside, there and here
  module _ {m : ℕ} (inside : l.hi ≤ m) where
    pub source_in : x.at + x.size ≤ m
    source_in = let up = ap (λ (y : Layout). y.hi) is in let end = (M.lies_in k long is x.id known_l).2 in omega arith

    pub target_in : to + x.size ≤ m
    target_in = let up = ap (λ (y : Layout). y.hi) is in let end = fits.inside.2 in omega arith

  -- once the new place is taken
  module _ {range_then : Range} {mid : List Span} (same : range_then ≡ range) (takes : mid ≡ taken to (to + n) kept) where
    takes_between : mid ≡ taken to (to + n) (holes_of now)
    takes_between = takes ∙ ap (taken to (to + n)) k.between

    pub part_old : IsPart range_then x.at x.size
    part_old = subst (λ (r : Range). IsPart r x.at x.size) (sym (same ∙ k.ranged)) (part_known now x.id x known k.tables.ordered)

    pub used_old : IsUsed x.at (x.at + x.size) mid
    used_old = subst (IsUsed x.at (x.at + x.size)) (sym takes_between) (moved.used_old now x to n known fits out k.tables.ordered k.tables.ids)

    -- the slide leaves the bytes of the holes that there are then
    pub same_free : {second third : List ℕ} → l.hi ≤ length second → third ≡ C.put_part second to (part second x.at x.size) → C.AreSameIn mid second third
    same_free {second} {third} inside slid = free_stays x.at to x.size second third slid (source_in inside) (target_in inside) mid
        (subst (IsUsed to (to + x.size)) (sym takes_between) (moved.used_then now x to n known fits out k.tables.ordered k.tables.ids more))

    -- and once the old one is put
    module _ {range' : Range} {kept' : List Span} (same_then : range' ≡ range_then) (joins : kept' ≡ C.joined x.at (x.at + x.size) mid) where
      leaves : kept' ≡ holes lo hi (replaced grown now.blocks)
      leaves = joins ∙ ap (C.joined x.at (x.at + x.size)) takes_between ∙ moved.holes_grown now x to n known fits out k.tables.ordered k.tables.ids

      module _ (u v : ℕ) {m : ℕ} (from_at : x.at ≡ lo + g * u) (to_at : to ≡ lo + g * v) (told : m ≡ suc x.id) where
        blocks_grown : C.blocks_in (set slots x.id grown) (set (set cells u 0) v m) ≡ replaced grown now.blocks
        blocks_grown = ap (λ (i : ℕ). C.blocks_in (set slots x.id grown) (set (set cells u 0) v i)) told ∙ M.blocks_moved k long is grown known_l fits_l u v (M.cell_is k long is x.id known_l u from_at) to_at

        pub layout_grown : layout_in cap lo hi g (set slots x.id grown) (set (set cells u 0) v m) ≡ record l { blocks = replaced grown l.blocks }
        layout_grown = M.with_blocks k long is (replaced grown) blocks_grown

        pub BlocksInvariant-grown : BlocksInvariant cap lo hi g (set slots x.id grown) (set (set cells u 0) v m) (free - (n - x.size)) pinned range' kept'
        BlocksInvariant-grown = subst (λ (i : ℕ). BlocksInvariant cap lo hi g (set slots x.id grown) (set (set cells u 0) v i) (free - (n - x.size)) pinned range' kept') (sym told)
            (M.BlocksInvariant-move k long is grown known_l fits_l u v (M.cell_is k long is x.id known_l u from_at) to_at (let less = counts_more in omega arith) refl (same_then ∙ same) leaves)

      -- the bytes
      module _ {first second third last : List ℕ} (inside : l.hi ≤ length first) (take_same : C.AreSameOutside kept first second) (slid : third ≡ C.put_part second to (part second x.at x.size)) (put_same : C.AreSameOutside kept' third last) where
        pub come_too : part last to x.size ≡ part first x.at x.size
        come_too = come_along x.at to x.size first second third last kept kept' take_same slid put_same (source_in inside) (target_in inside) (M.used_kept k long is x.id known_l)
            (subst (IsUsed to (to + x.size)) (sym leaves) (moved.used_after now x to n known fits out k.tables.ordered k.tables.ids more))

        -- the new place was free, so what no hole had isn't in it
        pub others_same : C.AreSameOutsideBoth (holes_of l) kept' first last
        others_same = subst (λ (hs : List Span). C.AreSameOutsideBoth hs kept' first last) (k.between ∙ ap holes_of is) (let stay = others_stay x.at to x.size first second third last kept kept' take_same slid put_same (source_in inside) (target_in inside) in record {
          long = stay.long;
          same = λ at m one two. stay.same at m one two (elim (write.apart to (to + n) at (at + m) kept free_new one) [ inl above ↦ inr (omega arith) | inr below ↦ inl below ]);
        })
