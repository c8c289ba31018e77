-- What is kept where a block is added, taken away or changed.
use Rattle.w16_blocks.proofs
use proofs.Tables as M
use proofs.Step as C
use proofs.Common.{ℕ, suc, ◌≡◌, ◌+◌, ◌-◌, ◌*◌, ◌^◌, ◌<◌, ◌≤◌, List, length, set, Some, sum_by, arith, refl, sym, ap, ◌∙◌, subst, slice_index, Block, Hold, Span, block_end, holes, IsMultiple, block_with, Range, IsFree, IsUsed, IsPart, taken, joined, Layout, Fits, FitsFor, placed, all_but}
use proofs.Common.{replaced, no_block, slot_of, blocks_in, layout_in, pins_of, pins_in, AreTables, BlocksInvariant}
use proofs.Ordered.{IsOrdered-placed, IsOrdered-all_but, sum_fits, pins_small, pins_fit}
use proofs.{Cells.with_cell, Place.sum-placed, Remove.with_id, Remove.sum-all_but, Step.lies}

abbrev pub size_of : Block → ℕ
size_of b = b.size

-- Blocks that table and cells tell are told as a layout `l`, which is what callers speak of.
module _ {cap lo hi g : ℕ} {slots : List Block} {cells : List ℕ} {free pinned : ℕ} {range : Range} {kept : List Span} (k : BlocksInvariant cap lo hi g slots cells free pinned range kept) (long : cap ≡ length slots)
    {l : Layout} (is : layout_in cap lo hi g slots cells ≡ l) where
  abbrev now : Layout
  now = layout_in cap lo hi g slots cells

  -- the same with other blocks
  pub with_blocks : (change : List Block → List Block) {bs : List Block} → bs ≡ change now.blocks → record now { blocks = bs } ≡ record l { blocks = change l.blocks }
  with_blocks change e = ap (λ (cs : List Block). record now { blocks = cs }) e ∙ ap (λ (m : Layout). record m { blocks = change m.blocks }) is

  -- a block that is added
  module _ {b : Block} (fits_l : Fits l b) where
    fits_now : Fits now b
    fits_now = subst (λ (m : Layout). Fits m b) (sym is) fits_l

    pub free_for : IsFree b.at (b.at + b.size) kept
    free_for = subst (IsFree b.at (b.at + b.size)) (sym k.between) (C.free_added now b fits_now k.tables.ordered)

    pub size_below : b.size ≤ free
    size_below =
        let after = IsOrdered-placed now b k.tables.ids fits_now k.tables.ordered in
        let all = sum_fits lo hi (placed b now.blocks) after.laid in
        let more = sum-placed size_of b now.blocks in let counted = k.counted in omega arith

    pub pins_room : pinned + pins_in b < 2 ^ 32
    pins_room =
        let after = IsOrdered-placed now b k.tables.ids fits_now k.tables.ordered in
        let all = sum_fits lo hi (placed b now.blocks) after.laid in let fit = pins_fit lo hi (placed b now.blocks) after.laid in
        let more = sum-placed pins_in b now.blocks in let pins = k.pins in let small = k.tables.ordered.small in omega arith

    module _ (u : ℕ) {n : ℕ} (at : b.at ≡ lo + g * u) (told : n ≡ suc b.id) where
      blocks_added : blocks_in (set slots b.id b) (set cells u n) ≡ placed b now.blocks
      blocks_added = ap (λ (m : ℕ). blocks_in (set slots b.id b) (set cells u m)) told ∙ M.blocks_in-add k.tables long u fits_now at

      pub layout_added : layout_in cap lo hi g (set slots b.id b) (set cells u n) ≡ record l { blocks = placed b l.blocks }
      layout_added = with_blocks (placed b) blocks_added

      pub BlocksInvariant-add : {p : ℕ} {range' : Range} {kept' : List Span} → p ≡ pins_in b → range' ≡ range → kept' ≡ taken b.at (b.at + b.size) kept → BlocksInvariant cap lo hi g (set slots b.id b) (set cells u n) (free - b.size) (pinned + p) range' kept'
      BlocksInvariant-add pins same takes = record {
        tables = subst (λ (m : ℕ). AreTables cap lo hi g (set slots b.id b) (set cells u m)) (sym told) (M.AreTables-add k.tables long u fits_now at);
        counted =
            let sum = ap (sum_by size_of) blocks_added ∙ sum-placed size_of b now.blocks in
            let counted = k.counted in let size = size_below in omega arith;
        pins = let sum = ap (sum_by pins_in) blocks_added ∙ sum-placed pins_in b now.blocks in let counted = k.pins in omega arith;
        ranged = same ∙ k.ranged;
        between = takes ∙ ap (taken b.at (b.at + b.size)) k.between ∙ C.holes_added now b fits_now k.tables.ordered ∙ ap (holes lo hi) (sym blocks_added);
      }

  -- an id's block
  module _ (id : ℕ) {x : Block} (known_l : block_with l.blocks id ≡ Some x) where
    pub known_now : block_with now.blocks id ≡ Some x
    known_now = subst (λ (m : Layout). block_with m.blocks id ≡ Some x) (sym is) known_l

    pub lies_in : (lo ≤ x.at) × (0 < x.size) × (block_end x ≤ hi)
    lies_in = lies now id x known_now k.tables.ordered

    pub place_grained : IsMultiple g x.at
    place_grained = (C.grained_known now id x known_now k.tables.ordered).0

    pub part_kept : IsPart range x.at x.size
    part_kept = subst (λ (r : Range). IsPart r x.at x.size) (sym k.ranged) (C.part_known now id x known_now k.tables.ordered)

    pub used_kept : IsUsed x.at (x.at + x.size) kept
    used_kept = subst (IsUsed x.at (x.at + x.size)) (sym k.between) (C.used_known now id x known_now k.tables.ordered)

    pub sum_split : sum_by size_of now.blocks ≡ x.size + sum_by size_of (all_but id now.blocks)
    sum_split = sum-all_but cap size_of id x now.blocks k.tables.ordered.named known_now

    pub with_size : free + x.size ≤ hi
    with_size = let split = sum_split in let counted = k.counted in omega arith

    pins_split : sum_by pins_in now.blocks ≡ pins_in x + sum_by pins_in (all_but id now.blocks)
    pins_split = sum-all_but cap pins_in id x now.blocks k.tables.ordered.named known_now

    pub pins_below : pins_in x ≤ pinned
    pins_below = let split = pins_split in let pins = k.pins in omega arith

    -- another hold is counted
    pub pins_other : (hold : Hold) → pinned - pins_in x + pins_of hold < 2 ^ 32
    pins_other hold =
        let split = pins_split in let sizes = sum_split in let pins = k.pins in let counted = k.counted in let some = lies_in.1 in
        let rest = pins_fit lo hi (all_but id now.blocks) (IsOrdered-all_but now id k.tables.ids k.tables.ordered).laid in
        let one = pins_small hold in let small = k.tables.ordered.small in omega arith

    -- it begins in a unit
    module _ (u : ℕ) (at : x.at ≡ lo + g * u) where
      pub cell_is : slice_index cells u ≡ suc id
      cell_is = M.cell_at k.tables long u known_now at

      pub unit_inside : u < length cells
      unit_inside = M.unit_told k.tables long u cell_is

      blocks_dropped : blocks_in (set slots id no_block) (set cells u 0) ≡ all_but id now.blocks
      blocks_dropped = M.blocks_in-drop k.tables long u cell_is

      pub layout_dropped : layout_in cap lo hi g (set slots id no_block) (set cells u 0) ≡ record l { blocks = all_but id l.blocks }
      layout_dropped = with_blocks (all_but id) blocks_dropped

      pub BlocksInvariant-drop : {p : ℕ} {range' : Range} {kept' : List Span} → p ≡ pins_in x → range' ≡ range → kept' ≡ joined x.at (x.at + x.size) kept → BlocksInvariant cap lo hi g (set slots id no_block) (set cells u 0) (free + x.size) (pinned - p) range' kept'
      BlocksInvariant-drop pins same joins = record {
        tables = M.AreTables-drop k.tables long u cell_is;
        counted = let sum = ap (sum_by size_of) blocks_dropped in let split = sum_split in let counted = k.counted in omega arith;
        pins = let sum = ap (sum_by pins_in) blocks_dropped in let split = pins_split in let counted = k.pins in omega arith;
        ranged = same ∙ k.ranged;
        between = joins ∙ ap (joined x.at (x.at + x.size)) k.between ∙ C.holes_left now id x known_now k.tables.ordered ∙ ap (holes lo hi) (sym blocks_dropped);
      }

  -- a block in place of the one of its id
  module _ (b : Block) {x : Block} (known_l : block_with l.blocks b.id ≡ Some x) (fits_l : FitsFor l b) where
    pub fits_for : FitsFor now b
    fits_for = subst (λ (m : Layout). FitsFor m b) (sym is) fits_l

    module _ (u v : ℕ) (tells : slice_index cells u ≡ suc b.id) (at : b.at ≡ lo + g * v) where
      pub blocks_moved : blocks_in (set slots b.id b) (set (set cells u 0) v (suc b.id)) ≡ replaced b now.blocks
      blocks_moved = M.blocks_in-move k.tables long u v tells fits_for at

      pub BlocksInvariant-move : {free' pinned' : ℕ} {range' : Range} {kept' : List Span} → free' + b.size ≡ free + x.size → pinned' + pins_in x ≡ pinned + pins_in b → range' ≡ range → kept' ≡ holes lo hi (replaced b now.blocks)
          → BlocksInvariant cap lo hi g (set slots b.id b) (set (set cells u 0) v (suc b.id)) free' pinned' range' kept'
      BlocksInvariant-move counts pins same leaves = record {
        tables = M.AreTables-move k.tables long u v tells fits_for at;
        counted =
            let sum = ap (sum_by size_of) blocks_moved ∙ sum-placed size_of b (all_but b.id now.blocks) in
            let split = sum_split _ known_l in let counted = k.counted in omega arith;
        pins =
            let sum = ap (sum_by pins_in) blocks_moved ∙ sum-placed pins_in b (all_but b.id now.blocks) in
            let split = pins_split _ known_l in let counted = k.pins in omega arith;
        ranged = same ∙ k.ranged;
        between = leaves ∙ ap (holes lo hi) (sym blocks_moved);
      }

    -- that stands where the other stood: no cell changes
    module _ (at : b.at ≡ x.at) where
      cell : (u : ℕ) × (slice_index cells u ≡ suc b.id) × (slot_of slots b.id ≡ x)
      cell = with_cell lo g slots cells b.id x k.tables.begun (known_now _ known_l)

      at_cell : b.at ≡ lo + g * cell.0
      at_cell = let begins = (k.tables.begun cell.0 b.id cell.1).at in let place = ap (λ (c : Block). c.at) cell.2 in omega arith

      pub blocks_in_place : blocks_in (set slots b.id b) cells ≡ replaced b now.blocks
      blocks_in_place = ap (blocks_in (set slots b.id b)) (sym (M.same_cells cells cell.0 b.id cell.1)) ∙ blocks_moved cell.0 cell.0 cell.1 at_cell

      pub layout_in_place : layout_in cap lo hi g (set slots b.id b) cells ≡ record l { blocks = replaced b l.blocks }
      layout_in_place = with_blocks (replaced b) blocks_in_place

      pub BlocksInvariant-place : {free' pinned' : ℕ} {range' : Range} {kept' : List Span} → free' + b.size ≡ free + x.size → pinned' + pins_in x ≡ pinned + pins_in b → range' ≡ range
          → kept' ≡ holes lo hi (replaced b now.blocks) → BlocksInvariant cap lo hi g (set slots b.id b) cells free' pinned' range' kept'
      BlocksInvariant-place {free'} {pinned'} {range'} {kept'} counts pins same leaves =
          subst (λ (cs : List ℕ). BlocksInvariant cap lo hi g (set slots b.id b) cs free' pinned' range' kept') (M.same_cells cells cell.0 b.id cell.1) (BlocksInvariant-move cell.0 cell.0 cell.1 at_cell counts pins same leaves)

  -- an id's block with another hold
  module _ (id : ℕ) {x : Block} (lt : id < l.cap) (known_l : block_with l.blocks id ≡ Some x) (hold : Hold) where
    own_id : x.id ≡ id
    own_id = with_id id x l.blocks known_l

    known_own : block_with l.blocks x.id ≡ Some x
    known_own = ap (block_with l.blocks) own_id ∙ known_l

    abbrev held : Block
    held = record x { hold = hold }

    fits_held : FitsFor l held
    fits_held = subst (λ (m : Layout). FitsFor m held) is (C.fits_itself now x hold (let same = own_id in let cap_is = ap (λ (m : Layout). m.cap) is in omega arith) (known_now _ known_own) k.tables.ordered)

    pub layout_held : layout_in cap lo hi g (set slots id held) cells ≡ record l { blocks = replaced held l.blocks }
    layout_held = ap (λ (i : ℕ). layout_in cap lo hi g (set slots i held) cells) (sym own_id) ∙ layout_in_place held known_own fits_held refl

    pub BlocksInvariant-held : {pinned' : ℕ} → pinned' + pins_in x ≡ pinned + pins_of hold → BlocksInvariant cap lo hi g (set slots id held) cells free pinned' range kept
    BlocksInvariant-held {pinned'} pins = subst (λ (i : ℕ). BlocksInvariant cap lo hi g (set slots i held) cells free pinned' range kept) own_id
        (BlocksInvariant-place held known_own fits_held refl refl pins refl (k.between ∙ C.holes_same now held x (known_now _ known_own) (fits_for held known_own fits_held) k.tables.ordered k.tables.ids refl refl))

  -- an id's block with another size
  module _ (x : Block) {size : ℕ} (known_l : block_with l.blocks x.id ≡ Some x) (fits_l : FitsFor l (record x { size = size })) where
    abbrev sized : Block
    sized = record x { size = size }

    fits_sized : FitsFor now sized
    fits_sized = fits_for sized known_l fits_l

    pub layout_sized : layout_in cap lo hi g (set slots x.id sized) cells ≡ record l { blocks = replaced sized l.blocks }
    layout_sized = layout_in_place sized known_l fits_l refl

    -- a larger one
    module _ (more : x.size < size) where
      pub part_taken : IsPart range (x.at + x.size) (size - x.size)
      part_taken = subst (λ (r : Range). IsPart r (x.at + x.size) (size - x.size)) (sym k.ranged) (C.part_more now x size (known_now _ known_l) fits_sized k.tables.ordered k.tables.ids more)

      pub free_taken : IsFree (x.at + x.size) (x.at + x.size + (size - x.size)) kept
      free_taken = subst (IsFree (x.at + x.size) (x.at + x.size + (size - x.size))) (sym k.between) (C.free_more now x size (known_now _ known_l) fits_sized k.tables.ordered k.tables.ids more)

      pub counts_more : size - x.size ≤ free
      counts_more =
          let after = IsOrdered-placed (record now { blocks = all_but x.id now.blocks }) sized k.tables.ids fits_sized (IsOrdered-all_but now x.id k.tables.ids k.tables.ordered) in
          let all = sum_fits lo hi (replaced sized now.blocks) after.laid in
          let sum = sum-placed size_of sized (all_but x.id now.blocks) in
          let split = sum_split _ known_l in let counted = k.counted in omega arith

      pub BlocksInvariant-more : {range' : Range} {kept' : List Span} → range' ≡ range → kept' ≡ taken (x.at + x.size) (x.at + x.size + (size - x.size)) kept → BlocksInvariant cap lo hi g (set slots x.id sized) cells (free - (size - x.size)) pinned range' kept'
      BlocksInvariant-more same takes = BlocksInvariant-place sized known_l fits_l refl (let less = counts_more in omega arith) refl same
          (takes ∙ ap (taken (x.at + x.size) (x.at + x.size + (size - x.size))) k.between ∙ C.holes_more now x size (known_now _ known_l) fits_sized k.tables.ordered k.tables.ids more)

    -- a smaller one
    module _ (less : size < x.size) where
      pub part_put : IsPart range (x.at + size) (x.size - size)
      part_put = subst (λ (r : Range). IsPart r (x.at + size) (x.size - size)) (sym k.ranged) (C.part_less now x size (known_now _ known_l) fits_sized k.tables.ordered k.tables.ids less)

      pub used_put : IsUsed (x.at + size) (x.at + size + (x.size - size)) kept
      used_put = subst (IsUsed (x.at + size) (x.at + size + (x.size - size))) (sym k.between) (C.used_less now x size (known_now _ known_l) fits_sized k.tables.ordered k.tables.ids less)

      pub BlocksInvariant-less : {range' : Range} {kept' : List Span} → range' ≡ range → kept' ≡ joined (x.at + size) (x.at + size + (x.size - size)) kept → BlocksInvariant cap lo hi g (set slots x.id sized) cells (free + (x.size - size)) pinned range' kept'
      BlocksInvariant-less same joins = BlocksInvariant-place sized known_l fits_l refl (omega arith) refl same
          (joins ∙ ap (joined (x.at + size) (x.at + size + (x.size - size))) k.between ∙ C.holes_less now x size (known_now _ known_l) fits_sized k.tables.ordered k.tables.ids less)
