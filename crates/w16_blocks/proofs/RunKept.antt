-- What is kept where a run of blocks slides.
use Rattle.w16_blocks.proofs
use proofs.Common as C
use Rattle.std.specs.Prelude.{Vec}
use proofs.Common.{with_items, with_items_is, ℕ, ◌≡◌, ◌+◌, ◌-◌, ◌<◌, ◌≤◌, List, length, map, arith, refl, sym, ap, ◌∙◌, subst, Block, Span, part, holes, Range, IsUsed, IsPart, taken, joined, Layout, holes_of, blocks_in, layout_in, AreTables, IsRun}
use proofs.RunHoles.{IsWay, sum-slid}
use Rattle.w16_holes.proofs.Slid.{free_stays, come_along, others_stay}
use Rattle.w16_blocks.proofs.RunHoles as run_holes

-- Tables that tell a layout `l`, and a run of it that slides to a place.
module _ {cap lo hi g : ℕ} {slots : List Block} {cells : List ℕ} {free pinned : ℕ} {range : Range} {kept : List Span} (k : C.BlocksInvariant cap lo hi g slots cells free pinned range kept)
    {l : Layout} (is_l : layout_in cap lo hi g slots cells ≡ l) {run : Span} (is_run : IsRun l run) (some : run.from < run.to) {to a c apart : ℕ} (way_l : IsWay l run to a c apart) where
  abbrev now : Layout
  now = layout_in cap lo hi g slots cells

  is : IsRun now run
  is = subst (λ (m : Layout). IsRun m run) (sym is_l) is_run

  way : IsWay now run to a c apart
  way = subst (λ (m : Layout). IsWay m run to a c apart) (sym is_l) way_l

  pub part_entered : IsPart range a apart
  part_entered = subst (λ (r : Range). IsPart r a apart) (sym k.ranged) (run_holes.part_entered now k.tables.ordered run is some to a c apart way)

  pub free_entered : C.IsFree a (a + apart) kept
  free_entered = subst (C.IsFree a (a + apart)) (sym k.between) (run_holes.free_entered now k.tables.ordered run is some to a c apart way)

  pub used_run : IsUsed run.from (run.from + (run.to - run.from)) kept
  used_run = subst (IsUsed run.from (run.from + (run.to - run.from))) (sym k.between) (run_holes.used_run now k.tables.ordered run is some to a c apart way)

  -- the run lies inside, there and here
  module _ {m : ℕ} (inside : l.hi ≤ m) where
    source_in : run.from + (run.to - run.from) ≤ m
    source_in = let end = is_run.inside.2 in omega arith

    target_in : to + (run.to - run.from) ≤ m
    target_in = let end = way_l.high in omega arith

  -- once the new place is taken
  module _ {range_then : Range} {mid : List Span} (same : range_then ≡ range) (takes : mid ≡ taken a (a + apart) kept) where
    takes_between : mid ≡ taken a (a + apart) (holes_of now)
    takes_between = takes ∙ ap (taken a (a + apart)) k.between

    pub part_left : IsPart range_then c apart
    part_left = subst (λ (r : Range). IsPart r c apart) (sym (same ∙ k.ranged)) (run_holes.part_left now k.tables.ordered run is some to a c apart way)

    pub used_left : IsUsed c (c + apart) mid
    used_left = subst (IsUsed c (c + apart)) (sym takes_between) (run_holes.used_left now k.tables.ordered run is some to a c apart way)

    -- the slide leaves the bytes of the holes that there are then
    pub same_free : {second third : List ℕ} → l.hi ≤ length second → third ≡ C.put_part second to (part second run.from (run.to - run.from)) → C.AreSameIn mid second third
    same_free {second} {third} inside slid = free_stays run.from to (run.to - run.from) second third slid (source_in inside) (target_in inside) mid
        (subst (IsUsed to (to + (run.to - run.from))) (sym takes_between) (run_holes.used_then now k.tables.ordered run is some to a c apart way))

    -- and once the old one is put, and the tables tell the blocks where they have slid
    module _ {range' : Range} {kept' : List Span} (same_then : range' ≡ range_then) (joins : kept' ≡ joined c (c + apart) mid)
        {slots' : List Block} {cells' : List ℕ} (tables : AreTables cap lo hi g slots' cells') (blocks : blocks_in slots' cells' ≡ map (C.slid_with run to) (blocks_in slots cells)) where
      leaves : kept' ≡ holes lo hi (map (C.slid_with run to) now.blocks)
      leaves = joins ∙ ap (joined c (c + apart)) takes_between
          ∙ run_holes.holes_run now k.tables.ordered run is some to a c apart way (subst (λ (bs : List Block). C.IsLaid lo hi bs) blocks tables.ordered.laid)

      pub BlocksInvariant-run : C.BlocksInvariant cap lo hi g slots' cells' free pinned range' kept'
      BlocksInvariant-run = record {
        tables = tables;
        counted = let sum = ap (C.sum_by (λ (b : Block). b.size)) blocks ∙ sum-slid (λ (b : Block). b.size) (λ b at. refl) run to now.blocks in let counted = k.counted in omega arith;
        pins = k.pins ∙ sym (ap (C.sum_by C.pins_in) blocks ∙ sum-slid C.pins_in (λ b at. refl) run to now.blocks);
        ranged = same_then ∙ same ∙ k.ranged;
        between = leaves ∙ ap (holes lo hi) (sym blocks);
      }

      used_now : IsUsed to (to + (run.to - run.from)) kept'
      used_now = subst (IsUsed to (to + (run.to - run.from))) (sym (joins ∙ ap (joined c (c + apart)) takes_between)) (run_holes.used_after now k.tables.ordered run is some to a c apart way)

      -- the bytes
      module _ {first second third last : List ℕ} (inside : l.hi ≤ length first) (take_same : C.AreSameOutside kept first second) (slid : third ≡ C.put_part second to (part second run.from (run.to - run.from))) (put_same : C.AreSameOutside kept' third last) where
        pub come_too : part last to (run.to - run.from) ≡ part first run.from (run.to - run.from)
        come_too = come_along run.from to (run.to - run.from) first second third last kept kept' take_same slid put_same (source_in inside) (target_in inside)
            used_run used_now

        pub others_same : C.AreSameBut to (run.to - run.from) (holes_of l) kept' first last
        others_same = subst (λ (hs : List Span). C.AreSameBut to (run.to - run.from) hs kept' first last) (k.between ∙ ap holes_of is_l)
            (others_stay run.from to (run.to - run.from) first second third last kept kept' take_same slid put_same (source_in inside) (target_in inside))

-- Tables that are lent as slices and come back written tell what the slices tell.
module _ {Z : Type 0} (s : Vec Block Z) (b : Vec ℕ Z) (slots slots' : List Block) (cells cells' : List ℕ) (lent : slots ≡ s.items) (cells_lent : cells ≡ b.items) (long : length slots' ≡ length slots) (cells_long : length cells' ≡ length cells) where
  slots_back : (with_items s slots').items ≡ slots'
  slots_back = with_items_is s slots' (let a = ap (length {A = Block}) lent in let d = s.ok.0 in omega arith)

  cells_back : (with_items b cells').items ≡ cells'
  cells_back = with_items_is b cells' (let a = ap (length {A = ℕ}) cells_lent in let d = b.ok.0 in omega arith)

  pub tables_back : {lo hi g : ℕ} → AreTables (length slots) lo hi g slots' cells' → AreTables s.len lo hi g (with_items s slots').items (with_items b cells').items
  tables_back {lo} {hi} {g} told =
      let same : length slots ≡ s.len = let a = ap (length {A = Block}) lent in let d = s.ok.0 in omega arith in
      subst (λ (ss : List Block). AreTables s.len lo hi g ss (with_items b cells').items) (sym slots_back) (subst (λ (cs : List ℕ). AreTables s.len lo hi g slots' cs) (sym cells_back) (subst (λ n. AreTables n lo hi g slots' cells') same told))

  pub blocks_back : (f : Block → Block) → blocks_in slots' cells' ≡ map f (blocks_in slots cells) → blocks_in (with_items s slots').items (with_items b cells').items ≡ map f (blocks_in s.items b.items)
  blocks_back f told =
      ap (λ (ss : List Block). blocks_in ss (with_items b cells').items) slots_back ∙ ap (blocks_in slots') cells_back ∙ told
      ∙ ap (λ (ss : List Block). map f (blocks_in ss cells)) lent ∙ ap (λ (cs : List ℕ). map f (blocks_in s.items cs)) cells_lent

-- and so do tables that are lent, before they are written
pub lent_layout : {Z : Type 0} (s : Vec Block Z) (b : Vec ℕ Z) {slots : List Block} {cells : List ℕ} {lo hi g : ℕ} {l : Layout} → layout_in s.len lo hi g s.items b.items ≡ l → slots ≡ s.items → cells ≡ b.items → layout_in (length slots) lo hi g slots cells ≡ l
lent_layout s b {slots} {cells} {lo} {hi} {g} is lent cells_lent =
    let same : length slots ≡ s.len = let a = ap (length {A = Block}) lent in let d = s.ok.0 in omega arith in
    (λ i. layout_in (same i) lo hi g (lent i) (cells_lent i)) ∙ is
