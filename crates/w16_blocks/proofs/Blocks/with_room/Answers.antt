use Rattle.w16_blocks.proofs
use proofs.Common as C
use proofs.Common.{ℕ, ◌≡◌, ◌-◌, ◌+◌, ◌*◌, ◌/◌, ◌<◌, List, [], arith, rules, sym, ap, ◌∙◌, subst, sum_by, Block, holes}
use proofs.Later.{cells_reach, cells_reserved}
use proofs.Tables.{blocks_in-none, AreTables-none, get_or-replicate_same}
use Rattle.std.specs.Prelude.{vec_len}
use Rattle.w16_blocks.proofs.Blocks.with_room.Goals as goal

module _ (g : _) (c : goal.After-lengthen-2 g) where
  no_blocks : (id : ℕ) → C.slot_of c.in_ok-slots.slots.items id ≡ C.no_block
  no_blocks id =
      ap (λ (bs : List Block). C.slot_of bs id) (c.in_ok-slots.ensures.items_if_clones_equal (search rules)) ∙ get_or-replicate_same _ id C.no_block

  zeros : c.lengthen.new.table.items ≡ C.replicate ((c.args.hi - c.args.lo) / c.args.grain + 1) 0
  zeros =
      let none = c.in_ok-begins.ensures.len in let cells = c.cells_to-cells.ensures in
      let more : c.cells_to-cells.result - vec_len c.in_ok-begins.begins ≡ (c.args.hi - c.args.lo) / c.args.grain + 1 = omega arith in
      rw (c.in_ok-begins.ensures.items, more) at c.lengthen.ensures.items

  clear : (k : ℕ) → C.slice_index c.lengthen.new.table.items k ≡ 0
  clear k = ap (λ (ns : List ℕ). C.slice_index ns k) zeros ∙ get_or-replicate_same ((c.args.hi - c.args.lo) / c.args.grain + 1) k 0

  long : c.args.hi - c.args.lo < c.args.grain * C.length c.lengthen.new.table.items
  long =
      let n = c.args.hi - c.args.lo in
      subst (λ (m : ℕ). n < c.args.grain * m) (sym (ap C.length zeros ∙ C.length-replicate (n / c.args.grain + 1) 0)) (cells_reach c.args.grain n c.requires.some)

  told : C.blocks_in c.in_ok-slots.slots.items c.lengthen.new.table.items ≡ []
  told = blocks_in-none c.in_ok-slots.slots.items c.lengthen.new.table.items clear

pub invariant_of-result : goal.invariant_of-result
invariant_of-result g c =
    let most = c.max.ensures in let cap = c.in_ok-slots.ensures.len in let le = c.requires.bounds in let r = c.ranges.cap.fits in let h = c.ranges.hi.fits in
    let begins = c.in_ok-begins.ensures.capacity in let more_begins = c.lengthen.ensures.capacity in
    let ends = c.in_ok-ends.ensures.capacity in let more_ends = c.lengthen-2.ensures.capacity in (
      record {
        tables = AreTables-none (clear g c) (no_blocks g c) c.requires.some (omega arith) (omega arith) le c.requires.grained (long g c);
        counted = let none : sum_by (λ b. b.size) (C.blocks_in c.in_ok-slots.slots.items c.lengthen.new.table.items) ≡ 0 = ap (sum_by (λ b. b.size)) (told g c) in omega arith;
        pins = sym (ap (sum_by _) (told g c));
        ranged = c.requires.range;
        between = c.requires.whole ∙ ap (holes c.args.lo c.args.hi) (sym (told g c));
      },
      record {
        begins = cells_reserved _ (c.max.result - c.args.lo) c.requires.some c.cells_to-most.ensures (omega arith) (omega arith);
        ends = cells_reserved _ (c.max.result - c.args.lo) c.requires.some c.cells_to-most.ensures (omega arith) (omega arith);
      },
    )

pub returns : goal.returns
returns g c =
    ap (λ n. C.layout_in n c.args.lo c.args.hi c.args.grain c.in_ok-slots.slots.items c.lengthen.new.table.items) c.in_ok-slots.ensures.len
    ∙ ap (λ bs. record { cap = c.args.cap; lo = c.args.lo; hi = c.args.hi; grain = c.args.grain; blocks = bs }) (told g c)
