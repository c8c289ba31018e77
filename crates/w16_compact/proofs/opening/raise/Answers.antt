use Rattle.w16_compact.proofs
use proofs.Common as C
use proofs.Raising as M
use proofs.Common.{ℕ, ◌≡◌, ◌≢◌, Some, inl, inr, ◌-◌, ◌<◌, ◌≤◌, ◌⊎◌, ◌∙◌, arith, refl, sym, ap, subst, Block, block_end, Layout, IsRun, lies, multiple_less}
use proofs.Gathering.{cut_low, cut_high, at_most}
use proofs.{Raising.room_then, Rests.leaves_more, Rests.rest_same}
use Rattle.w16_compact.proofs.opening.raise.Given as Given
use Rattle.w16_compact.proofs.opening.raise.Goals as goal

pub loop-block-init : goal.loop-block-init
loop-block-init g c =
    let l = c.args.blocks.now in let gap = c.requires.gap in let order = gap.inside.1 in
    record {
      bounds = (refl, refl, refl, refl);
      ordered = c.reveal_order.ensures;
      list = sym (M.raised_none l.blocks _ _);
      low = order;
      high = omega arith;
      cut = cut_high _ _ _ order gap.loose;
      place = let none = M.loose_empty l.blocks c.args.high in omega arith;
      room = omega arith;
      grained = c.requires.grained;
      moved = sym (ap (C.moved_between _) (sym (M.raised_none l.blocks _ _)) ∙ M.moved_start c.args.high l.blocks);
      small = omega arith;
      written = omega arith;
      contents = refl;
      rest = record { kept = c.requires.memory.kept; bytes = rest_same _ _ _; loans = refl };
    }

-- the run that ends with a block has bytes
run_some : (l : Layout) (x : Block) → C.IsOrdered l → C.block_with l.blocks x.id ≡ Some x → (low begin : ℕ) → low ≤ x.at → IsRun l (record { from = begin; to = block_end x }) → C.BeginsAt l low begin → begin < block_end x
run_some l x ordered known low begin from is first =
    let size = (lies l x.id x known ordered).1 in let order = is.inside.1 in
    elim first [
      | inl bottom ↦ omega arith
      | inr none ↦ elim (C.cases_lt begin _) [
        | inl lt ↦ lt
        | inr ge ↦ absurd (C.each_with (λ b. block_end b ≢ begin) x.id x _ known none (omega arith))
      ]
    ]

pub overflow_add-behind : goal.overflow_add-behind
overflow_add-behind g c =
    let l = c.args.blocks.now in let inv = c.loop-block.invariant in let is = c.in-Some.ensures.value in
    let end = (lies c.loop-block.blocks c.in-Some.block.id c.in-Some.block is.0.known inv.ordered).2 in let small = inv.ordered.small in record { fits = omega arith }

pub run_begin-requires-clause-inside : goal.run_begin-requires-clause-inside
run_begin-requires-clause-inside g c =
    let l = c.args.blocks.now in let inv = c.loop-block.invariant in let is = c.in-Some.ensures.value in
    let end = (lies c.loop-block.blocks c.in-Some.block.id c.in-Some.block is.0.known inv.ordered).2 in
    let low = c.requires.gap.inside.0 in let lo = inv.bounds.1 in let from = is.1 in (omega arith, omega arith, end)

pub run_begin-requires-clause-grained : goal.run_begin-requires-clause-grained
run_begin-requires-clause-grained g c =
    let l = c.args.blocks.now in let inv = c.loop-block.invariant in let is = c.in-Some.ensures.value in
    let grained = C.grained_known c.loop-block.blocks c.in-Some.block.id c.in-Some.block is.0.known inv.ordered in C.multiple_sum _ _ _ grained.0 grained.1

pub run_begin-requires-clause-whole : goal.run_begin-requires-clause-whole
run_begin-requires-clause-whole g c =
    let l = c.args.blocks.now in let inv = c.loop-block.invariant in let is = c.in-Some.ensures.value in (
      M.cut_low_now l.blocks _ c.args.high _ c.loop-block.to inv.low inv.high inv.place inv.room _ inv.list (cut_low _ c.args.high _ c.requires.gap.inside.1 c.requires.gap.loose),
      M.cut_end_now c.loop-block.blocks c.in-Some.block inv.ordered is.0.known,
    )

pub overflow_sub-to : goal.overflow_sub-to
overflow_sub-to g c =
    let l = c.args.blocks.now in let inv = c.loop-block.invariant in let is = c.in-Some.ensures.value in
    c.run_begin.ensures.run.inside.1

pub overflow_sub-to-in-Some : goal.overflow_sub-to-in-Some
overflow_sub-to-in-Some g c =
    let l = c.args.blocks.now in let inv = c.loop-block.invariant in let is = c.in-Some.ensures.value in
    (room_then _ l.lo l.hi c.args.low c.args.high _ _ c.reveal_order.ensures.laid c.requires.gap.loose inv.high inv.place inv.room inv.cut c.loop-block.blocks inv.ordered inv.list
    c.in-Some.block is.0.known is.0.below is.0.last (record
    { from = c.run_begin.result; to = block_end c.in-Some.block }) c.run_begin.ensures.run
    (run_some c.loop-block.blocks c.in-Some.block inv.ordered is.0.known _ _ is.1
    c.run_begin.ensures.run c.run_begin.ensures.first) c.run_begin.ensures.low refl).0

pub lift-requires-clause-some : goal.lift-requires-clause-some
lift-requires-clause-some g c =
    let l = c.args.blocks.now in let inv = c.loop-block.invariant in let is = c.in-Some.ensures.value in
    run_some c.loop-block.blocks c.in-Some.block inv.ordered is.0.known _ _ is.1 c.run_begin.ensures.run c.run_begin.ensures.first

pub lift-requires-clause-bare : goal.lift-requires-clause-bare
lift-requires-clause-bare g c =
    let l = c.args.blocks.now in let inv = c.loop-block.invariant in let is = c.in-Some.ensures.value in
    M.bare_then _ l.lo l.hi c.args.low c.args.high _ _ c.reveal_order.ensures.laid c.requires.gap.loose inv.high inv.place inv.room inv.cut c.loop-block.blocks inv.ordered inv.list
    c.in-Some.block is.0.known is.0.below is.0.last (record
    { from = c.run_begin.result; to = block_end c.in-Some.block }) c.run_begin.ensures.run
    (run_some c.loop-block.blocks c.in-Some.block inv.ordered is.0.known _ _ is.1
    c.run_begin.ensures.run c.run_begin.ensures.first) c.run_begin.ensures.low refl

pub lift-requires-clause-grained : goal.lift-requires-clause-grained
lift-requires-clause-grained g c =
    let l = c.args.blocks.now in let inv = c.loop-block.invariant in let is = c.in-Some.ensures.value in
    let grain = inv.bounds.3 in let run = c.run_begin.ensures.run in
    multiple_less _ _ (block_end c.in-Some.block - c.run_begin.result) (subst (λ n. C.IsMultiple n c.loop-block.to) (sym grain) inv.grained)
    (multiple_less _ _ _ run.grained.1 run.grained.0)

pub lift-requires-clause-up : goal.lift-requires-clause-up
lift-requires-clause-up g c =
    let l = c.args.blocks.now in let inv = c.loop-block.invariant in let is = c.in-Some.ensures.value in
    let room = room_then _ l.lo l.hi c.args.low c.args.high _ _ c.reveal_order.ensures.laid c.requires.gap.loose inv.high inv.place inv.room inv.cut c.loop-block.blocks inv.ordered inv.list
    c.in-Some.block is.0.known is.0.below is.0.last (record
    { from = c.run_begin.result; to = block_end c.in-Some.block }) c.run_begin.ensures.run
    (run_some c.loop-block.blocks c.in-Some.block inv.ordered is.0.known _ _ is.1
    c.run_begin.ensures.run c.run_begin.ensures.first) c.run_begin.ensures.low refl in
    let top = c.requires.gap.inside.2 in let hi = inv.bounds.2 in let end = room.2 in let high = room.3 in (room.1, omega arith)

pub loop-block-smaller : goal.loop-block-smaller
loop-block-smaller g c =
    let l = c.args.blocks.now in let inv = c.loop-block.invariant in let is = c.in-Some.ensures.value in
    let some = run_some c.loop-block.blocks c.in-Some.block inv.ordered is.0.known c.args.low c.run_begin.result is.1 c.run_begin.ensures.run c.run_begin.ensures.first in
    let end = M.end_below l.blocks l.lo l.hi c.args.low c.args.high c.loop-block.from c.loop-block.to c.reveal_order.ensures.laid c.requires.gap.loose inv.high inv.place inv.room inv.cut c.loop-block.blocks inv.ordered inv.list
    c.in-Some.block is.0.known is.0.below is.0.last (record
    { from = c.run_begin.result; to = block_end c.in-Some.block }) c.run_begin.ensures.run
    (run_some c.loop-block.blocks c.in-Some.block inv.ordered is.0.known c.args.low c.run_begin.result is.1
    c.run_begin.ensures.run c.run_begin.ensures.first) c.run_begin.ensures.low refl in omega arith

pub loop-block-preserved : goal.loop-block-preserved
loop-block-preserved g c =
    let l = c.args.blocks.now in let inv = c.loop-block.invariant in let is = c.in-Some.ensures.value in
    let run = c.run_begin.ensures.run in
    let new = c.lift.ensures.blocks in
    let list = ap (λ m. m.blocks) new ∙ M.list_then l.blocks l.lo l.hi c.args.low c.args.high c.loop-block.from c.loop-block.to c.reveal_order.ensures.laid c.requires.gap.loose inv.high inv.place inv.room inv.cut c.loop-block.blocks inv.ordered inv.list
    c.in-Some.block is.0.known is.0.below is.0.last (record
    { from = c.run_begin.result; to = block_end c.in-Some.block }) c.run_begin.ensures.run
    (run_some c.loop-block.blocks c.in-Some.block inv.ordered is.0.known c.args.low c.run_begin.result is.1
    c.run_begin.ensures.run c.run_begin.ensures.first) c.run_begin.ensures.low refl in
    let room = room_then l.blocks l.lo l.hi c.args.low c.args.high c.loop-block.from c.loop-block.to c.reveal_order.ensures.laid c.requires.gap.loose inv.high inv.place inv.room inv.cut c.loop-block.blocks inv.ordered inv.list
    c.in-Some.block is.0.known is.0.below is.0.last (record
    { from = c.run_begin.result; to = block_end c.in-Some.block }) c.run_begin.ensures.run
    (run_some c.loop-block.blocks c.in-Some.block inv.ordered is.0.known c.args.low c.run_begin.result is.1
    c.run_begin.ensures.run c.run_begin.ensures.first) c.run_begin.ensures.low refl in
    let r = c.from-moved.ensures ∙ c.lift.ensures.moved in
    let step = M.moved_then l.blocks l.lo l.hi c.args.low c.args.high c.loop-block.from c.loop-block.to c.reveal_order.ensures.laid c.requires.gap.loose inv.high inv.place inv.room inv.cut c.loop-block.blocks inv.ordered inv.list
    c.in-Some.block is.0.known is.0.below is.0.last (record
    { from = c.run_begin.result; to = block_end c.in-Some.block }) c.run_begin.ensures.run
    (run_some c.loop-block.blocks c.in-Some.block inv.ordered is.0.known c.args.low c.run_begin.result is.1
    c.run_begin.ensures.run c.run_begin.ensures.first) c.run_begin.ensures.low refl c.from-moved.result r in
    let few = at_most c.from-moved.result c.run_begin.result (c.loop-block.to - (block_end c.in-Some.block - c.run_begin.result)) (block_end c.in-Some.block - c.run_begin.result) r in
    let grain = inv.bounds.3 in let size = room.0 in
    record {
      bounds = (ap (λ m. m.cap) new ∙ inv.bounds.0, ap (λ m. m.lo) new ∙ inv.bounds.1, ap (λ m. m.hi) new ∙ inv.bounds.2, ap (λ m. m.grain) new ∙ inv.bounds.3);
      ordered = c.lift.ensures.ordered;
      list = list;
      low = c.run_begin.ensures.low;
      high = let end = M.end_below l.blocks l.lo l.hi c.args.low c.args.high c.loop-block.from c.loop-block.to c.reveal_order.ensures.laid c.requires.gap.loose inv.high inv.place inv.room inv.cut c.loop-block.blocks inv.ordered inv.list
          c.in-Some.block is.0.known is.0.below is.0.last
          (record { from = c.run_begin.result; to = block_end c.in-Some.block }) c.run_begin.ensures.run
          (run_some c.loop-block.blocks c.in-Some.block inv.ordered is.0.known c.args.low c.run_begin.result is.1
          c.run_begin.ensures.run c.run_begin.ensures.first) c.run_begin.ensures.low refl in let two = inv.high in
          let order = run.inside.1 in omega arith;
      cut = M.cut_then l.blocks l.lo l.hi c.args.low c.args.high c.loop-block.from c.loop-block.to c.reveal_order.ensures.laid c.requires.gap.loose inv.high inv.place inv.room inv.cut c.loop-block.blocks inv.ordered inv.list
          c.in-Some.block is.0.known is.0.below is.0.last
          (record { from = c.run_begin.result; to = block_end c.in-Some.block }) c.run_begin.ensures.run
          (run_some c.loop-block.blocks c.in-Some.block inv.ordered is.0.known c.args.low c.run_begin.result is.1
          c.run_begin.ensures.run c.run_begin.ensures.first) c.run_begin.ensures.low refl;
      place = M.place_then l.blocks l.lo l.hi c.args.low c.args.high c.loop-block.from c.loop-block.to c.reveal_order.ensures.laid c.requires.gap.loose inv.high inv.place inv.room inv.cut c.loop-block.blocks inv.ordered inv.list
          c.in-Some.block is.0.known is.0.below is.0.last
          (record { from = c.run_begin.result; to = block_end c.in-Some.block }) c.run_begin.ensures.run
          (run_some c.loop-block.blocks c.in-Some.block inv.ordered is.0.known c.args.low c.run_begin.result is.1
          c.run_begin.ensures.run c.run_begin.ensures.first) c.run_begin.ensures.low refl;
      room = room.1;
      grained = multiple_less l.grain c.loop-block.to (block_end c.in-Some.block - c.run_begin.result) inv.grained
          (subst (λ n. C.IsMultiple n (block_end c.in-Some.block - c.run_begin.result)) grain (multiple_less c.loop-block.blocks.grain (block_end c.in-Some.block) c.run_begin.result run.grained.1 run.grained.0));
      moved = let total = inv.moved in let same = ap (C.moved_between l.blocks) list in omega (arith, total, same, step);
      small = let h = inv.small in omega arith;
      written = let h = inv.written in let k = c.lift.ensures.written in let wide = c.from-moved.ensures in omega (arith, h, k, wide);
      contents = c.lift.ensures.contents ∙ inv.contents;
      rest = let lo = inv.bounds.1 in let hi = inv.bounds.2 in leaves_more inv.rest c.lift.ensures.rest (omega arith) (omega arith);
    }

module _ (g : Given.Over) (c : goal.In_default g) where
  list : c.loop-block.blocks.blocks ≡ C.raised c.args.low c.args.high c.args.blocks.now.blocks
  list =
      let l = c.args.blocks.now in let inv = c.loop-block.invariant in
      inv.list ∙ M.raised_all l.blocks c.args.low c.loop-block.from c.args.high inv.low l.blocks (subst (C.AllByRecursion (λ b. (b.at < c.args.low) ⊎ (c.loop-block.from ≤ b.at))) inv.list c.in_default.ensures.value)

pub returns-clause-blocks : goal.returns-clause-blocks
returns-clause-blocks g c =
    let bounds = c.loop-block.invariant.bounds in let e = list g c in
    λ i. record { cap = bounds.0 i; lo = bounds.1 i; hi = bounds.2 i; grain = bounds.3 i; blocks = e i }

pub returns-clause-slid : goal.returns-clause-slid
returns-clause-slid g c =
    let l = c.args.blocks.now in
    subst (C.AreSlid _) (sym (list g c)) (M.slid_raised l.blocks c.args.low c.args.high l.lo l.hi _ c.reveal_order.ensures.laid c.requires.gap.loose)
