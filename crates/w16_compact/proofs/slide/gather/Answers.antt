use Rattle.w16_compact.proofs
use proofs.Common as C
use proofs.Gathering as M
use proofs.Common.{◌≡◌, ◌≢◌, ◌+◌, ◌-◌, refl, sym, ◌∙◌, ap, subst, arith, Span, Layout}
use proofs.Cleared.{slid_gathered, clear_gathered, hole_gathered, alone_gathered}
use proofs.{Rests.leaves_more, Rests.rest_same, Order.each_got, Gathering.above, Gathering.cuts}
use Rattle.w16_compact.proofs.slide.gather.Given as Given
use Rattle.w16_compact.proofs.slide.gather.Goals as goal

pub loop-block-init : goal.loop-block-init
loop-block-init g c =
    let l = c.args.blocks.now in let gap = c.requires.gap in
    record {
      bounds = (refl, refl, refl, refl);
      ordered = c.reveal_order.ensures;
      list = refl;
      settled = c.packed_to-to.ensures.run;
      high = c.packed_to-to.ensures.high;
      fits = gap.loose;
      stay = M.kept_start _ _;
      moved = sym (M.moved_same _);
      small = omega arith;
      written = omega arith;
      contents = refl;
      rest = record { kept = c.requires.memory.kept; bytes = rest_same _ _ _; loans = refl };
    }

pub settle-requires-clause-part : goal.settle-requires-clause-part
settle-requires-clause-part g c =
    let inv = c.loop-block.invariant in let lt = c.in-Some.ensures.value.1 in
    let up = above c.loop-block.blocks inv.ordered c.args.low c.args.high _ c.in-Some.block c.in-Some.ensures.value.0 inv.fits c.requires.gap.inside.1 inv.settled in
    let low = inv.settled.inside.0 in let from = inv.settled.inside.1 in let hi = inv.bounds.2 in let top = c.requires.gap.inside.2 in
    (omega arith, up, lt, omega arith)

pub settle-requires-clause-grained : goal.settle-requires-clause-grained
settle-requires-clause-grained g c =
    let inv = c.loop-block.invariant in
    (M.grained_at c.loop-block.blocks inv.ordered c.args.low c.args.high c.loop-block.to c.in-Some.block c.in-Some.ensures.value.0 inv.fits c.requires.gap.inside.1 inv.settled, inv.settled.grained.1)

pub settle-requires-clause-whole : goal.settle-requires-clause-whole
settle-requires-clause-whole g c =
    let inv = c.loop-block.invariant in
    cuts c.loop-block.blocks inv.ordered c.args.low _ c.loop-block.to c.in-Some.block c.in-Some.ensures.value.0 inv.fits c.requires.gap.inside.1 inv.settled

pub settle-requires-clause-begins : goal.settle-requires-clause-begins
settle-requires-clause-begins g c = λ none. each_got (λ b. b.at ≢ c.in-Some.block.at) _ _ c.in-Some.block c.in-Some.ensures.value.0 none refl

pub settle-requires-clause-bare : goal.settle-requires-clause-bare
settle-requires-clause-bare g c =
    let inv = c.loop-block.invariant in
    M.bare_to c.loop-block.blocks inv.ordered c.args.low c.args.high _ c.in-Some.block c.in-Some.ensures.value.0 inv.fits c.requires.gap.inside.1 inv.settled

pub overflow_add-to : goal.overflow_add-to
overflow_add-to g c =
    let inv = c.loop-block.invariant in
    let up = above c.loop-block.blocks inv.ordered c.args.low c.args.high c.loop-block.to c.in-Some.block c.in-Some.ensures.value.0 inv.fits c.requires.gap.inside.1 inv.settled in
    let end = c.settle.ensures.run.inside.2 in let small = inv.ordered.small in let from = c.settle.ensures.run.inside.1 in
    record { fits = omega arith }

pub loop-block-smaller : goal.loop-block-smaller
loop-block-smaller g c =
    let inv = c.loop-block.invariant in
    let up = above c.loop-block.blocks inv.ordered c.args.low c.args.high c.loop-block.to c.in-Some.block c.in-Some.ensures.value.0 inv.fits c.requires.gap.inside.1 inv.settled in
    let some = M.some_run c.loop-block.blocks c.args.high c.settle.result _ c.in-Some.block c.in-Some.ensures.value.0 c.in-Some.ensures.value.1 c.settle.ensures.run.inside.1 c.settle.ensures.last in
    let lt = c.in-Some.ensures.value.1 in omega arith

pub loop-block-preserved : goal.loop-block-preserved
loop-block-preserved g c =
    let l = c.loop-block.blocks in let inv = c.loop-block.invariant in let to = c.loop-block.to in let low = c.args.low in let high = c.args.high in
    let run : Span = record { from = c.in-Some.block.at; to = c.settle.result } in
    let up = above l inv.ordered low high to c.in-Some.block c.in-Some.ensures.value.0 inv.fits c.requires.gap.inside.1 inv.settled in
    let some = M.some_run l high c.settle.result _ c.in-Some.block c.in-Some.ensures.value.0 c.in-Some.ensures.value.1 c.settle.ensures.run.inside.1 c.settle.ensures.last in
    let bare = M.bare_to l inv.ordered low high to c.in-Some.block c.in-Some.ensures.value.0 inv.fits c.requires.gap.inside.1 inv.settled in
    let from = inv.settled.inside.1 in let top = c.settle.ensures.high in let is = c.settle.ensures.run in
    let new = c.settle.ensures.blocks in
    let list = ap (λ m. m.blocks) new in
    let r = c.from-moved.ensures ∙ c.moved_bytes.ensures in
    let step = M.moved_step l inv.ordered low high to run from up some top is bare c.args.blocks.now.blocks inv.stay c.from-moved.result r in
    let few = M.at_most c.from-moved.result run.from to (run.to - run.from) r in
    record {
      bounds = (ap (λ m. m.cap) new ∙ inv.bounds.0, ap (λ m. m.lo) new ∙ inv.bounds.1, ap (λ m. m.hi) new ∙ inv.bounds.2, ap (λ m. m.grain) new ∙ inv.bounds.3);
      ordered = c.settle.ensures.ordered;
      list = ap (C.gathered low high) list ∙ M.list_then l inv.ordered low high to run from up some top is bare ∙ inv.list;
      settled = M.run_then l inv.ordered low high to run from up some top is bare c.settle.new.blocks c.settle.ensures.ordered new inv.settled;
      high = omega arith;
      fits = subst (C.AllByRecursion _) (sym list) (M.fits_then l inv.ordered low high to run from up some top is bare inv.fits);
      stay = subst (M.AreKept _ _) (sym list) (M.kept_then l inv.ordered low high to run from up some top is bare _ inv.stay);
      moved = let total = inv.moved in let same = ap (C.moved_between c.args.blocks.now.blocks) list in omega (arith, total, same, step);
      small = let h = inv.small in omega arith;
      written = let h = inv.written in let k = c.settle.ensures.written in let wide = c.from-moved.ensures in let own = c.moved_bytes.ensures in omega (arith, h, k, wide, own);
      contents = c.settle.ensures.contents ∙ inv.contents;
      rest = let lo = inv.bounds.1 in let hi = inv.bounds.2 in leaves_more inv.rest c.settle.ensures.rest (omega arith) (omega arith);
    }

module _ (g : Given.Over) (c : goal.In_default g) where
  list : c.loop-block.blocks.blocks ≡ C.gathered c.args.low c.args.high c.args.blocks.now.blocks
  list = M.list_end c.loop-block.blocks c.args.low c.args.high c.loop-block.to c.args.blocks.now.blocks c.loop-block.invariant.ordered c.loop-block.invariant.settled c.in_default.ensures.value c.loop-block.invariant.list

pub returns-clause-blocks : goal.returns-clause-blocks
returns-clause-blocks g c =
    let bounds = c.loop-block.invariant.bounds in let e = list g c in
    λ i. record { cap = bounds.0 i; lo = bounds.1 i; hi = bounds.2 i; grain = bounds.3 i; blocks = e i }

pub returns-clause-slid : goal.returns-clause-slid
returns-clause-slid g c =
    let l = c.args.blocks.now in
    subst (C.AreSlid _) (sym (list g c)) (slid_gathered c.args.low c.args.high l.lo l.hi l.blocks c.reveal_order.ensures.laid c.requires.gap.loose)

pub returns-clause-left : goal.returns-clause-left
returns-clause-left g c =
    let l = c.args.blocks.now in let low = c.args.low in let high = c.args.high in let free = low + C.loose_bytes l.blocks low high in let laid = c.reveal_order.ensures.laid in record {
      clear = subst (λ bs. C.IsClear _ l.lo l.hi bs free high) (sym (list g c)) (clear_gathered l low high laid c.requires.gap);
      hole = λ gap some. subst (λ bs. C.IsHole l.lo l.hi bs free high) (sym (list g c)) (hole_gathered l low high laid c.requires.gap gap some);
      alone = λ gap a b hole. alone_gathered l low high laid c.requires.gap gap a b (subst (λ bs. C.IsHole l.lo l.hi bs a b) (list g c) hole);
    }
