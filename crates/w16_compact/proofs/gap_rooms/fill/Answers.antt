use Rattle.w16_compact.proofs
use proofs.Skips as M
use proofs.Common.{◌≡◌, ◌+◌, ◌-◌, ◌<◌, ℕ, length, max, not, filter, arith, refl, sym, ap, ◌∙◌, subst, Block, Span, room, is_about}
use proofs.Filled.{IsFilled, fill_start, fill_skipped, fill_loose, fill_pinned, fill_ended}
use proofs.{OnePass.ord_max-max, ByAddress.all_left, ByAddress.may_begin, Skips.rest_is}
use Rattle.w16_compact.proofs.gap_rooms.fill.Goals as goal

pub loop-block-init : goal.loop-block-init
loop-block-init g c =
    let l = c.args.blocks.now in let it = c.into_iter-block-iterator.result in let h = c.args.h in
    let is = c.into_iter-block-iterator.ensures.into_iter_gives in
    let same = ap (λ x. x.blocks.now) is ∙ c.by_address-block-items.ensures.blocks in
    let space = ap (λ x. x.space.now) is ∙ c.by_address-block-items.ensures.space in
    let first = ap (λ x. x.from) is ∙ c.by_address-block-items.ensures.from in
    let low = ap (λ s. s.from) c.bounds-bounds.ensures.value in
    let left = all_left l it.blocks.now it.from same first in
    record {
      may = may_begin g.H.Holes.are_in l it.blocks.now (g.S.Space.bytes c.args.space.now) (g.S.Space.bytes it.space.now) same (ap g.S.Space.bytes space) c.requires.kept;
      ends = tt;
      passed = (
        0,
        left,
        subst (λ s. M.IsPassed (λ x. not (is_about h x.id)) l.hi l.blocks (room l.lo l.hi (filter (λ x. not (is_about h x.id)) l.blocks)) 0 0 s.from 0) (sym c.bounds-bounds.ensures.value)
            (M.passed_start (λ x. not (is_about h x.id)) l.lo l.hi l.blocks c.bounds-bounds.ensures.ordered.laid),
      );
      filled = subst (IsFilled (λ x. not (is_about h x.id)) l.lo l.hi l.cap l.blocks c.cap-gap.result c.bounds-bounds.result.from 0 c.args.gap_of.now c.args.rooms.now) left
          (fill_start (λ x. not (is_about h x.id)) l.lo l.hi l.cap l.blocks c.cap-gap.result c.bounds-bounds.result.from c.args.gap_of.now c.args.rooms.now c.cap-gap.ensures low c.bounds-bounds.ensures.ordered.named);
    }

pub loop-block-preserved-then-is_about : goal.loop-block-preserved-then-is_about
loop-block-preserved-then-is_about g c =
    let l = c.args.blocks.now in let now = c.loop-block.invariant in let p = λ (x : Block). not (is_about c.args.h x.id) in
    let here = now.passed.1 ∙ c.in-Some.ensures.steps in let on = c.in-Some.ensures.goes.on now.ends in
    let out = ap not (sym c.is_about.ensures ∙ c.if-is_about.true) in
    record {
      may = on.0;
      ends = on.1;
      passed = (now.passed.0 + 1, rest_is l.blocks c.in-Some.block _ now.passed.0 here, M.turn_skipped p l.hi l.blocks _ c.in-Some.block _ now.passed.0 here c.loop-block.most c.loop-block.reached now.passed.2 out);
      filled = fill_skipped p l.lo l.hi l.cap l.blocks c.in-Some.block _ c.loop-block.gap c.loop-block.reached c.loop-block.gap_of c.loop-block.rooms
          (subst (IsFilled p l.lo l.hi l.cap l.blocks c.loop-block.gap c.loop-block.reached.low c.loop-block.reached.loose c.loop-block.gap_of c.loop-block.rooms) c.in-Some.ensures.steps now.filled) out;
    }

-- the next block's id
pub bounds-gap_of-block : goal.bounds-gap_of-block
bounds-gap_of-block g c =
    let l = c.args.blocks.now in let now = c.loop-block.invariant in
    let lt = M.id_here l.cap l.blocks c.in-Some.block _ now.passed.0 (now.passed.1 ∙ c.in-Some.ensures.steps) c.bounds-bounds.ensures.ordered.named in
    let many = c.requires.gap_of in let long = c.loop-block.auto.gap_of in
    omega arith

pub loop-block-preserved-then-not-is_pinned : goal.loop-block-preserved-then-not-is_pinned
loop-block-preserved-then-not-is_pinned g c =
    let l = c.args.blocks.now in let now = c.loop-block.invariant in let p = λ (x : Block). not (is_about c.args.h x.id) in
    let here = now.passed.1 ∙ c.in-Some.ensures.steps in let on = c.in-Some.ensures.goes.on now.ends in
    let counted = ap not (sym c.is_about.ensures ∙ c.if-is_about.false) in
    let loose = sym c.is_pinned.ensures ∙ c.if-not-is_pinned.true in
    let lt : c.in-Some.block.id < length c.loop-block.gap_of = let many = c.requires.gap_of in let long = c.loop-block.auto.gap_of in
    let id = M.id_here l.cap l.blocks c.in-Some.block _ now.passed.0 here c.bounds-bounds.ensures.ordered.named in omega arith in
    record {
      may = on.0;
      ends = on.1;
      passed = (
        now.passed.0 + 1,
        rest_is l.blocks c.in-Some.block _ now.passed.0 here,
        M.turn_loose p l.hi l.blocks _ c.in-Some.block _ now.passed.0 here c.loop-block.most c.loop-block.reached now.passed.2 counted loose c.loop-block.most refl c.passing-reached.result c.passing-reached.ensures,
      );
      filled = fill_loose p l.lo l.hi l.cap l.blocks c.in-Some.block _ c.loop-block.gap c.loop-block.reached c.loop-block.gap_of c.loop-block.rooms
          (subst (IsFilled p l.lo l.hi l.cap l.blocks c.loop-block.gap c.loop-block.reached.low c.loop-block.reached.loose c.loop-block.gap_of c.loop-block.rooms) c.in-Some.ensures.steps now.filled)
          counted loose lt c.passing-reached.result c.passing-reached.ensures;
    }

pub loop-block-preserved : goal.loop-block-preserved
loop-block-preserved g c =
    let l = c.args.blocks.now in let now = c.loop-block.invariant in let p = λ (x : Block). not (is_about c.args.h x.id) in
    let here = now.passed.1 ∙ c.in-Some.ensures.steps in let on = c.in-Some.ensures.goes.on now.ends in
    let counted = ap not (sym c.is_about.ensures ∙ c.if-is_about.false) in
    let pinned = sym c.is_pinned.ensures ∙ c.if-not-is_pinned.false in
    let lt : c.loop-block.gap < length c.loop-block.rooms = let many = c.requires.rooms in let long = c.loop-block.auto.rooms in let known = now.filled.known in omega arith in
    record {
      may = on.0;
      ends = on.1;
      passed = (
        now.passed.0 + 1,
        rest_is l.blocks c.in-Some.block _ now.passed.0 here,
        M.turn_pinned p l.hi l.blocks _ c.in-Some.block _ now.passed.0 here c.loop-block.most c.loop-block.reached now.passed.2 counted pinned c.max-most.result
            (c.max-most.ensures ∙ ord_max-max c.loop-block.most _ ∙ ap (max c.loop-block.most) c.room_to-room.ensures) c.passing-reached-in-loop-block.result c.passing-reached-in-loop-block.ensures,
      );
      filled = fill_pinned p l.lo l.hi l.cap l.blocks c.in-Some.block _ c.loop-block.gap c.loop-block.reached c.loop-block.gap_of c.loop-block.rooms
          (subst (IsFilled p l.lo l.hi l.cap l.blocks c.loop-block.gap c.loop-block.reached.low c.loop-block.reached.loose c.loop-block.gap_of c.loop-block.rooms) c.in-Some.ensures.steps now.filled)
          counted pinned lt (M.reaches_now p l.hi l.blocks _ c.in-Some.block _ now.passed.0 here c.loop-block.most c.loop-block.reached now.passed.2) c.room_to-room.result c.room_to-room.ensures c.passing-reached-in-loop-block.result c.passing-reached-in-loop-block.ensures;
    }

-- behind the last block
pub returns-clause-value : goal.returns-clause-value
returns-clause-value g c =
    let l = c.args.blocks.now in let now = c.loop-block.invariant in let r = c.loop-block.reached in
    let to = ap (λ s. s.to) c.bounds-bounds.ensures.value in
    let last = c.room_to-room-2.ensures ∙ ap (λ k. k - r.low - r.loose) to in
    let best = c.max.ensures ∙ ap (λ k. max c.loop-block.most k) last in
    M.passed_end (λ x. not (is_about c.args.h x.id)) l.hi l.blocks _ now.passed.0 (now.passed.1 ∙ c.in-None.ensures.steps.0) c.loop-block.most r now.passed.2 c.max.result best

pub returns-clause-told : goal.returns-clause-told
returns-clause-told g c =
    let l = c.args.blocks.now in let now = c.loop-block.invariant in let p = λ (x : Block). not (is_about c.args.h x.id) in
    let to = ap (λ s. s.to) c.bounds-bounds.ensures.value in
    let none = now.passed.1 ∙ c.in-None.ensures.steps.0 in
    let lt : c.loop-block.gap < length c.loop-block.rooms = let many = c.requires.rooms in let long = c.loop-block.auto.rooms in let known = now.filled.known in omega arith in
    fill_ended p l.lo l.hi l.cap l.blocks c.loop-block.gap c.loop-block.reached.low c.loop-block.reached.loose c.loop-block.gap_of c.loop-block.rooms _ c.room_to-room-2.result _ c.in-None.ensures.steps.0 now.filled
    (M.ends_now_all p l.hi l.blocks _ now.passed.0 none c.loop-block.most c.loop-block.reached now.passed.2) lt (c.room_to-room-2.ensures ∙ ap (λ k. k - c.loop-block.reached.low - c.loop-block.reached.loose) to) refl

-- the next block's place and the bytes before it
pub passing-reached-requires : goal.passing-reached-requires
passing-reached-requires g c =
    let l = c.args.blocks.now in let now = c.loop-block.invariant in
    let fits = M.fits_now (λ x. not (is_about c.args.h x.id)) l.hi l.blocks _ c.in-Some.block _ now.passed.0 (now.passed.1 ∙ c.in-Some.ensures.steps) c.loop-block.most c.loop-block.reached now.passed.2 c.bounds-bounds.ensures.ordered.small in
    record { end = fits.0; sum = fits.1 }

pub passing-reached-requires-in-loop-block : goal.passing-reached-requires-in-loop-block
passing-reached-requires-in-loop-block g c =
    let l = c.args.blocks.now in let now = c.loop-block.invariant in
    let fits = M.fits_now (λ x. not (is_about c.args.h x.id)) l.hi l.blocks _ c.in-Some.block _ now.passed.0 (now.passed.1 ∙ c.in-Some.ensures.steps) c.loop-block.most c.loop-block.reached now.passed.2 c.bounds-bounds.ensures.ordered.small in
    record { end = fits.0; sum = fits.1 }

pub room_to-room-requires : goal.room_to-room-requires
room_to-room-requires g c =
    let l = c.args.blocks.now in let now = c.loop-block.invariant in
    M.reaches_now (λ x. not (is_about c.args.h x.id)) l.hi l.blocks _ c.in-Some.block _ now.passed.0 (now.passed.1 ∙ c.in-Some.ensures.steps) c.loop-block.most c.loop-block.reached now.passed.2

pub bounds-rooms-gap : goal.bounds-rooms-gap
bounds-rooms-gap g c = let many = c.requires.rooms in let long = c.loop-block.auto.rooms in let known = c.loop-block.invariant.filled.known in omega arith
