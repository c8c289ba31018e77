use Rattle.w16_compact.proofs
use proofs.Skips as M
use proofs.Common.{◌≡◌, ◌+◌, ◌-◌, ℕ, max, nat_le, filter, arith, refl, sym, ap, ◌∙◌, subst, Span, room, laid_later, IsGrained, IsMultiple, multiple_sum}
use proofs.Stays.{seen, stays, goes_for, laid_seen, seen_none, reaches, turn_out, turn_sliding, turn_still, prefix_is}
use proofs.{OnePass.ord_max-max, ByAddress.all_left, ByAddress.may_begin, Skips.rest_is}
use Rattle.w16_compact.proofs.stretch.stretch_for.Goals as goal

pub loop-block-init : goal.loop-block-init
loop-block-init g c =
    let l = c.args.blocks.now in let it = c.into_iter-block-iterator.result in let o = c.args.options in
    let p = stays o.compact (goes_for l.blocks c.args.order.now.ids c.args.h o.discard) in let xs = seen o.compact l.blocks in
    let is = c.into_iter-block-iterator.ensures.into_iter_gives in
    let same = ap (λ x. x.blocks.now) is ∙ c.by_address-block-items.ensures.blocks in
    let space = ap (λ x. x.space.now) is ∙ c.by_address-block-items.ensures.space in
    let first = ap (λ x. x.from) is ∙ c.by_address-block-items.ensures.from in
    record {
      may = may_begin g.H.Holes.are_in l it.blocks.now (g.S.Space.bytes c.args.space.now) (g.S.Space.bytes it.space.now) same (ap g.S.Space.bytes space) c.requires;
      ends = tt;
      passed = (
        0,
        all_left l it.blocks.now it.from same first,
        λ end le.
            subst (λ s. M.IsPassed p end xs (room l.lo end (filter p xs)) 0 0 s.from 0) (sym c.bounds-bounds.ensures.value)
            (M.passed_start p l.lo end xs (laid_seen o.compact l.lo end l.blocks (laid_later l.lo l.hi end l.blocks c.bounds-bounds.ensures.ordered.laid le))),
      );
      grained = (subst (λ s. IsMultiple l.grain s.from) (sym c.bounds-bounds.ensures.value) c.bounds-bounds.ensures.ordered.from, M.no_grain l.grain);
    }

pub is_left_out-requires : goal.is_left_out-requires
is_left_out-requires g c =
    let l = c.args.blocks.now in let now = c.loop-block.invariant in
    M.id_here l.cap l.blocks c.in-Some.block _ now.passed.0 (now.passed.1 ∙ c.in-Some.ensures.steps) c.bounds-bounds.ensures.ordered.named

pub loop-block-preserved-then-is_left_out : goal.loop-block-preserved-then-is_left_out
loop-block-preserved-then-is_left_out g c =
    let l = c.args.blocks.now in let now = c.loop-block.invariant in let o = c.args.options in let goes = goes_for _ _ _ _ in
    let here = now.passed.1 ∙ c.in-Some.ensures.steps in let on = c.in-Some.ensures.goes.on _ in
    record {
      may = on.0;
      ends = on.1;
      passed = (
        now.passed.0 + 1,
        rest_is l.blocks _ _ now.passed.0 here,
        λ end le.
            turn_out goes end _ _ _ _ _ here _ _ _ (sym c.is_left_out.ensures ∙ c.if-is_left_out.true) (now.passed.2 end le),
      );
      grained = now.grained;
    }

-- the next block's place, and the bytes before it
pub passing-reached-requires : goal.passing-reached-requires
passing-reached-requires g c =
    let l = c.args.blocks.now in let now = c.loop-block.invariant in let o = c.args.options in
    let r = reaches (goes_for _ _ _ _) l.hi _ l.blocks c.in-Some.block _ now.passed.0 (now.passed.1 ∙ c.in-Some.ensures.steps) c.loop-block.most c.loop-block.reached o.compact (now.passed.2 l.hi (omega arith)) in
    let small = c.bounds-bounds.ensures.ordered.small in let from = r.0 in let to = r.1 in
    record { end = omega arith; sum = omega arith }

pub loop-block-preserved-then-may_slide : goal.loop-block-preserved-then-may_slide
loop-block-preserved-then-may_slide g c =
    let l = c.args.blocks.now in let now = c.loop-block.invariant in let o = c.args.options in let goes = goes_for _ _ _ _ in
    let here = now.passed.1 ∙ c.in-Some.ensures.steps in let on = c.in-Some.ensures.goes.on _ in
    record {
      may = on.0;
      ends = on.1;
      passed = (
        now.passed.0 + 1,
        rest_is l.blocks _ _ now.passed.0 here,
        λ end le.
            turn_sliding goes end _ _ _ _ _ here _ c.loop-block.reached _ (sym c.is_left_out.ensures ∙ c.if-is_left_out.false) (sym c.may_slide.ensures ∙ c.if-may_slide.true)
            _ c.passing-reached.ensures (now.passed.2 end le),
      );
      grained = M.passed_grained l.grain c.loop-block.reached _ c.in-Some.block (M.each_here (IsGrained l.grain) l.blocks _ _ now.passed.0 here c.bounds-bounds.ensures.ordered.grained) now.grained c.passing-reached.ensures;
    }

pub room_to-requires : goal.room_to-requires
room_to-requires g c =
    let l = c.args.blocks.now in let now = c.loop-block.invariant in let o = c.args.options in
    (reaches (goes_for _ _ _ _) l.hi _ l.blocks c.in-Some.block _ now.passed.0 (now.passed.1 ∙ c.in-Some.ensures.steps) c.loop-block.most _ o.compact (now.passed.2 l.hi (omega arith))).0

pub overflow_add-reached : goal.overflow_add-reached
overflow_add-reached g c =
    let l = c.args.blocks.now in let now = c.loop-block.invariant in let o = c.args.options in
    let r = reaches (goes_for _ _ _ _) l.hi _ l.blocks c.in-Some.block _ now.passed.0 (now.passed.1 ∙ c.in-Some.ensures.steps) c.loop-block.most c.loop-block.reached o.compact (now.passed.2 l.hi (omega arith)) in
    let small = c.bounds-bounds.ensures.ordered.small in let to = r.1 in record { fits = omega arith }

pub loop-block-preserved : goal.loop-block-preserved
loop-block-preserved g c =
    let l = c.args.blocks.now in let now = c.loop-block.invariant in let o = c.args.options in let goes = goes_for _ _ _ _ in
    let here = now.passed.1 ∙ c.in-Some.ensures.steps in let on = c.in-Some.ensures.goes.on _ in
    let most = c.max-most.ensures ∙ ord_max-max c.loop-block.most _ ∙ ap (max _) c.room_to.ensures in
    record {
      may = on.0;
      ends = on.1;
      passed = (
        now.passed.0 + 1,
        rest_is l.blocks _ _ now.passed.0 here,
        λ end le.
            turn_still goes end _ _ _ _ _ here c.loop-block.most c.loop-block.reached _ (sym c.is_left_out.ensures ∙ c.if-is_left_out.false) (sym c.may_slide.ensures ∙ c.if-may_slide.false)
            _ most (now.passed.2 end le),
      );
      grained = let fits = M.each_here (IsGrained l.grain) l.blocks c.in-Some.block _ now.passed.0 here c.bounds-bounds.ensures.ordered.grained in (multiple_sum l.grain _ _ fits.0 fits.1, M.no_grain l.grain);
    }

-- behind the last block
pub room_to-requires-2 : goal.room_to-requires-2
room_to-requires-2 g c =
    let l = c.args.blocks.now in let now = c.loop-block.invariant in let o = c.args.options in
    let p = stays o.compact (goes_for _ _ _ _) in
    let to = ap (λ s. s.to) c.bounds-bounds.ensures.value in
    let le = M.ends_now_all p l.hi (seen o.compact l.blocks) _ now.passed.0 (seen_none o.compact l.blocks now.passed.0 (now.passed.1 ∙ c.in-None.ensures.steps.0)) c.loop-block.most c.loop-block.reached (now.passed.2 l.hi (omega arith)) in
    omega arith

pub overflow_add-result : goal.overflow_add-result
overflow_add-result g c =
    let l = c.args.blocks.now in let now = c.loop-block.invariant in let o = c.args.options in
    let p = stays o.compact (goes_for _ _ _ _) in
    let le = M.ends_now_all p l.hi (seen o.compact l.blocks) _ now.passed.0 (seen_none o.compact l.blocks now.passed.0 (now.passed.1 ∙ c.in-None.ensures.steps.0)) c.loop-block.most c.loop-block.reached (now.passed.2 l.hi (omega arith)) in
    let small = c.bounds-bounds.ensures.ordered.small in record { fits = omega arith }

pub returns-clause-value : goal.returns-clause-value
returns-clause-value g c = λ end n le.
    let l = c.args.blocks.now in let now = c.loop-block.invariant in let o = c.args.options in let r = c.loop-block.reached in
    let p = stays o.compact (goes_for _ _ _ _) in let xs = seen o.compact l.blocks in
    let none = seen_none o.compact l.blocks now.passed.0 (now.passed.1 ∙ c.in-None.ensures.steps.0) in
    let whole = M.passed_end p end xs _ now.passed.0 none c.loop-block.most r (now.passed.2 end le) (max _ _) refl in
    let to = ap (λ s. s.to) c.bounds-bounds.ensures.value in
    let last = c.room_to-2.ensures ∙ ap (λ k. k - r.low - r.loose) to in
    let best = c.max.ensures ∙ ap (λ k. max c.loop-block.most k) last in
    let at : max c.max.result (end - (r.low + r.loose)) ≡ max c.loop-block.most (end - r.low - r.loose) = omega arith in
    ap (nat_le n) (at ∙ whole) ∙ sym (prefix_is l.lo end _ _ n _ o)

pub returns-clause-grained : goal.returns-clause-grained
returns-clause-grained g c = let reached = c.loop-block.invariant.grained in multiple_sum _ _ _ reached.0 reached.1
