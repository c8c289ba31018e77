use Rattle.w16_compact.proofs
use proofs.Common.{ℕ, suc, List, ◌≡◌, ◌-◌, ◌<◌, inl, inr, length, drop, ap, sym, ◌∙◌, subst, arith, add-one, cases_lt, eligible, room_for, snapshot}
use proofs.Searched.{first_here, passed_here, room_past}
use proofs.Skips.{rest_after}
use proofs.Widened.{known_gap, fits_room, reached_next, once_each}
use Rattle.w16_compact.proofs.prefix.search.Goals as goal

pub loop-id-preserved-then-not-is_eligible : goal.loop-id-preserved-then-not-is_eligible
loop-id-preserved-then-not-is_eligible g c =
    let now = c.loop-id.invariant in let on = c.in-Some.ensures.goes.on _ in let it = c.next.new.self in
    let later = drop (length _ - it.left) it.order.now.ids in
    record {
      may = on.0;
      ends = on.1;
      from = (suc now.from.0, rest_after c.args.order.now.ids now.from.0 c.in-Some.id later (now.from.1 ∙ c.in-Some.ensures.steps));
      next = sym (passed_here _ _ c.in-Some.id later _ c.in-Some.ensures.steps (sym c.is_eligible.ensures ∙ c.if-not-is_eligible.true)) ∙ now.next;
      within = now.within;
      reached = now.reached;
      fewer = now.fewer;
    }

pub widen-requires-clause-gap : goal.widen-requires-clause-gap
widen-requires-clause-gap g c = λ b known.
    let now = c.loop-id.invariant in let l = c.args.blocks.now in let ids = c.args.order.now.ids in let h = c.args.h in let it = c.next.new.self in
    let goes = sym c.is_eligible.ensures ∙ c.if-not-is_eligible.false in
    let later = eligible l.blocks (drop (length _ - it.left) it.order.now.ids) h in
    let next = sym now.next ∙ first_here _ h _ _ _ c.in-Some.ensures.steps goes in
    let many : l.cap < length c.loop-id.rooms = let most = c.requires.rooms in let one = c.fill-room.auto.rooms in let long = c.loop-id.auto.rooms in omega arith in
    known_gap l ids h _ c.fill-room.ensures.ordered (once_each c.args.order.now c.oldest_first-id-items.ensures.uses) c.loop-id.discards c.loop-id.room _ now.reached _ later next goes many b known

pub widen-requires-clause-fits : goal.widen-requires-clause-fits
widen-requires-clause-fits g c = λ b known.
    let now = c.loop-id.invariant in let l = c.args.blocks.now in let ids = c.args.order.now.ids in let h = c.args.h in let it = c.next.new.self in
    let goes = sym c.is_eligible.ensures ∙ c.if-not-is_eligible.false in
    let later = eligible l.blocks (drop (length _ - it.left) it.order.now.ids) h in
    let next = sym now.next ∙ first_here l.blocks h c.in-Some.id _ _ c.in-Some.ensures.steps goes in
    let many : l.cap < length c.loop-id.rooms = let most = c.requires.rooms in let one = c.fill-room.auto.rooms in let long = c.loop-id.auto.rooms in omega arith in
    let fits = fits_room l ids h c.fill-room.new.gap_of c.fill-room.ensures.ordered (once_each c.args.order.now c.oldest_first-id-items.ensures.uses) c.loop-id.discards c.loop-id.room c.loop-id.rooms now.reached c.in-Some.id later next goes many b known in
    let small = c.fill-room.ensures.ordered.small in
    omega arith

pub loop-id-preserved : goal.loop-id-preserved
loop-id-preserved g c =
    let now = c.loop-id.invariant in let l = c.args.blocks.now in let ids = c.args.order.now.ids in let h = c.args.h in let it = c.next.new.self in
    let goes = sym c.is_eligible.ensures ∙ c.if-not-is_eligible.false in
    let later = eligible l.blocks (drop (length _ - it.left) it.order.now.ids) h in
    let next = sym now.next ∙ first_here l.blocks h c.in-Some.id _ _ c.in-Some.ensures.steps goes in
    let many : l.cap < length c.loop-id.rooms = let most = c.requires.rooms in let one = c.fill-room.auto.rooms in let long = c.loop-id.auto.rooms in omega arith in
    let on = c.in-Some.ensures.goes.on _ in
    record {
      may = on.0;
      ends = on.1;
      from = (suc now.from.0, rest_after ids now.from.0 c.in-Some.id _ (now.from.1 ∙ c.in-Some.ensures.steps));
      next = sym (ap (λ j. drop j (eligible l.blocks ids h)) (add-one _) ∙ rest_after (eligible _ ids h) c.loop-id.discards _ later next);
      within = let before = now.within in let some = c.if-discards-most.false in omega arith;
      reached = reached_next l ids h _ c.fill-room.ensures.ordered (once_each c.args.order.now c.oldest_first-id-items.ensures.uses) _ c.loop-id.room _ now.reached _ later next goes many
          c.widen.result _ c.widen.ensures _ c.max-room.ensures;
      fewer = λ k lt. elim (cases_lt k _) [
        | inl less ↦ now.fewer k less
        | inr more ↦
            let same : c.loop-id.discards ≡ k = omega arith in let here = now.reached.room_now in let wide = c.from.ensures in let short = c.if-n-from.false in
            subst (λ j. room_for (snapshot l.lo l.hi l.blocks ids) j h < c.args.n) same (omega arith)
      ];
    }

pub returns-clause-all : goal.returns-clause-all
returns-clause-all g c = λ _.
    let l = c.args.blocks.now in let now = c.loop-id.invariant in
    now.reached.room_now
    ∙ room_past l.lo l.hi l.blocks c.args.order.now.ids c.args.h c.loop-id.discards c.args.most now.within (sym now.next ∙ ap (λ ids. eligible l.blocks ids c.args.h) c.in-None.ensures.steps.0)
