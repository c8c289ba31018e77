use Rattle.w16_arena.proofs.Oldest as M
use Rattle.w16_arena.proofs.Common.{suc, ◌≡◌, ◌-◌, ◌∙◌, length, drop, ap, sym, slice_get, arith, all_left, below_cap, rest_after}
use Rattle.w16_arena.proofs.discards.list_eligible.Goals as goal

pub loop-id-init : goal.loop-id-init
loop-id-init g c =
    let it = c.into_iter-id-iterator.result in let uses = c.args.order.now in
    let is = c.into_iter-id-iterator.ensures.into_iter_gives in
    let order = ap (λ x. x.order.now) is ∙ c.oldest_first-id-items.ensures.order in
    let left = ap (λ x. x.left) is ∙ c.oldest_first-id-items.ensures.left in
    let next = ap (λ x. x.next) is ∙ c.oldest_first-id-items.ensures.next in
    let start = all_left _ uses it.left it.next order left next in
    record { may = start.0; ends = tt; from = (0, sym start.1); room = c.clear.ensures.capacity; listed = M.listed_none _ _ _ _ _ _ c.clear.ensures.items start.1 }

pub is_eligible-requires : goal.is_eligible-requires
is_eligible-requires g c =
    let from = c.loop-id.invariant.from in
    below_cap _ c.args.order.now from.0 _ _ c.oldest_first-id-items.ensures.uses c.requires.ids (from.1 ∙ c.in-Some.ensures.steps)

pub returns-then-len-k-clause-listed : goal.returns-then-len-k-clause-listed
returns-then-len-k-clause-listed g c = let now = c.loop-id in let len = now.listed.ok.0 in let full = c.if-len-k.true in let told = c.len.ensures in
    M.listed_full c.args.blocks.now.blocks c.args.order.now.ids c.args.h c.args.k _ _ now.invariant.listed (omega arith)

pub push_reserved-requires : goal.push_reserved-requires
push_reserved-requires g c =
    let now = c.loop-id in let len = now.listed.ok.0 in let told = c.len.ensures in let more = c.if-len-k.false in let room = c.requires.room in let same = now.invariant.room in
    let fits = M.listed_fits c.args.blocks.now.blocks c.args.order.now.ids c.args.h c.args.k now.listed.items c.in-Some.id _ _ c.in-Some.ensures.steps now.invariant.listed (sym c.is_eligible.ensures ∙ c.if-is_eligible.true) (omega arith) in
    omega arith

pub loop-id-preserved-then-is_eligible : goal.loop-id-preserved-then-is_eligible
loop-id-preserved-then-is_eligible g c =
    let now = c.loop-id in let on = c.in-Some.ensures.goes.on _ in let it = c.next.new.self in let later = drop (length _ - it.left) it.order.now.ids in
    let len = now.listed.ok.0 in let told = c.len.ensures in let more = c.if-len-k.false in
    record {
      may = on.0;
      ends = on.1;
      from = (suc now.invariant.from.0, rest_after c.args.order.now.ids now.invariant.from.0 c.in-Some.id later (now.invariant.from.1 ∙ c.in-Some.ensures.steps));
      room = c.push_reserved.ensures.capacity ∙ now.invariant.room;
      listed = M.listed_more _ _ _ _ now.listed.items
          c.in-Some.id later _ c.in-Some.ensures.steps now.invariant.listed
          (sym c.is_eligible.ensures ∙ c.if-is_eligible.true) (omega arith) _
          c.push_reserved.ensures.items;
    }

pub loop-id-preserved : goal.loop-id-preserved
loop-id-preserved g c =
    let now = c.loop-id in let on = c.in-Some.ensures.goes.on _ in let it = c.next.new.self in let later = drop (length _ - it.left) it.order.now.ids in
    record {
      may = on.0;
      ends = on.1;
      from = (suc now.invariant.from.0, rest_after c.args.order.now.ids now.invariant.from.0 c.in-Some.id later (now.invariant.from.1 ∙ c.in-Some.ensures.steps));
      room = now.invariant.room;
      listed = M.listed_past _ _ _ _ _ c.in-Some.id later _ c.in-Some.ensures.steps now.invariant.listed (sym c.is_eligible.ensures ∙ c.if-is_eligible.false);
    }

pub returns-clause-listed : goal.returns-clause-listed
returns-clause-listed g c = M.listed_end c.args.blocks.now.blocks c.args.order.now.ids c.args.h c.args.k _ _ c.loop-id.invariant.listed c.in-None.ensures.steps.0
