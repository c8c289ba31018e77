use Rattle.w16_compact.proofs.Common.{ℕ, ◌≡◌, ◌-◌, ◌<◌, ◌≤◌, length, drop, eligible, room_for, snapshot}
use Rattle.w16_compact.proofs.Widened.{IsReached}
use Rattle.w16_compact.proofs.prefix.search.Given as goal

abbrev pub invariant-loop-id : goal.invariant-loop-id
invariant-loop-id g l =
    let ids = l.id-iterator.order.now.ids in let rest = drop (length ids - l.id-iterator.left) ids in
    let b = l.fn.blocks in
    record {
      may : (goal.iterator-loop-id g).can_next l.id-iterator;
      ends : (goal.iterator-loop-id g).is_finite l.id-iterator;
      from : (i : ℕ) × (drop i l.fn.order.ids ≡ rest);
      next : eligible b.blocks rest l.fn.h ≡ drop l.discards (eligible b.blocks l.fn.order.ids l.fn.h);
      within : l.discards ≤ l.fn.most;
      reached : IsReached b l.fn.order.ids l.fn.h l.gap_of l.discards l.room l.rooms;
      fewer : (k : ℕ) → k < l.discards → room_for (snapshot b.lo b.hi b.blocks l.fn.order.ids) k l.fn.h < l.fn.n;
    }
