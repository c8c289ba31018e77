use Rattle.w16_arena.proofs.Common.{ℕ, ◌≡◌, ◌-◌, length, drop}
use Rattle.std.proofs.Common.{vec_capacity}
use Rattle.w16_arena.proofs.Oldest.{AreListed}
use Rattle.w16_arena.proofs.discards.list_eligible.Given as goal

abbrev pub invariant-loop-id : goal.invariant-loop-id
invariant-loop-id g l =
    let ids = l.id-iterator.order.now.ids in let rest = drop (length ids - l.id-iterator.left) ids in
    record {
      may : (goal.iterator-loop-id g).can_next l.id-iterator;
      ends : (goal.iterator-loop-id g).is_finite l.id-iterator;
      from : (i : ℕ) × (drop i l.order.ids ≡ rest);
      room : vec_capacity l.listed ≡ vec_capacity l.fn.listed;
      listed : AreListed l.blocks.blocks l.order.ids l.h l.k l.listed.items rest;
    }
