use Rattle.w16_local.proofs.Common.{ap, arith, inl, inr, ◌∙◌, cases_lt, moved_bytes, heap_in, counted, Compact}
use Rattle.w16_local.proofs.OneAct.{compact_acted, compact_bound, compact_kept, may_shown}
use Rattle.w16_local.proofs.heap.LocalHeap.compact.Goals as goal

pub compact-requires : goal.compact-requires
compact-requires g c = record { memory = record { kept = tt; inside = (may_shown c.self.view_is (g.S.Space.bytes c.args.space.now) (Compact c.args.size) c.requires).0 } }

pub overflow_cast-result : goal.overflow_cast-result
overflow_cast-result g c = elim (cases_lt 0 c.compact.result.room) [
  | inl some ↦ let bound = compact_bound _ _ c.args.size c.compact.result.room c.compact.ensures.fewest some in let high = c.self.invariant.is_local.high in let low = c.self.invariant.is_local.low in omega (arith, bound, high, low)
  | inr none ↦ omega (arith, none)
]

pub invariant_of-self : goal.invariant_of-self
invariant_of-self g c =
    let may = may_shown c.self.view_is (g.S.Space.bytes c.args.space.now) (Compact c.args.size) c.requires in
    compact_kept c.self.invariant (g.S.Space.bytes c.args.space.now) may.0 c.reveal_bytes.ensures c.compact.ensures.rest.range (g.S.Space.bytes c.compact.new.space) c.compact.ensures.rest.memory.bytes.long c.args.size c.compact.result.room c.compact.ensures.compacted

pub returns-clause-acted : goal.returns-clause-acted
returns-clause-acted g c =
    let may = may_shown c.self.view_is (g.S.Space.bytes c.args.space.now) (Compact c.args.size) c.requires in
    compact_acted c.self.view_is (g.S.Space.bytes c.args.space.now) c.compact.new.self.table (g.S.Space.bytes c.compact.new.space) c.compact.ensures.rest.range c.compact.ensures.rest.memory.bytes.outside
    c.self.invariant.is_local.sound may.0 c.args.size c.compact.result.room c.compact.ensures.compacted (λ e. ap g.S.Space.bytes (c.compact.ensures.none e).1)

pub returns-clause-written : goal.returns-clause-written
returns-clause-written g c =
    let next = heap_in c.compact.new.self.table (g.S.Space.bytes c.compact.new.space) in
    c.compact.ensures.written ∙ ap (counted (g.S.Space.written c.args.space.now)) (c.compact.ensures.slid.moved ∙ ap (λ t. moved_bytes (heap_in t (g.S.Space.bytes c.args.space.now)) next) c.self.view_is)
