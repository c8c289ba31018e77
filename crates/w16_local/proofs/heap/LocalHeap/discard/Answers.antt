use Rattle.w16_local.proofs.Common.{ap, is_ok, sym, ◌∙◌, false≢true, Discard}
use Rattle.w16_local.proofs.OneAct.{discard_done, discard_kept, may_shown}
use Rattle.w16_local.proofs.heap.LocalHeap.discard.Goals as goal

pub discard-requires : goal.discard-requires
discard-requires g c = record { memory = record { kept = tt; inside = (may_shown c.self.view_is (g.S.Space.bytes c.args.space.now) (Discard c.args.id) c.requires).0 } }

pub unreachable-requires : goal.unreachable-requires
unreachable-requires g c =
    let may = may_shown c.self.view_is (g.S.Space.bytes c.args.space.now) (Discard c.args.id) c.requires in
    false≢true (sym (ap is_ok (c.in-Err.ensures.err.1.heaps (g.S.Space.bytes c.args.space.now) may.0)) ∙ may.1)

pub invariant_of-self : goal.invariant_of-self
invariant_of-self g c =
    let may = may_shown c.self.view_is (g.S.Space.bytes c.args.space.now) (Discard c.args.id) c.requires in
    discard_kept c.self.invariant (g.S.Space.bytes c.args.space.now) may.0 c.in-Ok.ensures.ok.range c.args.id (c.in-Ok.ensures.ok.heaps (g.S.Space.bytes c.args.space.now) may.0)

pub returns-clause-acted : goal.returns-clause-acted
returns-clause-acted g c =
    let may = may_shown c.self.view_is (g.S.Space.bytes c.args.space.now) (Discard c.args.id) c.requires in
    discard_done c.self.view_is (g.S.Space.bytes c.args.space.now) c.discard.new.self.table
    (g.S.Space.bytes c.discard.new.space) c.in-Ok.ensures.ok.range c.discard.ensures.bytes.rest.bytes.outside
    c.discard.ensures.bytes.contents c.args.id (c.in-Ok.ensures.ok.heaps (g.S.Space.bytes c.args.space.now) may.0)

pub returns-clause-written : goal.returns-clause-written
returns-clause-written g c = c.discard.ensures.bytes.count
