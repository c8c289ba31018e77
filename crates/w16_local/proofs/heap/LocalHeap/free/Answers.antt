use Rattle.w16_local.proofs.Common.{ap, arith, is_ok, subst, sym, ◌∙◌, false≢true, LocalHeapInvariant, Free}
use Rattle.w16_local.proofs.OneAct.{entry_lt, free_done, free_kept, may_shown}
use Rattle.w16_local.proofs.heap.LocalHeap.free.Goals as goal

pub free-requires : goal.free-requires
free-requires g c = record { memory = record { kept = tt; inside = (may_shown c.self.view_is (g.S.Space.bytes c.args.space.now) (Free c.args.id) c.requires).0 } }

pub unreachable-requires : goal.unreachable-requires
unreachable-requires g c =
    let may = may_shown c.self.view_is (g.S.Space.bytes c.args.space.now) (Free c.args.id) c.requires in
    false≢true (sym (ap is_ok (c.in-Err.ensures.err.1.heaps (g.S.Space.bytes c.args.space.now) may.0)) ∙ may.1.1)

pub invariant_of-self : goal.invariant_of-self
invariant_of-self g c =
    let may = may_shown c.self.view_is (g.S.Space.bytes c.args.space.now) (Free c.args.id) c.requires in
    subst (λ free. LocalHeapInvariant c.free.new.self.table free) (sym c.set.ensures) (free_kept c.self.invariant (g.S.Space.bytes c.args.space.now) may.0 c.in-Ok.ensures.ok.range c.args.id may.1.0 (c.in-Ok.ensures.ok.heaps (g.S.Space.bytes c.args.space.now) may.0))

pub returns-clause-acted : goal.returns-clause-acted
returns-clause-acted g c =
    let may = may_shown c.self.view_is (g.S.Space.bytes c.args.space.now) (Free c.args.id) c.requires in
    free_done c.self.view_is (g.S.Space.bytes c.args.space.now) c.free.new.self.table (g.S.Space.bytes c.free.new.space) c.in-Ok.ensures.ok.range c.free.ensures.bytes.rest.bytes.outside c.free.ensures.bytes.contents c.args.id (c.in-Ok.ensures.ok.heaps (g.S.Space.bytes c.args.space.now) may.0)

pub set-requires : goal.set-requires
set-requires g c =
    let may = may_shown c.self.view_is (g.S.Space.bytes c.args.space.now) (Free c.args.id) c.requires in
    let lt = entry_lt c.self.invariant (g.S.Space.bytes c.args.space.now) may.0 c.args.id may.1.0 in
    let many = c.self.invariant.free_entries.many in
    omega (arith, lt, many)

pub returns-clause-written : goal.returns-clause-written
returns-clause-written g c = c.free.ensures.bytes.count
