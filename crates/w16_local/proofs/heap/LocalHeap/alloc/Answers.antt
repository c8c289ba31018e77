use Rattle.w16_local.proofs
use proofs.OneAct as M
use proofs.Common.{ap, if◌then◌else◌, inl, inr, subst, sym, ◌∙◌, moved_bytes, heap_in, counted, Acted, LocalHeapInvariant, Alloc}
use proofs.Entries.{is_local}
use proofs.OneAct.{absent, known, may_shown, on_err}
use Rattle.w16_local.proofs.heap.LocalHeap.alloc.Goals as goal

pub alloc-placed-requires : goal.alloc-placed-requires
alloc-placed-requires g c =
    let may = may_shown c.self.view_is (g.S.Space.bytes c.args.space.now) (Alloc c.args.id c.args.size c.args.kind c.args.options) c.requires in
    record {
      id = known c.self.invariant (g.S.Space.bytes c.args.space.now) may.0 c.args.id may.1.0.0;
      absent = absent
          c.self.invariant (g.S.Space.bytes c.args.space.now) may.0 c.args.id may.1.0.1;
      some = may.1.1.0;
      rounded =
          M.grained c.self.invariant (g.S.Space.bytes c.args.space.now) may.0 c.args.size may.1.1.1;
      memory = record
          { kept = tt; inside = may.0 };
    }

pub name_at-requires : goal.name_at-requires
name_at-requires g c = is_local c.self.invariant c.alloc-placed.ensures.rest.range

pub invariant_of-self : goal.invariant_of-self
invariant_of-self g c = let same = on_err c.alloc-placed.result _ (sym c.is_err.ensures.value ∙ c.if-is_err.true) c.alloc-placed.ensures.refused in subst (λ s. LocalHeapInvariant s.table c.self.inside.free) (sym same.0) c.self.invariant

pub returns-then-is_err-clause-acted : goal.returns-then-is_err-clause-acted
returns-then-is_err-clause-acted g c =
    let is = sym c.is_err.ensures.value ∙ c.if-is_err.true in
    let same = on_err c.alloc-placed.result _ is c.alloc-placed.ensures.refused in
    let rest = c.alloc-placed.ensures.rest in
    M.alloc_idle c.self.view_is (g.S.Space.bytes c.args.space.now) c.alloc-placed.new.self.table (g.S.Space.bytes c.alloc-placed.new.space) rest.range rest.memory.bytes.outside
    c.alloc-placed.result is (ap (λ s. s.table) same.0) (ap g.S.Space.bytes same.1) c.args.id c.args.size c.args.kind c.args.options c.alloc-placed.ensures.allocated

pub returns-clause-acted : goal.returns-clause-acted
returns-clause-acted g c =
    let bytes = g.S.Space.bytes c.args.space.now in
    let after = g.S.Space.bytes c.alloc-placed.new.space in
    let may = may_shown c.self.view_is bytes (Alloc c.args.id c.args.size c.args.kind c.args.options) c.requires in
    let is = sym c.is_err.ensures.value ∙ c.if-is_err.false in
    let rest = c.alloc-placed.ensures.rest in
    let over = M.over_after c.self.invariant bytes may.0 c.reveal_bytes.ensures rest.range after rest.memory.bytes.long c.reveal_bytes-2.ensures in
    subst (λ n. Acted (Alloc c.args.id c.args.size c.args.kind c.args.options) c.args.self.now bytes n c.alloc-placed.new.self.table after) (sym c.unwrap_or.ensures)
    (M.alloc_done c.self.view_is bytes c.alloc-placed.new.self.table after rest.range rest.memory.bytes.outside
    c.alloc-placed.result is (M.heap_after c.self.invariant bytes may.0 c.reveal_bytes.ensures rest.range after rest.memory.bytes.long c.reveal_bytes-2.ensures) c.args.id c.args.size c.alloc-placed.ensures.placed c.name_at.result (c.name_at.ensures after over)
    c.args.kind c.args.options c.alloc-placed.ensures.allocated)

pub invariant_of-self-2 : goal.invariant_of-self-2
invariant_of-self-2 g c =
    let may = may_shown c.self.view_is (g.S.Space.bytes c.args.space.now) (Alloc c.args.id c.args.size c.args.kind c.args.options) c.requires in
    subst (λ free. LocalHeapInvariant c.alloc-placed.new.self.table free) (sym c.set.ensures)
    (M.alloc_kept c.self.invariant (g.S.Space.bytes c.args.space.now) may.0 c.reveal_bytes.ensures c.alloc-placed.ensures.rest.range (g.S.Space.bytes c.alloc-placed.new.space) c.alloc-placed.ensures.rest.memory.bytes.long
    c.alloc-placed.result (sym c.is_err.ensures.value ∙ c.if-is_err.false) c.args.id c.args.size c.args.kind c.args.options may.1.0.0 c.alloc-placed.ensures.allocated c.alloc-placed.ensures.placed c.reveal_bytes-2.ensures)

pub returns-then-is_err-clause-written : goal.returns-then-is_err-clause-written
returns-then-is_err-clause-written g c =
    let same = on_err c.alloc-placed.result _ (sym c.is_err.ensures.value ∙ c.if-is_err.true) c.alloc-placed.ensures.refused in
    let bytes = g.S.Space.bytes c.args.space.now in
    inl (ap (λ s. heap_in s.table (g.S.Space.bytes c.alloc-placed.new.space)) same.0 ∙ ap (heap_in c.self.inside.arena.table) (ap g.S.Space.bytes same.1) ∙ ap (λ t. heap_in t bytes) c.self.view_is, ap g.S.Space.written same.1)

pub returns-clause-written : goal.returns-clause-written
returns-clause-written g c =
    let bytes = g.S.Space.bytes c.args.space.now in
    let next = heap_in c.alloc-placed.new.self.table (g.S.Space.bytes c.alloc-placed.new.space) in
    let before = g.S.Space.written c.args.space.now in
    let zeros = if c.args.options.zero then c.args.size else 0 in
    inr (M.writes_ok c.alloc-placed.result (heap_in c.self.inside.arena.table bytes) next c.args.id c.args.size before (g.S.Space.written c.alloc-placed.new.space) zeros (sym c.is_err.ensures.value ∙ c.if-is_err.false) c.alloc-placed.ensures.placed c.alloc-placed.ensures.written
    ∙ ap (λ t. counted (counted before (moved_bytes (heap_in t bytes) next)) zeros) c.self.view_is)
