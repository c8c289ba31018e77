use Rattle.w16_local.proofs
use proofs.Common as C
use proofs.OneAct as M
use proofs.Common.{List, ap, if◌then◌else◌, inl, inr, subst, sym, ◌-◌, ◌∙◌, ℕ, Heap, Table, heap_in, ArenaState, Acted, Realloc}
use proofs.{Entries.is_local, OneAct.may_shown, OneAct.on_err}
use Rattle.w16_local.proofs.heap.LocalHeap.realloc.Goals as goal

pub realloc-placed-requires : goal.realloc-placed-requires
realloc-placed-requires g c =
    let may = may_shown c.self.view_is (g.S.Space.bytes c.args.space.now) (Realloc c.args.id c.args.size c.args.options) c.requires in
    record { object = M.has_entry c.self.invariant (g.S.Space.bytes c.args.space.now) may.0 c.args.id may.1.0; some = may.1.1.0; rounded = M.grained c.self.invariant (g.S.Space.bytes c.args.space.now) may.0 c.args.size may.1.1.1; memory = record { kept = tt; inside = may.0 } }

pub name_at-requires : goal.name_at-requires
name_at-requires g c = is_local c.self.invariant c.realloc-placed.ensures.rest.range

pub invariant_of-self : goal.invariant_of-self
invariant_of-self g c = let same = on_err c.realloc-placed.result _ (sym c.is_err.ensures.value ∙ c.if-is_err.true) c.realloc-placed.ensures.refused in subst (λ s. C.LocalHeapInvariant s.table c.self.inside.free) (sym same.0) c.self.invariant

pub returns-then-is_err-clause-acted : goal.returns-then-is_err-clause-acted
returns-then-is_err-clause-acted g c =
    let is = sym c.is_err.ensures.value ∙ c.if-is_err.true in
    let same = on_err c.realloc-placed.result _ is c.realloc-placed.ensures.refused in
    let rest = c.realloc-placed.ensures.rest in
    M.realloc_idle c.self.view_is (g.S.Space.bytes c.args.space.now) c.realloc-placed.new.self.table (g.S.Space.bytes c.realloc-placed.new.space) rest.range rest.memory.bytes.outside
    c.realloc-placed.result is (ap (λ s. s.table) same.0) (ap g.S.Space.bytes same.1) c.args.id c.args.size c.args.options c.realloc-placed.ensures.reallocated

pub returns-clause-acted : goal.returns-clause-acted
returns-clause-acted g c =
    let bytes = g.S.Space.bytes c.args.space.now in
    let after = g.S.Space.bytes c.realloc-placed.new.space in
    let may = may_shown c.self.view_is bytes (Realloc c.args.id c.args.size c.args.options) c.requires in
    let is = sym c.is_err.ensures.value ∙ c.if-is_err.false in
    let rest = c.realloc-placed.ensures.rest in
    let over = M.over_after c.self.invariant bytes may.0 c.reveal_bytes.ensures rest.range after rest.memory.bytes.long c.reveal_bytes-2.ensures in
    subst (λ n. Acted (Realloc c.args.id c.args.size c.args.options) c.args.self.now bytes n c.realloc-placed.new.self.table after) (sym c.unwrap_or.ensures)
    (M.realloc_done c.self.view_is bytes c.realloc-placed.new.self.table after rest.range rest.memory.bytes.outside
    c.realloc-placed.result is (M.heap_after c.self.invariant bytes may.0 c.reveal_bytes.ensures rest.range after rest.memory.bytes.long c.reveal_bytes-2.ensures) c.args.id c.args.size c.realloc-placed.ensures.placed c.name_at.result (c.name_at.ensures after over)
    c.args.options c.realloc-placed.ensures.reallocated)

pub invariant_of-self-2 : goal.invariant_of-self-2
invariant_of-self-2 g c =
    let may = may_shown c.self.view_is (g.S.Space.bytes c.args.space.now) (Realloc c.args.id c.args.size c.args.options) c.requires in
    M.realloc_kept c.self.invariant (g.S.Space.bytes c.args.space.now) may.0 c.reveal_bytes.ensures c.realloc-placed.ensures.rest.range (g.S.Space.bytes c.realloc-placed.new.space) c.realloc-placed.ensures.rest.memory.bytes.long
    c.realloc-placed.result (sym c.is_err.ensures.value ∙ c.if-is_err.false) c.args.id c.args.size c.args.options c.realloc-placed.ensures.reallocated

pub returns-then-is_err-clause-written : goal.returns-then-is_err-clause-written
returns-then-is_err-clause-written g c =
    let same = on_err c.realloc-placed.result _ (sym c.is_err.ensures.value ∙ c.if-is_err.true) c.realloc-placed.ensures.refused in
    let bytes = g.S.Space.bytes c.args.space.now in
    inl (ap (λ s. heap_in s.table (g.S.Space.bytes c.realloc-placed.new.space)) same.0 ∙ ap (heap_in c.self.inside.arena.table) (ap g.S.Space.bytes same.1) ∙ ap (λ t. heap_in t bytes) c.self.view_is, ap g.S.Space.written same.1)

pub returns-clause-written : goal.returns-clause-written
returns-clause-written g c =
    let bytes = g.S.Space.bytes c.args.space.now in
    let next = heap_in c.realloc-placed.new.self.table (g.S.Space.bytes c.realloc-placed.new.space) in
    let before = g.S.Space.written c.args.space.now in
    inr (M.writes_ok c.realloc-placed.result (heap_in c.self.inside.arena.table bytes) next c.args.id c.args.size before (g.S.Space.written c.realloc-placed.new.space) _ (sym c.is_err.ensures.value ∙ c.if-is_err.false) c.realloc-placed.ensures.placed c.realloc-placed.ensures.written
    ∙ ap (λ t. C.counted (C.counted before (C.moved_bytes (heap_in t bytes) next)) (if c.args.options.zero then c.args.size - C.unwrap_or (C.option_map C.length (C.bytes_at (heap_in t bytes) c.args.id)) 0 else 0)) c.self.view_is)
