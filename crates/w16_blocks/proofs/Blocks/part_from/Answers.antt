use Rattle.w16_blocks.proofs
use proofs.Common as C
use proofs.Passed as M
use proofs.Common.{suc, ◌≡◌, ◌+◌, ◌-◌, ◌*◌, arith, sym, subst, get_or_read, Range, Layout}
use proofs.Next.{unit_place, unit_inside}
use Rattle.w16_blocks.proofs.Blocks.part_from.Goals as goal

pub index-requires-then-begin-gt0 : goal.index-requires-then-begin-gt0
index-requires-then-begin-gt0 g c =
    let s = c.self.inside in let some = c.if-begin-gt0.true in let lt = unit_inside c.self.invariant.0.tables c.self.view_is c.units-unit-end.result c.loop-unit.unit c.units-unit-end.ensures.value c.loop-unit-test.true in let many = s.begins.ok.0 in let few = s.slots.ok.0 in
    let cell = get_or_read s.begins.items c.loop-unit.unit c.index.result.now (omega arith) c.index.ensures 0 in
    let inside = (c.self.invariant.0.tables.begun c.loop-unit.unit (c.index.result.now - 1) (omega arith)).inside in omega arith

pub returns-then-begin-gt0-clause-block : goal.returns-then-begin-gt0-clause-block
returns-then-begin-gt0-clause-block g c =
    let s = c.self.inside in let some = c.if-begin-gt0.true in let lt = unit_inside c.self.invariant.0.tables c.self.view_is c.units-unit-end.result c.loop-unit.unit c.units-unit-end.ensures.value c.loop-unit-test.true in let many = s.begins.ok.0 in let few = s.slots.ok.0 in
    let cell = get_or_read s.begins.items c.loop-unit.unit c.index.result.now (omega arith) c.index.ensures 0 in
    let tells : C.slice_index s.begins.items c.loop-unit.unit ≡ suc (c.index.result.now - 1) = omega arith in
    let inside = (c.self.invariant.0.tables.begun c.loop-unit.unit (c.index.result.now - 1) tells).inside in
    let block = get_or_read s.slots.items (c.index.result.now - 1) c.index-then-begin-gt0.result.now (omega arith) c.index-then-begin-gt0.ensures C.no_block in
    subst (λ l. C.IsFirstBlock l c.args.at c.index-then-begin-gt0.result.now) c.self.view_is
    (subst (C.IsFirstBlock _ _) (sym block)
    (M.block_first c.self.invariant.0.tables _ c.loop-unit.unit c.loop-unit.invariant c.saturating_sub.result c.units_over-first.result c.saturating_sub.ensures c.units_over-first.ensures (omega arith) _ tells))

pub at-hole-requires-clause-place : goal.at-hole-requires-clause-place
at-hole-requires-clause-place g c =
    let s = c.self.inside in let lt = unit_inside c.self.invariant.0.tables c.self.view_is c.units-unit-end.result c.loop-unit.unit c.units-unit-end.ensures.value c.loop-unit-test.true in let many = s.begins.ok.0 in
    subst (λ r. C.IsPlace r (s.lo + c.loop-unit.unit * s.grain)) (sym c.self.invariant.0.ranged)
    (unit_place c.self.invariant.0.tables c.self.view_is c.units-unit-end.result _ c.units-unit-end.ensures.value c.loop-unit-test.true)

pub overflow_add-result : goal.overflow_add-result
overflow_add-result g c =
    let s = c.self.inside in let place = s.lo + c.loop-unit.unit * s.grain in
    let end = (M.hole_at c.self.invariant.0.tables place c.at-hole.result c.self.invariant.0.between c.at-hole.ensures c.if-hole-gt0.true).clear.below in
    let small = c.self.invariant.0.tables.ordered.small in record { fits = omega arith }

pub returns-then-hole-gt0-clause-hole : goal.returns-then-hole-gt0-clause-hole
returns-then-hole-gt0-clause-hole g c =
    let s = c.self.inside in let lt = unit_inside c.self.invariant.0.tables c.self.view_is c.units-unit-end.result c.loop-unit.unit c.units-unit-end.ensures.value c.loop-unit-test.true in let many = s.begins.ok.0 in let zero_is = c.if-begin-gt0.false in
    let cell = get_or_read s.begins.items c.loop-unit.unit c.index.result.now (omega arith) c.index.ensures 0 in
    let place = s.lo + c.loop-unit.unit * s.grain in
    subst (λ l. C.IsFirstHole l c.args.at (record { from = place; to = place + c.at-hole.result })) c.self.view_is
    (M.hole_first c.self.invariant.0.tables _ c.loop-unit.unit c.loop-unit.invariant c.saturating_sub.result c.units_over-first.result c.saturating_sub.ensures c.units_over-first.ensures (omega arith)
    place _ (omega arith) (omega arith) c.self.invariant.0.between c.at-hole.ensures c.if-hole-gt0.true)

pub returns-clause-none : goal.returns-clause-none
returns-clause-none g c =
    let past = c.loop-unit-test.false in let many = c.self.inside.begins.ok.0 in
    subst (λ l. C.IsBehindAll l c.args.at) c.self.view_is
    (M.none_first c.self.invariant.0.tables _ _ c.loop-unit.invariant c.saturating_sub.result c.units_over-first.result c.saturating_sub.ensures c.units_over-first.ensures (omega arith) c.self.view_is _ c.units-unit-end.ensures.value past)

pub loop-unit-init : goal.loop-unit-init
loop-unit-init g c = M.passed_first c.self.invariant.0.tables _ c.saturating_sub.result _ c.saturating_sub.ensures c.units_over-first.ensures

pub loop-unit-preserved : goal.loop-unit-preserved
loop-unit-preserved g c =
    let s = c.self.inside in let lt = unit_inside c.self.invariant.0.tables c.self.view_is c.units-unit-end.result c.loop-unit.unit c.units-unit-end.ensures.value c.loop-unit-test.true in let many = s.begins.ok.0 in let zero_is = c.if-begin-gt0.false in let none = c.if-hole-gt0.false in
    let cell = get_or_read s.begins.items c.loop-unit.unit c.index.result.now (omega arith) c.index.ensures 0 in
    M.passed_more c.self.invariant.0.tables c.args.at c.loop-unit.unit c.loop-unit.invariant (s.lo + c.loop-unit.unit * s.grain) c.at-hole.result (omega arith) (omega arith) c.self.invariant.0.between c.at-hole.ensures (omega arith)
