use Rattle.w16_blocks.proofs
use proofs.Next as M
use proofs.Common.{ℕ, suc, ◌≡◌, ◌+◌, ◌-◌, ◌*◌, List, Some, drop, slice_get, arith, sym, ap, ◌∙◌, subst, slice_index, div_ceil, get_or_read, Block, holes, Range, IsPlace, length_at, Layout, rank, no_block, blocks_in}
use proofs.Next.{pass, unit_inside}
use Rattle.w16_blocks.proofs.Blocks.first_from.Goals as goal

pub loop-unit-init : goal.loop-unit-init
loop-unit-init g c =
    let s = c.self.inside in
    let is = c.units_over-unit.ensures ∙ ap (λ n. div_ceil n s.grain) c.saturating_sub.ensures in
    subst (λ l. slice_get l.blocks (rank c.args.at l.blocks) ≡ slice_get (blocks_in s.slots.items (drop c.units_over-unit.result s.begins.items)) 0) c.self.view_is
    (M.first_by_unit s.lo s.grain c.args.at s.slots.items s.begins.items c.units_over-unit.result c.self.invariant.0.tables.begun
    (M.units_below s.lo s.grain _ _ c.self.invariant.0.tables.some is) (M.units_above s.lo s.grain _ _ c.self.invariant.0.tables.some is))

pub index-requires-then-begin-gt0 : goal.index-requires-then-begin-gt0
index-requires-then-begin-gt0 g c =
    let s = c.self.inside in let some = c.if-begin-gt0.true in let lt = unit_inside c.self.invariant.0.tables c.self.view_is c.units-units.result c.loop-unit.unit c.units-units.ensures.value c.loop-unit-test.true in let many = s.begins.ok.0 in let few = s.slots.ok.0 in
    let cell = get_or_read s.begins.items c.loop-unit.unit c.index.result.now (omega arith) c.index.ensures 0 in
    let inside = (c.self.invariant.0.tables.begun c.loop-unit.unit (c.index.result.now - 1) (omega arith)).inside in omega arith

pub returns-then-begin-gt0-clause-value : goal.returns-then-begin-gt0-clause-value
returns-then-begin-gt0-clause-value g c =
    let s = c.self.inside in let some = c.if-begin-gt0.true in let lt = unit_inside c.self.invariant.0.tables c.self.view_is c.units-units.result c.loop-unit.unit c.units-units.ensures.value c.loop-unit-test.true in let many = s.begins.ok.0 in let few = s.slots.ok.0 in
    let cell = get_or_read s.begins.items c.loop-unit.unit c.index.result.now (omega arith) c.index.ensures 0 in
    let tells : slice_index s.begins.items c.loop-unit.unit ≡ suc (c.index.result.now - 1) = omega arith in
    let inside = (c.self.invariant.0.tables.begun c.loop-unit.unit (c.index.result.now - 1) tells).inside in
    ap Some (get_or_read s.slots.items (c.index.result.now - 1) _ (omega arith) c.index-then-begin-gt0.ensures no_block)
    ∙ sym (M.first_here s.slots.items s.begins.items c.loop-unit.unit _ tells) ∙ sym c.loop-unit.invariant

pub at-hole-requires-clause-place : goal.at-hole-requires-clause-place
at-hole-requires-clause-place g c =
    let s = c.self.inside in let lt = unit_inside c.self.invariant.0.tables c.self.view_is c.units-units.result c.loop-unit.unit c.units-units.ensures.value c.loop-unit-test.true in let many = s.begins.ok.0 in
    subst (λ r. IsPlace r (s.lo + c.loop-unit.unit * s.grain)) (sym c.self.invariant.0.ranged)
    (M.unit_place c.self.invariant.0.tables c.self.view_is c.units-units.result _ c.units-units.ensures.value c.loop-unit-test.true)

pub loop-unit-smaller : goal.loop-unit-smaller
loop-unit-smaller g c = let lt = c.loop-unit-test.true in let step = c.max.ensures in let whole = c.units_in.ensures in omega arith

pub loop-unit-preserved : goal.loop-unit-preserved
loop-unit-preserved g c =
    let s = c.self.inside in let lt = unit_inside c.self.invariant.0.tables c.self.view_is c.units-units.result c.loop-unit.unit c.units-units.ensures.value c.loop-unit-test.true in let many = s.begins.ok.0 in
    let cell = get_or_read s.begins.items c.loop-unit.unit c.index.result.now (omega arith) c.index.ensures 0 in
    let none : slice_index s.begins.items c.loop-unit.unit ≡ 0 = let zero_is = c.if-begin-gt0.false in omega arith in
    let place : s.lo + c.loop-unit.unit * s.grain ≡ s.lo + s.grain * c.loop-unit.unit = omega arith in
    let hole : c.at-hole.result ≡ length_at (s.lo + s.grain * c.loop-unit.unit)
    (holes s.lo s.hi (blocks_in s.slots.items s.begins.items)) = c.at-hole.ensures ∙ ap
    (length_at _) c.self.invariant.0.between ∙ ap
    (λ a. length_at a (holes s.lo s.hi (blocks_in s.slots.items s.begins.items))) place in
    let clear = M.clear_in s.slots.len s.lo s.hi s.grain s.slots.items s.begins.items c.self.invariant.0.tables c.loop-unit.unit c.at-hole.result none hole in
    c.loop-unit.invariant ∙ ap (λ bs. slice_get bs 0) (pass s.slots.items s.begins.items c.loop-unit.unit c.max.result (λ k from to. clear k from (let step = c.max.ensures in let whole = c.units_in.ensures in omega arith)))

pub returns-clause-value : goal.returns-clause-value
returns-clause-value g c =
    let s = c.self.inside in let past = c.loop-unit-test.false in let many = s.begins.ok.0 in
    sym (c.loop-unit.invariant ∙ M.none_behind c.self.invariant.0.tables c.self.view_is _ _ c.units-units.ensures.value past)
