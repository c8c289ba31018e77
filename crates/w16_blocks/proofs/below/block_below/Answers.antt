use Rattle.w16_blocks.proofs.Common.{ℕ, ◌≡◌, ◌-◌, ◌∙◌, arith, refl, ap, sym, subst, slice_index, div_ceil, IsLastBelow, blocks_in}
use Rattle.w16_blocks.proofs.{Downward.none_below, Downward.last_here, Tagged.is_slot, Tagged.slot_in, Ending.last_ending}
use Rattle.w16_blocks.proofs.below.block_below.Goals as goal

pub bounds-slots-begin : goal.bounds-slots-begin
bounds-slots-begin c = let some = c.if-begin-gt0.true in slot_in c.requires.tables (c.loop-unit.unit - 1) refl refl (λ e. omega arith)

pub returns-then-begin-gt0 : goal.returns-then-begin-gt0
returns-then-begin-gt0 c =
    let some = c.if-begin-gt0.true in let lt = c.loop-unit-test.true in
    let v = c.loop-unit.unit - 1 in
    let is = c.div_ceil-below.ensures ∙ ap (λ n. div_ceil n c.args.grain) c.saturating_sub.ensures in
    subst (IsLastBelow _ _) (sym (is_slot c.requires.tables v refl refl (λ e. omega arith) _))
    (last_here c.requires.tables _ _ c.loop-unit.unit is c.loop-unit.invariant v (slice_index _ v - 1) (omega arith) (omega arith) (omega arith))

pub returns : goal.returns
returns c =
    let is = c.div_ceil-below.ensures ∙ ap (λ n. div_ceil n c.args.grain) c.saturating_sub.ensures in
    none_below c.requires.tables c.args.place _ c.loop-unit.unit is c.loop-unit.invariant (omega arith)

pub returns-in-Some : goal.returns-in-Some
returns-in-Some c = let e = c.in-Some.ensures in last_ending c.requires.tables e.0 _ e.2 e.3 _ e.4
