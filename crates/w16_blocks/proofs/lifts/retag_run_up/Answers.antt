use Rattle.w16_blocks.proofs
use proofs.Common.{ℕ, ◌≡◌, ◌+◌, ◌-◌, ◌∙◌, ◌≤◌, List, length, arith, refl, sym, subst, AllByRecursion, Block, IsOrdered, blocks_in, layout_in, AreTables}
use proofs.Rising.{begins_in, fits_next, list_next, cut_next, none_before}
use proofs.{Sliding.slid_none, Step.lies, Step.grained_known, Tables.cell_at}
use Rattle.w16_blocks.proofs.lifts.retag_run_up.Goals as goal

-- the tables at some turn, whose number of ids is that of the start
ordered_now : {cap lo hi g : ℕ} {slots : List Block} {cells : List ℕ} → AreTables cap lo hi g slots cells → length slots ≡ cap → IsOrdered (layout_in (length slots) lo hi g slots cells)
ordered_now {cap} {lo} {hi} {g} {slots} {cells} t same = subst (λ n. IsOrdered (layout_in n lo hi g slots cells)) (sym same) t.ordered

pub loop-at-init : goal.loop-at-init
loop-at-init c =
    let is = c.requires.run in
    record {
      tables = c.requires.tables;
      list = sym (slid_none _ _ _);
      cut = is.whole.1;
      from = is.inside.1;
      end = omega arith;
      slots = refl;
      begins = refl;
    }

pub unreachable-requires : goal.unreachable-requires
unreachable-requires c =
    let inv = c.loop-at.invariant in
    none_before (layout_in _ _ _ _ c.args.slots.now c.args.begins.now) c.requires.tables.ordered c.args.run c.requires.run _ (c.args.to + (c.loop-at.at - c.args.run.from)) c.loop-at-test.true inv.end
    (subst (AllByRecursion (λ b. c.loop-at.at ≤ b.at)) inv.list c.in_default.ensures)

pub overflow_sub-at : goal.overflow_sub-at
overflow_sub-at c =
    let inv = c.loop-at.invariant in
    begins_in _ c.requires.tables.ordered c.requires.tables.ids _ c.requires.run _
    c.requires.up.0 c.requires.up.1 c.requires.bare _ c.loop-at-test.true inv.end inv.cut
    _ (ordered_now inv.tables inv.slots)
    (λ i. record {
      cap = inv.slots i;
      lo = c.args.bounds.from;
      hi = c.args.bounds.to;
      grain = c.args.grain;
      blocks =
          inv.list i;
    }) c.in-Some.block c.in-Some.ensures

pub unit_of-requires-clause-from : goal.unit_of-requires-clause-from
unit_of-requires-clause-from c =
    (lies (layout_in _ _ _ _ c.loop-at.slots c.loop-at.begins) c.in-Some.block.id c.in-Some.block c.in-Some.ensures.known c.loop-at.invariant.tables.ordered).0

pub unit_of-requires-clause-grained : goal.unit_of-requires-clause-grained
unit_of-requires-clause-grained c =
    (grained_known (layout_in _ _ _ _ c.loop-at.slots c.loop-at.begins) c.in-Some.block.id c.in-Some.block c.in-Some.ensures.known c.loop-at.invariant.tables.ordered).0

pub retag-requires-clause-told : goal.retag-requires-clause-told
retag-requires-clause-told c = let inv = c.loop-at.invariant in cell_at inv.tables (sym inv.slots) c.unit_of.result c.in-Some.ensures.known c.unit_of.ensures

pub retag-requires-clause-fits : goal.retag-requires-clause-fits
retag-requires-clause-fits c =
    let inv = c.loop-at.invariant in
    fits_next _ c.requires.tables.ordered c.requires.tables.ids _ c.requires.run _
    c.requires.up.0 c.requires.up.1 c.requires.bare _ c.loop-at-test.true inv.end inv.cut
    _ (ordered_now inv.tables inv.slots)
    (λ i. record {
      cap = inv.slots i;
      lo = c.args.bounds.from;
      hi = c.args.bounds.to;
      grain = c.args.grain;
      blocks =
          inv.list i;
    }) _ c.in-Some.ensures c.requires.grained

pub loop-at-preserved : goal.loop-at-preserved
loop-at-preserved c =
    let inv = c.loop-at.invariant in
    record {
      tables = subst (λ n. AreTables n c.args.bounds.from c.args.bounds.to c.args.grain c.retag.new.slots c.retag.new.begins) inv.slots c.retag.ensures.tables;
      list = c.retag.ensures.blocks ∙ list_next _ c.requires.tables.ordered
          c.requires.tables.ids _ c.requires.run _ c.requires.up.0 c.requires.up.1 c.requires.bare
          _ c.loop-at-test.true inv.end inv.cut
          _ (ordered_now inv.tables inv.slots)
          (λ i. record {
            cap = inv.slots i;
            lo = c.args.bounds.from;
            hi = c.args.bounds.to;
            grain = c.args.grain;
            blocks = inv.list i;
          }) _ c.in-Some.ensures;
      cut = cut_next _ c.requires.tables.ordered c.requires.tables.ids _ c.requires.run
          _ c.requires.up.0 c.requires.up.1 c.requires.bare _ c.loop-at-test.true inv.end inv.cut
          _ (ordered_now inv.tables inv.slots)
          (λ i. record {
            cap = inv.slots i;
            lo = c.args.bounds.from;
            hi = c.args.bounds.to;
            grain = c.args.grain;
            blocks = inv.list i;
          }) c.in-Some.block c.in-Some.ensures;
      from = begins_in _ c.requires.tables.ordered c.requires.tables.ids _ c.requires.run
          _ c.requires.up.0 c.requires.up.1 c.requires.bare _ c.loop-at-test.true inv.end inv.cut
          _ (ordered_now inv.tables inv.slots)
          (λ i. record {
            cap = inv.slots i;
            lo = c.args.bounds.from;
            hi = c.args.bounds.to;
            grain = c.args.grain;
            blocks = inv.list i;
          }) c.in-Some.block c.in-Some.ensures;
      end = let below = c.in-Some.ensures.below in let end = inv.end in omega arith;
      slots = c.retag.ensures.slots ∙ inv.slots;
      begins = c.retag.ensures.begins ∙ inv.begins;
    }
