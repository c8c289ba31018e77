use Rattle.w16_blocks.proofs
use proofs.Common as C
use proofs.Sliding as M
use proofs.Common.{ℕ, List, Some, length, map, arith, refl, suc, sym, subst, inl, inr, get_or, slice_index, ◌∙◌, ◌+◌, ◌*◌, ◌-◌, ◌<◌, ◌≤◌, ◌^◌, ◌≡◌, ◌≢◌, AllByRecursion, Block, Span, IsMultiple, layout_in}
use proofs.{Step.lies, Sliding.IsReady, Unslid.unslid, Unslid.none_unslid, Tables.cell_at, Tagged.none_at, Tagged.slot_in, Tagged.begins_at, Tagged.is_known}
use Rattle.w16_blocks.proofs.runs.retag_run.Goals as goal

pub loop-at-init : goal.loop-at-init
loop-at-init c =
    let blocks = C.blocks_in c.args.slots.now c.args.begins.now in
    let low = c.requires.inside.0 in let down = c.requires.inside.1 in let up = c.requires.inside.2 in let high = c.requires.inside.3 in
    record {
      tables = c.requires.tables;
      slid = sym (M.slid_none _ _ blocks);
      ready = M.ready_start c.args.within c.args.to blocks c.requires.bare c.requires.whole.1;
      run = record {
        inside = (omega arith, omega arith, omega arith);
        grained = (c.requires.grained.0, c.requires.grained.0);
        whole = (c.requires.whole.0, c.requires.whole.0);
        full = λ p from end free. omega arith;
      };
      from = omega arith;
      end = up;
      slots = refl;
      begins = refl;
    }

-- what is read outside a table
abbrev blank : Block
blank = record { id = 0; at = 0; size = 0; hold = C.Pinned }

-- the tables at some turn, whose number of ids is that of the start
module _ {cap lo hi g : ℕ} {slots : List Block} {cells : List ℕ} (t : C.AreTables cap lo hi g slots cells) (same : length slots ≡ cap) where
  abbrev now : C.Layout
  now = layout_in (length slots) lo hi g slots cells

  ordered : C.IsOrdered now
  ordered = subst (λ (n : ℕ). C.IsOrdered (layout_in n lo hi g slots cells)) (sym same) t.ordered

  ids : length slots < 2 ^ 32
  ids = let few = t.ids in omega arith

  module _ {run : Span} {to at : ℕ} (down : to ≤ run.from) (from : run.from ≤ at) (lt : at < run.to) (ready : AllByRecursion (IsReady run to at) now.blocks) (u : ℕ) (is : at ≡ lo + g * u) (tells : slice_index cells u ≢ 0) where
    abbrev x : Block
    x = get_or slots (slice_index cells u - 1) blank

    known : C.block_with now.blocks x.id ≡ Some x
    known = is_known t u is refl tells blank

    here : x.at ≡ at
    here = begins_at t u is refl tells blank

    told : slice_index cells u ≡ suc x.id
    told = cell_at t (sym same) u known (here ∙ is)

    ends : at + x.size ≤ run.to
    ends = M.ends_inside now ordered ids run to at down from lt ready x known here

    some : 0 < x.size
    some = (lies now x.id x known ordered).1

    fits : IsMultiple g to → IsMultiple g at → IsMultiple g run.from → lo ≤ to → C.FitsFor now (record x { at = to + (at - run.from) })
    fits one two three low = M.fits_there now ordered ids run to at down from lt ready x known here (C.multiple_sum g to (at - run.from) one (C.multiple_less g at run.from two three)) low

    slid : (old : List Block) → now.blocks ≡ map (C.slid_with (record { from = run.from; to = at }) to) old → C.replaced (record x { at = to + (at - run.from) }) now.blocks ≡ map (C.slid_with (record { from = run.from; to = at + x.size }) to) old
    slid = M.slid_then now ordered ids run to at down from lt ready x known here

    ready' : AllByRecursion (IsReady run to (at + x.size)) (C.replaced (record x { at = to + (at - run.from) }) now.blocks)
    ready' = M.ready_then now ordered ids run to at down from lt ready x known here

pub slice_copy_out-block : goal.slice_copy_out-block
slice_copy_out-block c = slot_in c.loop-at.invariant.tables c.unit_of-unit.result c.unit_of-unit.ensures refl c.if-begin-eq0.false

pub retag-requires-clause-told : goal.retag-requires-clause-told
retag-requires-clause-told c =
    let inv = c.loop-at.invariant in
    told inv.tables inv.slots c.requires.inside.1 inv.from c.loop-at-test.true inv.ready c.unit_of-unit.result c.unit_of-unit.ensures c.if-begin-eq0.false

pub retag-requires-clause-fits : goal.retag-requires-clause-fits
retag-requires-clause-fits c =
    let inv = c.loop-at.invariant in
    fits inv.tables inv.slots c.requires.inside.1 inv.from c.loop-at-test.true inv.ready c.unit_of-unit.result c.unit_of-unit.ensures c.if-begin-eq0.false c.requires.grained.1 inv.run.grained.1 c.requires.grained.0 c.requires.inside.0

pub overflow_add-at : goal.overflow_add-at
overflow_add-at c =
    let inv = c.loop-at.invariant in
    let end = ends inv.tables inv.slots c.requires.inside.1 inv.from c.loop-at-test.true inv.ready c.unit_of-unit.result c.unit_of-unit.ensures c.if-begin-eq0.false in
    let top = c.requires.inside.3 in let small = c.requires.tables.ordered.small in record { fits = omega arith }

pub loop-at-smaller : goal.loop-at-smaller
loop-at-smaller c =
    let inv = c.loop-at.invariant in
    let size = some inv.tables inv.slots c.requires.inside.1 inv.from c.loop-at-test.true inv.ready c.unit_of-unit.result c.unit_of-unit.ensures c.if-begin-eq0.false in
    let lt = c.loop-at-test.true in omega arith

pub loop-at-preserved : goal.loop-at-preserved
loop-at-preserved c =
    let inv = c.loop-at.invariant in let part = c.args.within in let at = c.loop-at.at in let u = c.unit_of-unit.result in let is = c.unit_of-unit.ensures in let tells = c.if-begin-eq0.false in
    let down = c.requires.inside.1 in let lt = c.loop-at-test.true in let block = get_or c.loop-at.slots (slice_index _ u - 1) blank in let begins = here inv.tables inv.slots down inv.from lt inv.ready u is tells in
    let old = layout_in _ _ _ _ c.args.slots.now c.args.begins.now in
    let new = sym c.retag.ensures.blocks in
    record {
      tables = subst (λ n. C.AreTables n c.args.bounds.from c.args.bounds.to c.args.grain c.retag.new.slots c.retag.new.begins) inv.slots c.retag.ensures.tables;
      slid = c.retag.ensures.blocks ∙ slid inv.tables inv.slots down inv.from lt inv.ready u is tells _ inv.slid;
      ready = subst (AllByRecursion _) new (ready' inv.tables inv.slots down inv.from lt inv.ready u is tells);
      run = M.run_more old _ at block c.requires.tables.ordered (unslid _ at _ block _ _ down inv.from (omega arith) inv.slid (known inv.tables inv.slots down inv.from lt inv.ready u is tells)) begins inv.run;
      from = let start = inv.from in omega arith;
      end = ends inv.tables inv.slots down inv.from lt inv.ready u is tells;
      slots = c.retag.ensures.slots ∙ inv.slots;
      begins = c.retag.ensures.begins ∙ inv.begins;
    }

pub returns-then-begin-eq0-clause-last : goal.returns-then-begin-eq0-clause-last
returns-then-begin-eq0-clause-last c =
    let inv = c.loop-at.invariant in
    inr (none_unslid (layout_in _ _ _ _ c.args.slots.now c.args.begins.now) c.requires.tables.ordered _ _ _ c.requires.inside.1 inv.from
    (subst (AllByRecursion (λ b. b.at ≢ c.loop-at.at)) inv.slid (none_at inv.tables c.unit_of-unit.result c.unit_of-unit.ensures c.if-begin-eq0.true)))

pub returns-clause-last : goal.returns-clause-last
returns-clause-last c = let high = c.loop-at.invariant.end in let past = c.loop-at-test.false in inl (omega arith)
