use Rattle.w16_blocks.proofs
use proofs.Common as C
use proofs.Common.{ℕ, List, map, min, refl, ◌≡◌, ◌≢◌, ◌∙◌, ◌+◌, ◌-◌, ◌<◌, ◌≤◌, ap, arith, sym, subst, Block, Span, Range, Layout, holes_of, IsRun, taken, slid_with}
use proofs.RunHoles.{IsWay, way_down, bare_free, run_part}
use proofs.RunKept.{used_run, BlocksInvariant-run, tables_back, blocks_back, lent_layout}
use proofs.Unslid.{has_bytes}
use Rattle.w16_blocks.proofs.Blocks.slide_run.Goals.{After-retag_run-end}
use Rattle.w16_blocks.specs.Runs.{EndsAt}
use Rattle.w16_blocks.proofs.Blocks.slide_run.Given as Given
use Rattle.w16_blocks.proofs.Blocks.slide_run.Goals as goal

-- the run that the tables told, and its way down
found : {m l : Layout} → m ≡ l → {from end high to : ℕ} → IsRun m (record { from = from; to = end }) → EndsAt m high end → (l.lo ≤ to) × (to < from) × (from < high) × (high ≤ l.hi) → C.IsMultiple l.grain to → (C.AllByRecursion (λ b. b.at ≢ from) l.blocks → ⊥)
    → C.IsBare to from l.blocks → IsRun l (record { from = from; to = end }) × (from < end) × IsWay l (record { from = from; to = end }) to to (end - min (end - from) (from - to)) (min (end - from) (from - to))
found {m} {l} same {from} {end} {high} {to} told last part grained begins bare =
    let run : Span = record { from = from; to = end } in
    let is = subst (λ k. IsRun k run) same told in
    let some = has_bytes _ from high end part.2 is.inside.1 (subst (λ k. EndsAt k high end) same last) begins in
    (is, some, way_down l run is some to _ part.1 part.0 bare grained refl)

module _ (g : Given.Over) (c : After-retag_run-end g) where
  abbrev run : Span
  run = record { from = c.args.within.from; to = c.retag_run-end.result }

  same : C.layout_in (C.length c.deref_mut.result.now) c.self.inside.lo c.self.inside.hi c.self.inside.grain c.deref_mut.result.now c.deref_mut-2.result.now ≡ c.args.self.now
  same = lent_layout c.self.inside.slots c.self.inside.begins c.self.view_is c.deref_mut.ensures.value c.deref_mut-2.ensures.value

  abbrev apart : ℕ
  apart = min (c.retag_run-end.result - c.args.within.from) (c.args.within.from - c.args.to)

  way : IsRun c.args.self.now run × (c.args.within.from < c.retag_run-end.result) × IsWay c.args.self.now run c.args.to c.args.to (c.retag_run-end.result - apart) apart
  way = let r = c.requires in let e = c.retag_run-end.ensures in found same e.run e.last r.part r.grained.1 r.begins r.bare

  -- what the tables are afterwards
  abbrev slots : List Block
  slots = (C.with_items c.self.inside.slots c.retag_run-end.new.slots).items

  abbrev cells : List ℕ
  cells = (C.with_items c.self.inside.begins c.retag_run-end.new.begins).items

  tables : C.AreTables c.self.inside.slots.len c.self.inside.lo c.self.inside.hi c.self.inside.grain slots cells
  tables = tables_back c.self.inside.slots c.self.inside.begins c.deref_mut.result.now c.retag_run-end.new.slots
      c.deref_mut-2.result.now c.retag_run-end.new.begins c.deref_mut.ensures.value c.deref_mut-2.ensures.value
      c.retag_run-end.ensures.slots c.retag_run-end.ensures.begins c.retag_run-end.ensures.tables

  blocks : C.blocks_in slots cells ≡ map (slid_with run c.args.to) (C.blocks_in c.self.inside.slots.items c.self.inside.begins.items)
  blocks = blocks_back c.self.inside.slots c.self.inside.begins c.deref_mut.result.now c.retag_run-end.new.slots
      c.deref_mut-2.result.now c.retag_run-end.new.begins c.deref_mut.ensures.value c.deref_mut-2.ensures.value
      c.retag_run-end.ensures.slots c.retag_run-end.ensures.begins (slid_with run c.args.to)
      c.retag_run-end.ensures.blocks

pub slide_down-requires-clause-new : goal.slide_down-requires-clause-new
slide_down-requires-clause-new g c =
    let w = way g (goal.at.slide_down-requires-clause-new g c).After-retag_run-end in let r = c.requires in
    subst (λ r. C.IsPart r c.args.to (c.retag_run-end.result - c.args.within.from)) (sym (c.self.invariant.0.ranged ∙ ap C.range_of c.self.view_is)) (run_part _ _ w.0 w.1 _ r.part.0 w.2.high r.grained.1)

pub slide_down-requires-clause-old : goal.slide_down-requires-clause-old
slide_down-requires-clause-old g c =
    let w = way g (goal.at.slide_down-requires-clause-old g c).After-retag_run-end in let low = w.0.inside.0 in let top = w.0.inside.2 in
    subst (λ r. C.IsPart r c.args.within.from (c.retag_run-end.result - c.args.within.from)) (sym (c.self.invariant.0.ranged ∙ ap C.range_of c.self.view_is)) (run_part _ _ w.0 w.1 _ low (omega arith) w.0.grained.0)

pub slide_down-requires-clause-free : goal.slide_down-requires-clause-free
slide_down-requires-clause-free g c =
    let r = c.requires in let one = r.part.0 in let three = r.part.2 in let four = r.part.3 in let ordered = c.self.invariant.0.tables.ordered in
    subst (C.IsFree _ _) (sym (c.self.invariant.0.between ∙ ap holes_of c.self.view_is)) (bare_free c.args.self.now (subst C.IsOrdered c.self.view_is ordered) _ _ one r.part.1 (omega arith) r.bare)

pub slide_down-requires-clause-used : goal.slide_down-requires-clause-used
slide_down-requires-clause-used g c =
    let w = way g (goal.at.slide_down-requires-clause-used g c).After-retag_run-end in used_run c.self.invariant.0 c.self.view_is w.0 w.1 w.2

pub slide_down-requires-clause-inside : goal.slide_down-requires-clause-inside
slide_down-requires-clause-inside g c =
    let w = way g (goal.at.slide_down-requires-clause-inside g c).After-retag_run-end in let top = w.0.inside.2 in let inside = c.requires.memory.inside in omega arith

pub invariant_of-self : goal.invariant_of-self
invariant_of-self g c =
    let d = (goal.at.invariant_of-self g c).After-retag_run-end in let w = way g d in let e = c.slide_down.ensures in let from = c.args.within.from in let end = c.retag_run-end.result in
    let above = w.0.inside.1 in let few : min (end - from) (from - c.args.to) ≤ end - from = omega arith in
    let begin : from + (end - from) - min (end - from) (from - c.args.to) ≡ end - min (end - from) (from - c.args.to) = omega arith in
    let high : from + (end - from) ≡ end - min (end - from) (from - c.args.to) + min (end - from) (from - c.args.to) = omega arith in (
      BlocksInvariant-run c.self.invariant.0 c.self.view_is w.0 w.1 w.2 refl refl e.range
          (e.holes ∙ (λ i. C.joined (begin i) (high i) (taken c.args.to (c.args.to + min (end - from) (from - c.args.to)) (g.H.HoleList.holes c.self.inside.holes)))) (tables g d) (blocks g d),
      c.self.invariant.1,
    )

pub returns-clause-run : goal.returns-clause-run
returns-clause-run g c = (way g (goal.at.returns-clause-run g c).After-retag_run-end).0

pub returns-clause-some : goal.returns-clause-some
returns-clause-some g c = (way g (goal.at.returns-clause-some g c).After-retag_run-end).1

pub returns-clause-last : goal.returns-clause-last
returns-clause-last g c = subst (λ l. EndsAt l c.args.within.to c.retag_run-end.result) (same g (goal.at.returns-clause-last g c).After-retag_run-end) c.retag_run-end.ensures.last

pub returns-clause-value : goal.returns-clause-value
returns-clause-value g c =
    let s = c.self.inside in let d = (goal.at.returns-clause-value g c).After-retag_run-end in
    (λ i. record (C.layout_in s.slots.len s.lo s.hi s.grain s.slots.items s.begins.items) { blocks = blocks g d i }) ∙ ap (λ (l : Layout). record l { blocks = map (slid_with (run g d) c.args.to) l.blocks }) c.self.view_is

pub returns-clause-ordered : goal.returns-clause-ordered
returns-clause-ordered g c = (invariant_of-self g c).0.tables.ordered

pub returns-clause-rest : goal.returns-clause-rest
returns-clause-rest g c = record {
  kept = subst (λ hs. g.H.Holes.are_in hs (g.S.Space.bytes c.slide_down.new.space)) (invariant_of-self g c).0.between c.slide_down.ensures.kept;
  bytes =
      let n = c.retag_run-end.result - c.args.within.from in
      subst (λ hs. C.AreSameBut c.args.to n (holes_of c.args.self.now) hs (g.S.Space.bytes c.args.space.now) (g.S.Space.bytes c.slide_down.new.space)) (invariant_of-self g c).0.between
      (subst (λ hs. C.AreSameBut c.args.to n hs (g.H.HoleList.holes c.slide_down.new.self) (g.S.Space.bytes c.args.space.now) (g.S.Space.bytes c.slide_down.new.space)) (c.self.invariant.0.between ∙ ap holes_of c.self.view_is) c.slide_down.ensures.bytes);
  loans = c.slide_down.ensures.lenders;
}
