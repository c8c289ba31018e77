use Rattle.w16_holes.proofs
use proofs.Common as C
use proofs.Common.{ℕ, ◌≡◌, ◌+◌, ◌*◌, ◌-◌, length, arith, sym, ap, ◌∙◌, subst, inl, inr, slice_index, Range, Free, spans}
use proofs.Told.{put_lt, put_next, put_before, put_spans}
use proofs.Steps.{two_sets, sets_apart, is_put, AreCells-put}
use proofs.{Units.multiple_sum, Units.up, Last.last_cell}
use Rattle.w16_holes.proofs.side.SideHoles.put_back.Goals as goal

abbrev range : {Z : Type 0} → C.Inside Z → Range
range s = record { lo = s.lo; hi = s.hi; grain = s.grain }

pub unit_of-next-requires-clause-grained : goal.unit_of-next-requires-clause-grained
unit_of-next-requires-clause-grained g c =
    let grain = ap (λ f. f.range.grain) c.self.view_is in
    subst (λ m. C.IsMultiple m (c.args.place + c.args.n)) (sym grain) (multiple_sum _ _ _ c.requires.part.grained c.requires.part.rounded)

pub begin_of-begin-requires-clause-below : goal.begin_of-begin-requires-clause-below
begin_of-begin-requires-clause-below g c =
    let s = c.self.inside in
    let low = ap (λ f. f.range.lo) c.self.view_is in let from = c.requires.part.from in let is = c.unit_of-unit.ensures in
    last_cell s.grain s.lo _ _ _ _ c.self.invariant.some (omega arith)
    (subst (λ f. C.option_map (λ k. f.range.lo + f.range.grain * k) c.args.below ≡ C.last_before c.args.place f.holes) (sym c.self.view_is) c.requires.below)

pub set-requires : goal.set-requires
set-requires g c =
    let t = is_put c.self.invariant c.self.view_is _ _ c.requires.part c.unit_of-unit.ensures c.unit_of-next.ensures _ c.begin_of-begin.ensures c.requires.used in
    put_lt t

pub set-requires-2 : goal.set-requires-2
set-requires-2 g c =
    let t = is_put c.self.invariant c.self.view_is _ _ c.requires.part c.unit_of-unit.ensures c.unit_of-next.ensures c.begin_of-begin.result c.begin_of-begin.ensures c.requires.used in
    let lt = put_next t in let e = ap length c.set.ensures in omega (arith, C.length-set {A = ℕ})

pub invariant_of-self : goal.invariant_of-self
invariant_of-self g c =
    let s = c.self.inside in let k = c.begin_of-begin.result in let p = c.unit_of-unit.result in let q = c.unit_of-next.result in
    let t = is_put c.self.invariant c.self.view_is _ _ c.requires.part c.unit_of-unit.ensures c.unit_of-next.ensures c.begin_of-begin.result c.begin_of-begin.ensures c.requires.used in
    let less = put_before t in
    let cells = two_sets s.lengths c.set.new.self c.set-2.new.self k q (c.args.place + c.args.n - s.lo + c.get.result - c.bytes_before.result) 0 (s.grain * q + slice_index _ q - s.grain * k) 0
    c.set.ensures c.set-2.ensures (omega arith) (omega arith) ∙ sets_apart s.lengths k q (s.grain * q + slice_index s.lengths q - s.grain * k) 0 (λ e. omega arith) in
    subst (C.AreCells _) (sym cells) (AreCells-put _ _ _ _ p q c.self.invariant k t)

pub returns-clause-holes : goal.returns-clause-holes
returns-clause-holes g c =
    let s = c.self.inside in let k = c.begin_of-begin.result in let p = c.unit_of-unit.result in let q = c.unit_of-next.result in
    let t = is_put c.self.invariant c.self.view_is _ _ c.requires.part c.unit_of-unit.ensures c.unit_of-next.ensures c.begin_of-begin.result c.begin_of-begin.ensures c.requires.used in
    let less = put_before t in
    let cells = two_sets s.lengths c.set.new.self c.set-2.new.self k q (c.args.place + c.args.n - s.lo + c.get.result - c.bytes_before.result) 0 (s.grain * q + slice_index _ q - s.grain * k) 0
    c.set.ensures c.set-2.ensures (omega arith) (omega arith) ∙ sets_apart s.lengths k q (s.grain * q + slice_index s.lengths q - s.grain * k) 0 (λ e. omega arith) in
    rw (← c.self.view_is) (ap (spans s.grain s.lo) cells ∙ put_spans t)

pub begin_of-begin-requires-clause-inside : goal.begin_of-begin-requires-clause-inside
begin_of-begin-requires-clause-inside g c =
    let s = c.self.inside in let u = c.unit_of-unit.result in
    let is = c.unit_of-unit.ensures in let long = c.self.invariant.long in
    let high = ap (λ f. f.range.hi) c.self.view_is in let to = c.requires.part.to in
    elim (C.cases_lt u (length s.lengths)) [
      | inl less ↦ omega arith
      | inr past ↦ let r = up s.grain (length s.lengths) u past in absurd (omega arith)
    ]
