use Rattle.w16_holes.proofs
use proofs.Common as C
use proofs.Told as M
use proofs.Common.{ℕ, ◌≡◌, ◌+◌, ◌*◌, ◌-◌, arith, sym, ap, ◌∙◌, subst, slice_index, Range, Free, spans}
use proofs.Steps.{two_sets, sets_apart, is_take, AreCells-take}
use proofs.{Units.multiple_sum, Last.last_cell, Look.at_is}
use Rattle.w16_holes.proofs.side.SideHoles.take_out.Goals as goal

abbrev range : {Z : Type 0} → C.Inside Z → Range
range s = record { lo = s.lo; hi = s.hi; grain = s.grain }

pub unit_of-next-requires-clause-grained : goal.unit_of-next-requires-clause-grained
unit_of-next-requires-clause-grained g c =
    let grain = ap (λ f. f.range.grain) c.self.view_is in
    subst (λ m. C.IsMultiple m (c.args.place + c.args.n)) (sym grain) (multiple_sum _ _ _ c.requires.part.grained c.requires.part.rounded)

pub last_to-requires-clause-below : goal.last_to-requires-clause-below
last_to-requires-clause-below g c =
    let s = c.self.inside in
    let low = ap (λ f. f.range.lo) c.self.view_is in let from = c.requires.part.from in let is = c.unit_of-unit.ensures in
    λ none. last_cell s.grain s.lo _ _ _ _ c.self.invariant.some (omega arith)
    (subst (λ f. C.length_at c.args.place f.holes ≡ 0 → C.option_map (λ k. f.range.lo + f.range.grain * k) c.args.below ≡ C.last_before c.args.place f.holes) (sym c.self.view_is) c.requires.below
    (sym (at_is s.grain c.self.invariant.some _ s.lo _ _ (omega arith)) ∙ none))

pub bytes_before-from-requires-clause-small : goal.bytes_before-from-requires-clause-small
bytes_before-from-requires-clause-small g c =
    let t = is_take c.self.invariant c.self.view_is _ _ c.requires.part c.unit_of-unit.ensures c.unit_of-next.ensures c.requires.free in
    let to = M.take_inside t c.in-Some.begin c.in-Some.ensures in let small = c.self.invariant.small in omega arith

pub get-requires : goal.get-requires
get-requires g c =
    let t = is_take c.self.invariant c.self.view_is _ _ c.requires.part c.unit_of-unit.ensures c.unit_of-next.ensures c.requires.free in
    M.take_lt t _ c.in-Some.ensures

pub overflow_sub-place-in-Some-2 : goal.overflow_sub-place-in-Some-2
overflow_sub-place-in-Some-2 g c =
    let t = is_take c.self.invariant c.self.view_is _ _ c.requires.part c.unit_of-unit.ensures c.unit_of-next.ensures c.requires.free in
    let from = M.take_from t c.in-Some.begin c.in-Some.ensures in omega arith

pub set-requires : goal.set-requires
set-requires g c =
    let t = is_take c.self.invariant c.self.view_is _ _ c.requires.part c.unit_of-unit.ensures c.unit_of-next.ensures c.requires.free in
    M.take_next t

pub set-requires-in-Some : goal.set-requires-in-Some
set-requires-in-Some g c =
    let t = is_take c.self.invariant c.self.view_is _ _ c.requires.part c.unit_of-unit.ensures c.unit_of-next.ensures c.requires.free in
    let lt = M.take_lt t c.in-Some.begin c.in-Some.ensures in let e = ap C.length c.set.ensures in omega (arith, C.length-set {A = ℕ})

pub overflow_sub-end : goal.overflow_sub-end
overflow_sub-end g c =
    let t = is_take c.self.invariant c.self.view_is _ _ c.requires.part c.unit_of-unit.ensures c.unit_of-next.ensures c.requires.free in
    let to = M.take_to t c.in-Some.begin c.in-Some.ensures in omega arith

pub invariant_of-self : goal.invariant_of-self
invariant_of-self g c =
    let s = c.self.inside in let k = c.in-Some.begin in let p = c.unit_of-unit.result in let q = c.unit_of-next.result in
    let t = is_take c.self.invariant c.self.view_is _ _ c.requires.part c.unit_of-unit.ensures c.unit_of-next.ensures c.requires.free in
    let less = M.k_below_q t k c.in-Some.ensures in
    let cells = two_sets s.lengths c.set.new.self c.set-in-Some.new.self q k (c.bytes_before-from.result + c.get.result - (c.args.place + c.args.n - s.lo)) (c.args.place - s.lo - c.bytes_before-from.result) (s.grain * k + slice_index _ k - s.grain * q) (s.grain * p - s.grain * k)
    c.set.ensures c.set-in-Some.ensures (omega arith) (omega arith) ∙ sets_apart s.lengths q k (s.grain * k + slice_index s.lengths k - s.grain * q) (s.grain * p - s.grain * k) (λ e. omega arith) in
    subst (C.AreCells _) (sym cells) (AreCells-take _ _ _ _ p q c.self.invariant t k c.in-Some.ensures)

pub returns-in-Some-clause-holes : goal.returns-in-Some-clause-holes
returns-in-Some-clause-holes g c =
    let s = c.self.inside in let k = c.in-Some.begin in let p = c.unit_of-unit.result in let q = c.unit_of-next.result in
    let t = is_take c.self.invariant c.self.view_is _ _ c.requires.part c.unit_of-unit.ensures c.unit_of-next.ensures c.requires.free in
    let less = M.k_below_q t k c.in-Some.ensures in
    let cells = two_sets s.lengths c.set.new.self c.set-in-Some.new.self q k (c.bytes_before-from.result + c.get.result - (c.args.place + c.args.n - s.lo)) (c.args.place - s.lo - c.bytes_before-from.result) (s.grain * k + slice_index _ k - s.grain * q) (s.grain * p - s.grain * k)
    c.set.ensures c.set-in-Some.ensures (omega arith) (omega arith) ∙ sets_apart s.lengths q k (s.grain * k + slice_index s.lengths k - s.grain * q) (s.grain * p - s.grain * k) (λ e. omega arith) in
    rw (← c.self.view_is) (ap (spans s.grain s.lo) cells ∙ M.take_spans t k c.in-Some.ensures)

pub returns-in_default-clause-holes : goal.returns-in_default-clause-holes
returns-in_default-clause-holes g c =
    let t = is_take c.self.invariant c.self.view_is _ _ c.requires.part c.unit_of-unit.ensures c.unit_of-next.ensures c.requires.free in
    absurd (M.take_none t c.in_default.ensures)
