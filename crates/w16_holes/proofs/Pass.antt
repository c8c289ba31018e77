-- The cells where a hole changed places with the used bytes behind it.
use Rattle.w16_holes.proofs
use proofs.Common as C
use proofs.Common.{ℕ, zero, suc, ◌≡◌, ◌<◌, ◌≤◌, ◌+◌, ◌-◌, ◌*◌, min, List, [], ◌∷◌, set, refl, sym, ap, ◌∙◌, subst, arith, inl, inr, cases_lt, slice_index, get_or-set_other, ◌/◌, Span, Range, Free, IsFree, IsUsed, IsPart, taken, slid_down, spans, AreCells}
use proofs.Units.{above, below, whole_units}
use proofs.Told.{IsTake, IsPut, used_cells, take_spans, put_spans}
use proofs.Steps.{AreCells-take, AreCells-put, AreHoles-cells, sets_apart}
use proofs.Passing.{free_less, used_put, used_mid}
use proofs.{Look.at_is, Last.last_here}

-- the bytes of a cell's hole are free
cell_free : (g : ℕ) (ns : List ℕ) (u j : ℕ) → 0 < slice_index ns j → IsFree (u + g * j) (u + g * j + slice_index ns j) (spans g u ns)
cell_free g [] u j some = absurd (omega arith)
cell_free g (n ∷ ns) u zero some = rw (C.lt-ltb u (u + n) (omega arith)) (inl (omega arith, omega arith))
cell_free g (n ∷ ns) u (suc j) some =
    let e : u + g + g * j ≡ u + g * suc j = omega arith in
    let rest = subst (λ a. IsFree a (a + slice_index ns j) (spans g (u + g) ns)) e (cell_free g ns (u + g) j some) in
    elim (cases_lt u (u + n)) [
      | inl lt ↦ rw (C.lt-ltb u (u + n) lt) (inr rest)
      | inr le ↦ rw (C.le-ltb u (u + n) le) rest
    ]

-- The hole begins in cell p and ends where cell m begins; n used bytes behind it end where cell e does, and would end in front of cell w.
module _ (r : Range) (ns : List ℕ) (cells : AreCells r ns) (from to n p m w e : ℕ) (at : r.lo + r.grain * p ≡ to) (begins : r.lo + r.grain * m ≡ from) (front : r.lo + r.grain * w ≡ to + n) (ends : r.lo + r.grain * e ≡ from + n)
    (down : to < from) (whole : slice_index ns p ≡ from - to) (new : IsPart r to n) (old : IsPart r from n) (used : IsUsed from (from + n) (spans r.grain r.lo ns)) where
  abbrev g : ℕ
  g = r.grain

  abbrev l : ℕ
  l = from - to

  hole : 0 < slice_index ns p
  hole = omega (arith, whole, down)

  abbrev hs : List Span
  hs = spans g r.lo ns

  some : 0 < n
  some = new.some

  p_w : p < w
  p_w = below g p w (omega (arith, at, front, some))

  w_e : w < e
  w_e = below g w e (omega (arith, front, ends, down))

  free : IsFree to from hs
  free = subst (λ b. IsFree to b hs) (let x : to + slice_index ns p ≡ from = omega (arith, whole, down) in x) (subst (λ a. IsFree a (a + slice_index ns p) hs) at (cell_free g ns r.lo p hole))

  abbrev v : ℕ
  v = l + slice_index ns e

  abbrev passed : List ℕ
  passed = set (set (set ns w v) p 0) e 0

  in_order : passed ≡ set (set (set ns p 0) e 0) w v
  in_order = ap (λ xs. set xs e 0) (sets_apart ns w p v 0 (λ q. omega (arith, q, p_w))) ∙ sets_apart (set ns p 0) w e v 0 (λ q. omega (arith, q, w_e))

  -- what a part put makes of the cells once one was taken
  module _ (apart : ℕ) (least : apart ≡ min n (from - to)) (one : List ℕ) (cells_one : AreCells r one) (taken_is : spans g r.lo one ≡ taken to (to + apart) hs) (q : ℕ) (put : IsPut g r.lo (r.hi - r.lo) one (from + n - apart) (from + n - apart + apart) q e w)
      (same : slice_index one e ≡ slice_index ns e) (list : set (set one e 0) w v ≡ set (set (set ns p 0) e 0) w v) where
    cells_are : set (set one e 0) w (g * e + slice_index one e - g * w) ≡ passed
    cells_are = ap (set (set one e 0) w) (let x : g * e + slice_index one e - g * w ≡ v = omega (arith, front, ends, same, down) in x) ∙ list ∙ sym in_order

    spans_are : spans g r.lo passed ≡ slid_down from to n hs
    spans_are =
        let few : apart ≤ n = omega (arith, least) in
        ap (spans g r.lo) (sym cells_are) ∙ put_spans put ∙ ap (C.joined (from + n - apart) (from + n - apart + apart)) taken_is
        ∙ (λ i. C.joined (from + n - least i) ((let x : from + n - apart + apart ≡ from + n = omega (arith, few) in x) i) (taken to (to + least i) hs))

    are : AreCells r passed
    are = subst (AreCells r) cells_are (AreCells-put r one (from + n - apart) (from + n - apart + apart) q e cells_one w put)

  abbrev Passes : Type 0
  Passes = (spans g r.lo passed ≡ slid_down from to n hs) × AreCells r passed

  -- it is as long as these, or shorter: its cell goes
  short : l ≤ n → Passes
  short le =
      let least : l ≡ min n (from - to) = omega (arith, le) in
      let p_m : p < m = below g p m (omega (arith, at, begins, down)) in
      let t : IsTake g r.lo (r.hi - r.lo) ns to from p m = record { wide = cells.some; apart = cells.apart; inside = cells.inside; long = cells.long; at = at; end = begins; some = down; free = free } in
      let none : slice_index ns m ≡ 0 = elim (cases_lt 0 (slice_index ns m)) [ inl has ↦ (let x = cells.apart.apart p m hole p_m has in absurd (omega (arith, x, at, begins, whole, down))) | inr past ↦ omega (arith, past) ] in
      let one_is : set (set ns p (g * p - g * p)) m (g * p + slice_index ns p - g * m) ≡ set ns p 0 =
      (let x : g * p - g * p ≡ 0 = omega arith in let y : g * p + slice_index ns p - g * m ≡ slice_index (set ns p 0) m = (let z = get_or-set_other ns p m 0 0 (λ q. omega (arith, q, p_m)) in omega (arith, z, none, at, begins, whole, down)) in
      (λ i. set (set ns p (x i)) m (g * p + slice_index ns p - g * m)) ∙ ap (set (set ns p 0) m) y ∙ C.set-get_or (set ns p 0) m 0) in
      let spans_one : spans g r.lo (set ns p 0) ≡ taken to (to + l) hs = ap (spans g r.lo) (sym one_is) ∙ take_spans t p (last_here ns p hole) ∙ ap (λ b. taken to b hs) (let x : from ≡ to + l = omega (arith, down) in x) in
      let cells_one : AreCells r (set ns p 0) = subst (AreCells r) one_is (AreCells-take r ns to from p m cells t p (last_here ns p hole)) in
      let there = AreHoles-cells r ns cells in
      let mid = used_mid hs there down new old free used least in
      let put : IsPut g r.lo (r.hi - r.lo) (set ns p 0) (from + n - l) (from + n - l + l) w e w = record {
        wide = cells.some;
        apart = cells_one.apart;
        inside = cells_one.inside;
        long = cells_one.long;
        at = omega (arith, front, down);
        end = omega (arith, ends, down);
        some = omega (arith, down);
        last = let top = old.to in omega (arith, ends, top);
        used = subst (IsUsed (from + n - l) (from + n - l + l)) (sym spans_one) (used_put hs there down new old free used least);
        begin = inr (
          refl,
          λ j lt has. elim (used_cells g (set ns p 0) r.lo to (to + n) (subst (IsUsed to (to + n)) (sym spans_one) mid) j has) [
            | inl before ↦ inl (omega (arith, before, front, some))
            | inr behind ↦ (let x = above g j w lt in let y = cells.some in absurd (omega (arith, x, y, behind, front)))
          ],
        );
      } in
      let same : slice_index (set ns p 0) e ≡ slice_index ns e = get_or-set_other ns p e 0 0 (λ q. omega (arith, q, p_w, w_e)) in
      (spans_are l least (set ns p 0) cells_one spans_one w put same refl, are l least (set ns p 0) cells_one spans_one w put same refl)

  -- it is longer: what is left of it in front of its old end is joined again
  long : n < l → Passes
  long lt =
      let least : n ≡ min n (from - to) = omega (arith, lt) in
      let t : IsTake g r.lo (r.hi - r.lo) ns to (to + n) p w = record { wide = cells.some; apart = cells.apart; inside = cells.inside; long = cells.long; at = at; end = front; some = omega (arith, some); free = less } in
      let one_is : set (set ns p (g * p - g * p)) w (g * p + slice_index ns p - g * w) ≡ set (set ns p 0) w (l - n) =
      (let x : g * p - g * p ≡ 0 = omega arith in let y : g * p + slice_index ns p - g * w ≡ l - n = omega (arith, at, front, whole) in λ i. set (set ns p (x i)) w (y i)) in
      let spans_one : spans g r.lo (set (set ns p 0) w (l - n)) ≡ taken to (to + n) hs = ap (spans g r.lo) (sym one_is) ∙ take_spans t p (last_here ns p hole) in
      let cells_one : AreCells r (set (set ns p 0) w (l - n)) = subst (AreCells r) one_is (AreCells-take r ns to (to + n) p w cells t p (last_here ns p hole)) in
      let left : slice_index (set (set ns p 0) w (l - n)) w ≡ l - n = C.get_or-set_same (set ns p 0) w (l - n) 0 (let b = cells.long in let c = new.to in let low = new.from in subst (λ k. w < k) (sym (C.length-set ns p 0)) (below g w (C.length ns) (omega (arith, b, c, low, front)))) in
      let there = AreHoles-cells r ns cells in
      let put : IsPut g r.lo (r.hi - r.lo) (set (set ns p 0) w (l - n)) (from + n - n) (from + n - n + n) m e w = record {
        wide = cells.some;
        apart = cells_one.apart;
        inside = cells_one.inside;
        long = cells_one.long;
        at = omega (arith, begins);
        end = omega (arith, ends);
        some = omega (arith, some);
        last = let top = old.to in omega (arith, ends, top);
        used = subst (IsUsed (from + n - n) (from + n - n + n)) (sym spans_one) (used_put hs there down new old free used least);
        begin = inl (below g w m (omega (arith, front, begins, lt)), omega (arith, left, lt), omega (arith, left, front, begins, lt));
      } in
      let same : slice_index (set (set ns p 0) w (l - n)) e ≡ slice_index ns e = get_or-set_other (set ns p 0) w e (l - n) 0 (λ q. omega (arith, q, w_e)) ∙ get_or-set_other ns p e 0 0 (λ q. omega (arith, q, p_w, w_e)) in
      let list : set (set (set (set ns p 0) w (l - n)) e 0) w v ≡ set (set (set ns p 0) e 0) w v = ap (λ xs. set xs w v) (sets_apart (set ns p 0) w e (l - n) 0 (λ q. omega (arith, q, w_e))) ∙ C.set-set (set (set ns p 0) e 0) w (l - n) v in
      (spans_are n least (set (set ns p 0) w (l - n)) cells_one spans_one m put same list, are n least (set (set ns p 0) w (l - n)) cells_one spans_one m put same list)
    where
      less : IsFree to (to + n) hs
      less = free_less to (to + n) from hs (omega (arith, lt)) free

  pub passes : Passes
  passes = elim (cases_lt n l) [ inl lt ↦ long lt | inr le ↦ short le ]

-- the same of holes that callers know as a value
module _ {r : Range} {ns : List ℕ} {now : Free} (cells : AreCells r ns) (is : record { range = r; holes = spans r.grain r.lo ns } ≡ now) {from to n : ℕ} (p w e : ℕ) (at : r.grain * p ≡ to - r.lo) (front : r.grain * w ≡ to + n - r.lo) (ends : r.grain * e ≡ from + n - r.lo)
    (down : to < from) (whole : C.length_at to now.holes ≡ from - to) (new : IsPart now.range to n) (old : IsPart now.range from n) (used : IsUsed from (from + n) now.holes) where
  pub passes_so : (spans r.grain r.lo (set (set (set ns w (from - to + slice_index ns e)) p 0) e 0) ≡ slid_down from to n now.holes) × AreCells r (set (set (set ns w (from - to + slice_index ns e)) p 0) e 0)
  passes_so =
      let new_now : IsPart r to n = subst (λ (f : Free). IsPart f.range to n) (sym is) new in
      let old_now : IsPart r from n = subst (λ (f : Free). IsPart f.range from n) (sym is) old in
      let low = new_now.from in let place : r.lo + r.grain * p ≡ to = omega (arith, at, low) in
      let m = (from - r.lo) / r.grain in let m_is = whole_units r.grain r.lo from cells.some (omega (arith, low, down)) cells.from old_now.grained in
      let here : slice_index ns p ≡ from - to = at_is r.grain cells.some ns r.lo p to place ∙ subst (λ (f : Free). C.length_at to f.holes ≡ from - to) (sym is) whole in
      let done = passes r ns cells from to n p m w e place (omega (arith, m_is, low, down)) (omega (arith, front, low)) (omega (arith, ends, low, down)) down here new_now old_now (subst (λ (f : Free). IsUsed from (from + n) f.holes) (sym is) used) in
      (done.0 ∙ ap (λ (f : Free). slid_down from to n f.holes) is, done.1)
