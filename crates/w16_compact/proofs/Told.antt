-- What a table tells of gaps, where the bytes of one loose block more count as free.
use Rattle.w16_compact.proofs
use proofs.Common as C
use Rattle.std.specs.List.{AllByRecursion as Each}
use proofs.Common.{slice_index, ◌≡◌, ◌≢◌, ℕ, ◌+◌, ◌-◌, ◌<◌, ◌≤◌, max, inl, inr, true, false, cond, List, [], ◌∷◌, length, set, refl, sym, ap, ◌∙◌, subst, arith, cases_Bool, get_or-set_other, Block, is_pinned, block_end, Member, all_but, Tells}
use proofs.OnePass.{scan}
use Rattle.std.proofs.Common.{eq-eqb}

-- the best gap so far is one of those that the rest is compared with
scan_best : (hi a b low loose : ℕ) (ys : List Block) → scan hi (max a b) low loose ys ≡ max a (scan hi b low loose ys)
scan_best hi a b low loose [] = omega arith
scan_best hi a b low loose (y ∷ ys) =
    let here = y.at - low - loose in
    let first : max (max a b) here ≡ max a (max b here) = omega arith in
    elim (is_pinned y) as (λ t. cond t (scan hi (max (max a b) here) (block_end y) 0 ys) (scan hi (max a b) low (loose + y.size) ys) ≡ max a (cond t (scan hi (max b here) (block_end y) 0 ys) (scan hi b low (loose + y.size) ys))) [
      | true ↦ ap (λ m. scan hi m (block_end y) 0 ys) first ∙ scan_best hi a (max b here) (block_end y) 0 ys
      | false ↦ scan_best hi a b low (loose + y.size) ys
    ]

module _ (hi : ℕ) (gap_of : List ℕ) where
  -- the room of a gap behind may be another for these blocks
  untouched : (rooms : List ℕ) (low loose gap g v : ℕ) (ys : List Block) → gap ≢ g → Each (λ y. y.id ≢ g) ys → Tells hi low loose gap ys gap_of rooms → Tells hi low loose gap ys gap_of (set rooms g v)
  untouched rooms low loose gap g v [] other none told = ap (λ r. low + loose + r) (get_or-set_other rooms g gap v 0 other) ∙ told
  untouched rooms low loose gap g v (y ∷ ys) other none told = (
    (λ t. (ap (λ r. low + loose + r) (get_or-set_other rooms g gap v 0 other) ∙ (told.0 t).0, untouched rooms (block_end y) 0 y.id g v ys none.0 none.1 (told.0 t).1)),
    (λ f. ((told.1 f).0, untouched rooms low (loose + y.size) gap g v ys other none.1 (told.1 f).1)),
  )

  -- with fewer loose bytes a gap has as many more beside them
  widened : (rooms : List ℕ) (low loose more gap : ℕ) (ys : List Block) → gap < length rooms → Each (λ y. y.id ≢ gap) ys → Tells hi low (loose + more) gap ys gap_of rooms
      → Tells hi low loose gap ys gap_of (set rooms gap (slice_index rooms gap + more))
  widened rooms low loose more gap [] lt none told = let now = C.get_or-set_same rooms gap (slice_index rooms gap + more) 0 lt in omega (arith, now, told)
  widened rooms low loose more gap (y ∷ ys) lt none told = (
    (λ t. let now = C.get_or-set_same rooms gap (slice_index rooms gap + more) 0 lt in let one = (told.0 t).0 in
        (omega (arith, now, one), untouched rooms (block_end y) 0 y.id gap (slice_index rooms gap + more) ys none.0 none.1 (told.0 t).1)),
    (λ f. let e : (loose + more) + y.size ≡ (loose + y.size) + more = omega arith in
        ((told.1 f).0, widened rooms low (loose + y.size) more gap ys lt none.1 (subst (λ (k : ℕ). Tells hi low k gap ys gap_of rooms) e (told.1 f).1))),
  )

  module _ (rooms : List ℕ) where
    -- the number of a loose block's gap is that of the one reached, or a block's id
    pub gap_known : (P : ℕ → Type 0) (low loose gap : ℕ) (ys : List Block) → P gap → Each (λ y. P y.id) ys → Tells hi low loose gap ys gap_of rooms
        → (x : Block) → Member x ys → is_pinned x ≡ false → P (slice_index gap_of x.id)
    gap_known P low loose gap [] here all told x m f = absurd m
    gap_known P low loose gap (y ∷ ys) here all told x (inl e) f = subst P (sym (ap (λ (z : Block). slice_index gap_of z.id) e ∙ (told.1 (ap is_pinned (sym e) ∙ f)).0)) here
    gap_known P low loose gap (y ∷ ys) here all told x (inr m) f = elim (cases_Bool (is_pinned y)) [
      | inl t ↦ gap_known P (block_end y) 0 y.id ys all.0 all.1 (told.0 t).1 x m f
      | inr k ↦ gap_known P low (loose + y.size) gap ys here all.1 (told.1 k).1 x m f
    ]

    -- a room ends by hi, also with a loose block's bytes
    told_room : (low loose gap from : ℕ) (ys : List Block) → C.IsLaid from hi ys → Tells hi low loose gap ys gap_of rooms → low + loose + slice_index rooms gap ≤ hi
    told_room low loose gap from [] laid told = omega (arith, told)
    told_room low loose gap from (y ∷ ys) laid told = elim (cases_Bool (is_pinned y)) [
      | inl t ↦ let now = (told.0 t).0 in let end = C.laid_le (block_end y) hi ys laid.2 in omega arith
      | inr f ↦ let rest = told_room low (loose + y.size) gap (block_end y) ys laid.2 (told.1 f).1 in omega arith
    ]

    pub told_fits : (low loose gap from : ℕ) (ys : List Block) → C.IsLaid from hi ys → Tells hi low loose gap ys gap_of rooms
        → (x : Block) → Member x ys → is_pinned x ≡ false → slice_index rooms (slice_index gap_of x.id) + x.size ≤ hi
    told_fits low loose gap from [] laid told x m f = absurd m
    told_fits low loose gap from (y ∷ ys) laid told x (inl e) f =
        let now = told.1 (ap is_pinned (sym e) ∙ f) in
        let rest = told_room low (loose + y.size) gap (block_end y) ys laid.2 now.1 in
        let here : slice_index rooms gap + y.size ≤ hi = omega arith in
        subst (λ (z : Block). slice_index rooms (slice_index gap_of z.id) + z.size ≤ hi) (sym e) (subst (λ (g : ℕ). slice_index rooms g + y.size ≤ hi) (sym now.0) here)
    told_fits low loose gap from (y ∷ ys) laid told x (inr m) f = elim (cases_Bool (is_pinned y)) [
      | inl t ↦ told_fits (block_end y) 0 y.id (block_end y) ys laid.2 (told.0 t).1 x m f
      | inr k ↦ told_fits low (loose + y.size) gap (block_end y) ys laid.2 (told.1 k).1 x m f
    ]

    -- the room, where the gap reached has fewer loose bytes
    scan_widened : (best low loose more gap : ℕ) (ys : List Block) → Tells hi low (loose + more) gap ys gap_of rooms
        → scan hi best low loose ys ≡ max (scan hi best low (loose + more) ys) (slice_index rooms gap + more)
    scan_widened best low loose more gap [] told = omega (arith, told)
    scan_widened best low loose more gap (y ∷ ys) told =
        elim (is_pinned y) as (λ t. is_pinned y ≡ t → cond t (scan hi (max best (y.at - low - loose)) (block_end y) 0 ys) (scan hi best low (loose + y.size) ys)
        ≡ max (cond t (scan hi (max best (y.at - low - (loose + more))) (block_end y) 0 ys) (scan hi best low ((loose + more) + y.size) ys)) (slice_index rooms gap + more)) [
          | true ↦ λ t.
              let now = (told.0 t).0 in
              let first : max best (y.at - low - loose) ≡ max (slice_index rooms gap + more) (max best (y.at - low - (loose + more))) = omega arith in
              let on = scan_best hi (slice_index rooms gap + more) (max best (y.at - low - (loose + more))) (block_end y) 0 ys in
              ap (λ m. scan hi m (block_end y) 0 ys) first ∙ on ∙ omega arith
          | false ↦ λ f.
              let e : (loose + more) + y.size ≡ (loose + y.size) + more = omega arith in
              scan_widened best low (loose + y.size) more gap ys (subst (λ (k : ℕ). Tells hi low k gap ys gap_of rooms) e (told.1 f).1)
              ∙ ap (λ (k : ℕ). max (scan hi best low k ys) (slice_index rooms gap + more)) (sym e)
        ] refl

    module _ (cap : ℕ) (x : Block) (loose_one : is_pinned x ≡ false) where
      abbrev wider : Block → List ℕ
      wider z = set rooms (slice_index gap_of z.id) (slice_index rooms (slice_index gap_of z.id) + z.size)

      -- without a loose block, its gap has its bytes too
      pub told_without : (low loose gap : ℕ) (ys : List Block) → C.AreNamed cap ys → Each (λ y. y.id ≢ gap) ys → cap < length rooms → gap < length rooms → Tells hi low loose gap ys gap_of rooms → Member x ys
          → Tells hi low loose gap (all_but x.id ys) gap_of (wider x)
      told_without low loose gap [] named none many lt told m = absurd m
      told_without low loose gap (y ∷ ys) named none many lt told (inl e) =
          let now = told.1 (ap is_pinned (sym e) ∙ loose_one) in
          let less : all_but y.id (y ∷ ys) ≡ ys = C.all_but_same y.id y ys (eq-eqb y.id y.id refl) ∙ C.all_but_absent y.id ys named.1 in
          let at_gap = widened rooms low loose y.size gap ys lt none.1 now.1 in
          let at_own = subst (λ (g : ℕ). Tells hi low loose gap ys gap_of (set rooms g (slice_index rooms g + y.size))) (sym now.0) at_gap in
          let at_y = subst (λ (zs : List Block). Tells hi low loose gap zs gap_of (wider y)) (sym less) at_own in
          subst (λ (z : Block). Tells hi low loose gap (all_but z.id (y ∷ ys)) gap_of (wider z)) (sym e) at_y
      told_without low loose gap (y ∷ ys) named none many lt told (inr m) =
          let apart = C.Each-at (λ z. z.id ≢ y.id) ys named.1 x m in
          let kept : all_but x.id (y ∷ ys) ≡ y ∷ all_but x.id ys = C.all_but_other x.id y ys (C.ne_eqb y.id x.id (λ e. apart (sym e))) in
          let known = named.0 in
          subst (λ (zs : List Block). Tells hi low loose gap zs gap_of (wider x)) (sym kept) (
            (λ t.
                let other : gap ≢ slice_index gap_of x.id = gap_known (λ q. gap ≢ q) (block_end y) 0 y.id ys (λ e. none.0 (sym e)) (C.Each-map (λ z. z.id ≢ gap) (λ z. gap ≢ z.id) (λ z f e. f (sym e)) ys none.1) (told.0 t).1 x m loose_one in (
                  ap (λ r. low + loose + r) (get_or-set_other rooms (slice_index gap_of x.id) gap (slice_index rooms (slice_index gap_of x.id) + x.size) 0 other) ∙ (told.0 t).0,
                  told_without (block_end y) 0 y.id ys named.2 named.1 many (omega arith) (told.0 t).1 m,
                )),
            (λ f. ((told.1 f).0, told_without low (loose + y.size) gap ys named.2 none.1 many lt (told.1 f).1 m)),
          )

      -- and the room is that of all before or that gap's
      pub scan_without : (best low loose gap : ℕ) (ys : List Block) → C.AreNamed cap ys → Tells hi low loose gap ys gap_of rooms → Member x ys
          → scan hi best low loose (all_but x.id ys) ≡ max (scan hi best low loose ys) (slice_index rooms (slice_index gap_of x.id) + x.size)
      scan_without best low loose gap [] named told m = absurd m
      scan_without best low loose gap (y ∷ ys) named told (inl e) =
          let k = ap is_pinned (sym e) ∙ loose_one in
          let now = told.1 k in
          let less : all_but y.id (y ∷ ys) ≡ ys = C.all_but_same y.id y ys (eq-eqb y.id y.id refl) ∙ C.all_but_absent y.id ys named.1 in
          let whole : scan hi best low loose (y ∷ ys) ≡ scan hi best low (loose + y.size) ys = C.cond-false (is_pinned y) _ _ k in
          subst (λ (z : Block). scan hi best low loose (all_but z.id (y ∷ ys)) ≡ max (scan hi best low loose (y ∷ ys)) (slice_index rooms (slice_index gap_of z.id) + z.size)) (sym e)
          (ap (scan hi best low loose) less ∙ scan_widened best low loose y.size gap ys now.1
          ∙ ap (λ (n : ℕ). max n (slice_index rooms gap + y.size)) (sym whole)
          ∙ ap (λ (g : ℕ). max (scan hi best low loose (y ∷ ys)) (slice_index rooms g + y.size)) (sym now.0))
      scan_without best low loose gap (y ∷ ys) named told (inr m) =
          let apart = C.Each-at (λ z. z.id ≢ y.id) ys named.1 x m in
          let kept : all_but x.id (y ∷ ys) ≡ y ∷ all_but x.id ys = C.all_but_other x.id y ys (C.ne_eqb y.id x.id (λ e. apart (sym e))) in
          ap (scan hi best low loose) kept
          ∙ elim (is_pinned y) as (λ t. is_pinned y ≡ t → cond t (scan hi (max best (y.at - low - loose)) (block_end y) 0 (all_but x.id ys)) (scan hi best low (loose + y.size) (all_but x.id ys))
          ≡ max (cond t (scan hi (max best (y.at - low - loose)) (block_end y) 0 ys) (scan hi best low (loose + y.size) ys)) (slice_index rooms (slice_index gap_of x.id) + x.size)) [
            | true ↦ λ t. scan_without (max best (y.at - low - loose)) (block_end y) 0 y.id ys named.2 (told.0 t).1 m
            | false ↦ λ f. scan_without best low (loose + y.size) gap ys named.2 (told.1 f).1 m
          ] refl
