-- The holes where a run of blocks slides down: what its new place has beyond the old one is taken, and what the old one has beyond the new is put.
use Rattle.w16_blocks.proofs
use proofs.Common as C
use proofs.Common.{ℕ, ◌≡◌, ◌+◌, ◌-◌, ◌<◌, ◌≤◌, ◌⊎◌, min, List, [], ◌∷◌, map, arith, refl, sym, ap, ◌∙◌, subst, inl, inr, cases_lt, AllByRecursion, Block, Span, block_end, holes, IsMultiple, Each-both, AreHoles, IsUsed, IsPart, taken, IsIn, Layout, range_of, holes_of, IsCut, IsRun, IsBare}
use proofs.Common.{slid_with, multiple_less}
use proofs.Free.{Lacks, AreHoles-holes, free_lacks, lacks_free, are_between, used_of, free_of}
use proofs.Sliding.{slid_below, slid_above, slid_inside}

-- what holds of each block of a list, and of what comes of each
pub All-mapped : (R P Q : Block → Type 0) (f : Block → Block) → ((b : Block) → R b → P b → Q (f b)) → (bs : List Block) → AllByRecursion R bs → AllByRecursion P bs → AllByRecursion Q (map f bs)
All-mapped R P Q f step [] one two = tt
All-mapped R P Q f step (b ∷ bs) one two = (step b one.0 two.0, All-mapped R P Q f step bs one.1 two.1)

pub All-unmapped : (R P Q : Block → Type 0) (f : Block → Block) → ((b : Block) → R b → Q (f b) → P b) → (bs : List Block) → AllByRecursion R bs → AllByRecursion Q (map f bs) → AllByRecursion P bs
All-unmapped R P Q f step [] one two = tt
All-unmapped R P Q f step (b ∷ bs) one two = (step b one.0 two.0, All-unmapped R P Q f step bs one.1 two.1)

-- what doesn't depend on a block's address stays where it slides
module _ (f : Block → ℕ) (same : (b : Block) (at : ℕ) → f (record b { at = at }) ≡ f b) where
  slid_same : (run : Span) (to : ℕ) (b : Block) → f (slid_with run to b) ≡ f b
  slid_same run to b = elim (cases_lt b.at run.from) [
    | inl below ↦ ap f (slid_below run to b below)
    | inr from ↦ elim (cases_lt b.at run.to) [
      | inl inside ↦ ap f (slid_inside run to b from inside) ∙ same b _
      | inr above ↦ ap f (slid_above run to b above)
    ]
  ]

  pub sum-slid : (run : Span) (to : ℕ) (bs : List Block) → C.sum_by f (map (slid_with run to) bs) ≡ C.sum_by f bs
  sum-slid run to [] = refl
  sum-slid run to (b ∷ bs) =
      let first = C.sum_by-cons f (slid_with run to b) (map (slid_with run to) bs) in let old = C.sum_by-cons f b bs in
      let one = slid_same run to b in let rest = sum-slid run to bs in omega arith

-- a block is before the run, behind it, or in it
abbrev pub Lies : Span → Block → Type 0
Lies run b = (0 < b.size) × ((block_end b ≤ run.from) ⊎ ((run.to ≤ b.at) ⊎ ((run.from ≤ b.at) × (block_end b ≤ run.to))))

pub lies_of : (run : Span) (lo hi : ℕ) (bs : List Block) → C.IsLaid lo hi bs → IsCut run.from bs → IsCut run.to bs → AllByRecursion (Lies run) bs
lies_of run lo hi [] laid one two = tt
lies_of run lo hi (b ∷ bs) laid one two = (
  (
    laid.1,
    elim one.0 [
      | inl before ↦ inl before
      | inr from ↦ elim two.0 [ inl end ↦ inr (inr (from, end)) | inr behind ↦ inr (inl behind) ]
    ],
  ),
  lies_of run (block_end b) hi bs laid.2 one.1 two.1,
)

-- A way of a run to a place: what the place has beyond the run is [a, a + apart), what the run has beyond the place is [c, c + apart), and no other block has a byte of the place.
pub record IsWay (l : Layout) (run : Span) (to a c apart : ℕ) : Type 0 where
  pub low : l.lo ≤ to
  pub high : to + (run.to - run.from) ≤ l.hi
  pub some : (0 < apart) × (apart ≤ run.to - run.from)
  pub entered : (to ≤ a) × (a + apart ≤ to + (run.to - run.from))
  pub left : (run.from ≤ c) × (c + apart ≤ run.to)
  pub entered_out : (a + apart ≤ run.from) ⊎ (run.to ≤ a)
  pub left_out : (c + apart ≤ to) ⊎ (to + (run.to - run.from) ≤ c)
  pub entered_rest : (p : ℕ) → to ≤ p → p < to + (run.to - run.from) → ((a ≤ p) × (p < a + apart)) ⊎ ((run.from ≤ p) × (p < run.to))
  pub left_rest : (p : ℕ) → run.from ≤ p → p < run.to → ((c ≤ p) × (p < c + apart)) ⊎ ((to ≤ p) × (p < to + (run.to - run.from)))
  pub clear : AllByRecursion (λ b. ((run.from ≤ b.at) × (block_end b ≤ run.to)) ⊎ ((block_end b ≤ to) ⊎ (to + (run.to - run.from) ≤ b.at))) l.blocks
  pub grained : IsMultiple l.grain a × IsMultiple l.grain c × IsMultiple l.grain apart

module _ (g from end to apart : ℕ) (one : IsMultiple g from) (two : IsMultiple g end) (three : IsMultiple g to) where
  part_grained : (apart ≡ end - from) ⊎ ((apart ≡ from - to) ⊎ (apart ≡ to - from)) → IsMultiple g apart
  part_grained (inl all) = subst (IsMultiple g) (sym all) (multiple_less g end from two one)
  part_grained (inr (inl down)) = subst (IsMultiple g) (sym down) (multiple_less g from to one three)
  part_grained (inr (inr up)) = subst (IsMultiple g) (sym up) (multiple_less g to from three one)

-- the way down and the way up
pub way_down : (l : Layout) (run : Span) → IsRun l run → run.from < run.to → (to apart : ℕ) → to < run.from → l.lo ≤ to → IsBare to run.from l.blocks → IsMultiple l.grain to → apart ≡ min (run.to - run.from) (run.from - to) → IsWay l run to to (run.to - apart) apart
way_down l run is some to apart down low bare grained least =
    let top = is.inside.2 in
    let bounds : (0 < apart) × (apart ≤ run.to - run.from) × (apart ≤ run.from - to) × ((apart ≡ run.to - run.from) ⊎ (apart ≡ run.from - to)) = elim (cases_lt (run.from - to) (run.to - run.from)) [
      | inl less ↦ (omega arith, omega arith, omega arith, inr (omega arith))
      | inr more ↦ (omega arith, omega arith, omega arith, inl (omega arith))
    ] in
    let first = bounds.0 in let second = bounds.1 in let third = bounds.2 in
    let part = part_grained l.grain run.from run.to to apart is.grained.0 is.grained.1 grained (elim bounds.3 [ inl all ↦ inl all | inr rest ↦ inr (inl rest) ]) in
    record {
      low = low;
      high = omega arith;
      some = (first, second);
      entered = (omega arith, omega arith);
      left = (omega arith, omega arith);
      entered_out = inl (omega arith);
      left_out = inr (elim bounds.3 [ inl all ↦ omega arith | inr rest ↦ omega arith ]);
      entered_rest = λ p ge lt. elim (cases_lt p (to + apart)) [ inl in_new ↦ inl (ge, in_new) | inr past ↦ inr (elim bounds.3 [ inl all ↦ absurd (omega arith) | inr rest ↦ (omega arith, omega arith) ]) ];
      left_rest = λ p ge lt. elim (cases_lt p (run.to - apart)) [ inl before ↦ inr (elim bounds.3 [ inl all ↦ absurd (omega arith) | inr rest ↦ (omega arith, omega arith) ]) | inr in_left ↦ inl (in_left, omega arith) ];
      clear = Each-both (λ b. (block_end b ≤ to) ⊎ (run.from ≤ b.at)) (λ b. (block_end b ≤ run.to) ⊎ (run.to ≤ b.at)) (λ b. ((run.from ≤ b.at) × (block_end b ≤ run.to)) ⊎ ((block_end b ≤ to) ⊎ (to + (run.to - run.from) ≤ b.at)))
          (λ b one two. elim one [
            | inl under ↦ inr (inl under)
            | inr over ↦ elim two [ inl end ↦ inl (over, end) | inr behind ↦ inr (inr (omega arith)) ]
          ]) _ bare is.whole.1;
      grained = (grained, multiple_less l.grain run.to apart is.grained.1 part, part);
    }

pub way_up : (l : Layout) (run : Span) → IsRun l run → run.from < run.to → (to apart : ℕ) → run.from < to → to + (run.to - run.from) ≤ l.hi → IsBare run.to (to + (run.to - run.from)) l.blocks → IsMultiple l.grain to → apart ≡ min (run.to - run.from) (to - run.from)
    → IsWay l run to (to + (run.to - run.from) - apart) run.from apart
way_up l run is some to apart up high bare grained least =
    let bottom = is.inside.0 in
    let bounds : (0 < apart) × (apart ≤ run.to - run.from) × (apart ≤ to - run.from) × ((apart ≡ run.to - run.from) ⊎ (apart ≡ to - run.from)) = elim (cases_lt (to - run.from) (run.to - run.from)) [
      | inl less ↦ (omega arith, omega arith, omega arith, inr (omega arith))
      | inr more ↦ (omega arith, omega arith, omega arith, inl (omega arith))
    ] in
    let first = bounds.0 in let second = bounds.1 in let third = bounds.2 in
    let part = part_grained l.grain run.from run.to to apart is.grained.0 is.grained.1 grained (elim bounds.3 [ inl all ↦ inl all | inr rest ↦ inr (inr rest) ]) in
    record {
      low = omega arith;
      high = high;
      some = (first, second);
      entered = (omega arith, omega arith);
      left = (omega arith, omega arith);
      entered_out = inr (elim bounds.3 [ inl all ↦ omega arith | inr rest ↦ omega arith ]);
      left_out = inl (omega arith);
      entered_rest = λ p ge lt. elim (cases_lt p (to + (run.to - run.from) - apart)) [ inl before ↦ inr (elim bounds.3 [ inl all ↦ absurd (omega arith) | inr rest ↦ (omega arith, omega arith) ]) | inr in_new ↦ inl (in_new, omega arith) ];
      left_rest = λ p ge lt. elim (cases_lt p (run.from + apart)) [ inl in_left ↦ inl (ge, in_left) | inr past ↦ inr (elim bounds.3 [ inl all ↦ absurd (omega arith) | inr rest ↦ (omega arith, omega arith) ]) ];
      clear = Each-both (λ b. (block_end b ≤ run.to) ⊎ (to + (run.to - run.from) ≤ b.at)) (λ b. (block_end b ≤ run.from) ⊎ (run.from ≤ b.at)) (λ b. ((run.from ≤ b.at) × (block_end b ≤ run.to)) ⊎ ((block_end b ≤ to) ⊎ (to + (run.to - run.from) ≤ b.at)))
          (λ b one two. elim one [
            | inl under ↦ elim two [ inl before ↦ inr (inl (omega arith)) | inr from ↦ inl (from, under) ]
            | inr over ↦ inr (inr over)
          ]) _ bare is.whole.0;
      grained = (multiple_less l.grain _ apart (C.multiple_sum l.grain to _ grained (multiple_less l.grain run.to _ is.grained.1 is.grained.0)) part, is.grained.0, part);
    }

-- where no block is there is one hole
pub bare_free : (l : Layout) → C.IsOrdered l → (from to : ℕ) → l.lo ≤ from → from < to → to ≤ l.hi → IsBare from to l.blocks → C.IsFree from to (holes_of l)
bare_free l ordered from to low some high bare =
    free_of from to l.lo l.hi _ some (AreHoles-holes l.lo l.lo l.hi _ (omega arith) ordered.laid)
    (λ p ge lt. lacks_free p l.lo l.hi _ ordered.laid (omega arith) (omega arith)
    (C.Each-map (λ b. (block_end b ≤ from) ⊎ (to ≤ b.at)) _ (λ b out. elim out [ inl before ↦ inr (omega arith) | inr behind ↦ inl (omega arith) ]) _ bare))

-- a run's bytes are a part of the range, and so are they at another place in it
pub run_part : (l : Layout) (run : Span) → IsRun l run → run.from < run.to → (at : ℕ) → l.lo ≤ at → at + (run.to - run.from) ≤ l.hi → IsMultiple l.grain at → IsPart (range_of l) at (run.to - run.from)
run_part l run is some at low high grained = record { some = omega arith; from = low; to = high; grained = grained; rounded = multiple_less l.grain run.to _ is.grained.1 is.grained.0 }

module _ (l : Layout) (ordered : C.IsOrdered l) (run : Span) (is : IsRun l run) (some : run.from < run.to) (to a c apart : ℕ) (way : IsWay l run to a c apart) where
  abbrev size : ℕ
  size = run.to - run.from

  are : AreHoles l.lo l.hi (holes_of l)
  are = AreHoles-holes l.lo l.lo l.hi l.blocks (let one = is.inside.0 in let two = is.inside.2 in omega arith) ordered.laid

  -- a block is in the run, or misses both places
  abbrev At : Block → Type 0
  At b = (0 < b.size) × (((run.from ≤ b.at) × (block_end b ≤ run.to)) ⊎ (((block_end b ≤ run.from) ⊎ (run.to ≤ b.at)) × ((block_end b ≤ to) ⊎ (to + size ≤ b.at))))

  each_at : AllByRecursion At l.blocks
  each_at = Each-both (Lies run) (λ b. ((run.from ≤ b.at) × (block_end b ≤ run.to)) ⊎ ((block_end b ≤ to) ⊎ (to + size ≤ b.at))) At
      (λ b at clear. let own = at.0 in (
        own,
        elim clear [
          | inl inside ↦ inl inside
          | inr out ↦ elim at.1 [
            | inl before ↦ inr (inl before, out)
            | inr other ↦ elim other [ inl behind ↦ inr (inr behind, out) | inr inside ↦ inl inside ]
          ]
        ],
      )) l.blocks (lies_of run l.lo l.hi l.blocks ordered.laid is.whole.0 is.whole.1) way.clear

  some_entered : a < a + apart
  some_entered = let b = way.some.0 in omega arith

  pub free_entered : C.IsFree a (a + apart) (holes_of l)
  free_entered =
      let low = way.low in let high = way.high in let from = way.entered.0 in let end = way.entered.1 in
      free_of a (a + apart) l.lo l.hi (holes_of l) some_entered are
      (λ p ge lt. lacks_free p l.lo l.hi l.blocks ordered.laid (omega arith) (omega arith)
      (C.Each-map At (Lacks p) (λ b at. let own = at.0 in elim at.1 [
        | inl inside ↦ let one = inside.0 in let two = inside.1 in elim way.entered_out [ inl before ↦ inl (omega arith) | inr behind ↦ inr (omega arith) ]
        | inr out ↦ elim out.1 [ inl before ↦ inr (omega arith) | inr behind ↦ inl (omega arith) ]
      ]) l.blocks each_at))

  abbrev mid : List Span
  mid = taken a (a + apart) (holes_of l)

  are_then : AreHoles l.lo l.hi mid
  are_then = C.AreHoles-taken l.hi a (a + apart) some_entered l.lo (holes_of l) are free_entered

  -- what is still free then was free, and is not the new place
  free_then : (p : ℕ) → IsIn p mid → IsIn p (holes_of l) × ((p < to) ⊎ (to + size ≤ p))
  free_then p free =
      let r = C.in_taken l.hi a (a + apart) some_entered l.lo p (holes_of l) are free_entered free in (
        r.0,
        elim (cases_lt p to) [
          | inl below ↦ inl below
          | inr from ↦ elim (cases_lt p (to + size)) [
            | inl inside ↦ elim (way.entered_rest p from inside) [
              | inl own ↦ let one = own.0 in let two = own.1 in elim r.1 [ inl less ↦ absurd (omega arith) | inr more ↦ absurd (omega arith) ]
              | inr in_run ↦ absurd (is.full p in_run.0 in_run.1 r.0)
            ]
            | inr past ↦ inr past
          ]
        ],
      )

  pub used_left : IsUsed c (c + apart) mid
  used_left =
      let first = way.some.0 in let from = way.left.0 in let end = way.left.1 in
      used_of c (c + apart) l.lo l.hi mid (omega arith) are_then (λ p ge lt free. is.full p (omega arith) (omega arith) (free_then p free).0)

  pub used_then : IsUsed to (to + size) mid
  used_then = used_of to (to + size) l.lo l.hi mid (omega arith) are_then (λ p from below free. elim (free_then p free).1 [ inl before ↦ omega arith | inr behind ↦ omega arith ])

  pub used_run : IsUsed run.from (run.from + size) (holes_of l)
  used_run = used_of run.from (run.from + size) l.lo l.hi (holes_of l) (omega arith) are (λ p from below free. is.full p from (omega arith) free)

  abbrev after : List Span
  after = C.joined c (c + apart) mid

  are_after : AreHoles l.lo l.hi after
  are_after =
      let first = way.some.0 in let from = way.left.0 in let end = way.left.1 in let top = is.inside.2 in let bottom = is.inside.0 in
      C.AreHoles-joined c (c + apart) l.lo l.hi mid (omega arith) (omega arith) (omega arith) are_then used_left

  -- what is free afterwards
  free_after : (p : ℕ) → IsIn p after → (IsIn p (holes_of l) ⊎ ((c ≤ p) × (p < c + apart))) × ((p < to) ⊎ (to + size ≤ p))
  free_after p free = elim (C.in_joined c (c + apart) p mid free) [
    | inl rest ↦ let r = free_then p rest in (inl r.0, r.1)
    | inr own ↦ let s = own.0 in let e = own.1 in (inr (s, e), elim way.left_out [ inl before ↦ inl (omega arith) | inr behind ↦ inr (omega arith) ])
  ]

  pub used_after : IsUsed to (to + size) after
  used_after = used_of to (to + size) l.lo l.hi after (omega arith) are_after (λ p from below free. elim (free_after p free).1 [ inl before ↦ omega arith | inr behind ↦ omega arith ])

  -- by cases of where a block lies
  module _ (P : Block → Type 0) (b : Block) (at : At b) (inside : run.from ≤ b.at → block_end b ≤ run.to → P (record b { at = to + (b.at - run.from) })) (outside : (block_end b ≤ run.from) ⊎ (run.to ≤ b.at) → (block_end b ≤ to) ⊎ (to + size ≤ b.at) → P b) where
    by_side : P (slid_with run to b)
    by_side = let own = at.0 in elim at.1 [
      | inl in_run ↦ let from = in_run.0 in let end = in_run.1 in subst P (sym (slid_inside run to b from (omega arith))) (inside from end)
      | inr out ↦ elim out.0 [
        | inl before ↦ subst P (sym (slid_below run to b (omega arith))) (outside out.0 out.1)
        | inr behind ↦ subst P (sym (slid_above run to b behind)) (outside out.0 out.1)
      ]
    ]

  -- a byte that is free afterwards is in no block, where those of the run have slid
  lacks_then : (p : ℕ) → IsIn p after → (b : Block) → At b → ((c ≤ p) × (p < c + apart)) ⊎ Lacks p b → Lacks p (slid_with run to b)
  lacks_then p free b at was =
      let own = at.0 in
      by_side (Lacks p) b at
      (λ from end. elim (free_after p free).1 [ inl below ↦ inl (omega arith) | inr above ↦ inr (omega arith) ])
      (λ out _. elim was [
        | inl left ↦ let one = left.0 in let two = left.1 in let low = way.left.0 in let high = way.left.1 in elim out [ inl before ↦ inr (omega arith) | inr behind ↦ inl (omega arith) ]
        | inr lacks ↦ lacks
      ])

  -- and back
  lacked_by : (p q : ℕ) → (b : Block) → At b → (((p < run.from) ⊎ (run.to ≤ p)) × (q ≡ p)) ⊎ ((to ≤ p) × (p < to + size) × (q ≡ p - to + run.from)) → Lacks p (slid_with run to b) → Lacks q b
  lacked_by p q b at which =
      let own = at.0 in
      by_side (λ d. Lacks p d → Lacks q b) b at
      (λ from end lacks. elim which [
        | inl out ↦ let e = out.1 in elim out.0 [ inl x ↦ inl (omega arith) | inr x ↦ inr (omega arith) ]
        | inr in_new ↦ let one = in_new.0 in let e = in_new.2 in elim lacks [ inl x ↦ inl (omega arith) | inr x ↦ inr (omega arith) ]
      ])
      (λ out _ lacks. elim which [
        | inl same ↦ let e = same.1 in elim lacks [ inl x ↦ inl (omega arith) | inr x ↦ inr (omega arith) ]
        | inr in_new ↦ let one = in_new.0 in let two = in_new.1 in let e = in_new.2 in elim out [ inl before ↦ inr (omega arith) | inr behind ↦ inl (omega arith) ]
      ])

  -- a byte that no block has afterwards is not in the new place
  not_new : (p : ℕ) → AllByRecursion (Lacks p) (map (slid_with run to) l.blocks) → (p < to) ⊎ (to + size ≤ p)
  not_new p all = elim (cases_lt p to) [
    | inl below ↦ inl below
    | inr from ↦ elim (cases_lt p (to + size)) [
      | inl inside ↦
          let bottom = is.inside.0 in let top = is.inside.2 in
          absurd (is.full (p - to + run.from) (omega arith) (omega arith) (lacks_free (p - to + run.from) l.lo l.hi l.blocks ordered.laid (omega arith) (omega arith)
          (All-unmapped At (Lacks (p - to + run.from)) (Lacks p) (slid_with run to) (λ b at lacks. lacked_by p (p - to + run.from) b at (inr (from, inside, refl)) lacks) l.blocks each_at all)))
      | inr past ↦ inr past
    ]
  ]

  pub holes_run : C.IsLaid l.lo l.hi (map (slid_with run to) l.blocks) → after ≡ holes l.lo l.hi (map (slid_with run to) l.blocks)
  holes_run laid =
      are_between l.lo l.hi (map (slid_with run to) l.blocks) after laid are_after
      (λ p free. elim (free_after p free).0 [
        | inl old ↦
            let r = free_lacks p l.lo l.hi l.blocks ordered.laid old in
            (r.0, r.1, All-mapped At (Lacks p) (Lacks p) (slid_with run to) (λ b at lacks. lacks_then p free b at (inr lacks)) l.blocks each_at r.2)
        | inr own ↦
            let s = own.0 in let e = own.1 in let bottom = is.inside.0 in let top = is.inside.2 in let low = way.left.0 in let high = way.left.1 in
            (omega arith, omega arith, All-mapped At At (Lacks p) (slid_with run to) (λ b at same. lacks_then p free b at (inl own)) l.blocks each_at each_at)
      ])
      (λ p bottom top all.
      let out = not_new p all in
      C.joined_in c (c + apart) p mid (elim (cases_lt p run.from) [
        | inl before ↦ inl (still p bottom top all out (inl before))
        | inr from ↦ elim (cases_lt p run.to) [
          | inr behind ↦ inl (still p bottom top all out (inr behind))
          | inl inside ↦ elim (way.left_rest p from inside) [
            | inl own ↦ inr own
            | inr in_new ↦ let one = in_new.0 in let two = in_new.1 in elim out [ inl x ↦ absurd (omega arith) | inr x ↦ absurd (omega arith) ]
          ]
        ]
      ]))
    where
      still : (p : ℕ) → l.lo ≤ p → p < l.hi → AllByRecursion (Lacks p) (map (slid_with run to) l.blocks) → (p < to) ⊎ (to + size ≤ p) → (p < run.from) ⊎ (run.to ≤ p) → IsIn p mid
      still p bottom top all out outside =
          let from = way.entered.0 in let end = way.entered.1 in
          C.taken_in l.hi a (a + apart) some_entered l.lo p (holes_of l) are free_entered (elim out [ inl below ↦ inl (omega arith) | inr above ↦ inr (omega arith) ])
          (lacks_free p l.lo l.hi l.blocks ordered.laid bottom top
          (All-unmapped At (Lacks p) (Lacks p) (slid_with run to) (λ b at lacks. lacked_by p p b at (inl (outside, refl)) lacks) l.blocks each_at all))

  -- the parts lie in the range
  pub part_entered : IsPart (range_of l) a apart
  part_entered = let low = way.low in let high = way.high in let from = way.entered.0 in let end = way.entered.1 in record {
    some = way.some.0;
    from = omega arith;
    to = omega arith;
    grained = way.grained.0;
    rounded = way.grained.2;
  }

  pub part_left : IsPart (range_of l) c apart
  part_left = let from = way.left.0 in let end = way.left.1 in let top = is.inside.2 in let bottom = is.inside.0 in record {
    some = way.some.0;
    from = omega arith;
    to = omega arith;
    grained = way.grained.1;
    rounded = way.grained.2;
  }
