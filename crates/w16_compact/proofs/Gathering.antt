-- A gather from its start, by a run, to its end.
use Rattle.w16_compact.proofs
use proofs.Common as C
use proofs.Common.{ℕ, ◌≡◌, ◌≢◌, ◌+◌, ◌-◌, ◌<◌, ◌≤◌, ◌⊎◌, max, List, [], ◌∷◌, map, cond, eqb, Some, arith, refl, sym, ◌∙◌, subst, ap, inl, inr, slice_get, IfSome, lt-ltb, le-ltb, cases_lt, eq-eqb, false≢true, AllByRecursion, Block, Span, IsLaid, block_end, Each-map, Layout, IsOrdered, rank}
use proofs.Common.{IsCut, IsRun, IsBare, Lacks, later, lacks_free, slid_below, slid_above, slid_inside, Lies, All-mapped, gathered, packed, moved_between, FitsGap}
use proofs.Settled.{same_layout}
use proofs.Order.{each_got, apart_got, all_from}
use Rattle.std.proofs.lemmas.Bool.{ne_eqb}

pub moved_same : (bs : List Block) → moved_between bs bs ≡ 0
moved_same [] = refl
moved_same (b ∷ bs) = rw (eq-eqb b.at b.at refl) (let ih = moved_same bs in omega (arith, ih))

-- At the start: no byte is gathered yet.
pub cut_low : (low high : ℕ) (bs : List Block) → low ≤ high → AllByRecursion (FitsGap low high) bs → IsCut low bs
cut_low low high bs le all = Each-map _ (λ b. (block_end b ≤ low) ⊎ (low ≤ b.at))
    (λ b is. elim is [
      | inl below ↦ inl below
      | inr other ↦ elim other [ inl above ↦ inr (omega arith) | inr inside ↦ inr inside.0 ]
    ]) bs all

pub cut_high : (low high : ℕ) (bs : List Block) → low ≤ high → AllByRecursion (FitsGap low high) bs → IsCut high bs
cut_high low high bs le all = Each-map _ (λ b. (block_end b ≤ high) ⊎ (high ≤ b.at))
    (λ b is. elim is [
      | inl below ↦ inl (omega arith)
      | inr other ↦ elim other [ inl above ↦ inr above | inr inside ↦ inl inside.1 ]
    ]) bs all

pub run_start : (l : Layout) (low high : ℕ) → C.MayGather l low high → C.IsMultiple l.grain low → IsRun l (record { from = low; to = low })
run_start l low high may grained =
    let one = may.inside.1 in let two = may.inside.2 in let cut = cut_low low high _ one may.loose in
    record { inside = (may.inside.0, omega arith, omega arith); grained = (grained, grained); whole = (cut, cut); full = λ p from to free. absurd (omega arith) }

-- an old block and the same now, with its size, and at its place where it isn't gathered yet
abbrev pub AreKept : ℕ → List Block → List Block → Type 0
AreKept to [] [] = Unit {0}
AreKept to [] (c ∷ cs) = ⊥
AreKept to (b ∷ bs) [] = ⊥
AreKept to (b ∷ bs) (c ∷ cs) = (c.size ≡ b.size) × (to ≤ c.at → c.at ≡ b.at) × AreKept to bs cs

pub kept_start : (to : ℕ) (bs : List Block) → AreKept to bs bs
kept_start to [] = tt
kept_start to (b ∷ bs) = (refl, (λ le. refl), kept_start to bs)

-- The block that is reached from a place: nothing begins between, and no block reaches over where it begins.
pub reached : (low high to : ℕ) (bs : List Block) (b : Block) → IsLaid low high bs → slice_get bs (rank to bs) ≡ Some b → (to ≤ b.at) × AllByRecursion (λ c. (c.at < to) ⊎ (b.at ≤ c.at)) bs × IsCut b.at bs
reached low high to [] b laid got = absurd (false≢true (ap C.is_some got))
reached low high to (c ∷ cs) b laid got = elim (cases_lt c.at to) [
  | inl lt ↦
      let got' = rw (lt-ltb c.at to lt) at got in
      let rest = reached (block_end c) high to cs b laid.2 got' in let above = (apart_got (block_end c) high cs (rank to cs) b laid.2 got').0 in
      (rest.0, (inl lt, rest.1), (inl above, rest.2))
  | inr ge ↦
      let got' : Some c ≡ Some b = rw (le-ltb c.at to ge) at got in let same : c ≡ b = cc in let at = ap (λ (x : Block). x.at) same in let some = laid.1 in
      let behind = all_from _ high cs laid.2 in (
        omega arith,
        (inr (omega arith), Each-map (λ y. block_end c ≤ y.at) (λ y. (y.at < to) ⊎ (b.at ≤ y.at)) (λ y le. inr (omega arith)) cs behind),
        (inr (omega arith), Each-map (λ y. block_end c ≤ y.at) (λ y. (block_end y ≤ b.at) ⊎ (b.at ≤ y.at)) (λ y le. inr (omega arith)) cs behind),
      )
]

-- so no block has a byte from the place on up to it
pub bare_before : (to from : ℕ) (bs : List Block) → AllByRecursion (λ c. (c.at < to) ⊎ (from ≤ c.at)) bs → IsCut to bs → IsBare to from bs
bare_before to from bs begin cut =
    C.Each-both (λ c. (c.at < to) ⊎ (from ≤ c.at)) (λ c. (block_end c ≤ to) ⊎ (to ≤ c.at)) (λ c. (block_end c ≤ to) ⊎ (from ≤ c.at))
    (λ c one two. elim one [
      | inl below ↦ elim two [ inl end ↦ inl end | inr above ↦ absurd (omega arith) ]
      | inr above ↦ inr above
    ]) bs begin cut

-- and its run has bytes
pub some_run : (l : Layout) (high end i : ℕ) (b : Block) → slice_get l.blocks i ≡ Some b → b.at < high → b.at ≤ end → C.EndsAt l high end → b.at < end
some_run l high end i b got lt le last = elim last [
  | inl top ↦ omega arith
  | inr none ↦ elim (cases_lt b.at end) [ inl less ↦ less | inr more ↦ absurd (each_got (λ c. c.at ≢ end) _ i b got none (omega arith)) ]
]

-- A step: a run slides to where the gathered ones end.
module _ (l : Layout) (ordered : IsOrdered l) (low high : ℕ) (to : ℕ) (run : Span) (from_low : low ≤ to) (down : to ≤ run.from) (some : run.from < run.to) (top : run.to ≤ high)
    (is : IsRun l run) (bare : IsBare to run.from l.blocks) where
  -- where it stands there already nothing changes, and else the block that is in it lies lower
  lies : AllByRecursion (λ b. Lies run b × ((block_end b ≤ to) ⊎ (run.from ≤ b.at))) l.blocks
  lies = C.Each-both (Lies run) (λ b. (block_end b ≤ to) ⊎ (run.from ≤ b.at)) (λ b. Lies run b × ((block_end b ≤ to) ⊎ (run.from ≤ b.at))) (λ b one two. (one, two)) l.blocks
      (C.lies_of run l.lo l.hi l.blocks ordered.laid is.whole.0 is.whole.1) bare

  abbrev At : Block → Type 0
  At b = Lies run b × ((block_end b ≤ to) ⊎ (run.from ≤ b.at))

  abbrev slid : Block → Block
  slid b = C.slid_with run to b

  abbrev next : ℕ
  next = to + (run.to - run.from)

  -- by cases of where a block lies: before the gathered bytes' end, behind the run, or in it
  module _ (P : Block → Type 0) (b : Block) (at : At b) (before : block_end b ≤ to → P b) (behind : run.to ≤ b.at → P b) (inside : run.from ≤ b.at → block_end b ≤ run.to → P (record b { at = to + (b.at - run.from) })) where
    by_place : P (slid b)
    by_place = let size = at.0.0 in elim at.0.1 [
      | inl below ↦ elim at.1 [ inl under ↦ subst P (sym (slid_below run to b (omega arith))) (before under) | inr over ↦ absurd (omega arith) ]
      | inr other ↦ elim other [
        | inl past ↦ subst P (sym (slid_above run to b past)) (behind past)
        | inr in_run ↦ let from = in_run.0 in let end = in_run.1 in subst P (sym (slid_inside run to b from (omega arith))) (inside from end)
      ]
    ]

  pub fits_then : AllByRecursion (FitsGap low high) l.blocks → AllByRecursion (FitsGap low high) (map slid l.blocks)
  fits_then all = All-mapped At (FitsGap low high) (FitsGap low high) slid
      (λ b at fits. by_place (FitsGap low high) b at (λ _. fits) (λ _. fits) (λ from end. let size = at.0.0 in elim fits [
        | inl below ↦ absurd (omega arith)
        | inr other ↦ elim other [
          | inl above ↦ absurd (omega arith)
          | inr inside ↦ inr (inr (omega arith, omega arith, inside.2))
        ]
      ])) l.blocks lies all

  -- what is left to do gives the same blocks
  same_packed : (q hi p : ℕ) (bs : List Block) → IsLaid q hi bs → AllByRecursion At bs → packed high p (map slid bs) ≡ packed high p bs
  same_packed q hi p [] laid at = refl
  same_packed q hi p (b ∷ bs) laid at = elim (cases_lt b.at high) [
    | inl lt ↦
        first p (slid b) (map slid bs) (by_place (λ c. c.at < high) b at.0 (λ _. lt) (λ _. lt) (λ from end. let size = at.0.0.0 in omega arith))
        ∙ (λ i. by_place (λ c. record c { at = p } ≡ record b { at = p }) b at.0 (λ _. refl) (λ _. refl) (λ _ _. refl) i ∷ packed high (p + by_place (λ c. c.size ≡ b.size) b at.0 (λ _. refl) (λ _. refl) (λ _ _. refl) i) (map slid bs))
        ∙ ap (λ (cs : List Block). record b { at = p } ∷ cs) (same_packed (block_end b) hi (p + b.size) bs laid.2 at.1) ∙ sym (first p b bs lt)
    | inr ge ↦
        let some_bytes = laid.1 in
        ap (packed high p) (λ i. slid_above run to b (omega arith) i ∷ C.map-same slid bs (Each-map (λ y. block_end b ≤ y.at) (λ y. slid y ≡ y) (λ y le. slid_above run to y (omega arith)) bs (all_from (block_end b) hi bs laid.2)) i)
  ]
    where
      first : (p : ℕ) (c : Block) (cs : List Block) → c.at < high → packed high p (c ∷ cs) ≡ record c { at = p } ∷ packed high (p + c.size) cs
      first p c cs lt = rw (lt-ltb c.at high lt) refl

  same_gathered : (q hi : ℕ) (bs : List Block) → IsLaid q hi bs → AllByRecursion At bs → gathered low high (map slid bs) ≡ gathered low high bs
  same_gathered q hi [] laid at = refl
  same_gathered q hi (b ∷ bs) laid at = elim (cases_lt b.at low) [
    | inl lt ↦ ap (λ (c : Block). gathered low high (c ∷ map slid bs)) (slid_below run to b (omega arith)) ∙ passed b (map slid bs) lt ∙ ap (λ (cs : List Block). b ∷ cs) (same_gathered (block_end b) hi bs laid.2 at.1) ∙ sym (passed b bs lt)
    | inr ge ↦
        from_here (slid b) (map slid bs) (by_place (λ c. low ≤ c.at) b at.0 (λ _. ge) (λ _. ge) (λ from end. omega arith))
        ∙ same_packed q hi low (b ∷ bs) laid at ∙ sym (from_here b bs ge)
  ]
    where
      passed : (c : Block) (cs : List Block) → c.at < low → gathered low high (c ∷ cs) ≡ c ∷ gathered low high cs
      passed c cs lt = rw (lt-ltb c.at low lt) refl

      from_here : (c : Block) (cs : List Block) → low ≤ c.at → gathered low high (c ∷ cs) ≡ packed high low (c ∷ cs)
      from_here c cs le = rw (le-ltb c.at low le) refl

  pub list_then : gathered low high (map slid l.blocks) ≡ gathered low high l.blocks
  list_then = same_gathered l.lo l.hi l.blocks ordered.laid lies

  -- what is gathered is a run, with what comes to it
  pub run_then : (new : Layout) → IsOrdered new → new ≡ record { cap = l.cap; lo = l.lo; hi = l.hi; grain = l.grain; blocks = map slid l.blocks } → IsRun l (record { from = low; to = to }) → IsRun new (record { from = low; to = next })
  run_then new ordered_new same settled = subst (λ (m : Layout). IsRun m (record { from = low; to = next })) (sym same) (record {
    inside = (settled.inside.0, omega arith, let end = is.inside.2 in omega arith);
    grained = (settled.grained.0, C.multiple_sum l.grain to (run.to - run.from) settled.grained.1 (C.multiple_less l.grain run.to run.from is.grained.1 is.grained.0));
    whole = (
      All-mapped At (λ b. (block_end b ≤ low) ⊎ (low ≤ b.at)) (λ b. (block_end b ≤ low) ⊎ (low ≤ b.at)) slid
          (λ b at cut. by_place (λ c. (block_end c ≤ low) ⊎ (low ≤ c.at)) b at (λ _. cut) (λ _. cut) (λ from end. inr (omega arith))) l.blocks lies settled.whole.0,
      All-mapped At At (λ b. (block_end b ≤ next) ⊎ (next ≤ b.at)) slid
          (λ b at _. by_place (λ c. (block_end c ≤ next) ⊎ (next ≤ c.at)) b at (λ under. inl (omega arith)) (λ past. inr (omega arith)) (λ from end. inl (omega arith))) l.blocks lies lies,
    );
    full = λ p from end free.
        let laid : IsLaid l.lo l.hi (map slid l.blocks) = subst (λ (m : Layout). IsLaid m.lo m.hi m.blocks) same ordered_new.laid in
        let none = C.free_lacks p l.lo l.hi (map slid l.blocks) laid free in
        elim (cases_lt p to) [
          | inl below ↦
              settled.full p from below (lacks_free p l.lo l.hi l.blocks ordered.laid none.0 none.1
              (C.All-unmapped At (Lacks p) (Lacks p) slid (λ b at lacks. lacks_old p p b at lacks (inl (refl, below))) l.blocks lies none.2))
          | inr past ↦
              let bottom = is.inside.0 in let up = is.inside.2 in
              is.full (p - to + run.from) (omega arith) (omega arith) (lacks_free (p - to + run.from) l.lo l.hi l.blocks ordered.laid (omega arith) (omega arith)
              (C.All-unmapped At (Lacks (p - to + run.from)) (Lacks p) slid (λ b at lacks. lacks_old p (p - to + run.from) b at lacks (inr (refl, past, end))) l.blocks lies none.2))
        ];
  })
    where
      lacks_old : (p q : ℕ) (b : Block) → At b → Lacks p (slid b) → ((q ≡ p) × (p < to)) ⊎ ((q ≡ p - to + run.from) × (to ≤ p) × (p < next)) → Lacks q b
      lacks_old p q b at = by_place (λ c. Lacks p c → ((q ≡ p) × (p < to)) ⊎ ((q ≡ p - to + run.from) × (to ≤ p) × (p < next)) → Lacks q b) b at
          (λ under lacks which. elim which [
            | inl low_one ↦ let e = low_one.0 in elim lacks [ inl x ↦ inl (omega arith) | inr x ↦ inr (omega arith) ]
            | inr new ↦ let e = new.0 in let f = new.1 in inr (omega arith)
          ])
          (λ past lacks which. elim which [
            | inl low_one ↦ let e = low_one.0 in let f = low_one.1 in inl (omega arith)
            | inr new ↦ let e = new.0 in let f = new.2 in inl (omega arith)
          ])
          (λ from end lacks which. elim which [
            | inl low_one ↦ let e = low_one.0 in let f = low_one.1 in inl (omega arith)
            | inr new ↦ let e = new.0 in let f = new.1 in elim lacks [ inl x ↦ inl (omega arith) | inr x ↦ inr (omega arith) ]
          ])

  -- the blocks that are still to come stand where they stood
  kept_each : (old bs : List Block) → AllByRecursion At bs → AreKept to old bs → AreKept next old (map slid bs)
  kept_each [] [] at kept = tt
  kept_each [] (b ∷ bs) at kept = kept
  kept_each (o ∷ os) [] at kept = kept
  kept_each (o ∷ os) (b ∷ bs) at kept =
      let r = by_place (λ c. (c.size ≡ o.size) × (next ≤ c.at → c.at ≡ o.at)) b at.0
      (λ under. (kept.0, λ le. let size = at.0.0.0 in absurd (omega arith))) (λ past. (kept.0, λ le. kept.1 (omega arith))) (λ from end. (kept.0, λ le. let size = at.0.0.0 in absurd (omega arith))) in
      (r.0, r.1, kept_each os bs at.1 kept.2)

  pub kept_then : (old : List Block) → AreKept to old l.blocks → AreKept next old (map slid l.blocks)
  kept_then old = kept_each old l.blocks lies

  -- the bytes of the run's blocks
  abbrev own : Block → ℕ
  own b = cond (eqb (slid b).at b.at) 0 b.size

  abbrev run_bytes : List Block → ℕ
  run_bytes [] = 0
  run_bytes (b ∷ bs) = own b + run_bytes bs

  module _ (lower : to < run.from) where
    own_before : (b : Block) → At b → (block_end b ≤ to) ⊎ (run.to ≤ b.at) → own b ≡ 0
    own_before b at out = C.cond-true (eqb (slid b).at b.at) 0 b.size (eq-eqb (slid b).at b.at (by_place (λ c. c.at ≡ b.at) b at (λ _. refl) (λ _. refl) (λ from end. let size = at.0.0 in elim out [ inl x ↦ absurd (omega arith) | inr x ↦ absurd (omega arith) ])))

    own_inside : (b : Block) → run.from ≤ b.at → b.at < run.to → own b ≡ b.size
    own_inside b from lt = C.cond-false (eqb (slid b).at b.at) 0 b.size (ne_eqb (slid b).at b.at (λ e. let at = ap (λ (c : Block). c.at) (slid_inside run to b from lt) in omega arith))

    -- they fill the run
    run_sum : (lo hi : ℕ) (bs : List Block) → IsLaid lo hi bs → AllByRecursion At bs → ((p : ℕ) → max lo run.from ≤ p → p < run.to → AllByRecursion (Lacks p) bs → ⊥) → run_bytes bs ≡ run.to - max lo run.from
    run_sum lo hi [] laid at full = elim (cases_lt (max lo run.from) run.to) [
      | inl lt ↦ absurd (full (max lo run.from) (omega arith) lt tt)
      | inr ge ↦ omega arith
    ]
    run_sum lo hi (b ∷ bs) laid at full =
        let size = laid.1 in let start = laid.0 in
        let rest = run_sum (block_end b) hi bs laid.2 at.1 (λ p from end lacks. full p (omega arith) end (inr (omega arith), lacks)) in
        elim at.0.0.1 [
          | inl below ↦ let none = own_before b at.0 (inl (elim at.0.1 [ inl under ↦ under | inr over ↦ absurd (omega arith) ])) in omega arith
          | inr other ↦ elim other [
            | inl past ↦
                let none = own_before b at.0 (inr past) in
                elim (cases_lt (max lo run.from) run.to) [
                  | inl lt ↦ absurd (full (max lo run.from) (omega arith) lt (inl (omega arith), later (max lo run.from) (block_end b) hi bs (omega arith) laid.2))
                  | inr ge ↦ omega arith
                ]
            | inr inside ↦
                let from = inside.0 in let end = inside.1 in
                let whole = own_inside b from (omega arith) in
                elim (cases_lt (max lo run.from) b.at) [
                  | inl lt ↦ absurd (full (max lo run.from) (omega arith) (omega arith) (inl (omega arith), later (max lo run.from) (block_end b) hi bs (omega arith) laid.2))
                  | inr ge ↦ omega arith
                ]
          ]
        ]

    -- they are moved once
    moved_each : (old bs : List Block) → AllByRecursion At bs → AreKept to old bs → moved_between old (map slid bs) ≡ moved_between old bs + run_bytes bs
    moved_each [] [] at kept = refl
    moved_each [] (b ∷ bs) at kept = absurd kept
    moved_each (o ∷ os) [] at kept = absurd kept
    moved_each (o ∷ os) (b ∷ bs) at kept =
        let rest = moved_each os bs at.1 kept.2 in let size = at.0.0.0 in
        elim at.0.0.1 [
          | inl below ↦ let none = own_before b at.0 (inl (elim at.0.1 [ inl under ↦ under | inr over ↦ absurd (omega arith) ])) in let same = ap (λ (c : Block). cond (eqb o.at c.at) 0 o.size) (slid_below run to b (omega arith)) in omega (arith, none, same, rest)
          | inr other ↦ elim other [
            | inl past ↦ let none = own_before b at.0 (inr past) in let same = ap (λ (c : Block). cond (eqb o.at c.at) 0 o.size) (slid_above run to b past) in omega (arith, none, same, rest)
            | inr inside ↦
                let from = inside.0 in let end = inside.1 in
                let whole = own_inside b from (omega arith) in let stood = kept.1 (omega arith) in let long = kept.0 in
                let place = ap (λ (c : Block). c.at) (slid_inside run to b from (omega arith)) in
                let before = C.cond-true (eqb o.at b.at) 0 o.size (eq-eqb o.at b.at (sym stood)) in
                let after = C.cond-false (eqb o.at (slid b).at) 0 o.size (ne_eqb o.at (slid b).at (λ e. omega arith)) in
                omega (arith, whole, before, after, rest, long)
          ]
        ]

    moved_then : (old : List Block) → AreKept to old l.blocks → moved_between old (map slid l.blocks) ≡ moved_between old l.blocks + (run.to - run.from)
    moved_then old kept =
        let bottom = is.inside.0 in let up = is.inside.2 in
        let sum = run_sum l.lo l.hi l.blocks ordered.laid lies (λ p from end lacks. is.full p (omega arith) end (lacks_free p l.lo l.hi l.blocks ordered.laid (omega arith) (omega arith) lacks)) in
        let each = moved_each old l.blocks lies kept in omega arith

  pub moved_step : (old : List Block) → AreKept to old l.blocks → (r : ℕ) → r ≡ cond (eqb run.from to) 0 (run.to - run.from) → moved_between old (map slid l.blocks) ≡ moved_between old l.blocks + r
  moved_step old kept r told = elim (C.eqb_tells run.from to) [
    | inl same ↦
        let none : r ≡ 0 = rw same.0 at told in
        let still = ap (λ (m : Layout). moved_between old m.blocks) (same_layout l run to same.1) in omega (arith, none, still)
    | inr other ↦
        let all : r ≡ run.to - run.from = rw other.0 at told in
        let ne = other.1 in let sum = moved_then (omega arith) old kept in omega (arith, all, sum)
  ]

pub at_most : (r a b n : ℕ) → r ≡ cond (eqb a b) 0 n → r ≤ n
at_most r a b n told = elim (C.eqb_tells a b) [
  | inl same ↦ let none = rw same.0 at told in omega arith
  | inr other ↦ let all = rw other.0 at told in omega arith
]

-- At the end: the gathered bytes are whole blocks, and behind them none begins below `high`.
module _ (low high to : ℕ) where
  packed_done : (q hi : ℕ) (bs : List Block) → IsLaid q hi bs → ((p : ℕ) → q ≤ p → p < to → AllByRecursion (Lacks p) bs → ⊥) → AllByRecursion (λ b. (b.at < to) ⊎ (high ≤ b.at)) bs → packed high q bs ≡ bs
  packed_done q hi [] laid full begin = refl
  packed_done q hi (b ∷ bs) laid full begin = elim (cases_lt b.at high) [
    | inl lt ↦ rw (lt-ltb b.at high lt) (elim begin.0 [
      | inl below ↦ elim (cases_lt q b.at) [
        | inl less ↦ absurd (full q (omega arith) (omega arith) (inl less, later q (block_end b) hi bs (let size = laid.1 in omega arith) laid.2))
        | inr more ↦
            let start = laid.0 in let here : q ≡ b.at = omega arith in
            (λ i. ap (λ (at : ℕ). let r : Block = record b { at = at } in r) here i
            ∷ (ap (λ (p : ℕ). packed high (p + b.size) bs) here ∙ packed_done (block_end b) hi bs laid.2 (λ p from end lacks. full p (let size = laid.1 in omega arith) end (inr from, lacks)) begin.1) i)
      ]
      | inr above ↦ absurd (omega arith)
    ])
    | inr ge ↦ rw (le-ltb b.at high ge) refl
  ]

  pub gathered_done : (q hi : ℕ) (bs : List Block) → IsLaid q hi bs → IsCut low bs → ((p : ℕ) → low ≤ p → p < to → AllByRecursion (Lacks p) bs → ⊥) → AllByRecursion (λ b. (b.at < to) ⊎ (high ≤ b.at)) bs → gathered low high bs ≡ bs
  gathered_done q hi [] laid cut full begin = refl
  gathered_done q hi (b ∷ bs) laid cut full begin = let size = laid.1 in elim (cases_lt b.at low) [
    | inl lt ↦ rw (lt-ltb b.at low lt) (ap (λ (cs : List Block). b ∷ cs) (gathered_done (block_end b) hi bs laid.2 cut.1
        (λ p from end lacks. full p from end (inr (elim cut.0 [ inl below ↦ omega arith | inr above ↦ absurd (omega arith) ]), lacks)) begin.1))
    | inr ge ↦ rw (le-ltb b.at low ge) (packed_done low hi (b ∷ bs) (ge, laid.1, laid.2) full begin)
  ]

-- where no block is reached
pub none_begins : (q hi high to : ℕ) (bs : List Block) → IsLaid q hi bs → IfSome (slice_get bs (rank to bs)) (λ b. high ≤ b.at) → AllByRecursion (λ b. (b.at < to) ⊎ (high ≤ b.at)) bs
none_begins q hi high to [] laid none = tt
none_begins q hi high to (b ∷ bs) laid none = elim (cases_lt b.at to) [
  | inl lt ↦ (inl lt, none_begins (block_end b) hi high to bs laid.2 (let rest : IfSome (slice_get bs (rank to bs)) (λ c. high ≤ c.at) = rw (lt-ltb b.at to lt) at none in rest))
  | inr ge ↦
      let first = rw (le-ltb b.at to ge) at none in let size = laid.1 in
      (inr first, Each-map (λ y. block_end b ≤ y.at) (λ y. (y.at < to) ⊎ (high ≤ y.at)) (λ y le. inr (omega arith)) bs (all_from _ hi bs laid.2))
]

-- A block that is reached is the first of a run that may slide.
module _ (l : Layout) (ordered : IsOrdered l) (low high to : ℕ) (b : Block) (got : slice_get l.blocks (rank to l.blocks) ≡ Some b) (fits : AllByRecursion (FitsGap low high) l.blocks) (le : low ≤ high)
    (settled : IsRun l (record { from = low; to = to })) where
  pub above : to ≤ b.at
  above = (reached l.lo l.hi to l.blocks b ordered.laid got).0

  pub cuts : IsCut b.at l.blocks × IsCut high l.blocks
  cuts = ((reached l.lo l.hi to l.blocks b ordered.laid got).2, cut_high low high l.blocks le fits)

  pub bare_to : IsBare to b.at l.blocks
  bare_to = bare_before to b.at l.blocks (reached l.lo l.hi to l.blocks b ordered.laid got).1 settled.whole.1

  pub grained_at : C.IsMultiple l.grain b.at
  grained_at = (each_got (C.IsGrained l.grain) l.blocks (rank to l.blocks) b got ordered.grained).0

-- gathered blocks are the blocks
pub list_end : (l : Layout) (low high to : ℕ) (old : List Block) → IsOrdered l → IsRun l (record { from = low; to = to }) → IfSome (slice_get l.blocks (rank to l.blocks)) (λ b. high ≤ b.at) → gathered low high l.blocks ≡ gathered low high old → l.blocks ≡ gathered low high old
list_end l low high to old ordered settled none list =
    let bottom = settled.inside.0 in let top = settled.inside.2 in
    sym (gathered_done low high to l.lo l.hi _ ordered.laid settled.whole.0
    (λ p from end lacks. settled.full p from end (lacks_free p l.lo l.hi _ ordered.laid (omega arith) (omega arith) lacks)) (none_begins l.lo l.hi high to _ ordered.laid none))
    ∙ list
