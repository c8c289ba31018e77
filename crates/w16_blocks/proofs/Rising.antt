-- Blocks of a run that slide up one after another, from the last: what a step needs, and what it leaves.
use Rattle.w16_blocks.proofs
use proofs.Common as C
use proofs.Common.{ℕ, ◌≡◌, ◌≢◌, ◌+◌, ◌-◌, ◌<◌, ◌≤◌, ◌^◌, ◌⊎◌, List, [], ◌∷◌, map, Some, eqb, arith, refl, sym, ap, ◌∙◌, subst, inl, inr, cases_lt, AllByRecursion, Block, Span, block_end, block_with, Each-both, laid_each, Layout, IsOrdered, IsCut, IsRun, slid_with}
use proofs.Free.{Lacks, lacks_free}
use proofs.Lifting.{IsPassed, fits_lifted, around}
use proofs.Remove.{with_same, with_other, each_with}
use proofs.RunHoles.{All-mapped, All-unmapped}
use proofs.Sliding.{IsAround, replaced-slid, slid_below, slid_above, slid_inside, moved_to}
use proofs.Step.{lies, grained_known, lacks_known}
use Rattle.std.proofs.lemmas.Bool.{eq-eqb}

-- an id's block, where blocks move
pub with_back : (f : Block → Block) (x : Block) (bs : List Block) → ((c : Block) → (f c).id ≡ c.id) → ((c : Block) → f c ≡ x → c ≡ x) → block_with (map f bs) x.id ≡ Some x → block_with bs x.id ≡ Some x
with_back f x [] ids back known = known
with_back f x (b ∷ bs) ids back known = elim (C.eqb_tells (f b).id x.id) [
  | inl same ↦
      let e : Some (f b) ≡ Some x = sym (with_same x.id (f b) _ same.0) ∙ known in let there : f b ≡ x = cc in
      with_same x.id b bs (eq-eqb b.id x.id (sym (ids b) ∙ same.1)) ∙ ap Some (back b there)
  | inr other ↦
      with_other x.id b bs (ap (λ i. eqb i x.id) (sym (ids b)) ∙ other.0) ∙ with_back f x bs ids back (sym (with_other x.id (f b) _ other.0) ∙ known)
]

pub slid_id : (run : Span) (to : ℕ) (b : Block) → (slid_with run to b).id ≡ b.id
slid_id run to b = elim (cases_lt b.at _) [
  | inl below ↦ ap (λ c. c.id) (slid_below run to b below)
  | inr from ↦ elim (cases_lt b.at run.to) [
    | inl inside ↦ ap (λ c. c.id) (slid_inside run to b from inside)
    | inr above ↦ ap (λ c. c.id) (slid_above run to b above)
  ]
]

-- a block that a cut may not reach over
pub cuts_each : (lo hi cap : ℕ) (x : Block) (bs : List Block) → C.IsLaid lo hi bs → AllByRecursion (λ c. (block_end c ≤ x.at) ⊎ ((block_end x ≤ c.at) ⊎ (c ≡ x))) bs → IsCut x.at bs
cuts_each lo hi cap x bs laid all = C.Each-map (λ c. (block_end c ≤ x.at) ⊎ ((block_end x ≤ c.at) ⊎ (c ≡ x))) (λ c. (block_end c ≤ x.at) ⊎ (x.at ≤ c.at))
    (λ c is. elim is [
      | inl before ↦ inl before
      | inr other ↦ elim other [ inl behind ↦ inr (omega arith) | inr same ↦ let at = ap (λ d. d.at) same in inr (omega arith) ]
    ]) bs all

-- Of a run the blocks from `at` on have slid; the last one before them is x.
module _ (l : Layout) (ordered : IsOrdered l) (ids : l.cap < 2 ^ 32) (run : Span) (is : IsRun l run) (to : ℕ) (up : run.from ≤ to) (high : to + (run.to - run.from) ≤ l.hi) (bare : C.IsBare run.to (to + (run.to - run.from)) l.blocks)
    (at : ℕ) (from : run.from < at) (end : at ≤ run.to) (cut : IsCut at l.blocks) (now : Layout) (ordered_now : IsOrdered now)
    (list : now ≡ record { cap = l.cap; lo = l.lo; hi = l.hi; grain = l.grain; blocks = map (slid_with (record { from = at; to = run.to }) (to + (at - run.from))) l.blocks }) (x : Block) (is_last : C.IsLastBelow now.blocks at x) where
  abbrev rest : Span
  rest = record { from = at; to = run.to }

  abbrev slid : Block → Block
  slid c = slid_with rest (to + (at - run.from)) c

  blocks : now.blocks ≡ map slid l.blocks
  blocks = ap (λ (m : Layout). m.blocks) list

  -- by cases of where a block began
  by_rest : (P : Block → Type 0) (c : Block) → (c.at < at → P c) → (run.to ≤ c.at → P c) → (at ≤ c.at → c.at < run.to → P (record c { at = to + (at - run.from) + (c.at - at) })) → P (slid c)
  by_rest P c below above inside = elim (cases_lt c.at at) [
    | inl lt ↦ subst P (sym (slid_below rest (to + (at - run.from)) c lt)) (below lt)
    | inr ge ↦ elim (cases_lt c.at run.to) [
      | inl lt ↦ subst P (sym (slid_inside rest (to + (at - run.from)) c ge lt)) (inside ge lt)
      | inr over ↦ subst P (sym (slid_above rest (to + (at - run.from)) c over)) (above over)
    ]
  ]

  known : block_with l.blocks x.id ≡ Some x
  known =
      let lt = is_last.below in
      with_back slid x l.blocks (slid_id rest (to + (at - run.from)))
      (λ c. by_rest (λ d. d ≡ x → c ≡ x) c (λ _ e. e) (λ _ e. e) (λ ge less e. let there = ap (λ (d : Block). d.at) e in absurd (omega arith)))
      (subst (λ bs. block_with bs x.id ≡ Some x) blocks is_last.known)

  own : (l.lo ≤ x.at) × (0 < x.size) × (block_end x ≤ l.hi)
  own = lies l x.id x known ordered

  placed_by : AllByRecursion (λ c. (block_end c ≤ x.at) ⊎ ((block_end x ≤ c.at) ⊎ (c ≡ x))) l.blocks
  placed_by = around l.lo l.hi l.cap x l.blocks ordered.laid ordered.named known

  last : AllByRecursion (λ c. (c.at ≤ x.at) ⊎ (at ≤ c.at)) l.blocks
  last = All-unmapped (λ y. (l.lo ≤ y.at) × (0 < y.size) × (block_end y ≤ l.hi)) (λ c. (c.at ≤ x.at) ⊎ (at ≤ c.at)) (λ c. (c.at ≤ x.at) ⊎ (at ≤ c.at)) slid
      (λ c _ told. elim (cases_lt c.at at) [
        | inl less ↦ subst (λ (d : Block). (d.at ≤ x.at) ⊎ (at ≤ d.at)) (slid_below rest (to + (at - run.from)) c less) told
        | inr ge ↦ inr ge
      ]) l.blocks (laid_each l.lo l.hi l.blocks ordered.laid) (subst (AllByRecursion (λ c. (c.at ≤ x.at) ⊎ (at ≤ c.at))) blocks is_last.last)

  -- it ends where they began
  pub ends_there : block_end x ≡ at
  ends_there =
      let lt = is_last.below in
      elim (each_with (λ b. (block_end b ≤ at) ⊎ (at ≤ b.at)) x.id x l.blocks known cut) [
        | inr over ↦ absurd (omega arith)
        | inl under ↦ elim (cases_lt (block_end x) at) [
          | inr same ↦ omega arith
          | inl less ↦
              let bottom = is.inside.0 in let top = is.inside.2 in
              absurd (is.full (at - 1) (omega arith) (omega arith) (lacks_free (at - 1) l.lo l.hi l.blocks ordered.laid (omega arith) (omega arith)
              (Each-both (λ c. (c.at ≤ x.at) ⊎ (at ≤ c.at)) (λ c. (block_end c ≤ x.at) ⊎ ((block_end x ≤ c.at) ⊎ (c ≡ x))) (Lacks (at - 1))
              (λ c one two. elim one [
                | inr behind ↦ inl (omega arith)
                | inl before ↦ elim two [
                  | inl far ↦ inr (omega arith)
                  | inr other ↦ elim other [ inl past ↦ let some = own.1 in absurd (omega arith) | inr same ↦ let place = ap (λ (d : Block). d.at) same in let long = ap (λ (d : Block). d.size) same in inr (omega arith) ]
                ]
              ]) l.blocks last placed_by)))
        ]
      ]

  pub begins_in : run.from ≤ x.at
  begins_in = let e = ends_there in elim (each_with (λ b. (block_end b ≤ run.from) ⊎ (run.from ≤ b.at)) x.id x l.blocks known is.whole.0) [ inl before ↦ absurd (omega arith) | inr inside ↦ inside ]

  abbrev next : ℕ
  next = to + (x.at - run.from)

  next_end : next + x.size ≡ to + (at - run.from)
  next_end = let e = ends_there in let b = begins_in in omega arith

  passed : AllByRecursion (IsPassed x next) now.blocks
  passed =
      let e = next_end in
      subst (AllByRecursion (IsPassed x next)) (sym blocks)
      (All-mapped (λ c. ((c.at ≤ x.at) ⊎ (at ≤ c.at)) × ((l.lo ≤ c.at) × (0 < c.size) × (block_end c ≤ l.hi))) (λ c. (block_end c ≤ run.to) ⊎ (to + (run.to - run.from) ≤ c.at)) (IsPassed x next) slid
      (λ c both free. let size = both.1.1 in by_rest (IsPassed x next) c
      (λ less. elim both.0 [ inl under ↦ inl under | inr over ↦ absurd (omega arith) ])
      (λ over. elim free [ inl before ↦ absurd (omega arith) | inr behind ↦ inr (omega arith) ])
      (λ ge less. inr (omega arith))) l.blocks
      (Each-both (λ c. (c.at ≤ x.at) ⊎ (at ≤ c.at)) (λ c. (l.lo ≤ c.at) × (0 < c.size) × (block_end c ≤ l.hi)) (λ c. ((c.at ≤ x.at) ⊎ (at ≤ c.at)) × ((l.lo ≤ c.at) × (0 < c.size) × (block_end c ≤ l.hi))) (λ c one two. (one, two)) l.blocks last (laid_each l.lo l.hi l.blocks ordered.laid)) bare)

  pub fits_next : C.IsMultiple l.grain to → C.FitsFor now (record x { at = next })
  fits_next grained =
      let e = next_end in let b = begins_in in
      fits_lifted now next x ordered_now is_last.known (omega arith) (let up_to = ap (λ (m : Layout). m.hi) list in omega arith) passed
      (subst (λ (m : Layout). C.IsMultiple m.grain next) (sym list) (C.multiple_sum l.grain to (x.at - run.from) grained (C.multiple_less l.grain x.at run.from (grained_known l x.id x known ordered).0 is.grained.0)))

  one : (c : Block) → (c.at ≤ x.at) ⊎ (at ≤ c.at) → slid_with (record { from = x.at; to = block_end x }) next (slid c) ≡ slid_with (record { from = x.at; to = run.to }) next c
  one c told =
      let e = ends_there in let b = begins_in in let lt = is_last.below in let some = own.1 in
      elim (cases_lt c.at x.at) [
        | inl less ↦
            ap (slid_with (record { from = x.at; to = block_end x }) next) (slid_below rest (to + (at - run.from)) c (omega arith)) ∙ slid_below (record { from = x.at; to = block_end x }) next c less
            ∙ sym (slid_below (record { from = x.at; to = run.to }) next c less)
        | inr ge ↦ elim told [
          | inl le ↦
              ap (slid_with (record { from = x.at; to = block_end x }) next) (slid_below rest (to + (at - run.from)) c (omega arith)) ∙ slid_inside (record { from = x.at; to = block_end x }) next c ge (omega arith)
              ∙ sym (slid_inside (record { from = x.at; to = run.to }) next c ge (omega arith))
          | inr over ↦ elim (cases_lt c.at run.to) [
            | inl less ↦
                ap (slid_with (record { from = x.at; to = block_end x }) next) (slid_inside rest (to + (at - run.from)) c over less)
                ∙ slid_above (record { from = x.at; to = block_end x }) next (record c { at = to + (at - run.from) + (c.at - at) }) (omega arith)
                ∙ moved_to c (to + (at - run.from) + (c.at - at)) (next + (c.at - x.at)) (omega arith) ∙ sym (slid_inside (record { from = x.at; to = run.to }) next c ge less)
            | inr past ↦
                ap (slid_with (record { from = x.at; to = block_end x }) next) (slid_above rest (to + (at - run.from)) c past) ∙ slid_above (record { from = x.at; to = block_end x }) next c (omega arith)
                ∙ sym (slid_above (record { from = x.at; to = run.to }) next c past)
          ]
        ]
      ]

  each_one : (bs : List Block) → AllByRecursion (λ c. (c.at ≤ x.at) ⊎ (at ≤ c.at)) bs → map (slid_with (record { from = x.at; to = block_end x }) next) (map slid bs) ≡ map (slid_with (record { from = x.at; to = run.to }) next) bs
  each_one [] all = refl
  each_one (c ∷ cs) all = λ i. one c all.0 i ∷ each_one cs all.1 i

  pub list_next : C.replaced (record x { at = next }) now.blocks ≡ map (slid_with (record { from = x.at; to = run.to }) next) l.blocks
  list_next =
      let b = begins_in in
      let up : x.at ≤ next = omega arith in
      replaced-slid now.lo now.hi now.cap next x now.blocks ordered_now.laid ordered_now.named is_last.known
      (C.Each-map (IsPassed x next) (IsAround x.at next) (λ c is. (λ less some. omega arith, λ more. elim is [ inl under ↦ absurd (omega arith) | inr over ↦ omega arith ])) now.blocks passed)
      ∙ ap (map (slid_with (record { from = x.at; to = block_end x }) next)) blocks ∙ each_one l.blocks last

  pub cut_next : IsCut x.at l.blocks
  cut_next = cuts_each l.lo l.hi l.cap x l.blocks ordered.laid placed_by

-- before the first byte of a run some block begins
pub none_before : (l : Layout) (ordered : IsOrdered l) (run : Span) (is : IsRun l run) (at to : ℕ) → run.from < at → at ≤ run.to → AllByRecursion (λ b. at ≤ b.at) (map (slid_with (record { from = at; to = run.to }) to) l.blocks) → ⊥
none_before l ordered run is at to from end all =
    let bottom = is.inside.0 in let top = is.inside.2 in
    is.full _ (omega arith) (omega arith) (lacks_free _ l.lo l.hi _ ordered.laid bottom (omega arith)
    (All-unmapped (λ y. (l.lo ≤ y.at) × (0 < y.size) × (block_end y ≤ l.hi)) _ (λ b. at ≤ b.at) (slid_with (record { from = at; to = run.to }) to)
    (λ c _ told. elim (cases_lt c.at at) [
      | inl less ↦ let le = subst (λ d. at ≤ d.at) (slid_below (record { from = at; to = run.to }) to c less) told in absurd (omega arith)
      | inr ge ↦ inl (omega arith)
    ]) _ (laid_each l.lo l.hi _ ordered.laid) all))

-- a run with the block that ends where it begins
pub run_before : (l : Layout) (begin to : ℕ) (x : Block) → IsOrdered l → block_with l.blocks x.id ≡ Some x → block_end x ≡ begin → IsRun l (record { from = begin; to = to }) → IsRun l (record { from = x.at; to = to })
run_before l begin to x ordered known here is =
    let own = lies l x.id x known ordered in let low = own.0 in let some = own.1 in let order = is.inside.1 in
    record {
      inside = (low, omega arith, is.inside.2);
      grained = ((grained_known l x.id x known ordered).0, is.grained.1);
      whole = (cuts_each l.lo l.hi l.cap x _ ordered.laid (around l.lo l.hi l.cap x _ ordered.laid ordered.named known), is.whole.1);
      full = λ p from below free. elim (cases_lt p begin) [
        | inl before ↦ elim (lacks_known l x.id x known ordered p free) [ inl k ↦ absurd (omega arith) | inr k ↦ absurd (omega arith) ]
        | inr above ↦ is.full p above below free
      ];
    }

-- where the last block below a place ends before it, none ends there
pub none_ends : (l : Layout) (at : ℕ) (x : Block) → IsOrdered l → C.IsLastBelow l.blocks at x → block_end x < at → AllByRecursion (λ b. block_end b ≢ at) l.blocks
none_ends l at x ordered is less = Each-both (λ c. ((c.at ≤ x.at) ⊎ (at ≤ c.at)) × ((l.lo ≤ c.at) × (0 < c.size) × (block_end c ≤ l.hi))) (λ c. (block_end c ≤ x.at) ⊎ ((block_end x ≤ c.at) ⊎ (c ≡ x))) (λ b. block_end b ≢ at)
    (λ c both place e. let size = both.1.1 in elim both.0 [
      | inr over ↦ omega arith
      | inl under ↦ elim place [
        | inl before ↦ omega arith
        | inr other ↦ elim other [ inl behind ↦ let some = (lies l x.id x is.known ordered).1 in omega arith | inr same ↦ let place = ap (λ d. d.at) same in let long = ap (λ d. d.size) same in omega arith ]
      ]
    ]) _
    (Each-both (λ c. (c.at ≤ x.at) ⊎ (at ≤ c.at)) (λ c. (l.lo ≤ c.at) × (0 < c.size) × (block_end c ≤ l.hi)) (λ c. ((c.at ≤ x.at) ⊎ (at ≤ c.at)) × ((l.lo ≤ c.at) × (0 < c.size) × (block_end c ≤ l.hi))) (λ c one two. (one, two)) _ is.last (laid_each l.lo l.hi _ ordered.laid))
    (around l.lo l.hi l.cap x _ ordered.laid ordered.named is.known)

pub none_ends_low : (l : Layout) (at : ℕ) → IsOrdered l → AllByRecursion (λ b. at ≤ b.at) l.blocks → AllByRecursion (λ b. block_end b ≢ at) l.blocks
none_ends_low l at ordered all = Each-both (λ b. at ≤ b.at) (λ c. (l.lo ≤ c.at) × (0 < c.size) × (block_end c ≤ l.hi)) (λ b. block_end b ≢ at) (λ c one two e. let size = two.1 in omega arith) _ all (laid_each l.lo l.hi _ ordered.laid)
