-- Blocks of a run that slide one after another: what a step needs, and what it leaves.
use Rattle.w16_blocks.proofs
use proofs.Common as C
use proofs.Remove as M
use proofs.Common.{ℕ, ◌≡◌, ◌+◌, ◌-◌, ◌<◌, ◌≤◌, ◌^◌, ◌⊎◌, List, [], ◌∷◌, map, Some, arith, refl, sym, ap, ◌∙◌, inl, inr, cases_lt, false≢true, AllByRecursion, Block, Span, block_end, block_with, Each-map, Each-both, laid_each, Layout, IsApart, placed, all_but, replaced, IsCut, IsRun}
use proofs.Common.{slid_with}
use proofs.Place.{placed_first, placed_after, All-placed}
use proofs.{Remove.each_with, Step.lies, Step.grained_known, Step.lacks_known}

-- a block before a run, behind it, and in it
pub slid_below : (run : Span) (to : ℕ) (b : Block) → b.at < run.from → slid_with run to b ≡ b
slid_below run to b lt = rw (C.lt-leb run.from b.at lt) refl

pub slid_above : (run : Span) (to : ℕ) (b : Block) → run.to ≤ b.at → slid_with run to b ≡ b
slid_above run to b le = elim (cases_lt b.at _) [
  | inl lt ↦ slid_below run to b lt
  | inr ge ↦ rw (C.le-leb run.from b.at ge, C.le-ltb b.at run.to le) refl
]

pub slid_inside : (run : Span) (to : ℕ) (b : Block) → run.from ≤ b.at → b.at < run.to → slid_with run to b ≡ record b { at = to + (b.at - run.from) }
slid_inside run to b le lt = rw (C.le-leb run.from b.at le, C.lt-ltb b.at run.to lt) refl

-- one that slides to where its run's first byte does
pub moved_to : (b : Block) (p q : ℕ) → p ≡ q → record b { at = p } ≡ record b { at = q }
moved_to b p q e = ap (λ at. let r : Block = record b { at = at } in r) e

pub map-same : (f : Block → Block) (bs : List Block) → AllByRecursion (λ b. f b ≡ b) bs → map f bs ≡ bs
map-same f [] all = refl
map-same f (b ∷ bs) all = λ i. all.0 i ∷ map-same f bs all.1 i

-- a run of no bytes
pub slid_none : (from to : ℕ) (bs : List Block) → map (slid_with (record { from = from; to = from }) to) bs ≡ bs
slid_none from to [] = refl
slid_none from to (b ∷ bs) = λ i. one (cases_lt b.at from) i ∷ slid_none from to bs i
  where
    one : (b.at < from) ⊎ (from ≤ b.at) → slid_with (record { from = from; to = from }) to b ≡ b
    one (inl lt) = slid_below (record { from = from; to = from }) to b lt
    one (inr le) = slid_above (record { from = from; to = from }) to b le

-- a run, and then the one behind it
module _ (from at next to : ℕ) (start : from ≤ at) (more : at ≤ next) (down : to ≤ from) where
  abbrev first : Span
  first = record { from = from; to = at }

  abbrev second : Span
  second = record { from = at; to = next }

  abbrev both : Span
  both = record { from = from; to = next }

  one_by_one : (b : Block) → slid_with second (to + (at - from)) (slid_with first to b) ≡ slid_with both to b
  one_by_one b = elim (cases_lt b.at from) [
    | inl before ↦ ap (slid_with second (to + (at - from))) (slid_below first to b before) ∙ slid_below second (to + (at - from)) b (omega arith) ∙ sym (slid_below both to b before)
    | inr ge ↦ elim (cases_lt b.at at) [
      | inl lt ↦
          ap (slid_with second (to + (at - from))) (slid_inside first to b ge lt)
          ∙ slid_below second (to + (at - from)) (record b { at = to + (b.at - from) }) (omega arith) ∙ sym (slid_inside both to b ge (omega arith))
      | inr past ↦ ap (slid_with second (to + (at - from))) (slid_above first to b past) ∙ elim (cases_lt b.at next) [
        | inl less ↦ slid_inside second (to + (at - from)) b past less ∙ moved_to b _ _ (let e : to + (at - from) + (b.at - at) ≡ to + (b.at - from) = omega arith in e) ∙ sym (slid_inside both to b ge less)
        | inr behind ↦ slid_above second (to + (at - from)) b behind ∙ sym (slid_above both to b behind)
      ]
    ]
  ]

  pub slid_both : (bs : List Block) → map (slid_with second (to + (at - from))) (map (slid_with first to) bs) ≡ map (slid_with both to) bs
  slid_both [] = refl
  slid_both (b ∷ bs) = λ i. one_by_one b i ∷ slid_both bs i

-- what begins below a place begins below another, and what begins above it not
abbrev pub IsAround : ℕ → ℕ → Block → Type 0
IsAround at to c = (c.at < at → 0 < c.size → c.at < to) × (at < c.at → to ≤ c.at)

-- a block in place of itself at another place, around which the others are as they were: the same list, with that block slid
pub replaced-slid : (lo hi cap to : ℕ) (x : Block) (bs : List Block) → C.IsLaid lo hi bs → C.AreNamed cap bs → block_with bs x.id ≡ Some x → AllByRecursion (IsAround x.at to) bs
    → replaced (record x { at = to }) bs ≡ map (slid_with (record { from = x.at; to = block_end x }) to) bs
replaced-slid lo hi cap to x [] laid named e all = absurd (false≢true (ap C.is_some e))
replaced-slid lo hi cap to x (b ∷ bs) laid named e all =
    let run : Span = record { from = x.at; to = block_end x } in
    let size = laid.1 in
    elim (C.eqb_tells b.id x.id) [
      | inl same ↦
          let f : Some b ≡ Some x = sym (M.with_same x.id b bs same.0) ∙ e in let g : b ≡ x = cc in
          let place = ap (λ c. c.at) g in let long = ap (λ c. c.size) g in
          let rest = M.all_but_same x.id b bs same.0 ∙ M.all_but_absent x.id bs (M.rest_differs cap x.id b bs same.1 named) in
          let behind = Each-both (λ y. (block_end b ≤ y.at) × (0 < y.size) × (block_end y ≤ hi)) _ (λ y. (block_end x ≤ y.at) × (to ≤ y.at))
          (λ y is past. let from = is.0 in (omega arith, past.1 (omega arith))) bs (laid_each _ hi bs laid.2) all.1 in
          ap (placed (record x { at = to })) rest
          ∙ placed_first (record x { at = to }) bs (Each-map (λ y. (block_end x ≤ y.at) × (to ≤ y.at)) (λ y. to ≤ y.at) (λ y is. is.1) bs behind)
          ∙ (λ i. (moved_to x to (to + (x.at - x.at)) (omega arith) ∙ sym (slid_inside run to x (omega arith) (omega arith)) ∙ ap (slid_with run to) (sym g)) i
          ∷ sym (map-same _ bs (Each-map (λ y. (block_end x ≤ y.at) × (to ≤ y.at)) (λ y. slid_with run to y ≡ y) (λ y is. slid_above run to y is.0) bs behind)) i)
      | inr other ↦
          let e' = sym (M.with_other x.id b bs other.0) ∙ e in
          let behind = (each_with (λ y. (block_end b ≤ y.at) × (0 < y.size) × (block_end y ≤ hi)) x.id x bs e' (laid_each _ hi bs laid.2)).0 in
          ap (placed (record x { at = to })) (M.all_but_other x.id b bs other.0) ∙ placed_after (record x { at = to }) b _ (all.0.0 (omega arith) size)
          ∙ (λ i. sym (slid_below run to b (omega arith)) i ∷ replaced-slid (block_end b) hi cap to x bs laid.2 named.2 e' all.1 i)
    ]

-- a block that lies below where the next one slides to, or from the place on that is reached, and there in the run or behind it
abbrev pub IsReady : Span → ℕ → ℕ → Block → Type 0
IsReady run to at c = (block_end c ≤ to + (at - run.from)) ⊎ ((at ≤ c.at) × ((block_end c ≤ run.to) ⊎ (run.to ≤ c.at)))

pub ready_start : (run : Span) (to : ℕ) (bs : List Block) → C.IsBare to run.from bs → IsCut run.to bs → AllByRecursion (IsReady run to run.from) bs
ready_start run to bs bare cut =
    Each-both (λ b. (block_end b ≤ to) ⊎ (run.from ≤ b.at)) (λ b. (block_end b ≤ run.to) ⊎ (run.to ≤ b.at)) _
    (λ b one two. elim one [ inl below ↦ inl (omega arith) | inr above ↦ inr (omega arith, two) ]) bs bare cut

pub named_each : (cap : ℕ) (bs : List Block) → C.AreNamed cap bs → AllByRecursion (λ c. c.id < cap) bs
named_each cap [] named = tt
named_each cap (b ∷ bs) named = (named.0, named_each cap bs named.2)

-- the block there
module _ (l : Layout) (ordered : C.IsOrdered l) (ids : l.cap < 2 ^ 32) (run : Span) (to at : ℕ) (down : to ≤ run.from) (from : run.from ≤ at) (lt : at < run.to) (ready : AllByRecursion (IsReady run to at) l.blocks)
    (x : Block) (known : block_with l.blocks x.id ≡ Some x) (here : x.at ≡ at) where
  own : (l.lo ≤ x.at) × (0 < x.size) × (block_end x ≤ l.hi)
  own = lies l x.id x known ordered

  pub ends_inside : at + x.size ≤ run.to
  ends_inside = let some = own.1 in elim (each_with (IsReady run to at) x.id x l.blocks known ready) [
    | inl below ↦ absurd (omega arith)
    | inr above ↦ elim above.1 [ inl end ↦ omega arith | inr past ↦ absurd (omega arith) ]
  ]

  -- each other lies below its new place or behind it
  others : AllByRecursion (λ c. (block_end c ≤ to + (at - run.from)) ⊎ ((at + x.size ≤ c.at) × ((block_end c ≤ run.to) ⊎ (run.to ≤ c.at)))) (all_but x.id l.blocks)
  others =
      Each-both (λ c. IsReady run to at c × (0 < c.size)) (IsApart x) (λ c. (block_end c ≤ to + (at - run.from)) ⊎ ((at + x.size ≤ c.at) × ((block_end c ≤ run.to) ⊎ (run.to ≤ c.at))))
      (λ c both apart. let size = both.1 in elim both.0 [
        | inl below ↦ inl below
        | inr above ↦ let le = above.0 in elim apart [ inl behind ↦ inr (omega arith, above.1) | inr before ↦ absurd (omega arith) ]
      ])
      (all_but x.id l.blocks)
      (M.All-all_but (λ c. IsReady run to at c × (0 < c.size)) x.id l.blocks
      (Each-both (IsReady run to at) (λ c. (l.lo ≤ c.at) × (0 < c.size) × (block_end c ≤ l.hi)) (λ c. IsReady run to at c × (0 < c.size)) (λ c one two. (one, two.1)) l.blocks ready (laid_each l.lo l.hi l.blocks ordered.laid)))
      (M.others_apart l.lo l.hi l.cap x.id x l.blocks ordered.laid ordered.named known)

  abbrev there : Block
  there = record x { at = to + (at - run.from) }

  pub fits_there : C.IsMultiple l.grain (to + (at - run.from)) → l.lo ≤ to → C.FitsFor l there
  fits_there grained low = record {
    id = each_with (λ c. c.id < l.cap) x.id x l.blocks known (named_each l.cap l.blocks ordered.named);
    free = M.others_differ x.id l.blocks;
    inside = (omega arith, own.1, let end = own.2 in omega arith);
    apart = Each-map (λ c. (block_end c ≤ to + (at - run.from)) ⊎ ((at + x.size ≤ c.at) × ((block_end c ≤ run.to) ⊎ (run.to ≤ c.at)))) (IsApart there)
        (λ c is. elim is [ inl below ↦ inr below | inr above ↦ let le = above.0 in inl (omega arith) ]) (all_but x.id l.blocks) others;
    grained = (grained, (grained_known l x.id x known ordered).1);
  }

  pub ready_then : AllByRecursion (IsReady run to (at + x.size)) (replaced there l.blocks)
  ready_then = All-placed (IsReady run to (at + x.size)) there (all_but x.id l.blocks) (inl (omega arith))
      (Each-map (λ c. (block_end c ≤ to + (at - run.from)) ⊎ ((at + x.size ≤ c.at) × ((block_end c ≤ run.to) ⊎ (run.to ≤ c.at)))) (IsReady run to (at + x.size))
      (λ c is. elim is [ inl below ↦ inl (omega arith) | inr above ↦ inr above ]) (all_but x.id l.blocks) others)

  -- the blocks that slid so far are one more
  pub slid_then : (old : List Block) → l.blocks ≡ map (slid_with (record { from = run.from; to = at }) to) old → replaced there l.blocks ≡ map (slid_with (record { from = run.from; to = at + x.size }) to) old
  slid_then old is =
      replaced-slid l.lo l.hi l.cap (to + (at - run.from)) x l.blocks ordered.laid ordered.named known
      (Each-map (IsReady run to at) (IsAround x.at (to + (at - run.from))) (λ c is. (λ less some. elim is [ inl below ↦ omega arith | inr above ↦ let le = above.0 in absurd (omega arith) ], λ more. omega arith)) l.blocks ready)
      ∙ ap (λ (p : ℕ). map (slid_with (record { from = p; to = p + x.size }) (to + (at - run.from))) l.blocks) here
      ∙ ap (map (slid_with (record { from = at; to = at + x.size }) (to + (at - run.from)))) is
      ∙ slid_both run.from at (at + x.size) to from (omega arith) down old

-- a run with the block that begins at its end
pub run_more : (l : Layout) (from end : ℕ) (x : Block) → C.IsOrdered l → block_with l.blocks x.id ≡ Some x → x.at ≡ end → IsRun l (record { from = from; to = end }) → IsRun l (record { from = from; to = end + x.size })
run_more l from end x ordered known here is =
    let own = lies l x.id x known ordered in let start = is.inside.1 in let top = own.2 in let some = own.1 in
    record {
      inside = (is.inside.0, omega arith, omega arith);
      grained = (is.grained.0, C.multiple_sum l.grain end x.size is.grained.1 (grained_known l x.id x known ordered).1);
      whole = (
        is.whole.0,
        M.All-back l.cap (λ b. (block_end b ≤ end + x.size) ⊎ (end + x.size ≤ b.at)) x.id x l.blocks ordered.named known (inl (omega arith))
            (Each-both (λ b. ((block_end b ≤ end) ⊎ (end ≤ b.at)) × (0 < b.size)) (IsApart x) (λ b. (block_end b ≤ end + x.size) ⊎ (end + x.size ≤ b.at))
            (λ b cut apart. let size = cut.1 in elim cut.0 [
              | inl below ↦ inl (omega arith)
              | inr above ↦ elim apart [ inl behind ↦ inr (omega arith) | inr before ↦ absurd (omega arith) ]
            ])
            (all_but x.id _)
            (M.All-all_but (λ b. ((block_end b ≤ end) ⊎ (end ≤ b.at)) × (0 < b.size)) x.id l.blocks
            (Each-both (λ b. (block_end b ≤ end) ⊎ (end ≤ b.at)) (λ b. (l.lo ≤ b.at) × (0 < b.size) × (block_end b ≤ l.hi)) (λ b. ((block_end b ≤ end) ⊎ (end ≤ b.at)) × (0 < b.size)) (λ b one two. (one, two.1)) l.blocks is.whole.1
            (laid_each l.lo l.hi _ ordered.laid)))
            (M.others_apart l.lo l.hi l.cap x.id x _ ordered.laid ordered.named known)),
      );
      full = λ p low high free. elim (cases_lt p end) [
        | inl below ↦ is.full p low below free
        | inr above ↦ elim (lacks_known l x.id x known ordered p free) [ inl before ↦ absurd (omega arith) | inr behind ↦ absurd (omega arith) ]
      ];
    }

-- a block that begins below a cut ends there at the latest
pub ends_below : (l : Layout) (high : ℕ) (x : Block) → block_with l.blocks x.id ≡ Some x → IsCut high l.blocks → x.at < high → block_end x ≤ high
ends_below l high x known cut lt = elim (each_with (λ b. (block_end b ≤ high) ⊎ (high ≤ b.at)) x.id x _ known cut) [ inl end ↦ end | inr past ↦ absurd (omega arith) ]
