-- What a gather leaves: the same blocks, and one hole.
use Rattle.w16_compact.proofs
use proofs.Common.{◌≡◌, ℕ, ◌+◌, ◌<◌, ◌≤◌, ◌⊎◌, inl, inr, IsTrue, List, [], ◌∷◌, refl, sym, ap, ◌∙◌, subst, arith, min, max, AllByRecursion, lt-ltb, le-ltb, cases_lt, false≢true, Block, Loose, IsLaid, IsGap, IsHole, is_pinned, holds_still, loose_bytes, block_end, is_any, Misses, IsClear}
use proofs.Common.{Layout, gathered, packed, FitsGap, MayGather, AreSlid, Each-map, All-from_Each, Each-from_All}
use proofs.Loose.{loose_none, loose_here, loose_one}
use proofs.Walked.{laid_from}

pub inside_is : (low high : ℕ) (b : Block) → 0 < b.size → low ≤ b.at → b.at < high → FitsGap low high b → (block_end b ≤ high) × (b.hold ≡ Loose)
inside_is low high b some le lt (inl e) = absurd (omega arith)
inside_is low high b some le lt (inr (inl e)) = absurd (omega arith)
inside_is low high b some le lt (inr (inr e)) = (e.1, e.2)

pub slid_same : (bs : List Block) → AreSlid bs bs
slid_same [] = tt
slid_same (b ∷ bs) = (refl, (λ t. refl), slid_same bs)

slid_packed : (low high from top to : ℕ) (bs : List Block) → IsLaid from top bs → low ≤ from → AllByRecursion (FitsGap low high) bs → AreSlid bs (packed high to bs)
slid_packed low high from top to [] laid le all = tt
slid_packed low high from top to (b ∷ bs) laid le all =
    let one = laid.0 in
    elim (cases_lt b.at high) [
      | inl lt ↦
          let is = inside_is low high b laid.1 (omega arith) lt all.0 in
          rw (lt-ltb b.at high lt) (refl, (λ t. absurd (false≢true (sym (ap holds_still is.1) ∙ t))), slid_packed low high (block_end b) top (to + b.size) bs laid.2 (omega arith) all.1)
      | inr ge ↦ rw (le-ltb b.at high ge) (slid_same (b ∷ bs))
    ]

pub slid_gathered : (low high from top : ℕ) (bs : List Block) → IsLaid from top bs → AllByRecursion (FitsGap low high) bs → AreSlid bs (gathered low high bs)
slid_gathered low high from top [] laid all = tt
slid_gathered low high from top (b ∷ bs) laid all = elim (cases_lt b.at low) [
  | inl lt ↦ rw (lt-ltb b.at low lt) (refl, (λ t. refl), slid_gathered low high (block_end b) top bs laid.2 all.1)
  | inr ge ↦ rw (le-ltb b.at low ge) (slid_packed low high b.at top low (b ∷ bs) (omega arith, laid.1, laid.2) ge all)
]

-- what doesn't meet the hole
abbrev pub Past : ℕ → ℕ → Block → Type 0
Past end high b = (block_end b ≤ end) ⊎ (high ≤ b.at)

clear_packed : (low high from top to end : ℕ) (bs : List Block) → IsLaid from top bs → low ≤ from → AllByRecursion (FitsGap low high) bs → to + loose_bytes bs low high ≤ end → AllByRecursion (Past end high) (packed high to bs)
clear_packed low high from top to end [] laid le all room = tt
clear_packed low high from top to end (b ∷ bs) laid le all room =
    let one = laid.0 in let some = laid.1 in
    elim (cases_lt b.at high) [
      | inl lt ↦
          let is = inside_is low high b laid.1 (omega arith) lt all.0 in
          let sum = loose_here b bs low high is.1 (omega arith) lt in
          let rest = clear_packed low high (block_end b) top (to + b.size) end bs laid.2 (omega arith) all.1 (omega (arith, sum, room)) in
          rw (lt-ltb b.at high lt) (inl (omega (arith, sum, room)), rest)
      | inr ge ↦ rw (le-ltb b.at high ge) (inr ge, Each-map (λ y. (b.at + b.size ≤ y.at) × (0 < y.size)) _ (λ y f. let k = f.0 in inr (omega arith)) bs (laid_from _ top bs laid.2))
    ]

pub clear_from : (low high from top end : ℕ) (bs : List Block) → IsLaid from top bs → AllByRecursion (FitsGap low high) bs → low ≤ high → low + loose_bytes bs low high ≤ end → AllByRecursion (Past end high) (gathered low high bs)
clear_from low high from top end [] laid all order room = tt
clear_from low high from top end (b ∷ bs) laid all order room =
    let some = laid.1 in
    elim (cases_lt b.at low) [
      | inl lt ↦
          let out : loose_bytes (b ∷ []) low high ≡ 0 = loose_none (b ∷ []) low high (inl lt, tt) in
          let one = loose_one b bs low high in let two = loose_one b [] low high in let none : loose_bytes [] low high ≡ 0 = refl in
          let same : loose_bytes (b ∷ bs) low high ≡ loose_bytes bs low high = omega (arith, out, one, two, none) in
          let before : block_end b ≤ low = elim all.0 [ inl e ↦ e | inr f ↦ elim f [ inl e ↦ absurd (omega arith) | inr e ↦ let k = e.0 in absurd (omega arith) ] ] in
          let rest = clear_from low high (block_end b) top end bs laid.2 all.1 order (omega (arith, same, room)) in
          rw (lt-ltb b.at low lt) (inl (omega (arith, room)), rest)
      | inr ge ↦ rw (le-ltb b.at low ge) (clear_packed low high b.at top low end (b ∷ bs) (omega arith, laid.1, laid.2) ge all room)
    ]

pub clear_gathered : (l : Layout) (low high : ℕ) → IsLaid l.lo l.hi l.blocks → MayGather l low high → IsClear is_any l.lo l.hi (gathered low high l.blocks) (low + loose_bytes l.blocks low high) high
clear_gathered l low high laid may = record {
  above = let one = may.inside.0 in omega arith;
  below = may.inside.2;
  misses = All-from_Each _ _
      (Each-map _ (λ x. IsTrue (is_any x) → Misses x.at x.size (low + loose_bytes l.blocks low high) high) (λ b f t. f) _
      (clear_from low high l.lo l.hi (low + loose_bytes l.blocks low high) l.blocks laid may.loose may.inside.1 (omega arith)));
}

-- The slid blocks leave no byte free between them.
tiled_packed : (low high from top to c d : ℕ) (bs : List Block) → IsLaid from top bs → low ≤ from → AllByRecursion (FitsGap low high) bs → to ≤ c → c < d → c < to + loose_bytes bs low high
    → AllByRecursion (λ y. Misses y.at y.size c d) (packed high to bs) → ⊥
tiled_packed low high from top to c d [] laid le all above some below misses = let none : loose_bytes [] low high ≡ 0 = refl in omega arith
tiled_packed low high from top to c d (b ∷ bs) laid le all above some below misses =
    let one = laid.0 in let size = laid.1 in
    elim (cases_lt b.at high) [
      | inl lt ↦
          let is = inside_is low high b laid.1 (omega arith) lt all.0 in
          let sum = loose_here b bs low high is.1 (omega arith) lt in
          let rest : Misses to b.size c d × AllByRecursion (λ y. Misses y.at y.size c d) (packed high (to + b.size) bs) = rw (lt-ltb b.at high lt) at misses in
          elim rest.0 [
            | inl k ↦ tiled_packed low high (block_end b) top (to + b.size) c d bs laid.2 (omega arith) all.1 k some (omega (arith, sum, below)) rest.1
            | inr k ↦ omega arith
          ]
      | inr ge ↦
          let none = loose_none (b ∷ bs) low high (Each-map (λ y. (b.at ≤ y.at) × (0 < y.size)) (λ y. (y.at < low) ⊎ (high ≤ y.at)) (λ y f. let k = f.0 in inr (omega arith)) (b ∷ bs) (laid_from b.at top (b ∷ bs) (omega arith, laid.1, laid.2))) in
          omega arith
    ]

pub tiled : (low high from top c d : ℕ) (bs : List Block) → IsLaid from top bs → AllByRecursion (FitsGap low high) bs → low ≤ c → c < d → c < low + loose_bytes bs low high
    → AllByRecursion (λ y. Misses y.at y.size c d) (gathered low high bs) → ⊥
tiled low high from top c d [] laid all above some below misses = let none : loose_bytes [] low high ≡ 0 = refl in omega arith
tiled low high from top c d (b ∷ bs) laid all above some below misses = elim (cases_lt b.at low) [
  | inl lt ↦
      let out : loose_bytes (b ∷ []) low high ≡ 0 = loose_none (b ∷ []) low high (inl lt, tt) in
      let one = loose_one b bs low high in let two = loose_one b [] low high in let none : loose_bytes [] low high ≡ 0 = refl in
      let same : loose_bytes (b ∷ bs) low high ≡ loose_bytes bs low high = omega (arith, out, one, two, none) in
      let rest : Misses b.at b.size c d × AllByRecursion (λ y. Misses y.at y.size c d) (gathered low high bs) = rw (lt-ltb b.at low lt) at misses in
      tiled low high (block_end b) top c d bs laid.2 all.1 above some (omega (arith, same, below)) rest.1
  | inr ge ↦
      let rest : AllByRecursion (λ y. Misses y.at y.size c d) (packed high low (b ∷ bs)) = rw (le-ltb b.at low ge) at misses in
      tiled_packed low high b.at top low c d (b ∷ bs) (omega arith, laid.1, laid.2) ge all above some below rest
]

-- what holds of the slid blocks holds of the pinned ones where they were
pinned_same : (P : Block → Type 0) (bs cs : List Block) → AreSlid bs cs → AllByRecursion P cs → AllByRecursion (λ b. IsTrue (is_pinned b) → P b) bs
pinned_same P [] [] slid all = tt
pinned_same P [] (c ∷ cs) slid all = absurd slid
pinned_same P (b ∷ bs) [] slid all = absurd slid
pinned_same P (b ∷ bs) (c ∷ cs) slid all = (
  (λ t. subst P (slid.0 ∙ ap (λ k. let v : Block = record b { at = k } in v) (slid.1 t)) all.0),
  pinned_same P bs cs slid.2 all.1,
)

joined : (a b c d at size : ℕ) → 0 < size → a < d → c < b → a < b → c < d → Misses at size a b → Misses at size c d → Misses at size (min a c) (max b d)
joined a b c d at size z l1 l2 l3 l4 f g = grind arith

-- Where blocks slid, what is free and meets a gap lies in it.
module _ (l : Layout) (low high : ℕ) (laid : IsLaid l.lo l.hi l.blocks) (may : MayGather l low high) (gap : IsGap l.lo l.hi l.blocks low high) (new : List Block) (slid : AreSlid l.blocks new) where
  pub missed : (a b : ℕ) → IsClear is_any l.lo l.hi new a b → AllByRecursion (λ y. Misses y.at y.size a b) new
  missed a b clear = Each-map (λ x. IsTrue (is_any x) → Misses x.at x.size a b) (λ y. Misses y.at y.size a b) (λ y f. f refl) new (Each-from_All _ new clear.misses)

  pub within_gap : (a b : ℕ) → IsClear is_any l.lo l.hi new a b → a < b → a < high → low < b → (low ≤ a) × (b ≤ high)
  within_gap a b clear some begins ends =
      let none_pinned = pinned_same (λ y. Misses y.at y.size a b) l.blocks new slid (missed a b clear) in
      let z = gap.some in
      let lo_min : l.lo ≤ min a low = let one = clear.above in let two = may.inside.0 in omega arith in
      let hi_max : max b high ≤ l.hi = let one = clear.below in let two = may.inside.2 in omega arith in
      let wider : IsClear is_pinned l.lo l.hi l.blocks (min a low) (max b high) = record {
        above = lo_min;
        below = hi_max;
        misses = All-from_Each _ l.blocks (both l.blocks (laid_from l.lo l.hi l.blocks laid) none_pinned (Each-from_All _ l.blocks gap.clear.misses));
      } in
      let same : (min a low ≡ low) × (max b high ≡ high) = gap.maximal (min a low) (max b high) (omega arith) (omega arith) wider in
      let same_low = same.0 in let same_high = same.1 in (omega arith, omega arith)
    where
      both : (bs : List Block) → AllByRecursion (λ x. (l.lo ≤ x.at) × (0 < x.size)) bs → AllByRecursion (λ x. IsTrue (is_pinned x) → Misses x.at x.size a b) bs → AllByRecursion (λ x. IsTrue (is_pinned x) → Misses x.at x.size low high) bs
          → AllByRecursion (λ x. IsTrue (is_pinned x) → Misses x.at x.size (min a low) (max b high)) bs
      both [] sizes one two = tt
      both (x ∷ xs) sizes one two = ((λ t. joined a b low high x.at x.size sizes.0.1 begins ends some gap.some (one.0 t) (two.0 t)), both xs sizes.1 one.1 two.1)

  -- so where it lies in [free, stop), that is the one hole
  module _ (free stop : ℕ) (order : (low ≤ free) × (stop ≤ high)) (clear_new : IsClear is_any l.lo l.hi new free stop) (within : (a b : ℕ) → IsClear is_any l.lo l.hi new a b → a < b → low ≤ a → b ≤ high → (free ≤ a) × (b ≤ stop)) where
    inner : (a b : ℕ) → IsClear is_any l.lo l.hi new a b → a < b → a < high → low < b → (free ≤ a) × (b ≤ stop)
    inner a b clear some begins ends = let is = within_gap a b clear some begins ends in within a b clear some is.0 is.1

    pub one_hole : free < stop → IsHole l.lo l.hi new free stop
    one_hole some = record {
      some = some;
      clear = clear_new;
      maximal = λ c d c_below d_above clear. let low_is = order.0 in let high_is = order.1 in
          let is = inner c d clear (omega arith) (omega arith) (omega arith) in
          let one = is.0 in let two = is.1 in (omega arith, omega arith);
    }

    pub no_other : (a b : ℕ) → IsHole l.lo l.hi new a b → (b ≤ low) ⊎ ((high ≤ a) ⊎ ((a ≡ free) × (b ≡ stop)))
    no_other a b hole = elim (cases_lt low b) [
      | inr k ↦ inl k
      | inl ends ↦ elim (cases_lt a high) [
        | inr k ↦ inr (inl k)
        | inl begins ↦
            let is = inner a b hole.clear hole.some begins ends in
            let same : (free ≡ a) × (stop ≡ b) = hole.maximal free stop is.0 is.1 clear_new in
            inr (inr (sym same.0, sym same.1))
      ]
    ]

-- Of a gap one hole is left.
module _ (l : Layout) (low high : ℕ) (laid : IsLaid l.lo l.hi l.blocks) (may : MayGather l low high) (gap : IsGap l.lo l.hi l.blocks low high) where
  abbrev new : List Block
  new = gathered low high l.blocks

  abbrev free : ℕ
  free = low + loose_bytes l.blocks low high

  slid : AreSlid l.blocks new
  slid = slid_gathered low high l.lo l.hi l.blocks laid may.loose

  -- what is free in the gap lies behind the slid blocks
  behind : (a b : ℕ) → IsClear is_any l.lo l.hi new a b → a < b → low ≤ a → b ≤ high → (free ≤ a) × (b ≤ high)
  behind a b clear some above below = (
    elim (cases_lt a free) [
      | inl lt ↦ absurd (tiled low high l.lo l.hi a b l.blocks laid may.loose above some lt (missed l low high laid may gap new slid a b clear))
      | inr ge ↦ ge
    ],
    below,
  )

  pub hole_gathered : free < high → IsHole l.lo l.hi new free high
  hole_gathered = one_hole l low high laid may gap new slid free high (omega arith, omega arith) (clear_gathered l low high laid may) behind

  pub alone_gathered : (a b : ℕ) → IsHole l.lo l.hi new a b → (b ≤ low) ⊎ ((high ≤ a) ⊎ ((a ≡ free) × (b ≡ high)))
  alone_gathered = no_other l low high laid may gap new slid free high (omega arith, omega arith) (clear_gathered l low high laid may) behind
