-- What opening a gap leaves: the same blocks, one hole, and it directly behind the block.
use Rattle.w16_compact.proofs
use proofs.Common as C
use proofs.Common.{ℕ, ◌≡◌, ◌+◌, ◌-◌, ◌<◌, ◌≤◌, ◌⊎◌, max, min, Bool, true, false, ◌&&◌, cond, eqb, List, [], ◌∷◌, map, Option, Some, IfSome, is_some, arith, refl, sym, ap, ◌∙◌, subst, inl, inr, lt-ltb, le-ltb, cases_lt, eq-eqb, false≢true, eqb_tells, AllByRecursion, Block, Loose, IsLaid}
use proofs.Common.{IsGap, Misses, is_any, block_end, loose_bytes, block_with, Each-map, laid_each, Layout, IsCut, with_same, with_other, lies, gathered, packed, moved_between, FitsGap, MayGather, AreSlid}
use proofs.Cleared.{Past, inside_is, tiled, clear_from, missed, one_hole, no_other}
use proofs.Gathering.{moved_same, cut_high}
use proofs.Loose.{loose_one, loose_none, loose_here}
use proofs.Raising.{loose_split, loose_skip, loose_only, raised_below, raised_inside, by_reach, raised_id}

-- the block that is asked for, by its own id
pub known_by : (l : Layout) (id : ℕ) (x : Block) → block_with l.blocks id ≡ Some x → block_with l.blocks x.id ≡ Some x
known_by l id x e = ap (block_with _) (C.with_id id x _ e) ∙ e

-- what holds of a block if there is one holds of the one there is, and back
pub of_known : (P : Block → Type 0) (o : Option Block) (x : Block) → o ≡ Some x → IfSome o P → P x
of_known P o x e is = subst (λ q. IfSome q P) e is

pub if_known : (P : Block → Type 0) (o : Option Block) (x : Block) → o ≡ Some x → P x → IfSome o P
if_known P o x e is = subst (λ q. IfSome q P) (sym e) is

-- slid twice
pub slid_more : (zs bs cs : List Block) → AreSlid zs bs → AreSlid bs cs → AreSlid zs cs
slid_more [] [] [] one two = tt
slid_more [] [] (c ∷ cs) one two = absurd two
slid_more [] (b ∷ bs) cs one two = absurd one
slid_more (a ∷ zs) [] cs one two = absurd one
slid_more (a ∷ zs) (b ∷ bs) [] one two = absurd two
slid_more (a ∷ zs) (b ∷ bs) (c ∷ cs) one two = (
  two.0 ∙ ap (λ d. let r : Block = record d { at = c.at } in r) one.0,
  (λ t. two.1 (subst (λ d. C.IsTrue (C.is_pinned d)) (sym one.0) t) ∙ one.1 t),
  slid_more zs bs cs one.2 two.2,
)

-- no more bytes are moved than there are
pub moved_most : (bs cs : List Block) → moved_between bs cs ≤ C.sum_by (λ b. b.size) bs
moved_most [] cs = omega arith
moved_most (b ∷ bs) [] = omega arith
moved_most (b ∷ bs) (c ∷ cs) =
    let rest = moved_most bs cs in let sum = C.sum_by-cons (λ d. d.size) b bs in
    elim (eqb_tells b.at c.at) [
      | inl same ↦ rw same.0 (omega (arith, rest, sum))
      | inr other ↦ rw other.0 (omega (arith, rest, sum))
    ]

-- the loose blocks of an interval have no more bytes than it
pub loose_most : (a b from top : ℕ) (bs : List Block) → IsLaid from top bs → IsCut b bs → loose_bytes bs a b ≤ b - max a from
loose_most a b from top [] laid cut = let none : loose_bytes [] a b ≡ 0 = refl in omega arith
loose_most a b from top (x ∷ xs) laid cut =
    let start = laid.0 in let size = laid.1 in
    let rest = loose_most a b (block_end x) top xs laid.2 cut.1 in
    elim (cases_lt x.at a) [
      | inl below ↦ let same = loose_skip x xs a b (inl below) in omega (arith, rest, same)
      | inr above ↦ elim (cases_lt x.at b) [
        | inl inside ↦
            let end : block_end x ≤ b = elim cut.0 [ inl e ↦ e | inr e ↦ absurd (omega arith) ] in
            let one = loose_one x xs a b in let few = at_most (C.is_loose x && (C.nat_le a x.at && C.nat_lt x.at b)) x.size in omega (arith, rest, one, few, end)
        | inr past ↦ let same = loose_skip x xs a b (inr past) in omega (arith, rest, same)
      ]
    ]
  where
    at_most : (b : Bool) (n : ℕ) → cond b n 0 ≤ n
    at_most true n = omega arith
    at_most false n = omega arith

-- Blocks packed below `end`, and what stands from there on.
module _ (low end : ℕ) where
  passed : (b : Block) (bs : List Block) → b.at < low → gathered low end (b ∷ bs) ≡ b ∷ gathered low end bs
  passed b bs lt = rw (lt-ltb b.at low lt) refl

  from_here : (b : Block) (bs : List Block) → low ≤ b.at → gathered low end (b ∷ bs) ≡ packed end low (b ∷ bs)
  from_here b bs ge = rw (le-ltb b.at low ge) refl

  first : (b : Block) (bs : List Block) (to : ℕ) → b.at < end → packed end to (b ∷ bs) ≡ record b { at = to } ∷ packed end (to + b.size) bs
  first b bs to lt = rw (lt-ltb b.at end lt) refl

  -- the bytes moved to and from there, where only what stands from `end` on moves again
  module _ (f : Block → Block) (still : (b : Block) → b.at < end → f b ≡ b) where
    still_packed : (from top to : ℕ) (bs : List Block) → IsLaid from top bs → to ≤ from → moved_between bs (map f (packed end to bs)) ≡ moved_between bs (packed end to bs) + moved_between (packed end to bs) (map f (packed end to bs))
    still_packed from top to [] laid le = refl
    still_packed from top to (b ∷ bs) laid le =
        let start = laid.0 in
        elim (cases_lt b.at end) [
          | inl lt ↦ rw (lt-ltb b.at end lt) (
              let c : Block = record b { at = to } in
              let same = ap (λ (d : Block). d.at) (still c (omega arith)) in
              let rest = still_packed (block_end b) top (to + b.size) bs laid.2 (omega arith) in
              let first = ap (λ (a : ℕ). cond (eqb b.at a) 0 b.size) same in
              let second = C.cond-true (eqb to (f c).at) 0 b.size (eq-eqb to (f c).at (sym same)) in
              omega (arith, rest, first, second))
          | inr ge ↦ rw (le-ltb b.at end ge) (let none = moved_same (b ∷ bs) in omega (arith, none))
        ]

    pub moved_both : (from top : ℕ) (bs : List Block) → IsLaid from top bs → low ≤ end → moved_between bs (map f (gathered low end bs)) ≡ moved_between bs (gathered low end bs) + moved_between (gathered low end bs) (map f (gathered low end bs))
    moved_both from top [] laid le = refl
    moved_both from top (b ∷ bs) laid le = elim (cases_lt b.at low) [
      | inl lt ↦ rw (lt-ltb b.at low lt) (
          let same = C.cond-true (eqb b.at b.at) 0 b.size (eq-eqb b.at b.at refl) in
          let rest = moved_both (block_end b) top bs laid.2 le in omega (arith, rest, same))
      | inr ge ↦ rw (le-ltb b.at low ge) (still_packed b.at top low (b ∷ bs) (omega arith, laid.1, laid.2) ge)
    ]

  -- the bytes of the loose blocks from there on
  loose_packed : (high from top to : ℕ) (bs : List Block) → IsLaid from top bs → to ≤ from → loose_bytes (packed end to bs) end high ≡ loose_bytes bs end high
  loose_packed high from top to [] laid le = refl
  loose_packed high from top to (b ∷ bs) laid le =
      let start = laid.0 in
      elim (cases_lt b.at end) [
        | inl lt ↦
            ap (λ (cs : List Block). loose_bytes cs end high) (first b bs to lt)
            ∙ loose_skip (record b { at = to }) (packed end (to + b.size) bs) end high (inl (omega arith))
            ∙ loose_packed high (block_end b) top (to + b.size) bs laid.2 (omega arith) ∙ sym (loose_skip b bs end high (inl lt))
        | inr ge ↦ ap (λ (cs : List Block). loose_bytes cs end high) (past ge)
      ]
    where
      past : end ≤ b.at → packed end to (b ∷ bs) ≡ b ∷ bs
      past ge = rw (le-ltb b.at end ge) refl

  pub loose_gathered : (high from top : ℕ) (bs : List Block) → IsLaid from top bs → low ≤ end → loose_bytes (gathered low end bs) end high ≡ loose_bytes bs end high
  loose_gathered high from top [] laid le = refl
  loose_gathered high from top (b ∷ bs) laid le = elim (cases_lt b.at low) [
    | inl lt ↦
        ap (λ (cs : List Block). loose_bytes cs end high) (passed b bs lt)
        ∙ loose_skip b (gathered low end bs) end high (inl (omega arith)) ∙ loose_gathered high (block_end b) top bs laid.2 le ∙ sym (loose_skip b bs end high (inl (omega arith)))
    | inr ge ↦ ap (λ (cs : List Block). loose_bytes cs end high) (from_here b bs ge) ∙ loose_packed high b.at top low (b ∷ bs) (omega arith, laid.1, laid.2) ge
  ]

  -- what holds of each block that ends by `end`, wherever it slides down to, and of the others
  module _ (P : Block → Type 0) (Q : Block → Type 0) (stays : (b : Block) → Q b → P b) (slides : (b : Block) (to : ℕ) → Q b → b.at < end → to ≤ b.at → P (record b { at = to })) where
    All-packed : (from top to : ℕ) (bs : List Block) → IsLaid from top bs → to ≤ from → AllByRecursion Q bs → AllByRecursion P (packed end to bs)
    All-packed from top to [] laid le all = tt
    All-packed from top to (b ∷ bs) laid le all =
        let start = laid.0 in
        elim (cases_lt b.at end) [
          | inl lt ↦ rw (lt-ltb b.at end lt) (slides b to all.0 lt (omega arith), All-packed (block_end b) top (to + b.size) bs laid.2 (omega arith) all.1)
          | inr ge ↦ rw (le-ltb b.at end ge) (Each-map Q P stays (b ∷ bs) all)
        ]

    pub All-gathered : (from top : ℕ) (bs : List Block) → IsLaid from top bs → AllByRecursion Q bs → AllByRecursion P (gathered low end bs)
    All-gathered from top [] laid all = tt
    All-gathered from top (b ∷ bs) laid all = elim (cases_lt b.at low) [
      | inl lt ↦ rw (lt-ltb b.at low lt) (stays b all.0, All-gathered (block_end b) top bs laid.2 all.1)
      | inr ge ↦ rw (le-ltb b.at low ge) (All-packed b.at top low (b ∷ bs) (omega arith, laid.1, laid.2) ge all)
    ]

  -- where a block slides down to
  module _ (x : Block) (below : x.at < end) (above : low ≤ x.at) where
    with_packed : (from top to : ℕ) (bs : List Block) → IsLaid from top bs → low ≤ from → AllByRecursion (FitsGap low end) bs → block_with bs x.id ≡ Some x → block_with (packed end to bs) x.id ≡ Some (record x { at = to + loose_bytes bs low x.at })
    with_packed from top to [] laid le fits known = absurd (false≢true (ap is_some known))
    with_packed from top to (b ∷ bs) laid le fits known =
        let start = laid.0 in let size = laid.1 in
        elim (eqb_tells b.id x.id) [
          | inl same ↦
              let e : Some b ≡ Some x = sym (with_same x.id b bs same.0) ∙ known in let is : b ≡ x = cc in
              let place = ap (λ (c : Block). c.at) is in
              let none = loose_none (b ∷ bs) low x.at (inr (omega arith), Each-map (λ y. (block_end b ≤ y.at) × (0 < y.size) × (block_end y ≤ top)) (λ y. (y.at < low) ⊎ (x.at ≤ y.at)) (λ y own. let from_b = own.0 in inr (omega arith)) bs (laid_each (block_end b) top bs laid.2)) in
              ap (λ (cs : List Block). block_with cs x.id) (first b bs to (omega arith))
              ∙ with_same x.id (record b { at = to }) (packed end (to + b.size) bs) same.0
              ∙ (λ i. Some (record (is i) { at = (let e : to ≡ to + loose_bytes (b ∷ bs) low x.at = omega (arith, none) in e) i }))
          | inr other ↦
              let known' : block_with bs x.id ≡ Some x = sym (with_other x.id b bs other.0) ∙ known in
              let end_b = (C.each_with (λ y. (block_end b ≤ y.at) × (0 < y.size) × (block_end y ≤ top)) x.id x bs known' (laid_each (block_end b) top bs laid.2)).0 in
              let is = inside_is low end b size (omega arith) (omega arith) fits.0 in
              let sum = loose_here b bs low x.at is.1 (omega arith) (omega arith) in
              ap (λ (cs : List Block). block_with cs x.id) (first b bs to (omega arith))
              ∙ with_other x.id (record b { at = to }) (packed end (to + b.size) bs) other.0
              ∙ with_packed (block_end b) top (to + b.size) bs laid.2 (omega arith) fits.1 known'
              ∙ ap (λ (a : ℕ). let r : Block = record x { at = a } in Some r) (let e : to + b.size + loose_bytes bs low x.at ≡ to + loose_bytes (b ∷ bs) low x.at = omega (arith, sum) in e)
        ]

    pub with_gathered : (from top : ℕ) (bs : List Block) → IsLaid from top bs → AllByRecursion (FitsGap low end) bs → block_with bs x.id ≡ Some x → block_with (gathered low end bs) x.id ≡ Some (record x { at = low + loose_bytes bs low x.at })
    with_gathered from top [] laid fits known = absurd (false≢true (ap is_some known))
    with_gathered from top (b ∷ bs) laid fits known = elim (cases_lt b.at low) [
      | inl lt ↦ elim (eqb_tells b.id x.id) [
        | inl same ↦ let e : Some b ≡ Some x = sym (with_same x.id b bs same.0) ∙ known in let is : b ≡ x = cc in let place = ap (λ (c : Block). c.at) is in absurd (omega arith)
        | inr other ↦
            ap (λ (cs : List Block). block_with cs x.id) (passed b bs lt) ∙ with_other x.id b (gathered low end bs) other.0
            ∙ with_gathered (block_end b) top bs laid.2 fits.1 (sym (with_other x.id b bs other.0) ∙ known)
            ∙ ap (λ (a : ℕ). let r : Block = record x { at = low + a } in Some r) (sym (loose_skip b bs low x.at (inl lt)))
      ]
      | inr ge ↦ ap (λ (cs : List Block). block_with cs x.id) (from_here b bs ge) ∙ with_packed b.at top low (b ∷ bs) (omega arith, laid.1, laid.2) ge fits known
    ]

-- an id's block, where blocks move
with_map : (f : Block → Block) (id : ℕ) (y : Block) (bs : List Block) → ((c : Block) → (f c).id ≡ c.id) → block_with bs id ≡ Some y → block_with (map f bs) id ≡ Some (f y)
with_map f id y [] ids known = absurd (false≢true (ap is_some known))
with_map f id y (b ∷ bs) ids known = elim (eqb_tells b.id id) [
  | inl same ↦
      let e : Some b ≡ Some y = sym (with_same id b bs same.0) ∙ known in let is : b ≡ y = cc in
      with_same id (f b) _ (eq-eqb (f b).id id (ids b ∙ same.1)) ∙ ap (λ c. Some (f c)) is
  | inr other ↦ with_other id (f b) _ (ap (λ i. eqb i id) (ids b) ∙ other.0) ∙ with_map f id y bs ids (sym (with_other id b bs other.0) ∙ known)
]

-- The raised blocks leave no byte free between them.
tiled_up : (ws : List Block) (low high p from top : ℕ) (bs : List Block) → IsLaid from top bs → AllByRecursion (FitsGap low high) bs → ((a : ℕ) → from ≤ a → loose_bytes ws a high ≡ loose_bytes bs a high)
    → high - loose_bytes bs low high ≤ p → p < high → AllByRecursion (λ y. (block_end y ≤ p) ⊎ (p < y.at)) (map (C.raised_in ws low high) bs) → ⊥
tiled_up ws low high p from top [] laid fits same least below missed = let none : loose_bytes [] low high ≡ 0 = refl in omega arith
tiled_up ws low high p from top (b ∷ bs) laid fits same least below missed =
    let start = laid.0 in let size = laid.1 in
    let same' : (a : ℕ) → block_end b ≤ a → loose_bytes ws a high ≡ loose_bytes bs a high = λ a le. same a (omega arith) ∙ loose_skip b bs a high (inl (omega arith)) in
    elim (cases_lt b.at low) [
      | inl lt ↦ let skip = loose_skip b bs low high (inl lt) in tiled_up ws low high p (block_end b) top bs laid.2 fits.1 same' (omega (arith, skip)) below missed.1
      | inr ge ↦ elim (cases_lt b.at high) [
        | inl lt ↦
            let is = inside_is low high b size ge lt fits.0 in
            let all = loose_here b bs low high is.1 ge lt in let own = loose_here b bs b.at high is.1 (omega arith) lt in
            let rest_from = loose_split bs low b.at high ge (omega arith) in
            let none = loose_none bs low b.at (Each-map (λ y. (block_end b ≤ y.at) × (0 < y.size) × (block_end y ≤ top)) (λ y. (y.at < low) ⊎ (b.at ≤ y.at)) (λ y own_y. let from_b = own_y.0 in inr (omega arith)) bs (laid_each _ top bs laid.2)) in
            let whole = same b.at start in
            let out : (block_end (record b { at = high - loose_bytes ws b.at high }) ≤ p) ⊎ (p < high - loose_bytes ws b.at high) =
            subst (λ c. (block_end c ≤ p) ⊎ (p < c.at)) (raised_inside ws low high b ge lt) missed.0 in
            elim out [
              | inl before ↦ tiled_up ws low high p _ top bs laid.2 fits.1 same' (omega (arith, all, own, rest_from, none, whole)) below missed.1
              | inr after ↦ absurd (omega (arith, all, own, rest_from, none, whole))
            ]
        | inr past ↦
            let none = loose_none (b ∷ bs) low high (inr past, Each-map (λ y. (block_end b ≤ y.at) × (0 < y.size) × (block_end y ≤ top)) (λ y. (y.at < low) ⊎ (high ≤ y.at)) (λ y own_y. let from_b = own_y.0 in inr (omega arith)) bs (laid_each _ top bs laid.2)) in
            absurd (omega (arith, none))
      ]
    ]

-- A gap that is opened behind a block x.
module _ (l : Layout) (ordered : C.IsOrdered l) (low high : ℕ) (may : MayGather l low high) (x : Block) (known : block_with l.blocks x.id ≡ Some x) (above : low ≤ x.at) (below : block_end x ≤ high) where
  abbrev end : ℕ
  end = block_end x

  some : 0 < x.size
  some = (lies l x.id x known ordered).1

  placed_by : AllByRecursion (λ c. (block_end c ≤ x.at) ⊎ ((end ≤ c.at) ⊎ (c ≡ x))) l.blocks
  placed_by = C.around l.lo l.hi l.cap x l.blocks ordered.laid ordered.named known

  cut : IsCut end l.blocks
  cut = Each-map (λ c. (block_end c ≤ x.at) ⊎ ((end ≤ c.at) ⊎ (c ≡ x))) (λ c. (block_end c ≤ end) ⊎ (end ≤ c.at))
      (λ c is. elim is [
        | inl before ↦ inl (omega arith)
        | inr other ↦ elim other [ inl behind ↦ inr behind | inr same ↦ let at = ap (λ (d : Block). d.at) same in let long = ap (λ (d : Block). d.size) same in inl (omega arith) ]
      ]) l.blocks placed_by

  pub may_low : MayGather l low end
  may_low = let top = may.inside.2 in record {
    inside = (may.inside.0, omega arith, omega arith);
    loose = C.Each-both (FitsGap low high) (λ c. (block_end c ≤ end) ⊎ (end ≤ c.at)) (FitsGap low end)
        (λ c fits at. elim fits [
          | inl before ↦ inl before
          | inr other ↦ elim other [
            | inl behind ↦ inr (inl (omega arith))
            | inr inside ↦ elim at [ inl to ↦ inr (inr (inside.0, to, inside.2)) | inr from ↦ inr (inl from) ]
          ]
        ]) l.blocks may.loose cut;
  }

  abbrev mid : List Block
  mid = gathered low end l.blocks

  fits_high : AllByRecursion (FitsGap end high) mid
  fits_high = All-gathered low end (FitsGap end high) (λ c. FitsGap low high c × ((block_end c ≤ end) ⊎ (end ≤ c.at)))
      (λ c is. elim is.1 [
        | inl to ↦ inl to
        | inr from ↦ elim is.0 [
          | inl before ↦ inl (omega arith)
          | inr other ↦ elim other [ inl behind ↦ inr (inl behind) | inr inside ↦ inr (inr (from, inside.1, inside.2)) ]
        ]
      ])
      (λ c to is lt le. inl (elim is.1 [ inl e ↦ omega arith | inr e ↦ absurd (omega arith) ]))
      l.lo l.hi l.blocks ordered.laid (C.Each-both (FitsGap low high) (λ c. (block_end c ≤ end) ⊎ (end ≤ c.at)) (λ c. FitsGap low high c × ((block_end c ≤ end) ⊎ (end ≤ c.at))) (λ c one two. (one, two)) l.blocks may.loose cut)

  pub may_high : (m : Layout) → m ≡ record { cap = l.cap; lo = l.lo; hi = l.hi; grain = l.grain; blocks = mid } → MayGather m end high
  may_high m is = subst (λ (n : Layout). MayGather n end high) (sym is) (let bottom = may.inside.0 in let top = may.inside.2 in record { inside = (omega arith, below, top); loose = fits_high })

  -- how many bytes there are
  abbrev free : ℕ
  free = C.end_in l.blocks low x

  abbrev stop : ℕ
  stop = free + C.spare_in l.blocks low high

  loose_x : x.hold ≡ Loose
  loose_x = (inside_is low high x some above (let size = some in omega arith) (C.each_with (FitsGap low high) x.id x l.blocks known may.loose)).1

  free_is : free ≡ low + loose_bytes l.blocks low end
  free_is =
      let two = loose_split l.blocks low x.at end above (omega arith) in
      let one = loose_only l.lo l.hi end x l.blocks ordered.laid known loose_x (let size = some in omega arith)
      (Each-map (λ c. (block_end c ≤ x.at) ⊎ ((end ≤ c.at) ⊎ (c ≡ x))) (λ c. (c.at ≤ x.at) ⊎ (end ≤ c.at))
      (λ c is. elim is [
        | inl before ↦ inl (omega arith)
        | inr other ↦ elim other [ inl behind ↦ inr behind | inr same ↦ let at = ap (λ (d : Block). d.at) same in inl (omega arith) ]
      ]) l.blocks placed_by) in
      omega (arith, two, one)

  free_low : free ≤ end
  free_low = let is = free_is in let most = loose_most low end l.lo l.hi l.blocks ordered.laid cut in let low_in = may.inside.0 in omega (arith, is, most)

  stop_is : (stop ≡ high - loose_bytes l.blocks end high) × (end + loose_bytes l.blocks end high ≤ high)
  stop_is =
      let two = loose_split l.blocks low end high (omega arith) below in let is = free_is in let room = free_low in
      let most = loose_most end high l.lo l.hi l.blocks ordered.laid (cut_high low high l.blocks may.inside.1 may.loose) in
      let low_in = may.inside.0 in (omega (arith, two, is, most, room), omega (arith, most))

  -- the blocks afterwards
  abbrev new : List Block
  new = C.opened low end high l.blocks

  abbrev up : Block → Block
  up b = C.raised_in mid end high b

  still : (b : Block) → b.at < end → up b ≡ b
  still b lt = raised_below mid end high b lt

  pub moved_opened : moved_between l.blocks new ≡ moved_between l.blocks mid + moved_between mid new
  moved_opened = moved_both low end up still l.lo l.hi l.blocks ordered.laid (omega arith)

  pub with_opened : block_with new x.id ≡ Some (record x { at = low + loose_bytes l.blocks low x.at })
  with_opened =
      let there : Block = record x { at = low + loose_bytes l.blocks low x.at } in
      with_map up x.id there mid (raised_id mid end high) (with_gathered low end x (let size = some in omega arith) above l.lo l.hi l.blocks ordered.laid may_low.loose known)
      ∙ ap (λ (c : Block). Some c) (still there (let room = free_low in let size = some in omega arith))

  past_mid : AllByRecursion (Past free end) mid
  past_mid = let is = free_is in clear_from low end l.lo l.hi free l.blocks ordered.laid may_low.loose may_low.inside.1 (omega arith)

  past_new : AllByRecursion (Past free stop) new
  past_new = C.All-mapped (Past free end) (Past free end) (Past free stop) up
      (λ b is _. by_reach mid end high (Past free stop) b
      (λ lt. elim is [ inl before ↦ inl before | inr behind ↦ absurd (omega arith) ])
      (λ over. let s = stop_is.0 in inr (omega arith))
      (λ ge lt. let s = stop_is in let same = loose_gathered low end high l.lo l.hi l.blocks ordered.laid (omega arith) in let two = loose_split mid end b.at high ge (omega arith) in inr (omega (arith, s, same, two)))) mid past_mid past_mid

  pub clear_opened : C.IsClear is_any l.lo l.hi new free stop
  clear_opened = let low_in = may.inside.0 in let top = may.inside.2 in let s = stop_is.0 in record {
    above = omega arith;
    below = omega arith;
    misses = C.All-from_Each _ new (Each-map (Past free stop) (λ y. C.IsTrue (is_any y) → Misses y.at y.size free stop) (λ y f t. f) new past_new);
  }

  -- what is free in the gap lies there
  module _ (gap : IsGap l.lo l.hi l.blocks low high) (slid : AreSlid l.blocks new) (laid_mid : IsLaid l.lo l.hi mid) where
    behind : (a b : ℕ) → C.IsClear is_any l.lo l.hi new a b → a < b → low ≤ a → b ≤ high → (free ≤ a) × (b ≤ stop)
    behind a b clear some_bytes from to = (
      elim (cases_lt a free) [
        | inl lt ↦ absurd (tiled low end l.lo l.hi a (min b free) l.blocks ordered.laid may_low.loose from (omega arith) (let is = free_is in omega arith)
            (C.All-unmapped (Past free end) (λ y. Misses y.at y.size a (min b free)) (λ y. Misses y.at y.size a b) up
            (λ y is out. elim (cases_lt y.at end) [
              | inl less ↦ elim (subst (λ (c : Block). Misses c.at c.size a b) (still y less) out) [ inl before ↦ inl before | inr after ↦ inr (omega arith) ]
              | inr more ↦ let room = free_low in inr (omega arith)
            ]) mid past_mid (missed l low high ordered.laid may gap new slid a b clear)))
        | inr ge ↦ ge
      ],
      elim (cases_lt stop b) [
        | inl lt ↦
            let s = stop_is.0 in let same = loose_gathered low end high l.lo l.hi l.blocks ordered.laid (omega arith) in
            absurd (tiled_up mid end high (max a stop) l.lo l.hi mid laid_mid fits_high (λ _ _. refl) (omega (arith, s, same)) (omega arith)
            (Each-map (λ y. Misses y.at y.size a b) (λ y. (block_end y ≤ max a stop) ⊎ (max a stop < y.at)) (λ y out. elim out [ inl before ↦ inl (omega arith) | inr after ↦ inr (omega arith) ]) new
            (missed l low high ordered.laid may gap new slid a b clear)))
        | inr ge ↦ ge
      ],
    )

    pub hole_opened : free < stop → C.IsHole l.lo l.hi new free stop
    hole_opened = one_hole l low high ordered.laid may gap new slid free stop (let s = stop_is.0 in (omega arith, omega arith)) clear_opened behind

    pub alone_opened : (a b : ℕ) → C.IsHole l.lo l.hi new a b → (b ≤ low) ⊎ ((high ≤ a) ⊎ ((a ≡ free) × (b ≡ stop)))
    alone_opened = no_other l low high ordered.laid may gap new slid free stop (let s = stop_is.0 in (omega arith, omega arith)) clear_opened behind
