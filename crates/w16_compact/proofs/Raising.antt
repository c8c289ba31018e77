-- A raise from its start, by a block, to its end.
use Rattle.w16_compact.proofs
use proofs.Common as C
use proofs.Common.{ℕ, ◌≡◌, ◌≢◌, ◌+◌, ◌-◌, ◌<◌, ◌≤◌, ◌⊎◌, Bool, true, false, ◌&&◌, cond, eqb, nat_le, nat_lt, max, min, List, [], ◌∷◌, map, Some, arith, refl, sym, ap, ◌∙◌, subst, inl, inr, lt-ltb, le-ltb, lt-leb, cases_lt, false≢true, AllByRecursion, Block, Span, Loose, IsLaid, block_end}
use proofs.Common.{loose_bytes, block_with, Each-map, laid_each, Layout, IsCut, IsRun, slid_with, Lacks, later, each_with, All-mapped, slid_above, moved_to, moved_between, FitsGap, raised_in, raised}
use proofs.Loose.{loose_one, loose_none, loose_here}
use proofs.{Cleared.inside_is, Gathering.moved_same, Settled.same_layout}
use Rattle.std.proofs.lemmas.Bool.{le-leb, ne_eqb}

-- The bytes of loose blocks, by where they begin.

-- an interval in two
piece : (l : Bool) (p n a b c : ℕ) → a ≤ b → b ≤ c → cond (l && (nat_le a p && nat_lt p c)) n 0 ≡ cond (l && (nat_le a p && nat_lt p b)) n 0 + cond (l && (nat_le b p && nat_lt p c)) n 0
piece false p n a b c one two = refl
piece true p n a b c one two = elim (cases_lt p a) [
  | inl below ↦ rw (lt-leb a p below, lt-leb b p (omega arith)) refl
  | inr from ↦ elim (cases_lt p b) [
    | inl first ↦ rw (le-leb a p from, lt-ltb p b first, lt-ltb p c (omega arith), lt-leb b p first) (omega arith)
    | inr second ↦ elim (cases_lt p c) [
      | inl inside ↦ rw (le-leb a p from, le-ltb p b second, lt-ltb p c inside, le-leb b p second) (omega arith)
      | inr above ↦ rw (le-leb a p from, le-ltb p b second, le-ltb p c above, le-leb b p second) refl
    ]
  ]
]

pub loose_split : (bs : List Block) (a b c : ℕ) → a ≤ b → b ≤ c → loose_bytes bs a c ≡ loose_bytes bs a b + loose_bytes bs b c
loose_split [] a b c one two = refl
loose_split (x ∷ xs) a b c one two =
    let all = loose_one x xs a c in let first = loose_one x xs a b in let second = loose_one x xs b c in
    let own = piece (C.is_loose x) x.at x.size a b c one two in let rest = loose_split xs a b c one two in
    omega (arith, all, first, second, own, rest)

-- without a block that begins elsewhere
pub loose_skip : (x : Block) (xs : List Block) (a b : ℕ) → (x.at < a) ⊎ (b ≤ x.at) → loose_bytes (x ∷ xs) a b ≡ loose_bytes xs a b
loose_skip x xs a b out =
    let none : loose_bytes (x ∷ []) a b ≡ 0 = loose_none (x ∷ []) a b (out, tt) in
    let one = loose_one x xs a b in let two = loose_one x [] a b in let empty : loose_bytes [] a b ≡ 0 = refl in
    omega (arith, none, one, two, empty)

-- those of no interval
pub loose_empty : (bs : List Block) (a : ℕ) → loose_bytes bs a a ≡ 0
loose_empty bs a = loose_none bs a a (out bs)
  where
    out : (cs : List Block) → AllByRecursion (λ y. (y.at < a) ⊎ (a ≤ y.at)) cs
    out [] = tt
    out (y ∷ ys) = (cases_lt y.at a, out ys)

-- those of one block
pub loose_only : (lo hi s : ℕ) (x : Block) (bs : List Block) → IsLaid lo hi bs → block_with bs x.id ≡ Some x → x.hold ≡ Loose → x.at < s → AllByRecursion (λ c. (c.at ≤ x.at) ⊎ (s ≤ c.at)) bs → loose_bytes bs x.at s ≡ x.size
loose_only lo hi s x [] laid known loose lt last = absurd (false≢true (ap C.is_some known))
loose_only lo hi s x (b ∷ bs) laid known loose lt last =
    let size = laid.1 in
    elim (C.eqb_tells b.id x.id) [
      | inl same ↦
          let f : Some b ≡ Some x = sym (C.with_same x.id b bs same.0) ∙ known in let g : b ≡ x = cc in
          let place = ap (λ c. c.at) g in let long = ap (λ c. c.size) g in
          let sum = loose_here b bs x.at s (ap (λ c. c.hold) g ∙ loose) (omega arith) (omega arith) in
          let none = loose_none bs x.at s (behind bs (Each-map (λ y. (block_end b ≤ y.at) × (0 < y.size) × (block_end y ≤ hi)) (λ y. x.at < y.at) (λ y is. let from = is.0 in omega arith) bs (laid_each _ hi bs laid.2)) last.1) in
          omega (arith, sum, none, long)
      | inr other ↦
          let known' = sym (C.with_other x.id b bs other.0) ∙ known in
          let above = (each_with (λ y. (block_end b ≤ y.at) × (0 < y.size) × (block_end y ≤ hi)) x.id x bs known' (laid_each _ hi bs laid.2)).0 in
          loose_skip b bs x.at s (inl (omega arith)) ∙ loose_only (block_end b) hi s x bs laid.2 known' loose lt last.1
    ]
  where
    behind : (cs : List Block) → AllByRecursion (λ y. x.at < y.at) cs → AllByRecursion (λ c. (c.at ≤ x.at) ⊎ (s ≤ c.at)) cs → AllByRecursion (λ y. (y.at < x.at) ⊎ (s ≤ y.at)) cs
    behind [] one two = tt
    behind (y ∷ ys) one two = ((let more = one.0 in elim two.0 [ inl under ↦ absurd (omega arith) | inr over ↦ inr over ]), behind ys one.1 two.1)

-- Where a block is raised to.
module _ (bs : List Block) (low high : ℕ) where
  pub raised_below : (b : Block) → b.at < low → raised_in bs low high b ≡ b
  raised_below b lt = rw (lt-leb low b.at lt) refl

  pub raised_above : (b : Block) → high ≤ b.at → raised_in bs low high b ≡ b
  raised_above b le = elim (cases_lt b.at low) [
    | inl lt ↦ raised_below b lt
    | inr ge ↦ rw (le-leb low b.at ge, le-ltb b.at high le) refl
  ]

  pub raised_inside : (b : Block) → low ≤ b.at → b.at < high → raised_in bs low high b ≡ record b { at = high - loose_bytes bs b.at high }
  raised_inside b le lt = rw (le-leb low b.at le, lt-ltb b.at high lt) refl

  -- by cases of where it begins
  pub by_reach : (P : Block → Type 0) (b : Block) → (b.at < low → P b) → (high ≤ b.at → P b) → (low ≤ b.at → b.at < high → P (record b { at = high - loose_bytes bs b.at high })) → P (raised_in bs low high b)
  by_reach P b below above inside = elim (cases_lt b.at low) [
    | inl lt ↦ subst P (sym (raised_below b lt)) (below lt)
    | inr ge ↦ elim (cases_lt b.at high) [
      | inl lt ↦ subst P (sym (raised_inside b ge lt)) (inside ge lt)
      | inr over ↦ subst P (sym (raised_above b over)) (above over)
    ]
  ]

  pub raised_id : (b : Block) → (raised_in bs low high b).id ≡ b.id
  raised_id b = by_reach (λ c. c.id ≡ b.id) b (λ _. refl) (λ _. refl) (λ _ _. refl)

  -- the same blocks, the pinned ones where they were
  pub slid_raised : (from top : ℕ) (xs : List Block) → IsLaid from top xs → AllByRecursion (FitsGap low high) xs → C.AreSlid xs (map (raised_in bs low high) xs)
  slid_raised from top [] laid fits = tt
  slid_raised from top (b ∷ xs) laid fits =
      let r = by_reach (λ c. (c ≡ record b { at = c.at }) × (C.IsTrue (C.is_pinned b) → c.at ≡ b.at)) b (λ _. (refl, λ t. refl)) (λ _. (refl, λ t. refl))
      (λ le lt. (refl, λ t. absurd (false≢true (sym (ap C.holds_still (inside_is low high b laid.1 le lt fits.0).1) ∙ t)))) in
      (r.0, r.1, slid_raised (block_end b) top xs laid.2 fits.1)

-- At the start none is raised, and at the end all are.
pub raised_none : (ws : List Block) (high : ℕ) (bs : List Block) → map (raised_in ws high high) bs ≡ bs
raised_none ws high [] = refl
raised_none ws high (b ∷ bs) = λ i. elim (cases_lt b.at high) as (λ _. raised_in ws high high b ≡ b) [ inl lt ↦ raised_below ws high high b lt | inr ge ↦ raised_above ws high high b ge ] i ∷ raised_none ws high bs i

pub raised_all : (ws : List Block) (low s high : ℕ) → low ≤ s → (bs : List Block) → AllByRecursion (λ b. (b.at < low) ⊎ (s ≤ b.at)) (map (raised_in ws s high) bs) → map (raised_in ws s high) bs ≡ map (raised_in ws low high) bs
raised_all ws low s high le [] all = refl
raised_all ws low s high le (b ∷ bs) all = λ i. one (cases_lt b.at s) i ∷ raised_all ws low s high le bs all.1 i
  where
    one : (b.at < s) ⊎ (s ≤ b.at) → raised_in ws s high b ≡ raised_in ws low high b
    one (inl lt) =
        let is = subst (λ c. (c.at < low) ⊎ (s ≤ c.at)) (raised_below ws s high b lt) all.0 in
        raised_below ws s high b lt ∙ elim is [ inl under ↦ sym (raised_below ws low high b under) | inr over ↦ absurd (omega arith) ]
    one (inr ge) = elim (cases_lt b.at high) [
      | inl less ↦ raised_inside ws s high b ge less ∙ sym (raised_inside ws low high b (omega arith) less)
      | inr over ↦ raised_above ws s high b over ∙ sym (raised_above ws low high b over)
    ]

-- the bytes moved, where the loose blocks of an interval move and all others stand in both lists alike
moved_each : (f g : Block → Block) (low high from to : ℕ) (top bound : ℕ) (bs : List Block) → IsLaid bound top bs → AllByRecursion (FitsGap low high) bs → low ≤ from → to ≤ high
    → AllByRecursion (λ c. ((c.at < from) ⊎ (to ≤ c.at)) → (g c).at ≡ (f c).at) bs → AllByRecursion (λ c. from ≤ c.at → c.at < to → ((f c).at ≡ c.at) × ((g c).at ≢ c.at)) bs
    → moved_between bs (map g bs) ≡ moved_between bs (map f bs) + loose_bytes bs from to
moved_each f g low high from to top bound [] laid fits one two alike moves = refl
moved_each f g low high from to top bound (b ∷ bs) laid fits one two alike moves =
    let rest = moved_each f g low high from to top (block_end b) bs laid.2 fits.1 one two alike.1 moves.1 in
    let out : ((b.at < from) ⊎ (to ≤ b.at)) → moved_between (b ∷ bs) (map g (b ∷ bs)) ≡ moved_between (b ∷ bs) (map f (b ∷ bs)) + loose_bytes (b ∷ bs) from to =
    λ side. let first = ap (λ a. cond (eqb b.at a) 0 b.size) (alike.0 side) in let skip = loose_skip b bs from to side in omega (arith, rest, first, skip) in
    elim (cases_lt b.at from) [
      | inl below ↦ out (inl below)
      | inr ge ↦ elim (cases_lt b.at to) [
        | inr above ↦ out (inr above)
        | inl lt ↦
            let is = moves.0 ge lt in let still = is.0 in
            let sum = loose_here b bs from to (inside_is low high b laid.1 (omega arith) (omega arith) fits.0).1 ge lt in
            let before = C.cond-true (eqb b.at (f b).at) 0 b.size (C.eq-eqb b.at (f b).at (sym still)) in
            let after = C.cond-false (eqb b.at (g b).at) 0 b.size (ne_eqb b.at (g b).at (λ e. is.1 (sym e))) in
            omega (arith, rest, sum, before, after)
      ]
    ]

-- the loose blocks of an interval that blocks fill have all its bytes
loose_run : (low high from to bound top : ℕ) (bs : List Block) → IsLaid bound top bs → AllByRecursion (FitsGap low high) bs → IsCut from bs → IsCut to bs → low ≤ from → to ≤ high
    → ((p : ℕ) → max bound from ≤ p → p < to → AllByRecursion (Lacks p) bs → ⊥) → loose_bytes bs from to ≡ to - max bound from
loose_run low high from to bound top [] laid fits cut cut' one two full = elim (cases_lt (max bound from) to) [
  | inl lt ↦ absurd (full _ (omega arith) lt tt)
  | inr ge ↦ let none : loose_bytes [] from to ≡ 0 = refl in omega (arith, none)
]
loose_run low high from to bound top (b ∷ bs) laid fits cut cut' one two full =
    let start = laid.0 in let size = laid.1 in
    let rest = loose_run low high from to (block_end b) top bs laid.2 fits.1 cut.1 cut'.1 one two (λ p ge lt lacks. full p (omega arith) lt (inr (omega arith), lacks)) in
    elim (cases_lt b.at from) [
      | inl below ↦
          let end : block_end b ≤ from = elim cut.0 [ inl e ↦ e | inr e ↦ absurd (omega arith) ] in
          let skip = loose_skip b bs from to (inl below) in omega (arith, rest, skip, end)
      | inr ge ↦ elim (cases_lt (max bound from) (min b.at to)) [
        | inl less ↦ absurd (full (max bound from) (omega arith) (omega arith) (inl (omega arith), later _ _ top bs (omega arith) laid.2))
        | inr more ↦ elim (cases_lt b.at to) [
          | inr above ↦ let skip = loose_skip b bs from to (inr above) in omega (arith, rest, skip)
          | inl lt ↦
              let sum = loose_here b bs from to (inside_is low high b size (omega arith) (omega arith) fits.0).1 ge lt in
              let end : block_end b ≤ to = elim cut'.0 [ inl e ↦ e | inr e ↦ absurd (omega arith) ] in
              omega (arith, rest, sum, end)
        ]
      ]
    ]

-- no block reaches over where another begins
cut_each : (bound top : ℕ) (bs : List Block) → IsLaid bound top bs → AllByRecursion (λ c. IsCut c.at bs) bs
cut_each bound top [] laid = tt
cut_each bound top (b ∷ bs) laid =
    let behind = laid_each _ top bs laid.2 in let size = laid.1 in (
      (inr (omega arith), Each-map (λ y. (block_end b ≤ y.at) × (0 < y.size) × (block_end y ≤ top)) (λ y. (block_end y ≤ b.at) ⊎ (b.at ≤ y.at)) (λ y own. let from = own.0 in inr (omega arith)) bs behind),
      C.Each-both (λ y. (block_end b ≤ y.at) × (0 < y.size) × (block_end y ≤ top)) (λ c. IsCut c.at bs) (λ c. IsCut c.at (b ∷ bs)) (λ c own cut. (inl own.0, cut)) bs behind (cut_each (block_end b) top bs laid.2),
    )

-- no block reaches over the low end of the interval, nor over an end of a block
pub cut_low_now : (old : List Block) (low high s to : ℕ) → low ≤ s → s ≤ high → to + loose_bytes old s high ≡ high → s ≤ to → (now : List Block) → now ≡ raised s high old → IsCut low old → IsCut low now
cut_low_now old low high s to le below place room now list cut =
    subst (AllByRecursion (λ c. (block_end c ≤ low) ⊎ (low ≤ c.at))) (sym list)
    (All-mapped (λ c. (block_end c ≤ low) ⊎ (low ≤ c.at)) (λ c. (block_end c ≤ low) ⊎ (low ≤ c.at)) (λ c. (block_end c ≤ low) ⊎ (low ≤ c.at)) (raised_in old s high)
    (λ c at _. by_reach old s high (λ d. (block_end d ≤ low) ⊎ (low ≤ d.at)) c (λ _. at) (λ _. at) (λ ge less. let two = loose_split old s c.at high ge (omega arith) in inr (omega (arith, two, place)))) old cut cut)

pub cut_end_now : (l : Layout) (x : Block) → C.IsOrdered l → block_with l.blocks x.id ≡ Some x → IsCut (block_end x) l.blocks
cut_end_now l x ordered known = Each-map (λ c. (block_end c ≤ x.at) ⊎ ((block_end x ≤ c.at) ⊎ (c ≡ x))) (λ c. (block_end c ≤ block_end x) ⊎ (block_end x ≤ c.at))
    (λ c is. elim is [
      | inl before ↦ inl (omega arith)
      | inr other ↦ elim other [ inl behind ↦ inr behind | inr same ↦ let at = ap (λ d. d.at) same in let long = ap (λ d. d.size) same in inl (omega arith) ]
    ]) _ (C.around l.lo l.hi l.cap x _ ordered.laid ordered.named known)

-- A step: the last run that isn't raised yet, which ends with x, is raised.
module _ (old : List Block) (lo hi low high s to : ℕ) (laid : IsLaid lo hi old) (fits : AllByRecursion (FitsGap low high) old) (below : s ≤ high) (place : to + loose_bytes old s high ≡ high) (room : s ≤ to)
    (cut : IsCut s old) (now : Layout) (ordered : C.IsOrdered now) (list : now.blocks ≡ raised s high old) (x : Block) (known_now : block_with now.blocks x.id ≡ Some x) (lt : x.at < s) (last_now : AllByRecursion (λ c. (c.at ≤ x.at) ⊎ (s ≤ c.at)) now.blocks)
    (run : Span) (is : IsRun now run) (some : run.from < run.to) (from : low ≤ run.from) (ends : run.to ≡ block_end x) where
  -- what is raised stands from `to` on
  stands : (c : Block) → s ≤ c.at → c.at < high → to ≤ high - loose_bytes old c.at high
  stands c ge less = let two = loose_split old s c.at high ge (omega arith) in omega (arith, two)

  known : block_with old x.id ≡ Some x
  known = C.with_back (raised_in old s high) x old (raised_id old s high)
      (λ c. by_reach old s high (λ d. d ≡ x → c ≡ x) c (λ _ e. e) (λ _ e. e) (λ ge less e. let at = ap (λ (d : Block). d.at) e in let up = stands c ge less in absurd (omega arith)))
      (subst (λ bs. block_with bs x.id ≡ Some x) list known_now)

  own : (lo ≤ x.at) × (0 < x.size) × (block_end x ≤ hi)
  own = each_with (λ y. (lo ≤ y.at) × (0 < y.size) × (block_end y ≤ hi)) x.id x old known (laid_each lo hi old laid)

  pub end_below : run.to ≤ s
  end_below = elim (each_with (λ b. (block_end b ≤ s) ⊎ (s ≤ b.at)) x.id x old known cut) [ inl end ↦ omega arith | inr over ↦ absurd (omega arith) ]

  -- what isn't raised yet stands where it stood
  back : (P : Block → Type 0) → AllByRecursion P now.blocks → ((c : Block) → s ≤ c.at → P c) → AllByRecursion P old
  back P all over = C.All-unmapped (λ y. (lo ≤ y.at) × (0 < y.size) × (block_end y ≤ hi)) P P (raised_in old s high)
      (λ c _ told. elim (cases_lt c.at s) [ inl less ↦ subst P (raised_below old s high c less) told | inr ge ↦ over c ge ]) old (laid_each lo hi old laid) (subst (AllByRecursion P) list all)

  last : AllByRecursion (λ c. (c.at ≤ x.at) ⊎ (s ≤ c.at)) old
  last = back (λ c. (c.at ≤ x.at) ⊎ (s ≤ c.at)) last_now (λ c ge. inr ge)

  pub cut_then : IsCut run.from old
  cut_then = let end = end_below in back (λ c. (block_end c ≤ run.from) ⊎ (run.from ≤ c.at)) is.whole.0 (λ c ge. inr (omega arith))

  cut_end : IsCut run.to old
  cut_end = let end = end_below in back (λ c. (block_end c ≤ run.to) ⊎ (run.to ≤ c.at)) is.whole.1 (λ c ge. inr (omega arith))

  full : (p : ℕ) → run.from ≤ p → p < run.to → AllByRecursion (Lacks p) old → ⊥
  full p ge less lacks =
      let end = end_below in let bottom = is.inside.0 in let top = is.inside.2 in
      is.full p ge less (C.lacks_free p now.lo now.hi now.blocks ordered.laid (omega arith) (omega arith) (subst (AllByRecursion (Lacks p)) (sym list)
      (All-mapped (Lacks p) (Lacks p) (Lacks p) (raised_in old s high) (λ c is_out _. by_reach old s high (Lacks p) c (λ _. is_out) (λ _. is_out) (λ ge_c less_c. let up = stands c ge_c less_c in inl (omega arith))) old lacks lacks)))

  -- the bytes of the run's blocks from one of them on
  loose_from : (q : ℕ) → run.from ≤ q → q ≤ run.to → IsCut q old → loose_bytes old q s ≡ run.to - q
  loose_from q ge le cut_q =
      let end = end_below in
      let two = loose_split old q run.to s le end in
      let none = loose_none old run.to s (Each-map (λ c. (c.at ≤ x.at) ⊎ (s ≤ c.at)) (λ c. (c.at < run.to) ⊎ (s ≤ c.at)) (λ c told. let size = own.1 in elim told [ inl under ↦ inl (omega arith) | inr over ↦ inr over ]) old last) in
      let one = loose_run low high q run.to 0 hi old (later_from old laid) fits cut_q cut_end (omega arith) (omega arith) (λ p above less lacks. full p (omega arith) less lacks) in
      omega (arith, two, none, one)
    where
      later_from : (bs : List Block) → IsLaid lo hi bs → IsLaid 0 hi bs
      later_from [] laid_bs = omega arith
      later_from (b ∷ bs) laid_bs = (omega arith, laid_bs.1, laid_bs.2)

  abbrev size : ℕ
  size = run.to - run.from

  abbrev next : ℕ
  next = to - size

  pub room_then : (size ≤ to) × (run.from ≤ next) × (next + size ≡ to) × (to ≤ high)
  room_then = let end = end_below in (omega arith, omega arith, omega arith, omega arith)

  place_from : (q : ℕ) → run.from ≤ q → q ≤ run.to → IsCut q old → next + (q - run.from) + loose_bytes old q high ≡ high
  place_from q ge le cut_q = let end = end_below in let two = loose_split old q s high (omega arith) below in let one = loose_from q ge le cut_q in omega (arith, two, one, place)

  pub place_then : next + loose_bytes old run.from high ≡ high
  place_then = let all = place_from run.from (omega arith) (omega arith) cut_then in omega (arith, all)

  pub bare_then : C.IsBare run.to (next + size) now.blocks
  bare_then =
      let r = room_then in let sum = r.2 in let top = r.3 in let size_x = own.1 in
      subst (AllByRecursion (λ c. (block_end c ≤ run.to) ⊎ (next + size ≤ c.at))) (sym list)
      (All-mapped (λ c. (c.at ≤ x.at) ⊎ (s ≤ c.at)) (λ c. (block_end c ≤ run.to) ⊎ (run.to ≤ c.at)) (λ c. (block_end c ≤ run.to) ⊎ (next + size ≤ c.at)) (raised_in old s high)
      (λ c told at. by_reach old s high (λ d. (block_end d ≤ run.to) ⊎ (next + size ≤ d.at)) c
      (λ less. elim told [ inl under ↦ elim at [ inl e ↦ inl e | inr e ↦ absurd (omega arith) ] | inr over ↦ absurd (omega arith) ])
      (λ over. inr (omega arith)) (λ ge less. let up = stands c ge less in inr (omega arith))) old last cut_end)

  one : (c : Block) → (c.at ≤ x.at) ⊎ (s ≤ c.at) → IsCut c.at old → slid_with run next (raised_in old s high c) ≡ raised_in old run.from high c
  one c told cut_c = let end = end_below in let size_x = own.1 in elim (cases_lt c.at run.from) [
    | inl less ↦ ap (slid_with run next) (raised_below old s high c (omega arith)) ∙ C.slid_below run next c less ∙ sym (raised_below old run.from high c less)
    | inr ge ↦ elim told [
      | inl le ↦
          ap (slid_with run next) (raised_below old s high c (omega arith)) ∙ C.slid_inside run next c ge (omega arith)
          ∙ moved_to c (next + (c.at - run.from)) (high - loose_bytes old c.at high) (let p = place_from c.at ge (omega arith) cut_c in omega (arith, p))
          ∙ sym (raised_inside old run.from high c ge (omega arith))
      | inr over ↦ elim (cases_lt c.at high) [
        | inl less ↦
            ap (slid_with run next) (raised_inside old s high c over less)
            ∙ slid_above run next (record c { at = high - loose_bytes old c.at high }) (let up = stands c over less in omega arith) ∙ sym (raised_inside old run.from high c ge less)
        | inr past ↦ ap (slid_with run next) (raised_above old s high c past) ∙ slid_above run next c (omega arith) ∙ sym (raised_above old run.from high c past)
      ]
    ]
  ]

  each_one : (bs : List Block) → AllByRecursion (λ c. (c.at ≤ x.at) ⊎ (s ≤ c.at)) bs → AllByRecursion (λ c. IsCut c.at old) bs → map (slid_with run next) (map (raised_in old s high) bs) ≡ map (raised_in old run.from high) bs
  each_one [] all cuts = refl
  each_one (b ∷ bs) all cuts = λ i. one b all.0 cuts.0 i ∷ each_one bs all.1 cuts.1 i

  pub list_then : map (slid_with run next) now.blocks ≡ raised run.from high old
  list_then = ap (map (slid_with run next)) list ∙ each_one old last (cut_each lo hi old laid)

  -- where it stood there already no block moves, and else each of the run
  pub moved_then : (r : ℕ) → r ≡ cond (eqb run.from next) 0 size → moved_between old (raised run.from high old) ≡ moved_between old now.blocks + r
  moved_then r told =
      ap (λ bs. moved_between old bs) (sym list_then) ∙ (elim (C.eqb_tells run.from next) [
        | inl same ↦
            let none : r ≡ 0 = rw same.0 at told in
            let still = ap (λ (m : Layout). moved_between old m.blocks) (same_layout now run next same.1) in omega (arith, none, still)
        | inr other ↦
            let all : r ≡ size = rw other.0 at told in let end = end_below in
            let sum = loose_from run.from (omega arith) (omega arith) cut_then in
            let two = loose_split old run.from run.to s (omega arith) end in let rest = loose_from run.to (omega arith) (omega arith) cut_end in
            let each = moved_each (raised_in old s high) (raised_in old run.from high) low high run.from run.to hi lo old laid fits from (omega arith)
            (Each-map (λ c. (c.at ≤ x.at) ⊎ (s ≤ c.at)) (λ c. ((c.at < run.from) ⊎ (run.to ≤ c.at)) → (raised_in old run.from high c).at ≡ (raised_in old s high c).at) (λ c is_c side. ap (λ (d : Block). d.at) (alike c is_c side)) old last)
            (C.Each-both (λ c. (c.at ≤ x.at) ⊎ (s ≤ c.at)) (λ c. IsCut c.at old) (λ c. run.from ≤ c.at → c.at < run.to → ((raised_in old s high c).at ≡ c.at) × ((raised_in old run.from high c).at ≢ c.at))
            (λ c is_c cut_c ge less. (
              ap (λ (d : Block). d.at) (raised_below old s high c (omega arith)),
              (λ e. let up = ap (λ (d : Block). d.at) (raised_inside old run.from high c ge (omega arith)) in let p = place_from c.at ge (omega arith) cut_c in other.1 (omega (arith, up, p, e))),
            )) old last (cut_each lo hi old laid)) in
            let e = ap (moved_between old) list_then in let f = ap (moved_between old) list in
            omega (arith, all, sum, two, rest, each, e, f)
      ])
    where
      alike : (c : Block) → (c.at ≤ x.at) ⊎ (s ≤ c.at) → (c.at < run.from) ⊎ (run.to ≤ c.at) → raised_in old run.from high c ≡ raised_in old s high c
      alike c is_c (inl less) = let end = end_below in raised_below old run.from high c less ∙ sym (raised_below old s high c (omega arith))
      alike c (inl le) (inr over) = let size_x = own.1 in absurd (omega arith)
      alike c (inr ge) (inr over) = let end = end_below in elim (cases_lt c.at high) [
        | inl less ↦ raised_inside old run.from high c (omega arith) less ∙ sym (raised_inside old s high c ge less)
        | inr past ↦ raised_above old run.from high c past ∙ sym (raised_above old s high c past)
      ]

pub moved_start : (high : ℕ) (bs : List Block) → moved_between bs (raised high high bs) ≡ 0
moved_start high bs = ap (moved_between bs) (raised_none bs high bs) ∙ moved_same bs
