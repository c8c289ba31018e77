-- Used bytes that slide down over free ones: what is taken was free, what is put was used, and the bytes come along.
use Rattle.w16_holes.proofs
use proofs.Common.{ℕ, suc, ◌≡◌, ◌<◌, ◌≤◌, ◌+◌, ◌-◌, ◌⊎◌, max, min, List, [], ◌∷◌, length, sym, subst, arith, inl, inr, cases_lt, lt-ltb, le-ltb, Span, put_part, part, IsMultiple, Range, AreHoles, IsFree, IsUsed, IsPart, AreSameIn, AreSameOutside, AreSameBut, add_span, taken, joined}
use proofs.{Units.multiple_sum, Units.multiple_less, Sets.AreHoles-taken, Sets.here_or_rest, Slid.free_stays, Slid.come_along, Slid.others_stay}

pub free_less : (a b c : ℕ) (hs : List Span) → b ≤ c → IsFree a c hs → IsFree a b hs
free_less a b c [] le free = absurd free
free_less a b c (h ∷ hs) le free = elim free [ inl here ↦ inl (here.0, let to = here.1 in omega arith) | inr rest ↦ inr (free_less a b c hs le rest) ]

used_within : (a b c d : ℕ) (hs : List Span) → a ≤ c → d ≤ b → IsUsed a b hs → IsUsed c d hs
used_within a b c d [] from to used = tt
used_within a b c d (h ∷ hs) from to used = (elim used.0 [ inl before ↦ inl (omega arith) | inr behind ↦ inr (omega arith) ], used_within a b c d hs from to used.1)

-- what is below all holes is used
used_below : (a b lo hi : ℕ) (hs : List Span) → b ≤ lo → AreHoles lo hi hs → IsUsed a b hs
used_below a b lo hi [] le are = tt
used_below a b lo hi (h ∷ hs) le are = let from = are.0 in let some = are.1 in (inr (omega arith), used_below a b _ hi hs (omega arith) are.3)

used_join : (a b c lo hi : ℕ) (hs : List Span) → AreHoles lo hi hs → IsUsed a b hs → IsUsed b c hs → IsUsed a c hs
used_join a b c lo hi [] are one two = tt
used_join a b c lo hi (h ∷ hs) are one two =
    let some = are.1 in (
      elim one.0 [
        | inl before ↦ inl before
        | inr behind ↦ elim two.0 [ inl under ↦ absurd (omega arith) | inr over ↦ inr over ]
      ],
      used_join a b c _ hi hs are.3 one.1 two.1,
    )

used_add : (a b from to : ℕ) (hs : List Span) → (to ≤ a) ⊎ (b ≤ from) → IsUsed a b hs → IsUsed a b (add_span from to hs)
used_add a b from to hs out used = elim (cases_lt from to) [
  | inl some ↦ rw (lt-ltb from to some) (out, used)
  | inr none ↦ rw (le-ltb from to none) used
]

module _ (hi a b : ℕ) (some : a < b) where
  -- what was used still is once a part is taken
  used_taken : (x y lo : ℕ) (hs : List Span) → AreHoles lo hi hs → IsFree a b hs → IsUsed x y hs → IsUsed x y (taken a b hs)
  used_taken x y lo [] are free used = tt
  used_taken x y lo (h ∷ hs) are free used = elim (here_or_rest hi a b some lo h hs are free) [
    | inl here ↦
        let from = here.0 in let to = here.1 in
        rw (lt-ltb a h.to (omega arith)) (used_add x y h.from a (add_span b h.to hs) (elim used.0 [ inl before ↦ inl (omega arith) | inr behind ↦ inr behind ])
        (used_add x y b h.to hs (elim used.0 [ inl before ↦ inl before | inr behind ↦ inr (omega arith) ]) used.1))
    | inr rest ↦ rw (le-ltb a h.to rest.0) (used.0, used_taken x y (suc h.to) hs are.3 rest.1 used.1)
  ]

  -- and so is the part
  used_part : (lo : ℕ) (hs : List Span) → AreHoles lo hi hs → IsFree a b hs → IsUsed a b (taken a b hs)
  used_part lo [] are free = tt
  used_part lo (h ∷ hs) are free = elim (here_or_rest hi a b some lo h hs are free) [
    | inl here ↦
        let from = here.0 in let to = here.1 in
        rw (lt-ltb a h.to (omega arith)) (used_add a b h.from a (add_span b h.to hs) (inl (omega arith)) (used_add a b b h.to hs (inr (omega arith)) (used_below a b (suc h.to) hi hs (omega arith) are.3)))
    | inr rest ↦ rw (le-ltb a h.to rest.0) (inl rest.0, used_part (suc h.to) hs are.3 rest.1)
  ]

-- what was used still is once another part is put
used_joined : (a b x y : ℕ) (hs : List Span) → x < y → (y ≤ a) ⊎ (b ≤ x) → IsUsed x y hs → IsUsed x y (joined a b hs)
used_joined a b x y [] some out used = (elim out [ inl before ↦ inr before | inr behind ↦ inl behind ], tt)
used_joined a b x y (h ∷ hs) some out used = elim (cases_lt h.to a) [
  | inl before ↦ rw (lt-ltb h.to a before) (used.0, used_joined a b x y hs some out used.1)
  | inr from ↦ rw (le-ltb h.to a from) (elim (cases_lt b h.from) [
    | inl behind ↦ rw (lt-ltb b h.from behind) (elim out [ inl under ↦ inr under | inr over ↦ inl over ], used)
    | inr meets ↦ rw (le-ltb b h.from meets) (used_joined (min a h.from) (max b h.to) x y hs some
        (elim out [
          | inl under ↦ elim used.0 [ inl low ↦ absurd (omega arith) | inr high ↦ inl (omega arith) ]
          | inr over ↦ elim used.0 [ inl low ↦ inr (omega arith) | inr high ↦ absurd (omega arith) ]
        ]) used.1)
  ])
]

-- n used bytes that slide from one place down to another
module _ {r : Range} (hs : List Span) (are : AreHoles r.lo r.hi hs) {from to n : ℕ} (down : to < from) (new : IsPart r to n) (old : IsPart r from n) (free : IsFree to from hs) (used : IsUsed from (from + n) hs) {apart : ℕ} (least : apart ≡ min n (from - to)) where
  bounds : (0 < apart) × (apart ≤ n) × (apart ≤ from - to) × ((apart ≡ n) ⊎ (apart ≡ from - to))
  bounds = let some = new.some in elim (cases_lt (from - to) n) [
    | inl less ↦ (omega arith, omega arith, omega arith, inr (omega arith))
    | inr more ↦ (omega arith, omega arith, omega arith, inl (omega arith))
  ]

  some : to < to + apart
  some = let one = bounds.0 in omega arith

  pub part_taken : IsPart r to apart
  part_taken = record {
    some = bounds.0;
    from = new.from;
    to = let few = bounds.1 in let top = new.to in omega arith;
    grained = new.grained;
    rounded = elim bounds.3 [ inl all ↦ subst (IsMultiple r.grain) (sym all) new.rounded | inr rest ↦ subst (IsMultiple r.grain) (sym rest) (multiple_less r.grain from to old.grained new.grained) ];
  }

  pub free_taken : IsFree to (to + apart) hs
  free_taken = let less = bounds.2 in free_less to (to + apart) from hs (omega arith) free

  abbrev mid : List Span
  mid = taken to (to + apart) hs

  pub part_put : IsPart r (from + n - apart) apart
  part_put = let few = bounds.1 in let low = old.from in let top = old.to in record {
    some = bounds.0;
    from = omega arith;
    to = omega arith;
    grained = multiple_less r.grain (from + n) apart (multiple_sum r.grain from n old.grained old.rounded) part_taken.rounded;
    rounded = part_taken.rounded;
  }

  pub used_put : IsUsed (from + n - apart) (from + n - apart + apart) mid
  used_put = let few = bounds.1 in
      used_taken r.hi to (to + apart) some (from + n - apart) (from + n - apart + apart) r.lo hs are free_taken (used_within from (from + n) (from + n - apart) (from + n - apart + apart) hs (let less = bounds.2 in elim bounds.3 [ inl all ↦ omega arith | inr rest ↦ omega arith ]) (omega arith) used)

  -- the new place
  pub used_mid : IsUsed to (to + n) mid
  used_mid = let few = bounds.1 in elim bounds.3 [
    | inl all ↦ subst (λ k. IsUsed to (to + k) mid) all (used_part r.hi to (to + apart) some r.lo hs are free_taken)
    | inr rest ↦ used_join to (to + apart) (to + n) r.lo r.hi mid (AreHoles-taken r.hi to (to + apart) some r.lo hs are free_taken) (used_part r.hi to (to + apart) some r.lo hs are free_taken)
        (used_taken r.hi to (to + apart) some (to + apart) (to + n) r.lo hs are free_taken (used_within from (from + n) (to + apart) (to + n) hs (omega arith) (omega arith) used))
  ]

  -- the bytes
  module _ {second third : List ℕ} (m : ℕ) (inside : from + n ≤ m) (long : length second ≡ m) (slid : third ≡ put_part second to (part second from n)) where
    pub same_mid : AreSameIn mid second third
    same_mid = free_stays from to n second third slid (omega arith) (omega arith) mid used_mid

    module _ {first last : List ℕ} (same_length : length first ≡ m) (take_same : AreSameOutside hs first second) (put_same : AreSameOutside (joined (from + n - apart) (from + n - apart + apart) mid) third last) where
      pub come_too : part last to n ≡ part first from n
      come_too = come_along from to n first second third last hs (joined (from + n - apart) (from + n - apart + apart) mid) take_same slid put_same (omega arith) (omega arith) used
          (let positive = new.some in let less = bounds.2 in used_joined (from + n - apart) (from + n - apart + apart) to (to + n) mid (omega arith) (inl (omega arith)) used_mid)

      pub others_same : AreSameBut to n hs (joined (from + n - apart) (from + n - apart + apart) mid) first last
      others_same = others_stay from to n first second third last hs (joined (from + n - apart) (from + n - apart + apart) mid) take_same slid put_same (omega arith) (omega arith)
