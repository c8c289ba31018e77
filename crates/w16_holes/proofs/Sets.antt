-- Holes as the set of their bytes: what is taken and joined is told by it, and it tells the list.
use Rattle.w16_holes.proofs.Common.{ℕ, suc, ◌≡◌, ◌<◌, ◌≤◌, ◌⊎◌, max, min, List, [], ◌∷◌, arith, refl, sym, ap, ◌∙◌, subst, inl, inr, cases_lt, lt-ltb, le-ltb, Span, AreHoles, IsFree, IsUsed, add_span, taken, joined, IsIn, BytesLaw, TakenLaw, JoinedLaw}

pub AreHoles-low : (x y hi : ℕ) (hs : List Span) → y ≤ x → AreHoles x hi hs → AreHoles y hi hs
AreHoles-low x y hi [] le are = tt
AreHoles-low x y hi (h ∷ hs) le are = let low = are.0 in (omega arith, are.1, are.2, are.3)

-- each free byte lies above the low bound
pub low : (lo hi p : ℕ) (hs : List Span) → AreHoles lo hi hs → IsIn p hs → lo ≤ p
low lo hi p [] are free = absurd free
low lo hi p (h ∷ hs) are free = let from = are.0 in let some = are.1 in elim free [
  | inl here ↦ let r = here.0 in omega arith
  | inr rest ↦ let r = low _ hi p hs are.3 rest in omega arith
]

-- two lists of holes with the same bytes are one
module _ (hi : ℕ) where
  from_le : (x y : ℕ) (h k : Span) (hs ks : List Span) → AreHoles x hi (h ∷ hs) → AreHoles y hi (k ∷ ks) → ((p : ℕ) → IsIn p (h ∷ hs) → IsIn p (k ∷ ks)) → k.from ≤ h.from
  from_le x y h k hs ks one two to = let some = one.1 in low k.from hi h.from (k ∷ ks) (omega arith, two.1, two.2, two.3) (to h.from (inl (omega arith, omega arith)))

  to_le : (x y : ℕ) (h k : Span) (hs ks : List Span) → AreHoles x hi (h ∷ hs) → AreHoles y hi (k ∷ ks) → h.from ≡ k.from → ((p : ℕ) → IsIn p (k ∷ ks) → IsIn p (h ∷ hs)) → k.to ≤ h.to
  to_le x y h k hs ks one two same from = let some = one.1 in elim (cases_lt h.to k.to) [
    | inl less ↦ elim (from h.to (inl (omega arith, omega arith))) [
      | inl here ↦ let r = here.1 in absurd (omega arith)
      | inr rest ↦ let r = low (suc h.to) hi h.to hs one.3 rest in absurd (omega arith)
    ]
    | inr le ↦ le
  ]

  rest_in : (x y : ℕ) (h k : Span) (hs ks : List Span) → AreHoles x hi (h ∷ hs) → h.to ≡ k.to → ((p : ℕ) → IsIn p (h ∷ hs) → IsIn p (k ∷ ks)) → (p : ℕ) → IsIn p hs → IsIn p ks
  rest_in x y h k hs ks one same to p free = let above = low (suc h.to) hi p hs one.3 free in elim (to p (inr free)) [
    | inl here ↦ let r = here.1 in absurd (omega arith)
    | inr rest ↦ rest
  ]

  pub same_holes : (x y : ℕ) (hs ks : List Span) → AreHoles x hi hs → AreHoles y hi ks → ((p : ℕ) → IsIn p hs → IsIn p ks) → ((p : ℕ) → IsIn p ks → IsIn p hs) → hs ≡ ks
  same_holes x y [] [] one two to from = refl
  same_holes x y [] (k ∷ ks) one two to from = let some = two.1 in absurd (from k.from (inl (omega arith, omega arith)))
  same_holes x y (h ∷ hs) [] one two to from = let some = one.1 in absurd (to h.from (inl (omega arith, omega arith)))
  same_holes x y (h ∷ hs) (k ∷ ks) one two to from =
      let one_from = from_le x y h k hs ks one two to in
      let two_from = from_le y x k h ks hs two one from in
      let starts : h.from ≡ k.from = omega arith in
      let one_to = to_le x y h k hs ks one two starts from in
      let two_to = to_le y x k h ks hs two one (sym starts) to in
      let ends : h.to ≡ k.to = omega arith in
      let rest = same_holes (suc h.to) (suc k.to) hs ks one.3 two.3 (rest_in x y h k hs ks one ends to) (rest_in y x k h ks hs two (sym ends) from) in
      ap (λ (a : ℕ). record { from = a; to = h.to } ∷ hs) starts ∙ ap (λ (b : ℕ). record { from = k.from; to = b } ∷ hs) ends ∙ ap (λ (zs : List Span). k ∷ zs) rest

-- a span before others
add_in : (x y p : ℕ) (zs : List Span) → ((x ≤ p) × (p < y)) ⊎ IsIn p zs → IsIn p (add_span x y zs)
add_in x y p zs free = elim (cases_lt x y) [
  | inl some ↦ rw (lt-ltb x y some) free
  | inr none ↦ rw (le-ltb x y none) (elim free [
    | inl here ↦ let a = here.0 in let b = here.1 in absurd (omega arith)
    | inr rest ↦ rest
  ])
]

in_add : (x y p : ℕ) (zs : List Span) → IsIn p (add_span x y zs) → ((x ≤ p) × (p < y)) ⊎ IsIn p zs
in_add x y p zs free = elim (cases_lt x y) [
  | inl some ↦ rw (lt-ltb x y some) at free
  | inr none ↦ inr (rw (le-ltb x y none) at free)
]

pub AreHoles-add : (lo hi x y : ℕ) (zs : List Span) → lo ≤ x → y ≤ hi → AreHoles (suc y) hi zs → lo ≤ suc y → AreHoles lo hi (add_span x y zs)
AreHoles-add lo hi x y zs from to are below = elim (cases_lt x y) [
  | inl some ↦ rw (lt-ltb x y some) (from, some, to, are)
  | inr none ↦ rw (le-ltb x y none) (AreHoles-low (suc y) lo hi zs below are)
]

-- the first byte of a free part
first_free : (a b : ℕ) (hs : List Span) → a < b → IsFree a b hs → IsIn a hs
first_free a b [] some free = absurd free
first_free a b (h ∷ hs) some free = elim free [
  | inl here ↦ let r = here.1 in inl (here.0, omega arith)
  | inr rest ↦ inr (first_free a b hs some rest)
]

-- A part taken out of a hole.
module _ (hi a b : ℕ) (some : a < b) where
  -- where it lies in the first hole, or behind it
  pub here_or_rest : (lo : ℕ) (h : Span) (hs : List Span) → AreHoles lo hi (h ∷ hs) → IsFree a b (h ∷ hs) → ((h.from ≤ a) × (b ≤ h.to)) ⊎ ((h.to ≤ a) × IsFree a b hs)
  here_or_rest lo h hs are free = elim free [
    | inl here ↦ inl here
    | inr rest ↦ let r = low (suc h.to) hi a hs are.3 (first_free a b hs some rest) in inr (omega arith, rest)
  ]

  taken_first : (h : Span) (hs : List Span) → a < h.to → taken a b (h ∷ hs) ≡ add_span h.from a (add_span b h.to hs)
  taken_first h hs lt = rw (lt-ltb a h.to lt) refl

  taken_rest : (h : Span) (hs : List Span) → h.to ≤ a → taken a b (h ∷ hs) ≡ h ∷ taken a b hs
  taken_rest h hs le = rw (le-ltb a h.to le) refl

  pub AreHoles-taken : (lo : ℕ) (hs : List Span) → AreHoles lo hi hs → IsFree a b hs → AreHoles lo hi (taken a b hs)
  AreHoles-taken lo [] are free = tt
  AreHoles-taken lo (h ∷ hs) are free = let from = are.0 in let size = are.1 in let to = are.2 in elim (here_or_rest lo h hs are free) [
    | inl here ↦
        let x = here.0 in let y = here.1 in
        subst (AreHoles lo hi) (sym (taken_first h hs (omega arith))) (AreHoles-add lo hi h.from a (add_span b h.to hs) (omega arith) (omega arith) (AreHoles-add (suc a) hi b h.to hs (omega arith) to are.3 (omega arith)) (omega arith))
    | inr rest ↦ subst (AreHoles lo hi) (sym (taken_rest h hs rest.0)) (from, size, to, AreHoles-taken (suc h.to) hs are.3 rest.1)
  ]

  -- the bytes of the holes that are not taken
  pub taken_in : (lo p : ℕ) (hs : List Span) → AreHoles lo hi hs → IsFree a b hs → (p < a) ⊎ (b ≤ p) → IsIn p hs → IsIn p (taken a b hs)
  taken_in lo p [] are free outside is = absurd is
  taken_in lo p (h ∷ hs) are free outside is = elim (here_or_rest lo h hs are free) [
    | inl here ↦
        let x = here.0 in let y = here.1 in
        subst (IsIn p) (sym (taken_first h hs (omega arith))) (elim is [
          | inl at ↦ let s = at.0 in let e = at.1 in elim outside [
            | inl below ↦ add_in h.from a p (add_span b h.to hs) (inl (s, below))
            | inr above ↦ add_in h.from a p (add_span b h.to hs) (inr (add_in b h.to p hs (inl (above, omega arith))))
          ]
          | inr rest ↦ add_in h.from a p (add_span b h.to hs) (inr (add_in b h.to p hs (inr rest)))
        ])
    | inr behind ↦ subst (IsIn p) (sym (taken_rest h hs behind.0)) (elim is [
      | inl at ↦ inl at
      | inr rest ↦ inr (taken_in (suc h.to) p hs are.3 behind.1 outside rest)
    ])
  ]

  pub in_taken : (lo p : ℕ) (hs : List Span) → AreHoles lo hi hs → IsFree a b hs → IsIn p (taken a b hs) → IsIn p hs × ((p < a) ⊎ (b ≤ p))
  in_taken lo p [] are free is = absurd is
  in_taken lo p (h ∷ hs) are free is = let size = are.1 in elim (here_or_rest lo h hs are free) [
    | inl here ↦
        let x = here.0 in let y = here.1 in
        let split = in_add h.from a p (add_span b h.to hs) (subst (IsIn p) (taken_first h hs (omega arith)) is) in
        elim split [
          | inl below ↦ let s = below.0 in let e = below.1 in (inl (s, omega arith), inl e)
          | inr more ↦ elim (in_add b h.to p hs more) [
            | inl above ↦ let s = above.0 in let e = above.1 in (inl (omega arith, omega arith), inr s)
            | inr rest ↦ let r = low (suc h.to) hi p hs are.3 rest in (inr rest, inr (omega arith))
          ]
        ]
    | inr behind ↦ elim (subst (IsIn p) (taken_rest h hs behind.0) is) [
      | inl at ↦ let le = behind.0 in let e = at.1 in (inl at, inl (omega arith))
      | inr rest ↦ let r = in_taken (suc h.to) p hs are.3 behind.1 rest in (inr r.0, r.1)
    ]
  ]

-- A part put that meets no hole.
joined_pass : (a b : ℕ) (h : Span) (hs : List Span) → h.to < a → joined a b (h ∷ hs) ≡ h ∷ joined a b hs
joined_pass a b h hs lt = rw (lt-ltb h.to a lt) refl

joined_before : (a b : ℕ) (h : Span) (hs : List Span) → a ≤ h.to → b < h.from → joined a b (h ∷ hs) ≡ record { from = a; to = b } ∷ h ∷ hs
joined_before a b h hs le lt = rw (le-ltb h.to a le, lt-ltb b h.from lt) refl

joined_touch : (a b : ℕ) (h : Span) (hs : List Span) → a ≤ h.to → h.from ≤ b → joined a b (h ∷ hs) ≡ joined (min a h.from) (max b h.to) hs
joined_touch a b h hs le ge = rw (le-ltb h.to a le, le-ltb b h.from ge) refl

-- what meets no hole above a place does not when it is longer up to there
used_above : (a b x t lo hi : ℕ) (hs : List Span) → a ≤ t → t < lo → AreHoles lo hi hs → IsUsed a b hs → IsUsed x (max b t) hs
used_above a b x t lo hi [] le lt are used = tt
used_above a b x t lo hi (h ∷ hs) le lt are used =
    let from = are.0 in let size = are.1 in
    let rest = used_above a b x t _ hi hs le (omega arith) are.3 used.1 in
    elim used.0 [
      | inl below ↦ absurd (omega arith)
      | inr above ↦ (inr (omega arith), rest)
    ]

pub AreHoles-joined : (a b lo hi : ℕ) (hs : List Span) → a < b → lo ≤ a → b ≤ hi → AreHoles lo hi hs → IsUsed a b hs → AreHoles lo hi (joined a b hs)
AreHoles-joined a b lo hi [] some from to are used = (from, some, to, tt)
AreHoles-joined a b lo hi (h ∷ hs) some from to are used =
    let start = are.0 in let size = are.1 in let end = are.2 in
    elim (cases_lt h.to a) [
      | inl below ↦ subst (AreHoles lo hi) (sym (joined_pass a b h hs below)) (start, size, end, AreHoles-joined a b (suc h.to) hi hs some below to are.3 used.1)
      | inr le ↦ elim (cases_lt b h.from) [
        | inl above ↦ subst (AreHoles lo hi) (sym (joined_before a b h hs le above)) (from, some, to, (above, size, end, are.3))
        | inr ge ↦ subst (AreHoles lo hi) (sym (joined_touch a b h hs le ge))
            (AreHoles-joined (min a h.from) (max b h.to) lo hi hs (omega arith) (omega arith) (omega arith) (AreHoles-low _ lo hi hs (omega arith) are.3) (used_above a b _ h.to _ hi hs le (omega arith) are.3 used.1))
      ]
    ]

-- the bytes of the holes, and those put
pub joined_in : (a b p : ℕ) (hs : List Span) → IsIn p hs ⊎ ((a ≤ p) × (p < b)) → IsIn p (joined a b hs)
joined_in a b p [] is = elim is [
  | inl free ↦ absurd free
  | inr put ↦ inl put
]
joined_in a b p (h ∷ hs) is = elim (cases_lt h.to a) [
  | inl below ↦ subst (IsIn p) (sym (joined_pass a b h hs below)) (elim is [
    | inl free ↦ elim free [
      | inl at ↦ inl at
      | inr rest ↦ inr (joined_in a b p hs (inl rest))
    ]
    | inr put ↦ inr (joined_in a b p hs (inr put))
  ])
  | inr le ↦ elim (cases_lt b h.from) [
    | inl above ↦ subst (IsIn p) (sym (joined_before a b h hs le above)) (elim is [
      | inl free ↦ inr free
      | inr put ↦ inl put
    ])
    | inr ge ↦ subst (IsIn p) (sym (joined_touch a b h hs le ge)) (joined_in (min a h.from) (max b h.to) p hs (elim is [
      | inl free ↦ elim free [
        | inl at ↦ let s = at.0 in let e = at.1 in inr (omega arith, omega arith)
        | inr rest ↦ inl rest
      ]
      | inr put ↦ let s = put.0 in let e = put.1 in inr (omega arith, omega arith)
    ]))
  ]
]

pub in_joined : (a b p : ℕ) (hs : List Span) → IsIn p (joined a b hs) → IsIn p hs ⊎ ((a ≤ p) × (p < b))
in_joined a b p [] is = elim is [
  | inl put ↦ inr put
  | inr none ↦ absurd none
]
in_joined a b p (h ∷ hs) is = elim (cases_lt h.to a) [
  | inl below ↦ elim (subst (IsIn p) (joined_pass a b h hs below) is) [
    | inl at ↦ inl (inl at)
    | inr rest ↦ elim (in_joined a b p hs rest) [
      | inl free ↦ inl (inr free)
      | inr put ↦ inr put
    ]
  ]
  | inr le ↦ elim (cases_lt b h.from) [
    | inl above ↦ elim (subst (IsIn p) (joined_before a b h hs le above) is) [
      | inl put ↦ inr put
      | inr free ↦ inl free
    ]
    | inr ge ↦ elim (in_joined (min a h.from) (max b h.to) p hs (subst (IsIn p) (joined_touch a b h hs le ge) is)) [
      | inl free ↦ inl (inr free)
      | inr both ↦ let s = both.0 in let e = both.1 in elim (cases_lt p a) [
        | inl before ↦ inl (inl (omega arith, omega arith))
        | inr from ↦ elim (cases_lt p b) [
          | inl to ↦ inr (from, to)
          | inr after ↦ inl (inl (omega arith, omega arith))
        ]
      ]
    ]
  ]
]

pub bytes_law : BytesLaw
bytes_law lo hi hs ks one two same = same_holes hi lo lo hs ks one two (λ p. (same p).0) (λ p. (same p).1)

pub taken_law : TakenLaw
taken_law lo hi a b hs some are free = (
  AreHoles-taken hi a b some lo hs are free,
  λ p. (in_taken hi a b some lo p hs are free, λ is. taken_in hi a b some lo p hs are free is.1 is.0),
)

pub joined_law : JoinedLaw
joined_law lo hi a b hs some from to are used = (
  AreHoles-joined a b lo hi hs some from to are used,
  λ p. (in_joined a b p hs, joined_in a b p hs),
)
