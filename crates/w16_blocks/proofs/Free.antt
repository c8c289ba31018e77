-- Which bytes are free between laid blocks: those that none has. They tell the list of holes.
use Rattle.w16_blocks.proofs.Common.{ℕ, suc, ◌≡◌, ◌<◌, ◌≤◌, ◌⊎◌, max, List, [], ◌∷◌, arith, sym, subst, inl, inr, cases_lt, lt-ltb, le-ltb, AllByRecursion, Block, Span, IsLaid, block_end, holes, Each-map, holes-cons, laid_each, laid_le, AreHoles, IsFree, IsUsed, IsIn, low, same_holes}

-- a byte that a block does not have
abbrev pub Lacks : ℕ → Block → Type 0
Lacks p c = (p < c.at) ⊎ (block_end c ≤ p)

pub later : (p lo hi : ℕ) (bs : List Block) → p < lo → IsLaid lo hi bs → AllByRecursion (Lacks p) bs
later p lo hi bs lt laid = Each-map (λ y. (lo ≤ y.at) × (0 < y.size) × (block_end y ≤ hi)) _ (λ y is. let from = is.0 in inl (omega arith)) bs (laid_each lo hi bs laid)

pub AreHoles-holes : (least lo hi : ℕ) (bs : List Block) → least ≤ lo → IsLaid lo hi bs → AreHoles least hi (holes lo hi bs)
AreHoles-holes least lo hi [] le laid = elim (cases_lt lo hi) [
  | inl some ↦ rw (lt-ltb lo hi some) (le, some, omega arith, tt)
  | inr none ↦ rw (le-ltb lo hi none) tt
]
AreHoles-holes least lo hi (x ∷ xs) le laid =
    let from = laid.0 in let size = laid.1 in let to = laid_le (block_end x) hi xs laid.2 in
    subst (AreHoles least hi) (sym (holes-cons lo hi x xs laid)) (elim (cases_lt lo x.at) [
      | inl some ↦ rw (lt-ltb lo x.at some) (le, some, omega arith, AreHoles-holes (suc x.at) (block_end x) hi xs (omega arith) laid.2)
      | inr none ↦ rw (le-ltb lo x.at none) (AreHoles-holes least (block_end x) hi xs (omega arith) laid.2)
    ])

-- no block has a free byte
pub free_lacks : (p lo hi : ℕ) (bs : List Block) → IsLaid lo hi bs → IsIn p (holes lo hi bs) → (lo ≤ p) × (p < hi) × AllByRecursion (Lacks p) bs
free_lacks p lo hi [] laid is = elim (cases_lt lo hi) [
  | inl some ↦ elim (let one : IsIn p (record { from = lo; to = hi } ∷ []) = rw (lt-ltb lo hi some) at is in one) [
    | inl here ↦ let to = here.1 in (here.0, omega arith, tt)
    | inr none ↦ absurd none
  ]
  | inr none ↦ let nil = rw (le-ltb lo hi none) at is in absurd nil
]
free_lacks p lo hi (x ∷ xs) laid is =
    let from = laid.0 in let size = laid.1 in let to = laid_le (block_end x) hi xs laid.2 in
    let behind : IsIn p (holes (block_end x) hi xs) → (lo ≤ p) × (p < hi) × AllByRecursion (Lacks p) (x ∷ xs) =
    λ rest. let r = free_lacks p (block_end x) hi xs laid.2 rest in let s = r.0 in (omega arith, r.1, (inr s, r.2)) in
    let split = subst (IsIn p) (holes-cons lo hi x xs laid) is in
    elim (cases_lt lo x.at) [
      | inl some ↦ elim (let one : IsIn p (record { from = lo; to = x.at } ∷ holes (block_end x) hi xs) = rw (lt-ltb lo x.at some) at split in one) [
        | inl here ↦ let e = here.1 in (here.0, omega arith, (inl (omega arith), later p (block_end x) hi xs (omega arith) laid.2))
        | inr rest ↦ behind rest
      ]
      | inr none ↦ behind (let rest = rw (le-ltb lo x.at none) at split in rest)
    ]

-- a byte that no block has is free
pub lacks_free : (p lo hi : ℕ) (bs : List Block) → IsLaid lo hi bs → lo ≤ p → p < hi → AllByRecursion (Lacks p) bs → IsIn p (holes lo hi bs)
lacks_free p lo hi [] laid from to all = rw (lt-ltb lo hi (omega arith)) (inl (from, omega arith))
lacks_free p lo hi (x ∷ xs) laid from to all =
    subst (IsIn p) (sym (holes-cons lo hi x xs laid)) (elim (cases_lt lo x.at) [
      | inl some ↦ rw (lt-ltb lo x.at some) (elim all.0 [
        | inl before ↦ inl (from, omega arith)
        | inr behind ↦ inr (lacks_free p _ hi xs laid.2 behind to all.1)
      ])
      | inr none ↦ rw (le-ltb lo x.at none) (lacks_free p (block_end x) hi xs laid.2 (elim all.0 [ inl before ↦ absurd (omega arith) | inr behind ↦ behind ]) to all.1)
    ])

-- holes with these free bytes are those between the blocks
pub are_between : (lo hi : ℕ) (bs : List Block) (hs : List Span) → IsLaid lo hi bs → AreHoles lo hi hs
    → ((p : ℕ) → IsIn p hs → (lo ≤ p) × (p < hi) × AllByRecursion (Lacks p) bs) → ((p : ℕ) → lo ≤ p → p < hi → AllByRecursion (Lacks p) bs → IsIn p hs) → hs ≡ holes lo hi bs
are_between lo hi bs hs laid are to from =
    same_holes hi lo lo hs (holes lo hi bs) are (AreHoles-holes lo lo hi bs (omega arith) laid)
    (λ p is. let r = to p is in lacks_free p lo hi bs laid r.0 r.1 r.2) (λ p is. let r = free_lacks p lo hi bs laid is in from p r.0 r.1 r.2)

-- A part of holes is free or used where its bytes are.
pub used_of : (a b lo hi : ℕ) (hs : List Span) → a < b → AreHoles lo hi hs → ((p : ℕ) → a ≤ p → p < b → IsIn p hs → ⊥) → IsUsed a b hs
used_of a b lo hi [] some are none = tt
used_of a b lo hi (h ∷ hs) some are none =
    let size = are.1 in
    let rest = used_of a b _ hi hs some are.3 (λ p from to free. none p from to (inr free)) in
    elim (cases_lt a h.to) [
      | inl less ↦ elim (cases_lt h.from b) [
        | inl meets ↦ absurd (none (max a h.from) (omega arith) (omega arith) (inl (omega arith, omega arith)))
        | inr above ↦ (inr above, rest)
      ]
      | inr below ↦ (inl below, rest)
    ]

pub free_of : (a b lo hi : ℕ) (hs : List Span) → a < b → AreHoles lo hi hs → ((p : ℕ) → a ≤ p → p < b → IsIn p hs) → IsFree a b hs
free_of a b lo hi [] some are all = all a (omega arith) some
free_of a b lo hi (h ∷ hs) some are all = elim (all a (omega arith) some) [
  | inl at ↦ let s = at.0 in let e = at.1 in elim (cases_lt h.to b) [
    | inl past ↦ elim (all h.to (omega arith) past) [
      | inl here ↦ let r = here.1 in absurd (omega arith)
      | inr rest ↦ let r = low _ hi h.to hs are.3 rest in absurd (omega arith)
    ]
    | inr inside ↦ inl (s, inside)
  ]
  | inr behind ↦
      let above = low _ hi a hs are.3 behind in
      inr (free_of a b _ hi hs some are.3 (λ p from to. elim (all p from to) [
        | inl here ↦ let r = here.1 in absurd (omega arith)
        | inr rest ↦ rest
      ]))
]
