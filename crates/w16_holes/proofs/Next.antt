-- The first hole behind a place, by the links of a thread.
use Rattle.w16_holes.proofs
use proofs.Common.{ℕ, suc, ◌≡◌, ◌<◌, ◌≤◌, ◌+◌, ◌⊎◌, inl, inr, List, [], ◌∷◌, length, Option, Some, None, unwrap_or, arith, refl, sym, ap, ◌∙◌, ◌-◌, le-leb, cases_lt, lt-ltb, le-ltb, eqb_tells, none-some, same_Some, Span, word_in, AreHoles, last_before, length_at, lowest, AreThreaded}
use proofs.Common.{no_hole, first_of, next_above, room}
use proofs.Thread.{last_cons, last_first}
use proofs.Cuts.{last_none, next_first, at_none}

-- a hole begins there
pub next_at : (p lo hi : ℕ) (hs : List Span) (bytes : List ℕ) → AreHoles lo hi hs → AreThreaded hs bytes → 0 < length_at p hs → (p + 8 ≤ length bytes) × (word_in bytes (p + 4) ≡ next_above p hs)
next_at p lo hi [] bytes holes thread has = absurd (omega arith)
next_at p lo hi (h ∷ hs) bytes holes thread has =
    let words = thread.0 in
    let some = holes.1 in
    elim (eqb_tells h.from p) [
      | inl same ↦
          let e = same.1 in
          let fits = room h.from h.to words.low words.high words.some in
          let inside = words.inside in
          (omega arith, rw (le-ltb p h.from (omega arith)) (ap (λ n. word_in bytes (n + 4)) (sym e) ∙ words.link ∙ sym (next_first p _ hi hs (omega arith) holes.3)))
      | inr other ↦
          let rest = rw (other.0) at has in
          elim (cases_lt p _) [
            | inl low ↦ let z = at_none p _ hi hs low holes.3 in absurd (omega arith)
            | inr high ↦ rw (le-ltb p h.from (omega arith)) (next_at p _ hi hs bytes holes.3 thread.1 rest)
          ]
    ]

-- none begins there
not_first : (p : ℕ) (h : Span) (hs : List Span) → h.from < h.to → length_at p (h ∷ hs) ≡ 0 → (length_at p hs ≡ 0) × (h.from ≡ p → ⊥)
not_first p h hs some none = elim (eqb_tells h.from p) [
  | inl same ↦ let z = rw (same.0) at none in absurd (omega arith)
  | inr other ↦ (rw (other.0) at none, other.1)
]

-- none begins below
pub next_none : (p lo hi : ℕ) (hs : List Span) → AreHoles lo hi hs → length_at p hs ≡ 0 → last_before p hs ≡ None → next_above p hs ≡ first_of no_hole hs
next_none p lo hi [] holes none below = refl
next_none p lo hi (h ∷ hs) holes none below =
    let other = not_first p h hs holes.1 none in
    elim (cases_lt p h.from) [
      | inl before ↦ rw (lt-ltb p h.from before) refl
      | inr from ↦ elim (cases_lt h.from p) [
        | inl lt ↦ let is : last_before p (h ∷ hs) ≡ Some (unwrap_or (last_before p hs) h.from) = rw (lt-ltb h.from p lt) refl in absurd (none-some (unwrap_or (last_before p hs) h.from) (sym below ∙ is))
        | inr to ↦ absurd (other.1 (omega arith))
      ]
    ]

known : (o : Option ℕ) → (o ≡ None) ⊎ ((x : ℕ) × (o ≡ Some x))
known None = inl refl
known (Some x) = inr (x, refl)

-- the last that begins below
pub next_below : (p k lo hi : ℕ) (hs : List Span) (bytes : List ℕ) → AreHoles lo hi hs → AreThreaded hs bytes → length_at p hs ≡ 0 → Some k ≡ last_before p hs → (k + 8 ≤ length bytes) × (word_in bytes (k + 4) ≡ next_above p hs)
next_below p k lo hi [] bytes holes thread none is = absurd (none-some k (sym is))
next_below p k lo hi (h ∷ hs) bytes holes thread none is =
    let words = thread.0 in
    let some = holes.1 in
    let other = not_first p h hs some none in
    elim (cases_lt h.from p) [
      | inr from ↦ absurd (none-some k (sym (last_none p h.from hi (h ∷ hs) from (omega arith, some, holes.2, holes.3)) ∙ sym is))
      | inl lt ↦ elim (known (last_before p hs)) [
        | inl last ↦
            let e = same_Some k h.from (is ∙ last_first p h hs lt last) in
            let fits = room h.from h.to words.low words.high words.some in
            let inside = words.inside in
            (omega arith, rw (le-ltb p h.from (omega arith)) (ap (λ n. word_in bytes (n + 4)) e ∙ words.link ∙ sym (next_none p _ hi hs holes.3 other.0 last)))
        | inr later ↦
            let e = same_Some k later.0 (is ∙ last_cons p later.0 h hs lt later.1) in
            rw (le-ltb p h.from (omega arith)) (next_below p k (suc h.to) hi hs bytes holes.3 thread.1 other.0 (ap (λ n. Some n) e ∙ sym later.1))
      ]
    ]

pub lowest_first : (hs : List Span) → unwrap_or (lowest 0 hs) no_hole ≡ first_of no_hole hs
lowest_first [] = refl
lowest_first (h ∷ hs) = rw (le-leb 0 (h.to - h.from) (omega arith)) refl
