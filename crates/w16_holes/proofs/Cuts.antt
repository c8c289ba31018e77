-- Holes cut where a part is taken or put: the holes below, those that change, and the holes above.
use Rattle.w16_holes.proofs
use proofs.Common.{ℕ, suc, ◌≡◌, ◌<◌, ◌≤◌, ◌+◌, ◌-◌, ◌⊎◌, inl, inr, min, max, List, [], ◌∷◌, ◌++◌, Option, Some, None, unwrap_or, arith, refl, ap, ◌∙◌, eq-eqb, false, ◌==◌, cases_lt, lt-ltb, le-ltb, eqb_tells, Span, AreHoles, IsFree, IsUsed, taken, joined, slid_down, add_span, last_before, length_at}
use proofs.Common.{length_to, no_hole, first_of, next_above}
use proofs.Thread.{last_cons, last_first}

-- none begins below a place before all
pub last_none : (a lo hi : ℕ) (hs : List Span) → a ≤ lo → AreHoles lo hi hs → last_before a hs ≡ None
last_none a lo hi [] le holes = refl
last_none a lo hi (h ∷ hs) le holes =
    let from = holes.0 in let some = holes.1 in
    rw (le-ltb h.from a (omega arith)) (last_none a _ hi hs (omega arith) holes.3)

-- [a, b) is taken from one hole
pub record IsTakenFrom (lo hi a b : ℕ) (hs front : List Span) (h : Span) (back : List Span) : Type 0 where
  pub whole : hs ≡ front ++ h ∷ back
  pub low : lo ≤ h.from
  pub from : h.from ≤ a
  pub to : b ≤ h.to
  pub high : h.to ≤ hi
  pub below : AreHoles lo h.from front
  pub above : AreHoles (suc h.to) hi back
  pub left : taken a b hs ≡ front ++ add_span h.from a (add_span b h.to back)
  pub at : last_before b hs ≡ Some h.from
  pub inside : h.from < a → last_before a hs ≡ Some h.from
  pub begins : h.from ≡ a → last_before a hs ≡ last_before a front

pub cut_taken : (lo hi a b : ℕ) (hs : List Span) → a < b → AreHoles lo hi hs → IsFree a b hs → (front : List Span) × (h : Span) × (back : List Span) × IsTakenFrom lo hi a b hs front h back
cut_taken lo hi a b [] some holes free = absurd free
cut_taken lo hi a b (h ∷ hs) some holes (inl here) =
    let from = here.0 in let to = here.1 in (
      [],
      h,
      hs,
      record {
        whole = refl;
        low = holes.0;
        from = from;
        to = to;
        high = holes.2;
        below = tt;
        above = holes.3;
        left = rw (lt-ltb a h.to (omega arith)) refl;
        at = last_first b h hs (omega arith) (last_none b _ hi hs (omega arith) holes.3);
        inside = λ lt. last_first a h hs lt (last_none a _ hi hs (omega arith) holes.3);
        begins = λ e. last_none a h.from hi (h ∷ hs) (omega arith) (omega arith, holes.1, holes.2, holes.3);
      },
    )
cut_taken lo hi a b (h ∷ hs) some holes (inr rest) =
    let c = cut_taken _ hi a b hs some holes.3 rest in
    let is = c.3 in
    let has = holes.1 in
    let low = is.low in let from = is.from in (
      h ∷ c.0,
      c.1,
      c.2,
      record {
        whole = ap (λ l. h ∷ l) is.whole;
        low = let first = holes.0 in omega arith;
        from = is.from;
        to = is.to;
        high = is.high;
        below = (holes.0, has, omega arith, is.below);
        above = is.above;
        left = rw (le-ltb a h.to (omega arith)) (ap (λ l. h ∷ l) is.left);
        at = last_cons b _ h hs (omega arith) is.at;
        inside = λ lt. last_cons a _ h hs (omega arith) (is.inside lt);
        begins = λ e. rw (lt-ltb h.from a (omega arith)) (ap (λ o. Some (unwrap_or o h.from)) (is.begins e));
      },
    )

-- there is a hole between two places
abbrev pub HasHole : ℕ → ℕ → List Span → Type 0
HasHole from to [] = ⊥
HasHole from to (h ∷ hs) = ((h.from ≡ from) × (h.to ≡ to)) ⊎ HasHole from to hs

-- [a, b) is put before all holes, and makes a hole up to `to`
pub record IsPutBelow (a b : ℕ) (hi : ℕ) (hs : List Span) (to : ℕ) (back : List Span) (joins : List Span) : Type 0 where
  pub whole : hs ≡ joins ++ back
  pub end : ((to ≡ b) × (joins ≡ [])) ⊎ HasHole b to hs
  pub from : b ≤ to
  pub high : to ≤ hi
  pub above : AreHoles (suc to) hi back
  pub made : joined a b hs ≡ record { from = a; to = to } ∷ back
  pub at : length_at b hs ≡ to - b
  pub next : next_above b hs ≡ first_of no_hole back

-- where the first hole begins behind a place, all above it
pub next_first : (b lo hi : ℕ) (hs : List Span) → b < lo → AreHoles lo hi hs → next_above b hs ≡ first_of no_hole hs
next_first b lo hi [] lt holes = refl
next_first b lo hi (h ∷ hs) lt holes = let from = holes.0 in rw (lt-ltb b h.from (omega arith)) refl

pub at_none : (b lo hi : ℕ) (hs : List Span) → b < lo → AreHoles lo hi hs → length_at b hs ≡ 0
at_none b lo hi [] lt holes = refl
at_none b lo hi (h ∷ hs) lt holes =
    let from = holes.0 in let some = holes.1 in
    elim (eqb_tells h.from b) [
      | inl same ↦ let e = same.1 in absurd (omega arith)
      | inr other ↦ rw (other.0) (at_none b _ hi hs (omega arith) holes.3)
    ]

at_later : (b : ℕ) (h : Span) (hs : List Span) → h.from < b → length_at b (h ∷ hs) ≡ length_at b hs
at_later b h hs lt = elim (eqb_tells h.from b) [
  | inl same ↦ let e = same.1 in absurd (omega arith)
  | inr other ↦ rw (other.0) refl
]

-- nothing touches it
joined_first : (a b lo hi : ℕ) (hs : List Span) → a ≤ b → b < lo → AreHoles lo hi hs → joined a b hs ≡ record { from = a; to = b } ∷ hs
joined_first a b lo hi [] le lt holes = refl
joined_first a b lo hi (h ∷ hs) le lt holes = let from = holes.0 in let some = holes.1 in rw (le-ltb h.to a (omega arith), lt-ltb b h.from (omega arith)) refl

pub cut_below : (a b hi : ℕ) (hs : List Span) → a ≤ b → b ≤ hi → AreHoles b hi hs → (to : ℕ) × (back : List Span) × (joins : List Span) × IsPutBelow a b hi hs to back joins
cut_below a b hi [] some top holes = (
  b,
  [],
  [],
  record {
    whole = refl;
    end = inl (refl, refl);
    from = omega arith;
    high = top;
    above = tt;
    made = refl;
    at = omega arith;
    next = refl;
  },
)
cut_below a b hi (h ∷ hs) some top holes =
    let from = holes.0 in let has = holes.1 in
    elim (cases_lt b h.from) [
      | inl apart ↦ let all : AreHoles (suc b) hi (h ∷ hs) = (omega arith, has, holes.2, holes.3) in (
        b,
        h ∷ hs,
        [],
        record {
          whole = refl;
          end = inl (refl, refl);
          from = omega arith;
          high = top;
          above = all;
          made = joined_first a b (suc b) hi _ some (omega arith) all;
          at = at_none b (suc b) hi (h ∷ hs) (omega arith) all ∙ omega arith;
          next = next_first b (suc b) hi (h ∷ hs) (omega arith) all;
        },
      )
      | inr touches ↦
          let e : h.from ≡ b = omega arith in
          let low : min a h.from ≡ a = omega arith in
          let high : max b h.to ≡ h.to = omega arith in (
            h.to,
            hs,
            h ∷ [],
            record {
              whole = refl;
              end = inr (inl (e, refl));
              from = omega arith;
              high = holes.2;
              above = holes.3;
              made = rw (le-ltb h.to a (omega arith), le-ltb b h.from (omega arith), low, high) (joined_first a h.to _ hi hs (omega arith) (omega arith) holes.3);
              at = rw (eq-eqb h.from b e) (omega arith);
              next = rw (le-ltb b h.from (omega arith)) (next_first b _ hi hs (omega arith) holes.3);
            },
          )
    ]

-- [a, b) is put, and makes a hole [from, to)
pub record IsPutAt (lo hi a b : ℕ) (hs front : List Span) (from to : ℕ) (back joins : List Span) : Type 0 where
  pub whole : hs ≡ front ++ (joins ++ back)
  pub low : lo ≤ from
  pub below : from ≤ a
  pub above : b ≤ to
  pub high : to ≤ hi
  pub lower : AreHoles lo from front
  pub higher : AreHoles (suc to) hi back
  pub made : joined a b hs ≡ front ++ record { from = from; to = to } ∷ back
  pub begin : ((from ≡ a) × (last_before a hs ≡ last_before a front)) ⊎ ((from < a) × HasHole from a hs × (last_before a hs ≡ Some from) × ((last : ℕ) → first_of last (joins ++ back) ≡ from))
  pub end : (to ≡ b) ⊎ HasHole b to hs
  pub ending : length_to a hs ≡ a - from
  pub at : length_at b hs ≡ to - b
  pub next : next_above b hs ≡ first_of no_hole back

-- no hole ends there
to_none : (a lo hi : ℕ) (hs : List Span) → a ≤ lo → AreHoles lo hi hs → length_to a hs ≡ 0
to_none a lo hi [] le holes = refl
to_none a lo hi (h ∷ hs) le holes =
    let from = holes.0 in let some = holes.1 in
    elim (eqb_tells h.to a) [
      | inl same ↦ let e = same.1 in absurd (omega arith)
      | inr other ↦ rw (other.0) (to_none a _ hi hs (omega arith) holes.3)
    ]

-- where a hole ends at a, the others lie from b on
used_above : (a b lo hi : ℕ) (hs : List Span) → a < lo → a < b → AreHoles lo hi hs → IsUsed a b hs → AreHoles b hi hs
used_above a b lo hi [] lt some holes used = tt
used_above a b lo hi (h ∷ hs) lt some holes used =
    let from = holes.0 in let has = holes.1 in
    elim used.0 [
      | inl below ↦ absurd (omega arith)
      | inr above ↦ (above, has, holes.2, holes.3)
    ]

-- before all holes
put_first : (lo hi a b : ℕ) (hs : List Span) → a < b → lo ≤ a → b ≤ hi → AreHoles b hi hs → (front : List Span) × (from to : ℕ) × (back joins : List Span) × IsPutAt lo hi a b hs front from to back joins
put_first lo hi a b hs some low top holes =
    let c = cut_below a b hi hs (omega arith) top holes in
    let is = c.3 in (
      [],
      a,
      c.0,
      c.1,
      c.2,
      record {
        whole = is.whole;
        low = low;
        below = omega arith;
        above = is.from;
        high = is.high;
        lower = tt;
        higher = is.above;
        made = is.made;
        begin = inl (refl, last_none a b hi hs (omega arith) holes);
        end = elim is.end [
          | inl alone ↦ inl alone.0
          | inr hole ↦ inr hole
        ];
        ending = to_none a b hi hs (omega arith) holes ∙ omega arith;
        at = is.at;
        next = is.next;
      },
    )

-- right behind the first hole
put_behind : (lo hi a b : ℕ) (h : Span) (hs : List Span) → a < b → b ≤ hi → h.to ≡ a → AreHoles lo hi (h ∷ hs) → AreHoles b hi hs
    → (front : List Span) × (from to : ℕ) × (back joins : List Span) × IsPutAt lo hi a b (h ∷ hs) front from to back joins
put_behind lo hi a b h hs some top e holes rest =
    let has = holes.1 in
    let c = cut_below h.from b hi hs (omega arith) top rest in
    let is = c.3 in
    let low : min a h.from ≡ h.from = omega arith in
    let high : max b h.to ≡ b = omega arith in (
      [],
      h.from,
      c.0,
      c.1,
      h ∷ c.2,
      record {
        whole = ap (λ l. h ∷ l) is.whole;
        low = holes.0;
        below = omega arith;
        above = is.from;
        high = is.high;
        lower = tt;
        higher = is.above;
        made = rw (le-ltb h.to a (omega arith), le-ltb b h.from (omega arith), low, high) is.made;
        begin = inr (omega arith, inl (refl, e), last_first a h hs (omega arith) (last_none a b hi hs (omega arith) rest), λ last. refl);
        end = elim is.end [
          | inl alone ↦ inl alone.0
          | inr hole ↦ inr (inr hole)
        ];
        ending = rw (eq-eqb h.to a e) (ap (λ n. n - h.from) e);
        at = at_later b h hs (omega arith) ∙ is.at;
        next = rw (le-ltb b h.from (omega arith)) is.next;
      },
    )

pub cut_put : (lo hi a b : ℕ) (hs : List Span) → a < b → lo ≤ a → b ≤ hi → AreHoles lo hi hs → IsUsed a b hs → (front : List Span) × (from to : ℕ) × (back joins : List Span) × IsPutAt lo hi a b hs front from to back joins
cut_put lo hi a b [] some low top holes used = put_first lo hi a b [] some low top tt
cut_put lo hi a b (h ∷ hs) some low top holes used =
    let has = holes.1 in
    elim used.0 [
      | inr above ↦ put_first lo hi a b (h ∷ hs) some low top (above, has, holes.2, holes.3)
      | inl below ↦ elim (cases_lt h.to a) [
        | inr touches ↦ put_behind lo hi a b h hs some top (omega arith) holes (used_above a b _ hi hs (omega arith) some holes.3 used.1)
        | inl apart ↦
            let c = cut_put (suc h.to) hi a b hs some (omega arith) top holes.3 used.1 in
            let is = c.5 in
            let from = is.low in
            let no_end : (h.to == a) ≡ false = elim (eqb_tells h.to a) [
              | inl same ↦ let e = same.1 in absurd (omega arith)
              | inr other ↦ other.0
            ] in (
              h ∷ c.0,
              c.1,
              c.2,
              c.3,
              c.4,
              record {
                whole = ap (λ l. h ∷ l) is.whole;
                low = let first = holes.0 in omega arith;
                below = is.below;
                above = is.above;
                high = is.high;
                lower = (holes.0, has, omega arith, is.lower);
                higher = is.higher;
                made = rw (lt-ltb h.to a apart) (ap (λ l. h ∷ l) is.made);
                begin = elim is.begin [
                  | inl alone ↦ inl (alone.0, rw (lt-ltb h.from a (omega arith)) (ap (λ o. Some (unwrap_or o h.from)) alone.1))
                  | inr hole ↦ inr (hole.0, inr hole.1, last_cons a c.1 h hs (omega arith) hole.2, hole.3)
                ];
                end = elim is.end [
                  | inl alone ↦ inl alone
                  | inr hole ↦ inr (inr hole)
                ];
                ending = rw (no_end) is.ending;
                at = at_later b h hs (omega arith) ∙ is.at;
                next = rw (le-ltb b h.from (omega arith)) is.next;
              },
            )
      ]
    ]

-- n used bytes follow the hole [to, from), and go before it
pub record IsPassed (hi from to n lo : ℕ) (hs front rest : List Span) : Type 0 where
  pub whole : hs ≡ front ++ record { from = to; to = from } ∷ rest
  pub low : lo ≤ to
  pub lower : AreHoles lo to front
  pub higher : AreHoles (from + n) hi rest
  pub made : slid_down from to n hs ≡ front ++ joined (to + n) (from + n) rest
  pub begin : last_before to hs ≡ last_before to front
  pub last : last_before (from + n) hs ≡ Some to
  pub at : length_at (from + n) hs ≡ length_at (from + n) rest
  pub next : next_above (from + n) hs ≡ next_above (from + n) rest

module _ (hi from to n : ℕ) (down : to < from) (some : 0 < n) where
  slid_first : (hs : List Span) → slid_down from to n (record { from = to; to = from } ∷ hs) ≡ joined (to + n) (from + n) hs
  slid_first hs = elim (cases_lt n (from - to)) [
    | inl lt ↦
        let one : min n (from - to) ≡ n = omega arith in let low : min (from + n - n) (to + n) ≡ to + n = omega arith in let high : max (from + n) from ≡ from + n = omega arith in
        rw (lt-ltb to from down, le-ltb to to (omega arith), one, lt-ltb (to + n) from (omega arith), le-ltb from (from + n - n) (omega arith), le-ltb (from + n) (to + n) (omega arith), low, high) refl
    | inr le ↦
        let one : min n (from - to) ≡ from - to = omega arith in let low : from + n - (from - to) ≡ to + n = omega arith in
        rw (lt-ltb to from down, le-ltb to to (omega arith), one, le-ltb (to + (from - to)) from (omega arith), low) refl
  ]

  pub cut_passed : (lo : ℕ) (hs : List Span) → AreHoles lo hi hs → length_at to hs ≡ from - to → IsUsed from (from + n) hs → (front rest : List Span) × IsPassed hi from to n lo hs front rest
  cut_passed lo [] holes here used = absurd (omega arith)
  cut_passed lo (h ∷ hs) holes here used = let first = holes.0 in let has = holes.1 in elim (eqb_tells h.from to) [
    | inl same ↦
        let e = same.1 in let size : h.to - h.from ≡ from - to = rw same.0 at here in let f : h.to ≡ from = omega arith in
        let is_h : h ≡ record { from = to; to = from } = λ i. record { from = e i; to = f i } in
        let rest = used_above from (from + n) (suc h.to) hi hs (omega arith) (omega arith) holes.3 used.1 in (
          [],
          hs,
          record {
            whole = λ i. is_h i ∷ hs;
            low = omega arith;
            lower = tt;
            higher = rest;
            made = ap (λ (x : Span). slid_down from to n (x ∷ hs)) is_h ∙ slid_first hs;
            begin = last_none to h.from hi (h ∷ hs) (omega arith) (omega arith, has, holes.2, holes.3);
            last = last_first (from + n) h hs (omega arith) (last_none (from + n) (from + n) hi hs (omega arith) rest) ∙ ap (λ (x : ℕ). Some x) e;
            at = at_later (from + n) h hs (omega arith);
            next = rw (le-ltb (from + n) h.from (omega arith)) refl;
          },
        )
    | inr other ↦
        let there : length_at to hs ≡ from - to = rw other.0 at here in
        let far : h.to < to = elim (cases_lt to (suc h.to)) [ inl near ↦ let z = at_none to (suc h.to) hi hs near holes.3 in absurd (omega arith) | inr far ↦ omega arith ] in
        let c = cut_passed (suc h.to) hs holes.3 there used.1 in let is = c.2 in (
          h ∷ c.0,
          c.1,
          record {
            whole = ap (λ (l : List Span). h ∷ l) is.whole;
            low = omega arith;
            lower = (first, has, omega arith, is.lower);
            higher = is.higher;
            made = rw (le-ltb to h.to (omega arith), lt-ltb h.to (from + n - min n (from - to)) (omega arith)) (ap (λ (l : List Span). h ∷ l) is.made);
            begin = rw (lt-ltb h.from to (omega arith)) (ap (λ (o : Option ℕ). Some (unwrap_or o h.from)) is.begin);
            last = last_cons (from + n) to h hs (omega arith) is.last;
            at = at_later (from + n) h hs (omega arith) ∙ is.at;
            next = rw (le-ltb (from + n) h.from (omega arith)) is.next;
          },
        )
  ]
