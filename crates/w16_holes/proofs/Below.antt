-- The last hole that begins below a place.
use Rattle.w16_holes.proofs.Common.{ℕ, suc, ◌≡◌, ◌<◌, ◌≤◌, ◌-◌, inl, inr, List, [], ◌∷◌, Option, Some, unwrap_or, arith, refl, sym, ap, ◌∙◌, cases_lt, lt-ltb, le-ltb, eqb_tells, Span, AreHoles, IsFree, IsUsed, last_before, length_at}
use Rattle.w16_holes.proofs.{Thread.last_cons, Thread.last_first, Cuts.last_none, Cuts.at_none}

-- no hole begins in what meets none
pub last_used : (a b lo hi : ℕ) (hs : List Span) → a < b → AreHoles lo hi hs → IsUsed a b hs → last_before b hs ≡ last_before a hs
last_used a b lo hi [] lt holes used = refl
last_used a b lo hi (h ∷ hs) lt holes used =
    let some = holes.1 in
    let rest = last_used a b _ hi hs lt holes.3 used.1 in
    elim used.0 [
      | inl before ↦ rw (lt-ltb h.from a (omega arith), lt-ltb h.from b (omega arith)) (ap (λ o. Some (unwrap_or o h.from)) rest)
      | inr behind ↦ rw (le-ltb h.from a (omega arith), le-ltb h.from b behind) rest
    ]

free_from : (a b lo hi : ℕ) (hs : List Span) → AreHoles lo hi hs → IsFree a b hs → lo ≤ a
free_from a b lo hi [] holes free = absurd free
free_from a b lo hi (h ∷ hs) holes (inl here) = let from = holes.0 in let low = here.0 in omega arith
free_from a b lo hi (h ∷ hs) holes (inr there) = let from = holes.0 in let some = holes.1 in let rest = free_from a b _ hi hs holes.3 there in omega arith

-- a part of a hole lies in the one that begins with it, or else in the last one below it
pub record IsHoleOf (a b : ℕ) (hs : List Span) : Type 0 where
  pub begins : 0 < length_at a hs → last_before b hs ≡ Some a
  pub other : length_at a hs ≡ 0 → last_before b hs ≡ last_before a hs

pub hole_of : (a b lo hi : ℕ) (hs : List Span) → a < b → AreHoles lo hi hs → IsFree a b hs → IsHoleOf a b hs
hole_of a b lo hi [] lt holes free = absurd free
hole_of a b lo hi (h ∷ hs) lt holes (inl here) =
    let from = here.0 in let to = here.1 in
    let is = last_first b h hs (omega arith) (last_none b _ hi hs (omega arith) holes.3) in
    elim (eqb_tells h.from a) [
      | inl same ↦ record { begins = λ _. is ∙ ap (λ n. Some n) same.1; other = λ none. let z = rw same.0 at none in absurd (omega arith) }
      | inr other ↦
          let apart = other.1 in
          let less : h.from < a = elim (cases_lt h.from a) [ inl lt ↦ lt | inr le ↦ absurd (apart (omega arith)) ] in
          record {
            begins = λ has. let rest = rw other.0 at has in let z = at_none a _ hi hs (omega arith) holes.3 in absurd (omega arith);
            other = λ _. is ∙ sym (last_first a h hs less (last_none a _ hi hs (omega arith) holes.3));
          }
    ]
hole_of a b lo hi (h ∷ hs) lt holes (inr there) =
    let some = holes.1 in
    let low = free_from a b _ hi hs holes.3 there in
    let rest = hole_of a b _ hi hs lt holes.3 there in
    elim (eqb_tells h.from a) [
      | inl same ↦ let e = same.1 in absurd (omega arith)
      | inr other ↦ record {
        begins = λ has. last_cons b a h hs (omega arith) (rest.begins (rw other.0 at has));
        other = λ none. rw (lt-ltb h.from a (omega arith), lt-ltb h.from b (omega arith)) (ap (λ o. Some (unwrap_or o h.from)) (rest.other (rw other.0 at none)));
      }
    ]
