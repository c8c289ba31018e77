-- Room in a longer range.
use Rattle.w16_model.proofs
use proofs.Common as C
use Rattle.std.specs.List.{AllByRecursion as Each}
use proofs.Common.{◌≡◌, ℕ, ◌+◌, ◌-◌, ◌≤◌, ◌<◌, min, true, false, cond, ◌&&◌, List, [], ◌∷◌, refl, ap, ◌∙◌, subst, arith, inl, inr, is_pinned, is_loose, begins_in, first_from, loose_bytes, room_from}
use proofs.{Gaps.Each-from, Starts.inside, Longest.sum_filter, Longest.loose_bytes-split, Removal.largest_le}
use Rattle.w16_model.specs.declared.Block.{Block}
use Rattle.w16_laws.specs.Heaps.{LongerLaw}

-- no less room in a longer range
first_shorter : (hi end : ℕ) (xs : List Block) (a : ℕ) → hi ≤ end → first_from is_pinned hi xs a ≡ min hi (first_from is_pinned end xs a)
first_shorter hi end [] a h = omega arith
first_shorter hi end (x ∷ xs) a h =
    let rest = first_shorter hi end xs a h in
    elim (is_pinned x && C.nat_le a x.at) as (λ b. cond b (min x.at (first_from is_pinned hi xs a)) (first_from is_pinned hi xs a) ≡ min hi (cond b (min x.at (first_from is_pinned end xs a)) (first_from is_pinned end xs a))) [
      | true ↦ omega (arith, rest)
      | false ↦ rest
    ]

none_above : (hi b : ℕ) (xs : List Block) → Each (λ x. x.at < hi) xs → loose_bytes xs hi b ≡ 0
none_above hi b [] h = refl
none_above hi b (x ∷ xs) h =
    let out = C.and_right (is_loose x) (begins_in hi b x) (C.and_left (C.nat_le hi _) (C.nat_lt _ b) (C.lt-leb hi _ h.0)) in
    sum_filter (λ y. is_loose y && begins_in hi b y) x xs ∙ ap (λ v. cond v x.size 0 + loose_bytes xs hi b) out ∙ C.zero-add _ ∙ none_above hi b xs h.1

from_longer : (hi end : ℕ) (xs : List Block) → hi ≤ end → Each (λ x. x.at < hi) xs → (a : ℕ) → room_from hi xs a ≤ room_from end xs a
from_longer hi end xs h below a = by_end _ _ (first_shorter hi end xs a h)
  where
    by_end : (e f : ℕ) → e ≡ min hi f → e - a - loose_bytes xs a e ≤ f - a - loose_bytes xs a f
    by_end e f is = elim (C.cases_lt hi f) [
      | inr l ↦ (let same : e ≡ f = omega (arith, is) in subst (λ v. e - a - loose_bytes xs a e ≤ v - a - loose_bytes xs a v) same (omega arith))
      | inl l ↦ elim (C.cases_lt e a) [
        | inl k ↦ omega arith
        | inr k ↦
            let same : hi ≡ e = omega (arith, is) in
            let split = loose_bytes-split xs a e f k (omega (arith, is)) in
            let none = subst (λ v. loose_bytes xs v f ≡ 0) same (none_above hi f xs below) in
            omega (arith, split, none, is)
      ]
    ]

pub longer_law : LongerLaw
longer_law lo hi end xs placed h =
    let below : Each (λ x. x.at < hi) xs = Each-from (λ x. x.at < hi) xs (λ x m. omega (arith, inside lo hi xs placed x m)) in
    largest_le (room_from hi xs) (room_from end xs) (C.starts _ lo xs) (from_longer hi end xs h below)
