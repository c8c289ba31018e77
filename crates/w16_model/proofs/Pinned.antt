-- The longest hole as the room where every block is pinned.
use Rattle.w16_model.proofs
use proofs.Common as C
use Rattle.std.specs.List.{AllByRecursion as Each}
use proofs.Common.{◌≡◌, ℕ, ◌-◌, min, max, cond, map, filter, List, [], ◌∷◌, refl, sym, ap, ◌∙◌, arith, Block, block_end, first_from, is_any, largest, room_from, all_pinned}
use proofs.Members.{room-permutation}

largest_same : (f g : ℕ → ℕ) (ns : List ℕ) → Each (λ n. f n ≡ g n) ns → largest (map f ns) ≡ largest (map g ns)
largest_same f g [] h = refl
largest_same f g (n ∷ ns) h = λ i. max (h.0 i) (largest_same f g ns h.1 i)

first_pinned : (hi : ℕ) (xs : List Block) (a : ℕ) → first_from C.is_pinned hi (all_pinned xs) a ≡ first_from is_any hi xs a
first_pinned hi [] a = refl
first_pinned hi (x ∷ xs) a = ap (λ e. cond (C.nat_le a x.at) (min x.at e) e) (first_pinned hi xs a)

none_loose : (xs : List Block) (a b : ℕ) → C.loose_bytes (all_pinned xs) a b ≡ 0
none_loose [] a b = refl
none_loose (x ∷ xs) a b = none_loose xs a b

ends_pinned : (xs : List Block) → map block_end (filter C.is_pinned (all_pinned xs)) ≡ map block_end (filter is_any xs)
ends_pinned [] = refl
ends_pinned (x ∷ xs) = ap (λ ns. block_end x ∷ ns) (ends_pinned xs)

room_pinned : (hi : ℕ) (xs : List Block) (a : ℕ) → room_from hi (all_pinned xs) a ≡ first_from is_any hi xs a - a
room_pinned hi xs a = (λ i. first_pinned hi xs a i - a - C.loose_bytes (all_pinned xs) a (first_pinned hi xs a i)) ∙ (λ i. first_from is_any hi xs a - a - none_loose xs a (first_from is_any hi xs a) i) ∙ less_none _
  where
    less_none : (n : ℕ) → n - 0 ≡ n
    less_none n = omega arith

pub pinned_law : C.PinnedLaw
pinned_law lo hi xs =
    sym (ap (λ ns. largest (map (room_from hi (all_pinned xs)) (lo ∷ ns))) (ends_pinned xs)
    ∙ largest_same (room_from hi (all_pinned xs)) (λ a. first_from is_any hi xs a - a) (lo ∷ map _ _) (every (lo ∷ map _ _)))
  where
    every : (ns : List ℕ) → Each (λ n. room_from hi (all_pinned xs) n ≡ first_from is_any hi xs n - n) ns
    every [] = tt
    every (n ∷ ns) = (room_pinned hi xs n, every ns)

-- no order of the blocks changes the longest hole
pub longest_hole-permutation : (lo hi : ℕ) (xs ys : List Block) → C.IsPermutation xs ys → C.longest_hole lo hi ys ≡ C.longest_hole lo hi xs
longest_hole-permutation lo hi xs ys perm = pinned_law lo hi ys ∙ room-permutation lo hi _ _ (C.IsPermutation-map (λ (x : Block). record x { hold = C.Pinned }) xs ys perm) ∙ sym (pinned_law lo hi xs)
