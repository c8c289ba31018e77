-- Blocks that are laid out by address.
use Rattle.w16_model.proofs
use Rattle.std.specs.List.{AllByRecursion as Each}
use proofs.Common.{◌≡◌, ℕ, ◌<◌, ◌≤◌, inl, min, true, false, cond, if◌then◌else◌, nat_le, nat_lt, List, [], ◌∷◌, map, filter, refl, ◌∙◌, arith, le-leb, cond-true, cond-false, lt-leb, Span, Block, block_end, is_any, first_from, spans_from, holes, Misses, ArePlaced, IsLaid}
use proofs.Gaps.{Each-map, EachPair, All-from_Each, AllPairs-from_EachPair}

-- all blocks of a laid list begin at or after its low end, and the low end is at most the high one
pub laid_le : (lo hi : ℕ) (xs : List Block) → IsLaid lo hi xs → lo ≤ hi
laid_le lo hi [] h = h
laid_le lo hi (x ∷ xs) h = omega (arith, h, laid_le (block_end x) hi xs h.2)

-- laid blocks are placed
pub laid_each : (lo hi : ℕ) (xs : List Block) → IsLaid lo hi xs → Each (λ x. (lo ≤ x.at) × (0 < x.size) × (block_end x ≤ hi)) xs
laid_each lo hi [] h = tt
laid_each lo hi (x ∷ xs) h = (
  (h.0, h.1, laid_le _ hi xs h.2),
  Each-map (λ y. (block_end x ≤ y.at) × (0 < y.size) × (block_end y ≤ hi)) (λ y. (lo ≤ y.at) × (0 < y.size) × (block_end y ≤ hi)) (λ y f. (omega (arith, f.0, h.0), f.1, f.2)) xs (laid_each (block_end x) hi xs h.2),
)

laid_pairs : (lo hi : ℕ) (xs : List Block) → IsLaid lo hi xs → EachPair (λ x y. Misses x.at x.size y.at (block_end y)) xs
laid_pairs lo hi [] h = tt
laid_pairs lo hi (x ∷ xs) h = (
  Each-map (λ y. (block_end x ≤ y.at) × (0 < y.size) × (block_end y ≤ hi)) (λ y. Misses x.at _ y.at _) (λ y f. inl f.0) xs (laid_each _ hi xs h.2),
  laid_pairs (block_end x) hi xs h.2,
)

pub laid_placed : (lo hi : ℕ) (xs : List Block) → IsLaid lo hi xs → ArePlaced lo hi xs
laid_placed lo hi xs h = record { inside = All-from_Each _ xs (laid_each lo hi xs h); apart = AllPairs-from_EachPair _ xs (laid_pairs lo hi xs h) }

-- The holes of laid blocks: the one below the first block, and those of the rest.
pub first_after : (lo hi : ℕ) (xs : List Block) (a m : ℕ) → IsLaid lo hi xs → m ≤ lo → m ≤ first_from is_any hi xs a
first_after lo hi [] a m h k = omega arith
first_after lo hi (x ∷ xs) a m h k =
    let rest = first_after (block_end x) hi xs a m h.2 (omega (arith, h)) in
    elim (nat_le a x.at) as (λ b. m ≤ cond b (min x.at (first_from is_any hi xs a)) (first_from is_any hi xs a)) [ true ↦ omega (arith, h.0, rest, k) | false ↦ rest ]

ends_after : (lo hi : ℕ) (xs : List Block) → IsLaid lo hi xs → Each (λ s. lo ≤ s) (map block_end (filter is_any xs))
ends_after lo hi [] h = tt
ends_after lo hi (x ∷ xs) h = (omega (arith, h), Each-map (λ s. block_end x ≤ s) (λ s. lo ≤ s) (λ s l. omega (arith, l, h)) (map _ _) (ends_after (block_end x) hi xs h.2))

same_spans : (hi : ℕ) (xs ys : List Block) (places : List ℕ) → Each (λ a. first_from is_any hi xs a ≡ first_from is_any hi ys a) places → spans_from is_any hi xs places ≡ spans_from is_any hi ys places
same_spans hi xs ys [] h = refl
same_spans hi xs ys (a ∷ places) h = λ i. let s : Span = record { from = a; to = h.0 i } in cond (nat_lt s.from s.to) (s ∷ same_spans hi xs ys places h.1 i) (same_spans hi xs ys places h.1 i)

module _ (lo hi : ℕ) (x : Block) (xs : List Block) (laid : IsLaid lo hi (x ∷ xs)) where
  pub first_hole_end : first_from is_any hi (x ∷ xs) lo ≡ x.at
  first_hole_end =
      let far : x.at ≤ first_from is_any hi xs lo = first_after (block_end x) hi xs lo x.at laid.2 (omega arith) in
      cond-true (nat_le lo x.at) _ _ (le-leb lo x.at laid.0) ∙ smaller x.at (first_from is_any hi xs lo) far
    where
      smaller : (a b : ℕ) → a ≤ b → min a b ≡ a
      smaller a b h = omega arith

  pub first_behind : (s : ℕ) → block_end x ≤ s → first_from is_any hi (x ∷ xs) s ≡ first_from is_any hi xs s
  first_behind s h = cond-false (nat_le s x.at) _ _ (lt-leb s x.at (omega (arith, laid.1)))

  pub holes-cons : holes lo hi (x ∷ xs) ≡ (if nat_lt lo x.at then record { from = lo; to = x.at } ∷ holes (block_end x) hi xs else holes (block_end x) hi xs)
  holes-cons =
      let behind : spans_from is_any hi (x ∷ xs) (block_end x ∷ map block_end (filter is_any xs)) ≡ holes (block_end x) hi xs =
      same_spans hi (x ∷ xs) xs (block_end x ∷ map block_end (filter is_any xs)) (
        first_behind (block_end x) (omega arith),
        Each-map (λ s. block_end x ≤ s)
            (λ s. first_from is_any hi (x ∷ xs) s ≡ first_from is_any hi xs s) (λ s l. first_behind s l)
            (map block_end (filter is_any xs)) (ends_after (block_end x) hi xs laid.2),
      ) in
      λ i. let s : Span = record { from = lo; to = first_hole_end i } in cond (nat_lt s.from s.to) (s ∷ behind i) (behind i)
