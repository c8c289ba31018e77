-- Holes, and room: the list of holes is by address, the hole after a block begins at its end, and room is the largest over all gaps.
use Rattle.w16_model.proofs.Common as C
use Rattle.w16_model.proofs.Gaps as M
use Rattle.std.specs.List.{AllByRecursion as Each}
use Rattle.w16_model.proofs.Common.{ℕ, ◌<◌, ◌≤◌, Bool, true, false, cond, nat_lt, List, [], ◌∷◌, sym, subst, arith, block_end, holes, IsLaid, ◌≡◌, ◌+◌, ◌-◌, ◌↔◌, refl, first_from, hole_after, is_any, IsHole}
use Rattle.w16_model.proofs.{Gaps.EachPair, Laid.holes-cons, Starts.end_begins, Starts.gap_begins, Starts.gap_is, Longest.each_gap, Longest.some_gap}
use Rattle.w16_laws.specs.Heaps.{RisingLaw, HoleAfterLaw, LargestLaw}
use Rattle.w16_model.specs.{declared.Span.Span, declared.Block.Block}

-- The holes of laid blocks are by address, each before the next.
one_span : (P : Span → Type 0) (t : Bool) (s : Span) (ss : List Span) → P s → Each P ss → Each P (cond {A = List Span} t (s ∷ ss) ss)
one_span P true s ss h k = (h, k)
one_span P false s ss h k = k

two_spans : (R : Span → Span → Type 0) (t : Bool) (s : Span) (ss : List Span) → Each (R s) ss → EachPair R ss → EachPair R (cond {A = List Span} t (s ∷ ss) ss)
two_spans R true s ss h k = (h, k)
two_spans R false s ss h k = k

holes_from : (lo hi : ℕ) (xs : List Block) → IsLaid lo hi xs → Each (λ s. lo ≤ s.from) (holes lo hi xs)
holes_from lo hi [] laid = one_span (λ s. lo ≤ s.from) _ (record { from = lo; to = hi }) [] (omega arith) tt
holes_from lo hi (x ∷ xs) laid =
    subst (Each (λ s. lo ≤ s.from)) (sym (holes-cons lo hi x xs laid))
    (one_span (λ s. lo ≤ s.from) (nat_lt lo x.at) (record { from = lo; to = x.at }) (holes _ hi xs) (omega arith)
    (M.Each-map (λ s. block_end x ≤ s.from) (λ s. lo ≤ s.from) (λ s l. omega (arith, l, laid)) (holes (block_end x) hi xs) (holes_from (block_end x) hi xs laid.2)))

holes_rise : (lo hi : ℕ) (xs : List Block) → IsLaid lo hi xs → EachPair (λ s t. s.to < t.from) (holes lo hi xs)
holes_rise lo hi [] laid = two_spans (λ s t. s.to < t.from) _ (record { from = lo; to = hi }) [] tt tt
holes_rise lo hi (x ∷ xs) laid =
    subst (EachPair (λ s t. s.to < t.from)) (sym (holes-cons lo hi x xs laid))
    (two_spans (λ s t. s.to < t.from) (nat_lt lo x.at) (record { from = lo; to = x.at }) (holes _ hi xs)
    (M.Each-map (λ s. block_end x ≤ s.from) (λ s. x.at < s.from) (λ s l. omega (arith, l, laid)) (holes _ hi xs) (holes_from _ hi xs laid.2))
    (holes_rise (block_end x) hi xs laid.2))

pub rising_law : RisingLaw
rising_law lo hi xs laid = M.AllPairs-from_EachPair (λ s t. s.to < t.from) _ (holes_rise lo hi xs laid)

module _ (lo hi : ℕ) (xs : List Block) (placed : C.ArePlaced lo hi xs) where
  -- the hole directly after a block
  pub hole_after_is : (x : Block) → M.Member x xs → (n : ℕ) → 0 < n → (IsHole lo hi xs (block_end x) (block_end x + n) → hole_after hi xs (block_end x) ≡ n) × (hole_after hi xs (block_end x) ≡ n → IsHole lo hi xs (block_end x) (block_end x + n))
  hole_after_is x m n some = (
    (λ hole. let is : (M.last_to is_any lo xs (block_end x) ≡ block_end x) × (first_from is_any hi xs (block_end x) ≡ block_end x + n) = gap_is lo hi xs placed is_any (block_end x) (block_end x + n) hole in omega (arith, is.1)),
    (λ e. let to : first_from is_any hi xs (block_end x) ≡ block_end x + n = omega (arith, e, some) in
        subst (λ v. IsHole lo hi xs (block_end x) v) to (gap_begins lo hi xs placed is_any (block_end x) (end_begins lo hi xs placed is_any x m refl) (omega (arith, e, some)))),
  )

pub hole_after_law : HoleAfterLaw
hole_after_law lo hi xs placed = M.All-from_Each (λ x. (n : ℕ) → 0 < n → IsHole lo hi xs (block_end x) (block_end x + n) ↔ (hole_after hi xs (block_end x) ≡ n)) xs
    (M.Each-from (λ x. (n : ℕ) → 0 < n → IsHole lo hi xs _ _ ↔ (hole_after hi xs _ ≡ n)) xs (hole_after_is lo hi xs placed))

pub room_is_largest : LargestLaw
room_is_largest lo hi xs placed = record { each_gap = each_gap lo hi xs placed; some_gap = some_gap lo hi xs placed }
