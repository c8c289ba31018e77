-- The hole that begins where a block ends.
use Rattle.w16_blocks.proofs
use proofs.Common as C
use proofs.Common.{ℕ, suc, ◌≡◌, ◌≢◌, ◌-◌, ◌<◌, ◌≤◌, List, [], ◌∷◌, Some, arith, refl, sym, ap, ◌∙◌, inl, inr, cases_lt, lt-ltb, le-ltb, false≢true, Block, Span, block_end, holes, hole_after, holes-cons, length_at}
use proofs.Remove.{with_same, with_other, each_with}
use proofs.Free.{AreHoles-holes}

length_here : (a b : ℕ) (hs : List Span) → a < b → length_at a (record { from = a; to = b } ∷ hs) ≡ b - a
length_here a b hs lt = rw (C.eq-eqb a a refl) refl

length_past : (from to a : ℕ) (hs : List Span) → from ≢ a → length_at a (C.add_span from to hs) ≡ length_at a hs
length_past from to a hs ne = elim (cases_lt from to) [
  | inl some ↦ rw (lt-ltb from to some, C.ne_eqb from a ne) refl
  | inr none ↦ rw (le-ltb from to none) refl
]

length_low : (lo hi a : ℕ) (hs : List Span) → a < lo → C.AreHoles lo hi hs → length_at a hs ≡ 0
length_low lo hi a [] lt are = refl
length_low lo hi a (h ∷ hs) lt are = let from = are.0 in let some = are.1 in rw (C.ne_eqb h.from a (λ e. omega arith)) (length_low _ hi a hs (omega arith) are.3)

-- the hole where the range begins
length_first : (lo hi : ℕ) (bs : List Block) → C.IsLaid lo hi bs → length_at lo (holes lo hi bs) ≡ hole_after hi bs lo
length_first lo hi [] laid = elim (cases_lt lo hi) [
  | inl some ↦ rw (lt-ltb lo hi some) (length_here lo hi [] some)
  | inr none ↦ rw (le-ltb lo hi none) (omega arith)
]
length_first lo hi (x ∷ xs) laid =
    let from = laid.0 in let size = laid.1 in
    let end = ap (λ n. n - lo) (C.first_hole_end lo hi x xs laid) in
    ap (length_at lo) (holes-cons lo hi x xs laid) ∙ (elim (cases_lt lo x.at) [
      | inl some ↦ rw (lt-ltb lo x.at some) (length_here lo x.at (holes (block_end x) hi xs) some)
      | inr none ↦ rw (le-ltb lo x.at none) (length_low (block_end x) hi lo (holes _ hi xs) (omega arith) (AreHoles-holes _ _ hi xs (omega arith) laid.2) ∙ zero_less lo x.at none)
    ]) ∙ sym end
  where
    zero_less : (a b : ℕ) → b ≤ a → 0 ≡ b - a
    zero_less a b le = omega arith

-- the hole where an id's block ends
pub length_after : (lo hi id : ℕ) (x : Block) (bs : List Block) → C.IsLaid lo hi bs → C.block_with bs id ≡ Some x → length_at (block_end x) (holes lo hi bs) ≡ hole_after hi bs (block_end x)
length_after lo hi id x [] laid e = absurd (false≢true (ap C.is_some e))
length_after lo hi id x (b ∷ bs) laid e =
    let from = laid.0 in let size = laid.1 in
    elim (C.eqb_tells b.id id) [
      | inl same ↦
          let f : Some b ≡ Some x = sym (with_same id b bs same.0) ∙ e in let g : b ≡ x = cc in
          ap (λ y. length_at (block_end y) (holes lo hi (b ∷ bs))) (sym g)
          ∙ ap (length_at _) (holes-cons lo hi b bs laid) ∙ length_past lo b.at (block_end b) (holes _ hi bs) (λ h. omega arith)
          ∙ length_first _ hi bs laid.2 ∙ ap (λ n. n - block_end b) (sym (C.first_behind lo hi b bs laid _ (omega arith)))
          ∙ ap (λ y. hole_after hi (b ∷ bs) (block_end y)) g
      | inr other ↦
          let e' = sym (with_other id b bs other.0) ∙ e in
          let there = each_with (λ y. (block_end b ≤ y.at) × (0 < y.size) × (block_end y ≤ hi)) id x bs e' (C.laid_each _ hi bs laid.2) in
          let above = there.0 in
          ap (length_at _) (holes-cons lo hi b bs laid) ∙ length_past lo b.at (block_end x) (holes _ hi bs) (λ h. omega arith)
          ∙ length_after (block_end b) hi id x bs laid.2 e' ∙ ap (λ n. n - block_end x) (sym (C.first_behind lo hi b bs laid _ (omega arith)))
    ]
