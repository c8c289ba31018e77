-- A layout with an object's block left out, and a gap of what is left.
use Rattle.w16_compact.proofs
use proofs.Common as C
use proofs.Common.{◌≡◌, ℕ, ◌+◌, ◌<◌, ◌≤◌, ◌⊎◌, inl, inr, max, min, true, false, List, [], ◌∷◌, length, Option, Some, None, refl, sym, ap, ◌∙◌, arith, false≢true, Block, Loose, Misses, is_pinned, block_end, IsOrdered, IsApart, all_but, all_but_other, others, MayGather, Gap}

few_left : (id : ℕ) (xs : List Block) → length (all_but id xs) ≤ length xs
few_left id [] = omega arith
few_left id (x ∷ xs) = let rest = few_left id xs in elim (C.eqb_tells x.id id) [
  | inl same ↦ let is = ap (λ ys. length ys) (C.all_but_same id x xs same.0) in omega (arith, rest, is)
  | inr other ↦ let is = ap (λ ys. length ys) (all_but_other id x xs other.0) in omega (arith, rest, is)
]

-- what is left is a layout
pub ordered_without : (h : Option ℕ) (l : C.Layout) → IsOrdered l → IsOrdered (C.without h l)
ordered_without None l ordered = ordered
ordered_without (Some id) l ordered = record {
  laid = C.IsLaid-all_but l.lo l.hi id _ ordered.laid;
  named = C.AreNamed-all_but l.cap id _ ordered.named;
  grained = C.All-all_but _ id _ ordered.grained;
  from = ordered.from;
  small = ordered.small;
  few = let few = ordered.few in let less = few_left id l.blocks in omega arith;
}

-- The next block in a walk, and its end.
pub none_left : (h : Option ℕ) → others h [] ≡ []
none_left None = refl
none_left (Some id) = refl

pub next_out : (h : Option ℕ) (x : Block) (xs : List Block) → C.is_about h x.id ≡ true → others h (x ∷ xs) ≡ others h xs
next_out None x xs out = absurd (false≢true out)
next_out (Some id) x xs out = C.all_but_same id x xs out

pub next_in : (h : Option ℕ) (x : Block) (xs : List Block) → C.is_about h x.id ≡ false → others h (x ∷ xs) ≡ x ∷ others h xs
next_in None x xs other = refl
next_in (Some id) x xs other = all_but_other id x xs other

-- an id without a block leaves all of them
pub absent_left : (id : ℕ) (xs : List Block) → C.block_with xs id ≡ None → all_but id xs ≡ xs
absent_left id [] none = refl
absent_left id (x ∷ xs) none = elim (C.eqb_tells x.id id) [
  | inl same ↦ let no : ◌≡◌ {A = Option Block} (Some x) None = sym (C.with_same id x xs same.0) ∙ none in cc
  | inr other ↦ all_but_other id x xs other.0 ∙ ap (λ ys. x ∷ ys) (absent_left id xs (sym (C.with_other id x xs other.0) ∙ none))
]

-- A gap of what is left, and the block that is left out.
module _ (l : C.Layout) (ordered : IsOrdered l) (id : ℕ) (x : Block) (known : C.block_with l.blocks id ≡ Some x) (n : ℕ) (g : Gap) (has : C.HasRoom (C.without (Some id) l) n g) where
  lies : (l.lo ≤ x.at) × (0 < x.size) × (block_end x ≤ l.hi)
  lies = C.each_with (λ y. (l.lo ≤ y.at) × (0 < y.size) × (block_end y ≤ l.hi)) id x l.blocks known (C.laid_each l.lo l.hi l.blocks ordered.laid)

  -- an interval without a pinned byte, and one more that meets it, are one
  joined : (at size low high p n : ℕ) → 0 < n → at < high → low < at + size → Misses p n low high → Misses at size p (p + n) → Misses p n (min at low) (max (at + size) high)
  joined at size low high p n some one two f k = grind arith

  wider : x.at < g.high → g.low < block_end x → C.IsClear is_pinned l.lo l.hi (all_but id l.blocks) (min x.at g.low) (max (block_end x) g.high)
  wider one two =
      let a = has.gap.clear.above in let b = has.gap.clear.below in let from = lies.0 in let to = lies.2 in record {
        above = omega arith;
        below = omega arith;
        misses = C.All-from_Each _ (all_but id l.blocks)
            (C.Each-both (λ y. (0 < y.size) × IsApart x y) (λ y. C.IsTrue (is_pinned y) → Misses y.at y.size g.low g.high) (λ y. C.IsTrue (is_pinned y) → Misses y.at y.size (min x.at g.low) (max (block_end x) g.high))
            (λ y k f t. joined x.at x.size g.low g.high y.at y.size k.0 one two (f t) k.1) (all_but id l.blocks)
            (C.Each-both (λ y. (l.lo ≤ y.at) × (0 < y.size) × (block_end y ≤ l.hi)) (IsApart x) (λ y. (0 < y.size) × IsApart x y) (λ y in_it k. (in_it.1, k)) (all_but id l.blocks)
            (C.All-all_but (λ y. (l.lo ≤ y.at) × (0 < y.size) × (block_end y ≤ l.hi)) id l.blocks (C.laid_each l.lo l.hi l.blocks ordered.laid)) (C.others_apart l.lo l.hi l.cap id x l.blocks ordered.laid ordered.named known))
            (C.Each-from_All _ (all_but id l.blocks) has.gap.clear.misses));
      }

  -- it doesn't reach over an end of the gap
  lies_apart : (block_end x ≤ g.low) ⊎ ((g.high ≤ x.at) ⊎ ((g.low ≤ x.at) × (block_end x ≤ g.high)))
  lies_apart = elim (C.cases_lt x.at g.high) [
    | inr above ↦ inr (inl above)
    | inl one ↦ elim (C.cases_lt g.low (block_end x)) [
      | inr below ↦ inl below
      | inl two ↦
          let same = has.gap.maximal (min x.at g.low) (max (block_end x) g.high) (omega arith) (omega arith) (wider one two) in
          let low = same.0 in let high = same.1 in
          inr (inr (omega arith, omega arith))
    ]
  ]

  fitting : C.FitsGap g.low g.high x → MayGather l g.low g.high
  fitting fits = record {
    inside = has.may.inside;
    loose = C.All-back l.cap (C.FitsGap g.low g.high) id x l.blocks ordered.named known fits has.may.loose;
  }

  -- so the gap may be gathered with it where it is loose
  pub may_with : x.hold ≡ Loose → MayGather l g.low g.high
  may_with loose = fitting (elim lies_apart [
    | inl below ↦ inl below
    | inr e ↦ elim e [ inl above ↦ inr (inl above) | inr inside ↦ inr (inr (inside.0, inside.1, loose)) ]
  ])

  -- or where it begins outside
  pub lies_outside : (x.at < g.low) ⊎ (g.high ≤ x.at) → (block_end x ≤ g.low) ⊎ (g.high ≤ x.at)
  lies_outside other = elim lies_apart [
    | inl below ↦ inl below
    | inr e ↦ elim e [
      | inl above ↦ inr above
      | inr inside ↦ elim other [ inl lower ↦ absurd (let from = inside.0 in omega arith) | inr above ↦ inr above ]
    ]
  ]

  pub may_beside : (x.at < g.low) ⊎ (g.high ≤ x.at) → MayGather l g.low g.high
  may_beside other = fitting (elim (lies_outside other) [ inl below ↦ inl below | inr above ↦ inr (inl above) ])
