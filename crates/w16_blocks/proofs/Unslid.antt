-- What is known of blocks once a run of them has slid down, as it was before.
use Rattle.w16_blocks.proofs.Common.{ℕ, ◌≡◌, ◌≢◌, ◌<◌, ◌≤◌, ◌⊎◌, List, map, Some, arith, sym, ap, ◌∙◌, subst, inl, inr, cases_lt, AllByRecursion, Block, Span, block_end, block_with, laid_each, Layout, IsOrdered, slid_with}
use Rattle.w16_blocks.proofs.{RunHoles.All-unmapped, Rising.with_back, Rising.slid_id, Sliding.slid_below, Sliding.slid_above, Sliding.slid_inside}

-- a block that stands behind those that have slid stood there
pub unslid : (from at to : ℕ) (x : Block) (old now : List Block) → to ≤ from → from ≤ at → at ≤ x.at → now ≡ map (slid_with (record { from = from; to = at }) to) old → block_with now x.id ≡ Some x → block_with old x.id ≡ Some x
unslid from at to x old now down up behind is known =
    let run : Span = record { from = from; to = at } in
    with_back _ x old (slid_id run to)
    (λ c e. elim (cases_lt c.at from) [
      | inl below ↦ sym (slid_below run to c below) ∙ e
      | inr ge ↦ elim (cases_lt c.at at) [
        | inl lt ↦ let there = ap (λ d. d.at) (sym (slid_inside run to c ge lt) ∙ e) in absurd (omega arith)
        | inr past ↦ sym (slid_above run to c past) ∙ e
      ]
    ])
    (subst (λ bs. block_with bs x.id ≡ Some x) is known)

-- and where none begins behind them, none began
pub none_unslid : (l : Layout) → IsOrdered l → (from at to : ℕ) → to ≤ from → from ≤ at → AllByRecursion (λ b. b.at ≢ at) (map (slid_with (record { from = from; to = at }) to) l.blocks) → AllByRecursion (λ b. b.at ≢ at) l.blocks
none_unslid l ordered from at to down up none =
    All-unmapped (λ y. (l.lo ≤ y.at) × (0 < y.size) × (block_end y ≤ l.hi)) (λ b. b.at ≢ at) (λ b. b.at ≢ at) (slid_with (record { from = from; to = at }) to)
    (λ c _ told here. told (ap (λ d. d.at) (slid_above (record { from = from; to = at }) to c (omega arith)) ∙ here))
    _ (laid_each l.lo l.hi _ ordered.laid) none

-- a run has bytes where a block begins it
pub has_bytes : (bs : List Block) (from high end : ℕ) → from < high → from ≤ end → (end ≡ high) ⊎ AllByRecursion (λ b. b.at ≢ end) bs → (AllByRecursion (λ b. b.at ≢ from) bs → ⊥) → from < end
has_bytes bs from high end lt le last begins = elim last [
  | inl top ↦ omega arith
  | inr none ↦ elim (cases_lt from end) [
    | inl less ↦ less
    | inr more ↦ absurd (begins (subst (λ p. AllByRecursion (λ b. b.at ≢ p) bs) (let same : end ≡ from = omega arith in same) none))
  ]
]
