-- A run that has slid: what each block's bytes are, and what stays.
use Rattle.w16_compact.proofs.Common as C
use Rattle.w16_compact.proofs.Common.{ℕ, ◌≡◌, ◌+◌, ◌-◌, ◌<◌, ◌≤◌, ◌⊎◌, List, [], ◌∷◌, map, take, drop, arith, refl, sym, ap, ◌∙◌, subst, inl, inr, AllByRecursion, part, Block, Span, block_end, IsUsed, Layout, slid_with, slid_below, slid_above, Lies}

-- a part of a part
part_of_part : (bytes : List ℕ) (at n k m : ℕ) → k + m ≤ n → part (part bytes at n) k m ≡ part bytes (at + k) m
part_of_part bytes at n k m le =
    ap (λ i. take m (drop k (take i (drop at bytes)))) (let e : n ≡ k + (n - k) = omega arith in e)
    ∙ ap (take m) (C.drop-take k (n - k) _) ∙ C.take-take m (n - k) (drop k _) (omega arith) ∙ ap (take m) (C.drop-drop k at bytes)

-- where it stands there already
pub same_layout : (l : Layout) (run : Span) (to : ℕ) → run.from ≡ to → l ≡ record { cap = l.cap; lo = l.lo; hi = l.hi; grain = l.grain; blocks = map (slid_with run to) l.blocks }
same_layout l run to here = ap (λ bs. let r : Layout = record { cap = l.cap; lo = l.lo; hi = l.hi; grain = l.grain; blocks = bs } in r) (sym (slid_still run to here _))
  where
    slid_still : (run : Span) (to : ℕ) → run.from ≡ to → (bs : List Block) → map (slid_with run to) bs ≡ bs
    slid_still run to here [] = refl
    slid_still run to here (b ∷ bs) = λ i. elim (C.cases_lt b.at run.from) as (λ _. slid_with run to b ≡ b) [
      | inl below ↦ slid_below run to b below
      | inr from ↦ elim (C.cases_lt b.at run.to) as (λ _. slid_with run to b ≡ b) [
        | inl inside ↦ C.slid_inside run to b from inside ∙ ap (λ at. let r : Block = record b { at = at } in r) (let e : to + (b.at - run.from) ≡ b.at = omega arith in e)
        | inr above ↦ slid_above run to b above
      ]
    ] i ∷ slid_still run to here bs i

-- a block's id and bytes
abbrev held : List ℕ → Block → ℕ × List ℕ
held bytes c = (c.id, part bytes c.at c.size)

-- a block in a run that slides, or one that stays and that its new place misses
abbrev pub IsCleared : Span → ℕ → Block → Type 0
IsCleared run to b = ((run.from ≤ b.at) × (b.at < run.to) × (block_end b ≤ run.to)) ⊎ ((slid_with run to b ≡ b) × ((block_end b ≤ to) ⊎ (to + (run.to - run.from) ≤ b.at)))

-- each block has its bytes again
module _ (new old : List ℕ) (run : Span) (to : ℕ) (before after : List Span) (moved : part new to (run.to - run.from) ≡ part old run.from (run.to - run.from)) (same : C.AreSameBut to (run.to - run.from) before after old new) where
  one : (b : Block) → IsCleared run to b → IsUsed b.at (block_end b) before → IsUsed (slid_with run to b).at (block_end (slid_with run to b)) after → held new (slid_with run to b) ≡ held old b
  one b at was is = elim at [
    | inl inside ↦
        let from = inside.0 in let lt = inside.1 in let end = inside.2 in
        ap (held new) (C.slid_inside run to b from lt)
        ∙ ap (λ (bytes : List ℕ). let r : ℕ × List ℕ = (b.id, bytes) in r) (come b from end)
    | inr out ↦
        ap (held new) out.0
        ∙ ap (λ (bytes : List ℕ). let r : ℕ × List ℕ = (b.id, bytes) in r) (same.same b.at b.size was (subst (λ (c : Block). IsUsed c.at (block_end c) after) out.0 is) out.1)
  ]
    where
      come : (b : Block) → run.from ≤ b.at → block_end b ≤ run.to → part new (to + (b.at - run.from)) b.size ≡ part old b.at b.size
      come b from end =
          sym (part_of_part new to (run.to - run.from) (b.at - run.from) b.size (omega arith))
          ∙ ap (λ (bytes : List ℕ). part bytes (b.at - run.from) b.size) moved
          ∙ part_of_part old run.from (run.to - run.from) (b.at - run.from) b.size (omega arith)
          ∙ ap (λ (at : ℕ). part old at b.size) (let e : run.from + (b.at - run.from) ≡ b.at = omega arith in e)

  pub contents_run : (bs : List Block) → AllByRecursion (IsCleared run to) bs → AllByRecursion (λ b. IsUsed b.at (block_end b) before) bs → AllByRecursion (λ b. IsUsed b.at (block_end b) after) (map (slid_with run to) bs)
      → C.contents new (map (slid_with run to) bs) ≡ C.contents old bs
  contents_run [] at was is = refl
  contents_run (b ∷ bs) at was is = λ i. one b at.0 was.0 is.0 i ∷ contents_run bs at.1 was.1 is.1 i

-- of a run that slides down
pub cleared_down : (run : Span) (to : ℕ) → to < run.from → run.from < run.to → (bs : List Block) → AllByRecursion (Lies run) bs → C.IsBare to run.from bs → AllByRecursion (IsCleared run to) bs
cleared_down run to down some = C.Each-both _ (λ b. (block_end b ≤ to) ⊎ (run.from ≤ b.at)) _
    (λ b at bare. let size = at.0 in elim at.1 [
      | inl below ↦ inr (slid_below run to b (omega arith), elim bare [ inl under ↦ inl under | inr over ↦ absurd (omega arith) ])
      | inr other ↦ elim other [
        | inl behind ↦ inr (slid_above run to b behind, inr (omega arith))
        | inr inside ↦ let from = inside.0 in let end = inside.1 in inl (from, omega arith, end)
      ]
    ])

-- and of one that slides up
pub cleared_up : (run : Span) (to : ℕ) → run.from ≤ to → run.from < run.to → (bs : List Block) → AllByRecursion (Lies run) bs → C.IsBare run.to (to + (run.to - run.from)) bs → AllByRecursion (IsCleared run to) bs
cleared_up run to up some = C.Each-both _ (λ b. (block_end b ≤ run.to) ⊎ (to + (run.to - run.from) ≤ b.at)) _
    (λ b at bare. let size = at.0 in elim at.1 [
      | inl below ↦ inr (slid_below run to b (omega arith), inl (omega arith))
      | inr other ↦ elim other [
        | inl behind ↦ inr (slid_above run to b behind, elim bare [ inl under ↦ absurd (omega arith) | inr over ↦ inr over ])
        | inr inside ↦ let from = inside.0 in let end = inside.1 in inl (from, omega arith, end)
      ]
    ])
