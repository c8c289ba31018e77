-- A block that ends at a place is the last below it.
use Rattle.w16_blocks.proofs.Common.{ℕ, ◌≡◌, ◌+◌, ◌<◌, ◌≤◌, ◌⊎◌, List, Some, arith, ap, subst, ◌∙◌, sym, inl, inr, Block, Each-map, block_end, block_with, blocks_in, slot_of, AreTables, IsLastBelow}
use Rattle.w16_blocks.proofs.{Cells.told_with, Lifting.around}

pub last_ending : {cap lo hi g : ℕ} {slots : List Block} {cells : List ℕ} → AreTables cap lo hi g slots cells → (id : ℕ) (b : Block) → slot_of slots id ≡ b → 0 < b.size → (place : ℕ) → b.at + b.size ≡ place
    → IsLastBelow (blocks_in slots cells) place b
last_ending {cap} {lo} {hi} {g} {slots} {cells} t id b is some place ends =
    let cell = t.found id (subst (λ c. 0 < c.size) (sym is) some) in
    let known : block_with (blocks_in slots cells) b.id ≡ Some b =
    ap (block_with _) (ap (λ c. c.id) (sym is) ∙ (t.begun cell.0 id cell.1).same) ∙ (told_with lo g slots cells cell.0 id t.begun cell.1 ∙ ap Some is) in record {
      known = known;
      below = omega arith;
      last = Each-map (λ c. (block_end c ≤ b.at) ⊎ ((block_end b ≤ c.at) ⊎ (c ≡ b))) (λ c. (c.at ≤ b.at) ⊎ (place ≤ c.at))
          (λ c around_it. elim around_it [
            | inl before ↦ inl (omega arith)
            | inr other ↦ elim other [ inl behind ↦ inr (omega arith) | inr same ↦ inl (let at = ap (λ x. x.at) same in omega arith) ]
          ]) _ (around lo hi cap b _ t.ordered.laid t.ordered.named known);
    }
