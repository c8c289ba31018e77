-- The last block below a place, by the cells of the units below it.
use Rattle.w16_blocks.proofs
use proofs.Common as C
use proofs.Common.{ℕ, suc, ◌≡◌, ◌-◌, ◌<◌, ◌≤◌, ◌⊎◌, List, arith, ap, ◌∙◌, inl, inr, cases_lt, Block, up, blocks_in}
use proofs.{Cells.All-told, Cells.told_with, Next.units_below, Next.units_above}

-- from unit u on no block begins below a place
module _ {cap lo hi g : ℕ} {slots : List Block} {cells : List ℕ} (t : C.AreTables cap lo hi g slots cells) (place below u : ℕ) (is : below ≡ C.div_ceil (place - lo) g)
    (clear : (k : ℕ) → u ≤ k → k < below → C.slice_index cells k ≡ 0) where
  pub none_below : u ≡ 0 → C.AllByRecursion (λ b. place ≤ b.at) (blocks_in slots cells)
  none_below none = All-told (λ b. place ≤ b.at) slots cells
      (λ k id e. let at = (t.begun k id e).at in elim (cases_lt k below) [
        | inl lt ↦ let zero_is = clear k (omega arith) lt in absurd (omega arith)
        | inr ge ↦ let over = units_above lo g place below t.some is k ge in omega arith
      ])

  -- the block of the unit before
  pub last_here : (v id : ℕ) → u ≡ suc v → v < below → C.slice_index cells v ≡ suc id → C.IsLastBelow (blocks_in slots cells) place (C.slot_of slots id)
  last_here v id next lt tells =
      let own = (t.begun v id tells).at in
      record {
        known = ap (C.block_with (blocks_in slots cells)) (t.begun v id tells).same ∙ told_with lo g slots cells v id t.begun tells;
        below = let under = units_below lo g place below t.some is v lt in omega arith;
        last = All-told (λ c. (c.at ≤ (C.slot_of slots id).at) ⊎ (place ≤ c.at)) slots cells
            (λ k j e. let at = (t.begun k j e).at in elim (cases_lt k below) [
              | inl less ↦ elim (cases_lt k u) [
                | inl before ↦ let low = up g k v (omega arith) in inl (omega arith)
                | inr behind ↦ let zero_is = clear k behind less in absurd (omega arith)
              ]
              | inr ge ↦ let over = units_above lo g place below t.some is k ge in inr (omega arith)
            ]);
      }
