-- The block that begins at a place, by the place's cell.
use Rattle.w16_blocks.proofs
use proofs.Common as C
use Rattle.std.proofs.lemmas.Nat.{mod-mul-add}
use Rattle.std.specs.Prelude.{◌%◌}
use proofs.Common.{ℕ, zero, suc, ◌≡◌, ◌≢◌, ◌+◌, ◌-◌, ◌*◌, ◌<◌, ◌≤◌, List, [], ◌∷◌, get_or, Some, arith, refl, sym, ap, ◌∙◌, subst, slice_index, AllByRecursion, Block, block_with, Layout, blocks_in}
use proofs.Cells.{All-told, told_with}
use proofs.Tables.{same_unit}

-- what is read inside a table doesn't depend on what is read outside it
read_any : (slots : List Block) (i : ℕ) (c d : Block) → i < C.length slots → get_or slots i c ≡ get_or slots i d
read_any [] i c d lt = absurd (omega arith)
read_any (s ∷ slots) zero c d lt = refl
read_any (s ∷ slots) (suc i) c d lt = read_any slots i c d (omega arith)

module _ {cap lo hi g : ℕ} {slots : List Block} {cells : List ℕ} (t : C.AreTables cap lo hi g slots cells) {place : ℕ} (u : ℕ) (at : place ≡ lo + g * u) where
  pub none_at : slice_index cells u ≡ 0 → AllByRecursion (λ b. b.at ≢ place) (blocks_in slots cells)
  none_at clear = All-told (λ b. b.at ≢ place) slots cells
      (λ k id e same. let begins = (t.begun k id e).at in let here = same_unit g lo k u t.some (omega arith) in let cell = sym (ap (slice_index cells) here) ∙ e in omega arith)

  -- a cell that isn't 0 tells one
  module _ {begin : ℕ} (read : begin ≡ slice_index cells u) (some : begin ≢ 0) where
    tells : slice_index cells u ≡ suc (begin - 1)
    tells = omega arith

    pub slot_in : begin - 1 < C.length slots
    slot_in = (t.begun u (begin - 1) tells).inside

    module _ (d : Block) where
      pub is_slot : get_or slots (begin - 1) d ≡ C.slot_of slots (begin - 1)
      is_slot = read_any slots (begin - 1) d C.no_block slot_in

      pub begins_at : (get_or slots (begin - 1) d).at ≡ place
      begins_at = let begins = (t.begun u (begin - 1) tells).at in ap (λ (c : Block). c.at) is_slot ∙ (omega arith)

      pub is_known : block_with (blocks_in slots cells) (get_or slots (begin - 1) d).id ≡ Some (get_or slots (begin - 1) d)
      is_known =
          ap (block_with (blocks_in slots cells)) (ap (λ (c : Block). c.id) is_slot ∙ (t.begun u (begin - 1) tells).same)
          ∙ told_with lo g slots cells u (begin - 1) t.begun tells ∙ ap Some (sym is_slot)

-- none begins outside the bounds, or at no multiple of the grain
pub none_off : (l : Layout) (place : ℕ) → C.IsOrdered l → 0 < l.grain → (l.lo ≤ place → place ≤ l.hi → place % l.grain ≡ 0 → ⊥) → AllByRecursion (λ b. b.at ≢ place) l.blocks
none_off l place ordered some out =
    C.Each-both (λ b. (l.lo ≤ b.at) × (0 < b.size) × (C.block_end b ≤ l.hi)) (C.IsGrained l.grain) (λ b. b.at ≢ place)
    (λ b lies grained e. let low = lies.0 in let high = lies.2 in let m = grained.0 in
    out (omega arith) (omega arith) (ap (λ n. n % l.grain) (let whole : place ≡ m.0 * l.grain + 0 = let times = m.1 in omega arith in whole) ∙ mod-mul-add m.0 l.grain 0 some))
    l.blocks (C.laid_each l.lo l.hi _ ordered.laid) ordered.grained

-- a block that lent tables tell is the layout's
pub known_by : {cap lo hi g : ℕ} {slots slots' : List Block} {cells cells' : List ℕ} {l : Layout} (x : Block) → C.layout_in cap lo hi g slots cells ≡ l → slots' ≡ slots → cells' ≡ cells → block_with (blocks_in slots' cells') x.id ≡ Some x → block_with l.blocks x.id ≡ Some x
known_by {cap} {lo} {hi} {g} {slots} {slots'} {cells} {cells'} x is one two known =
    ap (λ m. block_with m.blocks x.id) (sym is) ∙ ap (λ ss. block_with (blocks_in ss cells) x.id) (sym one) ∙ ap (λ cs. block_with (blocks_in slots' cs) x.id) (sym two) ∙ known

-- and what holds of all that they tell holds of all that it has
pub all_by : {cap lo hi g : ℕ} {slots slots' : List Block} {cells cells' : List ℕ} {l : Layout} (P : Block → Type 0) → C.layout_in cap lo hi g slots cells ≡ l → slots' ≡ slots → cells' ≡ cells → AllByRecursion P (blocks_in slots' cells') → AllByRecursion P l.blocks
all_by {cap} {lo} {hi} {g} {slots} {slots'} {cells} {cells'} P is one two all =
    subst (λ m. AllByRecursion P m.blocks) is (subst (λ ss. AllByRecursion P (blocks_in ss cells)) one (subst (λ cs. AllByRecursion P (blocks_in slots' cs)) two all))
