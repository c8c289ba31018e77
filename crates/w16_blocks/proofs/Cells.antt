-- The list of blocks that a table and its cells tell.
use Rattle.w16_blocks.proofs
use proofs.Common as C
use proofs.Common.{ℕ, zero, suc, ◌≡◌, ◌≢◌, ◌+◌, ◌*◌, ◌<◌, ◌≤◌, List, [], ◌∷◌, set, Some, None, arith, refl, sym, ap, ◌∙◌, subst, inl, inr, slice_index, AllByRecursion, Block, block_with, slot_of, blocks_in, AreBegun, false≢true}
use proofs.Place.{placed_first, placed_after}
use proofs.Remove.{all_but_same, all_but_other, all_but_absent, with_same, with_other, with_none}

-- what holds of the block of each cell holds of each block, and back
pub All-told : (P : Block → Type 0) (slots : List Block) (cells : List ℕ) → ((k id : ℕ) → slice_index cells k ≡ suc id → P (slot_of slots id)) → AllByRecursion P (blocks_in slots cells)
All-told P slots [] all = tt
All-told P slots (zero ∷ cells) all = All-told P slots cells (λ k id e. all (suc k) id e)
All-told P slots (suc id ∷ cells) all = (all 0 id refl, All-told P slots cells (λ k j e. all (suc k) j e))

pub each_told : (P : Block → Type 0) (slots : List Block) (cells : List ℕ) (k id : ℕ) → slice_index cells k ≡ suc id → AllByRecursion P (blocks_in slots cells) → P (slot_of slots id)
each_told P slots [] k id e all = absurd (omega arith)
each_told P slots (zero ∷ cells) zero id e all = absurd (omega arith)
each_told P slots (zero ∷ cells) (suc k) id e all = each_told P slots cells k id e all
each_told P slots (suc j ∷ cells) zero id e all = let same : j ≡ id = omega arith in subst (λ i. P (slot_of slots i)) same all.0
each_told P slots (suc j ∷ cells) (suc k) id e all = each_told P slots cells k id e all.1

-- the cells behind the first
pub begun_rest : (p g c : ℕ) (slots : List Block) (cells : List ℕ) → AreBegun p g slots (c ∷ cells) → AreBegun (p + g) g slots cells
begun_rest p g c slots cells begun k id e =
    let b = begun (suc k) id e in let at = b.at in
    record { inside = b.inside; same = b.same; at = omega arith; some = b.some }

-- each block begins at the first place or above
above : (p g : ℕ) (slots : List Block) (cells : List ℕ) (a : ℕ) → a ≤ p → AreBegun p g slots cells → AllByRecursion (λ c. a ≤ c.at) (blocks_in slots cells)
above p g slots cells a le begun = All-told (λ c. a ≤ c.at) slots cells (λ k id e. let at = (begun k id e).at in omega arith)

-- an id without a cell has no block
pub differ : (p g : ℕ) (slots : List Block) (cells : List ℕ) (id : ℕ) → ((k : ℕ) → slice_index cells k ≢ suc id) → AreBegun p g slots cells → AllByRecursion (λ c. c.id ≢ id) (blocks_in slots cells)
differ p g slots cells id none begun =
    All-told (λ c. c.id ≢ id) slots cells (λ k j e h. none k (let same = sym (begun k j e).same ∙ h in e ∙ ap suc same))

-- a table that differs where no cell points tells the same
pub blocks_in-set : (slots : List Block) (cells : List ℕ) (id : ℕ) (b : Block) → ((k : ℕ) → slice_index cells k ≢ suc id) → blocks_in (set slots id b) cells ≡ blocks_in slots cells
blocks_in-set slots [] id b none = refl
blocks_in-set slots (zero ∷ cells) id b none = blocks_in-set slots cells id b (λ k. none (suc k))
blocks_in-set slots (suc j ∷ cells) id b none =
    let ne : j ≢ id = λ e. none 0 (ap suc e) in
    ap (λ c. c ∷ blocks_in (set slots id b) cells) (C.get_or-set_other slots id j b _ ne) ∙ ap (λ cs. slot_of slots j ∷ cs) (blocks_in-set slots cells id b (λ k. none (suc k)))

-- a cell that begins to tell a block places it
pub blocks_in-begin : (p g : ℕ) (slots : List Block) (cells : List ℕ) (u id : ℕ) → 0 < g → AreBegun p g slots cells → u < C.length cells → slice_index cells u ≡ 0 → (slot_of slots id).at ≡ p + g * u
    → blocks_in slots (set cells u (suc id)) ≡ C.placed (slot_of slots id) (blocks_in slots cells)
blocks_in-begin p g slots [] u id some begun lt none at = absurd (omega arith)
blocks_in-begin p g slots (zero ∷ cells) zero id some begun lt none at =
    sym (placed_first _ _ (above (p + g) g slots cells (slot_of slots id).at (omega arith) (begun_rest p g 0 slots cells begun)))
blocks_in-begin p g slots (zero ∷ cells) (suc u) id some begun lt none at =
    blocks_in-begin (p + g) g slots cells u id some (begun_rest p g 0 slots cells begun) (omega arith) none (omega arith)
blocks_in-begin p g slots (suc j ∷ cells) zero id some begun lt none at = absurd (omega arith)
blocks_in-begin p g slots (suc j ∷ cells) (suc u) id some begun lt none at =
    let here = (begun 0 j refl).at in
    ap (λ cs. slot_of slots j ∷ cs) (blocks_in-begin (p + g) g slots cells u id some (begun_rest p g (suc j) slots cells begun) (omega arith) none (omega arith))
    ∙ sym (placed_after _ _ _ (let more : g * suc u ≡ g * u + g = omega arith in omega arith))

-- a cell that is cleared tells the block no more
pub blocks_in-clear : (p g : ℕ) (slots : List Block) (cells : List ℕ) (u id : ℕ) → AreBegun p g slots cells → slice_index cells u ≡ suc id → ((k : ℕ) → slice_index cells k ≡ suc id → k ≡ u)
    → blocks_in slots (set cells u 0) ≡ C.all_but id (blocks_in slots cells)
blocks_in-clear p g slots [] u id begun tells one = absurd (omega arith)
blocks_in-clear p g slots (zero ∷ cells) zero id begun tells one = absurd (omega arith)
blocks_in-clear p g slots (zero ∷ cells) (suc u) id begun tells one =
    blocks_in-clear (p + g) g slots cells u id (begun_rest p g 0 slots cells begun) tells (λ k e. let same = one (suc k) e in omega arith)
blocks_in-clear p g slots (suc j ∷ cells) zero id begun tells one =
    let same : j ≡ id = omega arith in
    let named = (begun 0 j refl).same ∙ same in
    let none : (k : ℕ) → slice_index cells k ≢ suc id = λ k e. let zeroth = one (suc k) e in omega arith in
    sym (all_but_same id _ _ (C.eq-eqb (slot_of slots j).id id named)
    ∙ all_but_absent id _ (differ (p + g) g slots cells id none (begun_rest p g (suc j) slots cells begun)))
blocks_in-clear p g slots (suc j ∷ cells) (suc u) id begun tells one =
    let ne : (slot_of slots j).id ≢ id = λ h. let same : j ≡ id = sym (begun 0 j refl).same ∙ h in let zeroth = one 0 (ap suc same) in omega arith in
    ap (λ cs. slot_of slots j ∷ cs) (blocks_in-clear (p + g) g slots cells u id (begun_rest p g (suc j) slots cells begun) tells (λ k e. let same = one (suc k) e in omega arith))
    ∙ sym (all_but_other id _ _ (C.ne_eqb (slot_of slots j).id id ne))

-- the block of an id with a cell, and of one without
pub told_with : (p g : ℕ) (slots : List Block) (cells : List ℕ) (k id : ℕ) → AreBegun p g slots cells → slice_index cells k ≡ suc id → block_with (blocks_in slots cells) id ≡ Some (slot_of slots id)
told_with p g slots [] k id begun tells = absurd (omega arith)
told_with p g slots (zero ∷ cells) zero id begun tells = absurd (omega arith)
told_with p g slots (zero ∷ cells) (suc k) id begun tells = told_with (p + g) g slots cells k id (begun_rest p g 0 slots cells begun) tells
told_with p g slots (suc j ∷ cells) zero id begun tells =
    let e : j ≡ id = omega arith in
    with_same id _ _ (C.eq-eqb (slot_of slots j).id id ((begun 0 j refl).same ∙ e)) ∙ ap (λ i. Some (slot_of slots i)) e
told_with p g slots (suc j ∷ cells) (suc k) id begun tells = elim (C.eqb_tells (slot_of slots j).id id) [
  | inl same ↦ with_same id _ _ same.0 ∙ ap (λ i. Some (slot_of slots i)) (sym (begun 0 j refl).same ∙ same.1)
  | inr other ↦ with_other id _ _ other.0 ∙ told_with (p + g) g slots cells k id (begun_rest p g (suc j) slots cells begun) tells
]

pub told_none : (p g : ℕ) (slots : List Block) (cells : List ℕ) (id : ℕ) → AreBegun p g slots cells → ((k : ℕ) → slice_index cells k ≢ suc id) → block_with (blocks_in slots cells) id ≡ None
told_none p g slots cells id begun none = with_none id _ (differ p g slots cells id none begun)

-- an id's block has a cell
pub with_cell : (p g : ℕ) (slots : List Block) (cells : List ℕ) (id : ℕ) (x : Block) → AreBegun p g slots cells → block_with (blocks_in slots cells) id ≡ Some x → (k : ℕ) × (slice_index cells k ≡ suc id) × (slot_of slots id ≡ x)
with_cell p g slots [] id x begun e = absurd (false≢true (ap C.is_some e))
with_cell p g slots (zero ∷ cells) id x begun e = let r = with_cell (p + g) g slots cells id x (begun_rest p g 0 slots cells begun) e in (suc r.0, r.1, r.2)
with_cell p g slots (suc j ∷ cells) id x begun e = elim (C.eqb_tells (slot_of slots j).id id) [
  | inl same ↦
      let here = sym (begun 0 j refl).same ∙ same.1 in
      let f : Some (slot_of slots j) ≡ Some x = sym (with_same id _ _ same.0) ∙ e in let h : slot_of slots j ≡ x = cc in
      (0, ap suc here, ap (slot_of slots) (sym here) ∙ h)
  | inr other ↦
      let r = with_cell (p + g) g slots cells id x (begun_rest p g (suc j) slots cells begun) (sym (with_other id _ _ other.0) ∙ e) in
      (suc r.0, r.1, r.2)
]
