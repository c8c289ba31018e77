-- Table and cells where a block is added or taken away.
use Rattle.w16_blocks.proofs
use proofs.Common as C
use proofs.Cells as M
use proofs.Common.{ℕ, zero, suc, ◌≡◌, ◌≢◌, ◌+◌, ◌-◌, ◌*◌, ◌^◌, ◌<◌, ◌≤◌, ◌⊎◌, List, [], ◌∷◌, length, set, Some, None, arith, refl, sym, ap, ◌∙◌, subst, inl, inr, slice_index, cases_lt, false≢true, get_or-set_same, get_or-set_other, length-set, set-set, Block, block_with, above, below}
use proofs.Common.{IsOrdered, Fits, placed, no_block, slot_of, blocks_in, layout_in, Begins, AreTables}
use proofs.Ordered.{IsOrdered-placed, IsOrdered-all_but}

-- one unit is told by where it begins
pub same_unit : (g p k u : ℕ) → 0 < g → p + g * k ≡ p + g * u → k ≡ u
same_unit g p k u some e = elim (cases_lt k u) [
  | inl less ↦ let r = above g k u less in absurd (omega arith)
  | inr le ↦ elim (cases_lt u k) [
    | inl more ↦ let r = above g u k more in absurd (omega arith)
    | inr ge ↦ omega arith
  ]
]

same_or : (a c : ℕ) → (a ≡ c) ⊎ (a ≢ c)
same_or a c = elim (cases_lt a c) [
  | inl less ↦ inr (λ e. omega arith)
  | inr le ↦ elim (cases_lt c a) [ inl more ↦ inr (λ e. omega arith) | inr ge ↦ inl (omega arith) ]
]

none_or_some : (n : ℕ) → (n ≡ 0) ⊎ ((m : ℕ) × (n ≡ suc m))
none_or_some zero = inl refl
none_or_some (suc m) = inr (m, refl)

module _ {cap lo hi g : ℕ} {slots : List Block} {cells : List ℕ} (t : AreTables cap lo hi g slots cells) (long : cap ≡ length slots) where
  -- a block that is added: its cell tells none before, and no cell tells its id
  module _ {b : Block} (u : ℕ) (fits : Fits (layout_in cap lo hi g slots cells) b) (at : b.at ≡ lo + g * u) where
    id_below : b.id < length slots
    id_below = let lt = fits.id in omega arith

    no_cell : (k : ℕ) → slice_index cells k ≢ suc b.id
    no_cell k e = M.each_told (λ c. c.id ≢ b.id) slots cells k b.id e fits.free (t.begun k b.id e).same

    cell_clear : slice_index cells u ≡ 0
    cell_clear = elim (none_or_some (slice_index cells u)) [
      | inl none ↦ none
      | inr some ↦
          let begins = t.begun u some.0 some.1 in
          let there = begins.at in let size = begins.some in let own = fits.inside.1 in
          elim (M.each_told (C.IsApart b) slots cells u some.0 some.1 fits.apart) [ inl before ↦ absurd (omega arith) | inr behind ↦ absurd (omega arith) ]
    ]

    pub unit_below : u < length cells
    unit_below = let own = fits.inside.1 in let end = fits.inside.2 in let many = t.long in below g u (length cells) (omega arith)

    slot_new : slot_of (set slots b.id b) b.id ≡ b
    slot_new = get_or-set_same slots b.id b no_block id_below

    slot_old : (id : ℕ) → id ≢ b.id → slot_of (set slots b.id b) id ≡ slot_of slots id
    slot_old id ne = get_or-set_other slots b.id id b no_block ne

    begins_old : (k id : ℕ) → id ≢ b.id → Begins lo g slots k id → Begins lo g (set slots b.id b) k id
    begins_old k id ne old =
        let size = length-set slots b.id b in
        record {
          inside = let lt = old.inside in omega arith;
          same = ap (λ (c : Block). c.id) (slot_old id ne) ∙ old.same;
          at = ap (λ (c : Block). c.at) (slot_old id ne) ∙ old.at;
          some = subst (λ (c : Block). 0 < c.size) (sym (slot_old id ne)) old.some;
        }

    begun_old : C.AreBegun lo g (set slots b.id b) cells
    begun_old k id e = begins_old k id (λ same. no_cell k (e ∙ ap suc same)) (t.begun k id e)

    pub blocks_in-add : blocks_in (set slots b.id b) (set cells u (suc b.id)) ≡ placed b (blocks_in slots cells)
    blocks_in-add =
        M.blocks_in-begin lo g (set slots b.id b) cells u b.id t.some begun_old unit_below cell_clear (ap (λ (c : Block). c.at) slot_new ∙ at)
        ∙ ap (λ (c : Block). placed c (blocks_in (set slots b.id b) cells)) slot_new ∙ ap (placed b) (M.blocks_in-set slots cells b.id b no_cell)

    begun_add : C.AreBegun lo g (set slots b.id b) (set cells u (suc b.id))
    begun_add k id e = elim (same_or k u) [
      | inl here ↦
          let told : suc b.id ≡ suc id = sym (get_or-set_same cells u (suc b.id) 0 unit_below) ∙ ap (slice_index (set cells u (suc b.id))) (sym here) ∙ e in
          let same : b.id ≡ id = omega arith in
          subst (λ (i : ℕ). Begins lo g (set slots b.id b) k i) same (let size = length-set slots b.id b in record {
            inside = let lt = id_below in omega arith;
            same = ap (λ (c : Block). c.id) slot_new;
            at = ap (λ (c : Block). c.at) slot_new ∙ at ∙ ap (λ (n : ℕ). lo + g * n) (sym here);
            some = subst (λ (c : Block). 0 < c.size) (sym slot_new) fits.inside.1;
          })
      | inr ne ↦ begun_old k id (sym (get_or-set_other cells u k (suc b.id) 0 ne) ∙ e)
    ]

    pub AreTables-add : AreTables cap lo hi g (set slots b.id b) (set cells u (suc b.id))
    AreTables-add = record {
      some = t.some;
      ids = t.ids;
      long = let many = t.long in subst (λ (n : ℕ). hi - lo < g * n) (sym (length-set cells u (suc b.id))) many;
      ordered = subst (λ (bs : List Block). IsOrdered (record { cap = cap; lo = lo; hi = hi; grain = g; blocks = bs })) (sym blocks_in-add) (IsOrdered-placed (layout_in cap lo hi g slots cells) b t.ids fits t.ordered);
      begun = begun_add;
      found = λ id has. elim (same_or id b.id) [
        | inl same ↦ (u, get_or-set_same cells u (suc b.id) 0 unit_below ∙ ap suc (sym same))
        | inr ne ↦
            let old = t.found id (subst (λ (c : Block). 0 < c.size) (slot_old id ne) has) in
            let apart : old.0 ≢ u = λ e. let clear = cell_clear in let f : slice_index cells u ≡ suc id = ap (slice_index cells) (sym e) ∙ old.1 in omega arith in
            (old.0, get_or-set_other cells u old.0 (suc b.id) 0 apart ∙ old.1)
      ];
    }

  -- an id's block that is taken away
  module _ {id : ℕ} (u : ℕ) (tells : slice_index cells u ≡ suc id) where
    only_cell : (k : ℕ) → slice_index cells k ≡ suc id → k ≡ u
    only_cell k e = let one = (t.begun k id e).at in let two = (t.begun u id tells).at in same_unit g lo k u t.some (omega arith)

    pub unit_told : u < length cells
    unit_told = elim (cases_lt u (length cells)) [
      | inl less ↦ less
      | inr past ↦ let none = C.get_or_past cells u 0 past in absurd (omega arith)
    ]

    other_cell : (k j : ℕ) → slice_index (set cells u 0) k ≡ suc j → (k ≢ u) × (slice_index cells k ≡ suc j)
    other_cell k j e = elim (same_or k u) [
      | inl here ↦ let none : slice_index (set cells u 0) k ≡ 0 = ap (slice_index (set cells u 0)) here ∙ get_or-set_same cells u 0 0 unit_told in absurd (omega arith)
      | inr ne ↦ (ne, sym (get_or-set_other cells u k 0 0 ne) ∙ e)
    ]

    none_left : (k : ℕ) → slice_index (set cells u 0) k ≢ suc id
    none_left k e = let other = other_cell k id e in other.0 (only_cell k other.1)

    pub blocks_in-drop : blocks_in (set slots id no_block) (set cells u 0) ≡ C.all_but id (blocks_in slots cells)
    blocks_in-drop = M.blocks_in-set slots (set cells u 0) id no_block none_left ∙ M.blocks_in-clear lo g slots cells u id t.begun tells only_cell

    slot_other : (j : ℕ) → j ≢ id → slot_of (set slots id no_block) j ≡ slot_of slots j
    slot_other j ne = get_or-set_other slots id j no_block no_block ne

    pub AreTables-drop : AreTables cap lo hi g (set slots id no_block) (set cells u 0)
    AreTables-drop = record {
      some = t.some;
      ids = t.ids;
      long = let many = t.long in subst (λ (n : ℕ). hi - lo < g * n) (sym (length-set cells u 0)) many;
      ordered = subst (λ (bs : List Block). IsOrdered (record { cap = cap; lo = lo; hi = hi; grain = g; blocks = bs })) (sym blocks_in-drop) (IsOrdered-all_but (layout_in cap lo hi g slots cells) id t.ids t.ordered);
      begun = λ k j e.
          let other = other_cell k j e in let old = t.begun k j other.1 in
          let ne : j ≢ id = λ same. other.0 (only_cell k (other.1 ∙ ap suc same)) in
          let size = length-set slots id no_block in
          record {
            inside = let lt = old.inside in omega arith;
            same = ap (λ (c : Block). c.id) (slot_other j ne) ∙ old.same;
            at = ap (λ (c : Block). c.at) (slot_other j ne) ∙ old.at;
            some = subst (λ (c : Block). 0 < c.size) (sym (slot_other j ne)) old.some;
          };
      found = λ j has. elim (same_or j id) [
        | inl same ↦
            let none : slot_of (set slots id no_block) j ≡ no_block = ap (slot_of (set slots id no_block)) same ∙ get_or-set_same slots id no_block no_block (t.begun u id tells).inside in
            let size = ap (λ (c : Block). c.size) none in absurd (omega arith)
        | inr ne ↦
            let old = t.found j (subst (λ (c : Block). 0 < c.size) (slot_other j ne) has) in
            let apart : old.0 ≢ u = λ e. let f : slice_index cells u ≡ suc j = ap (slice_index cells) (sym e) ∙ old.1 in ne (omega arith) in
            (old.0, get_or-set_other cells u old.0 0 0 apart ∙ old.1)
      ];
    }

  -- what the table has for an id is its block
  module _ {id : ℕ} (lt : id < cap) {x : Block} (read : x ≡ C.get_or slots id x) where
    entry : x ≡ slot_of slots id
    entry = C.get_or_read slots id x (omega arith) read no_block

    pub found_none : x.size ≡ 0 → None ≡ block_with (blocks_in slots cells) id
    found_none none = sym (M.told_none lo g slots cells id t.begun (λ k e. let some = (t.begun k id e).some in let size = ap (λ (c : Block). c.size) entry in omega arith))

    found_cell : x.size ≢ 0 → (k : ℕ) × (slice_index cells k ≡ suc id)
    found_cell some = t.found id (let size = ap (λ (c : Block). c.size) entry in omega arith)

    pub found_some : x.size ≢ 0 → Some x ≡ block_with (blocks_in slots cells) id
    found_some some = let cell = found_cell some in ap Some entry ∙ sym (M.told_with lo g slots cells cell.0 id t.begun cell.1)

    -- an id with a block has one with bytes, and its cell
    some_bytes : C.IsSome (block_with (blocks_in slots cells) id) → x.size ≢ 0
    some_bytes known none = false≢true (ap C.is_some (found_none none) ∙ known)

    pub known_is : C.IsSome (block_with (blocks_in slots cells) id) → block_with (blocks_in slots cells) id ≡ Some x
    known_is known = sym (found_some (some_bytes known))

  -- an id's block begins in the unit whose cell tells it
  pub cell_at : {id : ℕ} {x : Block} (u : ℕ) → block_with (blocks_in slots cells) id ≡ Some x → x.at ≡ lo + g * u → slice_index cells u ≡ suc id
  cell_at {id} {x} u known at =
      let cell = M.with_cell lo g slots cells id x t.begun known in
      let begins = (t.begun cell.0 id cell.1).at in let place = ap (λ (c : Block). c.at) cell.2 in
      ap (slice_index cells) (sym (same_unit g lo cell.0 u t.some (omega arith))) ∙ cell.1

-- a block that comes in place of the one of its id, in another unit or the same
module _ {cap lo hi g : ℕ} {slots : List Block} {cells : List ℕ} (t : AreTables cap lo hi g slots cells) (long : cap ≡ length slots)
    {b : Block} (u v : ℕ) (tells : slice_index cells u ≡ suc b.id) (fits : C.FitsFor (layout_in cap lo hi g slots cells) b) (at : b.at ≡ lo + g * v) where
  long_without : cap ≡ length (set slots b.id no_block)
  long_without = long ∙ sym (length-set slots b.id no_block)

  fits_without : Fits (layout_in cap lo hi g (set slots b.id no_block) (set cells u 0)) b
  fits_without = subst (λ (bs : List Block). Fits (record { cap = cap; lo = lo; hi = hi; grain = g; blocks = bs }) b) (sym (blocks_in-drop t long u tells)) fits

  pub AreTables-move : AreTables cap lo hi g (set slots b.id b) (set (set cells u 0) v (suc b.id))
  AreTables-move = subst (λ (ss : List Block). AreTables cap lo hi g ss (set (set cells u 0) v (suc b.id))) (set-set slots b.id no_block b) (AreTables-add (AreTables-drop t long u tells) long_without v fits_without at)

  pub blocks_in-move : blocks_in (set slots b.id b) (set (set cells u 0) v (suc b.id)) ≡ C.replaced b (blocks_in slots cells)
  blocks_in-move =
      ap (λ (ss : List Block). blocks_in ss (set (set cells u 0) v (suc b.id))) (sym (set-set slots b.id no_block b))
      ∙ blocks_in-add (AreTables-drop t long u tells) long_without v fits_without at ∙ ap (placed b) (blocks_in-drop t long u tells)

-- in the same unit no cell changes
pub same_cells : (cells : List ℕ) (u id : ℕ) → slice_index cells u ≡ suc id → set (set cells u 0) u (suc id) ≡ cells
same_cells cells u id tells = set-set cells u 0 _ ∙ ap (set cells u) (sym tells) ∙ C.set-get_or cells u 0

-- tables that tell no block
pub blocks_in-none : (slots : List Block) (cells : List ℕ) → ((k : ℕ) → slice_index cells k ≡ 0) → blocks_in slots cells ≡ []
blocks_in-none slots [] zeros = refl
blocks_in-none slots (zero ∷ cells) zeros = blocks_in-none slots cells (λ k. zeros (suc k))
blocks_in-none slots (suc id ∷ cells) zeros = let clear = zeros 0 in absurd (omega arith)

module _ {cap lo hi g : ℕ} {slots : List Block} {cells : List ℕ} (tells : (k : ℕ) → slice_index cells k ≡ 0) (none : (id : ℕ) → slot_of slots id ≡ no_block) where
  pub AreTables-none : 0 < g → cap < 2 ^ 32 → hi < 2 ^ 32 → lo ≤ hi → C.IsMultiple g lo → hi - lo < g * length cells → AreTables cap lo hi g slots cells
  AreTables-none some ids small le low long = record {
    some = some;
    ids = ids;
    long = long;
    ordered = subst (λ (bs : List Block). IsOrdered (record { cap = cap; lo = lo; hi = hi; grain = g; blocks = bs })) (sym (blocks_in-none slots cells tells))
        (record { laid = le; named = tt; grained = tt; from = low; small = small; few = omega arith });
    begun = λ k id e. let clear = tells k in absurd (omega arith);
    found = λ id has. let size = ap (λ (c : Block). c.size) (none id) in absurd (omega arith);
  }

-- a list of one item has it everywhere, where that is what it lacks too
pub get_or-replicate_same : {A : Type 0} (n i : ℕ) (a : A) → C.get_or (C.replicate n a) i a ≡ a
get_or-replicate_same zero i a = refl
get_or-replicate_same (suc n) zero a = refl
get_or-replicate_same (suc n) (suc i) a = get_or-replicate_same n i a
