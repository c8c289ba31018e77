-- The steps of the ways up and down the tree.
use Rattle.w16_tree.proofs.Tree as M
use Rattle.std.proofs.Common.{ℕ, zero, suc, ◌≡◌, ◌<◌, ◌≤◌, ◌+◌, ◌-◌, ◌*◌, ◌/◌, ◌%◌, List, length, Some, arith, refl, ap, ◌∙◌, subst, inl, inr}
use Rattle.std.proofs.lemmas.Bool.{cases_lt}
use Rattle.std.specs.Prelude.{slice_index}
use Rattle.w16_tree.specs.Tree.{row, begin, number, IsUpheld, IsLastLeaf}
use Rattle.w16_tree.proofs.{Tree.HasFirst, Tree.HasLast, Tree.IsBlank, Leaves.row_inside}

module _ (leaves : ℕ) (nodes : List ℕ) (up : IsUpheld leaves (number nodes)) where
  pub first_none : (n height top : ℕ) → begin height 0 ≡ leaves → top ≡ 16 → ((q : ℕ) → 0 ≤ q → q < 0 + top → slice_index nodes q < n) → (p : ℕ) → leaves ≤ p → p < row leaves → slice_index nodes p < n
  first_none n height top wide all none p from to =
      let stop = M.begin_end height leaves wide in
      let r = M.below_nodes leaves (number nodes) up height 0 16 p (omega arith) (omega arith) (omega arith) to in
      let lt = r.2 in let b = none r.0 (omega arith) (omega arith) in let le = r.3 in omega arith

  -- the row below a node above 0 is in the list
  row_below : (i : ℕ) → length nodes % 16 ≡ 0 → i < leaves → 0 < slice_index nodes i → 16 * (i + 1) + 16 ≤ length nodes
  row_below i rows lt some =
      let met = (up i lt).met in let from = met.1 in let to = met.2 in let is = met.3 in
      row_inside nodes (16 * (i + 1)) met.0 rows (omega arith) (omega arith) (omega arith) (omega arith)

  module _ (n height level i : ℕ) (some : 0 < n) (rows : length nodes % 16 ≡ 0) (has : (h : ℕ) → level + h ≡ height → HasFirst leaves (number nodes) n h i) (lt : level < height) where
    here : HasFirst leaves (number nodes) n (suc (height - level - 1)) i
    here = has (suc (height - level - 1)) (omega arith)

    pub first_below : i < leaves
    first_below = let a = M.begin_above (height - level - 1) (row (i + 1)) in let inside = here.inside in omega arith

    pub first_row : 16 * (i + 1) + 16 ≤ length nodes
    first_row = let reach = here.reach in row_below i rows first_below (omega arith)

    pub first_step : (r h : ℕ) → r ≤ 16 → ((p : ℕ) → 16 * (i + 1) ≤ p → p < 16 * (i + 1) + r → slice_index nodes p < n) → (r < 16 → n ≤ slice_index nodes (16 * (i + 1) + r)) → level + 1 + h ≡ height → HasFirst leaves (number nodes) n h (16 * (i + 1) + r)
    first_step r h inside before found e =
        let met = (up i first_below).met in let from = met.1 in let to = met.2 in let is = met.3 in let reach = here.reach in
        let less : r < 16 = elim (cases_lt r 16) [ inl less ↦ less | inr le ↦ let b = before met.0 (omega arith) (omega arith) in absurd (omega arith) ] in
        M.HasFirst-down leaves (number nodes) up n h i (16 * (i + 1) + r) (has (suc h) (omega arith)) (omega arith) (omega arith) (λ p from to. before p (omega arith) to) (found less)

  module _ (end height level i : ℕ) (rows : length nodes % 16 ≡ 0) (has : (h : ℕ) → level + h ≡ height → HasLast leaves (number nodes) end h i) (lt : level < height) where
    there : HasLast leaves (number nodes) end (suc (height - level - 1)) i
    there = has (suc (height - level - 1)) (omega arith)

    pub last_under : i < leaves
    last_under = let a = M.begin_above (height - level - 1) (row (i + 1)) in let inside = there.within in omega arith

    pub last_row : 16 * (i + 1) + 16 ≤ length nodes
    last_row = row_below i rows last_under there.reach

    pub last_step : (r h : ℕ) → r ≤ 16 → (0 < r → 0 < slice_index nodes (16 * (i + 1) + r - 1)) → ((p : ℕ) → 16 * (i + 1) + r ≤ p → p < 16 * (i + 1) + 16 → slice_index nodes p ≡ 0) → level + 1 + h ≡ height → HasLast leaves (number nodes) end h (16 * (i + 1) + r - 1)
    last_step r h inside found behind e =
        let met = (up i last_under).met in let from = met.1 in let to = met.2 in let is = met.3 in let reach = there.reach in
        let some : 0 < r = elim (cases_lt 0 r) [ inl less ↦ less | inr le ↦ let b = behind met.0 (omega arith) (omega arith) in absurd (omega arith) ] in
        M.HasLast-down leaves (number nodes) up end h i (16 * (i + 1) + r - 1) (has (suc h) (omega arith)) (omega arith) (omega arith) (λ p from to. behind p (omega arith) (omega arith)) (found some)

  -- the last leaf below a node that has it is the last
  pub last_whole : (end h i k : ℕ) → HasLast leaves (number nodes) end h i → IsLastLeaf leaves (number nodes) (begin h (i + 1)) (Some k) → IsLastLeaf leaves (number nodes) end (Some k)
  last_whole end h i k has is = let inside = has.inside in let lt = is.0 in
      (omega arith, is.1, λ p from to. elim (cases_lt p (begin h (i + 1))) [ inl less ↦ is.2 p from less | inr le ↦ has.none p le to ])

  -- the first node of a level begins a row
  whole : (g : ℕ) → begin g 0 % 16 ≡ 0
  whole zero = refl
  whole (suc g) = let e = M.begin_row g 0 in omega arith

  module _ (end height : ℕ) (wide : begin height 0 ≡ leaves) (to : end < 16 * leaves + 16) where
    pub side : (h i : ℕ) → IsBlank (number nodes) end height h i → (r : ℕ) → r ≤ i % 16 → 0 < r → 0 < slice_index nodes (i / 16 * 16 + r - 1) → ((p : ℕ) → i / 16 * 16 + r ≤ p → p < i → slice_index nodes p ≡ 0) → HasLast leaves (number nodes) end h (i / 16 * 16 + r - 1)
    side h i blank r inside some found behind =
        let g = height - h in
        let level = blank.level in
        let e : h + g ≡ height = omega arith in
        let from = blank.from g e in let w = whole g in
        let low = M.begin_rising h (begin g 0) (i / 16 * 16) (omega arith) in
        let first : begin h (begin g 0) ≡ leaves = M.begin_sum h g 0 ∙ ap (λ (k : ℕ). begin k 0) e ∙ wide in
        M.HasLast-beside leaves (number nodes) up end height wide (omega arith) h i (i / 16 * 16) (i / 16 * 16 + r - 1) blank (omega arith) (omega arith) (omega arith) (λ p from less. behind p (omega arith) (omega arith)) found

    pub blank_step : (h i : ℕ) → IsBlank (number nodes) end height h i → (r : ℕ) → r ≡ 0 → 16 ≤ i → ((p : ℕ) → i / 16 * 16 + r ≤ p → p < i → slice_index nodes p ≡ 0) → IsBlank (number nodes) end height (h + 1) (i / 16 - 1)
    blank_step h i blank r none from behind =
        let e : suc h ≡ h + 1 = omega arith in
        subst (λ (k : ℕ). IsBlank (number nodes) end height k (i / 16 - 1)) e
        (M.IsBlank-up leaves (number nodes) up end height wide (omega arith) h i (i / 16 - 1) blank from (omega arith) (omega arith) (λ p from less. behind p (omega arith) (omega arith)))
