-- The first resource of a type and an id.
use Rattle.w16_ne.proofs
use Rattle.std.specs.{Prelude.position, Option.option_or, List.position_from}
use Rattle.std.proofs.{lemmas.Iterator.Adapters.position_from-zero, lemmas.Bool.and_right}
use proofs.Common.{◌≡◌, ◌<◌, ◌≤◌, ◌-◌, ℕ, suc, ◌+◌, ◌&&◌, Bool, true, false, cond, List, [], ◌∷◌, ◌++◌, length, map, take, drop, get_or, Option, Some, None, option_map, refl, sym, ap, ◌∙◌, arith, add-one, length-drop, drop-cons, drop-drop, Row, Group, Label, entry_in, label_in, grouped}
use proofs.Common.{total, listed_resources}
use proofs.Places.{cut, total_is}
use Rattle.w16_ne.specs.Resources.{Entry, is_label}

module _ {X : Type 0} (p : X → Bool) where
  later : (xs : List X) (i n : ℕ) → position_from p (n + i) xs ≡ option_map (λ j. n + j) (position_from p i xs)
  later [] i n = refl
  later (x ∷ xs) i n =
      let next : n + i + 1 ≡ n + (i + 1) = omega arith in
      elim (p x) as (λ b. cond b (Some (n + i)) (position_from p (n + i + 1) xs) ≡ option_map (λ j. n + j) (cond b (Some i) (position_from p (i + 1) xs))) [
        | true ↦ refl
        | false ↦ rw next (later xs (i + 1) n)
      ]

  moved : (xs : List X) (n : ℕ) → position_from p n xs ≡ option_map (λ j. n + j) (position p xs)
  moved xs n =
      let none : n + 0 ≡ n = omega arith in
      ap (λ i. position_from p i xs) (sym none) ∙ later xs 0 n ∙ ap (option_map (λ j. n + j)) (sym (position_from-zero p xs))

  none_from : (b : Bool) → b ≡ false → (xs : List X) (i : ℕ) → position_from (λ x. p x && b) i xs ≡ None
  none_from b e [] i = refl
  none_from b e (x ∷ xs) i = rw (and_right (p x) b e) (none_from b e xs (i + 1))

  pub nowhere : (b : Bool) → b ≡ false → (xs : List X) → position (λ x. p x && b) xs ≡ None
  nowhere b e xs = position_from-zero (λ x. p x && b) xs ∙ none_from b e xs 0

module _ (texts : List ℕ) (shift : ℕ) (kind id : Label) where
  abbrev pub is_wanted : Label × Entry → Bool
  is_wanted r = is_label r.1.id id && is_label r.0 kind

  abbrev pub is_row : Label → Row → Bool
  is_row l r = is_label (label_in texts r.id) id && is_label l kind

  abbrev rows_of : Label → List Row → List (Label × Entry)
  rows_of l xs = map (λ (e : Entry). (l, e)) (map (entry_in texts shift) xs)

  front : (l : Label) (xs : List Row) (ys : List (Label × Entry)) (i : ℕ)
      → position_from is_wanted i (rows_of l xs ++ ys) ≡ option_or (position_from (is_row l) i xs) (position_from is_wanted (i + length xs) ys)
  front l [] ys i = let none : i + 0 ≡ i = omega arith in rw none refl
  front l (x ∷ xs) ys i =
      let next : i + suc (length xs) ≡ i + 1 + length xs = omega arith in
      elim (is_row l x) as (λ b. cond b (Some i) (position_from is_wanted (i + 1) (rows_of l xs ++ ys)) ≡ option_or (cond b (Some i) (position_from (is_row l) (i + 1) xs)) (position_from is_wanted (i + suc (length xs)) ys)) [
        | true ↦ refl
        | false ↦ rw next (front l xs ys (i + 1))
      ]

  -- it is in the first block, or behind
  pub at_block : (g : Group) (gs : List Group) (rows : List Row) (i : ℕ) → total (g ∷ gs) ≡ length rows → position_from is_wanted i (listed_resources (grouped texts shift (g ∷ gs) rows))
      ≡ option_or (option_map (λ j. i + j) (position (is_row (label_in texts g.kind)) (take g.count rows))) (position_from is_wanted (i + g.count) (listed_resources (grouped texts shift gs (drop g.count rows))))
  at_block g gs rows i e =
      let l = label_in texts g.kind in
      let rest = listed_resources (grouped texts shift gs (drop g.count rows)) in
      front l (take g.count rows) rest i
      ∙ ap (λ n. option_or (position_from (is_row l) i (take g.count rows)) (position_from is_wanted (i + n) rest)) (cut g gs rows e)
      ∙ ap (λ o. option_or o (position_from is_wanted (i + g.count) rest)) (moved (is_row l) (take g.count rows) i)

  pub at_index : (groups : List Group) (rows : List Row) (k start n : ℕ) (d : Group) (o : Option ℕ) → k < length groups → total (drop k groups) ≡ length (drop start rows) → n ≡ (get_or groups k d).count
      → o ≡ position (is_row (label_in texts (get_or groups k d).kind)) (take (start + n - start) (drop start rows))
      → position_from is_wanted start (listed_resources (grouped texts shift (drop k groups) (drop start rows)))
      ≡ option_or (option_map (λ j. start + j) o) (position_from is_wanted (start + n) (listed_resources (grouped texts shift (drop (k + 1) groups) (drop (start + n) rows))))
  at_index groups rows k start n d o lt e count here =
      let g = get_or groups k d in
      let rest = drop (k + 1) groups in
      let cons : drop k groups ≡ g ∷ rest = rw add-one (drop-cons groups k d lt) in
      let long : start + n - start ≡ g.count = omega arith in
      let one = at_block g rest (drop start rows) start (ap total (sym cons) ∙ e) in
      let there = rw long at here in
      ap (λ gs. position_from is_wanted start (listed_resources (grouped texts shift gs (drop start rows)))) cons ∙ rw (there, count, ← drop-drop g.count start rows) one

-- what is left behind a block
pub behind : (groups : List Group) (rows : List Row) (k start n : ℕ) (d : Group) → k < length groups → start ≤ length rows → total (drop k groups) ≡ length (drop start rows) → n ≡ (get_or groups k d).count
    → (start + n ≤ length rows) × (total (drop (k + 1) groups) ≡ length (drop (start + n) rows))
behind groups rows k start n d lt le e count =
    let g = get_or groups k d in
    let rest = drop (k + 1) groups in
    let cons : drop k groups ≡ g ∷ rest = rw add-one (drop-cons groups k d lt) in
    let sum = ap total cons ∙ total_is g rest in
    let old = length-drop start rows in
    let new = length-drop (start + n) rows in
    (omega arith, omega arith)
