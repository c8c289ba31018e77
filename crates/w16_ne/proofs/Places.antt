-- Rows of blocks: how many they are, their places, and the one of a place.
use Rattle.w16_ne.proofs
use proofs.Common as C
use proofs.Common.{◌≡◌, ℕ, zero, suc, ◌-◌, ◌+◌, ◌≤◌, ◌<◌, true, false, cond, ltb, List, [], ◌∷◌, ◌++◌, length, map, take, drop, get_or, Option, Some, None, Ok, Err, All, slice_get, refl, sym, ap, subst, ◌∙◌, arith, length-drop, nat_tests, length-map, Row, Group, Rows, Reading, ◌>>=◌}
use proofs.Common.{Label, Typed, filled, is_placed, are_placed, HasLabel, label_in, entry_in, grouped, total, kind_at, AreAdded, listed_resources}
use Rattle.w16_ne.specs.{Resources.Entry, Rows.AreEntries}

abbrev count_of : Group → ℕ
count_of g = g.count

abbrev many : Typed → ℕ
many t = length t.1

pub total_is : (g : Group) (gs : List Group) → total (g ∷ gs) ≡ g.count + total gs
total_is g gs = C.sum_by-cons count_of g gs

-- the rows that are left behind a block's
module _ (g : Group) (gs : List Group) (rows : List Row) (e : total (g ∷ gs) ≡ length rows) where
  pub fits : g.count ≤ length rows
  fits = omega (arith, e, total_is g gs)

  pub left : total gs ≡ length (drop g.count rows)
  left = omega (arith, e, total_is g gs, length-drop g.count rows)

  pub cut : length (take g.count rows) ≡ g.count
  cut = let fit = fits in omega (arith, fit, C.length-take g.count rows)

module _ (texts : List ℕ) (shift : ℕ) where
  abbrev entry : Row → Entry
  entry r = entry_in texts shift r

  pub count_grouped : (gs : List Group) (rows : List Row) → total gs ≡ length rows → C.resource_count (grouped texts shift gs rows) ≡ length rows
  count_grouped [] rows e = e
  count_grouped (g ∷ gs) rows e =
      let rest = count_grouped gs (drop g.count rows) (left g gs rows e) in
      let first : length (map entry (take g.count rows)) ≡ g.count = length-map (take g.count rows) entry ∙ cut g gs rows e in
      let sum = C.sum_by-cons many (label_in texts g.kind, map entry (take g.count rows)) (grouped texts shift gs (drop g.count rows)) in
      omega (arith, rest, first, sum, fits g gs rows e, length-drop g.count rows)

  again : (file : Option (List ℕ)) (unit : ℕ) (r : Reading (Unit {0})) (xs ys : List Entry) → are_placed file unit (xs ++ ys) ≡ (are_placed file unit xs >>= λ _. are_placed file unit ys)
      → (r >>= λ _. are_placed file unit (xs ++ ys)) ≡ ((r >>= λ _. are_placed file unit xs) >>= λ _. are_placed file unit ys)
  again file unit (Ok u) xs ys h = h
  again file unit (Err e) xs ys h = refl

  placed_append : (file : Option (List ℕ)) (unit : ℕ) (xs ys : List Entry) → are_placed file unit (xs ++ ys) ≡ (are_placed file unit xs >>= λ _. are_placed file unit ys)
  placed_append file unit [] ys = refl
  placed_append file unit (x ∷ xs) ys = again file unit (is_placed file unit x) xs ys (placed_append file unit xs ys)

  pub placed_grouped : (file : Option (List ℕ)) (unit : ℕ) (gs : List Group) (rows : List Row) → total gs ≡ length rows
      → C.are_all_placed file unit (grouped texts shift gs rows) ≡ are_placed file unit (map entry rows)
  placed_grouped file unit [] [] e = refl
  placed_grouped file unit [] (r ∷ rs) e = absurd (omega (arith, e))
  placed_grouped file unit (g ∷ gs) rows e =
      let front = take g.count rows in
      let back = drop g.count rows in
      ap (λ (rest : Reading (Unit {0})). are_placed file unit (map entry front) >>= λ _. rest) (placed_grouped file unit gs back (left g gs rows e))
      ∙ sym (placed_append file unit (map entry front) (map entry back))
      ∙ ap (are_placed file unit) (sym (C.map-append entry front back) ∙ ap (map entry) (C.take-append-drop g.count rows))

  at_front : (l : Label) (xs : List Row) (ys : List (Label × Entry)) (i : ℕ) (r : Row) → i < length xs → slice_get (map (λ (e : Entry). (l, e)) (map entry xs) ++ ys) i ≡ Some (l, entry (get_or xs i r))
  at_front l [] ys i r lt = absurd (omega arith)
  at_front l (x ∷ xs) ys zero r lt = refl
  at_front l (x ∷ xs) ys (suc i) r lt = at_front l xs ys i r (omega arith)

  at_back : {X : Type 0} (xs ys : List X) (i : ℕ) → length xs ≤ i → slice_get (xs ++ ys) i ≡ slice_get ys (i - length xs)
  at_back [] ys i le = let e : i - 0 ≡ i = omega arith in rw e refl
  at_back (x ∷ xs) ys zero le = absurd (omega arith)
  at_back (x ∷ xs) ys (suc i) le = let e : suc i - suc (length xs) ≡ i - length xs = omega arith in rw e (at_back xs ys i (omega arith))

  in_front : (n : ℕ) (xs : List Row) (i : ℕ) (d : Row) → i < n → get_or (take n xs) i d ≡ get_or xs i d
  in_front zero xs i d lt = absurd (omega arith)
  in_front (suc n) [] i d lt = refl
  in_front (suc n) (x ∷ xs) zero d lt = refl
  in_front (suc n) (x ∷ xs) (suc i) d lt = in_front n xs i d (omega arith)

  behind : (n : ℕ) (xs : List Row) (i : ℕ) (d : Row) → n ≤ i → get_or (drop n xs) (i - n) d ≡ get_or xs i d
  behind zero xs i d le = let e : i - 0 ≡ i = omega arith in rw e refl
  behind (suc n) [] i d le = refl
  behind (suc n) (x ∷ xs) zero d le = absurd (omega arith)
  behind (suc n) (x ∷ xs) (suc i) d le = let e : suc i - suc n ≡ i - n = omega arith in rw e (behind n xs i d (omega arith))

  past : (g : Group) (gs : List Group) (rows : List Row) (i : ℕ) → total (g ∷ gs) ≡ length rows → g.count ≤ i
      → slice_get (listed_resources (grouped texts shift (g ∷ gs) rows)) i ≡ slice_get (listed_resources (grouped texts shift gs (drop g.count rows))) (i - g.count)
  past g gs rows i e le =
      let l = label_in texts g.kind in
      let first = map (λ (x : Entry). (l, x)) (map entry (take g.count rows)) in
      let long : length first ≡ g.count = length-map (map entry (take g.count rows)) (λ (x : Entry). (l, x)) ∙ length-map (take g.count rows) entry ∙ cut g gs rows e in
      at_back first (listed_resources (grouped texts shift gs (drop g.count rows))) i (omega (arith, long, le)) ∙ ap (λ n. slice_get (listed_resources (grouped texts shift gs (drop g.count rows))) (i - n)) long

  pub found_grouped : (gs : List Group) (rows : List Row) (i : ℕ) (d : Row) → total gs ≡ length rows → i < length rows
      → slice_get (listed_resources (grouped texts shift gs rows)) i ≡ Some (label_in texts (kind_at gs i), entry (get_or rows i d))
  found_grouped [] rows i d e lt = absurd (omega (arith, e))
  found_grouped (g ∷ gs) rows i d e lt = elim (ltb i g.count) as (λ b. ltb i g.count ≡ b → slice_get (listed_resources (grouped texts shift (g ∷ gs) rows)) i ≡ Some (label_in texts (cond b g.kind (kind_at gs (i - g.count))), entry (get_or rows i d))) [
    | true ↦ λ q. (let inside : i < g.count = grind (arith, nat_tests, q) in
        at_front (label_in texts g.kind) (take g.count rows) (listed_resources (grouped texts shift gs (drop g.count rows))) i d (omega (arith, inside, cut g gs rows e))
        ∙ ap (λ r. Some (label_in texts g.kind, entry r)) (in_front g.count rows i d inside))
    | false ↦ λ q. (let le : g.count ≤ i = grind (arith, nat_tests, q) in
        past g gs rows i e le ∙ found_grouped gs (drop g.count rows) (i - g.count) d (left g gs rows e) (omega (arith, le, lt, length-drop g.count rows))
        ∙ ap (λ r. Some (label_in texts (kind_at gs (i - g.count)), entry r)) (behind g.count rows i d le))
  ] refl

  pub none_grouped : (gs : List Group) (rows : List Row) (i : ℕ) → total gs ≡ length rows → length rows ≤ i → slice_get (listed_resources (grouped texts shift gs rows)) i ≡ None
  none_grouped [] rows i e le = refl
  none_grouped (g ∷ gs) rows i e le =
      let fit = fits g gs rows e in
      past g gs rows i e (omega arith) ∙ none_grouped gs (drop g.count rows) (i - g.count) (left g gs rows e) (omega (arith, le, length-drop g.count rows))

  -- a block more, with its rows
  pub grouped_push : (gs : List Group) (rows : List Row) (g : Group) (new : List Row) → total gs ≡ length rows → length new ≡ g.count
      → grouped texts shift (gs ++ g ∷ []) (rows ++ new) ≡ grouped texts shift gs rows ++ (label_in texts g.kind, map entry new) ∷ []
  grouped_push [] [] g new e long = ap (λ rs. (label_in texts g.kind, map entry rs) ∷ []) (C.take_all g.count new (omega (arith, long)))
  grouped_push [] (r ∷ rs) g new e long = absurd (omega (arith, e))
  grouped_push (h ∷ gs) rows g new e long =
      let fit = fits h gs rows e in
      let front = C.take-append-le h.count rows new fit in
      let back = C.drop-append-le h.count rows new fit in
      let rest = grouped_push gs (drop h.count rows) g new (left h gs rows e) long in
      rw (front, back, rest) refl

pub kind_there : (texts : List ℕ) (gs : List Group) (i : ℕ) → C.AllByRecursion (λ g. HasLabel texts g.kind) gs → i < total gs → HasLabel texts (kind_at gs i)
kind_there texts [] i all lt = absurd (omega arith)
kind_there texts (g ∷ gs) i all lt = elim (ltb i g.count) as (λ b. ltb i g.count ≡ b → HasLabel texts (cond b g.kind (kind_at gs (i - g.count)))) [
  | true ↦ λ q. all.0
  | false ↦ λ q. (let le : g.count ≤ i = grind (arith, nat_tests, q) in kind_there texts gs (i - g.count) all.1 (omega (arith, le, lt, total_is g gs)))
] refl

pub filled_some : (l : Label) (es : List Entry) → 0 < length es → filled ((l, es) ∷ []) ≡ (l, es) ∷ []
filled_some l es some = let yes : C.nat_lt 0 (length es) ≡ true = grind (arith, nat_tests, some) in rw yes refl

pub filled_none : (l : Label) (es : List Entry) → length es ≡ 0 → filled ((l, es) ∷ []) ≡ []
filled_none l es none = let no : C.nat_lt 0 (length es) ≡ false = grind (arith, nat_tests, none) in rw no refl

pub total_push : (gs : List Group) (g : Group) → total (gs ++ g ∷ []) ≡ total gs + g.count
total_push [] g = total_is g [] ∙ omega arith
total_push (h ∷ gs) g = total_is h (gs ++ g ∷ []) ∙ omega (arith, total_push gs g, total_is h gs)

module _ (texts : List ℕ) (shift : ℕ) (gs : List Group) (before after : List Row) (es : List Entry) (e : total gs ≡ length before) (are : AreEntries texts shift before after es) where
  -- the same rows were added and read
  same_rows : (count : ℕ) → (a : AreAdded texts count before after) → es ≡ map (entry_in texts shift) a.rows
  same_rows count a = are.are ∙ ap (map (entry_in texts shift)) (C.append_cancel_left before are.rows a.rows (sym are.added ∙ a.added))

  pub block_added : (g : Group) → 0 < g.count → AreAdded texts g.count before after
      → grouped texts shift (gs ++ g ∷ []) after ≡ grouped texts shift gs before ++ filled ((label_in texts g.kind, es) ∷ [])
  block_added g some a =
      let same = same_rows g.count a in
      let long : length es ≡ g.count = ap length same ∙ length-map a.rows (entry_in texts shift) ∙ a.counted in
      let push = grouped_push texts shift gs before g a.rows e a.counted in
      ap (grouped texts shift (gs ++ g ∷ [])) a.added ∙ push ∙ ap (λ (xs : List Entry). grouped texts shift gs before ++ (label_in texts g.kind, xs) ∷ []) (sym same)
      ∙ ap (λ ts. grouped texts shift gs before ++ ts) (sym (filled_some (label_in texts g.kind) es (omega (arith, long, some))))

  pub nothing_added : (l : Label) (count : ℕ) → count ≡ 0 → AreAdded texts count before after → grouped texts shift gs after ≡ grouped texts shift gs before ++ filled ((l, es) ∷ [])
  nothing_added l count none a =
      let same = same_rows count a in
      let long : length es ≡ 0 = ap length same ∙ length-map a.rows (entry_in texts shift) ∙ a.counted ∙ none in
      let nil : a.rows ≡ [] = no_rows a.rows (a.counted ∙ none) in
      ap (grouped texts shift gs) (a.added ∙ ap (λ rs. before ++ rs) nil ∙ C.append-nil before) ∙ sym (C.append-nil (grouped texts shift gs before))
      ∙ ap (λ ts. grouped texts shift gs before ++ ts) (sym (filled_none l es long))
    where
      no_rows : (rs : List Row) → length rs ≡ 0 → rs ≡ []
      no_rows [] h = refl
      no_rows (r ∷ rs) h = absurd (omega (arith, h))

pub rows_whole : {A : Type 0} (texts : List ℕ) (old new : Rows A) (g : Group) → new.groups.items ≡ old.groups.items ++ g ∷ [] → HasLabel texts g.kind
    → AreAdded texts g.count old.rows.items new.rows.items → C.AreRows texts old → C.AreRows texts new
rows_whole texts old new g groups there a is = record {
  counted = ap total groups ∙ total_push old.groups.items g ∙ omega (arith, is.counted, a.counted, C.length-append old.rows.items a.rows) ∙ sym (ap length a.added);
  ids = subst (All (λ r. HasLabel texts r.id)) (sym a.added) (C.All-append (λ r. HasLabel texts r.id) old.rows.items a.rows is.ids a.ids);
  kinds = subst (All (λ x. HasLabel texts x.kind)) (sym groups) (C.All-push (λ x. HasLabel texts x.kind) old.groups.items g is.kinds there);
}

-- rows are placed one after the other
module _ (file : Option (List ℕ)) (unit shift : ℕ) (texts : List ℕ) (rows : List Row) (i : ℕ) (d : Row) (lt : i < length rows) where
  abbrev placed_from : ℕ → Reading (Unit {0})
  placed_from k = are_placed file unit (map (entry_in texts shift) (drop k rows))

  pub row_goes : is_placed file unit (entry_in texts shift (get_or rows i d)) ≡ Ok tt → placed_from (i + 1) ≡ placed_from i
  row_goes h = rw (C.drop-cons rows i d lt, h, C.add-one) refl

  pub row_stops : (e : C.NeFault) → is_placed file unit (entry_in texts shift (get_or rows i d)) ≡ Err e → placed_from i ≡ Err e
  row_stops e h = rw (C.drop-cons rows i d lt, h) refl
