-- The finite map of a list of loads by slot.
use Rattle.w16_resource.proofs.Common as C
use Rattle.w16_resource.proofs.Common.{Less, List, Load, None, Option, Some, [], ap, arith, by_id, cases_eq, drop, get_or, inl, inr, length, load_in, loads_in, nat_cmp}
use Rattle.w16_resource.proofs.Common.{option_map, put, refl, same_values, set, sym, ℕ, ◌+◌, ◌<◌, ◌∙◌, ◌∷◌, ◌≡◌, ◌≤◌}
use Rattle.std.specs.FinMap as finmap
use Rattle.w16_loading.specs.Modules as loading

pub load_at : (es : List (Option Load)) (slot : ℕ) → finmap.get (loads_in es) slot ≡ option_map load_in (get_or es slot None)
load_at es slot = C.get-by_id (λ _ l. load_in l) es slot

pub same_loads : (es fs : List (Option Load)) → ((q : ℕ) → get_or es q None ≡ get_or fs q None) → loads_in es ≡ loads_in fs
same_loads es fs same = same_values (loads_in es) (loads_in fs) (λ q. load_at es q ∙ ap (option_map load_in) (same q) ∙ sym (load_at fs q))

pub load_put : (es : List (Option Load)) (slot : ℕ) (l : Load) → slot < length es → loads_in (set es slot (Some l)) ≡ finmap.insert (loads_in es) slot (load_in l)
load_put es slot l lt = same_values (loads_in (set es slot (Some l))) (finmap.insert (loads_in es) slot (load_in l)) (λ q. elim (cases_eq q slot) [
  | inl e ↦ load_at (set es slot (Some l)) q ∙ ap (λ k. option_map load_in (get_or (set es slot (Some l)) k None)) e
      ∙ ap (option_map load_in) (C.get_or-set_same es slot (Some l) None lt) ∙ sym (C.inserted_here (loads_in es) slot (load_in l) q e)
  | inr d ↦ load_at (set es slot (Some l)) q ∙ ap (option_map load_in) (C.get_or-set_other es slot q (Some l) None d) ∙ sym (load_at es q) ∙ sym (C.inserted_other (loads_in es) slot (load_in l) q d)
])

pub load_removed : (es : List (Option Load)) (slot : ℕ) → slot < length es → loads_in (set es slot None) ≡ finmap.remove (loads_in es) slot
load_removed es slot lt = same_values (loads_in (set es slot None)) (finmap.remove (loads_in es) slot) (λ q. elim (cases_eq q slot) [
  | inl e ↦ load_at (set es slot None) q ∙ ap (λ k. option_map load_in (get_or (set es slot None) k None)) e
      ∙ ap (option_map load_in) (C.get_or-set_same es slot None None lt) ∙ sym (C.taken_here (loads_in es) slot q e)
  | inr d ↦ load_at (set es slot None) q ∙ ap (option_map load_in) (C.get_or-set_other es slot q None None d) ∙ sym (load_at es q) ∙ sym (C.taken_other (loads_in es) slot q d)
])

-- after the list there is none
pub none_behind : (es : List (Option Load)) (slot : ℕ) → length es ≤ slot → finmap.get (loads_in es) slot ≡ None
none_behind es slot le = load_at es slot ∙ ap (option_map load_in) (C.get_or_past es slot None le)

pub none_removed : (m : C.FinMap nat_cmp loading.Load) (slot : ℕ) → finmap.get m slot ≡ None → m ≡ finmap.remove m slot
none_removed m slot none = same_values m (finmap.remove m slot) (λ q. elim (cases_eq q slot) [
  | inl e ↦ ap (finmap.get m) e ∙ none ∙ sym (C.taken_here m slot q e)
  | inr d ↦ sym (C.taken_other m slot q d)
])

-- The entries of the map are those of the list, in its order.
abbrev pub listed_from : ℕ → List (Option Load) → List (ℕ × loading.Load)
listed_from i es = by_id (λ _ l. load_in l) i (drop i es)

before_all : (id j : ℕ) (x : loading.Load) (es : List (Option Load)) → id < j → put nat_cmp id x (by_id (λ _ l. load_in l) j es) ≡ (id, x) ∷ by_id (λ _ l. load_in l) j es
before_all id j x [] lt = refl
before_all id j x (None ∷ es) lt = before_all id (j + 1) x es (omega arith)
before_all id j x (Some e ∷ es) lt =
    let rest = by_id (λ _ l. load_in l) (j + 1) es in
    ap (λ o. C.by_order o ((id, x) ∷ (j, load_in e) ∷ rest) ((j, x) ∷ rest) ((j, load_in e) ∷ put nat_cmp id x rest)) (sym (C.nat_cmp_is id j Less lt))

no_entries : (es : List (ℕ × loading.Load)) → length es ≡ 0 → es ≡ []
no_entries [] e = refl
no_entries (x ∷ xs) e = absurd (omega arith)

entries_from : (id : ℕ) (es : List (Option Load)) → finmap.entries (finmap.from_entries {R = nat_cmp} (by_id (λ _ l. load_in l) id es)) ≡ by_id (λ _ l. load_in l) id es
entries_from id [] = no_entries (finmap.entries finmap.empty) (sym (C.len-entries finmap.empty) ∙ C.len-empty nat_cmp loading.Load)
entries_from id (None ∷ es) = entries_from (id + 1) es
entries_from id (Some e ∷ es) = C.entries-insert C.nat_cmp_total (finmap.from_entries (by_id (λ _ l. load_in l) (id + 1) es)) id (load_in e)
    ∙ ap (put nat_cmp id (load_in e)) (entries_from (id + 1) es) ∙ before_all id (id + 1) (load_in e) es (omega arith)

pub entries_are : (es : List (Option Load)) → finmap.entries (loads_in es) ≡ C.listed es
entries_are es = entries_from 0 es
