-- Sites that share bytes, and marks.
use Rattle.w16_reloc.proofs.Common.{◌≡◌, ℕ, ◌+◌, ◌<◌, ◌≤◌, List, [], ◌∷◌, length, Bool, true, false, refl, sym, ◌∙◌, arith, max, get_or, nat_lt, nat_le, ◌&&◌, ◌||◌, list_any, AllByRecursion, Site, covers, meets, AreMarks}

covers_meets : (s : Site) (at width b : ℕ) → covers b s ≡ true → at ≤ b → b < at + width → meets (record { at = at; width = width }) s ≡ true
covers_meets s at width b h low high = grind arith

pub any_meets : (sites : List Site) (at width b : ℕ) → list_any (covers b) sites ≡ true → at ≤ b → b < at + width → list_any (meets (record { at = at; width = width })) sites ≡ true
any_meets [] at width b h low high = cc
any_meets (s ∷ ss) at width b h low high = grind (arith, covers_meets s at width b, any_meets ss at width b)

-- the first byte that two meeting sites share is the later of their first bytes
pub meets_covers : (s : Site) (at width : ℕ) → 0 < width → 0 < s.width → meets (record { at = at; width = width }) s ≡ true → covers (max at s.at) s ≡ true
meets_covers s at width wide s_wide h = grind arith

pub meets_inside : (s : Site) (at width : ℕ) → 0 < width → 0 < s.width → meets (record { at = at; width = width }) s ≡ true → max at s.at < at + width
meets_inside s at width wide s_wide h = grind arith

none_meets_one : (s : Site) (at width : ℕ) (r : Bool) → meets (record { at = at; width = width }) s ≡ r → 0 < width → 0 < s.width → ((b : ℕ) → at ≤ b → b < at + width → covers b s ≡ false) → r ≡ false
none_meets_one s at width false e wide s_wide clear = refl
none_meets_one s at width true e wide s_wide clear =
    let b = max at s.at in
    let yes : covers b s ≡ true = meets_covers s at width wide s_wide e in
    let no : covers b s ≡ false = clear b (omega arith) (meets_inside s at width wide s_wide e) in
    cc

or_left : (x y : Bool) → (x || y) ≡ false → x ≡ false
or_left true y h = h
or_left false y h = refl

or_right : (x y : Bool) → (x || y) ≡ false → y ≡ false
or_right true y h = cc
or_right false y h = h

pub none_meets : (sites : List Site) (at width : ℕ) → AllByRecursion (λ s. 0 < s.width) sites → 0 < width → ((b : ℕ) → at ≤ b → b < at + width → list_any (covers b) sites ≡ false)
    → list_any (meets (record { at = at; width = width })) sites ≡ false
none_meets [] at width all wide clear = refl
none_meets (s ∷ ss) at width all wide clear =
    let one : meets (record { at = at; width = width }) s ≡ false = none_meets_one s at width _ refl wide all.0 (λ b low high. or_left _ _ (clear b low high)) in
    let others : list_any (meets (record { at = at; width = width })) ss ≡ false = none_meets ss at width all.1 wide (λ b low high. or_right _ _ (clear b low high)) in
    rw (one, others) refl

pub marks_taken : (sites : List Site) (marks : List Bool) (at width b : ℕ) → AreMarks sites marks → at ≤ b → b < at + width → b < length marks → get_or marks b false ≡ true
    → list_any (meets (record { at = at; width = width })) sites ≡ true
marks_taken sites marks at width b are low high inside h = any_meets sites at width b (sym (are.marked b inside) ∙ h) low high

pub marks_clear : (sites : List Site) (marks : List Bool) (at width : ℕ) → AreMarks sites marks → 0 < width → at + width ≤ length marks → ((b : ℕ) → at ≤ b → b < at + width → get_or marks b false ≡ false)
    → list_any (meets (record { at = at; width = width })) sites ≡ false
marks_clear sites marks at width are wide inside clear =
    none_meets sites at width are.wide wide (λ b low high. let small : b < length marks = omega arith in sym (are.marked b small) ∙ clear b low high)

or_swap : (x y z : Bool) → x ≡ z → (x || y) ≡ (y || z)
or_swap true true z h = refl
or_swap true false z h = h
or_swap false true z h = refl
or_swap false false z h = h

pub marks_more : (sites : List Site) (marks new : List Bool) (at width : ℕ) → AreMarks sites marks → 0 < width → length new ≡ length marks
    → ((b : ℕ) → get_or new b false ≡ (get_or marks b false || (nat_le at b && nat_lt b (at + width)))) → AreMarks (record { at = at; width = width } ∷ sites) new
marks_more sites marks new at width are wide same each = record {
  wide = (wide, are.wide);
  marked = λ b inside. let small : b < length marks = omega arith in each b ∙ or_swap _ _ _ (are.marked b small);
}
