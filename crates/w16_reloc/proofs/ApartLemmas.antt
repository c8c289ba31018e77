-- Sites that lie apart, and the same said of one after another.
use Rattle.w16_reloc.proofs
use proofs.Common as C
use proofs.Common.{◌≡◌, ℕ, ◌+◌, ◌<◌, ◌≤◌, List, [], ◌∷◌, ◌++◌, length, Bool, true, false, cond, refl, arith, All, ◌||◌, list_any, Part, LowByte, Selector, Pointer, Offset, Record, Added, Site, covers, meets, AreSound, Names, of_width, all_sites}
use proofs.{SiteLemmas.none_meets, WalkLemmas.site_apart, WalkLemmas.chain_wide}

abbrev pub AreWide : List Site → Type 0
AreWide sites = C.AllByRecursion (λ s. 0 < s.width) sites

abbrev IsInside : ℕ → Site → Type 0
IsInside len s = s.at + s.width ≤ len

abbrev count : ℕ → List Site → ℕ
count o sites = C.count_by (covers o) sites

count-cons : (o : ℕ) (s : Site) (ss : List Site) → count o (s ∷ ss) ≡ cond (covers o s) 1 0 + count o ss
count-cons o s ss = C.sum_by-cons (λ x. cond (covers o x) 1 0) s ss

one_counts : (n m : ℕ) (lit : Bool) → n ≡ cond lit 1 0 + m → lit ≡ true → n ≡ 1 + m
one_counts n m lit e is = rw is at e

none_counts : (n m : ℕ) (lit : Bool) → n ≡ cond lit 1 0 + m → lit ≡ false → n ≡ m
none_counts n m lit e is = let all = rw is at e in omega (arith, all)

covered_count : (o : ℕ) (s : Site) (ss : List Site) → covers o s ≡ true → count o (s ∷ ss) ≡ 1 + count o ss
covered_count o s ss lit = one_counts (count o (s ∷ ss)) (count o ss) (covers o s) (count-cons o s ss) lit

uncovered_count : (o : ℕ) (s : Site) (ss : List Site) → covers o s ≡ false → count o (s ∷ ss) ≡ count o ss
uncovered_count o s ss off = none_counts (count o (s ∷ ss)) (count o ss) (covers o s) (count-cons o s ss) off

neither : (b r : Bool) (n m : ℕ) → n ≡ cond b 1 0 + m → n ≡ 0 → (m ≡ 0 → r ≡ false) → (b || r) ≡ false
neither true r n m e none h = absurd (omega (arith, e, none))
neither false r n m e none h = h (omega (arith, e, none))

none_counted : (o : ℕ) (sites : List Site) → count o sites ≡ 0 → list_any (covers o) sites ≡ false
none_counted o [] none = refl
none_counted o (s ∷ ss) none = neither (covers o s) (list_any (covers o) ss) _ (count o ss) (count-cons o s ss) none (none_counted o ss)

no_count : (b r : Bool) (n m : ℕ) → n ≡ cond b 1 0 + m → (b || r) ≡ false → (r ≡ false → m ≡ 0) → n ≡ 0
no_count true r n m e clear h = cc
no_count false r n m e clear h = let none = h clear in omega (arith, e, none)

none_covered : (o : ℕ) (sites : List Site) → list_any (covers o) sites ≡ false → count o sites ≡ 0
none_covered o [] clear = refl
none_covered o (s ∷ ss) clear = no_count (covers o s) (list_any (covers o) ss) _ (count o ss) (count-cons o s ss) clear (none_covered o ss)

pub own_byte : (s : Site) (o : ℕ) → s.at ≤ o → o < s.at + s.width → covers o s ≡ true
own_byte s o low high = grind arith

clear_before : (o : ℕ) (s : Site) (before ss : List Site) → count o before + count o (s ∷ ss) ≤ 1 → covers o s ≡ true → list_any (covers o) before ≡ false
clear_before o s before ss most lit =
    let more = covered_count o s ss lit in none_counted o before (omega (arith, more, most))

apart_steps : (len : ℕ) (before sites : List Site) → AreWide before → AreWide sites → All (IsInside len) sites → ((o : ℕ) → count o before + count o sites ≤ 1) → AreSound len before sites
apart_steps len before [] earlier own inside once = tt
apart_steps len before (s ∷ ss) earlier own inside once = (
  C.All-head (IsInside len) s ss inside,
  none_meets before s.at s.width earlier own.0 (λ o low high. clear_before o s before ss (once o) (own_byte s o low high)),
  apart_steps len (s ∷ before) ss (own.0, earlier) own.1 (C.All-tail (IsInside len) s ss inside) (λ o. let most = once o in omega (arith, most, count-cons o s before, count-cons o s ss)),
)

one_more : (before : List Site) (s : Site) (o : ℕ) (r : Bool) → covers o s ≡ r → list_any (meets s) before ≡ false → count o before ≤ 1 → count o (s ∷ before) ≤ 1
one_more before s o true e apart most =
    let low : s.at ≤ o = grind arith in
    let high : o < s.at + s.width = grind arith in
    let none = none_covered o before (site_apart before s.at s.width o apart low high) in
    omega (arith, covered_count o s before e, none)
one_more before s o false e apart most = omega (arith, uncovered_count o s before e, most)

steps_once : (len : ℕ) (before sites : List Site) → AreSound len before sites → ((o : ℕ) → count o before ≤ 1) → (o : ℕ) → count o before + count o sites ≤ 1
steps_once len before [] sound once o = let most = once o in omega (arith, most)
steps_once len before (s ∷ ss) sound once o =
    let rest = steps_once len (s ∷ before) ss sound.2 (λ q. one_more before s q _ refl sound.1 (once q)) o in
    omega (arith, rest, count-cons o s before, count-cons o s ss)

steps_inside : (len : ℕ) (before sites : List Site) → AreSound len before sites → All (IsInside len) sites
steps_inside len before [] sound = C.All-nil (IsInside len)
steps_inside len before (s ∷ ss) sound = C.All-cons (IsInside len) s ss sound.0 (steps_inside len (s ∷ before) ss sound.2)

pub steps_apart : (len : ℕ) (sites : List Site) → AreSound len [] sites → C.AreApart len sites
steps_apart len sites sound = record { inside = steps_inside len [] sites sound; once = λ o. let most = steps_once len [] sites sound (λ q. omega arith) o in omega (arith, most) }

pub value_wide : (part : Part) → 0 < C.value_width part
value_wide LowByte = omega arith
value_wide Selector = omega arith
value_wide Pointer = omega arith
value_wide Offset = omega arith

pub wide_of : (width : ℕ) (ats : List ℕ) → 0 < width → AreWide (of_width width ats)
wide_of width [] some = tt
wide_of width (at ∷ ats) some = (some, wide_of width ats some)

pub wide_append : (ss ts : List Site) → AreWide ss → AreWide ts → AreWide (ss ++ ts)
wide_append [] ts a b = b
wide_append (s ∷ ss) ts a b = (a.0, wide_append ss ts a.1 b)

wide_record : (bytes : List ℕ) (r : Record) (ats : List ℕ) → Names bytes r ats → AreWide (of_width (C.width_of r) ats)
wide_record bytes (C.Stored fixup) ats names = let wide = chain_wide fixup.part in wide_of (C.chain_width fixup.part) ats (omega (arith, wide))
wide_record bytes (Added fixup) ats names = wide_of (C.value_width fixup.part) ats (value_wide fixup.part)
wide_record bytes C.System ats names = rw names tt

pub all_wide : (bytes : List ℕ) (records : List Record) (named : List (List ℕ)) → C.AreNamed bytes records named → AreWide (all_sites records named)
all_wide bytes [] named names = tt
all_wide bytes (r ∷ rs) [] names = tt
all_wide bytes (r ∷ rs) (ats ∷ others) names = wide_append (of_width (C.width_of r) ats) (all_sites rs others) (wide_record bytes r ats names.0) (all_wide bytes rs others names.1)

pub sound_steps : (bytes : List ℕ) (records : List Record) (named : List (List ℕ)) → C.AreNamed bytes records named → C.AreApart (length bytes) (all_sites records named) → AreSound (length bytes) [] (all_sites records named)
sound_steps bytes records named names apart =
    apart_steps (length bytes) [] (all_sites records named) tt (all_wide bytes records named names) apart.inside (λ o. let most = apart.once o in omega (arith, most))
