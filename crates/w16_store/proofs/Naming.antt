-- Names after ASCII upper-casing and lower-casing.
use Rattle.std.proofs.Common.{◌≡◌, ℕ, Bool, true, List, [], ◌∷◌, map, refl, sym, ap, ◌∙◌, arith, Decides}
use Rattle.std.specs.Char.{to_ascii_uppercase, to_ascii_lowercase}
use Rattle.std.proofs.lemmas.Bool.Decides.{nat_tests, same_from_decides}
use Rattle.std.proofs.lemmas.Slice.Eq.{bytes_eq-Decides}
use Rattle.w16_store.specs.Names.{is_named}

upper-lower : (c : ℕ) → to_ascii_uppercase (to_ascii_lowercase c) ≡ to_ascii_uppercase c
upper-lower c = grind (arith, nat_tests)

lower-upper : (c : ℕ) → to_ascii_lowercase (to_ascii_uppercase c) ≡ to_ascii_lowercase c
lower-upper c = grind (arith, nat_tests)

uppers-lowers : (cs : List ℕ) → map to_ascii_uppercase (map to_ascii_lowercase cs) ≡ map to_ascii_uppercase cs
uppers-lowers [] = refl
uppers-lowers (c ∷ cs) = cc (upper-lower c, uppers-lowers cs)

lowers-uppers : (cs : List ℕ) → map to_ascii_lowercase (map to_ascii_uppercase cs) ≡ map to_ascii_lowercase cs
lowers-uppers [] = refl
lowers-uppers (c ∷ cs) = cc (lower-upper c, lowers-uppers cs)

-- two names are one exactly where they are so after upper-casing
pub is_named-Decides : (a b : List ℕ) → Decides (is_named a b) (map to_ascii_uppercase a ≡ map to_ascii_uppercase b)
unfolding is_named
is_named-Decides a b = bytes_eq-Decides (map to_ascii_uppercase a) (map to_ascii_uppercase b)

-- or, as much, after lower-casing
pub named_by_lowers : (r : Bool) (a b : List ℕ) → Decides r (map to_ascii_lowercase a ≡ map to_ascii_lowercase b) → r ≡ is_named a b
named_by_lowers r a b h =
    same_from_decides r (is_named a b) (
      λ t. sym (uppers-lowers a) ∙ ap (λ cs. map to_ascii_uppercase cs) (h.0 t) ∙ uppers-lowers b,
      λ e. h.1 (sym (lowers-uppers a) ∙ ap (λ cs. map to_ascii_lowercase cs) e ∙ lowers-uppers b),
    ) (is_named-Decides a b)

-- what has a name has the names that are equal to it, and no others
pub named_alike : (a b n : List ℕ) → is_named a b ≡ true → is_named a n ≡ is_named b n
named_alike a b n h =
    let e = (is_named-Decides a b).0 h in
    same_from_decides (is_named a n) (is_named b n) (is_named-Decides a n) (λ t. e ∙ (is_named-Decides b n).0 t, λ f. (is_named-Decides b n).1 (sym e ∙ f))

pub named_by : (a b n : List ℕ) → is_named b n ≡ true → is_named a b ≡ is_named a n
named_by a b n h =
    let e = (is_named-Decides b n).0 h in
    same_from_decides (is_named a b) (is_named a n) (is_named-Decides a b) (λ t. (is_named-Decides a n).0 t ∙ sym e, λ f. (is_named-Decides a n).1 (f ∙ e))
