-- Blocks without resources add nothing.
use Rattle.w16_ne.proofs.Common.{◌≡◌, ℕ, ◌+◌, true, List, [], ◌∷◌, length, Option, refl, sym, ap, ◌∙◌, arith, zero-add, nat_lt, nat_tests, sum_by-cons, Reading, ◌>>=◌, Label, Typed, filled, resource_count, are_placed, are_all_placed}
use Rattle.w16_ne.specs.Resources.{Entry}

-- a type without resources is left out, and any other stays
left_out : (k : Label) (ts : List Typed) → filled ((k, []) ∷ ts) ≡ filled ts
left_out k ts = refl

pub stays : (k : Label) (r : Entry) (rs : List Entry) (ts : List Typed) → filled ((k, r ∷ rs) ∷ ts) ≡ (k, r ∷ rs) ∷ filled ts
stays k r rs ts = let some : nat_lt 0 (length (r ∷ rs)) ≡ true = grind (arith, nat_tests) in rw some refl

abbrev many : Typed → ℕ
many t = length t.1

pub count_filled : (ts : List Typed) → resource_count (filled ts) ≡ resource_count ts
count_filled [] = refl
count_filled ((k, []) ∷ ts) = ap resource_count (left_out k ts) ∙ count_filled ts ∙ sym (sum_by-cons many (k, []) ts ∙ zero-add (resource_count ts))
count_filled ((k, r ∷ rs) ∷ ts) = ap resource_count (stays k r rs ts) ∙ sum_by-cons many (k, r ∷ rs) (filled ts) ∙ ap (λ n. length (r ∷ rs) + n) (count_filled ts) ∙ sym (sum_by-cons many (k, r ∷ rs) ts)

pub placed_filled : (file : Option (List ℕ)) (unit : ℕ) (ts : List Typed) → are_all_placed file unit (filled ts) ≡ are_all_placed file unit ts
placed_filled file unit [] = refl
placed_filled file unit ((k, []) ∷ ts) = ap (are_all_placed file unit) (left_out k ts) ∙ placed_filled file unit ts
placed_filled file unit ((k, r ∷ rs) ∷ ts) = ap (are_all_placed file unit) (stays k r rs ts) ∙ ap (λ rest. are_placed file unit (r ∷ rs) >>= λ _. rest) (placed_filled file unit ts)
