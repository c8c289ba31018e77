-- Loops that go over things by their numbers.
use Rattle.std.proofs.Common.{◌≡◌, ℕ, zero, suc, ◌+◌, ◌-◌, ◌<◌, ◌≤◌, List, [], ◌∷◌, ◌++◌, length, drop, slice_get, sum_by, Option, Some, None, sym, ◌∙◌, refl, ap, subst, add-one, map, length-append, arith}
use Rattle.std.proofs.lemmas.List.{append_assoc, append-nil, length-map}
use Rattle.std.proofs.{lemmas.Option.slice_get-get_or, lemmas.List.Sums.sum_by-cons, Math.ListN.drop_of_length-le}
use Rattle.w16_ne.specs.{declared.entry_table.Entry.Entry, Modules.entry_at, Modules.listed_resources, Modules.resource_at, Resources.Label, Resources.Typed, Resources.resource_count}
use Rattle.w16_show.specs.Numbered.{numbered}
use Rattle.w16_ne.specs.Resources as resources

-- what is left, with its first item
pub left-from : {X : Type 0} (xs : List X) (i : ℕ) (x : X) → slice_get xs i ≡ Some x → drop i xs ≡ x ∷ drop (suc i) xs
left-from [] i x h = cc
left-from (y ∷ ys) zero x h = let same : y ≡ x = cc in ap (λ z. z ∷ ys) same
left-from (y ∷ ys) (suc i) x h = left-from ys i x h

-- what the next one gives, before the rest
pub numbered-next : {X Y : Type 0} (gives : ℕ → X → List Y) (n : ℕ) (xs : List X) (i : ℕ) (x : X) → slice_get xs i ≡ Some x → numbered gives n (drop i xs) ≡ gives n x ++ numbered gives (n + 1) (drop (i + 1) xs)
numbered-next gives n xs i x h = rw (left-from xs i x h, add-one n, add-one i) refl

-- one turn: what was there, and what the next one gives, with the rest behind it
pub numbered-step : {X Y : Type 0} (gives : ℕ → X → List Y) (front after total : List Y) (n : ℕ) (xs : List X) (i : ℕ) (x : X) → slice_get xs i ≡ Some x → after ≡ front ++ gives n x
    → front ++ numbered gives n (drop i xs) ≡ total → after ++ numbered gives (n + 1) (drop (i + 1) xs) ≡ total
numbered-step gives front after total n xs i x got is before =
    rw (is, add-one n, add-one i) (append_assoc front (gives n x) (numbered gives (suc n) (drop (suc i) xs)) ∙ (rw (left-from xs i x got) at before))

-- what an ordinal leads to
pub got-entry : (entries : List (Option Entry)) (i : ℕ) → i < length entries → slice_get entries i ≡ Some (entry_at entries (i + 1))
got-entry entries i h = rw (add-one i) (slice_get-get_or entries i None h)

-- the resource of a number
pub got-resource : (types : List Typed) (i : ℕ) (r : Label × resources.Entry) → slice_get (listed_resources types) i ≡ Some r → resource_at types (i + 1) ≡ Some r
got-resource types i r h = rw (add-one i) h

-- how many there are
pub listed-count : (types : List Typed) → length (listed_resources types) ≡ resource_count types
listed-count [] = refl
listed-count (t ∷ ts) =
    length-append (map (λ r. (t.0, r)) t.1) (listed_resources ts) ∙ ap (λ k. k + length (listed_resources ts)) (length-map t.1 (λ r. (t.0, r)))
    ∙ ap (λ k. length t.1 + k) (listed-count ts) ∙ sym (sum_by-cons (λ (u : Typed). length u.1) t ts)

less-one : (i : ℕ) → (i + 1) - 1 ≡ i
less-one i = omega arith

-- where the number is told from one on
pub got-less : {X : Type 0} (xs : List X) (i : ℕ) (x : X) → slice_get xs ((i + 1) - 1) ≡ Some x → slice_get xs i ≡ Some x
got-less xs i x h = subst (λ (k : ℕ). slice_get xs k ≡ Some x) (less-one i) h

there : {X : Type 0} (xs : List X) (i : ℕ) → i < length xs → (x : X) × (slice_get xs i ≡ Some x)
there [] i h = absurd (omega arith)
there (x ∷ xs) zero h = (x, refl)
there (x ∷ xs) (suc i) h = there xs i (omega arith)

-- an item that is there, also by its number from one on
pub got-some : {X : Type 0} (xs : List X) (i : ℕ) → i < length xs → (x : X) × (slice_get xs i ≡ Some x) × (slice_get xs ((i + 1) - 1) ≡ Some x)
got-some xs i h = let got = there xs i h in (got.0, got.1, subst (λ (k : ℕ). slice_get xs k ≡ Some got.0) (sym (less-one i)) got.1)

-- a sum over all, of which those before an index are done
pub sum-step : {X : Type 0} (f : X → ℕ) (xs : List X) (i : ℕ) (x : X) (total one : ℕ) → slice_get xs i ≡ Some x → one ≡ f x → total + sum_by f (drop i xs) ≡ sum_by f xs → (total + one) + sum_by f (drop (i + 1) xs) ≡ sum_by f xs
sum-step f xs i x total one got is before = rw (add-one i) (omega (arith, sum_by-cons f x (drop (suc i) xs), is, rw (left-from xs i x got) at before))

pub sum-end : {X : Type 0} (f : X → ℕ) (xs : List X) (i : ℕ) (total : ℕ) → length xs ≤ i → total + sum_by f (drop i xs) ≡ sum_by f xs → total ≡ sum_by f xs
sum-end f xs i total none before = let done : total + sum_by f [] ≡ sum_by f xs = rw (drop_of_length-le xs none) at before in omega (arith, done, sum_by-nil f)
  where
    sum_by-nil : {X : Type 0} (f : X → ℕ) → sum_by f [] ≡ 0
    sum_by-nil f = refl
