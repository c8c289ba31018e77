use Rattle.std.proofs.Common.{◌≡◌, ℕ, ◌+◌, ◌*◌, ◌/◌, ◌%◌, ◌-◌, ◌<◌, ◌≤◌, ◌∙◌, List, [], ◌∷◌, length, get_or, drop, map, max, All, refl, sym, ap, subst, arith, add-one, drop-cons}
use Rattle.std.proofs.Math.Nat.{mul-div_cancel_left, mod-lt, zero-mul, zero-div}
use Rattle.std.proofs.lemmas.List.Elements.{All-get_or, All-nil, All-cons}
use Rattle.std.proofs.lemmas.Nat.{div-add-mod', le-div}
use Rattle.w16_picture.specs.{declared.facts.Part.Part, declared.layout.Rect.Rect}
use Rattle.w16_picture.specs.Layout.{Fills, Adjoin, IsToScale, IsStrip, edge, rect_of, rects_from, strip}

-- what is left of a list from an index on is the element there and what is left after it
pub drop-next : {X : Type 0} (xs : List X) (i : ℕ) (d : X) → i < length xs → drop i xs ≡ get_or xs i d ∷ drop (i + 1) xs
drop-next xs i d h = rw (add-one, drop-cons xs i d) refl

pub Fills-le : (from to : ℕ) (items : List Part) → Fills from to items → from ≤ to
Fills-le from to [] e = omega (arith, e)
Fills-le from to (item ∷ items) h = let rest : from + item.size ≤ to = Fills-le (from + item.size) to items h.2 in omega (arith, rest)

-- There are no more parts than bytes.
pub Fills-length : (from to : ℕ) (items : List Part) → Fills from to items → from + length items ≤ to
Fills-length from to [] e = omega (arith, e)
Fills-length from to (item ∷ items) h = let rest = Fills-length (from + item.size) to items h.2 in omega (arith, rest, h.1)

-- the part that begins at an address, and those after it
pub record IsNext (at to : ℕ) (item : Part) (items : List Part) : Type 0 where
  pub begins : item.at ≡ at
  pub some : 0 < item.size
  pub ends : at + item.size ≤ to
  pub rest : Fills (at + item.size) to items

pub Fills-next : (at to : ℕ) (items : List Part) (i : ℕ) (d : Part) → i < length items → Fills at to (drop i items) → IsNext at to (get_or items i d) (drop (i + 1) items)
Fills-next at to items i d h fills =
    let split = subst (λ (xs : List Part). Fills at to xs) (drop-next items i d h) fills in
    record { begins = split.0; some = split.1; ends = Fills-le (at + (get_or items i d).size) to (drop (i + 1) items) split.2; rest = split.2 }

pub Fills-before : (at to : ℕ) (items : List Part) (i : ℕ) (d : Part) → i < length items → (get_or items i d).at ≡ at → 0 < (get_or items i d).size → Fills (at + (get_or items i d).size) to (drop (i + 1) items)
    → Fills at to (drop i items)
Fills-before at to items i d h begins some rest = subst (λ (xs : List Part). Fills at to xs) (sym (drop-next items i d h)) (begins, some, rest)

Fills-ends : (from to : ℕ) (items : List Part) → Fills from to items → All (λ (item : Part). item.at + item.size ≤ to) items
Fills-ends from to [] h = All-nil (λ (item : Part). item.at + item.size ≤ to)
Fills-ends from to (item ∷ items) h =
    let rest = Fills-le (from + item.size) to items h.2 in
    let begins = h.0 in
    All-cons (λ (it : Part). it.at + it.size ≤ to) item items (omega (arith, rest, begins)) (Fills-ends (from + item.size) to items h.2)

-- each part ends in the memory
pub Fills-inside : (from to : ℕ) (items : List Part) (i : ℕ) (d : Part) → i < length items → Fills from to items → (get_or items i d).at + (get_or items i d).size ≤ to
Fills-inside from to items i d h fills = All-get_or (λ (item : Part). item.at + item.size ≤ to) items i d h (Fills-ends from to items fills)

parts-of : (spare memory i : ℕ) (items : List Part) → map (λ (rect : Rect). rect.item) (rects_from spare memory i items) ≡ items
parts-of spare memory i [] = refl
parts-of spare memory i (item ∷ items) = ap (λ (xs : List Part). item ∷ xs) (parts-of spare memory (i + 1) items)

cover-from : (spare memory i from : ℕ) (items : List Part) → 0 < memory → Fills from memory items → Adjoin (edge spare memory i from) (i + length items + spare) (rects_from spare memory i items)
cover-from spare memory i from [] some e =
    let all : memory * spare / memory ≡ spare = mul-div_cancel_left spare some in
    let at : from * spare / memory ≡ spare = ap (λ (n : ℕ). n * spare / memory) e ∙ all in
    omega (arith, at)
cover-from spare memory i from (item ∷ items) some h =
    let to : i + 1 + length items + spare ≡ i + length (item ∷ items) + spare = omega arith in
    let rest = cover-from spare memory (i + 1) (from + item.size) items some h.2 in
    let ends : edge spare memory (i + 1) (from + item.size) ≡ edge spare memory (i + 1) (item.at + item.size) = ap (λ (n : ℕ). edge spare memory (i + 1) (n + item.size)) (sym h.0) in (
      ap (λ (n : ℕ). edge spare memory i n) h.0,
      subst (λ (n : ℕ). Adjoin n (i + length (item ∷ items) + spare) (rects_from spare memory (i + 1) items)) ends
          (subst (λ (n : ℕ). Adjoin (edge spare memory (i + 1) (from + item.size)) n (rects_from spare memory (i + 1) items)) to rest),
    )

share : (memory q d x y r t : ℕ) → q * memory + r ≡ x → (q + d) * memory + t ≡ x + y → r < memory → t < memory → (y < (1 + d) * memory) × ((1 + d) * memory < y + 2 * memory)
share memory q d x y r t e f r-less t-less = (omega arith, omega arith)

-- a rectangle that was laid out is to scale
to-scale : (spare memory i : ℕ) (item : Part) → 0 < memory → 0 < item.size → IsToScale spare memory (rect_of spare memory i item)
to-scale spare memory i item some bytes =
    let x = item.at * spare in
    let z = (item.at + item.size) * spare in
    let q = x / memory in
    let p = z / memory in
    let split : q * memory + x % memory ≡ x = div-add-mod' x memory in
    let split' : p * memory + z % memory ≡ z = div-add-mod' z memory in
    let grows : q ≤ p = le-div q z memory some (omega (arith, split)) in
    let back : q + (p - q) ≡ p = omega (arith, grows) in
    let wider : (i + 1 + p) - (i + q) ≡ 1 + (p - q) = omega (arith, grows) in
    let again : (q + (p - q)) * memory + z % memory ≡ x + item.size * spare = ap (λ (n : ℕ). n * memory + z % memory) back ∙ split' ∙ omega arith in
    let both = share memory q (p - q) x (item.size * spare) (x % memory) (z % memory) split again (mod-lt x some) (mod-lt z some) in
    record {
      wide = omega (arith, grows);
      least = subst (λ (n : ℕ). item.size * spare < n * memory) (sym wider) both.0;
      most = subst (λ (n : ℕ). n * memory < item.size * spare + 2 * memory) (sym wider) both.1;
    }

all-to-scale : (spare memory i from to : ℕ) (items : List Part) → 0 < memory → Fills from to items → All (IsToScale spare memory) (rects_from spare memory i items)
all-to-scale spare memory i from to [] some h = All-nil (IsToScale spare memory)
all-to-scale spare memory i from to (item ∷ items) some h =
    All-cons (IsToScale spare memory) (rect_of spare memory i item) (rects_from spare memory (i + 1) items) (to-scale spare memory i item some h.1) (all-to-scale spare memory (i + 1) (from + item.size) to items some h.2)

-- what is laid out is a strip of the parts
pub IsStrip-strip : (columns memory : ℕ) (items : List Part) → 0 < memory → Fills 0 memory items → IsStrip columns memory items (strip columns memory items)
IsStrip-strip columns memory items some h =
    let spare = columns - length items in
    let width : 0 + length items + spare ≡ max columns (length items) = omega arith in
    let none : edge spare memory 0 0 ≡ 0 = simp (zero-mul, zero-div) in
    record {
      parts = parts-of spare memory 0 items;
      cover = subst (λ (n : ℕ). Adjoin n (max columns (length items)) (rects_from spare memory 0 items)) none
          (subst (λ (n : ℕ). Adjoin (edge spare memory 0 0) n (rects_from spare memory 0 items)) width (cover-from spare memory 0 0 items some h));
      scaled = all-to-scale spare memory 0 0 memory items some h;
    }
