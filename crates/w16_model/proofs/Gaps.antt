-- Laws of gaps and room.
use Rattle.w16_model.proofs.Common as C
use Rattle.std.specs.List.{AllByRecursion as Each}
use Rattle.w16_model.proofs.Common.{◌≡◌, ℕ, zero, suc, ◌+◌, ◌-◌, ◌<◌, ◌≤◌, ◌⊎◌, inl, inr, max, min, Bool, true, false, cond, ◌&&◌, nat_le, IsTrue, List, [], ◌∷◌, map, filter, sum_by, All, refl, sym, ap, ◌∙◌, subst, arith, false≢true, Block, Misses, block_end, first_from, largest}

-- a fact of each two elements, by recursion
abbrev pub EachPair : {X : Type 0} → (X → X → Type 0) → List X → Type 0
EachPair R [] = Unit {0}
EachPair R (x ∷ xs) = Each (R x) xs × EachPair R xs

pub Each-map : {X : Type 0} (P Q : X → Type 0) → ((x : X) → P x → Q x) → (xs : List X) → Each P xs → Each Q xs
Each-map P Q f [] h = tt
Each-map P Q f (x ∷ xs) h = (f x h.0, Each-map P Q f xs h.1)

pub Each-both : {X : Type 0} (P Q R : X → Type 0) → ((x : X) → P x → Q x → R x) → (xs : List X) → Each P xs → Each Q xs → Each R xs
Each-both P Q R f [] g h = tt
Each-both P Q R f (x ∷ xs) g h = (f x g.0 h.0, Each-both P Q R f xs g.1 h.1)

-- what comes off above the n bytes at p
abbrev pub shift : ℕ → ℕ → ℕ → ℕ
shift p n y = cond (nat_le (p + n) y) (y - n) y

shift_in : (p n a b y m : ℕ) → a ≤ p → p + n ≤ b → a ≤ y → y + m ≤ b → Misses p n y (y + m) → (a ≤ shift p n y) × (shift p n y + m ≤ b - n)
shift_in p n a b y m h1 h2 h3 h4 h5 = grind arith

shift_apart : (p n y m z k : ℕ) → Misses p n y (y + m) → Misses p n z (z + k) → Misses y m z (z + k) → Misses (shift p n y) m (shift p n z) (shift p n z + k)
shift_apart p n y m z k h1 h2 h3 = grind arith

pairs_moved : (X : Type 0) (size : X → ℕ) (ys : List X) (pos : X → ℕ) (p n : ℕ)
    → Each (λ y. Misses p n (pos y) (pos y + size y)) ys
    → EachPair (λ y z. Misses (pos y) (size y) (pos z) (pos z + size z)) ys
    → EachPair (λ y z. Misses (shift p n (pos y)) (size y) (shift p n (pos z)) (shift p n (pos z) + size z)) ys
pairs_moved X size [] pos p n from_x pairs = tt
pairs_moved X size (y ∷ ys) pos p n from_x pairs = (
  Each-both _ _ _ (λ z g h. shift_apart p n _ _ _ _ from_x.0 g h) ys from_x.1 pairs.0,
  pairs_moved X size ys pos p n from_x.1 pairs.1,
)

-- intervals of an interval that share no byte are together no longer than it
pub pack : {X : Type 0} (size : X → ℕ) (xs : List X) (pos : X → ℕ) (a b : ℕ) → a ≤ b
    → Each (λ x. (a ≤ pos x) × (pos x + size x ≤ b)) xs
    → EachPair (λ x y. Misses (pos x) (size x) (pos y) (pos y + size y)) xs
    → a + sum_by size xs ≤ b
pack size [] pos a b h inside apart = omega arith
pack {X} size (x ∷ xs) pos a b h inside apart =
    let moved : X → ℕ = λ y. shift (pos x) _ (pos y) in
    let rest = pack size xs moved a _ (omega (arith, inside.0))
    (Each-both _ _ _ (λ y inside_y apart_y. shift_in (pos x) _ a b (pos y) _ inside.0.0 inside.0.1 inside_y.0 inside_y.1 apart_y) xs inside.1 apart.0)
    (pairs_moved X size xs pos _ _ apart.0 apart.1) in
    omega (arith, C.sum_by-cons size x xs, rest, inside.0)

-- the same beside one more interval
pub pack_around : {X : Type 0} (size : X → ℕ) (xs : List X) (pos : X → ℕ) (a b p q : ℕ) → a ≤ p → p ≤ q → q ≤ b
    → Each (λ x. (a ≤ pos x) × (pos x + size x ≤ b)) xs
    → EachPair (λ x y. Misses (pos x) (size x) (pos y) (pos y + size y)) xs
    → Each (λ x. Misses (pos x) (size x) p q) xs
    → a + sum_by size xs + (q - p) ≤ b
pack_around {X} size xs pos a b p q h1 h2 h3 inside apart free =
    let moved : X → ℕ = λ y. shift p _ _ in
    let away : Each (λ y. Misses p (q - p) (pos y) (pos y + size y)) xs = Each-map _ _ (λ y f. turned p q _ _ h2 f) xs free in
    let rest = pack size xs moved a _ (omega arith)
    (Each-both _ _ _ (λ y i f. shift_in p (q - p) a b (pos y) _ h1 (omega arith) i.0 i.1 f) xs inside away)
    (pairs_moved X size xs pos p _ away apart) in
    omega (arith, rest)
  where
    turned : (p q y m : ℕ) → p ≤ q → Misses y m p q → Misses p (q - p) y (y + m)
    turned p q y m h f = grind arith

-- one turn of the two recursions below, over any tests and numbers
below_turn : (t u : Bool) (v w m : ℕ) → m ≤ cond (t && u) (min v w) w → (IsTrue t → IsTrue u → m ≤ v) × (m ≤ w)
below_turn true true v w m h = ((λ _ _. omega arith), omega arith)
below_turn true false v w m h = ((λ _ e. absurd (false≢true e)), h)
below_turn false u v w m h = ((λ e _. absurd (false≢true e)), h)

greatest_turn : (t u : Bool) (v w m : ℕ) → (IsTrue t → IsTrue u → m ≤ v) → m ≤ w → m ≤ cond (t && u) (min v w) w
greatest_turn true true v w m f h = let first = f refl refl in omega arith
greatest_turn true false v w m f h = h
greatest_turn false u v w m f h = h

above_turn : (t u : Bool) (v w m : ℕ) → cond (t && u) (max v w) w ≤ m → (IsTrue t → IsTrue u → v ≤ m) × (w ≤ m)
above_turn true true v w m h = ((λ _ _. omega arith), omega arith)
above_turn true false v w m h = ((λ _ e. absurd (false≢true e)), h)
above_turn false u v w m h = ((λ e _. absurd (false≢true e)), h)

least_turn : (t u : Bool) (v w m : ℕ) → (IsTrue t → IsTrue u → v ≤ m) → w ≤ m → cond (t && u) (max v w) w ≤ m
least_turn true true v w m f h = let first = f refl refl in omega arith
least_turn true false v w m f h = h
least_turn false u v w m f h = h

max_is : (a b : ℕ) → (max a b ≡ a) ⊎ (max a b ≡ b)
max_is a b = grind arith

start_turn : (f : ℕ → ℕ) (lo : ℕ) (t u : Bool) (x : Block) (ys : List Block) (w : ℕ) → f w ≤ max (f lo) (largest (map f (map block_end ys)))
    → f (cond (t && u) (max (block_end x) w) w) ≤ max (f lo) (largest (map f (map block_end (cond t (x ∷ ys) ys))))
start_turn f lo true true x ys w h = elim (max_is (block_end x) w) [ inl e ↦ omega (arith, ap f e) | inr e ↦ omega (arith, ap f e) ]
start_turn f lo true false x ys w h = omega arith
start_turn f lo false u x ys w h = h

-- The places where gaps begin and end, by what they are the least and the greatest of.
module _ (test : Block → Bool) where
  pub first_from-below : (hi : ℕ) (xs : List Block) (a m : ℕ) → m ≤ first_from test hi xs a → (m ≤ hi) × Each (λ x. IsTrue (test x) → a ≤ x.at → m ≤ x.at) xs
  first_from-below hi [] a m h = (h, tt)
  first_from-below hi (x ∷ xs) a m h =
      let turn : (IsTrue (test x) → IsTrue (nat_le a x.at) → m ≤ x.at) × (m ≤ first_from test hi xs a) = below_turn (test x) (nat_le a x.at) x.at (first_from test hi xs a) m h in
      let rest : (m ≤ hi) × Each (λ x. IsTrue (test x) → a ≤ x.at → m ≤ x.at) xs = first_from-below hi xs a m turn.1 in
      (rest.0, (λ t l. turn.0 t (C.le-leb a x.at l), rest.1))

  pub first_from-greatest : (hi : ℕ) (xs : List Block) (a m : ℕ) → m ≤ hi → Each (λ x. IsTrue (test x) → a ≤ x.at → m ≤ x.at) xs → m ≤ first_from test hi xs a
  first_from-greatest hi [] a m h each = h
  first_from-greatest hi (x ∷ xs) a m h each =
      greatest_turn (test x) (nat_le a x.at) x.at (first_from test hi xs a) m (λ t l. each.0 t (C.leb-true a x.at l)) (first_from-greatest hi xs a m h each.1)

  -- the last place at or before p where a block that passes the test ends, or lo
  abbrev pub last_to : ℕ → List Block → ℕ → ℕ
  last_to lo [] p = lo
  last_to lo (x ∷ xs) p = cond (test x && nat_le (block_end x) p) (max (block_end x) (last_to lo xs p)) (last_to lo xs p)

  pub last_to-above : (lo : ℕ) (xs : List Block) (p m : ℕ) → last_to lo xs p ≤ m → (lo ≤ m) × Each (λ x. IsTrue (test x) → block_end x ≤ p → block_end x ≤ m) xs
  last_to-above lo [] p m h = (h, tt)
  last_to-above lo (x ∷ xs) p m h =
      let turn : (IsTrue (test x) → IsTrue (nat_le (block_end x) p) → block_end x ≤ m) × (last_to lo xs p ≤ m) = above_turn (test x) (nat_le (block_end x) p) (block_end x) (last_to lo xs p) m h in
      let rest : (lo ≤ m) × Each (λ x. IsTrue (test x) → block_end x ≤ p → block_end x ≤ m) xs = last_to-above lo xs p m turn.1 in
      (rest.0, (λ t l. turn.0 t (C.le-leb (block_end x) p l), rest.1))

  pub last_to-least : (lo : ℕ) (xs : List Block) (p m : ℕ) → lo ≤ m → Each (λ x. IsTrue (test x) → block_end x ≤ p → block_end x ≤ m) xs → last_to lo xs p ≤ m
  last_to-least lo [] p m h each = h
  last_to-least lo (x ∷ xs) p m h each =
      least_turn (test x) (nat_le (block_end x) p) (block_end x) (last_to lo xs p) m (λ t l. each.0 t (C.leb-true (block_end x) p l)) (last_to-least lo xs p m h each.1)

  -- it is where a gap may begin
  pub last_to-start : (f : ℕ → ℕ) (lo : ℕ) (xs : List Block) (p : ℕ) → f (last_to lo xs p) ≤ largest (map f (C.starts test lo xs))
  last_to-start f lo [] p = omega arith
  last_to-start f lo (x ∷ xs) p = start_turn f lo (test x) (nat_le (block_end x) p) x (filter test xs) (last_to lo xs p) (last_to-start f lo xs p)

-- a list's largest value is that of one of its members
pub largest_reached : (f : ℕ → ℕ) (P : ℕ → Type 0) (ns : List ℕ) → Each P ns → 0 < largest (map f ns) → (n : ℕ) × P n × (f n ≡ largest (map f ns))
largest_reached f P [] each h = absurd (omega arith)
largest_reached f P (n ∷ ns) each h = elim (C.cases_lt (f n) (largest (map f ns))) [
  | inl l ↦ let rest = largest_reached f P ns each.1 (omega arith) in (rest.0, rest.1, omega (arith, rest.2))
  | inr l ↦ (n, each.0, omega arith)
]

each_turn : {X : Type 0} (P : X → Type 0) (x : X) (ys : List X) (b : Bool) → (IsTrue b → P x) → Each P ys → Each P (cond {A = List X} b (x ∷ ys) ys)
each_turn P x ys true here rest = (here refl, rest)
each_turn P x ys false here rest = rest

pub Each-filter : {X : Type 0} (P : X → Type 0) (p : X → Bool) (xs : List X) → Each (λ x. IsTrue (p x) → P x) xs → Each P (filter p xs)
Each-filter P p [] h = tt
Each-filter P p (x ∷ xs) h = each_turn P x _ (p x) h.0 (Each-filter P p xs h.1)

pairs_turn : {X : Type 0} (R : X → X → Type 0) (x : X) (ys : List X) (b : Bool) → (IsTrue b → Each (R x) ys) → EachPair R ys → EachPair R (cond {A = List X} b (x ∷ ys) ys)
pairs_turn R x ys true here rest = (here refl, rest)
pairs_turn R x ys false here rest = rest

pub EachPair-filter : {X : Type 0} (R : X → X → Type 0) (p : X → Bool) (xs : List X) → EachPair (λ x y. IsTrue (p x) → IsTrue (p y) → R x y) xs → EachPair R (filter p xs)
EachPair-filter R p [] h = tt
EachPair-filter R p (x ∷ xs) h = pairs_turn R x _ (p x) (λ t. Each-filter (R x) p xs (Each-map _ _ (λ y f. f t) xs h.0)) (EachPair-filter R p xs h.1)

-- each two members, the same one twice among them
pub each_two : {X : Type 0} (R : X → X → Type 0) (turns : (x y : X) → R x y → R y x) (xs : List X) → EachPair R xs → Each (λ y. Each (λ x. (x ≡ y) ⊎ R x y) xs) xs
each_two R turns [] h = tt
each_two {X} R turns (x ∷ xs) h = (
  (inl refl, Each-map (R x) (λ z. (z ≡ x) ⊎ R z x) (λ z r. inr (turns x z r)) xs h.0),
  Each-both (R x) (λ y. Each (λ z. (z ≡ y) ⊎ R z y) xs) (λ y. Each (λ z. (z ≡ y) ⊎ R z y) (x ∷ xs)) (λ y r rest. (inr r, rest)) xs h.0 (each_two R turns xs h.1),
)

-- between std's words and these
pub Each-from_All : {X : Type 0} (P : X → Type 0) (xs : List X) → All P xs → Each P xs
Each-from_All P [] h = tt
Each-from_All P (x ∷ xs) h = (C.All-head P x xs h, Each-from_All P xs (C.All-tail P x xs h))

pub All-from_Each : {X : Type 0} (P : X → Type 0) (xs : List X) → Each P xs → All P xs
All-from_Each P [] h = C.All-nil P
All-from_Each P (x ∷ xs) h = C.All-cons P x xs h.0 (All-from_Each P xs h.1)

pub EachPair-from_AllPairs : {X : Type 0} (R : X → X → Type 0) (xs : List X) → C.AllPairs R xs → EachPair R xs
EachPair-from_AllPairs R [] h = tt
EachPair-from_AllPairs R (x ∷ xs) h = (
  Each-from_All (R x) xs (λ k d l. h 0 (suc k) d (omega arith) (omega arith)),
  EachPair-from_AllPairs R xs (λ i j d l m. h (suc i) (suc j) d (omega arith) (omega arith)),
)

pub AllPairs-from_EachPair : {X : Type 0} (R : X → X → Type 0) (xs : List X) → EachPair R xs → C.AllPairs R xs
AllPairs-from_EachPair R [] h i j d l m = absurd (omega arith)
AllPairs-from_EachPair R (x ∷ xs) h zero zero d l m = absurd (omega arith)
AllPairs-from_EachPair R (x ∷ xs) h zero (suc j) d l m = All-from_Each (R x) xs h.0 j d (omega arith)
AllPairs-from_EachPair R (x ∷ xs) h (suc i) zero d l m = absurd (omega arith)
AllPairs-from_EachPair R (x ∷ xs) h (suc i) (suc j) d l m = AllPairs-from_EachPair R xs h.1 i j d (omega arith) (omega arith)

-- x is one of xs
abbrev pub Member : {X : Type 0} → X → List X → Type 0
Member x [] = ⊥
Member x (y ∷ ys) = (x ≡ y) ⊎ Member x ys

pub Each-at : {X : Type 0} (P : X → Type 0) (xs : List X) → Each P xs → (x : X) → Member x xs → P x
Each-at P [] h x m = absurd m
Each-at P (y ∷ ys) h x (inl e) = subst P (sym e) h.0
Each-at P (y ∷ ys) h x (inr m) = Each-at P ys h.1 x m

pub Each-from : {X : Type 0} (P : X → Type 0) (xs : List X) → ((x : X) → Member x xs → P x) → Each P xs
Each-from P [] h = tt
Each-from P (y ∷ ys) h = (h y (inl refl), Each-from P ys (λ x m. h x (inr m)))

pub EachPair-map : {X : Type 0} (R S : X → X → Type 0) → ((x y : X) → R x y → S x y) → (xs : List X) → EachPair R xs → EachPair S xs
EachPair-map R S f [] h = tt
EachPair-map R S f (x ∷ xs) h = (Each-map (R x) (S x) (f x) xs h.0, EachPair-map R S f xs h.1)

-- what each two members have, at two places of the list
pub EachPair-member : {X : Type 0} (R S : X → X → Type 0) (xs : List X) → ((x y : X) → Member x xs → Member y xs → R x y → S x y) → EachPair R xs → EachPair S xs
EachPair-member R S [] f h = tt
EachPair-member R S (x ∷ xs) f h = (
  Each-from (S x) xs (λ y m. f x y (inl refl) (inr m) (Each-at (R x) xs h.0 y m)),
  EachPair-member R S xs (λ y z m n. f y z (inr m) (inr n)) h.1,
)

pub Each-of_map : {X Y : Type 0} (P : Y → Type 0) (f : X → Y) (xs : List X) → Each (λ x. P (f x)) xs → Each P (map f xs)
Each-of_map P f [] h = tt
Each-of_map P f (x ∷ xs) h = (h.0, Each-of_map P f xs h.1)

-- the members of a filtered list are those that pass
pub member_filter : {X : Type 0} (p : X → Bool) (xs : List X) (x : X) → Member x (filter p xs) → Member x xs × IsTrue (p x)
member_filter p [] x m = absurd m
member_filter {X} p (y ∷ ys) x m =
    elim (p y) as (λ b. p y ≡ b → Member x (cond {A = List X} b (y ∷ filter p ys) (filter p ys)) → Member x (y ∷ ys) × IsTrue (p x)) [
      | true ↦ λ t n. elim n [ inl e ↦ (inl e, ap p e ∙ t) | inr k ↦ let r = member_filter p ys x k in (inr r.0, r.1) ]
      | false ↦ λ t n. let r = member_filter p ys x n in (inr r.0, r.1)
    ] refl m

pub filter_member : {X : Type 0} (p : X → Bool) (xs : List X) (x : X) → Member x xs → IsTrue (p x) → Member x (filter p xs)
filter_member p [] x m t = absurd m
filter_member {X} p (y ∷ ys) x (inl e) t = subst (λ b. Member x (cond {A = List X} b (y ∷ filter p ys) (filter p ys))) (sym t ∙ ap p e) (inl e)
filter_member {X} p (y ∷ ys) x (inr m) t = turn (p y) (filter_member p ys x m t)
  where
    turn : (b : Bool) → Member x (filter p ys) → Member x (cond {A = List X} b (y ∷ filter p ys) (filter p ys))
    turn true n = inr n
    turn false n = n

pub pairs_filter : {X : Type 0} (R : X → X → Type 0) (p : X → Bool) (xs : List X) → EachPair R xs → EachPair R (filter p xs)
pairs_filter R p xs h = EachPair-filter R p xs (EachPair-map R (λ x y. IsTrue (p x) → IsTrue (p y) → R x y) (λ x y r _ _. r) xs h)
