-- What more room there is where fewer loose blocks are counted.
use Rattle.w16_model.proofs
use Rattle.std.specs.List.{AllByRecursion as Each}
use proofs.Common.{◌≡◌, ℕ, ◌-◌, ◌≤◌, min, Bool, true, false, cond, ◌&&◌, nat_le, IsTrue, List, [], ◌∷◌, map, filter, refl, sym, ap, ◌∙◌, subst, arith, inl, inr, false≢true, cases_Bool, Block, is_pinned, is_loose, block_end, begins_in, first_from, loose_bytes, largest, room_from, room}
use proofs.Longest.{sum_filter}

-- q keeps no block that p leaves out, and leaves out loose ones alone
abbrev pub Fewer : (Block → Bool) → (Block → Bool) → Block → Type 0
Fewer p q x = (IsTrue (q x) → IsTrue (p x)) × (IsTrue (is_pinned x) → p x ≡ q x)

pub largest_le : (f g : ℕ → ℕ) (ns : List ℕ) → ((n : ℕ) → f n ≤ g n) → largest (map f ns) ≤ largest (map g ns)
largest_le f g [] h = omega arith
largest_le f g (n ∷ ns) h = omega (arith, h n, largest_le f g ns h)

-- a list where a test keeps x, and where it doesn't
kept_by : (p : Block → Bool) (x : Block) (xs : List Block) (b : Bool) → p x ≡ b → filter p (x ∷ xs) ≡ cond {A = List Block} b (x ∷ filter p xs) (filter p xs)
kept_by p x xs b e = ap (λ v. cond {A = List Block} v (x ∷ filter p xs) (filter p xs)) e

first_cons : (hi a : ℕ) (x : Block) (xs ys : List Block) → first_from is_pinned hi xs a ≡ first_from is_pinned hi ys a → first_from is_pinned hi (x ∷ xs) a ≡ first_from is_pinned hi (x ∷ ys) a
first_cons hi a x xs ys h = ap (λ v. cond (is_pinned x && nat_le a x.at) (min x.at v) v) h

first_skip : (hi a : ℕ) (x : Block) (xs : List Block) → is_pinned x ≡ false → first_from is_pinned hi (x ∷ xs) a ≡ first_from is_pinned hi xs a
first_skip hi a x xs e = ap (λ b. cond (b && nat_le a x.at) (min x.at (first_from is_pinned hi xs a)) (first_from is_pinned hi xs a)) e

first_filter : (p : Block → Bool) (hi a : ℕ) (x : Block) (xs : List Block) (b : Bool) → p x ≡ b → is_pinned x ≡ false → first_from is_pinned hi (filter p (x ∷ xs)) a ≡ first_from is_pinned hi (filter p xs) a
first_filter p hi a x xs true e l = ap (λ ys. first_from is_pinned hi ys a) (kept_by p x xs true e) ∙ first_skip hi a x (filter p xs) l
first_filter p hi a x xs false e l = ap (λ ys. first_from is_pinned hi ys a) (kept_by p x xs false e)

module _ (p q : Block → Bool) (hi : ℕ) where
  same_first : (xs : List Block) (a : ℕ) → Each (Fewer p q) xs → first_from is_pinned hi (filter p xs) a ≡ first_from is_pinned hi (filter q xs) a
  same_first [] a h = refl
  same_first (x ∷ xs) a h = elim (is_pinned x) as (λ t. is_pinned x ≡ t → first_from is_pinned hi (filter p (x ∷ xs)) a ≡ first_from is_pinned hi (filter q (x ∷ xs)) a) [
    | false ↦ λ l. first_filter p hi a x xs (p x) refl l ∙ same_first xs a h.1 ∙ sym (first_filter q hi a x xs (q x) refl l)
    | true ↦ λ l. elim (q x) as (λ b. q x ≡ b → first_from is_pinned hi (filter p (x ∷ xs)) a ≡ first_from is_pinned hi (filter q (x ∷ xs)) a) [
      | true ↦ λ e. ap (λ ys. first_from is_pinned hi ys a) (kept_by p x xs true (h.0.1 l ∙ e)) ∙ first_cons hi a x (filter p xs) (filter q xs) (same_first xs a h.1) ∙ sym (ap (λ ys. first_from is_pinned hi ys a) (kept_by q x xs true e))
      | false ↦ λ e. ap (λ ys. first_from is_pinned hi ys a) (kept_by p x xs false (h.0.1 l ∙ e)) ∙ same_first xs a h.1 ∙ sym (ap (λ ys. first_from is_pinned hi ys a) (kept_by q x xs false e))
    ] refl
  ] refl

  same_pinned : (xs : List Block) → Each (Fewer p q) xs → filter is_pinned (filter p xs) ≡ filter is_pinned (filter q xs)
  same_pinned [] h = refl
  same_pinned (x ∷ xs) h = turn (p x) (q x) h.0.0 h.0.1 (same_pinned xs h.1)
    where
      turn : (b c : Bool) → (IsTrue c → IsTrue b) → (IsTrue (is_pinned x) → b ≡ c) → filter is_pinned (filter p xs) ≡ filter is_pinned (filter q xs)
          → filter is_pinned (cond {A = List Block} b (x ∷ filter p xs) (filter p xs)) ≡ filter is_pinned (cond {A = List Block} c (x ∷ filter q xs) (filter q xs))
      turn true true f g rest = ap (λ ys. cond {A = List Block} (is_pinned x) (x ∷ ys) ys) rest
      turn false false f g rest = rest
      turn false true f g rest = absurd (false≢true (f refl))
      turn true false f g rest = elim (cases_Bool (is_pinned x)) [
        | inl l ↦ absurd (false≢true (sym (g l)))
        | inr l ↦ kept_by is_pinned x (filter p xs) false l ∙ rest
      ]

  fewer_bytes : (xs : List Block) (a b : ℕ) → Each (Fewer p q) xs → loose_bytes (filter q xs) a b ≤ loose_bytes (filter p xs) a b
  fewer_bytes [] a b h = omega arith
  fewer_bytes (x ∷ xs) a b h = turn (p x) (q x) h.0.0 (fewer_bytes xs a b h.1)
    where
      turn : (v w : Bool) → (IsTrue w → IsTrue v) → loose_bytes (filter q xs) a b ≤ loose_bytes (filter p xs) a b
          → loose_bytes (cond {A = List Block} w (x ∷ filter q xs) (filter q xs)) a b ≤ loose_bytes (cond {A = List Block} v (x ∷ filter p xs) (filter p xs)) a b
      turn true true f rest = omega (arith, rest, sum_filter (λ y. is_loose y && begins_in a b y) x (filter q xs), sum_filter (λ y. is_loose y && begins_in a b y) x (filter p xs))
      turn true false f rest = omega (arith, rest, sum_filter (λ y. is_loose y && begins_in a b y) x (filter p xs))
      turn false true f rest = absurd (false≢true (f refl))
      turn false false f rest = rest

  -- more room
  pub room-fewer : (lo : ℕ) (xs : List Block) → Each (Fewer p q) xs → room lo hi (filter p xs) ≤ room lo hi (filter q xs)
  room-fewer lo xs h =
      subst (λ ss. largest (map (room_from hi (filter p xs)) (lo ∷ map block_end (filter is_pinned (filter p xs)))) ≤ largest (map (room_from hi (filter q xs)) (lo ∷ map block_end ss))) (same_pinned xs h)
      (largest_le (room_from hi (filter p xs)) (room_from hi (filter q xs)) (lo ∷ map block_end (filter is_pinned (filter p xs))) (λ a.
      subst (λ e. first_from is_pinned hi (filter p xs) a - a - loose_bytes (filter p xs) a (first_from is_pinned hi (filter p xs) a) ≤ e - a - loose_bytes (filter q xs) a e) (same_first xs a h)
      (omega (arith, fewer_bytes xs a (first_from is_pinned hi (filter p xs) a) h))))
