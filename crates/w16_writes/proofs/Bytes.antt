-- Bytes by their number, in parts of lists; and bytes of one object at two times.
use Rattle.w16_model.proofs.Common as C
use Rattle.w16_model.proofs.Common.{◌≡◌, ℕ, zero, suc, ◌+◌, ◌-◌, ◌<◌, ◌≤◌, ◌⊎◌, inl, inr, Bool, true, List, [], ◌∷◌, length, take, drop, Option, Some, None, is_some, refl, sym, ap, ◌∙◌, arith, slice_get, false≢true, part}
use Rattle.std.proofs.lemmas.Option.{slice_get_within, slice_get-get_or}
use Rattle.w16_model.specs.Table.{IsSameOutside}
use Rattle.w16_writes.specs.LastWrite.{byte_in}

get-take : (n : ℕ) (xs : List ℕ) (i : ℕ) → i < n → slice_get (take n xs) i ≡ slice_get xs i
get-take zero xs i lt = absurd (omega arith)
get-take (suc n) [] i lt = refl
get-take (suc n) (x ∷ xs) zero lt = refl
get-take (suc n) (x ∷ xs) (suc i) lt = get-take n xs i (omega arith)

get-drop : (n : ℕ) (xs : List ℕ) (i : ℕ) → slice_get (drop n xs) i ≡ slice_get xs (n + i)
get-drop zero xs i = ap (slice_get xs) (let e : i ≡ 0 + i = omega arith in e)
get-drop (suc n) [] i = refl
get-drop (suc n) (x ∷ xs) i = get-drop n xs i ∙ ap (slice_get (x ∷ xs)) (let e : suc (n + i) ≡ suc n + i = omega arith in e)

-- in a part
pub get-part : (bytes : List ℕ) (at n i : ℕ) → i < n → slice_get (part bytes at n) i ≡ slice_get bytes (at + i)
get-part bytes at n i lt = get-take n _ i lt ∙ get-drop at bytes i

-- a byte of a range
get-taken : (n : ℕ) (xs : List ℕ) (i : ℕ) → is_some (slice_get (take n xs) i) ≡ true → slice_get (take n xs) i ≡ slice_get xs i
get-taken zero xs i t = absurd (false≢true t)
get-taken (suc n) [] i t = refl
get-taken (suc n) (x ∷ xs) zero t = refl
get-taken (suc n) (x ∷ xs) (suc i) t = get-taken n xs i t

pub get-range : (bytes : List ℕ) (at n i : ℕ) → is_some (slice_get (C.slice_range bytes at (at + n)) i) ≡ true → slice_get (C.slice_range bytes at (at + n)) i ≡ slice_get bytes (at + i)
get-range bytes at n i t = get-taken _ _ i t ∙ get-drop at bytes i

-- a number with a byte is inside
pub inside : (bytes : List ℕ) (i : ℕ) → is_some (slice_get bytes i) ≡ true → i < length bytes
inside [] i t = absurd (false≢true t)
inside (x ∷ xs) zero t = omega arith
inside (x ∷ xs) (suc i) t = omega (arith, inside xs i t)

-- below a place and from one on
pub get-below : (n : ℕ) (xs ys : List ℕ) (i : ℕ) → take n ys ≡ take n xs → i < n → slice_get ys i ≡ slice_get xs i
get-below n xs ys i same lt = sym (get-take n ys i lt) ∙ ap (λ l. slice_get l i) same ∙ get-take n xs i lt

get-above : (n : ℕ) (xs ys : List ℕ) (i : ℕ) → drop n ys ≡ drop n xs → n ≤ i → slice_get ys i ≡ slice_get xs i
get-above n xs ys i same le =
    let e : i ≡ n + (i - n) = omega arith in
    ap (slice_get ys) e ∙ sym (get-drop n ys (i - n)) ∙ ap (λ l. slice_get l (i - n)) same ∙ get-drop n xs (i - n) ∙ ap (slice_get xs) (sym e)

pub split : (a b : ℕ) → (a < b) ⊎ (b ≤ a)
split a b = grind arith

-- outside a range
pub get-outside : (lo hi : ℕ) (before after : List ℕ) (i : ℕ) → IsSameOutside lo hi before after → (i < lo) ⊎ (hi ≤ i) → slice_get after i ≡ slice_get before i
get-outside lo hi before after i same (inl lt) = get-below lo before after i same.below lt
get-outside lo hi before after i same (inr le) = get-above hi before after i same.above le

-- where a slice was written, and elsewhere
module _ (before : List ℕ) (at : ℕ) (slice after : List ℕ) (w : C.IsWritten before at slice after) where
  pub get-written : (i byte : ℕ) → slice_get slice i ≡ Some byte → slice_get after (at + i) ≡ Some byte
  get-written i byte e = sym (get-part after at (length slice) i (slice_get_within slice i byte e)) ∙ ap (λ l. slice_get l i) w.written ∙ e

  pub get-unwritten : (i : ℕ) → ((k byte : ℕ) → i ≡ at + k → slice_get slice k ≡ Some byte → ⊥) → slice_get after i ≡ slice_get before i
  get-unwritten i out = elim (split i at) [
    | inl lt ↦ get-below at before after i w.below lt
    | inr le ↦ elim (split i (at + length slice)) [
      | inl lt ↦ absurd (out (i - at) (C.get_or slice (i - at) 0) (omega (arith, le)) (slice_get-get_or slice (i - at) 0 (omega (arith, le, lt))))
      | inr above ↦ get-above (at + length slice) before after i w.above above
    ]
  ]

-- what holds by cases
pub some_such : {A : Type 0} {P : A → Type 0} (p : Option A) → C.IsSomeAnd p P → (a : A) × (p ≡ Some a) × P a
some_such None h = absurd h
some_such (Some a) h = (a, refl, h)

pub none_or : {A N : Type 0} {S : A → Type 0} (p : Option A) → C.MatchOption p N S → N ⊎ ((a : A) × S a)
none_or None h = inl h
none_or (Some a) h = inr (a, h)

pub which : {A : Type 0} (p : Option A) → (p ≡ None) ⊎ ((a : A) × (p ≡ Some a))
which None = inl refl
which (Some a) = inr (a, refl)

-- an option has one value
pub only : {A : Type 0} {o : Option A} {a b : A} → o ≡ Some a → o ≡ Some b → a ≡ b
only {A} {o} {a} {b} e f = let both : ◌≡◌ {A = Option A} (Some a) (Some b) = sym e ∙ f in cc

-- What an object's bytes at two times agree on: each number that is inside at both has one byte.
pub record Agree (before after : Option (List ℕ)) : Type 0 where
  pub one : (i : ℕ) → is_some (byte_in before i) ≡ true → is_some (byte_in after i) ≡ true → byte_in after i ≡ byte_in before i

module _ {before after : Option (List ℕ)} where
  pub agree_same : after ≡ before → Agree before after
  agree_same e = record { one = λ i p q. ap (λ b. byte_in b i) e }

  pub agree_gone : after ≡ None → Agree before after
  agree_gone e = record { one = λ i p q. absurd (false≢true (sym (ap (λ b. is_some (byte_in b i)) e) ∙ q)) }

  pub agree_new : before ≡ None → Agree before after
  agree_new e = record { one = λ i p q. absurd (false≢true (sym (ap (λ b. is_some (byte_in b i)) e) ∙ p)) }

-- at another size
pub agree_resized : (zeroed : Bool) (n : ℕ) (before after : Option (List ℕ)) → C.IsSomeAnd after (C.AreResized zeroed n (C.unwrap_or before [])) → Agree before after
agree_resized zeroed n None after r = agree_new refl
agree_resized zeroed n (Some before) None r = absurd r
agree_resized zeroed n (Some before) (Some after) r = record {
  one = λ i p q. sym (get-take _ after i (inside before i p)) ∙ ap (λ l. slice_get l i) r.same ∙ get-take n before i (omega (arith, inside after i q, r.long));
}
