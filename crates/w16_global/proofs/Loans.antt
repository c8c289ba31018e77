-- Bytes of objects that are lent, and what is left there.
use Rattle.w16_global.proofs
use proofs.Common as C
use proofs.Common.{◌≡◌, ℕ, ◌+◌, ◌<◌, ◌≤◌, IsSomeAnd, List, [], ◌∷◌, length, All, Option, Some, None, unwrap_or, refl, sym, ap, ◌∙◌, subst, arith, part, put_part, Object, object_at, bytes_at}
use proofs.Common.{after_write, counted, with_items, AreParts, Holding, HasPart, holding_of, AreJoined}
use proofs.{Owners.written_joined, Written.in_memory, Written.seen, Written.parts_filled, Written.holding_written}
use Rattle.std.specs.Prelude.{◌%◌, map}
use Rattle.std.proofs.lemmas.List.Elements.{All-map, All-tail}
use lib.ListN.{length-map}
use Rattle.w16_region.specs.Bytes.{fitted, fitted-same, length-fitted}
use Rattle.w16_global.specs.Loans.{bytes_from, after_lent, left_of}
use Rattle.w16_selectors.specs.Descriptors as selectors

length_left : (old new : List ℕ) → length (left_of old new) ≡ length old
length_left old new = length-map _ (λ b. b % 256) ∙ length-fitted old new

below : (b : ℕ) → b % 256 < 256
below b = omega arith

pub All-left_of : (old new : List ℕ) → All (λ b. b < 256) (left_of old new)
All-left_of old new = All-map (λ b. b < 256) (λ b. b % 256) _ (λ k d lt. below _)

pub part_length : (b : Option (List ℕ)) (at n : ℕ) → IsSomeAnd b (λ bytes. at + n ≤ length bytes) → length (part (unwrap_or b []) at n) ≡ n
part_length None at n fits = absurd fits
part_length (Some bytes) at n fits = simp (C.length-take, C.length-drop) (omega (arith, fits))

pub left_length : (h : C.Heap) (id at n : ℕ) → HasPart h id at n → (new : List ℕ) → length (left_of (bytes_from h id at n) new) ≡ n
left_length h id at n has new = length_left _ new ∙ part_length _ at n has

-- bytes of the right length are left as they are
small : (b : ℕ) → b < 256 → b % 256 ≡ b
small b lt = omega arith

bytes_stay : (xs : List ℕ) → All (λ b. b < 256) xs → map (λ b. b % 256) xs ≡ xs
bytes_stay [] all = refl
bytes_stay (x ∷ xs) all = λ i. small x (all 0 x (omega arith)) i ∷ bytes_stay xs (All-tail (λ b. b < 256) x xs all) i

pub lent_written : (h : Holding) (id at n : ℕ) → HasPart h.heap id at n → (new : List ℕ) → length new ≡ n → All (λ b. b < 256) new → after_lent id at n h new ≡ record h { heap = after_write h.heap id at new; written = counted h.written n }
lent_written h id at n has new long all = ap (λ b. record h { heap = after_write h.heap id at b; written = counted h.written n })
    (ap (map (λ b. b % 256)) (fitted-same _ new (long ∙ sym (part_length _ at n has))) ∙ bytes_stay new all)

-- An object's bytes in the memory, once others are left there.
module _ {Z : Type 0} (v : C.Vec ℕ Z) {state : C.ArenaState} (parts : AreParts state v.items) {count : ℕ} {h : Holding} (shown : holding_of state v.items count ≡ h) (q at n : ℕ)
    {x : C.Block} (is : C.block_with state.table.blocks q ≡ Some x) (has : HasPart h.heap q at n) (w : List ℕ) where
  abbrev left : List ℕ
  left = left_of (part v.items (x.at + at) n) w

  many : length left ≡ n
  many = length_left (part v.items (x.at + at) n) w ∙ ap length (seen parts q shown is at n has) ∙ part_length (bytes_at h.heap q) at n has

  has_left : HasPart h.heap q at (length left)
  has_left = subst (HasPart h.heap q at) (sym many) has

  same : (with_items v (put_part v.items (x.at + at) left)).items ≡ put_part v.items (x.at + at) left
  same = C.with_items-put_part v (x.at + at) left (in_memory parts q shown is at (length left) has_left)

  pub lent_sound : AreParts state (with_items v (put_part v.items (x.at + at) left)).items
  lent_sound = subst (AreParts state) (sym same) (parts_filled parts q shown is at left has_left (All-left_of _ w))

  pub lent_shown : holding_of state (with_items v (put_part v.items (x.at + at) left)).items (counted count n) ≡ after_lent q at n h w
  lent_shown =
      ap (λ l. holding_of state l (counted count n)) same ∙ holding_written parts q shown is at left has_left (All-left_of _ w) (λ k. counted k n)
      ∙ ap (λ b. record h { heap = after_write h.heap q at (left_of b w); written = counted h.written n }) (seen parts q shown is at n has)

-- The handles once an object's bytes are lent.
pub loan_joined : {h : Holding} {xs : List (Option C.Attributes)} {t : selectors.DescriptorTable} → AreJoined h xs t → (slot at n : ℕ) → HasPart h.heap slot at n → (w : List ℕ) → AreJoined (after_lent slot at n h w) xs t
loan_joined {h} {xs} {t} are slot at n has w = of_object _ refl has
  where
    of_bytes : (o : Object) → object_at h.heap slot ≡ Some o → (b : Option (List ℕ)) → o.bytes ≡ b → IsSomeAnd b (λ bytes. at + n ≤ length bytes) → AreJoined (after_lent slot at n h w) xs t
    of_bytes o there None e fits = absurd fits
    of_bytes o there (Some bytes) e fits =
        let long = left_length h.heap slot at n has w in
        written_joined are slot at _ bytes o there e (omega (arith, long, fits)) (All-left_of _ w) _

    of_object : (p : Option Object) → object_at h.heap slot ≡ p → IsSomeAnd (C.bytes_in p) (λ bytes. at + n ≤ length bytes) → AreJoined (after_lent slot at n h w) xs t
    of_object None there fits = absurd fits
    of_object (Some o) there fits = of_bytes o there o.bytes refl fits
