-- Bytes that slide come along, and others stay.
use Rattle.w16_holes.proofs
use proofs.Common as C
use proofs.Common.{ℕ, ◌≡◌, ◌≤◌, ◌+◌, ◌⊎◌, List, length, arith, refl, sym, ap, ◌∙◌, subst, inl, inr, Span, part, put_part, length-put_part, IsUsed}
use proofs.Write.{AreSameIn-put_part}

-- bytes that slide
module _ (at to size : ℕ) (second third : List ℕ) (slid : third ≡ put_part second to (part second at size)) (source : at + size ≤ length second) (target : to + size ≤ length second) where
  size_is : length (part second at size) ≡ size
  size_is = C.length-part second at size source

  long_slid : length third ≡ length second
  long_slid = ap length slid ∙ length-put_part second to (part second at size) (let n = size_is in omega arith)

  pub part_slid : part third to size ≡ part second at size
  part_slid = ap (λ (ys : List ℕ). part ys to size) slid ∙ C.part-put_part second to (part second at size) size size_is (omega arith)

  -- what is not the target stays
  stays : (p m : ℕ) → (p + m ≤ to) ⊎ (to + size ≤ p) → part third p m ≡ part second p m
  stays p m out = ap (λ (ys : List ℕ). part ys p m) slid ∙ (let n = size_is in let moved = part second at size in elim out [
    | inl below ↦ C.part_below (put_part second to moved) second p m to below (C.take-put_part second to moved to (omega arith) (omega arith))
    | inr above ↦ C.part_above (put_part second to moved) second p m (to + length moved) (omega arith) (C.drop-put_part second to moved (to + length moved) (omega arith) (omega arith))
  ])

  -- holes that the target does not meet keep their bytes
  pub free_stays : (mid : List Span) → IsUsed to (to + size) mid → C.AreSameIn mid second third
  free_stays mid used =
      let n = size_is in
      subst (C.AreSameIn mid second) (sym slid) (AreSameIn-put_part mid second to (part second at size) (omega arith) (subst (λ (k : ℕ). IsUsed to (to + k) mid) (sym n) used))

-- between a part taken and one put
module _ (at to size : ℕ) (first second third last : List ℕ) (before after : List Span) (take_same : C.AreSameOutside before first second) (slid : third ≡ put_part second to (part second at size))
    (put_same : C.AreSameOutside after third last) (source : at + size ≤ length first) (target : to + size ≤ length first) where
  source_then : at + size ≤ length second
  source_then = let long = take_same.long in omega arith

  target_then : to + size ≤ length second
  target_then = let long = take_same.long in omega arith

  pub come_along : IsUsed at (at + size) before → IsUsed to (to + size) after → part last to size ≡ part first at size
  come_along own new = put_same.same to size new ∙ part_slid at to size second third slid source_then target_then ∙ take_same.same at size own

  pub others_stay : C.AreSameBut to size before after first last
  others_stay = record {
    long = put_same.long ∙ long_slid at to size second third slid source_then target_then ∙ take_same.long;
    same = λ p m one two out. put_same.same p m two ∙ stays at to size second third slid source_then target_then p m out ∙ take_same.same p m one;
  }

-- the same of bytes that only slide
pub slid_alone : (at to size : ℕ) (first last : List ℕ) (before after : List Span) → last ≡ put_part first to (part first at size) → at + size ≤ length first → to + size ≤ length first → C.AreSameBut to size before after first last
slid_alone at to size first last before after slid source target =
    others_stay at to size first first last last before after (record { long = refl; same = λ p m used. refl }) slid (record { long = refl; same = λ p m used. refl }) source target
