-- Far accesses to bytes that are there.
use Rattle.w16_global.proofs
use proofs.Common as C
use proofs.Common.{◌≡◌, ℕ, ◌+◌, ◌≤◌, List, length, true, false, None, refl, sym, ap, ◌∙◌, subst, ◌&&◌, part, after_touch, Handles, Gives, far_fault, data_write, far_write, after_write, refuses_write, Reached}
use proofs.{Reach.no_fault, Loans.part_length}
use Rattle.w16_global.specs.Loans.{bytes_from}
use Rattle.w16_model.specs.Far as access

-- Where an access reaches.
module _ (w : Handles) (write : C.Bool) (selector offset n slot at : ℕ) (reaches : (slot ≡ C.far_slot w selector) × (at ≡ C.far_at w selector offset) × (C.access_fault w write selector offset n ≡ None)) where
  fine : far_fault w selector offset n ≡ None
  fine = (no_fault w write selector offset n reaches.2).0

  found : Reached w slot (at + n)
  found = subst (λ q. Reached w q (at + n)) (sym reaches.0) (subst (λ k. Reached w (C.far_slot w selector) (k + n)) (sym reaches.1) (C.reached w selector offset n fine))

  -- it has the part that is asked for
  pub has_part : C.HasPart w.heap slot at n
  has_part = subst (λ b. C.IsSomeAnd b (λ bytes. at + n ≤ length bytes)) (sym found.here) found.fits

  pub part_known : bytes_from w.heap slot at n ≡ part (C.far_bytes w selector) (C.far_at w selector offset) n
  part_known = λ i. bytes_from w.heap (reaches.0 i) (reaches.1 i) n

  pub length_known : length (bytes_from w.heap slot at n) ≡ n
  length_known = part_length (C.bytes_at w.heap slot) at n has_part

  -- What it leaves where it answers a place.
  module _ {after : Handles} (then_is : after ≡ record w { heap = after_touch w.heap slot }) where
    pub there_after : C.HasPart after.heap slot at n
    there_after = subst (λ v. C.HasPart v.heap slot at n) (sym then_is) has_part

    pub read_after : Gives (C.far_read w selector offset n) (access.FarAnswer.Bytes (bytes_from after.heap slot at n)) after
    read_after = let none = fine in rw (none, C.far_read) (
      ap access.FarAnswer.Bytes (ap (λ v. bytes_from v.heap slot at n) then_is ∙ part_known),
      then_is ∙ ap (λ k. record w { heap = after_touch w.heap k }) reaches.0,
    )

    pub write_after : write ≡ true → (new : List ℕ) → length new ≡ n → Gives (far_write w selector offset new) access.FarAnswer.Done (record after { heap = after_write after.heap slot at new })
    write_after writes new long =
        let may : refuses_write w selector ≡ false = ap (λ b. b && refuses_write w selector) (sym writes) ∙ (no_fault w write selector offset n reaches.2).1 in
        let none : access.far_fault w selector offset (length new) ≡ None = ap (access.far_fault w selector offset) long ∙ fine in
        subst (λ v. Gives (far_write w selector offset new) access.FarAnswer.Done (record v { heap = after_write v.heap slot at new })) (sym then_is)
        (rw (may, none, data_write) (refl, λ i. record w { heap = after_touch (after_write w.heap (reaches.0 i) (reaches.1 i) new) (reaches.0 i) }))
