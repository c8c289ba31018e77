-- Far accesses: which are without a fault, what they keep, and that what was written is read back.
use Rattle.w16_model.proofs as model
use Rattle.w16_model.proofs.Common as C
use model.Common.{◌≡◌, ℕ, ◌+◌, ◌*◌, ◌≤◌, Bool, true, false, cond, ◌||◌, nat_lt, List, length, Option, Some, None, refl, ap, ◌∙◌, arith, Handles, Part, ◌-◌, sym, subst, AreHandles, selector_in, offset_in, Read, Write, Fill, IsSomeAnd, [], unwrap_or, part, Object, object_at, far_read, Bytes}
use model.Common.{Done, Fault, IsWritten}
use model.{Accesses.bytes_fault, Parts.All-repeated, KeptHandles.read_handles, KeptHandles.write_handles, KeptHeaps.bytes_in, FarLaws.far_effect_law}
use Rattle.w16_laws.specs.{Heaps.FarLaw, CallLaws.ReadBackLaw}
use Rattle.w16_model.specs.declared.FarFault.TheVariants.{Limit, BadSelector}
use Rattle.w16_model.specs.{declared.TheConstants.REACH}

-- an access to bytes that the selector reaches is without a fault
pub reached_fault : (handles : Handles) (selector offset n : ℕ) (p : Part) (bytes : List ℕ) → C.part_of_selector handles selector ≡ Some p → C.bytes_at handles.heap p.slot ≡ Some bytes → offset + n ≤ REACH → REACH * p.number + (offset + n) ≤ length bytes
    → C.far_fault handles selector offset n ≡ None
reached_fault handles selector offset n p bytes found has near fits =
    ap (λ s. elim s as (λ _. Option _) [ None ↦ Some BadSelector | Some p ↦ bytes_fault p (offset + n) (C.bytes_at handles.heap p.slot) ]) found
    ∙ ap (bytes_fault p _) has
    ∙ ap (λ b. cond {A = Option _} b (Some Limit) None) (ap (λ b. b || nat_lt (length bytes) (REACH * p.number + (offset + n))) (short REACH _ near) ∙ short _ _ fits)
  where
    short : (a b : ℕ) → b ≤ a → nat_lt a b ≡ false
    short a b le = turn _ refl
      where
        turn : (t : Bool) → nat_lt a b ≡ t → nat_lt a b ≡ false
        turn false t = t
        turn true t = absurd (omega (arith, le, C.ltb-true a b t))

-- each far access keeps what holds of handles
pub far_law : FarLaw
far_law old new (Read pointer count) answer is command step = subst AreHandles (sym step.1) (read_handles old is _ _ count)
far_law old new (Write pointer bytes) answer is command step = subst AreHandles (sym step.1) (write_handles old is (selector_in pointer) (offset_in pointer) bytes command)
far_law old new (Fill pointer count byte) answer is command step =
    subst AreHandles (sym step.1) (write_handles old is (selector_in pointer) (offset_in pointer) (C.repeated count byte) (All-repeated count byte command))

-- What was written is read back.
module _ (mid : Handles) (selector offset : ℕ) (slice : List ℕ) (p : Part) (object : Object) (after : List ℕ) (found : C.part_of_selector mid selector ≡ Some p) (there : object_at mid.heap p.slot ≡ Some object) (has : object.bytes ≡ Some after)
    (near : offset + length slice ≤ REACH) (fits : REACH * p.number + (offset + length slice) ≤ length after) where
  reads : (far_read mid selector offset (length slice)).0 ≡ Bytes (part after (REACH * p.number + offset) (length slice))
  reads = ap (λ f. (elim f as (λ _. C.FarAnswer × Handles) [
    | Some fault ↦ (Fault fault, mid)
    | None ↦ (Bytes (part (C.far_bytes mid selector) (C.far_at mid selector offset) (length slice)), record mid { heap = C.after_touch mid.heap (C.far_slot mid selector) })
  ]).0) (reached_fault mid selector offset (length slice) p after found (ap bytes_in there ∙ has) near fits)
      ∙ ap (λ s. let p : Part = unwrap_or s (record { slot = 0; number = 0 }) in Bytes (part (unwrap_or (C.bytes_at mid.heap p.slot) []) (REACH * p.number + offset) (length slice))) found
      ∙ ap (λ (b : Option (List ℕ)). Bytes (part (unwrap_or b []) (REACH * p.number + offset) (length slice))) (ap bytes_in there ∙ has)

abbrev WrittenTo : Handles → Handles → ℕ → List ℕ → Type 0
WrittenTo old mid pointer slice = C.Reaches old (selector_in pointer) (offset_in pointer + length slice) (λ begin before after. IsWritten before (begin + offset_in pointer) slice after) mid

pub read_back_law : ReadBackLaw
read_back_law old mid new pointer slice answer is written step =
    let r = far_effect_law old mid (Write _ slice) Done is written in step.0 ∙ by_object r (object_at old.heap _) r.object
  where
    by_bytes : (r : WrittenTo old mid pointer slice) (o : Object) (b : Option (List ℕ)) → IsSomeAnd b (λ bytes. (after : List ℕ) × IsWritten bytes (REACH * r.number + offset_in pointer) slice after × (object_at mid.heap r.slot ≡ Some (record o { bytes = Some after })))
        → (far_read mid (selector_in pointer) (offset_in pointer) (length slice)).0 ≡ Bytes slice
    by_bytes r o None h = absurd h
    by_bytes r o (Some bytes) h =
        let w = h.1 in
        reads mid _ _ slice (record { slot = r.slot; number = r.number }) (record o { bytes = Some h.0 }) h.0
        (ap (λ h. C.part_of_selector h (selector_in pointer)) r.rest ∙ r.found) h.2 refl r.near (omega (arith, w.fits, w.long)) ∙ ap Bytes w.written

    by_object : (r : WrittenTo old mid pointer slice) (p : Option Object) → IsSomeAnd p (λ o. IsSomeAnd o.bytes (λ bytes. (after : List ℕ) × IsWritten bytes (REACH * r.number + offset_in pointer) slice after × (object_at mid.heap r.slot ≡ Some (record o { bytes = Some after }))))
        → (far_read mid (selector_in pointer) (offset_in pointer) (length slice)).0 ≡ Bytes slice
    by_object r None h = absurd h
    by_object r (Some o) h = by_bytes r o _ h
