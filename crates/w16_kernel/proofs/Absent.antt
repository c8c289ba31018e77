-- An access that met an object without bytes: which object that is, and its handle.
use Rattle.w16_kernel.proofs
use proofs.Common as C
use proofs.Common.{None, Option, Some, ◌%◌, ◌+◌, ◌/◌, IsAbsent, handle_of, Bool, Discardable, FarAnswer, FarFault, Fill, Fixed, Handles, Kind, List, Moveable, Object, Read}
use proofs.Common.{Write, ap, arith, bytes_at, cond, false, false≢true, far_fault, length, object_at, offset_in, refl, selector_in, sym}
use proofs.Common.{true, ℕ, ◌<◌, ◌∙◌, ◌≡◌, Part, dword_of}
use Rattle.w16_model.specs.declared.FarFault.TheVariants.{BadSelector, NotPresent, Limit}
use Rattle.w16_model.specs.{Far.is_past, Handles.part_of_selector}
use Rattle.std.specs.FinMap as finmap

-- An access whose fault is that its object has no bytes: its selector leads to one without.
module _ (handles : Handles) (selector : ℕ) where
  pub by_fault : (offset n : ℕ) → far_fault handles selector offset n ≡ Some NotPresent → IsAbsent handles selector
  by_fault offset n e = of_part (part_of_selector handles selector) refl e
    where
      limit : (b : Bool) → ◌≡◌ {A = Option FarFault} (cond b (Some Limit) None) (Some NotPresent) → ⊥
      limit true e = cc
      limit false e = cc

      of_bytes : (p : Part) → part_of_selector handles selector ≡ Some p → (b : Option (List ℕ)) → bytes_at handles.heap p.slot ≡ b
          → ◌≡◌ {A = Option FarFault} (elim b as (λ _. Option FarFault) [ None ↦ Some NotPresent | Some bytes ↦ cond (is_past (length bytes) p (offset + n)) (Some Limit) None ]) (Some NotPresent)
          → IsAbsent handles selector
      of_bytes p named None none e = record { place = p; named = named; without_bytes = none }
      of_bytes p named (Some bytes) some e = absurd (limit (is_past (length bytes) p (offset + n)) e)

      of_part : (s : Option Part) → part_of_selector handles selector ≡ s → (elim s as (λ _. Option FarFault) [
        | None ↦ Some BadSelector
        | Some p ↦ elim (bytes_at handles.heap p.slot) as (λ _. Option FarFault) [ None ↦ Some NotPresent | Some bytes ↦ cond (is_past (length bytes) p (offset + n)) (Some Limit) None ]
      ]) ≡ Some NotPresent → IsAbsent handles selector
      of_part None named e = cc
      of_part (Some p) named e = of_bytes p named (bytes_at handles.heap p.slot) refl e

pub slot_in_handle : (kind : Kind) (slot : ℕ) → handle_of kind slot / 8 ≡ slot
slot_in_handle Fixed slot = omega arith
slot_in_handle Moveable slot = omega arith
slot_in_handle Discardable slot = omega arith

module _ (handles : Handles) (is : C.AreHandles handles) (selector : ℕ) (absent : IsAbsent handles selector) (few : selector < 65536) where
  -- the selector is one of the object's
  named : (selector ≡ C.selector_of (absent.place.slot + absent.place.number)) × (absent.place.number < C.slots_at handles.attributes absent.place.slot)
  named = let r = rw absent.named at (C.reach_law handles selector is) in (r.0, r.1)

  object : (o : Object) × (object_at handles.heap absent.place.slot ≡ Some o)
  object = turn (object_at handles.heap absent.place.slot) refl (sym (is.attributed absent.place.slot) ∙ has (finmap.get handles.attributes absent.place.slot) refl)
    where
      has : (p : Option C.Attributes) → finmap.get handles.attributes absent.place.slot ≡ p → C.is_some p ≡ true
      has None e = absurd (omega (arith, named.1, C.slots_none handles.attributes absent.place.slot e))
      has (Some a) e = refl

      turn : (p : Option Object) → object_at handles.heap absent.place.slot ≡ p → C.is_some p ≡ true → (o : Object) × (object_at handles.heap absent.place.slot ≡ Some o)
      turn None e t = absurd (false≢true t)
      turn (Some o) e t = (o, e)

  abbrev handle : ℕ
  handle = handle_of object.0.kind absent.place.slot

  told : C.global_handle handles selector ≡ dword_of selector handle
  told = ap (λ (p : Option Part). elim p as (λ _. ℕ) [
    | None ↦ 0
    | Some p ↦ C.unwrap_or
        (C.option_map (λ (o : Object). dword_of selector (handle_of o.kind p.slot)) (object_at handles.heap p.slot)) 0
  ]) absent.named
      ∙ ap (λ (p : Option Object). C.unwrap_or (C.option_map (λ (o : Object). dword_of selector (handle_of o.kind absent.place.slot)) p) 0) object.1

  low : (kind : Kind) → dword_of selector (handle_of kind absent.place.slot) % 65536 ≡ handle_of kind absent.place.slot
  low Fixed = omega (arith, named.0, few)
  low Moveable = omega (arith, named.0, few)
  low Discardable = omega (arith, named.0, few)

  -- Its handle is in the low word of what GlobalHandle tells of the selector.
  module _ (name : ℕ) (name_is : name ≡ offset_in (C.global_handle handles selector)) where
    same : name ≡ handle
    same = name_is ∙ ap (λ n. n % 65536) told ∙ low object.0.kind

    at : name / 8 ≡ absent.place.slot
    at = ap (λ n. n / 8) same ∙ slot_in_handle object.0.kind _

    pub slot_is : C.far_slot handles selector ≡ name / 8
    slot_is = rw (absent.named, C.far_slot) (sym at)

    pub lacks : C.is_owned handles (name / 8) ≡ true → C.LacksBytes handles name
    lacks owned = record {
      named = (C.names_law handles name absent.place.slot).0.1 (rw object.1 same) ∙ ap Some (sym at);
      owned = owned;
      without_bytes = ap (bytes_at handles.heap) at ∙ absent.without_bytes;
    }
