-- A local allocation that is answered isn't refused.
use Rattle.w16_machine.proofs.Common as C
use Rattle.w16_machine.proofs.Common.{◌≡◌, ℕ, ◌<◌, inl, inr, Bool, true, false, ◌&&◌, ◌==◌, Some, None, refl, sym, ap, ◌∙◌, arith, false≢true, Heap, IsNew, asked, World, Acts, heap_of, rounded_up, AllocatesObject, local_options}
use Rattle.w16_machine.specs.declared.local.TheConstants.{LMEM_MOVEABLE}
use Rattle.w16_laws.specs.LocalHeaps.{OutcomeLaw}

-- what isn't asked to be without bytes was made with some, for which there was room
module _ (old new : World) (at : C.LocalHeap) (flags size id answer : ℕ) where
  abbrev Made : Bool → Type 0
  Made b = C.MatchBool b ((next : Heap) × C.EntersObject (heap_of at) flags id answer next × C.Becomes old at next new) (Acts old at (AllocatesObject (heap_of at) flags size id answer) new)

  with_bytes : (b : Bool) → b ≡ false → Made b → Acts old at (AllocatesObject (heap_of at) flags size id answer) new
  with_bytes true e m = absurd (false≢true (sym e))
  with_bytes false e m = m

  roomed : C.IsHeap (heap_of at) → C.IsLowestFree (heap_of at) id → Acts old at (AllocatesObject (heap_of at) flags size id answer) new → C.discards_needed (heap_of at) (rounded_up size) None (local_options flags) ≡ None → ⊥
  roomed is free a none = none_some (sym none ∙ sym (C.none_about (heap_of at) is id free.free.1 (rounded_up size) (local_options flags))
      ∙ (asked (heap_of at) id (record {
        options = local_options flags;
        prefix = C.discards_needed (heap_of at)
            (rounded_up size) (Some id) (local_options flags);
        becomes = IsNew (local_options flags).zero (rounded_up size)
            (C.local_kind flags) 0;
        order = C.with_newest id;
      }) _ a.acted.allocated.request).1)
    where
      none_some : {k : ℕ} → ◌≡◌ {A = C.Option ℕ} None (Some k) → ⊥
      none_some e = cc

pub outcome_law : OutcomeLaw
outcome_law old new at flags size id answer is free made (inl (inl fixed)) = nothing size fixed.0 (with_bytes old new at flags size id answer (C.is_absent_asked flags size) (ap (λ b. (size == 0) && b) fixed.1 ∙ never (size == 0)) made).acted.allocated.some
  where
    never : (b : Bool) → (b && false) ≡ false
    never true = refl
    never false = refl

    nothing : (n : ℕ) → n ≡ 0 → 0 < rounded_up n → ⊥
    nothing n e lt = omega (arith, e, lt)
outcome_law old new at flags size id answer is free made (inl (inr full)) = full id free.free
outcome_law old new at flags size id answer is free made (inr room) =
    roomed old new at flags size id answer is free (with_bytes old new at _ _ id _ _ (ap (λ b. b && C.has_flag flags LMEM_MOVEABLE) (C.ne_eqb size 0 (λ e. absurd (omega (arith, e, room.0))))) made) room.1
