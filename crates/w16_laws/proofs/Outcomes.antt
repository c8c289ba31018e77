-- An allocation isn't both refused and answered.
use Rattle.w16_model.proofs.Common.{arith, ℕ, Heap, Bool, rounded_size, alloc_options, true, ◌≡◌, None, sym, ◌∙◌, ap, inl, inr, false, ◌==◌, ◌&&◌, ◌<◌}
use Rattle.w16_model.proofs.{Runs.unused, Runs.some_slots, Prefixes.none_about}
use Rattle.w16_model.proofs.Common as C
use Rattle.w16_model.specs.{declared.RoomOptions.RoomOptions, declared.TheConstants.GMEM_MOVEABLE}
use Rattle.w16_laws.specs.Heaps.{OutcomeLaw}

-- what an answered allocation has made
abbrev Made : C.Handles → ℕ → ℕ → ℕ → Heap → Bool → Type 0
Made old flags size slot new absent = C.MatchBool absent (C.Enters old.heap slot (C.kind_asked flags) new) (C.Allocates old.heap slot (rounded_size size) (C.kind_asked flags) 0 (alloc_options flags) true new)

-- An allocation that was answered is none of those that are refused.
module _ (old : C.Handles) (is : C.AreHandles old) (flags size : ℕ) where
  -- it had a prefix
  has_prefix : (slot : ℕ) (options : RoomOptions) (p : C.Option ℕ) (becomes : C.Object → Type 0) (order : C.Object → C.List ℕ → C.List ℕ) (new : Heap) → C.Request old.heap slot (record { options = options; prefix = p; becomes = becomes; order = order }) true new → p ≡ None → ⊥
  has_prefix slot options None becomes order new r none = C.false≢true (sym r.0)
  has_prefix slot options (C.Some k) becomes order new r none = cc

  not_refused : (slot : ℕ) (new : Heap) → C.object_at old.heap slot ≡ None → C.Allocates old.heap slot (rounded_size size) (C.kind_asked flags) 0 (alloc_options flags) true new → C.discards_needed old.heap (rounded_size size) None (alloc_options flags) ≡ None → ⊥
  not_refused slot new unused allocated none = has_prefix slot (alloc_options flags) (C.discards_needed old.heap (rounded_size size) (C.Some slot) (alloc_options flags)) (C.IsNew (alloc_options flags).zero (rounded_size size) (C.kind_asked flags) 0) (C.with_newest slot) new allocated.request
      (none_about old.heap is.heap slot unused (rounded_size size) (alloc_options flags) ∙ none)

  -- a fixed object of no bytes isn't allocated
  nothing_rounded : size ≡ 0 → rounded_size size ≡ 0
  nothing_rounded none = ap rounded_size none

pub outcome_law : OutcomeLaw
outcome_law old new flags size handle is answers refused = elim refused [
  | inl fixed ↦ made_fixed fixed
  | inr others ↦ elim others [
    | inl large ↦ omega (arith, large, answers.small)
    | inr others ↦ elim others [
      | inl full ↦ full answers.slot answers.free
      | inr room ↦ made_room room
    ]
  ]
]
  where
    made_fixed : (size ≡ 0) × (C.has_flag flags GMEM_MOVEABLE ≡ false) → ⊥
    made_fixed h = turn ((size == 0) && C.has_flag flags GMEM_MOVEABLE) (ap (λ b. (size == 0) && b) h.1) answers.made
      where
        and_false : (b : Bool) → (b && false) ≡ false
        and_false true = C.refl
        and_false false = C.refl

        turn : (b : Bool) → b ≡ ((size == 0) && false) → Made old flags size answers.slot new.heap b → ⊥
        turn true e m = C.false≢true (sym (and_false (size == 0)) ∙ sym e)
        turn false e m = omega (arith, m.some, nothing_rounded old is flags size h.0)

    made_room : (0 < size) × (C.discards_needed old.heap (rounded_size size) None (alloc_options flags) ≡ None) → ⊥
    made_room h = turn ((size == 0) && C.has_flag flags GMEM_MOVEABLE) (ap (λ b. b && C.has_flag flags GMEM_MOVEABLE) (C.ne_eqb size 0 (λ e. absurd (omega (arith, e, h.0))))) answers.made
      where
        turn : (b : Bool) → b ≡ false → Made old flags size answers.slot new.heap b → ⊥
        turn true e m = C.false≢true (sym e)
        turn false e m = not_refused old is flags size answers.slot new.heap (unused old is answers.slot (C.slots_for (rounded_size size)) (some_slots (rounded_size size)) answers.free) m h.1
