-- Which requests are answered.
use Rattle.w16_model.proofs.Common as C
use Rattle.w16_model.proofs.Common.{◌≡◌, ℕ, Bool, true, false, not, ◌&&◌, ◌||◌, nat_le, if◌then◌else◌, MatchBool, List, length, take, Option, Some, None, is_some, sym, ap, ◌∙◌, Kind, fits_in_place, growth_for, Heap, Object, with_object, Grows, IsNew, IsGrown, discards_needed, snapshot_of}
use Rattle.w16_model.specs.{Ends.is_answered, Ends.is_grown, Ends.is_resized, Law.AnswerLaw}

module _ (old new : Heap) (id n : ℕ) (options : C.RoomOptions) (answered : Bool) where
  by_prefix : (p : Option ℕ) (becomes : Object → Type 0) (order : Object → List ℕ → List ℕ) → C.Request old id (record { options = options; prefix = p; becomes = becomes; order = order }) answered new → answered ≡ is_some p
  by_prefix None becomes order r = r.0
  by_prefix (Some k) becomes order r = r.0

  allocates : (kind : Kind) (locks : ℕ) → C.Allocates old id n kind locks options answered new → answered ≡ is_some (discards_needed old n (Some id) options)
  allocates kind locks a = by_prefix (discards_needed old n (Some id) options) (IsNew options.zero n kind locks) (C.with_newest id) a.request

  grows : (o : Object) → Grows old id o n options answered new → answered ≡ is_grown old id o n options
  grows o = turn (C.is_pinned_object o && not options.may_move)
    where
      placed : (fits : Bool) → MatchBool fits ((answered ≡ true) × ((grown : Object) × IsGrown options.zero n o grown × (new ≡ with_object old id grown))) ((answered ≡ false) × (new ≡ old)) → answered ≡ fits
      placed true g = g.0
      placed false g = g.0

      turn : (held : Bool) → MatchBool held
          (MatchBool (fits_in_place (snapshot_of old) n id) ((answered ≡ true) × ((grown : Object) × IsGrown options.zero n o grown × (new ≡ with_object old id grown))) ((answered ≡ false) × (new ≡ old)))
          (C.Request old id (record { options = options; prefix = growth_for (snapshot_of old) n id options; becomes = IsGrown options.zero n o; order = λ _ order. order }) answered new × (options.compact ≡ false → answered ≡ true → C.StaysOrMovesToHole old id n new))
          → answered ≡ (if held then fits_in_place (snapshot_of old) n id else is_some (growth_for (snapshot_of old) n id options))
      turn true g = placed (fits_in_place (snapshot_of old) n id) g
      turn false g = by_prefix (growth_for (snapshot_of old) n id options) (IsGrown options.zero n o) (λ _ order. order) g.0

  resizes : (o : Object) → C.ReallocatesObject old id o n options answered new → answered ≡ is_resized old id o n options
  resizes o = turn o.bytes
    where
      cut : (b : Bool) (kept : Object) → MatchBool b ((answered ≡ true) × (new ≡ with_object old id kept)) (Grows old id o n options answered new) → answered ≡ (b || is_grown old id o n options)
      cut true kept g = g.0
      cut false kept g = grows o g

      turn : (b : Option (List ℕ)) → C.MatchOption b (C.Allocates old id n o.kind o.locks options answered new) (λ bytes. MatchBool (nat_le n (length bytes)) ((answered ≡ true) × (new ≡ with_object old id (record o { bytes = Some (take n bytes) }))) (Grows old id o n options answered new))
          → answered ≡ (elim b [ None ↦ is_some (discards_needed old n (Some id) options) | Some bytes ↦ nat_le n (length bytes) || is_grown old id o n options ])
      turn None a = allocates o.kind o.locks a
      turn (Some bytes) g = cut (nat_le n (length bytes)) (record o { bytes = Some (take n bytes) }) g

  reallocates : C.Reallocates old id n options answered new → answered ≡ is_answered old id n options
  reallocates r = turn (C.object_at old id) r.object
    where
      turn : (p : Option Object) → C.IsSomeAnd p (λ o. C.ReallocatesObject old id o n options answered new) → answered ≡ (elim p [ None ↦ is_some (discards_needed old n (Some id) options) | Some o ↦ is_resized old id o n options ])
      turn None h = absurd h
      turn (Some o) h = resizes o h

pub answer_law : AnswerLaw
answer_law old new id n options answered = (
  (λ kind locks none a. allocates old new id n _ _ kind locks a ∙ sym (ap (λ p. elim p as (λ _. Bool) [ None ↦ is_some (discards_needed old n (Some id) options) | Some o ↦ is_resized old id o n options ]) none)),
  reallocates old new id n _ _,
)
