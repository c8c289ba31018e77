-- What local calls leave still.
use Rattle.w16_machine.proofs
use proofs.Common as C
use proofs.Common.{◌≡◌, ℕ, inl, inr, Bool, true, false, cond, IfOk, Option, Some, None, Ok, Err, refl, sym, ap, ◌∙◌, subst, false≢true, Heap, removed, Word, Done, World, Acts, Stays, heap_of, DS}
use proofs.LocalOutcomes.{IsRoomed, IsStepped, grow_asks}
use proofs.{LocalCurrent.current_becomes, LocalOthers.altered_is}
use Rattle.std.specs.FinMap as finmap
use Rattle.w16_model.specs.declared.Refusal.TheVariants as refusals
use Rattle.w16_laws.specs.LocalHeaps.{only_tells, QueriesLaw, PlacesLaw}

-- Calls that only tell.

told : (old new : World) (command : C.Command C.OfLocals) (answer : ℕ) → only_tells command ≡ true → C.Answers old command answer new → new ≡ old
told old new (C.LocalSize name) answer tells step = step.1
told old new (C.LocalFlags name) answer tells step = step.1
told old new (C.LocalHandle pointer) answer tells step = step.1
told old new (C.LocalCompact size) answer tells step = in_heap _ step
  where
    for_none : (at : C.LocalHeap) (b : Bool) → b ≡ true → C.MatchBool b (Stays old (C.most_room (heap_of at)) answer new) (Acts old at (C.MakesRoom (heap_of at) size answer) new) → new ≡ old
    for_none at true e s = s.1
    for_none at false e s = absurd (false≢true e)

    in_heap : (p : Option C.LocalHeap) → C.MatchOption p (Stays old 0 answer new) (C.CompactsIn old size answer new) → new ≡ old
    in_heap None s = s.1
    in_heap (Some at) s = for_none at _ tells s
told old new other answer tells step = absurd (false≢true tells)

pub queries_law : QueriesLaw
queries_law old new (DS selector) Done tells step = absurd (false≢true tells)
queries_law old new command (Word answer) tells step = told old new command answer tells step
queries_law old new command reply tells step = absurd step

-- Calls that ask for no room.

module _ (heap : Heap) (q pointer : ℕ) where
  abbrev Stood : Heap → Type 0
  Stood next = finmap.get next.places q ≡ Some pointer → finmap.get heap.places q ≡ Some pointer

  same_places : (next : Heap) → next.places ≡ heap.places → Stood next
  same_places next e at = ap (λ m. finmap.get m q) (sym e) ∙ at

  -- one place fewer
  fewer_places : (next : Heap) (id : ℕ) → next.places ≡ finmap.remove heap.places id → Stood next
  fewer_places next id e at = elim (C.cases_eq q id) [
    | inl f ↦ absurd (never (sym (C.taken_here heap.places id q f) ∙ ap (λ m. finmap.get m q) (sym e) ∙ at))
    | inr d ↦ sym (C.taken_other heap.places id q d) ∙ ap (λ m. finmap.get m q) (sym e) ∙ at
  ]
    where
      never : ◌≡◌ {A = Option ℕ} None (Some pointer) → ⊥
      never f = cc

  freed : (id : ℕ) → IfOk (C.after_free heap id) Stood
  freed id = turn (C.object_at heap id)
    where
      unless : (b : Bool) → IfOk (cond b (Err refusals.Locked) (Ok (removed heap id))) Stood
      unless true = tt
      unless false = fewer_places (removed heap id) id refl

      turn : (p : Option C.Object) → IfOk (elim p as (λ _. C.Result Heap C.Refusal) [ None ↦ Ok heap | Some o ↦ cond (C.nat_lt 0 o.locks) (Err refusals.Locked) (Ok (removed heap id)) ]) Stood
      turn None = same_places heap refl
      turn (Some o) = unless (C.nat_lt 0 o.locks)

  module _ (command : C.Command C.OfLocals) (none : C.asks_for_room command ≡ false) where
    stepped : (next : Heap) → IsStepped heap command next → Stood next
    stepped next (inl (id, named, altered)) = altered_is heap id Stood (same_places heap refl) (λ new p put places order. same_places new places) next altered
    stepped next (inr (flags, size, id, t, enters)) = same_places next (ap (λ h. h.places) enters.entered)

    roomed : (answer : ℕ) (next : Heap) → IsRoomed heap command answer next → Stood next
    roomed answer next (inl (asks, made)) = absurd (false≢true (sym none ∙ asks))
    roomed answer next (inr (id, named, inl up)) = subst (λ r. IfOk r Stood) up.1 (freed id)
    roomed answer next (inr (id, named, inr done)) = fewer_places next id (ap (λ h. h.places) (C.discard_absent heap next id done))

pub places_law : PlacesLaw
places_law old new command reply at after q pointer step c e none =
    let heap = heap_of at in
    current_becomes old at c command reply new (Stood heap q _) (same_places heap q _ heap refl) (stepped _ q _ _ none) (roomed _ q _ _ none) (λ answer after e g. absurd (false≢true (sym none ∙ grow_asks command g.may))) _ e step
