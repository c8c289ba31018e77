-- A load that is undone leaves all but its discards as it was.
use Rattle.w16_loading.proofs
use proofs.Common as C
use proofs.Common.{◌≡◌, ◌≢◌, ℕ, inl, inr, Bool, true, false, fold, Option, Some, None, IsSomeAnd, sym, ap, ◌∙◌, subst, false≢true, Heap, object_at, IsKeptOrDiscarded, Member, LoadingWorld}
use proofs.Common.{Fills, Failure, InTurn, heap_without, Closure, all_slots, given, segments_of, with_segment, bound, named, fills, Answers, GivesFrom, IsLoadingWorld}
use proofs.Undone.{chosen, IsNamed, fold_named}
use proofs.Fillings.{IsLost, SameRange, ranges, any_range, any_kept}
use proofs.Released.{released_heap, left_object, gone_object}
use proofs.{Named.named_heap, Named.free_slot, Given.filled_chosen}
use Rattle.std.specs.List.{AllByRecursion as Each}

-- The load that is undone.
module _ (answers : Answers) (old : LoadingWorld) (is : IsLoadingWorld old) (closure : Closure) (choice : C.Choice) (good : C.IsChoice old closure.found choice) (failure : Option Failure) (heap : Heap)
    (filled : InTurn (GivesFrom Fills answers) (named old closure choice).handles.heap (fills old closure choice) failure heap) where
  abbrev gone : ℕ → Bool
  gone q = C.is_member q (all_slots choice)

  abbrev begun : Heap
  begun = (named old closure choice).handles.heap

  named_is : IsNamed old (fold with_segment old (segments_of (given closure choice))) (segments_of (given closure choice))
  named_is = fold_named old (segments_of (given closure choice))

  begun_is : C.IsHeap begun
  begun_is = (named_heap old closure choice is.handles good)

  kept : C.IsHeap heap × ((q : ℕ) → Each (λ x. q ≢ x.slot) (fills old closure choice) → IsKeptOrDiscarded begun heap q)
  kept = any_kept answers begun heap (fills old closure choice) failure begun_is filled

  -- other objects were there before, and are as the fills left them
  other_kept : (q : ℕ) → gone q ≡ false → IsKeptOrDiscarded old.handles.heap (heap_without gone heap) q
  other_kept q t = turn (kept.1 q (C.Each-from (λ (x : C.Filling). q ≢ x.slot) (fills old closure choice) (λ x m e.
      out (subst (λ k. Member k (all_slots choice)) (sym e) (filled_chosen (bound old closure choice) closure.found choice.handles choice.slots x m)))))
    where
      out : Member q (all_slots choice) → ⊥
      out m = false≢true (sym t ∙ C.true-is_member q (all_slots choice) m)

      before : object_at begun q ≡ object_at old.handles.heap q
      before = named_is.others q (λ x m e. out (subst (λ k. Member k (all_slots choice)) (sym e) (chosen 0 closure.found choice.handles choice.slots x m)))

      after : object_at (heap_without gone heap) q ≡ object_at heap q
      after = left_object heap kept.0 gone q t

      lost : (p : Option C.Object) → IsSomeAnd p (IsLost heap q) → IsSomeAnd p (IsLost (heap_without gone heap) q)
      lost None h = h
      lost (Some p) h = (h.0, h.1, h.2, after ∙ h.3)

      turn : IsKeptOrDiscarded begun heap q → IsKeptOrDiscarded old.handles.heap (heap_without gone heap) q
      turn (inl e) = inl (after ∙ e ∙ before)
      turn (inr h) = inr (subst (λ p. IsSomeAnd p (IsLost (heap_without gone heap) q)) before (lost (object_at begun q) h))

  own_gone : (q : ℕ) → gone q ≡ true → object_at (heap_without gone heap) q ≡ object_at old.handles.heap q
  own_gone q t = gone_object heap kept.0 gone q t ∙ sym (C.unused_slot old.handles is.handles q (free_slot old closure choice good q (C.is_member-true q (all_slots choice) t)))

  range : SameRange old.handles.heap heap
  range = ranges old.handles.heap begun heap (record { lo = ap (λ (w : LoadingWorld). w.handles.heap.lo) named_is.rest; hi = ap (λ (w : LoadingWorld). w.handles.heap.hi) named_is.rest; grain = ap (λ (w : LoadingWorld). w.handles.heap.grain) named_is.rest })
      (any_range answers begun heap (fills old closure choice) failure begun_is filled)

  pub undone_discards : C.OnlyDiscards old.handles.heap (heap_without gone heap)
  undone_discards = record {
    sound = released_heap heap kept.0 gone;
    objects = λ q. elim (C.cases_Bool (gone q)) [ inl t ↦ inl (own_gone q t) | inr t ↦ other_kept q t ];
    rest = λ i. record (heap_without gone heap) { lo = range.lo i; hi = range.hi i; grain = range.grain i };
  }
