-- A local heap that is gone doesn't come back.
use Rattle.w16_machine.proofs.Common.{World, ℕ, ◌≡◌, None, Some, ◌≢◌, ap, ◌∙◌, inl, inr, ◌⊎◌, OfLocals, Word, Handles, [], ◌∷◌}
use Rattle.w16_machine.proofs.{LocalFacts.current_there, LocalOutcomes.Outcome, LocalOutcomes.outcome, LocalLeft.left_is, LocalLeft.left_over}
use Rattle.std.specs.FinMap as finmap
use Rattle.w16_machine.proofs.Common as C
use Rattle.std.specs.List.{AllByRecursion as Each}
use Rattle.w16_laws.specs.LocalHeaps.{IsBegun, NeverBackLaw, BeginsNone, GoneLaw}
use Rattle.w16_loading.specs.Families.AnyCommand.{any}

-- where there is none there is none afterwards
module _ (old new : World) (slot : ℕ) (none : finmap.get old.heaps slot ≡ None) where
  -- the current heap isn't here
  unlike : (at : C.LocalHeap) → C.current_heap old ≡ Some at → slot ≢ at.slot
  unlike at c e = never (C.sym (ap (finmap.get old.heaps) e ∙ (current_there old at c).table) ∙ none)
    where
      never : ◌≡◌ {A = C.Option C.Table} (Some at.table) None → ⊥
      never e = cc

  -- a table that is put in the current heap's place is put elsewhere
  put_elsewhere : (at : C.LocalHeap) → C.current_heap old ≡ Some at → (t : C.Table) → new.heaps ≡ finmap.insert old.heaps at.slot t → finmap.get new.heaps slot ≡ None
  put_elsewhere at c t put = elim (C.cases_eq slot at.slot) [
    | inl e ↦ absurd (unlike at c e)
    | inr d ↦ ap (λ m. finmap.get m slot) put ∙ C.inserted_other old.heaps at.slot t slot d ∙ none
  ]

  called : (command : C.Command C.OfLocals) (answer : ℕ) → Outcome old command answer new → (finmap.get new.heaps slot ≡ None) ⊎ IsBegun (any OfLocals command) (Word answer) new slot
  called command answer (inl same) = inl (ap (λ w. finmap.get w.heaps slot) same ∙ none)
  called command answer (inr (inl init)) = elim (C.cases_eq slot init.begun.slot) [
    | inl e ↦ inr (record {
      selector = init.selector;
      start = init.start;
      end = init.end;
      asked = ap (λ c. (any OfLocals c)) init.asked;
      answered = ap Word init.answered;
      range = init.begun.range;
      begun = ap (λ w. finmap.get w.heaps slot) init.rest ∙ C.inserted_here old.heaps init.begun.slot (C.new_table init.begun.range) slot e;
    })
    | inr d ↦ inl (ap (λ w. finmap.get w.heaps slot) init.rest ∙ C.inserted_other old.heaps init.begun.slot (C.new_table init.begun.range) slot d ∙ none)
  ]
  called command answer (inr (inr (at, c, inl (next, stepped, becomes)))) = inl (put_elsewhere at c becomes.table (ap (λ w. w.heaps) becomes.rest))
  called command answer (inr (inr (at, c, inr (inl acts)))) = inl (put_elsewhere at c acts.table (ap (λ w. w.heaps) acts.rest))
  called command answer (inr (inr (at, c, inr (inr g)))) =
      let handles : Handles = g.grows.lengthens.handles in
      inl (elim (C.cases_eq slot at.slot) [
        | inl e ↦ absurd (unlike at c e)
        | inr d ↦
            ap (λ w. finmap.get w.heaps slot) g.grows.grown.rest
            ∙ C.inserted_other (finmap.insert (C.left_in handles.heap old.heaps) at.slot (C.longer at g.grows.size g.grows.lengthens.bytes).table) at.slot g.grows.grown.table slot d
            ∙ C.inserted_other (C.left_in handles.heap old.heaps) at.slot (C.longer at g.grows.size g.grows.lengthens.bytes).table slot d
            ∙ left_is handles.heap old.heaps slot ∙ ap (λ p. left_over p (C.bytes_at handles.heap slot)) none
      ])

pub never_back_law : (honest : Type 0) → NeverBackLaw honest
never_back_law honest format old new (any _ (C.DS selector)) C.Done step slot none = inl (ap (λ w. finmap.get w.heaps slot) step ∙ none)
never_back_law honest format old new (any OfLocals command) (Word answer) step slot none = called old new _ none _ _ (outcome old _ _ new step)
never_back_law honest format old new (any OfLocals command) reply step slot none = absurd step
never_back_law honest format old new command reply step slot none = inl (ap (λ w. finmap.get w.heaps slot) step.1 ∙ left_is new.loading.handles.heap _ slot ∙ ap (λ p. left_over p (C.bytes_at new.loading.handles.heap slot)) none)

pub gone_law : (honest : Type 0) → GoneLaw honest
gone_law honest format old new events run none_begins slot none = each old events (C.Each-from_All _ events none_begins) run none
  where
    each : (now : World) (events : C.List C.Event) → Each BeginsNone events → C.Run (C.Step honest format) now events new → finmap.get now.heaps slot ≡ None → finmap.get new.heaps slot ≡ None
    each now [] begins run none = ap (λ w. finmap.get w.heaps slot) run ∙ none
    each now (event ∷ events) begins run none = elim (never_back_law honest format now _ _ _ run.0 slot none) [
      | inl still ↦ each _ events begins.1 run.1 still
      | inr begun ↦ absurd (begins.0 _ _ _ begun.asked begun.answered)
    ]
