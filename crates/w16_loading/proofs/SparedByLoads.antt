-- Loads of modules and of resources spare every object that was there.
use Rattle.w16_loading.proofs
use proofs.Common as C
use proofs.Common.{◌≡◌, ◌≢◌, ℕ, inl, inr, Bool, true, false, cond, ◌+◌, fold, List, Option, Some, None, refl, sym, ap, ◌∙◌, subst, false≢true, is_member, Heap, handle_of, LoadingWorld, Load, all_slots, bound, fills, given, named, segments_of, left, FetchesFrom, GivesFrom, Fills, Reply}
use proofs.Common.{Word, with_resource}
use proofs.Spared.{IsSpared, left_alone, same_spared, spared_then, spared_without, filled_spared, fetch_spares}
use proofs.Undone.{IsNamed, chosen, fold_named}
use proofs.{Fillings.any_do, Given.filled_chosen, Named.free_slot, Named.named_heap, Cases.resource_cases, Answered.loaded_by}
use Rattle.std.specs.FinMap as finmap
use Rattle.w16_loading.specs.declared.FetchFault.TheVariants as faults

module _ (answers : C.Answers) (old : LoadingWorld) (is : C.IsLoadingWorld old) (q : ℕ) (there : C.is_some (C.object_at old.handles.heap q) ≡ true) where
  abbrev Spared : LoadingWorld → Type 0
  Spared world = IsSpared old.handles.heap world.handles.heap q

  not_free : (slot : ℕ) → C.IsFreeSlot old.handles slot → q ≢ slot
  not_free slot free e = false≢true (sym (ap C.is_some (ap (C.object_at old.handles.heap) e ∙ C.unused_slot old.handles is.handles slot free)) ∙ there)

  -- Modules.

  module _ (closure : C.Closure) (choice : C.Choice) (good : C.IsChoice old closure.found choice) (failure : Option C.Failure) (heap : Heap)
      (filled : C.InTurn (GivesFrom Fills answers) (named old closure choice).handles.heap (fills old closure choice) failure heap) where
    abbrev begun : Heap
    begun = (named old closure choice).handles.heap

    not_chosen : (slot : ℕ) → C.Member slot (all_slots choice) → q ≢ slot
    not_chosen slot m = not_free slot (free_slot old closure choice good slot m)

    named_is : IsNamed old (fold C.with_segment old (segments_of (given closure choice))) (segments_of (given closure choice))
    named_is = fold_named old (segments_of (given closure choice))

    named_spared : IsSpared old.handles.heap begun q
    named_spared = left_alone old.handles.heap begun q (named_is.others q (λ x m. not_chosen x.0 (chosen 0 closure.found choice.handles choice.slots x m))) (ap (λ (w : LoadingWorld). finmap.get w.handles.heap.places q) named_is.rest)

    all_filled : IsSpared begun heap q
    all_filled = (any_do answers (λ a b. IsSpared a b q) (λ h. same_spared h q) (λ a b c. spared_then a b c q) begun heap (fills old closure choice) failure (named_heap old closure choice is.handles good)
        (λ x m a b h read long again g. filled_spared a x.slot read b h g q (not_chosen x.slot (filled_chosen (bound old closure choice) closure.found choice.handles choice.slots x m))) filled).0

    load_spared : IsSpared old.handles.heap heap q
    load_spared = spared_then old.handles.heap begun heap q named_spared all_filled

    undone_spared : IsSpared old.handles.heap (C.heap_without (λ q. is_member q (all_slots choice)) heap) q
    undone_spared = spared_then old.handles.heap heap (C.heap_without (λ q. is_member q (all_slots choice)) heap) q load_spared (spared_without (λ q. is_member q (all_slots choice)) heap q stays)
      where
        stays : is_member q (all_slots choice) ≡ false
        stays = elim (C.cases_Bool (is_member q (all_slots choice))) [ inl t ↦ absurd (not_chosen q (C.is_member-true q (all_slots choice) t) refl) | inr t ↦ t ]

  fulfilled : (closure : C.Closure) (answer : C.Answer) (new : LoadingWorld) → C.Fulfils (GivesFrom Fills answers) old closure answer new → Spared new
  fulfilled closure answer new f = subst Spared (sym f.after) (turn f.failure f.filled)
    where
      turn : (failure : Option C.Failure) → C.InTurn (GivesFrom Fills answers) (named old closure f.choice).handles.heap (fills old closure f.choice) failure f.heap → Spared (left failure (C.with_heap (named old closure f.choice) f.heap) (C.undone old f.choice f.heap))
      turn None filled = load_spared closure f.choice f.is_choice None f.heap filled
      turn (Some failure) filled = undone_spared closure f.choice f.is_choice (Some failure) f.heap filled

  pub modules_loaded : (b : Bool) (file : List ℕ) (answer : C.Answer) (new : LoadingWorld) → C.LoadsFrom Fills answers b old file answer new → Spared new
  modules_loaded b file answer new = loaded_by answers old (λ answer. Spared) (λ answer. same_spared old.handles.heap q) b file answer new (λ handle m here few. same_spared old.handles.heap q) (λ closure facts. fulfilled closure answer new)

  -- Resources.

  module _ (new : LoadingWorld) (reply : Reply) (handle place : ℕ) where
    same_world : new ≡ old → Spared new
    same_world e = subst Spared (sym e) (same_spared old.handles.heap q)

    outcome_is : (outcome : Reply × LoadingWorld) → ◌≡◌ {A = Reply × LoadingWorld} (reply, new) outcome → Spared outcome.1 → Spared new
    outcome_is outcome e good = subst (λ (p : Reply × LoadingWorld). Spared p.1) (sym e) good

    fresh : (r : C.Resource) → C.LoadsNewResource (FetchesFrom Fills answers) old handle place r reply new → Spared new
    fresh r f = outcome_is (C.resource_outcome f.fault (handle_of r.kind f.slot) f.next old) f.outcome (turn f.fault)
      where
        are : C.IsHeap (with_resource old f.slot handle place r).handles.heap
        are = C.entered_heap old.handles.heap is.handles.heap f.slot r.kind (C.unused_slot old.handles is.handles f.slot f.free)

        next_spared : Spared f.next
        next_spared = spared_then old.handles.heap (with_resource old f.slot handle place r).handles.heap f.next.handles.heap q
            (left_alone old.handles.heap (with_resource old f.slot handle place r).handles.heap q (C.inserted_other old.handles.heap.objects f.slot (record { kind = r.kind; locks = 0; bytes = None }) q (not_free f.slot f.free)) refl)
            (fetch_spares are f.fetched q (not_free f.slot f.free))

        turn : (fault : Option C.FetchFault) → Spared (C.resource_outcome fault (handle_of r.kind f.slot) f.next old).1
        turn None = next_spared
        turn (Some faults.Store) = same_spared old.handles.heap q
        turn (Some faults.NoRoom) = same_spared old.handles.heap q
        turn (Some faults.Damaged) = same_spared old.handles.heap q

    again : (r : C.Resource) (x : ℕ × Load) → Spared (C.loaded_again old r x).1
    again r x = turn (C.nat_lt x.1.loads C.MOST_USES)
      where
        turn : (b : Bool) → Spared (cond {A = Reply × LoadingWorld} b (Word (handle_of r.kind x.0), record old { loads = finmap.insert old.loads x.0 (record x.1 { loads = x.1.loads + 1 }) }) (Word 0, old)).1
        turn true = same_spared old.handles.heap q
        turn false = same_spared old.handles.heap q

    pub resource_loaded : C.LoadsResource (FetchesFrom Fills answers) old handle place reply new → Spared new
    resource_loaded step = elim (resource_cases (FetchesFrom Fills answers) old reply new handle place step) [
      | inl f ↦ same_world f.1
      | inr (r, at, inl (x, e, f)) ↦ outcome_is (C.loaded_again old r x) f (again r x)
      | inr (r, at, inr (none, f)) ↦ fresh r f
    ]
