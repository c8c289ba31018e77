-- What each call leaves of the objects that it isn't about, and of the order of use, by its outcome.
use Rattle.w16_model.proofs
use proofs.Common as C
use proofs.Common.{◌≡◌, ◌≢◌, ℕ, ◌+◌, ◌-◌, ◌==◌, ◌⊎◌, inl, inr, Bool, true, false, not, ◌&&◌, ◌||◌, nat_lt, IfSome, IsSomeAnd, Option, Some, None, is_some, refl, sym, ap, ◌∙◌, subst, false≢true, Kind, Fixed, GMEM_MOVEABLE, Heap, Object, object_at, is_fixed, is_pinned_object}
use proofs.Common.{with_newest, Handles, slots_for, has_flag, rounded_size, alloc_options, StandsStill, Call, Outcome, IsSame, IsUnmoved, IsLocked, IsUnlocked, IsFreed, IsNewest, IsOldest, IsEntered, IsAllocated, IsCompacted, IsModified, IsDiscarded, IsResized, handle_in, IsAbout}
use proofs.Common.{may_change, may_move_own}
use proofs.KeptHeaps.{inserted_other, taken_other, bytes_in}
use proofs.CallLaws.{rest_of, moves_of, object_beside, place_own, place_beside}
use proofs.{Heaps.get-update_other, Others.others_law, Outcomes.address_law, Runs.some_slots, Runs.unused, CallOutcomes.outcome}
use Rattle.std.specs.FinMap as finmap

-- what is discarded, and what is kept
pub kept_or_discarded : (old new : Heap) (h : Option ℕ) (k q : ℕ) → C.KeepsOthers old h k new → h ≢ Some q → C.IsKeptOrDiscarded old new q
kept_or_discarded old new h k q keeps other = elim (C.cases_Bool (C.is_member q _)) [
  | inl t ↦ inr (keeps.discarded q t)
  | inr f ↦ inl (keeps.kept q other (λ t. false≢true (sym f ∙ t)))
]

-- where addresses stay, each object stands still
stands : (old new : Heap) (q : ℕ) → finmap.get new.places q ≡ finmap.get old.places q → StandsStill old new q
stands old new q same = turn _ same
  where
    turn : (p : Option ℕ) → finmap.get new.places q ≡ p → IfSome p (λ at. finmap.get new.places q ≡ Some at)
    turn None e = tt
    turn (Some at) e = e

no_place : (old new : Heap) (q : ℕ) → finmap.get old.places q ≡ None → StandsStill old new q
no_place old new q none = subst (λ p. IfSome p (λ at. finmap.get new.places q ≡ Some at)) (sym none) tt

pub apart : (slot q : ℕ) → q ≢ slot → ◌≡◌ {A = Option ℕ} (Some slot) (Some q) → ⊥
apart slot q d e = let same : slot ≡ q = cc in d (sym same)

none_apart : (q : ℕ) → ◌≡◌ {A = Option ℕ} None (Some q) → ⊥
none_apart q e = cc

module _ (old new : Handles) (is : C.AreHandles old) (call : Call) (answer : C.Answer) (q : ℕ) where
  -- a call names its object
  pub about : (handle slot : ℕ) → handle_in call ≡ Some handle → C.slot_of_handle old handle ≡ Some slot → q ≡ slot → IsAbout old call q
  about handle slot names found e = subst (λ p. IsSomeAnd p (λ h. C.slot_of_handle old h ≡ Some q)) (sym names) (found ∙ ap Some (sym e))

  -- an object that is there isn't at a free slot
  pub not_free : (slot : ℕ) → object_at old.heap slot ≡ None → is_some (object_at old.heap q) ≡ true → q ≢ slot
  not_free slot free there e = false≢true (sym (ap is_some (ap (object_at old.heap) e ∙ free)) ∙ there)

  abbrev Kept : Type 0
  Kept = C.IsKeptOrDiscarded old.heap new.heap q

  abbrev IsKeptObject : Option Object → Option Object → Type 0
  IsKeptObject before after = (after ≡ before) ⊎ IsSomeAnd before (λ o. (o.kind ≡ C.Discardable) × (o.locks ≡ 0) × (is_some o.bytes ≡ true) × (after ≡ Some (record o { bytes = None })))

  pub bystander : Outcome old call answer new → (may_change call ≡ true → is_some (object_at old.heap q) ≡ true) → (IsAbout old call q → ⊥) → Kept
  bystander (IsSame s e) there out = inl (ap (λ (h : Handles). object_at h.heap q) e)
  bystander (IsUnmoved s e) there out = inl (ap (λ (h : Handles). object_at h.heap q) e)
  bystander (IsLocked l) there out = inl (ap (λ (h : Handles). object_at h.heap q) l.rest ∙ inserted_other old.heap.objects l.slot (record l.object { locks = l.object.locks + 1 }) q (λ e. out (about l.handle l.slot (ap handle_in l.asked) l.named.found e)))
  bystander (IsUnlocked u) there out = inl (ap (λ (h : Handles). object_at h.heap q) u.rest ∙ inserted_other old.heap.objects u.slot (record u.object { locks = u.object.locks - 1 }) q (λ e. out (about u.handle u.slot (ap handle_in u.asked) u.named.found e)))
  bystander (IsFreed f) there out = inl (ap (λ (h : Handles). object_at h.heap q) f.rest ∙ taken_other old.heap.objects f.slot q (λ e. out (about f.handle f.slot (ap handle_in f.asked) f.named.found e)))
  bystander (IsNewest n) there out = inl (ap (λ (h : Handles). object_at h.heap q) n.rest)
  bystander (IsOldest n) there out = inl (ap (λ (h : Handles). object_at h.heap q) n.rest)
  bystander (IsEntered e) there out = inl (ap (λ (h : Heap). object_at h q) e.entered.entered ∙ inserted_other
      old.heap.objects e.slot (record { kind = C.kind_asked e.flags; locks = 0; bytes = None }) q
      (not_free e.slot (unused old is e.slot (slots_for (rounded_size e.size)) (some_slots (rounded_size e.size)) e.free)
      (there (ap may_change e.asked))))
  bystander (IsAllocated a) there out = kept_or_discarded old.heap new.heap (Some a.slot) a.count q
      ((others_law old.heap new.heap is.heap a.count).0 a.slot (alloc_options a.flags) a.object
      (with_newest a.slot a.object) a.settled) (apart a.slot q
      (not_free a.slot (unused old is a.slot (slots_for (rounded_size a.size)) (some_slots (rounded_size a.size)) a.free)
      (there (ap may_change a.asked))))
  bystander (IsCompacted c) there out = kept_or_discarded old.heap new.heap None c.count q ((others_law old.heap new.heap is.heap c.count).1 c.settled) (none_apart q)
  bystander (IsModified m) there out = inl (m.changes.others q (λ e. out (about m.handle m.slot (ap handle_in m.asked) m.named.found e)))
  bystander (IsDiscarded d) there out = inl (ap (λ (h : Handles). object_at h.heap q) d.rest ∙ get-update_other old.heap.objects d.slot (λ (o : Object). record o { bytes = None }) q (λ e. out (about d.handle d.slot (ap handle_in d.asked) d.named.found e)))
  bystander (IsResized r) there out =
      let k : C.KeepsRest old.heap r.slot (rounded_size r.size) r.object (C.realloc_options r.flags) r.heap = rest_of old new is call answer r in
      let d : q ≢ r.slot = λ e. out (about r.handle r.slot (ap handle_in r.asked) r.named.found e) in
      subst (λ p. IsKeptObject (object_at old.heap q) p) (sym (object_beside old new is call answer r q (there (ap may_change r.asked)) d)) (kept_or_discarded old.heap r.heap (Some r.slot) k.count q k.others (apart r.slot q d))

  abbrev Still : Handles → Type 0
  Still h = StandsStill old.heap h.heap q

  pub same_place : finmap.get new.heap.places q ≡ finmap.get old.heap.places q → Still new
  same_place e = stands old.heap new.heap q e

  -- where it stands in the heap in which an object gets another size, there it stands
  pub still_beside : (r : C.Resized old call answer new) → is_some (object_at old.heap q) ≡ true → q ≢ r.slot → StandsStill old.heap r.heap q → Still new
  still_beside r there d still = subst (λ p. IfSome (finmap.get old.heap.places q) (λ at. p ≡ Some at)) (sym (place_beside old new is call answer r q there d)) still

  -- where the object is pinned
  module _ (pinned : IsSomeAnd (object_at old.heap q) (λ o. is_pinned_object o ≡ true)) where
    pinned_there : (p : Option Object) → IsSomeAnd p (λ o. is_pinned_object o ≡ true) → is_some p ≡ true
    pinned_there None h = absurd h
    pinned_there (Some o) h = refl

    there_pinned : is_some (object_at old.heap q) ≡ true
    there_pinned = pinned_there (object_at old.heap q) pinned

    pinned_is : (slot : ℕ) (o : Object) → q ≡ slot → object_at old.heap slot ≡ Some o → is_pinned_object o ≡ true
    pinned_is slot o e there = subst (λ p. IsSomeAnd p (λ o. is_pinned_object o ≡ true)) (ap (object_at old.heap) e ∙ there) pinned

    loose : (o : Object) → o.locks ≡ 0 → C.is_discardable o.kind ≡ true → is_pinned_object o ≡ true → ⊥
    loose o unlocked discardable t = false≢true (sym ((λ i. kind_loose o.kind discardable i || nat_lt 0 (unlocked i))) ∙ t)
      where
        kind_loose : (kind : Kind) → C.is_discardable kind ≡ true → is_fixed kind ≡ false
        kind_loose Fixed t = absurd (false≢true t)
        kind_loose C.Moveable t = refl
        kind_loose C.Discardable t = refl

    pinned_still : Outcome old call answer new → (may_move_own call ≡ true → IsAbout old call q → ⊥) → Still new
    pinned_still (IsSame s e) out = same_place (ap (λ (h : Handles). finmap.get h.heap.places q) e)
    pinned_still (IsUnmoved s e) out = same_place (ap (λ (h : Handles). finmap.get h.heap.places q) e)
    pinned_still (IsLocked l) out = same_place (ap (λ (h : Handles). finmap.get h.heap.places q) l.rest)
    pinned_still (IsUnlocked u) out = same_place (ap (λ (h : Handles). finmap.get h.heap.places q) u.rest)
    pinned_still (IsFreed f) out = same_place (ap (λ (h : Handles). finmap.get h.heap.places q) f.rest ∙ taken_other old.heap.places f.slot q (λ e. out (ap may_move_own f.asked) (about f.handle f.slot (ap handle_in f.asked) f.named.found e)))
    pinned_still (IsNewest n) out = same_place (ap (λ (h : Handles). finmap.get h.heap.places q) n.rest)
    pinned_still (IsOldest n) out = same_place (ap (λ (h : Handles). finmap.get h.heap.places q) n.rest)
    pinned_still (IsEntered e) out = same_place (ap (λ (h : Heap). finmap.get h.places q) e.entered.entered)
    pinned_still (IsAllocated a) out = ((address_law old.heap new.heap is.heap a.count).0 a.slot
        (alloc_options a.flags) a.object (with_newest a.slot a.object) a.settled).pinned q
        (apart a.slot q (not_free a.slot (unused old is a.slot (slots_for (rounded_size a.size))
        (some_slots (rounded_size a.size)) a.free) there_pinned)) pinned
    pinned_still (IsCompacted c) out = ((address_law old.heap new.heap is.heap c.count).1 c.settled).pinned q (none_apart q) pinned
    pinned_still (IsModified m) out = same_place (ap (λ places. finmap.get places q) m.changes.places)
    pinned_still (IsDiscarded d) out = same_place (ap (λ (h : Handles). finmap.get h.heap.places q) d.rest ∙ taken_other old.heap.places d.slot q (λ e. loose d.object d.unlocked d.discardable (pinned_is d.slot d.object e d.named.there)))
    pinned_still (IsResized r) out = elim (C.cases_eq q r.slot) [
      | inl e ↦ elim (C.cases_Bool (has_flag r.flags GMEM_MOVEABLE)) [
        | inl t ↦ absurd (out (ap may_move_own r.asked ∙ (λ i. t i && (not (r.sized.0 i) && not (r.sized.1 i)))) (about r.handle r.slot (ap handle_in r.asked) r.named.found e))
        | inr f ↦ own e f (finmap.get old.heap.places q) refl
      ]
      | inr d ↦ still_beside r there_pinned d ((moves_of old new is call answer r).others.pinned q (apart r.slot q d) pinned)
    ]
      where
        -- it may not leave its slot
        held : (k : Kind) (locks : ℕ) (may : Bool) → may ≡ false → (is_fixed k || nat_lt 0 locks) ≡ true → ((locks == 0) && (not (is_fixed k) || may)) ≡ true → ⊥
        held k locks may f t u = by_parts (is_fixed k) t (C.and_parts (locks == 0) (not (is_fixed k) || may) u)
          where
            by_parts : (fixed : Bool) → (fixed || nat_lt 0 locks) ≡ true → C.IsTrue (locks == 0) × C.IsTrue (not fixed || may) → ⊥
            by_parts true t p = false≢true (sym f ∙ p.1)
            by_parts false t p = false≢true (ap (nat_lt 0) (sym (C.eqb-true locks 0 p.0)) ∙ t)

        homes : q ≡ r.slot → has_flag r.flags GMEM_MOVEABLE ≡ false → r.first ≡ r.slot
        homes e f = elim r.gets [
          | inl here ↦ here.1
          | inr goes ↦ absurd (held r.object.kind r.object.locks (has_flag r.flags GMEM_MOVEABLE) f (pinned_is r.slot r.object e r.named.there) goes.1)
        ]

        own : q ≡ r.slot → has_flag r.flags GMEM_MOVEABLE ≡ false → (p : Option ℕ) → finmap.get old.heap.places q ≡ p → Still new
        own e f None stood = no_place old.heap new.heap q stood
        own e f (Some at) stood =
            let has : is_some r.object.bytes ≡ true = ap (λ p. is_some (bytes_in p)) (sym (ap (object_at old.heap) e ∙ r.named.there)) ∙ sym (is.heap.at_bytes q) ∙ ap is_some stood in
            let here : finmap.get new.heap.places q ≡ finmap.get r.heap.places q = ap (finmap.get new.heap.places) (e ∙ sym (homes e f)) ∙ place_own old new is call answer r ∙ ap (finmap.get r.heap.places) (sym e) in
            subst (λ p. IfSome (finmap.get old.heap.places q) (λ at. p ≡ Some at)) (sym here) ((moves_of old new is call answer r).still (inr (λ i. has i && (pinned_is r.slot r.object e r.named.there i && not (f i)))) q)

pub bystanders_law : C.BystandersLaw
bystanders_law old new call answer q is step there out = bystander old new is call answer q (outcome old new call _ is step) (λ m. there) out

pub pinned_law : C.PinnedStayLaw
pinned_law old new call answer q is step pinned out = pinned_still old new is call answer q pinned (outcome old new call _ is step) out
