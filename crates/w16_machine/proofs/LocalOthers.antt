-- What a local call leaves of the objects that it doesn't name.
use Rattle.w16_machine.proofs
use proofs.Common as C
use proofs.Common.{◌≡◌, ◌≢◌, ℕ, ◌+◌, ◌-◌, inl, inr, Bool, true, false, cond, not, ◌&&◌, ◌||◌, ◌==◌, nat_lt, IfOk, IsSomeAnd, take, Option, Some, None, Result, Ok, Err, is_some, refl, sym, ap, ◌∙◌, subst, false≢true, Kind, Fixed, Discardable, Refusal, Heap, Object, IsHeap, object_at}
use proofs.Common.{is_fixed, is_discardable, with_ordered, with_newest, removed, absent, after_discard, IsNew, Asked, compaction_prefix, discarded, taken_other, World, heap_of, rounded_up, local_kind, local_options, IsLocalKept, asks_for_room, may_move_named, ending}
use proofs.LocalFacts.{current_there, local_here, heap_here}
use proofs.LocalNames.{names_law}
use proofs.LocalCurrent.{current_becomes, grown_becomes}
use proofs.LocalOutcomes.{IsAltered, IsGivenUp, IsMade, IsNamedIn, IsRoomed, IsStepped}
use Rattle.w16_model.specs.Reallocation.{KeepsRest}
use Rattle.w16_model.proofs.Reallocations.{asked as request_of}
use Rattle.std.specs.FinMap as finmap
use Rattle.w16_model.specs.declared.Refusal.TheVariants as refusals

pub stands_same : (old new : Heap) (q : ℕ) → finmap.get new.places q ≡ finmap.get old.places q → C.StandsStill old new q
stands_same old new q e = turn _ e
  where
    turn : (p : Option ℕ) → finmap.get new.places q ≡ p → C.IfSome p (λ at. finmap.get new.places q ≡ Some at)
    turn None e = tt
    turn (Some at) e = e

-- An object is changed where it stands.
module _ (old : Heap) (id : ℕ) (P : Heap → Type 0) (itself : P old) (put : (new : Heap) (p : Object) → new.objects ≡ finmap.insert old.objects id p → new.places ≡ old.places → C.without id new.order ≡ C.without id old.order → P new) where
  if_ok : (b : Bool) (r s : Result Heap Refusal) → IfOk r P → IfOk s P → IfOk (cond b r s) P
  if_ok true r s f g = f
  if_ok false r s f g = g

  lock_is : IfOk (C.after_lock old id) P
  lock_is = turn (object_at old id)
    where
      turn : (p : Option Object) → IfOk (elim p as (λ _. Result Heap Refusal) [
        | None ↦ Err refusals.Absent
        | Some o ↦ cond (not (is_some o.bytes)) (Err refusals.Absent) (cond (is_fixed o.kind) (Err refusals.Fixed) (cond (o.locks == 255) (Err refusals.LockFull) (Ok (with_ordered old id (record o { locks = o.locks + 1 }) (C.touched id)))))
      ]) P
      turn None = tt
      turn (Some o) =
          let locked : Heap = with_ordered old id (record o { locks = o.locks + 1 }) (C.touched id) in
          if_ok (not (is_some o.bytes)) (Err refusals.Absent) (cond (is_fixed o.kind) (Err refusals.Fixed) (cond (o.locks == 255) (Err refusals.LockFull) (Ok locked))) tt
          (if_ok (is_fixed o.kind) (Err refusals.Fixed) (cond (o.locks == 255) (Err refusals.LockFull) (Ok locked)) tt
          (if_ok (o.locks == 255) (Err refusals.LockFull) (Ok locked) tt (put locked (record o { locks = o.locks + 1 }) refl refl (C.touched_rest id old.order))))

  unlock_is : IfOk (C.after_unlock old id) P
  unlock_is = turn (object_at old id)
    where
      turn : (p : Option Object) → IfOk (elim p as (λ _. Result Heap Refusal) [ None ↦ Ok old | Some o ↦ cond (is_fixed o.kind) (Err refusals.Fixed) (Ok (C.with_object old id (record o { locks = o.locks - 1 }))) ]) P
      turn None = itself
      turn (Some o) = let less : Heap = C.with_object old id (record o { locks = o.locks - 1 }) in if_ok (is_fixed o.kind) (Err refusals.Fixed) (Ok less) tt (put less (record o { locks = o.locks - 1 }) refl refl refl)

  modify_is : (kind : Kind) → IfOk (C.after_modify old id kind) P
  modify_is kind = turn (object_at old id)
    where
      turn : (p : Option Object) → IfOk (elim p as (λ _. Result Heap Refusal) [
        | None ↦ Err refusals.Absent
        | Some o ↦ cond (is_fixed o.kind || is_fixed kind) (Err refusals.Fixed)
            (Ok (with_ordered old id (record o { kind = kind }) (λ order. cond (is_discardable o.kind && is_discardable kind) order (with_newest id (record o { kind = kind }) order))))
      ]) P
      turn None = tt
      turn (Some o) =
          let changed : Heap = with_ordered old id (record o { kind = kind }) (λ order. cond (is_discardable o.kind && is_discardable kind) order (with_newest id (record o { kind = kind }) order)) in
          if_ok (is_fixed o.kind || is_fixed kind) (Err refusals.Fixed) (Ok changed) tt (put changed (record o { kind = kind }) refl refl (C.rest_order id old.order (is_discardable o.kind) (is_discardable kind) (is_some o.bytes)))

  pub altered_is : (new : Heap) → IsAltered old id new → P new
  altered_is new (inl e) = subst (λ r. IfOk r P) e lock_is
  altered_is new (inr (inl e)) = subst (λ r. IfOk r P) e unlock_is
  altered_is new (inr (inr (flags, e))) = subst (λ r. IfOk r P) e (modify_is (C.moveable_or_discardable flags))

module _ (asks : Bool) (old : Heap) (q : ℕ) (o : Object) (there : object_at old q ≡ Some o) where
  abbrev Kept : Heap → Type 0
  Kept new = IsLocalKept asks old new q o

  -- another object is changed, and none moves
  same_kept : (new : Heap) → object_at new q ≡ object_at old q → finmap.get new.places q ≡ finmap.get old.places q → Kept new
  same_kept new object place = record { object = inl (object ∙ there); place = λ _. stands_same old new q place; still = λ _. (object ∙ there, stands_same old new q place) }

  itself_kept : Kept old
  itself_kept = same_kept old refl refl

  if_taken : (b : Bool) (r s : Result Heap Refusal) → IfOk r Kept → IfOk s Kept → IfOk (cond b r s) Kept
  if_taken true r s f g = f
  if_taken false r s f g = g

  module _ (id : ℕ) (other : q ≢ id) where
    put_kept : (new : Heap) (p : Object) → new.objects ≡ finmap.insert old.objects id p → new.places ≡ old.places → Kept new
    put_kept new p put places = same_kept new (ap (λ m. finmap.get m q) put ∙ C.inserted_other old.objects id p q other) (ap (λ m. finmap.get m q) places)

    removed_kept : Kept (removed old id)
    removed_kept = same_kept (removed old id) (taken_other old.objects id q other) (taken_other old.places id q other)

    absent_kept : Kept (absent old id)
    absent_kept = same_kept (absent old id) (C.get-update_other old.objects id (λ (o : Object). record o { bytes = None }) q other) (taken_other old.places id q other)

    free_kept : IfOk (C.after_free old id) Kept
    free_kept = turn (object_at old id)
      where
        turn : (p : Option Object) → IfOk (elim p as (λ _. Result Heap Refusal) [ None ↦ Ok old | Some o ↦ cond (nat_lt 0 o.locks) (Err refusals.Locked) (Ok (removed old id)) ]) Kept
        turn None = itself_kept
        turn (Some o) = if_taken (nat_lt 0 o.locks) (Err refusals.Locked) (Ok (removed old id)) tt removed_kept

    discard_kept : IfOk (after_discard old id) Kept
    discard_kept = turn (object_at old id)
      where
        turn : (p : Option Object) → IfOk (elim p as (λ _. Result Heap Refusal) [
          | None ↦ Err refusals.NotDiscardable
          | Some o ↦ cond (nat_lt 0 o.locks) (Err refusals.Locked) (cond (is_discardable o.kind) (Ok (absent old id)) (Err refusals.NotDiscardable))
        ]) Kept
        turn None = tt
        turn (Some o) =
            if_taken (nat_lt 0 o.locks) (Err refusals.Locked) (cond (is_discardable o.kind) (Ok (absent old id)) (Err refusals.NotDiscardable)) tt
            (if_taken (is_discardable o.kind) (Ok (absent old id)) (Err refusals.NotDiscardable) absent_kept tt)

    given_up_kept : (command : C.Command C.OfLocals) (new : Heap) → IsGivenUp old command id new → Kept new
    given_up_kept command new (inl e) = subst (λ r. IfOk r Kept) e.1 free_kept
    given_up_kept command new (inr e) = subst (λ r. IfOk r Kept) e discard_kept

  -- A step that makes room.
  room_kept : asks ≡ true → (new : Heap) (h : Option ℕ) (k : ℕ) (may_move : Bool) → h ≢ Some q → C.KeepsOthers old h k new → C.KeepsAddresses old h may_move new → Kept new
  room_kept asked new h k may_move other keeps stands = record {
    object = elim (C.cases_Bool (C.is_member q (take k (C.eligible (C.blocks old) old.order h)))) [
      | inl t ↦ inr (gone (keeps.discarded q t))
      | inr t ↦ inl (keeps.kept q other (λ e. false≢true (sym t ∙ e)) ∙ there)
    ];
    place = λ pinned. stands.pinned q other (subst (λ p. IsSomeAnd p (λ o. C.is_pinned_object o ≡ true)) (sym there) pinned);
    still = λ e. absurd (false≢true (sym e ∙ asked));
  }
    where
      gone : IsSomeAnd (object_at old q) (λ o. (o.kind ≡ Discardable) × (o.locks ≡ 0) × (is_some o.bytes ≡ true) × (object_at new q ≡ Some (record o { bytes = None }))) → (o.kind ≡ Discardable) × (o.locks ≡ 0) × (object_at new q ≡ Some (record o { bytes = None }))
      gone h = let g : (o.kind ≡ Discardable) × (o.locks ≡ 0) × (is_some o.bytes ≡ true) ×
          (object_at new q ≡ Some (record o { bytes = None })) = subst
          (λ p. IsSomeAnd p (λ o. (o.kind ≡ Discardable) × (o.locks ≡ 0) × (is_some o.bytes ≡ true) ×
          (object_at new q ≡ Some (record o { bytes = None })))) there h in (g.0, g.1, g.3)

  module _ (is : IsHeap old) (asked : asks ≡ true) where
    not_some : (id : ℕ) → q ≢ id → Some id ≢ Some q
    not_some id other e = let same : id ≡ q = cc in other (sym same)

    none_some : ◌≡◌ {A = Option ℕ} None (Some q) → ⊥
    none_some e = cc

    allocated_kept : (id n : ℕ) (kind : Kind) (options : C.RoomOptions) (new : Heap) → q ≢ id → C.Allocates old id n kind 0 options true new → Kept new
    allocated_kept id n kind options new other a =
        let what : Asked = record { options = options; prefix = C.discards_needed old n (Some id) options; becomes = IsNew options.zero n kind 0; order = with_newest id } in
        let r : (k : ℕ) × (what.prefix ≡ Some k) × ((p : Object) × what.becomes p × C.Settles old (C.stays_for id what.options) (with_ordered (discarded old k (Some id)) id p (what.order p)) new) = request_of old id what new a.request in
        room_kept asked new (Some id) r.0 options.compact (not_some id other) ((C.others_law old new is r.0).0 id options r.2.0 (with_newest id r.2.0) r.2.2) ((C.address_law old new is r.0).0 id options r.2.0 (with_newest id r.2.0) r.2.2)

    compacted_kept : (size answer : ℕ) (new : Heap) → C.MakesRoom old size answer new → Kept new
    compacted_kept size answer new m =
        room_kept asked new None (compaction_prefix old size) true none_some ((C.others_law old new is (compaction_prefix old size)).1 m.settled) ((C.address_law old new is (compaction_prefix old size)).1 m.settled)

    resized_kept : (id size flags answer : ℕ) (new : Heap) → q ≢ id → C.ResizesObject old id size flags answer new → Kept new
    resized_kept id size flags answer new other r = turn (object_at old id) (C.rest_law old new id (rounded_up size) (local_options flags) is r.resized) (C.moves_law old new id (rounded_up size) (local_options flags) is r.resized)
      where
        turn : (p : Option Object) → IsSomeAnd p (λ o. KeepsRest old id (rounded_up size) o (local_options flags) new) → IsSomeAnd p (λ o. C.MovesLittle old id (rounded_up size) o (local_options flags) new) → Kept new
        turn None h g = absurd h
        turn (Some p) h g = room_kept asked new (Some id) h.count (local_options flags).compact (not_some id other) h.others g.others

-- In a local heap.
module _ (old : World) (is : C.AreLocalHeaps old) (at : C.LocalHeap) (c : C.current_heap old ≡ Some at) (command : C.Command C.OfLocals) (q : ℕ) (o : Object) (there : object_at (heap_of at) q ≡ Some o) where
  heap : IsHeap (heap_of at)
  heap = heap_here old is at (current_there old at c)

  -- the object that is named is another
  other : ((name : ℕ) → C.named_by command ≡ Some name → C.name_at (heap_of at) q ≢ Some name) → (id : ℕ) → IsNamedIn (heap_of at) command id → q ≢ id
  other unnamed id named e = unnamed named.name named.asked (ap (C.name_at (heap_of at)) e ∙ (names_law (heap_of at) named.name id heap (local_here old is at (current_there old at c)).0.grain).0.0 named.has)

  -- a free entry is another's
  in_use : (id : ℕ) → object_at (heap_of at) id ≡ None → q ≢ id
  in_use id unused e = never (sym there ∙ ap (object_at (heap_of at)) e ∙ unused)
    where
      never : ◌≡◌ {A = Option Object} (Some o) None → ⊥
      never f = cc

  abbrev Spared : Heap → Type 0
  Spared next = IsLocalKept (asks_for_room command) (heap_of at) next q o

  -- another object's part of a call
  pub stepped_kept : ((id : ℕ) → IsNamedIn (heap_of at) command id → q ≢ id) → (next : Heap) → IsStepped (heap_of at) command next → Spared next
  stepped_kept others next (inl (id, named, altered)) =
      altered_is (heap_of at) id Spared (itself_kept (asks_for_room command) (heap_of at) q o there) (λ new p put places order. put_kept (asks_for_room command) (heap_of at) q o there id (others id named) new p put places) next altered
  stepped_kept others next (inr (flags, size, id, t, enters)) =
      put_kept (asks_for_room command) (heap_of at) q o there id (in_use id enters.unused) next (record { kind = local_kind flags; locks = 0; bytes = None }) (ap (λ (h : Heap). h.objects) enters.entered) (ap (λ (h : Heap). h.places) enters.entered)

  pub made_kept : ((id : ℕ) → IsNamedIn (heap_of at) command id → may_move_named command ≡ true → q ≢ id) → (answer : ℕ) (next : Heap) → asks_for_room command ≡ true → IsMade (heap_of at) (heap_of at) command answer next → Spared next
  made_kept others answer next asks (inl (flags, size, id, free, made)) = allocated_kept (asks_for_room command) (heap_of at) q o there heap asks id (rounded_up size) (local_kind flags) (local_options flags) next (in_use id free.free.1) made.allocated
  made_kept others answer next asks (inr (inl (size, made))) = compacted_kept (asks_for_room command) (heap_of at) q o there heap asks size answer next made
  made_kept others answer next asks (inr (inr (size, flags, id, named, may, resized))) = resized_kept (asks_for_room command) (heap_of at) q o there heap asks id size flags answer next (others id named may) resized

  -- also where the heap ends later
  pub longer_kept : ((id : ℕ) → IsNamedIn (heap_of at) command id → may_move_named command ≡ true → q ≢ id) → (answer : ℕ) (next : Heap) (end : ℕ) → asks_for_room command ≡ true → IsHeap (ending (heap_of at) end)
      → IsMade (heap_of at) (ending (heap_of at) end) command answer next → Spared next
  longer_kept others answer next end asks is_heap made = let k : IsLocalKept (asks_for_room command) (ending (heap_of at) end) next q o = by made in record { object = k.object; place = k.place; still = k.still }
    where
      by : IsMade (heap_of at) (ending (heap_of at) end) command answer next → IsLocalKept (asks_for_room command) (ending (heap_of at) end) next q o
      by (inl (flags, size, id, free, made)) = allocated_kept (asks_for_room command) (ending (heap_of at) end) q o there is_heap asks id (rounded_up size) (local_kind flags) (local_options flags) next (in_use id free.free.1) made.allocated
      by (inr (inl (size, made))) = compacted_kept (asks_for_room command) (ending (heap_of at) end) q o there is_heap asks size answer next made
      by (inr (inr (size, flags, id, named, may, resized))) = resized_kept (asks_for_room command) (ending (heap_of at) end) q o there is_heap asks id size flags answer next (others id named may) resized

  pub up_kept : (id : ℕ) → q ≢ id → (next : Heap) → IsGivenUp (heap_of at) command id next → Spared next
  up_kept id d next up = given_up_kept (asks_for_room command) (heap_of at) q o there id d command next up

pub local_others_law : C.OthersLaw
local_others_law old new command reply at after q o is step c e there unnamed =
    current_becomes old at c command reply new (λ next. IsLocalKept _ _ next q o) (itself_kept _ _ q o there) (stepped_kept old is at c command q o there others) roomed
    (grown_becomes old is at c command new (λ next. IsLocalKept _ _ next q o) (longer_kept old is at c command q o there (λ id named may. others id named))) after e step
  where
    others : (id : ℕ) → IsNamedIn (heap_of at) command id → q ≢ id
    others = other old is at c command q o there unnamed

    roomed : (answer : ℕ) (next : Heap) → IsRoomed (heap_of at) command answer next → IsLocalKept (asks_for_room command) (heap_of at) next q o
    roomed answer next (inl (asks, made)) = made_kept old is at c command q o there (λ id named may. others id named) answer next asks made
    roomed answer next (inr (id, named, up)) = up_kept old is at c command q o there id (others id named) next up

-- A fixed or locked object.

-- no such one is discarded
discard_loose : (heap : Heap) (id : ℕ) (o : Object) (next : Heap) → object_at heap id ≡ Some o → after_discard heap id ≡ Ok next → C.is_pinned_object o ≡ false
discard_loose heap id o next there e = turn (nat_lt 0 o.locks) o.kind (sym (ap outcome there) ∙ e)
  where
    outcome : Option Object → Result Heap Refusal
    outcome p = elim p [
      | None ↦ Err refusals.NotDiscardable
      | Some o ↦ cond (nat_lt 0 o.locks) (Err refusals.Locked) (cond (is_discardable o.kind) (Ok (absent heap id)) (Err refusals.NotDiscardable))
    ]

    turn : (b : Bool) (kind : Kind) → ◌≡◌ {A = Result Heap Refusal} (cond b (Err refusals.Locked) (cond (is_discardable kind) (Ok (absent heap id)) (Err refusals.NotDiscardable))) (Ok next) → (is_fixed kind || b) ≡ false
    turn true kind e = cc
    turn false Fixed e = cc
    turn false C.Moveable e = cc
    turn false Discardable e = refl

pub local_pinned_law : C.PinnedLaw
local_pinned_law old new command reply at after q o is step c e there pinned unmoved =
    current_becomes old at c command reply new Stands (stands_same (heap_of at) (heap_of at) q refl) stepped roomed
    (grown_becomes old is at c command new Stands (λ answer next end asks is_heap made. kept_stands next (longer_kept old is at c command q o there others answer next end asks is_heap made))) after e step
  where
    Stands : Heap → Type 0
    Stands next = C.StandsStill (heap_of at) next q

    kept_stands : (next : Heap) → IsLocalKept (asks_for_room command) (heap_of at) next q o → Stands next
    kept_stands next k = k.place pinned

    stepped : (next : Heap) → IsStepped (heap_of at) command next → Stands next
    stepped next (inl (id, named, altered)) =
        altered_is (heap_of at) id Stands (stands_same (heap_of at) (heap_of at) q refl) (λ new p put places order. stands_same (heap_of at) new q (ap (λ m. finmap.get m q) places)) next altered
    stepped next (inr (flags, size, id, t, enters)) = stands_same (heap_of at) next q (ap (λ h. finmap.get h.places q) enters.entered)

    others : (id : ℕ) → IsNamedIn (heap_of at) command id → may_move_named command ≡ true → q ≢ id
    others id named may = other old is at c command q o there (unmoved may) id named

    discarded : (id : ℕ) (next : Heap) → after_discard (heap_of at) id ≡ Ok next → q ≢ id
    discarded id next done same = false≢true (sym (discard_loose (heap_of at) id o next (sym (ap (object_at (heap_of at)) same) ∙ there) done) ∙ pinned)

    roomed : (answer : ℕ) (next : Heap) → IsRoomed (heap_of at) command answer next → Stands next
    roomed answer next (inl (asks, made)) = kept_stands next (made_kept old is at c command q o there others answer next asks made)
    roomed answer next (inr (id, named, inl freed)) = kept_stands next (up_kept old is at c command q o there id (others id named freed.0) next (inl freed))
    roomed answer next (inr (id, named, inr done)) = kept_stands next (up_kept old is at c command q o there id (discarded id next done) next (inr done))
