-- Steps of a local heap leave each fixed object its bytes.
use Rattle.w16_machine.proofs
use proofs.Common as C
use proofs.Common.{◌≡◌, ◌≢◌, ℕ, ◌+◌, ◌-◌, ◌≤◌, inl, inr, Bool, true, false, cond, not, ◌&&◌, ◌||◌, ◌==◌, nat_lt, IfOk, IfSome, IsSomeAnd, List, [], take, Option, Some, None, Result, Ok, Err, option_map, is_some, refl, sym, ap, ◌∙◌, subst, false≢true, cases_eq, Block, Entry, Kind, Fixed}
use proofs.Common.{Discardable, Refusal, Heap, Object, object_at, is_fixed, is_discardable, with_ordered, with_newest, removed, absent, IsNew, Asked, Table, asked, AreNamed, rounded_up, local_kind, local_options, moveable_or_discardable}
use Rattle.w16_model.specs.Commands.{Command}
use Rattle.w16_model.specs.Commands.Family.{OfLocals}
use proofs.LocalOutcomes.{IsAltered, IsMade, IsRoomed, IsStepped}
use Rattle.w16_model.specs.Reallocation.{KeepsRest}
use Rattle.std.specs.FinMap as finmap
use Rattle.w16_model.specs.declared.Refusal.TheVariants as refusals

-- a fixed object has bytes
abbrev pub HasName : Object → Type 0
HasName o = is_fixed o.kind ≡ true → is_some o.bytes ≡ true

-- other bytes of the segment don't matter
pub named_in : (t : Table) → C.IsTable t → (memory after : List ℕ) → t.hi ≤ C.length memory → t.hi ≤ C.length after → AreNamed (C.heap_in t memory) → AreNamed (C.heap_in t after)
named_in t is memory after whole same named id =
    subst (λ p. IfSome p HasName) (sym (C.object_is t is _ same id)) (turn (C.entry_at t id) (subst (λ p. IfSome p HasName) (C.object_is t is _ whole id) (named id)))
  where
    some_bytes : (b : Option Block) → is_some (option_map (λ x. C.slice_range memory x.at (x.at + x.size)) b) ≡ is_some (option_map (λ x. C.slice_range after x.at (x.at + x.size)) b)
    some_bytes None = refl
    some_bytes (Some x) = refl

    turn : (e : Option Entry) → IfSome (option_map (C.object_in t.blocks memory id) e) HasName → IfSome (option_map (C.object_in t.blocks after id) e) HasName
    turn None h = tt
    turn (Some e) h = λ f. sym (some_bytes _) ∙ h f

-- an object that isn't fixed has a name
loose_named : (o : Object) → is_fixed o.kind ≡ false → HasName o
loose_named o loose f = absurd (false≢true (sym loose ∙ f))

pub not_fixed : (flags : ℕ) → is_fixed (moveable_or_discardable flags) ≡ false
not_fixed flags = turn _
  where
    turn : (b : Bool) → is_fixed (cond b Discardable C.Moveable) ≡ false
    turn true = refl
    turn false = refl

asked_loose : (flags size : ℕ) → C.is_absent_asked flags size ≡ true → is_fixed (local_kind flags) ≡ false
asked_loose flags size t = ap (λ b. is_fixed (cond b (moveable_or_discardable flags) Fixed)) (C.and_parts (size == 0) _ t).1 ∙ not_fixed flags

module _ (old : Heap) (named : AreNamed old) where
  -- an object that is there
  pub has_name : (id : ℕ) (o : Object) → object_at old id ≡ Some o → HasName o
  has_name id o there = subst (λ p. IfSome p HasName) there (named id)

  -- one is put in, with any place and order
  pub named_put : (new : Heap) (id : ℕ) (o : Object) → new.objects ≡ finmap.insert old.objects id o → HasName o → AreNamed new
  named_put new id o put has q = subst (λ p. IfSome p HasName) (sym (ap (λ m. finmap.get m q) put)) (elim (cases_eq q id) [
    | inl e ↦ subst (λ p. IfSome p HasName) (sym (C.inserted_here old.objects id o q e)) has
    | inr d ↦ subst (λ p. IfSome p HasName) (sym (C.inserted_other old.objects id o q d)) (named q)
  ])

  -- one goes
  pub named_removed : (id : ℕ) → AreNamed (removed old id)
  named_removed id q = elim (cases_eq q id) [
    | inl e ↦ subst (λ p. IfSome p HasName) (sym (C.taken_here old.objects id q e)) tt
    | inr d ↦ subst (λ p. IfSome p HasName) (sym (C.taken_other old.objects id q d)) (named q)
  ]

  -- a discardable one loses its bytes
  pub named_absent : (id : ℕ) (o : Object) → object_at old id ≡ Some o → is_discardable o.kind ≡ true → AreNamed (absent old id)
  named_absent id o there may q = elim (cases_eq q id) [
    | inl e ↦ subst (λ p. IfSome p HasName) (sym (ap (object_at (absent old id)) e ∙ C.get-update_same old.objects id (λ (o : Object). record o { bytes = None }) ∙ ap (option_map (λ (o : Object). let p : Object = record o { bytes = None } in p)) there))
        (λ f. absurd (turn o.kind may f))
    | inr d ↦ subst (λ p. IfSome p HasName) (sym (C.get-update_other old.objects id (λ (o : Object). record o { bytes = None }) q d)) (named q)
  ]
    where
      turn : (k : Kind) → is_discardable k ≡ true → is_fixed k ≡ true → ⊥
      turn Fixed t f = false≢true t
      turn C.Moveable t f = false≢true t
      turn Discardable t f = false≢true f

  -- the steps that ask for no room
  if_ok : (b : Bool) (r s : Result Heap Refusal) → (b ≡ true → IfOk r AreNamed) → (b ≡ false → IfOk s AreNamed) → IfOk (cond b r s) AreNamed
  if_ok true r s f g = f refl
  if_ok false r s f g = g refl

  lock_named : (id : ℕ) → IfOk (C.after_lock old id) AreNamed
  lock_named id = turn (object_at old id) refl
    where
      turn : (p : Option Object) → object_at old id ≡ p → IfOk (elim p as (λ _. Result Heap Refusal) [
        | None ↦ Err refusals.Absent
        | Some o ↦ cond (not (is_some o.bytes)) (Err refusals.Absent) (cond (is_fixed o.kind) (Err refusals.Fixed) (cond (o.locks == 255) (Err refusals.LockFull) (Ok (with_ordered old id (record o { locks = o.locks + 1 }) (C.touched id)))))
      ]) AreNamed
      turn None e = tt
      turn (Some o) e =
          let locked : Heap = with_ordered old id (record o { locks = o.locks + 1 }) (C.touched id) in
          if_ok (not (is_some o.bytes)) (Err refusals.Absent) (cond (is_fixed o.kind) (Err refusals.Fixed) (cond (o.locks == 255) (Err refusals.LockFull) (Ok locked))) (λ _. tt) (λ _.
          if_ok (is_fixed o.kind) (Err refusals.Fixed) (cond (o.locks == 255) (Err refusals.LockFull) (Ok locked)) (λ _. tt) (λ _.
          if_ok (o.locks == 255) (Err refusals.LockFull) (Ok locked) (λ _. tt) (λ _. named_put locked id (record o { locks = o.locks + 1 }) refl (has_name id o e))))

  unlock_named : (id : ℕ) → IfOk (C.after_unlock old id) AreNamed
  unlock_named id = turn (object_at old id) refl
    where
      turn : (p : Option Object) → object_at old id ≡ p → IfOk (elim p as (λ _. Result Heap Refusal) [
        | None ↦ Ok old
        | Some o ↦ cond (is_fixed o.kind) (Err refusals.Fixed) (Ok (C.with_object old id (record o { locks = o.locks - 1 })))
      ]) AreNamed
      turn None e = named
      turn (Some o) e =
          let less : Heap = C.with_object old id (record o { locks = o.locks - 1 }) in
          if_ok (is_fixed o.kind) (Err refusals.Fixed) (Ok less) (λ _. tt) (λ _. named_put less id (record o { locks = o.locks - 1 }) refl (has_name id o e))

  free_named : (id : ℕ) → IfOk (C.after_free old id) AreNamed
  free_named id = turn (object_at old id)
    where
      turn : (p : Option Object) → IfOk (elim p as (λ _. Result Heap Refusal) [ None ↦ Ok old | Some o ↦ cond (nat_lt 0 o.locks) (Err refusals.Locked) (Ok (removed old id)) ]) AreNamed
      turn None = named
      turn (Some o) = if_ok (nat_lt 0 o.locks) (Err refusals.Locked) (Ok (removed old id)) (λ _. tt) (λ _. named_removed id)

  discard_named : (id : ℕ) → IfOk (C.after_discard old id) AreNamed
  discard_named id = turn (object_at old id) refl
    where
      turn : (p : Option Object) → object_at old id ≡ p → IfOk (elim p as (λ _. Result Heap Refusal) [
        | None ↦ Err refusals.NotDiscardable
        | Some o ↦ cond (nat_lt 0 o.locks) (Err refusals.Locked) (cond (is_discardable o.kind) (Ok (absent old id)) (Err refusals.NotDiscardable))
      ]) AreNamed
      turn None e = tt
      turn (Some o) e =
          if_ok (nat_lt 0 o.locks) (Err refusals.Locked) (cond (is_discardable o.kind) (Ok (absent old id)) (Err refusals.NotDiscardable)) (λ _. tt) (λ _.
          if_ok (is_discardable o.kind) (Ok (absent old id)) (Err refusals.NotDiscardable) (λ t. named_absent id o e t) (λ _. tt))

  modify_named : (id : ℕ) (kind : Kind) → is_fixed kind ≡ false → IfOk (C.after_modify old id kind) AreNamed
  modify_named id kind loose = turn (object_at old id) refl
    where
      turn : (p : Option Object) → object_at old id ≡ p → IfOk (elim p as (λ _. Result Heap Refusal) [
        | None ↦ Err refusals.Absent
        | Some o ↦ cond (is_fixed o.kind || is_fixed kind) (Err refusals.Fixed)
            (Ok (with_ordered old id (record o { kind = kind }) (λ order. cond (is_discardable o.kind && is_discardable kind) order (with_newest id (record o { kind = kind }) order))))
      ]) AreNamed
      turn None e = tt
      turn (Some o) e =
          let other : Heap = with_ordered old id (record o { kind = kind }) (λ order. cond (is_discardable o.kind && is_discardable kind) order (with_newest id (record o { kind = kind }) order)) in
          if_ok (is_fixed o.kind || is_fixed kind) (Err refusals.Fixed) (Ok other) (λ _. tt) (λ _. named_put other id (record o { kind = kind }) refl (loose_named (record o { kind = kind }) loose))

  -- the others, in a step that may discard
  named_other : (new : Heap) (h : Option ℕ) (k : ℕ) → C.KeepsOthers old h k new → (q : ℕ) → h ≢ Some q → IfSome (object_at new q) HasName
  named_other new h k keeps q other = elim (C.cases_Bool (C.is_member q (take k (C.eligible (C.blocks old) old.order h)))) [
    | inl t ↦ gone (object_at old q) (keeps.discarded q t)
    | inr t ↦ subst (λ p. IfSome p HasName) (sym (keeps.kept q other (λ e. false≢true (sym t ∙ e)))) (named q)
  ]
    where
      gone : (p : Option Object) → IsSomeAnd p (λ o. (o.kind ≡ Discardable) × (o.locks ≡ 0) × (is_some o.bytes ≡ true) × (object_at new q ≡ Some (record o { bytes = None }))) → IfSome (object_at new q) HasName
      gone None h = absurd h
      gone (Some o) h = subst (λ p. IfSome p HasName) (sym h.3) (λ f. absurd (false≢true (sym (ap is_fixed h.0) ∙ f)))

  -- and its own, which has bytes
  named_own : (new : Heap) (id k : ℕ) → C.KeepsOthers old (Some id) k new → IfSome (object_at new id) HasName → AreNamed new
  named_own new id k keeps own q = elim (cases_eq q id) [
    | inl e ↦ subst (λ i. IfSome (object_at new i) HasName) (sym e) own
    | inr d ↦ named_other new (Some id) k keeps q (λ e. let same : id ≡ q = cc in d (sym same))
  ]

  -- the steps that ask for room
  module _ (is : C.IsHeap old) where
    room_named : (n answer : ℕ) (new : Heap) → C.MakesRoom old n answer new → AreNamed new
    room_named n answer new made q = named_other new None (C.compaction_prefix old n) ((C.others_law old new is (C.compaction_prefix old n)).1 made.settled) q none
      where
        none : ◌≡◌ {A = Option ℕ} None (Some q) → ⊥
        none e = cc

    allocated_named : (id n : ℕ) (kind : Kind) (options : C.RoomOptions) (new : Heap) → C.Allocates old id n kind 0 options true new → AreNamed new
    allocated_named id n kind options new a =
        let what : Asked = record { options = options; prefix = C.discards_needed old n (Some id) options; becomes = IsNew options.zero n kind 0; order = with_newest id } in
        let r : (k : ℕ) × (what.prefix ≡ Some k) × ((p : Object) × what.becomes p × C.Settles old (C.stays_for id what.options) (with_ordered (C.discarded old k (Some id)) id p (what.order p)) new) = asked old id what new a.request in
        named_own new id r.0 ((C.others_law old new is r.0).0 id options r.2.0 (with_newest id r.2.0) r.2.2)
        (subst (λ p. IfSome p HasName) (sym (ap (λ (h : Heap). object_at h id) r.2.2.same ∙ C.inserted_here (C.discarded old r.0 (Some id)).objects id r.2.0 id refl)) (λ f. some_bytes r.2.0.bytes r.2.1.new_bytes))
      where
        some_bytes : (b : Option (List ℕ)) → IsSomeAnd b (C.AreNew options.zero n) → is_some b ≡ true
        some_bytes None h = absurd h
        some_bytes (Some b) h = refl

    resized_named : (id size flags answer : ℕ) (new : Heap) → C.ResizesObject old id size flags answer new → AreNamed new
    resized_named id size flags answer new r = turn (object_at old id) (C.rest_law old new id (rounded_up size) (local_options flags) is r.resized)
      where
        own : (zero : Bool) (o : Object) (n : ℕ) (p : Option Object) → IsSomeAnd p (C.IsResized zero n o) → IfSome p HasName
        own zero o n None h = tt
        own zero o n (Some p) h = λ f. some_bytes p.bytes h.bytes
          where
            some_bytes : (b : Option (List ℕ)) → IsSomeAnd b (C.AreResized zero n (C.unwrap_or o.bytes [])) → is_some b ≡ true
            some_bytes None h = absurd h
            some_bytes (Some b) h = refl

        turn : (p : Option Object) → IsSomeAnd p (λ o. KeepsRest old id (rounded_up size) o (local_options flags) new) → AreNamed new
        turn None h = absurd h
        turn (Some o) h = named_own new id h.count h.others (own (local_options flags).zero o (rounded_up size) (object_at new id) h.object)

    pub made_named : (first : Heap) (command : Command OfLocals) (answer : ℕ) (new : Heap) → IsMade first old command answer new → AreNamed new
    made_named first command answer new (inl (flags, size, id, free, made)) = allocated_named id (rounded_up size) (local_kind flags) (local_options flags) new made.allocated
    made_named first command answer new (inr (inl (size, made))) = room_named size answer new made
    made_named first command answer new (inr (inr (size, flags, id, named_id, may, resized))) = resized_named id size flags answer new resized

    pub roomed_named : (command : Command OfLocals) (answer : ℕ) (new : Heap) → IsRoomed old command answer new → AreNamed new
    roomed_named command answer new (inl (asks, made)) = made_named old command answer new made
    roomed_named command answer new (inr (id, named_id, inl e)) = subst (λ r. IfOk r AreNamed) e.1 (free_named id)
    roomed_named command answer new (inr (id, named_id, inr e)) = subst (λ r. IfOk r AreNamed) e (discard_named id)

  altered_named : (id : ℕ) (new : Heap) → IsAltered old id new → AreNamed new
  altered_named id new (inl e) = subst (λ r. IfOk r AreNamed) e (lock_named id)
  altered_named id new (inr (inl e)) = subst (λ r. IfOk r AreNamed) e (unlock_named id)
  altered_named id new (inr (inr (flags, e))) = subst (λ r. IfOk r AreNamed) e (modify_named id (moveable_or_discardable flags) (not_fixed flags))

  pub stepped_named : (command : Command OfLocals) (new : Heap) → IsStepped old command new → AreNamed new
  stepped_named command new (inl (id, named_id, altered)) = altered_named id new altered
  stepped_named command new (inr (flags, size, id, t, enters)) =
      named_put new id (record { kind = local_kind flags; locks = 0; bytes = None }) (ap (λ (h : Heap). h.objects) enters.entered) (loose_named (record { kind = local_kind flags; locks = 0; bytes = None }) (asked_loose flags size t))
