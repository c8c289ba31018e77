-- What local calls do.
use Rattle.w16_laws.specs.LocalEffects as K
use Rattle.w16_machine.proofs
use proofs.Common as C
use proofs.LocalFacts as M
use proofs.Common.{◌≡◌, ℕ, ◌+◌, ◌-◌, ◌<◌, true, false, cond, not, ◌||◌, ◌&&◌, ◌==◌, nat_lt, MatchBool, Bool, Option, Some, None, Result, Ok, Err, is_some, refl, sym, ap, ◌∙◌, subst, arith, Refusal, Kind, Heap, Object, object_at, is_fixed, is_discardable, newest, removed}
use proofs.Common.{absent, after_lock, after_free, has_flag, Word, World, LocalHeap, Acts, heap_of, Leaves, GivesUp, near_pointer}
use Rattle.w16_laws.specs.LocalEffects.{Ends, discard_is_refused}
use Rattle.w16_machine.specs.declared.local.TheConstants.{LMEM_MOVEABLE, LMEM_MODIFY}
use proofs.LocalNamed.{not_fixed}
use Rattle.std.specs.FinMap as finmap
use Rattle.w16_model.specs.declared.Refusal.TheVariants as refusals

-- What each step of a heap leaves where nothing refuses it.
module _ (heap : Heap) (id : ℕ) (o : Object) (there : object_at heap id ≡ Some o) where
  abbrev locked : Heap
  locked = C.with_ordered heap id (record o { locks = o.locks + 1 }) (C.touched id)

  abbrev unlocked : Heap
  unlocked = C.with_object heap id (record o { locks = o.locks - 1 })

  abbrev modified : Kind → Heap
  modified kind = C.with_ordered heap id (record o { kind = kind }) (λ order. cond (is_discardable o.kind && is_discardable kind) order (C.with_newest id (record o { kind = kind }) order))

  lock_is : is_some o.bytes ≡ true → is_fixed o.kind ≡ false → o.locks < 255 → after_lock heap id ≡ Ok locked
  lock_is has loose few = rw (there, has, loose, C.ne_eqb o.locks 255 (λ e. omega (arith, e, few)), after_lock)

  unlock_is : is_fixed o.kind ≡ false → C.after_unlock heap id ≡ Ok unlocked
  unlock_is loose = rw (there, loose, C.after_unlock)

  free_is : o.locks ≡ 0 → after_free heap id ≡ Ok (removed heap id)
  free_is free = rw (there, free, after_free)

  modify_is : (kind : Kind) → is_fixed o.kind ≡ false → is_fixed kind ≡ false → C.after_modify heap id kind ≡ Ok (modified kind)
  modify_is kind loose asked = rw (there, loose, asked, C.after_modify)

  discarded_is : is_discardable o.kind ≡ true → o.locks ≡ 0 → C.after_discard heap id ≡ Ok (absent heap id)
  discarded_is may free = rw (there, free, may, C.after_discard)

  -- an object with bytes has a place, and a discardable one is in the order
  module _ (is : C.IsHeap heap) (has : is_some o.bytes ≡ true) where
    placed : finmap.get heap.places id ≡ Some (near_pointer heap id)
    placed = turn (finmap.get heap.places id) (is.at_bytes id ∙ ap (λ p. is_some (C.bytes_in p)) there ∙ has)
      where
        turn : (p : Option ℕ) → is_some p ≡ true → p ≡ Some (C.unwrap_or p 0)
        turn None e = cc
        turn (Some at) e = refl

    touched_newest : is_discardable o.kind ≡ true → C.touched id heap.order ≡ newest id heap.order
    touched_newest may = ap (λ b. cond {A = C.List ℕ} b (newest id heap.order) heap.order) (is.in_order id ∙ ap C.is_in_order there ∙ (λ i. may i && has i))

-- In the current heap.
module _ (old new : World) (name : ℕ) (n : C.LocalObject) (named : C.object_named old name ≡ Some n) where
  here : M.IsThere old n.heap
  here = M.current_there old n.heap (M.named_there old name n named).0

  -- what is so of the heap that a step leaves
  became : (heap : Heap) (Q : Heap → Type 0) → Q heap → C.Becomes old n.heap heap new → C.Left new n.heap Q
  became heap Q so b =
      let mine : LocalHeap = record { slot = n.heap.slot; table = b.table; bytes = n.heap.bytes } in
      subst (λ p. C.IsSomeAnd p (λ after. Q (heap_of after))) (sym (M.there_local new mine (M.became_there old new n.heap heap here b))) (subst Q (sym b.same) so)

  acted : (heap : Heap) (Q : Heap → Type 0) → Q heap → Acts old n.heap (λ next. next ≡ heap) new → C.Left new n.heap Q
  acted heap Q so a =
      let mine : LocalHeap = record { slot = n.heap.slot; table = a.table; bytes = a.bytes } in
      subst (λ p. C.IsSomeAnd p (λ after. Q (heap_of after))) (sym (M.there_local new mine (M.acted_there old new n.heap (λ next. next ≡ heap) here a))) (subst Q (sym a.acted) so)

  -- a step is taken where it is known what it leaves
  on : (otherwise answer : ℕ) (so : C.LocalObject → Type 0) → C.OnNamed old name otherwise answer new so → so n
  on otherwise answer so step = subst (λ p. C.MatchOption p (C.Stays old otherwise answer new) so) named step

  taken : (r : Result Heap Refusal) (heap : Heap) (value : Heap → ℕ) (refused : Refusal → ℕ) (answer : ℕ) → r ≡ Ok heap → Leaves old n.heap r value refused answer new → (answer ≡ value heap) × C.Becomes old n.heap heap new
  taken r heap value refused answer e l = subst (λ r. Leaves old n.heap r value refused answer new) e l

  given : (r : Result Heap Refusal) (heap : Heap) (value refused answer : ℕ) → r ≡ Ok heap → GivesUp old n.heap r value refused answer new → (answer ≡ value) × Acts old n.heap (λ next. next ≡ heap) new
  given r heap value refused answer e g = subst (λ r. GivesUp old n.heap r value refused answer new) e g

pub lock_law : K.LockLaw
lock_law old new name n o (Word answer) is m has loose few step =
    let heap = heap_of n.heap in
    let pointer = near_pointer heap _ in
    let left = locked heap n.id o m.there in
    let l = taken old new name n m.named _ left (λ _. pointer) _ answer (lock_is heap _ o m.there has loose few)
    (on old new name n m.named 0 answer (λ o. Leaves old o.heap _ (λ _. near_pointer (heap_of o.heap) o.id) _ answer new) step) in
    let is_heap = M.heap_here old is n.heap (here old new name n m.named) in
    record {
      counted = became old new name n m.named _ (λ next. object_at next n.id ≡ Some (record o { locks = o.locks + 1 })) (C.inserted_here _ n.id (record o { locks = o.locks + 1 }) _ refl) l.1;
      newest = λ may. became old new name n m.named _ (λ next. next.order ≡ newest n.id heap.order) (touched_newest heap n.id o m.there is_heap has may) l.1;
      answered = (pointer, placed heap _ o m.there is_heap has, ap Word l.0);
    }
lock_law old new name n o reply is m has loose few step = absurd step

pub unlock_law : K.UnlockLaw
unlock_law old new name n o (Word answer) m loose step =
    let heap = heap_of n.heap in
    let less : Object = record o { locks = o.locks - 1 } in
    let left = C.with_object heap n.id less in
    let here = C.inserted_here _ n.id less n.id refl in
    let l = taken old new name n m.named _ left _ (λ _. 0) answer (unlock_is _ _ o m.there loose)
    (on old new name n m.named 0 answer (λ o. Leaves old o.heap _ _ (λ _. 0) answer new) step) in (
      became old new name n m.named left (λ next. object_at next n.id ≡ Some less) here l.1,
      ap Word (l.0 ∙ ap (λ p. cond (nat_lt 0 (C.unwrap_or (C.option_map (λ o. o.locks) p) 0)) 1 0) here),
    )
unlock_law old new name n o reply m loose step = absurd step

pub free_law : K.FreeLaw
free_law old new name n o (Word answer) m free step =
    let heap = heap_of n.heap in
    let g : (answer ≡ 0) × Acts old n.heap (λ next. next ≡ removed heap n.id) new = given old new name n m.named _ _ 0 name _ (free_is _ _ o m.there free)
    (on old new name n m.named name answer (λ o. GivesUp old o.heap _ 0 name answer new) step) in
    (acted old new name n m.named _ (λ next. object_at next n.id ≡ None) (C.taken_here _ _ _ refl) g.1, ap Word g.0)
free_law old new name n o reply m free step = absurd step

-- LocalReAlloc
abbrev Reallocs : World → ℕ → ℕ → ℕ → ℕ → World → C.LocalObject → Type 0
Reallocs old name size flags answer new o = MatchBool (has_flag flags LMEM_MODIFY) (C.ModifiesObject old name flags answer new o) (MatchBool (size == 0) (C.DiscardsObject old name flags answer new o) (C.SizesObject old size flags answer new o))

pub modify_law : K.ModifyLaw
modify_law old new name size flags n o (Word answer) m modify loose step =
    let heap = heap_of n.heap in
    let kind = C.moveable_or_discardable flags in
    let left = modified heap n.id o m.there kind in
    let l = taken old new name n m.named (C.after_modify _ _ _) left (λ _. name) (λ _. name) answer (modify_is _ _ o m.there _ loose (not_fixed _))
    (subst (λ b. MatchBool b (C.ModifiesObject old name flags answer new n) (MatchBool (size == 0) (C.DiscardsObject old name flags answer new n) (C.SizesObject old size flags answer new n))) modify (on old new name n m.named 0 answer _ step)) in
    (became old new name n m.named _ (λ next. object_at next n.id ≡ Some (record o { kind = kind })) (C.inserted_here _ n.id (record o { kind = kind }) _ refl) l.1, ap Word l.0)
modify_law old new name size flags n o reply m modify loose step = absurd step

-- a size of 0
discards : (old new : World) (name flags : ℕ) (n : C.LocalObject) (o : Object) (answer : ℕ) → K.IsLocalNamed old name n o → has_flag flags LMEM_MODIFY ≡ false → has_flag flags LMEM_MOVEABLE ≡ true → is_discardable o.kind ≡ true → o.locks ≡ 0
    → C.OnNamed old name 0 answer new (Reallocs old name 0 flags answer new) → Ends new n (Some (record o { bytes = None })) × (answer ≡ name)
discards old new name flags n o answer m keeps moveable may free step =
    let heap = heap_of n.heap in
    let bare : Object → Object = (λ o. record o { bytes = None }) in
    let asked = subst (λ b. MatchBool b (C.ModifiesObject old name flags answer new n) (C.DiscardsObject old name flags answer new n)) keeps (on old new name n m.named 0 answer _ step) in
    let g : (answer ≡ name) × Acts old n.heap (λ next. next ≡ absent heap n.id) new = given old new name n m.named (C.after_discard _ _) _ _ 0 _ (discarded_is _ _ o m.there may free)
    (subst (λ b. MatchBool b (GivesUp old n.heap (C.after_discard heap n.id) name 0 answer new) (C.Stays old 0 answer new)) moveable asked) in
    (acted old new name n m.named _ (λ next. object_at next n.id ≡ Some (bare o)) (C.get-update_same _ _ _ ∙ ap (C.option_map _) m.there) g.1, g.0)

pub discard_law : K.DiscardLaw
discard_law old new name command n o reply m (C.inl e) may free step = turn reply (subst (λ c. C.LocalStep old c reply new) e step)
  where
    turn : (reply : C.Reply) → C.LocalStep old (C.LocalDiscard name) reply new → Ends new n (Some (record o { bytes = None })) × (reply ≡ Word name)
    turn (Word answer) step = let d : Ends new n (Some (record o { bytes = None })) × (answer ≡ name) = discards old new name LMEM_MOVEABLE n o answer m refl refl may free step in (d.0, ap Word d.1)
    turn other step = absurd step
discard_law old new name command n o reply m (C.inr (flags, keeps, moveable, e)) may free step = turn reply (subst (λ c. C.LocalStep old c reply new) e step)
  where
    turn : (reply : C.Reply) → C.LocalStep old (C.LocalReAlloc name 0 flags) reply new → Ends new n (Some (record o { bytes = None })) × (reply ≡ Word name)
    turn (Word answer) step = let d : Ends new n (Some (record o { bytes = None })) × (answer ≡ name) = discards old new name flags n o answer m keeps moveable may free step in (d.0, ap Word d.1)
    turn other step = absurd step

-- What is refused.

-- a step that is never taken
abbrev Never : Result Heap Refusal → Type 0
Never r = C.IfOk r (λ _. ⊥)

lock_never : (has fixed full : Bool) (heap : Heap) → (not has || fixed || full) ≡ true → Never (cond (not has) (Err refusals.Absent) (cond fixed (Err refusals.Fixed) (cond full (Err refusals.LockFull) (Ok heap))))
lock_never false fixed full heap e = tt
lock_never true true full heap e = tt
lock_never true false true heap e = tt
lock_never true false false heap e = cc

discard_never : (locked may : Bool) (heap : Heap) → (locked || not may) ≡ true → Never (cond locked (Err refusals.Locked) (cond may (Ok heap) (Err refusals.NotDiscardable)))
discard_never true may heap e = tt
discard_never false false heap e = tt
discard_never false true heap e = cc

one_never : (b : Bool) (refusal : Refusal) (heap : Heap) → b ≡ true → Never (cond b (Err refusal) (Ok heap))
one_never true refusal heap e = tt
one_never false refusal heap e = cc

-- each by what is there
module _ (heap : Heap) (id : ℕ) (o : Object) (there : object_at heap id ≡ Some o) where
  no_lock : (not (is_some o.bytes) || is_fixed o.kind || o.locks == 255) ≡ true → Never (after_lock heap id)
  no_lock r = rw (there, after_lock) (lock_never (is_some o.bytes) (is_fixed o.kind) (o.locks == 255) (locked heap id o there) r)

  no_unlock : is_fixed o.kind ≡ true → Never (C.after_unlock heap id)
  no_unlock r = rw (there, C.after_unlock) (one_never (is_fixed o.kind) refusals.Fixed (unlocked heap id o there) r)

  no_free : nat_lt 0 o.locks ≡ true → Never (after_free heap id)
  no_free r = rw (there, after_free) (one_never (nat_lt 0 o.locks) refusals.Locked (removed heap id) r)

  no_modify : (kind : Kind) → is_fixed o.kind ≡ true → Never (C.after_modify heap id kind)
  no_modify kind r = rw (there, C.after_modify) (one_never (is_fixed o.kind || is_fixed kind) refusals.Fixed (modified heap id o there kind) (ap (λ b. b || is_fixed kind) r))

  no_discard : discard_is_refused o ≡ true → Never (C.after_discard heap id)
  no_discard r = rw (there, C.after_discard) (discard_never (nat_lt 0 o.locks) (is_discardable o.kind) (absent heap id) r)

module _ (old new : World) (n : C.LocalObject) (o : Object) (there : object_at (heap_of n.heap) n.id ≡ Some o) (answer : ℕ) where
  left_so : (r : Result Heap Refusal) (taken : Heap → ℕ) (refused : Refusal → ℕ) → Never r → Leaves old n.heap r taken refused answer new → new ≡ old
  left_so (Ok heap) taken refused never l = absurd never
  left_so (Err refusal) taken refused never l = l.1

  given_so : (r : Result Heap Refusal) (taken refused : ℕ) → Never r → GivesUp old n.heap r taken refused answer new → new ≡ old
  given_so (Ok heap) taken refused never g = absurd never
  given_so (Err refusal) taken refused never g = g.1

  reallocs_so : (name size flags : ℕ) → K.is_refused (C.LocalReAlloc name size flags) o ≡ true → Reallocs old name size flags answer new n → new ≡ old
  reallocs_so name size flags = modify (has_flag flags LMEM_MODIFY)
    where
      discard : (b : Bool) → (not b || discard_is_refused o) ≡ true → MatchBool b (GivesUp old n.heap (C.after_discard (heap_of n.heap) n.id) name 0 answer new) (C.Stays old 0 answer new) → new ≡ old
      discard true r g = given_so (C.after_discard (heap_of n.heap) n.id) name 0 (no_discard (heap_of n.heap) n.id o there r) g
      discard false r s = s.1

      sized : (b : Bool) → (b && (not (has_flag flags LMEM_MOVEABLE) || discard_is_refused o)) ≡ true → MatchBool b (C.DiscardsObject old name flags answer new n) (C.SizesObject old size flags answer new n) → new ≡ old
      sized true r d = discard (has_flag flags LMEM_MOVEABLE) r d
      sized false r d = cc

      modify : (b : Bool) → cond b (is_fixed o.kind) (size == 0 && (not (has_flag flags LMEM_MOVEABLE) || discard_is_refused o)) ≡ true
          → MatchBool b (C.ModifiesObject old name flags answer new n) (MatchBool (size == 0) (C.DiscardsObject old name flags answer new n) (C.SizesObject old size flags answer new n)) → new ≡ old
      modify true r l = left_so (C.after_modify (heap_of n.heap) n.id (C.moveable_or_discardable flags)) (λ _. name) (λ _. name) (no_modify (heap_of n.heap) n.id o there (C.moveable_or_discardable flags) r) l
      modify false r s = sized (size == 0) r s

module _ (old new : World) (name : ℕ) (n : C.LocalObject) (o : Object) (m : K.IsLocalNamed old name n o) (answer : ℕ) where
  -- a call's own name names the object
  own : (own : ℕ) → ◌≡◌ {A = Option ℕ} (Some own) (Some name) → C.object_named old own ≡ Some n
  own other e = let same : other ≡ name = cc in ap (C.object_named old) same ∙ m.named

  refused : (command : C.Command C.OfLocals) → C.named_by command ≡ Some name → K.is_refused command o ≡ true → C.Answers old command answer new → new ≡ old
  refused (C.LocalLock name) e r step =
      let pointer : ℕ = near_pointer (heap_of n.heap) n.id in
      left_so old new n o m.there answer (after_lock (heap_of n.heap) n.id) (λ _. pointer) (C.lock_refused pointer) (no_lock (heap_of n.heap) n.id o m.there r)
      (on old new name n (own name e) 0 answer (λ o. Leaves old o.heap (after_lock (heap_of o.heap) o.id) (λ _. near_pointer (heap_of o.heap) o.id) (C.lock_refused (near_pointer (heap_of o.heap) o.id)) answer new) step)
  refused (C.LocalUnlock name) e r step =
      left_so old new n o m.there answer (C.after_unlock (heap_of n.heap) n.id) (C.locks_left n.id) (λ _. 0) (no_unlock (heap_of n.heap) n.id o m.there r)
      (on old new name n (own name e) 0 answer (λ o. Leaves old o.heap (C.after_unlock (heap_of o.heap) o.id) (C.locks_left o.id) (λ _. 0) answer new) step)
  refused (C.LocalFree name) e r step =
      given_so old new n o m.there answer (after_free (heap_of n.heap) n.id) 0 name (no_free (heap_of n.heap) n.id o m.there r)
      (on old new name n (own name e) name answer (λ o. GivesUp old o.heap (after_free (heap_of o.heap) o.id) 0 name answer new) step)
  refused (C.LocalReAlloc name size flags) e r step = reallocs_so old new n o m.there answer name size flags r (on old new name n (own name e) 0 answer (Reallocs old name size flags answer new) step)
  refused (C.LocalDiscard name) e r step = reallocs_so old new n o m.there answer name 0 LMEM_MOVEABLE r (on old new name n (own name e) 0 answer (Reallocs old name 0 LMEM_MOVEABLE answer new) step)
  refused other e r step = cc

pub refused_law : K.RefusedLaw
refused_law old new (C.DS selector) C.Done name n o asked m r step = cc
refused_law old new command (Word answer) name n o asked m r step = refused old new _ n o m answer command asked r step
refused_law old new command reply name n o asked m r step = absurd step
