-- Which objects, and so which free entries, a step of a heap leaves.
use Rattle.w16_local.proofs
use proofs.Common as C
use proofs.Common.{◌≡◌, ◌≢◌, ℕ, ◌+◌, ◌-◌, ◌<◌, ◌≤◌, inl, inr, Bool, true, false, cond, not, if◌then◌else◌, IfOk, List, length, set, Option, Some, None, is_some, Result, Ok, Err, nat_lt, ◌&&◌, ◌||◌, ◌==◌, take, refl, sym, ap, ◌∙◌, subst, arith, false≢true, Kind, Refusal, absent, removed}
use proofs.Common.{with_ordered, Heap, Object, object_at, is_discardable, is_fixed, Table, entry_at, heap_in, LocalHeapInvariant}
use Rattle.std.specs.FinMap as finmap
use Rattle.w16_model.specs.declared.Refusal.TheVariants as refusals

-- Objects.

-- the same ids have objects
abbrev pub HasSame : Heap → Heap → Type 0
HasSame old new = (q : ℕ) → is_some (object_at new q) ≡ is_some (object_at old q)

-- all others have
abbrev pub HasOthers : ℕ → Heap → Heap → Type 0
HasOthers id old new = (q : ℕ) → q ≢ id → is_some (object_at new q) ≡ is_some (object_at old q)

module _ (old : Heap) (id : ℕ) where
  -- an object is put in its own place
  put_same : (before o : Object) → object_at old id ≡ Some before → (new : Heap) → new.objects ≡ finmap.insert old.objects id o → HasSame old new
  put_same before o there new put q = ap (λ m. is_some (finmap.get m q)) put ∙ elim (C.cases_eq q id) [
    | inl e ↦ ap is_some (C.inserted_here old.objects id o q e) ∙ sym (ap is_some (ap (object_at old) e ∙ there))
    | inr d ↦ ap is_some (C.inserted_other old.objects id o q d)
  ]

  pub put_others : (o : Object) (new : Heap) → new.objects ≡ finmap.insert old.objects id o → HasOthers id old new
  put_others o new put q d = ap (λ m. is_some (finmap.get m q)) put ∙ ap is_some (C.inserted_other old.objects id o q d)

  pub put_here : (o : Object) (new : Heap) → new.objects ≡ finmap.insert old.objects id o → is_some (object_at new id) ≡ true
  put_here o new put = ap (λ m. is_some (finmap.get m id)) put ∙ ap is_some (C.inserted_here old.objects id o id refl)

  pub removed_others : HasOthers id old (removed old id)
  removed_others q d = ap is_some (C.taken_other old.objects id q d)

  pub removed_here : is_some (object_at (removed old id) id) ≡ false
  removed_here = ap is_some (C.taken_here old.objects id id refl)

  if_ok : (b : Bool) (r s : Result Heap Refusal) → IfOk r (HasSame old) → IfOk s (HasSame old) → IfOk (cond b r s) (HasSame old)
  if_ok true r s f g = f
  if_ok false r s f g = g

  lock_same : IfOk (C.after_lock old id) (HasSame old)
  lock_same = turn (object_at old id) refl
    where
      turn : (p : Option Object) → object_at old id ≡ p → IfOk (elim p as (λ _. Result Heap Refusal) [
        | None ↦ Err refusals.Absent
        | Some o ↦ cond (not (is_some o.bytes)) (Err refusals.Absent) (cond (is_fixed o.kind) (Err refusals.Fixed) (cond (o.locks == 255) (Err refusals.LockFull) (Ok (with_ordered old id (record o { locks = o.locks + 1 }) (C.touched id)))))
      ]) (HasSame old)
      turn None e = tt
      turn (Some o) e =
          let locked : Heap = with_ordered old id (record o { locks = o.locks + 1 }) (C.touched id) in
          if_ok (not (is_some o.bytes)) (Err refusals.Absent) (cond (is_fixed o.kind) (Err refusals.Fixed) (cond (o.locks == 255) (Err refusals.LockFull) (Ok locked))) tt
          (if_ok (is_fixed o.kind) (Err refusals.Fixed) (cond (o.locks == 255) (Err refusals.LockFull) (Ok locked)) tt
          (if_ok (o.locks == 255) (Err refusals.LockFull) (Ok locked) tt (put_same o (record o { locks = o.locks + 1 }) e locked refl)))

  unlock_same : IfOk (C.after_unlock old id) (HasSame old)
  unlock_same = turn (object_at old id) refl
    where
      turn : (p : Option Object) → object_at old id ≡ p → IfOk (elim p as (λ _. Result Heap Refusal) [ None ↦ Ok old | Some o ↦ cond (is_fixed o.kind) (Err refusals.Fixed) (Ok (C.with_object old id (record o { locks = o.locks - 1 }))) ]) (HasSame old)
      turn None e = λ q. refl
      turn (Some o) e = let less : Heap = C.with_object old id (record o { locks = o.locks - 1 }) in if_ok (is_fixed o.kind) (Err refusals.Fixed) (Ok less) tt (put_same o (record o { locks = o.locks - 1 }) e less refl)

  modify_same : (kind : Kind) → IfOk (C.after_modify old id kind) (HasSame old)
  modify_same kind = turn (object_at old id) refl
    where
      turn : (p : Option Object) → object_at old id ≡ p → IfOk (elim p as (λ _. Result Heap Refusal) [
        | None ↦ Err refusals.Absent
        | Some o ↦ cond (is_fixed o.kind || is_fixed kind) (Err refusals.Fixed)
            (Ok (with_ordered old id (record o { kind = kind }) (λ order. cond (is_discardable o.kind && is_discardable kind) order (C.with_newest id (record o { kind = kind }) order))))
      ]) (HasSame old)
      turn None e = tt
      turn (Some o) e =
          let changed : Heap = with_ordered old id (record o { kind = kind }) (λ order. cond (is_discardable o.kind && is_discardable kind) order (C.with_newest id (record o { kind = kind }) order)) in
          if_ok (is_fixed o.kind || is_fixed kind) (Err refusals.Fixed) (Ok changed) tt (put_same o (record o { kind = kind }) e changed refl)

  discard_same : IfOk (C.after_discard old id) (HasSame old)
  discard_same = turn (object_at old id)
    where
      turn : (p : Option Object) → IfOk (elim p as (λ _. Result Heap Refusal) [
        | None ↦ Err refusals.NotDiscardable
        | Some o ↦ cond (nat_lt 0 o.locks) (Err refusals.Locked) (cond (is_discardable o.kind) (Ok (absent old id)) (Err refusals.NotDiscardable))
      ]) (HasSame old)
      turn None = tt
      turn (Some o) =
          if_ok (nat_lt 0 o.locks) (Err refusals.Locked) (cond (is_discardable o.kind) (Ok (absent old id)) (Err refusals.NotDiscardable)) tt
          (if_ok (is_discardable o.kind) (Ok (absent old id)) (Err refusals.NotDiscardable) (C.same_updated old.objects id (λ (o : Object). record o { bytes = None })) tt)

  -- an object that is there, and is freed, is gone
  pub free_gone : (o : Object) → object_at old id ≡ Some o → (new : Heap) → C.after_free old id ≡ Ok new → removed old id ≡ new
  free_gone o there new e = turn (nat_lt 0 o.locks) (sym (ap (λ (p : Option Object). elim p as (λ _. Result Heap Refusal) [ None ↦ Ok old | Some o ↦ cond (nat_lt 0 o.locks) (Err refusals.Locked) (Ok (removed old id)) ]) there) ∙ e)
    where
      turn : (b : Bool) → ◌≡◌ {A = Result Heap Refusal} (cond b (Err refusals.Locked) (Ok (removed old id))) (Ok new) → removed old id ≡ new
      turn true e = cc
      turn false e = cc

-- a step that is taken
pub taken : (old : Heap) {r : Result Heap Refusal} → IfOk r (HasSame old) → (new : Heap) → r ≡ Ok new → HasSame old new
taken old {r} same new e = subst (λ r. IfOk r (HasSame old)) e same

pub locked : (old new : Heap) (id : ℕ) → C.after_lock old id ≡ Ok new → HasSame old new
locked old new id e = taken old (lock_same old id) new e

pub unlocked : (old new : Heap) (id : ℕ) → C.after_unlock old id ≡ Ok new → HasSame old new
unlocked old new id e = taken old (unlock_same old id) new e

pub modified : (old new : Heap) (id : ℕ) (kind : Kind) → C.after_modify old id kind ≡ Ok new → HasSame old new
modified old new id kind e = taken old (modify_same old id kind) new e

pub discarded : (old new : Heap) (id : ℕ) → C.after_discard old id ≡ Ok new → HasSame old new
discarded old new id e = taken old (discard_same old id) new e

-- a request leaves an object where there is one
pub kept_others : (old new : Heap) (h : Option ℕ) (k : ℕ) → C.KeepsOthers old h k new → (q : ℕ) → h ≢ Some q → is_some (object_at new q) ≡ is_some (object_at old q)
kept_others old new h k keeps q other = elim (C.cases_Bool (C.is_member q (take k (C.eligible (C.blocks old) old.order h)))) [
  | inl t ↦ gone (object_at old q) (keeps.discarded q t)
  | inr f ↦ ap is_some (keeps.kept q other (λ t. false≢true (sym f ∙ t)))
]
  where
    gone : (p : Option Object) → C.IsSomeAnd p (λ o. (o.kind ≡ C.Discardable) × (o.locks ≡ 0) × (is_some o.bytes ≡ true) × (object_at new q ≡ Some (record o { bytes = None }))) → is_some (object_at new q) ≡ is_some p
    gone None h = absurd h
    gone (Some o) h = ap is_some h.3

-- Free entries.

pub mapped : {X Y : Type 0} (f : X → Y) (p : Option X) → is_some (C.option_map f p) ≡ is_some p
mapped f None = refl
mapped f (Some x) = refl

-- the bit of an entry
abbrev pub bit : Bool → ℕ
bit used = if used then 0 else 1

module _ {t s : Table} {free : List ℕ} (kept : LocalHeapInvariant t free) (range : C.IsSameRange t s) where
  pub is_local : C.IsLocalTable s
  is_local = record {
    sound = range.sound;
    grain = range.grain ∙ kept.is_local.grain;
    entries = range.ids ∙ kept.is_local.entries;
    low = subst (λ n. 4 ≤ n) (sym range.lo) kept.is_local.low;
    high = subst (λ n. n ≤ 65536) (sym range.hi) kept.is_local.high;
  }

  module _ (memory after : List ℕ) (inside : t.hi ≤ length memory) (long : length after ≡ length memory) where
    before_is : (q : ℕ) → is_some (object_at (heap_in t memory) q) ≡ is_some (entry_at t q)
    before_is q = ap is_some (C.object_is t kept.is_local.sound.table memory inside q) ∙ mapped (C.object_in t.blocks memory q) (entry_at t q)

    after_is : (q : ℕ) → is_some (object_at (heap_in s after) q) ≡ is_some (entry_at s q)
    after_is q = ap is_some (C.object_is s range.sound.table after (let hi = range.hi in omega (arith, inside, long, hi)) q) ∙ mapped (C.object_in s.blocks after q) (entry_at s q)

    pub same_free : HasSame (heap_in t memory) (heap_in s after) → LocalHeapInvariant s free
    same_free same = record { is_local = is_local; free_entries = record { many = kept.free_entries.many; says = λ q lt. kept.free_entries.says q lt ∙ ap bit (sym (before_is q) ∙ sym (same q) ∙ after_is q) } }

    pub set_free : (id : ℕ) (used : Bool) → id < 1024 → is_some (object_at (heap_in s after) id) ≡ used → HasOthers id (heap_in t memory) (heap_in s after) → LocalHeapInvariant s (set free id (bit used))
    set_free id used lt here others = record {
      is_local = is_local;
      free_entries = record {
        many = C.length-set free id (bit used) ∙ kept.free_entries.many;
        says = λ q q_lt. elim (C.cases_eq q id) [
          | inl e ↦ ap (λ k. C.get_or (set free id (bit used)) k 0) e ∙ C.get_or-set_same free id (bit used) 0 (let many = kept.free_entries.many in omega (arith, lt, many)) ∙ ap bit (sym here ∙ after_is id ∙ ap (λ k. is_some (entry_at s k)) (sym e))
          | inr d ↦ C.get_or-set_other free id q (bit used) 0 d ∙ kept.free_entries.says q q_lt ∙ ap bit (sym (before_is q) ∙ sym (others q d) ∙ after_is q)
        ];
      };
    }

-- a memory that has a table's range
abbrev pub any_memory : Table → List ℕ
any_memory t = C.replicate t.hi 0

pub any_inside : (t : Table) → t.hi ≤ length (any_memory t)
any_inside t = omega (arith, C.length-replicate {A = ℕ} t.hi 0)
