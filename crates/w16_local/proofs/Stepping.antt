-- A step of one local heap that asks for no room: in the list of heaps, and as a call's.
use Rattle.w16_local.proofs
use proofs.Common as C
use proofs.Common.{◌≡◌, inl, inr, ℕ, ◌-◌, ◌≤◌, Bool, true, false, nat_lt, if◌then◌else◌, OnErr, List, length, set, MatchOption, Option, Some, None, option_map, unwrap_or, Result, Ok, Err, refl, sym, ap, ◌∙◌, subst, arith, nat_cmp, FinMap, Refusal, locks_at, with_object, Handles, Heap}
use proofs.Common.{Object, after_lock, after_unlock, Table, heap_in, World, LocalObject, Stays, heap_of, object_named, Leaves, lock_refused, locks_left, near_pointer, tables_of, Calls, IsNamed, alone, with_parts, Stepped, Turns, answer_of, outcome}
use proofs.Choices.{is_named}
use proofs.Locals.{default_any, here, in_range, listed_replaced, tables_replaced}
use Rattle.w16_model.proofs.Maps.{put_same}
use Rattle.std.specs.FinMap as finmap
use Rattle.w16_model.specs.declared.Refusal.TheVariants as refusals

-- A heap is taken out of the list, takes a step, and is put back.
module _ {X : Type 0} (table : X → Table) (xs : List (Option X)) {tables : FinMap nat_cmp Table} (shown : tables_of xs table ≡ tables) (slot : ℕ) (known : C.IsSome (finmap.get tables slot))
    (d : Option X) (h : X) (value : C.get_or xs slot d ≡ Some h) (s : X) (gone : Option X) where
  pub listed_stepped : (live : List ℕ) → C.AreListed xs live → C.AreListed (set (set xs slot gone) slot (Some s)) live
  listed_stepped live listed = listed_replaced xs live slot h gone s (default_any xs slot None d (in_range table xs shown slot known) ∙ value) listed

  pub tables_stepped : tables_of (set (set xs slot gone) slot (Some s)) table ≡ finmap.insert tables slot (table s)
  tables_stepped = tables_replaced table xs slot gone s (in_range table xs shown slot known) ∙ ap (λ m. finmap.insert m slot (table s)) shown

  pub stepped : {step : Heap → Heap → Type 0} → C.IsLocalTable (table s) → Turns (table h) (table s) step → Stepped tables slot step (tables_of (set (set xs slot gone) slot (Some s)) table)
  stepped is_local turns = record {
    before = table h;
    after = table s;
    was = here table xs shown slot known d h value;
    range = (turns.range.lo, turns.range.hi);
    is_local = is_local;
    heaps = turns.heaps;
    rest = tables_stepped;
  }

  -- where the heap is as it was, so are the tables
  pub same_tables : {Y : Type 0} (r : Result Y Refusal) → OnErr r (table s ≡ table h) → OnErr r (tables_of (set (set xs slot gone) slot (Some s)) table ≡ tables)
  same_tables (Ok done) e = tt
  same_tables (Err refusal) e = tables_stepped ∙ ap (finmap.insert tables slot) e ∙ put_same tables slot (table h) (here table xs shown slot known d h value)

-- what holds of a slot's table
pub holds_in : (P : Table → Type 0) {m : Option Table} {t : Table} → m ≡ Some t → C.IsSomeAnd m P → P t
holds_in P e h = rw e at h

-- a slot of which something holds has a table
pub known_in : (m : Option Table) (P : Table → Type 0) → C.IsSomeAnd m P → C.IsSome m
known_in None P h = absurd h
known_in (Some t) P h = refl

-- The calls.
module _ {handles : Handles} {tables : FinMap nat_cmp Table} {ds name slot : ℕ} {t : Table} {id : ℕ} (n : IsNamed handles tables ds name slot t id) (rest : World) where
  abbrev old : World
  old = with_parts rest handles tables ds

  abbrev object : LocalObject
  object = record { heap = record { slot = slot; table = t; bytes = n.heap.bytes }; id = id }

  -- what is so of the object that the name has
  pub on_named : (otherwise answer : ℕ) (new : World) (so : LocalObject → Type 0) → so object → C.OnNamed old name otherwise answer new so
  on_named otherwise answer new so holds = rw (is_named handles tables ds n) holds

  module _ (after : Heap → Result Heap Refusal) {X : Type 0} (r : Result X Refusal) (new : FinMap nat_cmp Table) (s : Stepped tables slot (λ a b. after a ≡ outcome r b) new) (same : OnErr r (new ≡ tables)) where
    was_it : s.before ≡ t
    was_it = let both : ◌≡◌ {A = Option Table} (Some s.before) (Some t) = sym s.was ∙ n.heap.kept in cc

    abbrev next : World
    next = with_parts rest handles new ds

    taken_so : after (heap_in t n.heap.bytes) ≡ outcome r (heap_in s.after n.heap.bytes)
    taken_so = rw was_it at (s.heaps n.heap.bytes (rw was_it n.heap.over.inside))

    becomes : C.Becomes old object.heap (heap_in s.after n.heap.bytes) next
    becomes = record {
      table = s.after;
      is_local = s.is_local;
      range = (s.range.0 ∙ ap (λ (b : Table). b.lo) was_it, s.range.1 ∙ ap (λ (b : Table). b.hi) was_it);
      same = refl;
      rest = ap (λ m. with_parts rest handles m ds) s.rest;
    }

    pub leaves : (taken : Heap → ℕ) (refused : Refusal → ℕ) (answer : ℕ) → answer ≡ answer_of r (taken (heap_in s.after n.heap.bytes)) refused → Leaves old object.heap (after (heap_in t n.heap.bytes)) taken refused answer next
    leaves taken refused answer is = rw taken_so (turn r same becomes is)
      where
        turn : (r : Result X Refusal) → OnErr r (new ≡ tables) → C.Becomes old object.heap (heap_in s.after n.heap.bytes) next → answer ≡ answer_of r (taken (heap_in s.after n.heap.bytes)) refused → Leaves old object.heap (outcome r (heap_in s.after n.heap.bytes)) taken refused answer next
        turn (Ok done) e b is = (is, b)
        turn (Err refusal) e b is = (is, ap (λ m. with_parts rest handles m ds) e)

-- LocalLock
pub lock_calls : {handles : Handles} {tables : FinMap nat_cmp Table} {ds name slot : ℕ} {t : Table} {id : ℕ} (n : IsNamed handles tables ds name slot t id) (pointer : ℕ) → near_pointer (heap_in t n.heap.bytes) id ≡ pointer
    → {X : Type 0} (r : Result X Refusal) (new : FinMap nat_cmp Table) (s : Stepped tables slot (λ a b. after_lock a id ≡ outcome r b) new) → OnErr r (new ≡ tables)
    → (answer : ℕ) → answer ≡ answer_of r pointer (lock_refused pointer) → Calls handles tables ds (C.LocalLock name) answer handles new
lock_calls {handles} {tables} {ds} {name} {slot} {t} {id} n pointer is r new s same answer told rest =
    on_named n rest 0 answer (with_parts rest handles new ds) _
    (leaves n rest (λ h. after_lock h id) r new s same (λ _. near_pointer (heap_in t n.heap.bytes) id) (lock_refused (near_pointer (heap_in t n.heap.bytes) id)) answer (told ∙ ap (λ p. answer_of r p (lock_refused p)) (sym is)))

-- what a bad name leaves
pub none_calls : (handles : Handles) (tables : FinMap nat_cmp Table) (ds name otherwise : ℕ) (so : World → LocalObject → Type 0) → object_named (alone handles tables ds) name ≡ None → (rest : World)
    → C.OnNamed (with_parts rest handles tables ds) name otherwise otherwise (with_parts rest handles tables ds) (so (with_parts rest handles tables ds))
none_calls handles tables ds name otherwise so none rest = rw none (refl, refl)

pub lock_none : (handles : Handles) (tables : FinMap nat_cmp Table) (ds name : ℕ) → object_named (alone handles tables ds) name ≡ None → Calls handles tables ds (C.LocalLock name) 0 handles tables
lock_none handles tables ds name = none_calls handles tables ds name 0 (λ old o. Leaves old o.heap (after_lock (heap_of o.heap) o.id) (λ _. near_pointer (heap_of o.heap) o.id) (lock_refused (near_pointer (heap_of o.heap) o.id)) 0 old)

-- locks are left where there was more than one
more_than_one : (n : ℕ) → nat_lt 0 (n - 1) ≡ nat_lt 1 n
more_than_one n = elim (C.cases_lt 1 n) [
  | inl more ↦ C.lt-ltb 0 (n - 1) (omega (arith, more)) ∙ sym (C.lt-ltb 1 n more)
  | inr not ↦ C.le-ltb 0 (n - 1) (omega (arith, not)) ∙ sym (C.le-ltb 1 n (omega (arith, not)))
]

-- LocalUnlock leaves one lock less.
module _ (a b : Heap) (id : ℕ) where
  unlocked : after_unlock a id ≡ Ok b → locks_at b id ≡ locks_at a id - 1
  unlocked e = turn (C.object_at a id) refl e
    where
      less : Object → Object
      less o = record o { locks = o.locks - 1 }

      by_kind : (o : Object) → (f : Bool) → ◌≡◌ {A = Result Heap Refusal} (if f then Err refusals.Fixed else Ok (with_object a id (record o { locks = o.locks - 1 }))) (Ok b) → locks_at b id ≡ o.locks - 1
      by_kind o true e = cc
      by_kind o false e =
          let is : with_object a id (record o { locks = o.locks - 1 }) ≡ b = cc in
          ap (λ (h : Heap). locks_at h id) (sym is) ∙ ap (λ (p : Option Object). unwrap_or (option_map (λ (o : Object). o.locks) p) 0) (C.inserted_here a.objects id (record o { locks = o.locks - 1 }) id refl)

      turn : (p : Option Object) → C.object_at a id ≡ p → ◌≡◌ {A = Result Heap Refusal} (elim p [ None ↦ Ok a | Some o ↦ if C.is_fixed o.kind then Err refusals.Fixed else Ok (with_object a id (record o { locks = o.locks - 1 })) ]) (Ok b)
          → locks_at b id ≡ unwrap_or (option_map (λ (o : Object). o.locks) p) 0 - 1
      turn None there e =
          let is : a ≡ b = cc in
          ap (λ (h : Heap). locks_at h id) (sym is) ∙ ap (λ (p : Option Object). unwrap_or (option_map (λ (o : Object). o.locks) p) 0) there
      turn (Some o) there e = by_kind o (C.is_fixed o.kind) e

-- LocalUnlock
pub unlock_calls : {handles : Handles} {tables : FinMap nat_cmp Table} {ds name slot : ℕ} {t : Table} {id : ℕ} (n : IsNamed handles tables ds name slot t id) (locks : ℕ) → locks_at (heap_in t n.heap.bytes) id ≡ locks
    → {X : Type 0} (r : Result X Refusal) (new : FinMap nat_cmp Table) (s : Stepped tables slot (λ a b. after_unlock a id ≡ outcome r b) new) → OnErr r (new ≡ tables)
    → (answer : ℕ) → answer ≡ answer_of r (if nat_lt 1 locks then 1 else 0) (λ _. 0) → Calls handles tables ds (C.LocalUnlock name) answer handles new
unlock_calls {handles} {tables} {ds} {name} {slot} {t} {id} n locks is {X} r new s same answer told rest =
    on_named n rest 0 answer (with_parts rest handles new ds) (λ o. Leaves (with_parts rest handles tables ds) o.heap (after_unlock (heap_of o.heap) o.id) (locks_left o.id) (λ _. 0) answer (with_parts rest handles new ds))
    (leaves n rest (λ h. after_unlock h id) r new s same (locks_left id) (λ _. 0) answer (told ∙ link r (taken_so n rest (λ h. after_unlock h id) r new s same)))
  where
    link : (r : Result X Refusal) → after_unlock (heap_in t n.heap.bytes) id ≡ outcome r (heap_in s.after n.heap.bytes) → answer_of r (if nat_lt 1 locks then 1 else 0) (λ _. 0) ≡ answer_of r (locks_left id (heap_in s.after n.heap.bytes)) (λ _. 0)
    link (Err e) so = refl
    link (Ok done) so =
        let before = heap_in t n.heap.bytes in
        let after = heap_in s.after n.heap.bytes in
        ap (λ b. if b then 1 else 0) (ap (nat_lt 1) (sym is) ∙ sym (more_than_one (locks_at before id)) ∙ ap (nat_lt 0) (sym (unlocked before after id so)))

pub unlock_none : (handles : Handles) (tables : FinMap nat_cmp Table) (ds name : ℕ) → object_named (alone handles tables ds) name ≡ None → Calls handles tables ds (C.LocalUnlock name) 0 handles tables
unlock_none handles tables ds name = none_calls handles tables ds name 0 (λ old o. Leaves old o.heap (after_unlock (heap_of o.heap) o.id) (locks_left o.id) (λ _. 0) 0 old)
