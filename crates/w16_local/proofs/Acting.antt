-- An act in the object of a slot, as a call's step.
use Rattle.w16_local.proofs
use proofs.Common as C
use proofs.Common.{◌≡◌, ℕ, ◌<◌, ◌⊎◌, inl, inr, IsSomeAnd, List, Option, Some, None, refl, sym, ap, ◌∙◌, subst, nat_cmp, FinMap, after_write, Handles, Heap, Object, bytes_at, Table, heap_in, Global, Lends, World, LocalHeap, Acts, Acted, ActedIn, Done, Idle, IsLent, IsIn, with_parts, Kind}
use proofs.Common.{[], alone, arith}
use Rattle.w16_machine.proofs.{Common.bytes_in, LocalFacts.segment_after}
use Rattle.w16_machine.specs.Law.{empty_world}
use Rattle.w16_local.specs.Growth.{InSlot, IsLentOrGrown, WritesFor, WritesOnce, WritesServed, in_slot}
use Rattle.w16_model.proofs.Maps.{put_same}
use Rattle.std.specs.FinMap as finmap
use Rattle.w16_local.specs.declared.growth.Purpose.{Purpose}

-- bytes that are written over themselves
same_write : (heap : Heap) (slot : ℕ) (bytes : List ℕ) → bytes_at heap slot ≡ Some bytes → after_write heap slot 0 bytes ≡ heap
same_write heap slot bytes had = λ i. record heap { objects = objects i }
  where
    over : Object → Object
    over o = record o { bytes = C.option_map (λ bs. C.put_part bs 0 bytes) o.bytes }

    o : (o : Object) × (C.object_at heap slot ≡ Some o) × (o.bytes ≡ Some bytes)
    o = C.object_of heap slot bytes had

    same : over o.0 ≡ o.0
    same = λ i. record o.0 { bytes = (ap (C.option_map (λ bs. C.put_part bs 0 bytes)) o.2 ∙ ap Some (C.put_all bytes bytes refl) ∙ sym o.2) i }

    objects : (after_write heap slot 0 bytes).objects ≡ heap.objects
    objects = ap (λ p. elim p as (λ _. FinMap nat_cmp Object) [ Some o ↦ finmap.insert heap.objects slot (over o) | None ↦ heap.objects ]) o.1 ∙ ap (finmap.insert heap.objects slot) same ∙ put_same heap.objects slot o.0 o.1

-- what may be done to the bytes of a slot's object
pub may_lent : {handles : Handles} {tables : FinMap nat_cmp Table} {slot : ℕ} {so : Table → List ℕ → Type 0} (may : C.MayActIn handles tables slot so) (t : Table) → finmap.get tables slot ≡ Some t → IsSomeAnd (bytes_at handles.heap slot) (so t)
may_lent {handles} {tables} {slot} {so} may t is =
    let both : ◌≡◌ {A = Option Table} (Some may.table) (Some t) = sym may.was ∙ is in
    let same : may.table ≡ t = cc in
    rw may.had (rw same at may.may)

-- and what was done there
pub acted_in : {handles : Handles} {tables : FinMap nat_cmp Table} {slot : ℕ} {does : Table → List ℕ → Table → List ℕ → Type 0} (t s : Table) → finmap.get tables slot ≡ Some t → C.IsLocalTable s
    → (lent : Lends handles.heap slot (λ bytes after. does t bytes s after)) (next : Handles) → next ≡ record handles { heap = after_write handles.heap slot 0 lent.after }
    → (new : FinMap nat_cmp Table) → new ≡ finmap.insert tables slot s → ActedIn handles tables slot does next new
acted_in t s was is_local lent next next_is new new_is = record { before = t; bytes = lent.bytes; was = was; had = lent.had; table = s; after = lent.after; is_local = is_local; long = lent.long; are_bytes = lent.are_bytes; does = lent.does; rest = (new_is, next_is) }

-- where that leaves the heap and its bytes as they were, nothing has changed
pub acted_same : {handles next : Handles} {tables new : FinMap nat_cmp Table} {slot : ℕ} {does : Table → List ℕ → Table → List ℕ → Type 0} (a : ActedIn handles tables slot does next new) → a.table ≡ a.before → a.after ≡ a.bytes → (new ≡ tables) × (next ≡ handles)
acted_same {handles} {next} {tables} {new} {slot} a table bytes =
    let heap_same = ap (after_write handles.heap slot 0) bytes ∙ same_write handles.heap slot a.bytes a.had in
    (a.rest.0 ∙ ap (finmap.insert tables slot) table ∙ put_same tables slot a.before a.was, a.rest.1 ∙ (λ i. record handles { heap = heap_same i }))

-- what is so of a slot's heap is so of the one that DS names
pub held_here : {so : World → LocalHeap → World → Type 0} {handles next : Handles} {tables new : FinMap nat_cmp Table} {ds slot : ℕ} {t : Table} (is : IsIn handles tables ds slot t) → InSlot handles tables slot next new so → (rest : World)
    → so (with_parts rest handles tables ds) (in_slot t is.bytes slot) (with_parts rest next new ds)
held_here {so} {handles} {next} {tables} {new} {ds} {slot} {t} is s rest =
    rw (same_table, same_bytes) at (s.holds rest ds)
  where
    same_table : s.table ≡ t
    same_table = let both : ◌≡◌ {A = Option Table} (Some s.table) (Some t) = sym s.was ∙ is.kept in cc

    same_bytes : s.bytes ≡ is.bytes
    same_bytes = let both : ◌≡◌ {A = Option (List ℕ)} (Some s.bytes) (Some is.bytes) = sym s.had ∙ is.had in cc

-- what may be done in the heap that DS names
pub may_in : {handles : Handles} {tables : FinMap nat_cmp Table} {ds slot : ℕ} {t : Table} (is : IsIn handles tables ds slot t) (act : C.ByteOp) → C.MayAct act (heap_in t is.bytes) → C.MayActIn handles tables slot (C.MayActOver act)
may_in is act may = record { table = _; bytes = is.bytes; was = is.kept; had = is.had; may = (is.over.inside, may) }

-- and the bytes that were lent for it are those of that heap
pub lent_in : {old : Global} {tables : FinMap nat_cmp Table} {ds slot : ℕ} {t : Table} (is : IsIn old.handles tables ds slot t) (new : Global) → IsLent old slot new → C.IsLentOnce old tables ds new
lent_in is new lent = inr (rw is.is_current (rw is.had at lent))

-- Their segment stays as long,
pub once_in : (old new : Global) {tables left : FinMap nat_cmp Table} {slot : ℕ} {does : Table → List ℕ → Table → List ℕ → Type 0} (a : ActedIn old.handles tables slot does new.handles left)
    → IsLent old slot new → WritesOnce (in_slot a.before a.bytes slot) old.written new.handles new.written
once_in old new {slot = slot} a lent =
    let o = C.object_of old.handles.heap slot a.bytes a.had in
    let now = ap (λ h. bytes_at h.heap slot) a.rest.1 ∙ ap bytes_in (segment_after old.handles.heap slot o.0 o.1 a.bytes o.2 a.after a.long) in (
      rw now a.long,
      rw a.had at lent,
    )

-- in whatever world has these parts.
pub once_slot : (old new : Global) {tables left : FinMap nat_cmp Table} {slot : ℕ} {does : Table → List ℕ → Table → List ℕ → Type 0} → ActedIn old.handles tables slot does new.handles left
    → IsLent old slot new → InSlot old.handles tables slot new.handles left (λ before at after. WritesOnce at old.written after.loading.handles new.written)
once_slot old new a lent = record { table = a.before; bytes = a.bytes; was = a.was; had = a.had; holds = λ rest ds. once_in old new a lent }

-- What is written for a request is written in the heap that DS names, where it may have grown,
module _ {old : Global} {tables : FinMap nat_cmp Table} {ds slot : ℕ} {t : Table} (is : IsIn old.handles tables ds slot t) (new : Global) (flags size : ℕ) (is_for : LocalHeap → ℕ → Type 0) where
  written_in : WritesFor is_for flags size (alone old.handles tables ds) old.written new.handles new.written (in_slot t is.bytes slot) → IsLentOrGrown is_for flags size old tables ds new
  written_in so = inr (rw is.is_current so)

  pub served_in : {left : FinMap nat_cmp Table} (purpose : Purpose) (id : ℕ) → is_for (in_slot t is.bytes slot) id → 0 < size
      → InSlot old.handles tables slot new.handles left (λ before at after. WritesServed (record { id = id; size = C.rounded_up size; purpose = purpose; options = C.local_options flags }) before at old.written after.loading.handles new.written)
      → IsLentOrGrown is_for flags size old tables ds new
  served_in purpose id so some s = written_in (elim (held_here is s (empty_world 0 0 [] 0)) [
    | inl once ↦ inl once
    | inr grown ↦ inr (some, id, so, grown)
  ])

  -- and where it hasn't.
  pub once_lent : {left : FinMap nat_cmp Table} {does : Table → List ℕ → Table → List ℕ → Type 0} → ActedIn old.handles tables slot does new.handles left → IsLent old slot new → IsLentOrGrown is_for flags size old tables ds new
  once_lent a lent = written_in (inl (held_here is (once_slot old new a lent) (empty_world 0 0 [] 0)))

-- a call of size 0 only lends
pub only_lent : (old new : Global) (tables : FinMap nat_cmp Table) (ds flags : ℕ) (is_for : LocalHeap → ℕ → Type 0) → IsLentOrGrown is_for flags 0 old tables ds new → C.IsLentOnce old tables ds new
only_lent old new tables ds flags is_for (inl same) = inl same
only_lent old new tables ds flags is_for (inr so) = inr (turn (C.current_heap (alone old.handles tables ds)) so)
  where
    turn : (m : Option LocalHeap) → IsSomeAnd m (WritesFor is_for flags 0 (alone old.handles tables ds) old.written new.handles new.written) → IsSomeAnd m (λ at. new.written ≡ C.counted old.written (C.length at.bytes))
    turn None h = h
    turn (Some at) (inl once) = once.1
    turn (Some at) (inr grown) = absurd (omega (arith, grown.0))

-- and what that leaves: the same world, or one in which the heap acted
module _ {handles : Handles} {tables : FinMap nat_cmp Table} {ds slot : ℕ} {t : Table} (is : IsIn handles tables ds slot t) {act : C.ByteOp} {answer : ℕ} {next : Handles} {new : FinMap nat_cmp Table} (a : ActedIn handles tables slot (C.DoesAct act answer) next new) (rest : World) where
  same_table : a.before ≡ t
  same_table = let both : ◌≡◌ {A = Option Table} (Some a.before) (Some t) = sym a.was ∙ is.kept in cc

  same_bytes : a.bytes ≡ is.bytes
  same_bytes = let both : ◌≡◌ {A = Option (List ℕ)} (Some a.bytes) (Some is.bytes) = sym a.had ∙ is.had in cc

  acted : Acted act t is.bytes answer a.table a.after
  acted = rw (same_table, same_bytes) at a.does.1.0

  abbrev old : World
  old = with_parts rest handles tables ds

  abbrev left : World
  left = with_parts rest next new ds

  abbrev at : LocalHeap
  at = record { slot = slot; table = t; bytes = is.bytes }

  pub outcome : (Idle act (heap_in t is.bytes) answer × (left ≡ old)) ⊎ Acts old at (Done act (heap_in t is.bytes) answer) left
  outcome = turn acted.act_is
    where
      turn : (Idle act (heap_in t is.bytes) answer × (a.table ≡ t) × (a.after ≡ is.bytes)) ⊎ Done act (heap_in t is.bytes) answer (heap_in a.table a.after)
          → (Idle act (heap_in t is.bytes) answer × (left ≡ old)) ⊎ Acts old at (Done act (heap_in t is.bytes) answer) left
      turn (inl same) =
          let same_parts : (new ≡ tables) × (next ≡ handles) = acted_same a (same.1 ∙ sym same_table) (same.2 ∙ sym same_bytes) in
          inl (same.0, λ i. with_parts rest (same_parts.1 i) (same_parts.0 i) ds)
      turn (inr done) = inr (record {
        table = a.table;
        bytes = a.after;
        is_local = a.is_local;
        range = (acted.range.lo, acted.range.hi);
        long = a.long ∙ ap C.length same_bytes;
        outside = acted.outside;
        are_bytes = a.are_bytes;
        acted = done;
        rest = λ i. with_parts rest (a.rest.1 i) (a.rest.0 i) ds;
      })
