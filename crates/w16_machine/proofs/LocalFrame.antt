-- What a local call leaves of the world.
use Rattle.w16_machine.proofs
use proofs.Common as C
use proofs.Common.{◌≡◌, ℕ, inl, inr, Some, IsSomeAnd, refl, sym, ap, ◌∙◌, subst, cases_eq, Heap, object_at, Table, inserted_other, Word, Done, World, LocalHeap, Acts, heap_of, current_heap, DS, IsRewritten, KeepsRest, ◌⊎◌, None}
use proofs.LocalFacts.{IsThere, current_there, object_of, segment_after, segment_other}
use proofs.LocalOutcomes.{Outcome, IsGrown, IsMade, IsRoomed, outcome}
use proofs.{LocalBegins.begin_law, LocalGrown.grown_current}
use Rattle.std.specs.FinMap as finmap

-- with the same objects, and one table that is put in
same_objects : (old new : World) → new.loading ≡ old.loading → ((slot : ℕ) → C.IsHeapKept old new slot) → KeepsRest old new
same_objects old new same heaps = record {
  handles = ap (λ w. w.handles) same ∙ (λ i. record old.loading.handles { heap = record old.loading.handles.heap { objects = same_back i } });
  loading = same ∙ (λ i. record old.loading { handles = handles_back i });
  objects = λ slot. inl (ap (λ w. object_at w.handles.heap slot) same);
  heaps = heaps;
}
  where
    same_back : old.loading.handles.heap.objects ≡ new.loading.handles.heap.objects
    same_back = ap (λ w. w.handles.heap.objects) (sym same)

    handles_back : old.loading.handles ≡ new.loading.handles
    handles_back = ap (λ w. w.handles) (sym same)

module _ (old : World) (at : LocalHeap) (c : current_heap old ≡ Some at) where
  there : IsThere old at
  there = current_there old at c

  -- the current heap keeps its range
  table_put : (new : World) (t : Table) → new.heaps ≡ finmap.insert old.heaps at.slot t → (t.lo ≡ at.table.lo) × (t.hi ≡ at.table.hi) → (slot : ℕ) → C.IsHeapKept old new slot
  table_put new t put range slot = elim (cases_eq slot at.slot) [
    | inl e ↦ inr (inr (subst (λ p. IsSomeAnd p (λ h. (h.slot ≡ slot) × IsSomeAnd (finmap.get new.heaps slot) (λ t. (t.lo ≡ h.table.lo) × (t.hi ≡ h.table.hi)))) (sym c)
        (sym e, subst (λ p. IsSomeAnd p (λ t. (t.lo ≡ at.table.lo) × (t.hi ≡ at.table.hi))) (sym (ap (λ m. finmap.get m slot) put ∙ C.inserted_here old.heaps at.slot t slot e)) range)))
    | inr d ↦ inl (ap (λ m. finmap.get m slot) put ∙ inserted_other old.heaps at.slot t slot d)
  ]

  -- and its segment its bytes outside
  rewritten : (P : Heap → Type 0) (a : (new : World) × Acts old at P new) (slot : ℕ) → C.IsObjectKept old a.0 slot
  rewritten P (new, a) slot = elim (cases_eq slot at.slot) [
    | inl e ↦ inr (subst (λ p. IsSomeAnd p (λ h. (h.slot ≡ slot) × IsSomeAnd (object_at old.loading.handles.heap slot) (λ before. IsSomeAnd (object_at new.loading.handles.heap slot) (IsRewritten h before)))) (sym c) (
      sym e,
      subst (λ p. IsSomeAnd p (λ before. IsSomeAnd (object_at new.loading.handles.heap slot) (IsRewritten at before))) (sym (ap (object_at old.loading.handles.heap) e ∙ o.1))
          (subst (λ p. IsSomeAnd p (IsRewritten at o.0)) (sym (now slot e)) (record { kind = refl; locks = refl; had = o.2; has = (a.long, a.outside) })),
    ))
    | inr d ↦ inl (ap (λ (w : World). object_at w.loading.handles.heap slot) a.rest ∙ segment_other old.loading.handles.heap at.slot a.bytes slot d)
  ]
    where
      o : (o : C.Object) × (object_at old.loading.handles.heap at.slot ≡ Some o) × (o.bytes ≡ Some at.bytes)
      o = object_of old.loading.handles.heap at.slot at.bytes there.bytes

      now : (slot : ℕ) → slot ≡ at.slot → object_at new.loading.handles.heap slot ≡ Some (record o.0 { bytes = Some a.bytes })
      now slot e = ap (λ (w : World). object_at w.loading.handles.heap slot) a.rest ∙ ap (object_at (C.with_local old at.slot a.table a.bytes).loading.handles.heap) e ∙ segment_after old.loading.handles.heap at.slot o.0 o.1 at.bytes o.2 a.bytes a.long

  pub acts_rest : (P : Heap → Type 0) (new : World) → Acts old at P new → KeepsRest old new
  acts_rest P new a = record {
    handles = subst (λ (w : World). w.loading.handles ≡ record old.loading.handles { heap = record old.loading.handles.heap { objects = w.loading.handles.heap.objects } }) (sym a.rest) refl;
    loading = subst (λ (w : World). w.loading ≡ record old.loading { handles = w.loading.handles }) (sym a.rest) refl;
    objects = rewritten P (new, a);
    heaps = table_put new a.table (ap (λ (w : World). w.heaps) a.rest) a.range;
  }

-- where a heap grew for a call
module _ (old new : World) (is : C.AreLocalHeaps old) (command : C.Command C.OfLocals) (answer : ℕ) (at : LocalHeap) (c : current_heap old ≡ Some at) (g : IsGrown old command answer new at) where
  abbrev size : ℕ
  size = g.grows.size

  abbrev l : C.Lengthens old at (C.local_options g.flags) size
  l = g.grows.lengthens

  abbrev mine : LocalHeap
  mine = C.longer at size l.bytes

  abbrev grown : World
  grown = C.with_longer old l.handles mine

  still : current_heap grown ≡ Some mine
  still = grown_current old is at (current_there old at c) (C.local_options g.flags) size g.grows.growth.served.longer l c

  begins_none : (slot : ℕ) → finmap.get grown.heaps slot ≡ None → finmap.get new.heaps slot ≡ None
  begins_none slot none = elim (cases_eq slot at.slot) [
    | inl e ↦ absurd (never (sym (ap (finmap.get grown.heaps) e ∙ (current_there grown mine still).table) ∙ none))
    | inr d ↦ ap (λ (w : World). finmap.get w.heaps slot) g.grows.grown.rest ∙ inserted_other grown.heaps at.slot g.grows.grown.table slot d ∙ none
  ]
    where
      never : ◌≡◌ {A = C.Option Table} (Some mine.table) None → ⊥
      never e = cc

  grown_rest : C.KeepsRestLonger old command new
  grown_rest = record {
    may = g.may;
    at = at;
    current = c;
    flags = g.flags;
    given = g.given;
    size = size;
    ends = g.grows.growth.ends;
    longer_size = g.grows.growth.served.longer;
    lengthens = l;
    still = still;
    rest = acts_rest grown mine still (IsMade (heap_of at) (heap_of mine) command answer) new g.grows.grown;
    begins_none = begins_none;
  }

frame : (old new : World) → C.AreLocalHeaps old → (command : C.Command C.OfLocals) (answer : ℕ) → Outcome old command answer new → KeepsRest old new ⊎ C.KeepsRestLonger old command new
frame old new is command answer (inl same) = inl (same_objects old new (ap (λ w. w.loading) same) (λ slot. inl (ap (λ w. finmap.get w.heaps slot) same)))
frame old new is command answer (inr (inl init)) = inl (same_objects old new (ap (λ w. w.loading) init.rest) (λ slot. elim (cases_eq slot init.begun.slot) [
  | inl e ↦
      let b = (begin_law old init.selector init.start init.end init.begun).0 init.may in
      inr (inl (ap (finmap.get old.heaps) e ∙ b.none, ap (C.is_code old.loading.handles) e ∙ b.uncoded))
  | inr d ↦ inl (ap (λ w. finmap.get w.heaps slot) init.rest ∙ inserted_other old.heaps init.begun.slot (C.new_table init.begun.range) slot d)
]))
frame old new is command answer (inr (inr (at, c, inl (next, stepped, becomes)))) =
    inl (same_objects old new (ap (λ w. w.loading) becomes.rest) (table_put old at c new becomes.table (ap (λ w. w.heaps) becomes.rest) becomes.range))
frame old new is command answer (inr (inr (at, c, inr (inl acts)))) = inl (acts_rest old at c (IsRoomed (heap_of at) command answer) new acts)
frame old new is command answer (inr (inr (at, c, inr (inr g)))) = inr (grown_rest old new is command answer at c g)

pub frame_law : C.FrameLaw
frame_law old new (DS selector) Done is step = inl (same_objects old new (ap (λ w. w.loading) step) (λ slot. inl (ap (λ w. finmap.get w.heaps slot) step)))
frame_law old new command (Word answer) is step = frame old new is _ answer (outcome old _ _ new step)
frame_law old new command reply is step = absurd step
