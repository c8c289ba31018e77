-- Local calls for room discard as few as they can, as each heap's requests do.
use Rattle.w16_machine.proofs
use proofs.Common as C
use proofs.Common.{◌≡◌, ◌≢◌, ℕ, ◌+◌, ◌*◌, ◌<◌, ◌≤◌, ◌⊎◌, inl, inr, Bool, true, false, cond, ◌&&◌, ◌==◌, MatchBool, MatchOption, IsSomeAnd, Option, Some, None, refl, sym, ap, ◌∙◌, subst, arith, ne_eqb, false≢true, Heap, Object, object_at, MakesRoom, most_room, has_flag}
use proofs.Common.{CompactsFewest, LacksRoom, ReallocatesFewest, fewest_law, World, LocalHeap, AreLocalHeaps, Becomes, Acts, Stays, heap_of, current_heap, name_at, rounded_up, EntersObject, AllocatesObject, ResizesObject, SizesObject, is_absent_asked, local_options, Left, ending, Grows}
use proofs.Common.{longer, AllocatedFewest, ReallocatedFewest, LacksBytes}
use proofs.LocalFacts.{IsThere, current_there, named_there, there_local, heap_here, acted_there, became_there}
use proofs.LocalFewestLonger.{alloc_lacks, grows_fewest, lacks_growth, later_heap, realloc_lacks}
use proofs.LocalGrown.{grown_current, grown_world, longer_is}
use proofs.{LocalFrame.acts_rest, LocalNames.block_placed, LocalOutcomes.outcome, LocalWorlds.local_world}
use Rattle.w16_model.specs.Request.{Reallocates, ReallocatesObject}
use Rattle.std.specs.FinMap as finmap

-- no name is 0
pub some_name : (heap : Heap) → C.IsHeap heap → 4 ≤ heap.lo → (id : ℕ) → name_at heap id ≡ Some 0 → ⊥
some_name heap is low id = turn _
  where
    by_kind : (f : Bool) → cond f (finmap.get heap.places id) (Some (4 * id + 2)) ≡ Some 0 → ⊥
    by_kind true e =
        let x = block_placed _ is id 0 e in
        omega (arith, low, x.3, (C.Each-at (λ x. (heap.lo ≤ x.at) × (0 < x.size) × (C.block_end x ≤ heap.hi)) (C.blocks heap) (C.Each-from_All _ (C.blocks heap) is.placed.inside) x.0 (C.block_member heap x.0 x.1)).0)
    by_kind false e = let same : 4 * id + 2 ≡ 0 = cc in omega (arith, same)

    turn : (p : Option Object) → ◌≡◌ {A = Option ℕ} (elim p [ None ↦ None | Some o ↦ C.name_of heap id o ]) (Some 0) → ⊥
    turn None e = cc
    turn (Some o) e = by_kind _ e

module _ (old : World) (is : AreLocalHeaps old) (at : LocalHeap) (c : current_heap old ≡ Some at) (new : World) where
  here : IsThere old at
  here = current_there old at c

  -- what a step that acted leaves
  left : (P Q : Heap → Type 0) → ((heap : Heap) → P heap → Q heap) → Acts old at P new → Left new at Q
  left P Q f a =
      let mine : LocalHeap = record { slot = at.slot; table = a.table; bytes = a.bytes } in
      subst (λ p. IsSomeAnd p (λ after. Q (heap_of after))) (sym (there_local new mine (acted_there old new at P here a))) (f (heap_of mine) a.acted)

  -- and what one leaves that stays
  left_same : (Q : Heap → Type 0) → new ≡ old → Q (heap_of at) → Left new at Q
  left_same Q same q = subst (λ p. IsSomeAnd p (λ after. Q (heap_of after))) (sym (ap (λ (w : World). C.local_in w at.slot) same ∙ there_local old at here)) q

  -- in a world with local heaps no answered name is 0
  not_0 : AreLocalHeaps new → (P : Heap → Type 0) (id answer : ℕ) → ((heap : Heap) → P heap → name_at heap id ≡ Some answer) → Acts old at P new → answer ≢ 0
  not_0 now P id answer named a e =
      let mine : LocalHeap = record { slot = at.slot; table = a.table; bytes = a.bytes } in
      some_name (heap_of mine) (heap_here new now mine (acted_there old new at P here a)) a.is_local.low id (named (heap_of mine) a.acted ∙ ap Some e)

module _ (old : World) (is : AreLocalHeaps old) (at : LocalHeap) (c : current_heap old ≡ Some at) (new : World) where
  there : IsThere old at
  there = current_there old at c

  -- an allocation of bytes that isn't answered in the heap, or in it as it ends later
  no_room : (flags size : ℕ) → C.HasNoRoom (heap_of at) flags size → LacksRoom (heap_of at) None (rounded_up size) (local_options flags)
  no_room flags size lacks = C.lacking (heap_of at) (heap_here old is at there) (rounded_up size) None (local_options flags) (local_options flags).compact (local_options flags).discard refl refl lacks.1

  no_later : (flags size id : ℕ) → object_at (heap_of at) id ≡ None → (e : ℕ) → at.table.hi ≤ e → C.is_answered (ending (heap_of at) e) id (rounded_up size) (local_options flags) ≡ false
      → LacksRoom (ending (heap_of at) e) None (rounded_up size) (local_options flags)
  no_later flags size id free e le refused = alloc_lacks (ending (heap_of at) e) (later_heap (heap_of at) e (heap_here old is at there) le) id free (rounded_up size) (local_options flags) refused

  allocs : AreLocalHeaps new → (flags size answer : ℕ) → C.AllocatesIn old flags size answer new at → C.AllocFewest old at flags size answer new
  allocs now flags size answer (inl refused) = record { answered = λ some _. absurd (some refused.1.0); refused = λ _. (refused.1.1, reason refused.0) }
    where
      reason : C.IsRefusedAlloc (heap_of at) flags size → C.IsEmptyFixed flags size ⊎ C.HasNoEntry (heap_of at)
          ⊎ (LacksRoom (heap_of at) None (rounded_up size) (local_options flags) × C.LacksGrowth old at (local_options flags) (λ heap. LacksRoom heap None (rounded_up size) (local_options flags)))
      reason (inl fixed) = inl fixed
      reason (inr full) = inr (inl full)
  allocs now flags size answer (inr (id, free, inr (lacks, inl short))) = record {
    answered = λ some _. absurd (some short.1.0);
    refused = λ _. (
      short.1.1,
      inr (inr (
        no_room flags size lacks,
        lacks_growth old is at id (rounded_up size) (local_options flags) (λ heap. LacksRoom heap None (rounded_up size) (local_options flags)) there.inside (no_later flags size id free.free.1) short.0,
      )),
    );
  }
  allocs now flags size answer (inr (id, free, inr (lacks, inr g))) = record {
    answered = λ _ some. (
      id,
      inr (grows_fewest old is at id (rounded_up size) (local_options flags) (λ heap. LacksRoom heap None (rounded_up size) (local_options flags)) there.inside (no_later flags size id free.free.1)
          g.size g.growth l (no_room flags size lacks) new (acts_rest next mine still (AllocatesObject (heap_of mine) flags size id answer) new acts) (λ heap. AllocatedFewest heap new at id (rounded_up size) (local_options flags) answer)
          (subst (λ heap. AllocatedFewest heap new at id (rounded_up size) (local_options flags) answer) (longer_is old is at there (local_options flags) g.size g.growth.served.longer l) served)),
    );
    refused = λ none. absurd (not_0 next grown mine still new now (AllocatesObject (heap_of mine) flags size id answer) id answer (λ heap m. m.named) acts none);
  }
    where
      l : C.Lengthens old at (local_options flags) g.size
      l = g.lengthens

      mine : LocalHeap
      mine = longer at g.size l.bytes

      next : World
      next = C.with_longer old l.handles mine

      grown : AreLocalHeaps next
      grown = grown_world old is at there (local_options flags) g.size g.growth.served.longer l

      still : current_heap next ≡ Some mine
      still = grown_current old is at there (local_options flags) g.size g.growth.served.longer l c

      acts : Acts next mine (AllocatesObject (heap_of mine) flags size id answer) new
      acts = subst (λ b. MatchBool b ((heap : Heap) × EntersObject (heap_of mine) flags id answer heap × Becomes next mine heap new) (Acts next mine (AllocatesObject (heap_of mine) flags size id answer) new))
          (ap (λ b. b && has_flag flags C.LMEM_MOVEABLE) (ne_eqb size 0 (λ e. absurd (omega (arith, e, lacks.0))))) g.grown

      served : AllocatedFewest (heap_of mine) new at id (rounded_up size) (local_options flags) answer
      served = left next grown mine still new (AllocatesObject (heap_of mine) flags size id answer) (λ heap. (name_at heap id ≡ Some answer) × C.AllocatesFewest (heap_of mine) id (rounded_up size) (local_options flags) true heap)
          (λ heap m. (m.named, C.allocation_law (heap_of mine) heap id (rounded_up size) (C.local_kind flags) 0 (local_options flags) true (heap_here next grown mine (current_there next mine still)) m.allocated)) acts
  allocs now flags size answer (inr (id, free, inl makes)) = turn (is_absent_asked flags size) refl makes
    where
      with_bytes : 0 < size → is_absent_asked flags size ≡ false
      with_bytes some = ap (λ b. b && has_flag flags C.LMEM_MOVEABLE) (ne_eqb size 0 (λ e. absurd (omega (arith, e, some))))

      -- the name of an object without bytes isn't 0
      entered_some : (next : Heap) → EntersObject (heap_of at) flags id answer next → Becomes old at next new → answer ≢ 0
      entered_some next e b zero =
          let mine : LocalHeap = record { slot = at.slot; table = b.table; bytes = at.bytes } in
          let mine_there : IsThere new mine = became_there old new at next there b in
          some_name (heap_of mine) (heap_here new now mine mine_there) b.is_local.low id (ap (λ (h : Heap). name_at h id) b.same ∙ e.named ∙ ap Some zero)

      turn : (b : Bool) → is_absent_asked flags size ≡ b → MatchBool b ((next : Heap) × EntersObject (heap_of at) flags id answer next × Becomes old at next new) (Acts old at (AllocatesObject (heap_of at) flags size id answer) new) → C.AllocFewest old at flags size answer new
      turn true t e = record { answered = λ _ some. absurd (false≢true (sym (with_bytes some) ∙ t)); refused = λ none. absurd (entered_some e.0 e.1 e.2 none) }
      turn false t acts = record {
        answered = λ _ some. (
          id,
          inl (left old is at c new (AllocatesObject (heap_of at) flags size id answer) (λ next. (name_at next id ≡ Some answer) × C.AllocatesFewest (heap_of at) id (rounded_up size) (local_options flags) true next)
              (λ next m. (m.named, C.allocation_law (heap_of at) next id (rounded_up size) (C.local_kind flags) 0 (local_options flags) true (heap_here old is at there) m.allocated)) acts),
        );
        refused = λ none. absurd (not_0 old is at c new now (AllocatesObject (heap_of at) flags size id answer) id answer (λ next m. m.named) acts none);
      }

  compacts : (size answer : ℕ) → C.CompactsIn old size answer new at → Left new at (CompactsFewest (heap_of at) size answer)
  compacts size answer = turn (size == 0) refl
    where
      turn : (b : Bool) → (size == 0) ≡ b → MatchBool b (Stays old (most_room (heap_of at)) answer new) (Acts old at (MakesRoom (heap_of at) size answer) new) → Left new at (CompactsFewest (heap_of at) size answer)
      turn true e s = left_same old is at c new (CompactsFewest (heap_of at) size answer) s.1
          (C.compaction_law (heap_of at) (heap_of at) size answer (heap_here old is at there) (subst (λ b. MatchBool b ((answer ≡ most_room (heap_of at)) × (heap_of at ≡ heap_of at)) (MakesRoom (heap_of at) size answer (heap_of at))) (sym e) (s.0, refl)))
      turn false e a = left old is at c new (MakesRoom (heap_of at) size answer) (CompactsFewest (heap_of at) size answer)
          (λ next m. C.compaction_law (heap_of at) next size answer (heap_here old is at there) (subst (λ b. MatchBool b ((answer ≡ most_room (heap_of at)) × (next ≡ heap_of at)) (MakesRoom (heap_of at) size answer next)) (sym e) m)) a

pub local_alloc_law : C.AllocLaw
local_alloc_law old new flags size answer at is step c =
    allocs old is at c new (local_world old is (C.LocalAlloc flags size) answer new (outcome old _ _ new step)) _ _ _
    (subst (λ p. MatchOption p (Stays old 0 answer new) (C.AllocatesIn old flags size answer new)) c step)

pub local_compact_law : C.CompactLaw
local_compact_law old new size answer at is step c = compacts old is at c new _ _ (subst (λ p. MatchOption p (Stays old 0 answer new) (C.CompactsIn old size answer new)) c step)

-- A reallocation to a size above 0.
module _ (old : World) (is : AreLocalHeaps old) (o : C.LocalObject) (c : current_heap old ≡ Some o.heap) (new : World) (now : AreLocalHeaps new) (size flags answer : ℕ) where
  at_hand : IsThere old o.heap
  at_hand = current_there old o.heap c

  heap : C.IsHeap (heap_of o.heap)
  heap = heap_here old is o.heap at_hand

  abbrev options : C.RoomOptions
  options = local_options flags

  abbrev n : ℕ
  n = rounded_up size

  refusal : (p : Option Object) → IsSomeAnd p (λ before. ReallocatesFewest (heap_of o.heap) o.id n before options false (heap_of o.heap)) → IsSomeAnd p (λ before. (C.size_of before < n) × C.LacksPlace (heap_of o.heap) o.id n before options)
  refusal None h = absurd h
  refusal (Some before) h = let r : (C.size_of before < n) × C.LacksPlace (heap_of o.heap) o.id n before options × (heap_of o.heap ≡ heap_of o.heap) = h.refused refl in (r.0, r.1)

  -- it lacks the bytes in the heap, and in it as it ends later
  module _ (lacks : Reallocates (heap_of o.heap) o.id n options false (heap_of o.heap)) where
    lacks_now : LacksBytes o n options (heap_of o.heap)
    lacks_now = refusal (object_at (heap_of o.heap) o.id) (fewest_law (heap_of o.heap) (heap_of o.heap) o.id n options false heap lacks)

    is_there : (p : Option Object) → IsSomeAnd p (λ x. ReallocatesObject (heap_of o.heap) o.id x n options false (heap_of o.heap)) → C.is_some p ≡ true
    is_there None h = absurd h
    is_there (Some x) h = refl

    lacks_later : (e : ℕ) → o.heap.table.hi ≤ e → C.is_answered (ending (heap_of o.heap) e) o.id n options ≡ false → LacksBytes o n options (ending (heap_of o.heap) e)
    lacks_later e le refused = realloc_lacks (ending (heap_of o.heap) e) (later_heap (heap_of o.heap) e heap le) o.heap o.id n options lacks.some lacks.rounded (is_there (object_at (heap_of o.heap) o.id) lacks.object) refused

  -- once it is longer
  module _ (g : Grows old o.heap o.id n options (λ next longer. Acts next longer (ResizesObject (heap_of longer) o.id size flags answer) new)) where
    abbrev l : C.Lengthens old o.heap options g.size
    l = g.lengthens

    abbrev mine : LocalHeap
    mine = longer o.heap g.size l.bytes

    abbrev next : World
    next = C.with_longer old l.handles mine

    grown : AreLocalHeaps next
    grown = grown_world old is o.heap at_hand options g.size g.growth.served.longer l

    still : current_heap next ≡ Some mine
    still = grown_current old is o.heap at_hand options g.size g.growth.served.longer l c

    served : ReallocatedFewest (heap_of mine) new o n options answer
    served = left next grown mine still new (ResizesObject (heap_of mine) o.id size flags answer)
        (λ heap. (name_at heap o.id ≡ Some answer) × IsSomeAnd (object_at (heap_of mine) o.id) (λ before. ReallocatesFewest (heap_of mine) o.id n before options true heap))
        (λ heap r. (r.named, fewest_law (heap_of mine) heap o.id n options true (heap_here next grown mine (current_there next mine still)) r.resized)) g.grown

    served_later : ReallocatedFewest (ending (heap_of o.heap) g.size) new o n options answer
    served_later = subst (λ heap. ReallocatedFewest heap new o n options answer) (longer_is old is o.heap at_hand options g.size g.growth.served.longer l) served

    rest_longer : C.KeepsRest next new
    rest_longer = acts_rest next mine still (ResizesObject (heap_of mine) o.id size flags answer) new g.grown

    some_answer : answer ≢ 0
    some_answer = not_0 next grown mine still new now (ResizesObject (heap_of mine) o.id size flags answer) o.id answer (λ heap r. r.named) g.grown

  sizes : SizesObject old size flags answer new o → C.ReallocFewest old o size flags answer new
  sizes (inl acts) = record {
    answered = λ _. inl (left old is o.heap c new (ResizesObject (heap_of o.heap) o.id size flags answer)
        (λ next. (name_at next o.id ≡ Some answer) × IsSomeAnd (object_at (heap_of o.heap) o.id) (λ before. ReallocatesFewest (heap_of o.heap) o.id n before options true next))
        (λ next r. (r.named, fewest_law (heap_of o.heap) next o.id n options true heap r.resized)) acts);
    refused = λ none. absurd (not_0 old is o.heap c new now (ResizesObject (heap_of o.heap) o.id size flags answer) o.id answer (λ next r. r.named) acts none);
  }
  sizes (inr (lacks, inl short)) = record {
    answered = λ some. absurd (some short.1.0);
    refused = λ _. (short.1.1, lacks_now lacks, lacks_growth old is o.heap o.id n options (LacksBytes o n options) at_hand.inside (lacks_later lacks) short.0);
  }
  sizes (inr (lacks, inr g)) = record {
    answered = λ _. inr (grows_fewest old is o.heap o.id n options (LacksBytes o n options) at_hand.inside (lacks_later lacks) g.size g.growth g.lengthens (lacks_now lacks) new (rest_longer g) (λ heap. ReallocatedFewest heap new o n options answer) (served_later g));
    refused = λ none. absurd (some_answer g none);
  }

pub local_realloc_law : C.ReallocLaw
local_realloc_law old new name size flags answer o is step named unmodified some =
    turn (has_flag flags _) unmodified _ (ne_eqb size 0 (λ e. absurd (omega (arith, e, some))))
    (subst (λ p. MatchOption p (Stays old 0 answer new)
    (λ o. MatchBool (has_flag flags C.LMEM_MODIFY) (C.ModifiesObject old name flags answer new o)
    (MatchBool (size == 0) (C.DiscardsObject old name flags answer new o) (SizesObject old size flags answer new o))))
    named step)
  where
    c : current_heap old ≡ Some o.heap
    c = (named_there old name o named).0

    now : AreLocalHeaps new
    now = local_world old is (C.LocalReAlloc name size flags) answer new (outcome old _ answer new step)

    turn : (m : Bool) → m ≡ false → (z : Bool) → z ≡ false → MatchBool m (C.ModifiesObject old name flags answer new o) (MatchBool z (C.DiscardsObject old name flags answer new o) (SizesObject old size flags answer new o)) → C.ReallocFewest old o size flags answer new
    turn true e z f s = absurd (false≢true (sym e))
    turn false e true f s = absurd (false≢true (sym f))
    turn false e false f s = sizes old is o c new now size flags answer s
