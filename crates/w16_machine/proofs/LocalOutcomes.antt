-- What a local call does, in five ways: nothing; a heap begins; an object of the current heap is changed where it stands; room is made there; or it
-- grows, and then room is made.
use Rattle.w16_machine.proofs
use proofs.Common as C
use proofs.Common.{◌≡◌, ℕ, ◌⊎◌, inl, inr, Bool, true, false, ◌==◌, ◌&&◌, ◌||◌, not, MatchBool, MatchOption, Option, Some, None, Ok, Err, refl, sym, ap, ◌∙◌, subst, arith, false≢true, Refusal, Heap, MakesRoom, after_lock, after_unlock, after_free, after_discard, has_flag, LMEM_MOVEABLE}
use proofs.Common.{LMEM_MODIFY, LMEM_NOCOMPACT, World, LocalHeap, LocalObject, Becomes, Acts, Stays, heap_of, current_heap, beginning, Leaves, GivesUp, AllocatesObject, ResizesObject, Grows, longer, is_absent_asked, DiscardsObject, SizesObject, near_pointer, LocalInit}
use Rattle.w16_model.specs.Commands.{Command}
use Rattle.w16_model.specs.Commands.Family.{OfLocals}
use proofs.Common.{LocalAlloc, LocalReAlloc, LocalDiscard, LocalFree, LocalLock, LocalUnlock, LocalCompact, DS, asks_for_room, may_grow, may_move_named, flags_in}
use proofs.LocalFacts.{named_there}

-- an object is changed where it stands
abbrev pub IsAltered : Heap → ℕ → Heap → Type 0
IsAltered heap id next =
    (after_lock heap id ≡ Ok next) ⊎ (after_unlock heap id ≡ Ok next)
    ⊎ ((flags : ℕ) × (C.after_modify heap id (C.moveable_or_discardable flags) ≡ Ok next))

-- the object that a call names
pub record IsNamedIn (heap : Heap) (command : Command OfLocals) (id : ℕ) : Type 0 where
  pub name : ℕ
  pub asked : C.named_by command ≡ Some name
  pub has : C.id_named heap name ≡ Some id

-- an object gives its bytes up: it is freed, by a call that may do so, or it is discarded
abbrev pub IsGivenUp : Heap → Command OfLocals → ℕ → Heap → Type 0
IsGivenUp heap command id next = ((may_move_named command ≡ true) × (after_free heap id ≡ Ok next)) ⊎ (after_discard heap id ≡ Ok next)

-- room is made by a call that asks for it: for a new object, for no object, or for an object's other size. The entry is told by the heap as it was
-- first.
abbrev pub IsMade : Heap → Heap → Command OfLocals → ℕ → Heap → Type 0
IsMade first heap command answer next =
    ((flags size id : ℕ) × C.IsLowestFree first id × AllocatesObject heap flags size id answer next)
    ⊎ ((size : ℕ) × MakesRoom heap size answer next)
    ⊎ ((size flags id : ℕ) × IsNamedIn first command id × (may_move_named command ≡ true) × ResizesObject heap id size flags answer next)

-- or an object gives its bytes up
abbrev pub IsRoomed : Heap → Command OfLocals → ℕ → Heap → Type 0
IsRoomed heap command answer next = ((asks_for_room command ≡ true) × IsMade heap heap command answer next) ⊎ ((id : ℕ) × IsNamedIn heap command id × IsGivenUp heap command id next)

-- LocalInit began a heap
pub record IsInit (old : World) (command : Command OfLocals) (answer : ℕ) (new : World) : Type 0 where
  pub selector : ℕ
  pub start : ℕ
  pub end : ℕ
  pub begun : C.Beginning
  pub asked : command ≡ LocalInit selector start end
  pub may : beginning old selector start end ≡ Some begun
  pub answered : answer ≡ 1
  pub rest : new ≡ C.with_table old begun.slot (C.new_table begun.range)

-- an object without bytes is made
abbrev pub IsEntered : Heap → Heap → Type 0
IsEntered heap next = (flags size id : ℕ) × (is_absent_asked flags size ≡ true) × C.Enters heap id (C.local_kind flags) next

-- a call asks for no room
abbrev pub IsStepped : Heap → Command OfLocals → Heap → Type 0
IsStepped heap command next = ((id : ℕ) × IsNamedIn heap command id × IsAltered heap id next) ⊎ IsEntered heap next

-- a heap grows, for a call that may make it, and then room is made
pub record IsGrown (old : World) (command : Command OfLocals) (answer : ℕ) (new : World) (at : LocalHeap) : Type 0 where
  pub may : may_grow command ≡ true
  pub id : ℕ
  pub n : ℕ
  pub flags : ℕ
  pub given : flags_in command ≡ Some flags
  pub grows : Grows old at id n (C.local_options flags) (λ next longer. Acts next longer (IsMade (heap_of at) (heap_of longer) command answer) new)

first : (a b : Bool) → (a && b) ≡ true → a ≡ true
first true b e = refl
first false b e = e

-- such a call asks for room
pub grow_asks : (command : Command OfLocals) → may_grow command ≡ true → asks_for_room command ≡ true
grow_asks (LocalAlloc flags size) e = first _ _ e
grow_asks (LocalReAlloc name size flags) e = first _ _ e
grow_asks other e = absurd (false≢true e)

-- what was done in a local heap
abbrev pub IsDone : World → Command OfLocals → ℕ → World → LocalHeap → Type 0
IsDone old command answer new at =
    ((next : Heap) × IsStepped (heap_of at) command next × Becomes old at next new)
    ⊎ Acts old at (IsRoomed (heap_of at) command answer) new
    ⊎ IsGrown old command answer new at

abbrev pub Outcome : World → Command OfLocals → ℕ → World → Type 0
Outcome old command answer new = (new ≡ old) ⊎ IsInit old command answer new ⊎ ((at : LocalHeap) × (current_heap old ≡ Some at) × IsDone old command answer new at)

acts_as : (old : World) (at : LocalHeap) (P Q : Heap → Type 0) (new : World) → ((heap : Heap) → P heap → Q heap) → Acts old at P new → Acts old at Q new
acts_as old at P Q new f a = record {
  table = a.table;
  bytes = a.bytes;
  is_local = a.is_local;
  range = a.range;
  long = a.long;
  outside = a.outside;
  are_bytes = a.are_bytes;
  acted = f _ a.acted;
  rest = a.rest;
}

module _ (old : World) (command : Command OfLocals) (answer : ℕ) (new : World) where
  abbrev Out : Type 0
  Out = Outcome old command answer new

  stayed : (value : ℕ) → Stays old value answer new → Out
  stayed value s = inl s.1

  on_chosen : (so : LocalHeap → Type 0) → ((at : LocalHeap) → current_heap old ≡ Some at → so at → Out) → MatchOption (current_heap old) (Stays old 0 answer new) so → Out
  on_chosen so f = turn (current_heap old) refl
    where
      turn : (p : Option LocalHeap) → current_heap old ≡ p → MatchOption p (Stays old 0 answer new) so → Out
      turn None e s = stayed 0 s
      turn (Some at) e s = f at e s

  on_named : (name otherwise : ℕ) (so : LocalObject → Type 0) → C.named_by command ≡ Some name → ((o : LocalObject) → current_heap old ≡ Some o.heap → IsNamedIn (heap_of o.heap) command o.id → so o → Out) → C.OnNamed old name otherwise answer new so → Out
  on_named name otherwise so asked f = turn (C.object_named old name) refl
    where
      turn : (p : Option LocalObject) → C.object_named old name ≡ p → MatchOption p (Stays old otherwise answer new) so → Out
      turn None e s = stayed otherwise s
      turn (Some o) e s =
          let t : (current_heap old ≡ Some o.heap) × (C.id_named (heap_of o.heap) name ≡ Some o.id) = named_there old name o e in
          f o t.0 (record { name = name; asked = asked; has = t.1 }) s

  leaves : (o : LocalObject) → current_heap old ≡ Some o.heap → IsNamedIn (heap_of o.heap) command o.id → (r : C.Result Heap Refusal) → ((next : Heap) → r ≡ Ok next → IsAltered (heap_of o.heap) o.id next)
      → (taken : Heap → ℕ) (refused : Refusal → ℕ) → Leaves old o.heap r taken refused answer new → Out
  leaves o c named (Ok next) f taken refused l = inr (inr (o.heap, c, inl (next, inl (o.id, named, f next refl), l.1)))
  leaves o c named (Err refusal) f taken refused l = stayed (refused refusal) l

  gives_up : (o : LocalObject) → current_heap old ≡ Some o.heap → IsNamedIn (heap_of o.heap) command o.id → (r : C.Result Heap Refusal) → ((next : Heap) → r ≡ Ok next → IsGivenUp (heap_of o.heap) command o.id next)
      → (taken refused : ℕ) → GivesUp old o.heap r taken refused answer new → Out
  gives_up o c named (Ok heap) f taken refused l = inr (inr (
    o.heap,
    c,
    inr (inl (acts_as old o.heap (λ next. next ≡ heap) (IsRoomed (heap_of o.heap) command answer) new
        (λ next same. inr (o.id, named, subst (IsGivenUp (heap_of o.heap) command o.id) (sym same) (f heap refl))) l.1)),
  ))
  gives_up o c named (Err refusal) f taken refused l = stayed refused l

  inits : (selector start end : ℕ) → command ≡ LocalInit selector start end → C.LocalInits old selector start end answer new → Out
  inits selector start end asked = turn (beginning old selector start end) refl
    where
      turn : (p : Option C.Beginning) → beginning old selector start end ≡ p → MatchOption p (Stays old 0 answer new) (λ b. (answer ≡ 1) × (new ≡ C.with_table old b.slot (C.new_table b.range))) → Out
      turn None e s = stayed 0 s
      turn (Some b) e s = inr (inl (record { selector = selector; start = start; end = end; begun = b; asked = asked; may = e; answered = s.0; rest = s.1 }))

  -- what is so of the longer heap, where one grew
  grown : (at : LocalHeap) → current_heap old ≡ Some at → (id n flags : ℕ) (so : World → LocalHeap → Type 0) → flags_in command ≡ Some flags → (not (has_flag flags LMEM_NOCOMPACT) ≡ true → may_grow command ≡ true)
      → ((next : World) (longer : LocalHeap) → so next longer → Acts next longer (IsMade (heap_of at) (heap_of longer) command answer) new)
      → C.OnceLonger old at id n (C.local_options flags) so (Stays old 0 answer new) → Out
  grown at c id n flags so given may made (inl short) = stayed 0 short.1
  grown at c id n flags so given may made (inr g) = inr (inr (
    at,
    c,
    inr (inr (record {
      may = may g.growth.may;
      id = id;
      n = n;
      flags = flags;
      given = given;
      grows = record { size = g.size; growth = g.growth; lengthens = g.lengthens; grown = made (C.with_longer old g.lengthens.handles (longer at g.size g.lengthens.bytes)) (longer at g.size g.lengthens.bytes) g.grown };
    })),
  ))

  allocates : (flags size : ℕ) → flags_in command ≡ Some flags → (is_absent_asked flags size ≡ false → asks_for_room command ≡ true) → (is_absent_asked flags size ≡ false → not (has_flag flags LMEM_NOCOMPACT) ≡ true → may_grow command ≡ true)
      → (at : LocalHeap) → current_heap old ≡ Some at → C.AllocatesIn old flags size answer new at → Out
  allocates flags size given asks may at c (inl refused) = stayed 0 refused.1
  allocates flags size given asks may at c (inr (id, free, inl makes)) = turn (is_absent_asked flags size) refl makes
    where
      turn : (b : Bool) → is_absent_asked flags size ≡ b → MatchBool b ((next : Heap) × C.EntersObject (heap_of at) flags id answer next × Becomes old at next new) (Acts old at (AllocatesObject (heap_of at) flags size id answer) new) → Out
      turn true t e = inr (inr (at, c, inl (e.0, inr (flags, size, id, t, e.1.entered), e.2)))
      turn false t a = inr (inr (at, c, inr (inl (acts_as old at (AllocatesObject (heap_of at) flags size id answer) (IsRoomed (heap_of at) command answer) new (λ heap m. inl (asks t, inl (flags, size, id, free, m))) a))))
  allocates flags size given asks may at c (inr (id, free, inr (lacks, once))) =
      grown at c id (C.rounded_up size) flags (λ next longer. C.MakesObject next longer flags size id answer new) given (may some)
      (λ next longer made. acts_as next longer (AllocatesObject (heap_of longer) flags size id answer) (IsMade (heap_of at) (heap_of longer) command answer) new (λ heap m. inl (flags, size, id, free, m))
      (subst (λ b. MatchBool b ((heap : Heap) × C.EntersObject (heap_of longer) flags id answer heap × Becomes next longer heap new) (Acts next longer (AllocatesObject (heap_of longer) flags size id answer) new)) some made)) once
    where
      some : is_absent_asked flags size ≡ false
      some = ap (λ b. b && has_flag flags LMEM_MOVEABLE) (C.ne_eqb size 0 (λ e. absurd (omega (arith, e, lacks.0))))

  compacts : (size : ℕ) → ((size == 0) ≡ false → asks_for_room command ≡ true) → (at : LocalHeap) → current_heap old ≡ Some at → C.CompactsIn old size answer new at → Out
  compacts size asks at c = turn (size == 0) refl
    where
      turn : (b : Bool) → (size == 0) ≡ b → MatchBool b (Stays old (C.most_room (heap_of at)) answer new) (Acts old at (MakesRoom (heap_of at) size answer) new) → Out
      turn true t s = stayed (C.most_room (heap_of at)) s
      turn false t a = inr (inr (at, c, inr (inl (acts_as old at (MakesRoom (heap_of at) size answer) (IsRoomed (heap_of at) command answer) new (λ heap m. inl (asks t, inr (inl (size, m)))) a))))

  reallocates : (name size flags : ℕ) → (has_flag flags LMEM_MODIFY ≡ false → (size == 0) ≡ false →
      (asks_for_room command ≡ true) × (may_move_named command ≡ true) ×
      (not (has_flag flags LMEM_NOCOMPACT) ≡ true → may_grow command ≡ true) × (flags_in command ≡ Some flags)) →
      (o : LocalObject) → current_heap old ≡ Some o.heap → IsNamedIn (heap_of o.heap) command o.id
      → MatchBool (has_flag flags LMEM_MODIFY) (C.ModifiesObject old name flags answer new o) (MatchBool (size == 0) (DiscardsObject old name flags answer new o) (SizesObject old size flags answer new o)) → Out
  reallocates name size flags asks o c named = modify (has_flag flags LMEM_MODIFY) refl
    where
      discards : (b : Bool) → MatchBool b (GivesUp old o.heap (after_discard (heap_of o.heap) o.id) name 0 answer new) (Stays old 0 answer new) → Out
      discards true l = gives_up o c named (after_discard (heap_of o.heap) o.id) (λ next e. inr e) name 0 l
      discards false s = stayed 0 s

      sizes : (asks_for_room command ≡ true) × (may_move_named command ≡ true) × (not (has_flag flags LMEM_NOCOMPACT) ≡ true → may_grow command ≡ true) × (flags_in command ≡ Some flags) → SizesObject old size flags answer new o → Out
      sizes may (inl a) = inr (inr (o.heap, c, inr (inl (acts_as old o.heap (ResizesObject (heap_of o.heap) o.id size flags answer) (IsRoomed (heap_of o.heap) command answer) new (λ heap r. inl (may.0, inr (inr (size, flags, o.id, named, may.1, r)))) a))))
      sizes may (inr (lacks, once)) =
          grown o.heap c o.id (C.rounded_up size) flags (λ next longer. Acts next longer (ResizesObject (heap_of longer) o.id size flags answer) new) may.3 may.2
          (λ next longer a. acts_as next longer (ResizesObject (heap_of longer) o.id size flags answer) (IsMade (heap_of o.heap) (heap_of longer) command answer) new (λ heap r. inr (inr (size, flags, o.id, named, may.1, r))) a) once

      by_size : has_flag flags LMEM_MODIFY ≡ false → (b : Bool) → (size == 0) ≡ b → MatchBool b (DiscardsObject old name flags answer new o) (SizesObject old size flags answer new o) → Out
      by_size keeps true e d = discards (has_flag flags LMEM_MOVEABLE) d
      by_size keeps false e s = sizes (asks keeps e) s

      modify : (b : Bool) → has_flag flags LMEM_MODIFY ≡ b → MatchBool b (C.ModifiesObject old name flags answer new o) (MatchBool (size == 0) (DiscardsObject old name flags answer new o) (SizesObject old size flags answer new o)) → Out
      modify true e l = leaves o c named (C.after_modify (heap_of o.heap) o.id (C.moveable_or_discardable flags)) (λ next e. inr (inr (flags, e))) (λ _. name) (λ _. name) l
      modify false e s = by_size e (size == 0) refl s

pub outcome : (old : World) (command : Command OfLocals) (answer : ℕ) (new : World) → C.Answers old command answer new → Outcome old command answer new
outcome old (LocalInit selector start end) answer new step = inits old _ _ new _ _ end refl step
outcome old (LocalAlloc flags size) answer new step = on_chosen old _ _ new _ (allocates old _ _ new _ size refl (λ some. ap not some) (λ some may i. not (some i) && may i)) step
outcome old (LocalReAlloc name size flags) answer new step =
    on_named old _ _ new _ 0 _ refl
    (λ o c named s. reallocates old _ _ new name size _
    (λ keeps some. let asks = ap not
    (ap (λ b. b || (size == 0)) keeps ∙ some) in (asks, asks, (λ may i. asks i && may i), refl)) o c named s) step
outcome old (LocalDiscard name) answer new step = on_named old _ _ new _ 0 _ refl (λ o c named s. reallocates old _ _ new name 0 LMEM_MOVEABLE (λ keeps some. absurd (false≢true (sym some))) o c named s) step
outcome old (LocalFree name) answer new step =
    on_named old _ _ new _ name (λ o. GivesUp old o.heap _ 0 name answer new) refl
    (λ o c named l. gives_up old _ _ new o c named _ (λ next e. inl (refl, e)) 0 name l) step
outcome old (LocalLock name) answer new step =
    on_named old _ _ new _ 0 (λ o. Leaves old _ _ (λ _. near_pointer (heap_of o.heap) o.id) _ _ new) refl
    (λ o c named l. leaves old _ _ new o c named _ (λ next e. inl e) (λ _. near_pointer (heap_of o.heap) _) _ l) step
outcome old (LocalUnlock name) answer new step =
    on_named old _ _ new _ 0 (λ o. Leaves old o.heap _ _ (λ _. 0) answer new) refl
    (λ o c named l. leaves old _ _ new o c named _ (λ next e. inr (inl e)) _ (λ _. 0) l) step
outcome old (C.LocalSize name) answer new step = inl step.1
outcome old (C.LocalFlags name) answer new step = inl step.1
outcome old (C.LocalHandle pointer) answer new step = inl step.1
outcome old (LocalCompact size) answer new step = on_chosen old _ _ new _ (compacts old _ _ new size (λ some. ap not some)) step
outcome old (DS selector) answer new step = absurd step
