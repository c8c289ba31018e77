-- A change of kind: what it leaves, and that it leaves a heap.
use Rattle.w16_model.proofs
use proofs.Common as C
use proofs.Gaps as M
use proofs.Common.{[], ◌≡◌, ◌≢◌, ℕ, inl, inr, Bool, true, false, cond, not, ◌&&◌, ◌||◌, ◌==◌, IfOk, List, ◌∷◌, ◌++◌, AllPairs, Option, Some, None, Result, Ok, Err, is_some, refl, sym, ap, ◌∙◌, subst, ne_eqb, false≢true, Kind, Fixed, Discardable, Refusal, is_member, Heap, Object, IsHeap}
use proofs.Common.{object_at, is_in_order, is_fixed, is_discardable, without, newest, after_modify}
use proofs.Orders.{member_gone, member_without, without_absent, member_newest, newest_differ}
use proofs.KeptHeaps.{inserted_here, inserted_other, bytes_in, AreBytes}
use proofs.Replaced.{replaced_heap, lies_there}
use Rattle.std.specs.FinMap as finmap
use Rattle.w16_model.specs.declared.Refusal.TheVariants as refusals

-- The order of use without an id.

-- it is the same where the id isn't in it
pub without_none : (id : ℕ) (ids : List ℕ) → (M.Member id ids → ⊥) → without id ids ≡ ids
without_none id [] out = refl
without_none id (q ∷ ids) out =
    (λ i. cond {A = List ℕ} (not (ne_eqb q id (λ e. out (inl (sym e))) i)) (q ∷ without id ids) (without id ids)) ∙ ap (λ l. q ∷ l) (without_none id ids (λ m. out (inr m)))

-- nor twice
pub twice_out : (id : ℕ) (ids : List ℕ) → without id (without id ids) ≡ without id ids
twice_out id ids = without_absent id _ (member_gone id ids)

-- and others are in it as before
pub other_of : (q id : ℕ) (ids : List ℕ) → q ≢ id → is_member q (without id ids) ≡ is_member q ids
other_of q id ids d = member_without q id ids ∙ ap (λ b. is_member q ids && not b) (ne_eqb q id d) ∙ same _
  where
    same : (b : Bool) → (b && true) ≡ b
    same true = refl
    same false = refl

-- The order once an object that was discardable or not is so or isn't, and has bytes or not.
module _ (id : ℕ) (order : List ℕ) where
  abbrev ordered : Bool → Bool → Bool → List ℕ
  ordered was now has = cond {A = List ℕ} (was && now) order (cond {A = List ℕ} (now && has) (newest id order) (without id order))

  -- it is the same where the object is as it was
  kept_order : (was has : Bool) → is_member id order ≡ (was && has) → ordered was was has ≡ order
  kept_order true has t = refl
  kept_order false has t = without_absent id order t

  -- the others stand as before
  pub rest_order : (was now has : Bool) → without id (ordered was now has) ≡ without id order
  rest_order true true has = refl
  rest_order true false has = twice_out id order
  rest_order false true true = C.filter-append (λ q. not (q == id)) (without id order) (id ∷ []) ∙ (λ i. twice_out id order i ++ cond {A = List ℕ} (not (C.eq-eqb id id refl i)) (id ∷ []) []) ∙ no_more (without id order)
    where
      no_more : (l : List ℕ) → l ++ [] ≡ l
      no_more [] = refl
      no_more (q ∷ l) = ap (λ (m : List ℕ). q ∷ m) (no_more l)
  rest_order false true false = twice_out id order
  rest_order false false has = twice_out id order

  -- it is the newest where it comes in
  newest_order : (was now has : Bool) → was ≡ false → (now && has) ≡ true → ordered was now has ≡ newest id order
  newest_order was now has f t = (λ i. cond {A = List ℕ} (f i && now) order (cond {A = List ℕ} (t i) (newest id order) (without id order)))

  -- it is in the order where it belongs there
  member_here : (was now has : Bool) → is_member id order ≡ (was && has) → is_member id (ordered was now has) ≡ (now && has)
  member_here true true has t = t
  member_here true false has t = member_gone id order
  member_here false true true t = member_newest id id order ∙ ap (λ b. (is_member id order && not (id == id)) || b) (C.eq-eqb id id refl) ∙ some (is_member id order && not (id == id))
    where
      some : (b : Bool) → (b || true) ≡ true
      some true = refl
      some false = refl
  member_here false true false t = member_gone id order
  member_here false false has t = member_gone id order

  -- and the others where they were
  member_other : (q : ℕ) → q ≢ id → (was now has : Bool) → is_member q (ordered was now has) ≡ is_member q order
  member_other q d true true has = refl
  member_other q d true false has = other_of q id order d
  member_other q d false true true = member_newest q id order ∙ (λ i. (is_member q order && not (ne_eqb q id d i)) || ne_eqb id q (λ e. d (sym e)) i) ∙ same (is_member q order)
    where
      same : (b : Bool) → ((b && true) || false) ≡ b
      same true = refl
      same false = refl
  member_other q d false true false = other_of q id order d
  member_other q d false false has = other_of q id order d

  -- none stands twice
  once_order : (was now has : Bool) → AllPairs (λ a b. a ≡ b → ⊥) order → AllPairs (λ a b. a ≡ b → ⊥) (ordered was now has)
  once_order was now has h = turn (was && now) (now && has)
    where
      turn : (b c : Bool) → AllPairs (λ a b. a ≡ b → ⊥) (cond {A = List ℕ} b order (cond {A = List ℕ} c (newest id order) (without id order)))
      turn true c = h
      turn false true = newest_differ id order h
      turn false false = M.AllPairs-from_EachPair (λ a b. a ≡ b → ⊥) (without id order) (M.pairs_filter (λ a b. a ≡ b → ⊥) (λ q. not (q == id)) order (M.EachPair-from_AllPairs (λ a b. a ≡ b → ⊥) order h))

-- An object that is there gets another kind, neither of them fixed.
module _ (old : Heap) (is : IsHeap old) (id : ℕ) (kind : Kind) (o : Object) (there : object_at old id ≡ Some o) where
  abbrev other : Object
  other = record o { kind = kind }

  abbrev new_order : List ℕ
  new_order = ordered id old.order (is_discardable o.kind) (is_discardable kind) (is_some o.bytes)

  abbrev new : Heap
  new = record old { objects = finmap.insert old.objects id other; order = new_order }

  here : object_at new id ≡ Some other
  here = inserted_here old.objects id other id refl

  was_listed : is_member id old.order ≡ (is_discardable o.kind && is_some o.bytes)
  was_listed = is.in_order id ∙ ap is_in_order there

  counted : C.IsCounted o
  counted = subst (λ p. C.IfSome p C.IsCounted) there (is.counted id)

  changed_heap : is_fixed kind ≡ false → IsHeap new
  changed_heap loose = replaced_heap old is id o other there new_order refl
      (λ bytes has. lies_there old is id o there bytes has)
      (subst (λ p. AreBytes (bytes_in p)) there (is.are_bytes id))
      (counted.0, (λ f. absurd (false≢true (sym loose ∙ f))), counted.2)
      (λ q. elim (C.cases_eq q id) [
        | inl e ↦ ap (λ k. is_member k new_order) e ∙ member_here id old.order (is_discardable o.kind) (is_discardable kind) (is_some o.bytes) was_listed ∙ sym (ap is_in_order (inserted_here old.objects id other q e))
        | inr d ↦ member_other id old.order q d (is_discardable o.kind) (is_discardable kind) (is_some o.bytes) ∙ is.in_order q ∙ ap is_in_order (sym (inserted_other old.objects id other q d))
      ])
      (once_order id old.order (is_discardable o.kind) (is_discardable kind) (is_some o.bytes) is.no_repeats)

  -- two kinds of which both are discardable are one
  one_kind : (a b : Kind) → is_discardable a ≡ true → is_discardable b ≡ true → b ≡ a
  one_kind Discardable Discardable s t = refl
  one_kind Fixed b s t = absurd (false≢true s)
  one_kind C.Moveable b s t = absurd (false≢true s)
  one_kind Discardable Fixed s t = absurd (false≢true t)
  one_kind Discardable C.Moveable s t = absurd (false≢true t)

  first_of : (a b : Bool) → (a && b) ≡ true → a ≡ true
  first_of true b t = refl
  first_of false b t = absurd (false≢true t)

  differs : (was now has : Bool) → is_discardable o.kind ≡ was → is_discardable kind ≡ now → kind ≢ o.kind → (now && has) ≡ true → was ≡ false
  differs true now has s e d t = absurd (d (one_kind o.kind kind s (e ∙ first_of now has t)))
  differs false now has s e d t = refl

  pub changes_kind : C.ChangesKind old id o kind new
  changes_kind = record {
    object = here;
    others = λ q d. inserted_other old.objects id other q d;
    places = refl;
    range = (refl, refl, refl);
    same = λ e. ap (λ k. ordered id old.order (is_discardable o.kind) (is_discardable k) (is_some o.bytes)) e ∙ kept_order id old.order (is_discardable o.kind) (is_some o.bytes) was_listed;
    rest = rest_order id old.order (is_discardable o.kind) (is_discardable kind) (is_some o.bytes);
    newest = λ d t.
        let listed : (is_discardable kind && is_some o.bytes) ≡ true = sym (ap is_in_order here) ∙ t in
        newest_order id old.order (is_discardable o.kind) (is_discardable kind) (is_some o.bytes) (differs (is_discardable o.kind) (is_discardable kind) (is_some o.bytes) refl refl d listed) listed;
  }

  -- the step, by whether either is fixed
  abbrev stepped : Bool → Result Heap Refusal
  stepped fixed = cond {A = Result Heap Refusal} fixed (Err refusals.Fixed) (Ok new)

  step_is : after_modify old id kind ≡ stepped (is_fixed o.kind || is_fixed kind)
  step_is = ap (λ (p : Option Object). elim p [
    | None ↦ Err refusals.Absent
    | Some o ↦ cond {A = Result Heap Refusal} (is_fixed o.kind || is_fixed kind) (Err refusals.Fixed)
        (Ok (C.with_ordered old id (record o { kind = kind }) (λ order. cond {A = List ℕ} (is_discardable o.kind && is_discardable kind) order (C.with_newest id (record o { kind = kind }) order))))
  ]) there

second_of : (a b : Bool) → (a || b) ≡ false → b ≡ false
second_of true b f = absurd (false≢true (sym f))
second_of false b f = f

-- without an object it is refused
pub modify_none : (old : Heap) (id : ℕ) (kind : Kind) → object_at old id ≡ None → after_modify old id kind ≡ Err refusals.Absent
modify_none old id kind there = ap (λ p. elim p [
  | None ↦ Err refusals.Absent
  | Some o ↦ cond {A = Result Heap _} (is_fixed o.kind || is_fixed kind) (Err refusals.Fixed)
      (Ok (C.with_ordered old id (record o { kind = kind }) (λ order. cond {A = List ℕ} (is_discardable o.kind && is_discardable kind) order (C.with_newest id (record o { kind = kind }) order))))
]) there

pub kind_law : C.KindLaw
kind_law old id kind is = turn _ refl
  where
    turn : (p : Option Object) → object_at old id ≡ p → C.IfSome p (λ o.
        ((is_fixed o.kind || is_fixed kind) ≡ true → after_modify old id kind ≡ Err refusals.Fixed)
        × ((is_fixed o.kind || is_fixed kind) ≡ false → (new : Heap) × (after_modify old id kind ≡ Ok new) × C.ChangesKind old id o kind new))
    turn None there = tt
    turn (Some o) there = (
      (λ t. step_is old is id kind o there ∙ ap (stepped old is id kind o there) t),
      (λ f. (new old is id kind o there, step_is old is id kind o there ∙ ap (stepped old is id kind o there) f, changes_kind old is id kind o there)),
    )

pub kind_heap_law : C.KindHeapLaw
kind_heap_law old id kind is = turn (object_at old id) refl
  where
    if_ok : (o : Object) (there : object_at old id ≡ Some o) (b : Bool) → (is_fixed o.kind || is_fixed kind) ≡ b → IfOk (stepped old is id kind o there b) IsHeap
    if_ok o there true t = tt
    if_ok o there false f = changed_heap old is id kind o there (second_of (is_fixed o.kind) (is_fixed kind) f)

    turn : (p : Option Object) → object_at old id ≡ p → IfOk (after_modify old id kind) IsHeap
    turn None there = subst (λ r. IfOk r IsHeap) (sym (modify_none old id kind there)) tt
    turn (Some o) there = subst (λ r. IfOk r IsHeap) (sym (step_is old is id kind o there)) (if_ok o there (is_fixed o.kind || is_fixed kind) refl)
