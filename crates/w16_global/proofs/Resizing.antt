-- What GlobalReAlloc and GlobalDiscard answer, and what is said of an object that is changed by its slot.
use Rattle.w16_global.proofs
use proofs.Common as C
use proofs.Common.{◌≡◌, ℕ, ◌-◌, ◌≤◌, if◌then◌else◌, length, ◌||◌, ◌==◌, inl, inr, Bool, true, false, cond, MatchBool, Option, Some, None, Result, Ok, Err, option_map, unwrap_or, refl, sym, ap, ◌∙◌, subst, arith, ne_eqb, Kind, RoomOptions, Refusal, GMEM_MOVEABLE, GMEM_MODIFY}
use proofs.Common.{Heap, Object, object_at, bytes_at, is_fixed, Reallocates, moved_bytes, after_discard, Handles, handle_of, slot_of_handle, has_flag, rounded_size, owns, is_owned, realloc_options, kind_modified, modified, Anew, slots_for, IsSomeAnd, GetsRun, LacksRun, ◌⊎◌}
use proofs.Common.{IfSome, IsNull, AnswersDiscard, Empties, ReAllocsOwn, GlobalReAllocs, Global, AreHandles, counted, zeroed_behind}
use Rattle.w16_model.proofs.{Fewest.some_handle, Housed.housed_first, Housed.keeps, Naming.names_law, ResizedHandles.resize_fewest_law}
use Rattle.w16_global.specs.{Lengthened.Changes, Lengthened.Lengthens, Lengthened.answer_of, Lengthened.handle_at, Lengthened.moved_of, declared.global.Resized.Resized}
use Rattle.w16_model.specs.declared.Kind.TheVariants as kinds
use Rattle.w16_model.specs.declared.Refusal.TheVariants as refusals

-- the handle of a slot's object, 0 where there is none
abbrev pub handle_in : ℕ → Option Object → ℕ
handle_in slot p = unwrap_or (option_map (λ (o : Object). handle_of o.kind slot) p) 0

-- A change of kind moves nothing, and the object has the same handle.
module _ (heap : Heap) (is : C.IsHeap heap) (slot flags : ℕ) where
  abbrev kind : Kind
  kind = kind_modified flags

  abbrev IsLike : Heap → Type 0
  IsLike x = (x.places ≡ heap.places) × (handle_at x slot ≡ handle_at heap slot)

  abbrev left : Result Heap Refusal → Heap
  left r = elim r [ Ok new ↦ new | Err _ ↦ heap ]

  pub modified_like : IsLike (modified heap slot kind)
  modified_like = turn (object_at heap slot) refl (C.kind_law heap slot kind is)
    where
      same : (a b : Kind) → (is_fixed a || is_fixed b) ≡ false → handle_of b slot ≡ handle_of a slot
      same kinds.Fixed b e = absurd (C.false≢true (sym e))
      same kinds.Moveable kinds.Fixed e = absurd (C.false≢true (sym e))
      same kinds.Moveable kinds.Moveable e = refl
      same kinds.Moveable kinds.Discardable e = refl
      same kinds.Discardable kinds.Fixed e = absurd (C.false≢true (sym e))
      same kinds.Discardable kinds.Moveable e = refl
      same kinds.Discardable kinds.Discardable e = refl

      turn : (p : Option Object) → object_at heap slot ≡ p → C.IfSome p (λ o. ((is_fixed o.kind || is_fixed kind) ≡ true → C.after_modify heap slot kind ≡ Err refusals.Fixed)
          × ((is_fixed o.kind || is_fixed kind) ≡ false → (new : Heap) × (C.after_modify heap slot kind ≡ Ok new) × C.ChangesKind heap slot o kind new)) → IsLike (modified heap slot kind)
      turn None there law = subst (λ r. IsLike (left r)) (sym (C.modify_none heap slot kind there)) (refl, refl)
      turn (Some o) there law = elim (C.cases_Bool (is_fixed o.kind || is_fixed kind)) [
        | inl fixed ↦ subst (λ r. IsLike (left r)) (sym (law.0 fixed)) (refl, refl)
        | inr loose ↦ let l = law.1 loose in subst (λ r. IsLike (left r)) (sym l.1) (l.2.places, ap (handle_in slot) l.2.object ∙ same o.kind kind loose ∙ sym (ap (handle_in slot) there))
      ]

-- So does a discard.

discard_unmoved : (heap new : Heap) (slot : ℕ) → after_discard heap slot ≡ Ok new → moved_bytes heap new ≡ 0
discard_unmoved heap new slot done = ap (moved_bytes heap) (C.discard_absent heap new slot done) ∙ C.none_moved heap (C.absent heap slot) (λ q. elim (C.cases_eq q slot) [
  | inl e ↦ inr (C.taken_here _ slot q e)
  | inr other ↦ inl (C.taken_other _ slot q other)
])

pub discarded_handle : (heap new : Heap) (slot : ℕ) → after_discard heap slot ≡ Ok new → handle_at new slot ≡ handle_at heap slot
discarded_handle heap new slot done =
    ap (λ (x : Heap). handle_at x slot) (C.discard_absent heap new slot done) ∙ ap (handle_in slot) (C.get-update_same heap.objects slot (λ (o : Object). record o { bytes = None })) ∙ turn _
  where
    turn : (p : Option Object) → handle_in slot (option_map (λ (o : Object). record o { bytes = None }) p) ≡ handle_in slot p
    turn None = refl
    turn (Some o) = refl

-- the handle that an object has then
answered : (v : Handles) → C.AreHandles v → (slot n : ℕ) (options : RoomOptions) (o : Object) → object_at v.heap slot ≡ Some o → (first : ℕ) → GetsRun v slot o options (slots_for n) first → (heap : Heap) → Reallocates v.heap slot n options true heap
    → handle_at (C.rehoused heap slot first) first ≡ handle_of o.kind first
answered v is slot n options o there first gets heap r =
    ap (handle_in first) (housed_first v is slot n _ o there first gets heap r) ∙ turn _ (keeps v is slot n _ o there first gets heap r).object
  where
    turn : (p : Option Object) → IsSomeAnd p (C.IsResized options.zero n o) → handle_in first p ≡ handle_of o.kind first
    turn None f = absurd f
    turn (Some p) f = ap (λ k. handle_of k first) f.kind

-- the object of a handle has it
handle_is : (v : Handles) (slot handle : ℕ) → slot_of_handle v handle ≡ Some slot → handle_at v.heap slot ≡ handle
handle_is v slot handle found = turn _ ((names_law v _ slot).0.0 found)
  where
    turn : (p : Option Object) → IsSomeAnd p (λ o. handle ≡ handle_of o.kind slot) → handle_in slot p ≡ handle
    turn None h = absurd h
    turn (Some o) h = sym h

-- What becomes of a slot's object.
module _ (old : Global) (is : C.AreHandles old.handles) (slot size flags : ℕ) (there : C.is_some (object_at old.handles.heap slot) ≡ true) where
  abbrev w : Handles
  w = old.handles

  abbrev own : ℕ
  own = handle_at w.heap slot

  known : (o : Object) × (object_at w.heap slot ≡ Some o)
  known = turn (object_at w.heap slot) there
    where
      turn : (p : Option Object) → C.is_some p ≡ true → (o : Object) × (p ≡ Some o)
      turn None e = absurd (C.false≢true e)
      turn (Some o) e = (o, refl)

  found : slot_of_handle w own ≡ Some slot
  found = (names_law w own slot).0.1 (subst (λ p. IsSomeAnd p (λ o. own ≡ handle_of o.kind slot)) (sym known.1) (ap (handle_in slot) known.1))

  owns_is : owns w own ≡ is_owned w slot
  owns_is = ap (λ p. unwrap_or (option_map (is_owned w) p) false) found

  -- a module owns it
  pub owned_changes : is_owned w slot ≡ true → Changes old slot size flags None old
  owned_changes owned = record {
    step = subst (λ b. MatchBool b (IsNull w 0 (record w { moved = 0 })) (ReAllocsOwn w own size flags 0 (record w { moved = 0 }))) (sym (owns_is ∙ owned)) (refl, refl);
    moved = refl;
    written = omega arith;
    refused = λ e. refl;
  }

  -- None owns it.
  module _ (free : is_owned w slot ≡ false) where
    module _ (answer : ℕ) (new : Handles) where
      abbrev by_size : Bool → Type 0
      by_size none = MatchBool none (Empties w own slot flags answer new) (C.Resizes w slot flags size answer new)

      abbrev by_modify : Bool → Type 0
      by_modify m = MatchBool m (C.AnswersHandle w own (modified w.heap slot (kind_modified flags)) answer new) (by_size (size == 0))

      answers : (m : Bool) → has_flag flags GMEM_MODIFY ≡ m → by_modify m → GlobalReAllocs w own size flags answer new
      answers m e h = subst (λ b. MatchBool b (IsNull w answer new) (ReAllocsOwn w own size flags answer new)) (sym (owns_is ∙ free)) (subst (λ p. C.MatchOption p (IsNull w answer new) (λ slot. MatchBool (has_flag flags GMEM_MODIFY)
          (C.AnswersHandle w own (modified w.heap slot (kind_modified flags)) answer new)
          (MatchBool (size == 0) (Empties w own slot flags answer new) (C.Resizes w slot flags size answer new))))
          (sym found) (subst by_modify (sym e) h))

    -- it has its handle still
    module _ (new : Global) (heap : Heap) (new_is : new ≡ record old { handles = record w { heap = heap } }) (again : handle_at heap slot ≡ own) where
      in_place : GlobalReAllocs w own size flags (handle_at heap slot) (record w { heap = heap; moved = 0 }) → C.zeroed_behind w own size flags (handle_at heap slot) ≡ 0 → Changes old slot size flags (Some (record { first = slot; moved = 0 })) new
      in_place step zeros = subst (Changes old slot size flags (Some (record { first = slot; moved = 0 }))) (sym new_is) (record {
        step = step;
        moved = refl;
        written = let none : old.written ≡ counted (counted old.written 0) 0 = omega arith in none ∙ ap (counted (counted old.written 0)) (sym zeros);
        refused = λ e. absurd (some_handle known.0.kind slot (sym (ap (handle_in slot) known.1) ∙ sym again ∙ e));
      })

    pub modified_changes : (asked : Kind) → asked ≡ kind_modified flags → has_flag flags GMEM_MODIFY ≡ true → (new : Global) → new ≡ record old { handles = record w { heap = modified w.heap slot asked } } → Changes old slot size flags (Some (record { first = slot; moved = 0 })) new
    modified_changes asked asked_is modify new new_is =
        let like = modified_like w.heap is.heap slot flags in
        in_place new (modified w.heap slot (kind_modified flags)) (new_is ∙ (λ i. record old { handles = record w { heap = modified w.heap slot (asked_is i) } })) like.1
        (answers _ _ true modify (like.1, (λ i. record w { heap = modified w.heap slot (kind_modified flags); moved = sym (C.unmoved w.heap (modified w.heap slot (kind_modified flags)) like.0) i }))) (zeros (_ == 0) _ _ modify)
      where
        zeros : (a b : Bool) (n : ℕ) → b ≡ true → (if a || b then 0 else n) ≡ 0
        zeros true b n e = refl
        zeros false true n e = refl
        zeros false false n e = absurd (C.false≢true e)

    pub emptied_changes : has_flag flags GMEM_MODIFY ≡ false → size ≡ 0 → has_flag flags GMEM_MOVEABLE ≡ true → (new : Global) → after_discard w.heap slot ≡ Ok new.handles.heap → new ≡ record old { handles = record w { heap = new.handles.heap } }
        → Changes old slot size flags (Some (record { first = slot; moved = 0 })) new
    emptied_changes kept none moveable new done new_is =
        let heap = new.handles.heap in
        let again = discarded_handle w.heap heap slot done in
        in_place new heap new_is again
        (answers _ _ false kept (subst (by_size (handle_at heap slot) (record w { heap = heap; moved = 0 })) (sym (C.eq-eqb size 0 none))
        (subst (λ m. MatchBool m (AnswersDiscard w own (handle_at heap slot) (record w { heap = heap; moved = 0 }) (after_discard w.heap slot)) (IsNull w (handle_at heap slot) (record w { heap = heap; moved = 0 }))) (sym moveable)
        (subst (AnswersDiscard w own (handle_at heap slot) (record w { heap = heap; moved = 0 })) (sym done) (again, (λ i. record w { heap = heap; moved = sym (discard_unmoved w.heap heap slot done) i })))))) (zeros _ _ _ _ (ap rounded_size none))
      where
        zeros : (a b : Bool) (n k : ℕ) → n ≡ 0 → (if a then 0 else (if b then n - k else 0)) ≡ 0
        zeros true b n k e = refl
        zeros false true n k e = omega arith
        zeros false false n k e = refl

    -- it got bytes, or didn't
    module _ (kept : has_flag flags GMEM_MODIFY ≡ false) (some : size ≡ 0 → ⊥) (small : size ≤ C.LARGEST_SIZE) (n : ℕ) (n_is : n ≡ rounded_size size) (options : RoomOptions) (way_is : options ≡ realloc_options flags) where
      abbrev Gets : ℕ → Object → Type 0
      Gets first o = GetsRun w slot o options (slots_for n) first

      abbrev Lacks : Object → Type 0
      Lacks o = LacksRun w slot o options (slots_for n) ⊎ ((first : ℕ) × Gets first o × Reallocates w.heap slot n options false w.heap)

      -- by what is computed
      abbrev Known : ℕ → RoomOptions → ℕ → Handles → Type 0
      Known k way answer new = (LacksRun w slot known.0 way (slots_for k) × IsNull w answer new)
          ⊎ ((first : ℕ) × GetsRun w slot known.0 way (slots_for k) first × (answered : Bool) × (heap : Heap) × Reallocates w.heap slot k way answered heap
          × MatchBool answered (Anew w slot known.0.kind first (slots_for k) heap answer new) (IsNull w answer new))

      answers_size : (answer : ℕ) (new : Handles) → Known n options answer new → GlobalReAllocs w own size flags answer new
      answers_size answer new h = answers answer new false kept (subst (by_size answer new) (sym (ne_eqb size 0 some)) (subst (λ long. MatchBool long (IsNull w answer new) (IsSomeAnd (object_at w.heap slot) (C.ResizesObject w slot flags size answer new)))
          (sym (C.le-ltb C.LARGEST_SIZE size small)) (subst (λ p. IsSomeAnd p (C.ResizesObject w slot flags size answer new)) (sym known.1) (subst (λ (T : Type 0). T) (λ i. Known (n_is i) (way_is i) answer new) h))))

      pub resized_changes : (r : Option Resized) (new : Global) → IfSome r (λ r. IsSomeAnd (object_at w.heap slot) (Gets r.first))
          → IfSome r (λ r. (heap : Heap) × Reallocates w.heap slot n options true heap × (r.moved ≡ moved_bytes w.heap heap) × (new.handles ≡ record w { heap = C.rehoused heap slot r.first; attributes = C.with_run w.attributes slot r.first (slots_for n) }))
          → IfSome r (λ r. new.written ≡ counted (counted old.written r.moved) (if options.zero then n - unwrap_or (option_map (length {A = ℕ}) (bytes_at w.heap slot)) 0 else 0))
          → C.IfNone r (new ≡ old) → C.IfNone r (IsSomeAnd (object_at w.heap slot) Lacks) → Changes old slot size flags r new
      resized_changes None new gets made written refused lacks = subst (Changes old slot size flags None) (sym refused) (record {
        step = answers_size 0 (record w { moved = 0 }) (elim (subst (λ p. IsSomeAnd p Lacks) known.1 lacks) [ inl l ↦ inl (l, (refl, refl)) | inr r ↦ inr (r.0, r.1, false, w.heap, r.2, (refl, refl)) ]);
        moved = refl;
        written = omega arith;
        refused = λ e. refl;
      })
      resized_changes (Some r) new gets made written refused lacks =
          let answer = handle_at new.handles.heap r.first in
          let its : Gets r.first known.0 = subst (λ p. IsSomeAnd p (Gets r.first)) known.1 gets in
          let named : answer ≡ handle_of known.0.kind r.first = ap (λ (x : Handles). handle_at x.heap r.first) made.3 ∙ answered w is slot n options known.0 known.1 r.first its made.0 made.1 in
          let never = λ (e : answer ≡ 0). some_handle known.0.kind r.first (sym named ∙ e) in
          let more : ℕ = if has_flag flags C.GMEM_ZEROINIT then rounded_size size - C.global_size w own else 0 in
          record {
            step = answers_size answer (record new.handles { moved = r.moved }) (inr (r.first, its, true, made.0, made.1, (named, (λ i. record (made.3 i) { moved = made.2 i }))));
            moved = ap (λ (x : Handles). x.moved) made.3;
            written = written ∙ ap (counted (counted old.written r.moved)) ((λ i. if (way_is i).zero then n_is i - unwrap_or (option_map (length {A = ℕ}) (bytes_at w.heap slot)) 0 else 0)
                ∙ sym (ap (λ b. if b || has_flag flags GMEM_MODIFY then 0 else more) (ne_eqb answer 0 never) ∙ ap (λ b. if b then 0 else more) kept
                ∙ ap (λ p. if has_flag flags C.GMEM_ZEROINIT then rounded_size size - (elim p as (λ _. ℕ) [ None ↦ 0 | Some slot ↦ unwrap_or (option_map (length {A = ℕ}) (bytes_at w.heap slot)) 0 ]) else 0) found));
            refused = λ e. absurd (never e);
          }

-- what a program is told, by the object's handle
pub called : (old new : Global) (slot size flags : ℕ) (r : Option Resized) → Changes old slot size flags r new → (handle : ℕ) → slot_of_handle old.handles handle ≡ Some slot
    → (left : Global) → left ≡ record new { handles = record new.handles { moved = moved_of r } } → (answer : ℕ) → answer ≡ answer_of left.handles.heap r
    → GlobalReAllocs old.handles handle size flags answer left.handles × (left.written ≡ counted (counted old.written (moved_of r)) (zeroed_behind old.handles handle size flags answer))
called old new slot size flags r c handle named left left_is answer answer_is =
    let told : answer_of new.handles.heap r ≡ answer = sym (answer_is ∙ ap (λ (g : Global). answer_of g.handles.heap r) left_is) in (
      subst (λ (T : Type 0). T) (λ i. GlobalReAllocs old.handles (handle_is old.handles slot _ named i) size flags (told i) (sym left_is i).handles) c.step,
      ap (λ (g : Global). g.written) left_is ∙ c.written ∙ (λ i. counted (counted old.written (moved_of r)) (zeroed_behind old.handles (handle_is old.handles slot _ named i) size flags (told i))),
    )

-- and a local heap
pub lengthened : (old new : Global) (slot size flags answer : ℕ) (r : Option Resized) → AreHandles old.handles → answer ≡ answer_of new.handles.heap r → Changes old slot size flags r new
    → (handle : ℕ) → slot_of_handle old.handles handle ≡ Some slot → Lengthens old handle size flags answer new
lengthened old new slot size flags answer r is answer_is c handle named = subst (λ h. Lengthens old h size flags answer new) (handle_is old.handles slot _ named) (subst (λ a. Lengthens old (handle_at old.handles.heap slot) size flags a new) (sym answer_is) (record {
  left = _;
  step = c.step;
  fewest = resize_fewest_law _ _ _ size flags _ is c.step;
  handles = λ i. record new.handles { moved = c.moved i };
  written = c.written;
}))

-- GlobalDiscard moves nothing,
discards_unmoved : (old : Handles) (handle answer : ℕ) (new : Handles) → C.GlobalDiscards old handle answer new → new.moved ≡ 0
discards_unmoved old handle answer new step = by_owner _ step
  where
    by_answer : (slot : ℕ) (r : Result Heap Refusal) → after_discard old.heap slot ≡ r → AnswersDiscard old handle answer new r → new.moved ≡ 0
    by_answer slot (Ok heap) e again = ap (λ x. x.moved) again.1 ∙ discard_unmoved _ heap slot e
    by_answer slot (Err refusal) e null = ap (λ x. x.moved) null.1

    turn : (p : Option ℕ) → C.MatchOption p (IsNull old answer new) (λ slot. AnswersDiscard old handle answer new (after_discard old.heap slot)) → new.moved ≡ 0
    turn None null = ap (λ x. x.moved) null.1
    turn (Some slot) g = by_answer slot _ refl g

    by_owner : (b : Bool) → MatchBool b (IsNull old answer new) (ReAllocsOwn old handle 0 GMEM_MOVEABLE answer new) → new.moved ≡ 0
    by_owner true null = ap (λ x. x.moved) null.1
    by_owner false own = turn _ own

-- to count none changes no count
pub counted_none : (count : ℕ) → counted count 0 ≡ count
counted_none count = omega arith

-- and so writes nothing
pub discard_written : (old : Handles) (handle answer : ℕ) (new : Handles) → C.GlobalDiscards old handle answer new → (before after : ℕ)
    → after ≡ counted (counted before new.moved) (C.zeroed_behind old handle 0 GMEM_MOVEABLE answer) → after ≡ before
discard_written old handle answer new step before after is =
    is ∙ (λ i. counted (counted before (discards_unmoved old _ _ new step i)) (no_zeros ((answer == 0) || has_flag GMEM_MOVEABLE GMEM_MODIFY) i)) ∙ ap (λ k. counted k 0) (counted_none _) ∙ counted_none _
  where
    no_zeros : (b : Bool) → cond {A = ℕ} b 0 0 ≡ 0
    no_zeros true = refl
    no_zeros false = refl
