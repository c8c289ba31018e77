-- The size that an answered reallocation gives its object.
use Rattle.w16_model.proofs
use proofs.Common as C
use proofs.Common.{◌≡◌, ◌≢◌, ℕ, ◌<◌, ◌==◌, inl, inr, Bool, true, false, nat_lt, MatchBool, IsSomeAnd, refl, sym, ap, subst, arith, GMEM_MODIFY, LARGEST_SIZE, Heap, object_at, slots_for, owns, has_flag, rounded_size, Word, Anew, IsNull, AnswersHandle, Empties, Resizes, ResizesObject}
use proofs.Common.{modified, kind_modified, realloc_options, ReAllocs}
use proofs.CallLaws.{rest_of, object_first, next_is}
use Rattle.w16_model.specs.Reallocation.{IsResized as IsObjectResized}

module _ (old new : C.Handles) (is : C.AreHandles old) (handle slot size flags : ℕ) (o : C.Object) (answer : ℕ) (n : C.IsNamed old handle slot o) (keeps : has_flag flags GMEM_MODIFY ≡ false) (some : 0 < size) (answers : answer ≢ 0) where
  abbrev IsSizedAnew : ℕ → Type 0
  IsSizedAnew handle = C.HasNewSize new handle (realloc_options flags).zero (rounded_size size) o

  none : (size == 0) ≡ false
  none = C.ne_eqb size 0 (λ e. omega (arith, e, some))

  -- under the handle that is answered is the object at its new size
  module _ (own : owns old handle ≡ false) (short : nat_lt LARGEST_SIZE size ≡ false) (first : ℕ) (gets : C.GetsRun old slot o (realloc_options flags) (slots_for (rounded_size size)) first)
      (heap : Heap) (r : C.Reallocates old.heap slot (rounded_size size) (realloc_options flags) true heap) (anew : Anew old slot o.kind first (slots_for (rounded_size size)) heap answer new) where
    abbrev made : C.Resized old (ReAllocs handle size flags) (Word answer) new
    made = record {
      handle = handle;
      size = size;
      flags = flags;
      slot = slot;
      object = o;
      first = first;
      heap = heap;
      asked = refl;
      answered = ap Word anew.0;
      named = n;
      own = own;
      sized = (keeps, none);
      small = C.ltb-false LARGEST_SIZE size short;
      gets = gets;
      resized = r;
      rest = anew.1;
    }

    sized : IsSizedAnew answer
    sized =
        let kept : IsSomeAnd (object_at heap slot) (IsObjectResized (realloc_options flags).zero (rounded_size size) o) = (rest_of old new is (ReAllocs handle size flags) (Word answer) made).object in
        let here : IsSomeAnd (object_at new.heap first) (IsObjectResized (realloc_options flags).zero (rounded_size size) o) =
        subst (λ p. IsSomeAnd p (IsObjectResized (realloc_options flags).zero (rounded_size size) o)) (sym (object_first old new is (ReAllocs handle size flags) (Word answer) made)) kept in
        subst IsSizedAnew (sym anew.0) (subst (λ p. IsSomeAnd p (λ s. IsSomeAnd (object_at new.heap s) (IsObjectResized (realloc_options flags).zero (rounded_size size) o))) (sym (next_is old new is (ReAllocs handle size flags) (Word answer) made)) here)

  by_answer : owns old handle ≡ false → nat_lt LARGEST_SIZE size ≡ false → (first : ℕ) → C.GetsRun old slot o (realloc_options flags) (slots_for (rounded_size size)) first → (answered : Bool) (heap : Heap) → C.Reallocates old.heap slot (rounded_size size) (realloc_options flags) answered heap
      → MatchBool answered (Anew old slot o.kind first (slots_for (rounded_size size)) heap answer new) (IsNull old answer new) → IsSizedAnew answer
  by_answer own short first gets true heap r anew = sized own short first gets heap r anew
  by_answer own short first gets false heap r null = absurd (answers null.0)

  of_object : owns old handle ≡ false → nat_lt LARGEST_SIZE size ≡ false → ResizesObject old slot flags size answer new o → IsSizedAnew answer
  of_object own short (inl g) = absurd (answers g.1.0)
  of_object own short (inr g) = by_answer own short g.0 g.1 g.2 g.3 g.4 g.5

  resizes : owns old handle ≡ false → (long : Bool) → nat_lt LARGEST_SIZE size ≡ long → MatchBool long (IsNull old answer new) (IsSomeAnd (object_at old.heap slot) (ResizesObject old slot flags size answer new)) → IsSizedAnew answer
  resizes own true e g = absurd (answers g.0)
  resizes own false e g = of_object own e (subst (λ p. IsSomeAnd p (ResizesObject old slot flags size answer new)) n.there g)

  named : owns old handle ≡ false → C.ReAllocsOwn old handle size flags answer new → IsSizedAnew answer
  named own g =
      let of_slot : MatchBool (has_flag flags GMEM_MODIFY) (AnswersHandle old handle (modified old.heap slot (kind_modified flags)) answer new) (MatchBool (size == 0) (Empties old handle slot flags answer new) (Resizes old slot flags size answer new)) =
      subst (λ p. C.MatchOption p (IsNull old answer new)
      (λ slot. MatchBool (has_flag flags GMEM_MODIFY)
      (AnswersHandle old handle (modified old.heap slot (kind_modified flags)) answer new)
      (MatchBool (size == 0) (Empties old handle slot flags answer new) (Resizes old slot flags size answer new))))
      n.found g in
      let of_size : MatchBool (size == 0) (Empties old handle slot flags answer new) (Resizes old slot flags size answer new) =
      subst (λ b. MatchBool b (AnswersHandle old handle (modified old.heap slot (kind_modified flags)) answer new) (MatchBool (size == 0) (Empties old handle slot flags answer new) (Resizes old slot flags size answer new))) keeps of_slot in
      resizes own (nat_lt LARGEST_SIZE size) refl (subst (λ b. MatchBool b (Empties old handle slot flags answer new) (Resizes old slot flags size answer new)) none of_size)

  by_owner : (b : Bool) → owns old handle ≡ b → MatchBool b (IsNull old answer new) (C.ReAllocsOwn old handle size flags answer new) → IsSizedAnew answer
  by_owner true own g = absurd (answers g.0)
  by_owner false own g = named own g

pub size_law : C.SizeLaw
size_law old new handle slot size flags o answer is n keeps some answers step = by_owner old new is _ slot size flags o _ n keeps some answers _ refl step
