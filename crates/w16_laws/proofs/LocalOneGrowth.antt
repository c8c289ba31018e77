-- A heap isn't both lengthened and kept short.
use Rattle.w16_machine.proofs.Common.{◌≡◌, ◌≢◌, ℕ, ◌<◌, inl, inr, Bool, true, false, nat_lt, MatchBool, IsSomeAnd, Option, Some, None, sym, subst, arith, Object, Handles, object_at, has_flag, Lengthens, growth_flags}
use Rattle.w16_machine.proofs.{LocalGrown.plain_flags, LocalLengthened.resizes}
use Rattle.w16_model.specs.declared.Kind.TheVariants.{Fixed, Moveable, Discardable}
use Rattle.w16_model.specs.Resizes.{Anew, GetsRun, GlobalReAllocs, IsNull, LacksRun, ReAllocsOwn, ResizesObject, realloc_options}
use Rattle.w16_model.specs.{declared.TheConstants.LARGEST_SIZE, declared.TheConstants.GMEM_MODIFY, declared.Kind.Kind, Calls.rounded_size, Handles.handle_of, Handles.slot_of_handle, Handles.slots_for, Heap.Heap, Request.Reallocates}
use Rattle.w16_model.proofs.Growth.{one_outcome_law}
use Rattle.w16_laws.specs.LocalHeaps.{OneGrowthLaw}

some_handle : (kind : Kind) (slot : ℕ) → 0 ≢ handle_of kind slot
some_handle Fixed slot e = omega (arith, e)
some_handle Moveable slot e = omega (arith, e)
some_handle Discardable slot e = omega (arith, e)

-- A reallocation to a size above 0 isn't answered and NULL.
module _ (old : Handles) (handle slot size flags : ℕ) (found : slot_of_handle old handle ≡ Some slot) (keeps : has_flag flags GMEM_MODIFY ≡ false) (some : 0 < size) where
  module _ (answer : ℕ) (answers : answer ≢ 0) (new null : Handles) where
    runs : (o : Object) (first : ℕ) → GetsRun old slot o (realloc_options flags) (slots_for (rounded_size size)) first → LacksRun old slot o (realloc_options flags) (slots_for (rounded_size size)) → ⊥
    runs o first (inl here) lacks = lacks.here here.0
    runs o first (inr there) lacks = lacks.elsewhere there.1 first there.2

    by_heaps : (o : Object) (a b : Bool) (first other : ℕ) (heap same : Heap) → Reallocates old.heap slot (rounded_size size) (realloc_options flags) a heap → Reallocates old.heap slot (rounded_size size) (realloc_options flags) b same
        → MatchBool a (Anew old slot o.kind first (slots_for (rounded_size size)) heap answer new) (IsNull old answer new) → MatchBool b (Anew old slot o.kind other (slots_for (rounded_size size)) same 0 null) (IsNull old 0 null) → ⊥
    by_heaps o false b first other heap same r s g h = answers g.0
    by_heaps o true true first other heap same r s g h = some_handle o.kind other h.0
    by_heaps o true false first other heap same r s g h = (one_outcome_law old.heap same slot (rounded_size size) (realloc_options flags) s).1 heap r

    by_object : (o : Object) → ResizesObject old slot flags size answer new o → ResizesObject old slot flags size 0 null o → ⊥
    by_object o (inl g) h = answers g.1.0
    by_object o (inr g) (inl h) = runs o g.0 g.1 h.0
    by_object o (inr g) (inr h) = by_heaps o g.2 h.2 g.0 h.0 g.3 h.3 g.4 h.4 g.5 h.5

    by_objects : (p : Option Object) → IsSomeAnd p (ResizesObject old slot flags size answer new) → IsSomeAnd p (ResizesObject old slot flags size 0 null) → ⊥
    by_objects None g h = g
    by_objects (Some o) g h = by_object o g h

    by_size : (long : Bool) → MatchBool long (IsNull old answer new) (IsSomeAnd (object_at old.heap slot) (ResizesObject old slot flags size answer new))
        → MatchBool long (IsNull old 0 null) (IsSomeAnd (object_at old.heap slot) (ResizesObject old slot flags size 0 null)) → ⊥
    by_size true g h = answers g.0
    by_size false g h = by_objects (object_at old.heap slot) g h

    by_owner : (owned : Bool) → MatchBool owned (IsNull old answer new) (ReAllocsOwn old handle size flags answer new) → MatchBool owned (IsNull old 0 null) (ReAllocsOwn old handle size flags 0 null) → ⊥
    by_owner true g h = answers g.0
    by_owner false g h = by_size (nat_lt LARGEST_SIZE size) (resizes old handle slot size flags found keeps some answer new g) (resizes old handle slot size flags found keeps some 0 null h)

pub one_answer : (old : Handles) (handle slot size flags : ℕ) → slot_of_handle old handle ≡ Some slot → has_flag flags GMEM_MODIFY ≡ false → 0 < size → (answer : ℕ) → answer ≢ 0 → (new null : Handles)
    → GlobalReAllocs old handle size flags answer new → GlobalReAllocs old handle size flags 0 null → ⊥
one_answer old handle slot size flags found keeps some answer answers new null g h = by_owner old _ slot size flags found keeps some _ answers new _ _ g h

pub one_growth_law : OneGrowthLaw
one_growth_law old at id n size other options g h = (same, (λ l short. never l (short l.handle l.named)))
  where
    same : size ≡ other
    same = let below = g.least other h.served in let above = h.least size g.served in omega arith

    never : (l : Lengthens old at options size) → (null : Handles) × GlobalReAllocs old.loading.handles l.handle other (growth_flags options) 0 null → ⊥
    never l k = one_answer old.loading.handles l.handle at.slot size (growth_flags options) l.named (plain_flags options) (omega (arith, g.served.longer.more)) l.answer l.answered l.handles k.0 l.reallocated
        (subst (λ n. GlobalReAllocs old.loading.handles l.handle n (growth_flags options) 0 k.0) (sym same) k.1)
