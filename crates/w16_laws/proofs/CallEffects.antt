-- What calls do, and when accesses are answered.
use Rattle.w16_model.proofs
use proofs.Common as C
use proofs.Common.{◌≡◌, ℕ, ◌+◌, ◌*◌, ◌-◌, ◌<◌, ◌≤◌, ◌==◌, true, false, cond, nat_lt, MatchBool, Some, None, Ok, refl, ap, ◌∙◌, arith, Heap, Object, is_fixed, part, Handles, Word, Dword, kind_modified, far_at, Done}
use proofs.{Heaps.get-update_same, KeptHeaps.inserted_here, KeptHeaps.taken_here, KindChanges.kind_law, Parts.length-repeated}
use Rattle.std.specs.FinMap as finmap
use Rattle.w16_laws.specs.CallEffects.{AnsweredLaw, DiscardLaw, FreeLaw, LockLaw, ModifyLaw, UnlockLaw}
use Rattle.w16_model.specs.declared.Kind.TheVariants.{Discardable, Moveable}
use Rattle.w16_model.specs.{declared.TheConstants.REACH, declared.TheConstants.GMEM_MODIFY, declared.Kind.Kind}
use Rattle.w16_laws.proofs.FarAccesses.{reached_fault}

module _ (old : Handles) (handle slot : ℕ) (o : Object) (n : C.IsNamed old handle slot o) where
  -- GlobalLock
  abbrev locked_heap : Heap
  locked_heap = C.with_ordered old.heap slot (record o { locks = o.locks + 1 }) (C.touched slot)

  locked : C.is_some o.bytes ≡ true → is_fixed o.kind ≡ false → o.locks < 255 → C.global_lock old handle ≡ (Dword (C.far_pointer (C.selector_of slot) 0), record old { heap = locked_heap })
  locked has loose few = rw (n.found, n.there, has, loose, C.ne_eqb o.locks 255 (λ e. omega (arith, e, few)), C.global_lock, C.after_lock)

  -- GlobalUnlock
  abbrev less : Object
  less = record o { locks = o.locks - 1 }

  unlocked : is_fixed o.kind ≡ false → C.global_unlock old handle ≡ (Word (cond (nat_lt 0 (o.locks - 1)) 1 0), record old { heap = C.with_object old.heap slot less })
  unlocked loose = rw (n.found, n.there, loose, inserted_here old.heap.objects slot less slot refl, C.global_unlock, C.after_unlock)

  -- GlobalFree
  freed : C.owns old handle ≡ false → o.locks ≡ 0 → C.global_free old handle ≡ (Word 0, record old { heap = C.removed old.heap slot; attributes = finmap.remove old.attributes slot })
  freed own free = rw (own, n.found, n.there, free, C.global_free, C.free_own, C.after_free)

  -- GlobalReAlloc
  module _ (new : Handles) (size flags answer : ℕ) (own : C.owns old handle ≡ false) (step : C.GlobalReAllocs old handle size flags answer new) where
    reallocs : MatchBool (C.has_flag flags GMEM_MODIFY) (C.AnswersHandle old handle (C.modified old.heap slot (kind_modified flags)) answer new) (MatchBool (size == 0) (C.Empties old handle slot flags answer new) (C.Resizes old slot flags size answer new))
    reallocs = rw (own, n.found, C.GlobalReAllocs) at step

pub lock_law : LockLaw
lock_law old new handle slot o answer n has loose few step =
    let e = locked old _ _ o n has loose few in (rw (step.1, e) (inserted_here _ slot (record o { locks = o.locks + 1 }) _ refl), step.0 ∙ ap (λ p. p.0) e)

pub unlock_law : UnlockLaw
unlock_law old new handle slot o answer n loose step =
    let e = unlocked old _ _ o n loose in (rw (step.1, e) (inserted_here _ slot (record o { locks = o.locks - 1 }) _ refl), step.0 ∙ ap (λ p. p.0) e)

pub free_law : FreeLaw
free_law old new handle slot o answer n own free step =
    let e = freed old _ _ o n own free in (rw (step.1, e) (taken_here _ slot _ refl), step.0 ∙ ap (λ p. p.0) e)

pub modify_law : ModifyLaw
modify_law old new handle slot size flags o answer is n own modify loose step =
    let again = rw modify at (reallocs old _ _ o n new size flags _ own step) in
    let law = rw n.there at (kind_law old.heap slot (kind_modified flags) is.heap) in
    let c = law.1 (rw loose (never_fixed flags)) in (rw (again.1, c.1, C.modified) c.2.object, again.0)
  where
    by_flag : (b : C.Bool) → is_fixed (cond {A = Kind} b Discardable Moveable) ≡ false
    by_flag true = refl
    by_flag false = refl

    never_fixed : (flags : ℕ) → is_fixed (kind_modified flags) ≡ false
    never_fixed flags = by_flag _

pub discard_law : DiscardLaw
discard_law old new handle slot flags o answer n own keeps moveable may free step =
    let done : C.after_discard old.heap slot ≡ Ok (C.absent old.heap slot) = rw (n.there, free, may, C.after_discard) in
    let again = rw (keeps, moveable, done) at (reallocs old _ slot o n new 0 flags _ own step) in
    (rw again.1 (get-update_same old.heap.objects slot _ ∙ ap (C.option_map _) n.there), again.0)

-- Far accesses.
module _ (old : Handles) (selector offset n : ℕ) (p : C.Part) (bytes : C.List ℕ) (found : C.part_of_selector old selector ≡ Some p) (has : C.bytes_at old.heap p.slot ≡ Some bytes) (near : offset + n ≤ REACH) (fits : REACH * p.number + (offset + n) ≤ C.length bytes) where
  no_fault : C.far_fault old selector offset n ≡ None
  no_fault = reached_fault old selector offset n p bytes found has near fits

  read_answered : (C.far_read old selector offset n).0 ≡ C.Bytes (part (C.far_bytes old selector) (far_at old selector offset) n)
  read_answered = rw (no_fault, C.far_read)

  write_answered : (slice : C.List ℕ) → C.length slice ≡ n → C.refuses_write old selector ≡ false → (C.far_write old selector offset slice).0 ≡ Done
  write_answered slice long may = rw (may, ap (C.far_fault old selector offset) long ∙ no_fault, C.far_write, C.data_write)

pub answered_law : AnsweredLaw
answered_law old new (C.Read pointer count) answer p bytes found has near fits may step fault e =
    cc (step.0 ∙ read_answered old _ _ _ p _ found has near fits)
answered_law old new (C.Write pointer slice) answer p bytes found has near fits may step fault e =
    cc (step.0 ∙ write_answered old _ _ _ p _ found has near fits slice refl (may refl))
answered_law old new (C.Fill pointer count byte) answer p bytes found has near fits may step fault e =
    cc (step.0 ∙ write_answered old _ _ count p _ found has near fits _ (length-repeated _ _) (may refl))
