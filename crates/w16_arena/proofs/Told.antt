-- What the single steps of a heap say, by what it has at an id.
use Rattle.w16_arena.proofs.Common as C
use Rattle.w16_arena.proofs.Common.{◌≡◌, ℕ, ◌+◌, ◌-◌, ◌==◌, ◌||◌, true, false, nat_lt, is_some, Some, None, Ok, Err, refl, Kind, Heap, is_fixed, is_discardable, with_ordered, after_lock, after_unlock, after_free, after_discard, after_modify, refused_order, End}
use Rattle.w16_model.specs.declared.Refusal.TheVariants as refusals

module _ (heap : Heap) (id : ℕ) where
  module _ (none : C.object_at heap id ≡ None) where
    pub lock_none : after_lock heap id ≡ Err refusals.Absent
    lock_none = rw (none, after_lock) refl

    pub unlock_none : after_unlock heap id ≡ Ok heap
    unlock_none = rw (none, after_unlock) refl

    pub free_none : after_free heap id ≡ Ok heap
    free_none = rw (none, after_free) refl

    pub modify_none : (kind : Kind) → after_modify heap id kind ≡ Err refusals.Absent
    modify_none kind = rw (none, after_modify) refl

    pub discard_none : after_discard heap id ≡ Err refusals.NotDiscardable
    discard_none = rw (none, after_discard) refl

    pub order_none : refused_order heap id ≡ Some refusals.Absent
    order_none = rw (none, refused_order) refl

  module _ (o : C.Object) (there : C.object_at heap id ≡ Some o) where
    pub lock_absent : is_some o.bytes ≡ false → after_lock heap id ≡ Err refusals.Absent
    lock_absent a = rw (there, after_lock, a) refl

    pub lock_fixed : is_some o.bytes ≡ true → is_fixed o.kind ≡ true → after_lock heap id ≡ Err refusals.Fixed
    lock_fixed a b = rw (there, after_lock, a, b) refl

    pub lock_full : is_some o.bytes ≡ true → is_fixed o.kind ≡ false → (o.locks == 255) ≡ true → after_lock heap id ≡ Err refusals.LockFull
    lock_full a b d = rw (there, after_lock, a, b, d) refl

    pub lock_ok : is_some o.bytes ≡ true → is_fixed o.kind ≡ false → (o.locks == 255) ≡ false → after_lock heap id ≡ Ok (with_ordered heap id (record o { locks = o.locks + 1 }) (C.touched id))
    lock_ok a b d = rw (there, after_lock, a, b, d) refl

    pub unlock_fixed : is_fixed o.kind ≡ true → after_unlock heap id ≡ Err refusals.Fixed
    unlock_fixed b = rw (there, after_unlock, b) refl

    pub unlock_ok : is_fixed o.kind ≡ false → after_unlock heap id ≡ Ok (C.with_object heap id (record o { locks = o.locks - 1 }))
    unlock_ok b = rw (there, after_unlock, b) refl

    pub modify_fixed : (kind : Kind) → (is_fixed o.kind || is_fixed kind) ≡ true → after_modify heap id kind ≡ Err refusals.Fixed
    modify_fixed kind b = rw (there, after_modify, b) refl

    pub modify_ok : (kind : Kind) → (is_fixed o.kind || is_fixed kind) ≡ false
        → after_modify heap id kind ≡ Ok (with_ordered heap id (record o { kind = kind }) (λ order. C.relisted (is_discardable o.kind) (is_discardable kind) (is_some o.bytes) id order))
    modify_ok kind b = rw (there, after_modify, b) refl

    pub free_locked : nat_lt 0 o.locks ≡ true → after_free heap id ≡ Err refusals.Locked
    free_locked b = rw (there, after_free, b) refl

    pub free_ok : nat_lt 0 o.locks ≡ false → after_free heap id ≡ Ok (C.removed heap id)
    free_ok b = rw (there, after_free, b) refl

    pub discard_locked : nat_lt 0 o.locks ≡ true → after_discard heap id ≡ Err refusals.Locked
    discard_locked b = rw (there, after_discard, b) refl

    pub discard_other : nat_lt 0 o.locks ≡ false → is_discardable o.kind ≡ false → after_discard heap id ≡ Err refusals.NotDiscardable
    discard_other b d = rw (there, after_discard, b, d) refl

    pub discard_ok : nat_lt 0 o.locks ≡ false → is_discardable o.kind ≡ true → after_discard heap id ≡ Ok (C.absent heap id)
    discard_ok b d = rw (there, after_discard, b, d) refl

    pub order_absent : is_some o.bytes ≡ false → refused_order heap id ≡ Some refusals.Absent
    order_absent a = rw (there, refused_order, a) refl

    pub order_other : is_some o.bytes ≡ true → is_discardable o.kind ≡ false → refused_order heap id ≡ Some refusals.NotDiscardable
    order_other a d = rw (there, refused_order, a, d) refl

    pub order_ok : is_some o.bytes ≡ true → is_discardable o.kind ≡ true → refused_order heap id ≡ None
    order_ok a d = rw (there, refused_order, a, d) refl

  pub end_ok : (end : End) → refused_order heap id ≡ None → C.after_end end heap id ≡ Ok (record heap { order = C.at_end end id heap.order })
  end_ok C.Newest e = rw (e, C.after_newest) refl
  end_ok C.Oldest e = rw (e, C.after_oldest) refl
