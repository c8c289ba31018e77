-- The steps that ask for no room, by what the table has at an id: those that are refused, and those that two steps make.
use Rattle.w16_arena.proofs
use proofs.Common.{◌≡◌, ℕ, ◌+◌, ◌-◌, ◌≤◌, ◌==◌, ◌||◌, true, false, nat_lt, IfSome, is_some, List, length, slice_range, Option, Some, None, Ok, Err, option_map, refl, sym, ap, ◌∙◌, subst, arith, Block, Entry, Kind, Heap, Object, object_at, is_fixed, is_discardable, absent, with_object}
use proofs.Common.{after_lock, after_unlock, after_free, after_discard, after_modify, after_touch, after_release, refused_order, IsSound, block_with, entry_at, object_in, heap_in, object_is, ArenaState, Steps}
use proofs.Parts.{range_then}
use Rattle.w16_model.specs.declared.Refusal.TheVariants as refusals
use Rattle.w16_arena.proofs.Told as told

-- two steps, one after the other
pub then : {a b c : ArenaState} (P Q R : Heap → Heap → Type 0) → Steps a b P → Steps b c Q
    → ((memory : List ℕ) → a.table.hi ≤ length memory → P (heap_in a.table memory) (heap_in b.table memory) → Q (heap_in b.table memory) (heap_in c.table memory) → R (heap_in a.table memory) (heap_in c.table memory))
    → Steps a c R
then {a} {b} {c} P Q R p q f = record {
  heaps = λ memory high. let hi = p.range.hi in f memory high (p.heaps memory high) (q.heaps memory (omega arith));
  range = range_then p.range q.range;
  rest = q.rest ∙ ap (λ (s : ArenaState). record s { table = c.table }) p.rest;
}

-- a step, said in other words
pub said : {a b : ArenaState} (P Q : Heap → Heap → Type 0) → Steps a b P
    → ((memory : List ℕ) → a.table.hi ≤ length memory → P (heap_in a.table memory) (heap_in b.table memory) → Q (heap_in a.table memory) (heap_in b.table memory)) → Steps a b Q
said P Q p f = record { heaps = λ memory high. f memory high (p.heaps memory high); range = p.range; rest = p.rest }

module _ (s : ArenaState) (sound : IsSound s.table) (id : ℕ) where
  -- nothing has changed
  pub still : (P : Heap → Heap → Type 0) → ((memory : List ℕ) → s.table.hi ≤ length memory → P (heap_in s.table memory) (heap_in s.table memory)) → Steps s s P
  still P f = record { heaps = f; range = record { lo = refl; hi = refl; grain = refl; ids = refl; sound = sound }; rest = refl }

  at : (memory : List ℕ) → s.table.hi ≤ length memory → object_at (heap_in s.table memory) id ≡ option_map (object_in s.table.blocks memory id) (entry_at s.table id)
  at memory high = object_is s.table sound.table memory high id

  module _ (none : entry_at s.table id ≡ None) where
    none_at : (memory : List ℕ) → s.table.hi ≤ length memory → object_at (heap_in s.table memory) id ≡ None
    none_at memory high = at memory high ∙ ap (option_map (object_in s.table.blocks memory id)) none

    pub lock_none : (s ≡ s) × Steps s s (λ a b. after_lock a id ≡ Err refusals.Absent)
    lock_none = (refl, still (λ a b. after_lock a id ≡ Err refusals.Absent) (λ memory high. told.lock_none (heap_in s.table memory) id (none_at memory high)))

    pub unlock_none : Steps s s (λ a b. after_unlock a id ≡ Ok b)
    unlock_none = still (λ a b. after_unlock a id ≡ Ok b) (λ memory high. told.unlock_none (heap_in s.table memory) id (none_at memory high))

    pub free_none : Steps s s (λ a b. after_free a id ≡ Ok b)
    free_none = still (λ a b. after_free a id ≡ Ok b) (λ memory high. told.free_none (heap_in s.table memory) id (none_at memory high))

    pub modify_none : (kind : Kind) → (s ≡ s) × Steps s s (λ a b. after_modify a id kind ≡ Err refusals.Absent)
    modify_none kind = (refl, still (λ a b. after_modify a id kind ≡ Err refusals.Absent) (λ memory high. told.modify_none (heap_in s.table memory) id (none_at memory high) kind))

    pub discard_none : (s ≡ s) × Steps s s (λ a b. after_discard a id ≡ Err refusals.NotDiscardable)
    discard_none = (refl, still (λ a b. after_discard a id ≡ Err refusals.NotDiscardable) (λ memory high. told.discard_none (heap_in s.table memory) id (none_at memory high)))

    pub order_none : Steps s s (λ a b. refused_order a id ≡ Some refusals.Absent)
    order_none = still (λ a b. refused_order a id ≡ Some refusals.Absent) (λ memory high. told.order_none (heap_in s.table memory) id (none_at memory high))

  -- what is absent isn't locked, and is in no order, whether it is there or not
  module _ (out : block_with s.table.blocks id ≡ None) where
    no_bytes : (memory : List ℕ) (e : Entry) → is_some (object_in s.table.blocks memory id e).bytes ≡ false
    no_bytes memory e = ap (λ (b : Option Block). is_some (option_map (λ (x : Block). slice_range memory x.at (x.at + x.size)) b)) out

    pub lock_absent : (s ≡ s) × Steps s s (λ a b. after_lock a id ≡ Err refusals.Absent)
    lock_absent = (refl, still (λ a b. after_lock a id ≡ Err refusals.Absent) (λ memory high. from memory (entry_at s.table id) (at memory high)))
      where
        from : (memory : List ℕ) (e : Option Entry) → object_at (heap_in s.table memory) id ≡ option_map (object_in s.table.blocks memory id) e → after_lock (heap_in s.table memory) id ≡ Err refusals.Absent
        from memory None h = told.lock_none (heap_in s.table memory) id h
        from memory (Some e) h = told.lock_absent (heap_in s.table memory) id (object_in s.table.blocks memory id e) h (no_bytes memory e)

    pub order_absent : Steps s s (λ a b. refused_order a id ≡ Some refusals.Absent)
    order_absent = still (λ a b. refused_order a id ≡ Some refusals.Absent) (λ memory high. from memory (entry_at s.table id) (at memory high))
      where
        from : (memory : List ℕ) (e : Option Entry) → object_at (heap_in s.table memory) id ≡ option_map (object_in s.table.blocks memory id) e → refused_order (heap_in s.table memory) id ≡ Some refusals.Absent
        from memory None h = told.order_none (heap_in s.table memory) id h
        from memory (Some e) h = told.order_absent (heap_in s.table memory) id (object_in s.table.blocks memory id e) h (no_bytes memory e)

  module _ (e : Entry) (there : entry_at s.table id ≡ Some e) where
    o : List ℕ → Object
    o memory = object_in s.table.blocks memory id e

    there_at : (memory : List ℕ) → s.table.hi ≤ length memory → object_at (heap_in s.table memory) id ≡ Some (object_in s.table.blocks memory id e)
    there_at memory high = at memory high ∙ ap (option_map (object_in s.table.blocks memory id)) there

    pub modify_fixed : (kind : Kind) → (is_fixed e.kind || is_fixed kind) ≡ true → (s ≡ s) × Steps s s (λ a b. after_modify a id kind ≡ Err refusals.Fixed)
    modify_fixed kind t = (refl, still (λ a b. after_modify a id kind ≡ Err refusals.Fixed) (λ memory high. told.modify_fixed (heap_in s.table memory) id (object_in s.table.blocks memory id e) (there_at memory high) kind t))

    pub free_locked : nat_lt 0 e.locks ≡ true → (s ≡ s) × Steps s s (λ a b. after_free a id ≡ Err refusals.Locked)
    free_locked t = (refl, still (λ a b. after_free a id ≡ Err refusals.Locked) (λ memory high. told.free_locked (heap_in s.table memory) id (object_in s.table.blocks memory id e) (there_at memory high) t))

    pub free_ok : {m : ArenaState} → nat_lt 0 e.locks ≡ false → Steps s m (λ a b. b ≡ after_release a id) → Steps s m (λ a b. after_free a id ≡ Ok b)
    free_ok {m} t p = said (λ a b. b ≡ after_release a id) (λ a b. after_free a id ≡ Ok b) p
        (λ memory high h. told.free_ok (heap_in s.table memory) id (object_in s.table.blocks memory id e) (there_at memory high) t ∙ ap Ok (sym h))

    pub unlock_fixed : is_fixed e.kind ≡ true → (s ≡ s) × Steps s s (λ a b. after_unlock a id ≡ Err refusals.Fixed)
    unlock_fixed t = (refl, still (λ a b. after_unlock a id ≡ Err refusals.Fixed) (λ memory high. told.unlock_fixed (heap_in s.table memory) id (object_in s.table.blocks memory id e) (there_at memory high) t))

    pub unlock_ok : {m : ArenaState} (locks : ℕ) → locks ≡ e.locks - 1 → is_fixed e.kind ≡ false → Steps s m (λ a b. IfSome (object_at a id) (λ o. b ≡ with_object a id (record o { locks = locks }))) → Steps s m (λ a b. after_unlock a id ≡ Ok b)
    unlock_ok {m} locks is t p = said (λ a b. IfSome (object_at a id) (λ o. b ≡ with_object a id (record o { locks = locks }))) (λ a b. after_unlock a id ≡ Ok b) p (λ memory high h.
        told.unlock_ok (heap_in s.table memory) id (object_in s.table.blocks memory id e) (there_at memory high) t
        ∙ ap Ok (sym (subst (λ p. IfSome p (λ (o : Object). heap_in m.table memory ≡ with_object (heap_in s.table memory) id (record o { locks = locks }))) (there_at memory high) h
        ∙ (λ i. with_object (heap_in s.table memory) id (record (object_in s.table.blocks memory id e) { locks = is i })))))

    pub discard_locked : nat_lt 0 e.locks ≡ true → (s ≡ s) × Steps s s (λ a b. after_discard a id ≡ Err refusals.Locked)
    discard_locked t = (refl, still (λ a b. after_discard a id ≡ Err refusals.Locked) (λ memory high. told.discard_locked (heap_in s.table memory) id (object_in s.table.blocks memory id e) (there_at memory high) t))

    pub discard_other : nat_lt 0 e.locks ≡ false → is_discardable e.kind ≡ false → (s ≡ s) × Steps s s (λ a b. after_discard a id ≡ Err refusals.NotDiscardable)
    discard_other t k = (refl, still (λ a b. after_discard a id ≡ Err refusals.NotDiscardable) (λ memory high. told.discard_other (heap_in s.table memory) id (object_in s.table.blocks memory id e) (there_at memory high) t k))

    pub discard_ok : {m : ArenaState} → nat_lt 0 e.locks ≡ false → is_discardable e.kind ≡ true → Steps s m (λ a b. b ≡ absent a id) → Steps s m (λ a b. after_discard a id ≡ Ok b)
    discard_ok {m} t k p = said (λ a b. b ≡ absent a id) (λ a b. after_discard a id ≡ Ok b) p
        (λ memory high h. told.discard_ok (heap_in s.table memory) id (object_in s.table.blocks memory id e) (there_at memory high) t k ∙ ap Ok (sym h))

    -- with bytes
    module _ (has : is_some (block_with s.table.blocks id) ≡ true) where
      has_bytes : (memory : List ℕ) → is_some (object_in s.table.blocks memory id e).bytes ≡ true
      has_bytes memory = from (block_with s.table.blocks id) has
        where
          from : (b : Option Block) → is_some b ≡ true → is_some (option_map (λ (x : Block). slice_range memory x.at (x.at + x.size)) b) ≡ true
          from None t = t
          from (Some x) t = refl

      pub lock_fixed : is_fixed e.kind ≡ true → (s ≡ s) × Steps s s (λ a b. after_lock a id ≡ Err refusals.Fixed)
      lock_fixed t = (refl, still (λ a b. after_lock a id ≡ Err refusals.Fixed) (λ memory high. told.lock_fixed (heap_in s.table memory) id (object_in s.table.blocks memory id e) (there_at memory high) (has_bytes memory) t))

      pub lock_full : is_fixed e.kind ≡ false → (e.locks == 255) ≡ true → (s ≡ s) × Steps s s (λ a b. after_lock a id ≡ Err refusals.LockFull)
      lock_full t l = (refl, still (λ a b. after_lock a id ≡ Err refusals.LockFull) (λ memory high. told.lock_full (heap_in s.table memory) id (object_in s.table.blocks memory id e) (there_at memory high) (has_bytes memory) t l))

      pub lock_ok : {m n : ArenaState} (locks : ℕ) → locks ≡ e.locks + 1 → is_fixed e.kind ≡ false → (e.locks == 255) ≡ false
          → Steps s m (λ a b. IfSome (object_at a id) (λ o. b ≡ with_object a id (record o { locks = locks }))) → Steps m n (λ a b. b ≡ after_touch a id) → Steps s n (λ a b. after_lock a id ≡ Ok b)
      lock_ok {m} {n} locks is t l p q = then (λ a b. IfSome (object_at a id) (λ o. b ≡ with_object a id (record o { locks = locks }))) (λ a b. b ≡ after_touch a id) (λ a b. after_lock a id ≡ Ok b) p q (λ memory high h k.
          told.lock_ok (heap_in s.table memory) id (object_in s.table.blocks memory id e) (there_at memory high) (has_bytes memory) t l
          ∙ ap Ok (sym (k ∙ ap (λ heap. after_touch heap id) (subst (λ p. IfSome p (λ (o : Object). heap_in m.table memory ≡ with_object (heap_in s.table memory) id (record o { locks = locks }))) (there_at memory high) h
          ∙ (λ i. with_object (heap_in s.table memory) id (record (object_in s.table.blocks memory id e) { locks = is i }))))))

      pub order_other : is_discardable e.kind ≡ false → Steps s s (λ a b. refused_order a id ≡ Some refusals.NotDiscardable)
      order_other t = still (λ a b. refused_order a id ≡ Some refusals.NotDiscardable) (λ memory high. told.order_other (heap_in s.table memory) id (object_in s.table.blocks memory id e) (there_at memory high) (has_bytes memory) t)

      pub order_ok : is_discardable e.kind ≡ true → Steps s s (λ a b. refused_order a id ≡ None)
      order_ok t = still (λ a b. refused_order a id ≡ None) (λ memory high. told.order_ok (heap_in s.table memory) id (object_in s.table.blocks memory id e) (there_at memory high) (has_bytes memory) t)
