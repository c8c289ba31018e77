-- One local heap: its free entries, and steps that ask for no room.
use Rattle.w16_local.proofs
use proofs.Common as C
use proofs.Common.{◌≡◌, ℕ, ◌<◌, ◌≤◌, inl, inr, Bool, true, false, nat_le, if◌then◌else◌, IfErr, OnErr, OnOk, List, length, get_or, replicate, set, Option, Some, None, is_some, Result, Ok, Err, refl, sym, ap, ◌∙◌, subst, arith, position_or_len, false≢true, Entry, Kind, Refusal, Span, Heap, Table}
use proofs.Common.{entry_at, heap_in, ArenaState, Steps, sound, LOCAL_ENTRIES, LocalHeapInvariant, Turns}
use proofs.Entries.{HasSame, any_inside, any_memory, bit, put_here, put_others, same_free, set_free}
use Rattle.std.proofs.{lemmas.Bool.lt-ltb, lemmas.List.get_or-replicate}
use Rattle.w16_arena.proofs.Fresh.{no_entry}

-- A new heap.
pub kept_new : (range : Span) → 4 ≤ range.from → range.from < range.to → range.to ≤ 65536 → C.IsMultiple 4 range.from → LocalHeapInvariant (C.empty_table LOCAL_ENTRIES range.from range.to 4) (replicate 1024 1)
kept_new range low some high grained = record {
  is_local = record { sound = sound LOCAL_ENTRIES range.from range.to 4 (omega arith) grained; grain = refl; entries = C.length-replicate {A = Option Entry} LOCAL_ENTRIES None; low = low; high = high };
  free_entries = record { many = C.length-replicate {A = ℕ} 1024 1; says = λ q lt. get_or-replicate 1024 q 1 0 lt ∙ sym (ap (λ e. bit (is_some e)) (no_entry LOCAL_ENTRIES q)) };
}

-- Free entries.
free_if : (b : Bool) → nat_le 1 (bit b) ≡ true → b ≡ false
free_if true e = absurd (false≢true e)
free_if false e = refl

used_if : (b : Bool) → nat_le 1 (bit b) ≡ false → b ≡ true
used_if true e = refl
used_if false e = absurd (false≢true (sym e))

none_of : (p : Option Entry) → is_some p ≡ false → p ≡ None
none_of None e = refl
none_of (Some x) e = absurd (false≢true (sym e))

some_of : (p : Option Entry) → is_some p ≡ true → p ≡ None → ⊥
some_of None e n = false≢true e
some_of (Some x) e n = cc

module _ {t : Table} {free : List ℕ} (kept : LocalHeapInvariant t free) where
  many : length free ≡ 1024
  many = kept.free_entries.many

  used_at : (q : ℕ) → q < 1024 → nat_le 1 (get_or free q 0) ≡ false → entry_at t q ≡ None → ⊥
  used_at q lt below none = some_of (entry_at t q) (used_if (is_some (entry_at t q)) (ap (nat_le 1) (sym (kept.free_entries.says q lt)) ∙ below)) none

  pub lowest : (id : ℕ) → C.position (nat_le 1) free ≡ Some id → C.IsLowest t id
  lowest id e =
      let p : (id < length free) × (nat_le 1 (get_or free id 0) ≡ true) × ((k : ℕ) → k < id → nat_le 1 (get_or free k 0) ≡ false) = C.position-Some (nat_le 1) free id 0 e in
      let known : id < 1024 = (let m = many in let lt = p.0 in omega (arith, m, lt)) in
      record {
        known = known;
        free = none_of (entry_at t id) (free_if (is_some (entry_at t id)) (ap (nat_le 1) (sym (kept.free_entries.says id known)) ∙ p.1));
        lowest = λ q lt. used_at q (omega (arith, known, lt)) (p.2 q lt);
      }

  pub full : C.position (nat_le 1) free ≡ None → C.IsFull t
  full e q lt = used_at q lt (C.fails_before_first (nat_le 1) free q 0 (elim (C.cases_lt (position_or_len (nat_le 1) free) (length free)) [
    | inl less ↦ absurd (some (sym (ap (λ b. if b then Some (position_or_len (nat_le 1) free) else None) (lt-ltb (position_or_len (nat_le 1) free) (length free) less)) ∙ e))
    | inr not ↦ (let m = many in omega (arith, m, lt, not))
  ]))
    where
      some : {x : ℕ} → ◌≡◌ {A = Option ℕ} (Some x) None → ⊥
      some e = cc

-- Steps, as the heap's arena tells them.
module _ (a : ArenaState) {t : Table} (shown : a.table ≡ t) (b : ArenaState) where
  pub turns : {step : Heap → Heap → Type 0} → Steps a b step → Turns t b.table step
  turns {step} steps = subst (λ t. Turns t b.table step) shown (record { heaps = steps.heaps; range = steps.range })

  told : {X : Type 0} (after : Heap → Result Heap Refusal) (r : Result X Refusal) → OnOk r (Steps a b (λ x y. after x ≡ Ok y)) → IfErr r (λ e. (b ≡ a) × Steps a b (λ x y. after x ≡ Err e))
      → Steps a b (λ x y. after x ≡ C.outcome r y)
  told after (Ok done) ok err = ok
  told after (Err e) ok err = err.1

  pub turned : {X : Type 0} (after : Heap → Result Heap Refusal) (r : Result X Refusal) → OnOk r (Steps a b (λ x y. after x ≡ Ok y)) → IfErr r (λ e. (b ≡ a) × Steps a b (λ x y. after x ≡ Err e))
      → Turns t b.table (λ x y. after x ≡ C.outcome r y)
  turned after r ok err = turns (told after r ok err)

  pub still : {X : Type 0} (P : Refusal → Type 0) (r : Result X Refusal) → IfErr r (λ e. (b ≡ a) × P e) → OnErr r (b.table ≡ t)
  still P (Ok done) err = tt
  still P (Err e) err = ap (λ (s : ArenaState). s.table) err.0 ∙ shown

module _ (a : ArenaState) {free : List ℕ} (kept : LocalHeapInvariant a.table free) (b : ArenaState) where
  -- no object comes or goes
  pub kept_turned : {X : Type 0} (after : Heap → Result Heap Refusal) → ((old new : Heap) → after old ≡ Ok new → HasSame old new)
      → (r : Result X Refusal) → OnOk r (Steps a b (λ x y. after x ≡ Ok y)) → (P : Refusal → Type 0) → IfErr r (λ e. (b ≡ a) × P e) → LocalHeapInvariant b.table free
  kept_turned after same (Ok done) ok P err =
      same_free kept ok.range (any_memory a.table) (any_memory a.table) (any_inside a.table) refl (same (heap_in a.table (any_memory a.table)) (heap_in b.table (any_memory a.table)) (ok.heaps (any_memory a.table) (any_inside a.table)))
  kept_turned after same (Err e) ok P err = subst (λ (s : ArenaState). LocalHeapInvariant s.table free) (sym err.0) kept

  -- one comes
  pub kept_entered : (id : ℕ) (kind : Kind) → id < 1024 → Steps a b (λ x y. C.Enters x id kind y) → LocalHeapInvariant b.table (set free id 0)
  kept_entered id kind lt steps =
      let memory : List ℕ = any_memory a.table in
      let entered = steps.heaps memory (any_inside a.table) in
      let objects = ap (λ (h : Heap). h.objects) entered.entered in
      set_free kept steps.range memory memory (any_inside a.table) refl id true lt (put_here (heap_in a.table memory) id _ (heap_in b.table memory) objects) (put_others (heap_in a.table memory) id _ (heap_in b.table memory) objects)

-- a new object, as a step
pub enters_turn : {t s : Table} (id : ℕ) (kind : Kind) → Turns t s (λ x y. C.Enters x id kind y) → Turns t s (λ x y. ◌≡◌ {A = Result Heap Refusal} (Ok (C.with_object x id (record { kind = kind; locks = 0; bytes = None }))) (Ok y))
enters_turn id kind turns = record { heaps = λ bytes inside. ap Ok (sym (turns.heaps bytes inside).entered); range = turns.range }
