-- One act on one local heap over bytes.
use Rattle.w16_local.proofs
use proofs.Common as C
use proofs.Entries as M
use proofs.Common.{◌≡◌, ℕ, ◌+◌, ◌*◌, ◌<◌, ◌≤◌, ◌⊎◌, ◌==◌, inl, inr, Bool, true, false, if◌then◌else◌, IfOk, IsSome, OnErr, is_err, List, [], ◌∷◌, length, zero, suc, set, All, Option, Some, None, unwrap_or, is_ok, is_some, Result, Ok, Err, refl, sym, ap, ◌∙◌, subst, arith, false≢true}
use proofs.Common.{Block, Kind, RoomOptions, Heap, Object, IsHeap, object_at, Allocates, Compacts, IsNew, Reallocates, Table, IsSameOutside, heap_in, asked, counted, Placed, IsPlaced, IsSameRange, name_at, ByteOp, Alloc, Compact, Free, Realloc, Acted, Done, Idle, LocalHeapInvariant}
use proofs.Alike.{same_table}
use proofs.Entries.{HasSame, is_local, kept_others, same_free}
use Rattle.std.specs.FinMap as finmap

-- an object that stands somewhere has a name
pub named_placed : (heap : Heap) → IsHeap heap → (id at : ℕ) → finmap.get heap.places id ≡ Some at → (r : Option ℕ) → name_at heap id ≡ r → name_at heap id ≡ Some (unwrap_or r 0)
named_placed heap is id at placed (Some n) e = e
named_placed heap is id at placed None e = absurd (turn (object_at heap id) refl e)
  where
    by_kind : (b : Bool) (o : Object) → (if b then finmap.get heap.places id else Some (4 * id + 2)) ≡ None → ⊥
    by_kind true o e = let both = sym placed ∙ e in cc
    by_kind false o e = cc

    turn : (p : Option Object) → object_at heap id ≡ p → (elim p as (λ _. Option ℕ) [ None ↦ None | Some o ↦ C.name_of heap id o ]) ≡ None → ⊥
    turn None there e = false≢true (sym (ap (λ p. is_some (elim p as (λ _. Option (List ℕ)) [ Some o ↦ o.bytes | None ↦ None ])) there) ∙ sym (is.at_bytes id) ∙ ap is_some placed)
    turn (Some o) there e = by_kind (C.is_fixed o.kind) o e

-- and is there
there_placed : (heap : Heap) → IsHeap heap → (id at : ℕ) → finmap.get heap.places id ≡ Some at → is_some (object_at heap id) ≡ true
there_placed heap is id at placed = turn (object_at heap id) (sym (is.at_bytes id) ∙ ap is_some placed)
  where
    turn : (p : Option Object) → is_some (elim p as (λ _. Option (List ℕ)) [ Some o ↦ o.bytes | None ↦ None ]) ≡ true → is_some p ≡ true
    turn None e = absurd (false≢true e)
    turn (Some o) e = refl

some_at : {X : Type 0} (P : X → Type 0) (p : Option X) → C.IsSomeAnd p P → is_some p ≡ true
some_at P None h = absurd h
some_at P (Some x) h = refl

-- a result that isn't an error is answered, and one that is, isn't
pub answered : {X E : Type 0} (r : Result X E) → is_err r ≡ false → is_ok r ≡ true
answered (Ok x) e = refl
answered (Err x) e = absurd (false≢true (sym e))

pub refused : {X E : Type 0} (r : Result X E) → is_err r ≡ true → is_ok r ≡ false
refused (Ok x) e = absurd (false≢true e)
refused (Err x) e = refl

pub on_err : {X E : Type 0} (r : Result X E) (P : Type 0) → is_err r ≡ true → OnErr r P → P
on_err (Ok x) P e h = absurd (false≢true e)
on_err (Err x) P e h = h

pub if_ok : {X E : Type 0} (r : Result X E) (P : X → Type 0) → is_err r ≡ false → IfOk r P → (x : X) × P x
if_ok (Ok x) P e h = (x, h)
if_ok (Err x) P e h = absurd (false≢true (sym e))

-- what an answered request writes
pub writes_ok : {E : Type 0} (r : Result Placed E) (old new : Heap) (id n before after zeros : ℕ) → is_err r ≡ false → IfOk r (λ p. IsPlaced old id n p new) → IfOk r (λ p. after ≡ counted (counted before p.moved) zeros)
    → after ≡ counted (counted before (C.moved_bytes old new)) zeros
writes_ok (Ok p) old new id n before after zeros e placed written = written ∙ ap (λ m. counted (counted before m) zeros) placed.moved
writes_ok (Err x) old new id n before after zeros e placed written = absurd (false≢true (sym e))

-- a compaction for 0 bytes, or for some
pub compacted : (n answer : ℕ) (old new : Heap) → Compacts old n answer new → ((n ≡ 0) × (answer ≡ C.most_room old) × (new ≡ old)) ⊎ ((0 < n) × C.MakesRoom old n answer new)
compacted n answer old new c = elim (C.cases_lt 0 n) [
  | inl some ↦ inr (some, rw (C.ne_eqb n 0 (λ e. absurd (omega (arith, e, some)))) at c)
  | inr none ↦ let zero : n ≡ 0 = omega (arith, none) in let idle = rw (C.eq-eqb n 0 zero) at c in inl (zero, idle.0, idle.1)
]

-- what it answers lies in the range
longest_bound : (lo hi : ℕ) (xs : List Block) (n : ℕ) → C.IsLongestStretch lo hi xs n → 0 < n → lo + n ≤ hi
longest_bound lo hi xs n is some = let s = is.one_as_long some in let above = s.4.clear.above in let below = s.4.clear.below in let long = s.5 in omega (arith, above, below, long)

pub compact_bound : (old new : Heap) (n answer : ℕ) → C.CompactsFewest old n answer new → 0 < answer → old.lo + answer ≤ old.hi
compact_bound old new n answer = turn (n == 0)
  where
    turn : (b : Bool) → C.MatchBool b (C.IsMostAfter old (C.eligible_count old) answer × (new ≡ old)) (C.MakesMost old n answer new) → 0 < answer → old.lo + answer ≤ old.hi
    turn true c some = longest_bound old.lo old.hi _ answer c.0 some
    turn false c some = longest_bound old.lo old.hi _ answer c.most some

-- The heap before.
module _ {t : Table} {free : List ℕ} (kept : LocalHeapInvariant t free) (bytes : List ℕ) (inside : t.hi ≤ length bytes) where
  parts : C.AreParts t.entries (record { cap = length t.entries; lo = t.lo; hi = t.hi; grain = t.grain; blocks = t.blocks }) t.order bytes
  parts = record { sound = kept.is_local.sound; ids = refl; high = inside }

  pub known : (id : ℕ) → id < 1024 → id < length t.entries
  known id lt = let many : length t.entries ≡ 1024 = kept.is_local.entries in omega (arith, many, lt)

  pub grained : (size : ℕ) → C.IsMultiple 4 size → C.IsMultiple t.grain size
  grained size m = rw kept.is_local.grain m

  pub absent : (id : ℕ) → object_at (heap_in t bytes) id ≡ None → C.block_with t.blocks id ≡ None
  absent id none = C.no_block parts id (C.no_entry parts id none)

  pub has_entry : (id : ℕ) → IsSome (object_at (heap_in t bytes) id) → IsSome (C.entry_at t id)
  has_entry id some = sym (ap is_some (C.entry_is parts id)) ∙ M.mapped C.entry_of (object_at (heap_in t bytes) id) ∙ some

  -- an entry that has an object is one
  pub entry_lt : (id : ℕ) → IsSome (object_at (heap_in t bytes) id) → id < 1024
  entry_lt id some = within t.entries id (has_entry id some) kept.is_local.entries
    where
      within : {X : Type 0} (xs : List (Option X)) (id : ℕ) → IsSome (C.get_or xs id None) → length xs ≡ 1024 → id < 1024
      within xs id some many = let lt = inner xs id some in omega (arith, lt, many)
        where
          inner : {X : Type 0} (xs : List (Option X)) (id : ℕ) → IsSome (C.get_or xs id None) → id < length xs
          inner [] id h = absurd (false≢true h)
          inner (x ∷ xs) zero h = omega arith
          inner (x ∷ xs) (suc id) h = let lt : id < length xs = inner xs id h in omega arith

  -- What giving bytes up leaves of the free entries.
  module _ {s : Table} (range : IsSameRange t s) where
    pub discard_kept : (id : ℕ) → C.after_discard (heap_in t bytes) id ≡ Ok (heap_in s bytes) → LocalHeapInvariant s free
    discard_kept id e = same_free kept range bytes bytes inside refl (M.discarded (heap_in t bytes) (heap_in s bytes) id e)

    pub free_kept : (id : ℕ) → IsSome (object_at (heap_in t bytes) id) → C.after_free (heap_in t bytes) id ≡ Ok (heap_in s bytes) → LocalHeapInvariant s (set free id 1)
    free_kept id some e = turn (object_at (heap_in t bytes) id) refl some
      where
        turn : (p : Option Object) → object_at (heap_in t bytes) id ≡ p → IsSome p → LocalHeapInvariant s (set free id 1)
        turn None there h = absurd (false≢true h)
        turn (Some o) there h =
            let gone : C.removed (heap_in t bytes) id ≡ heap_in s bytes = M.free_gone (heap_in t bytes) id o there (heap_in s bytes) e in
            M.set_free kept range bytes bytes inside refl id false (entry_lt id some) (ap (λ (h : Heap). is_some (object_at h id)) (sym gone) ∙ M.removed_here (heap_in t bytes) id)
            (λ q d. ap (λ (h : Heap). is_some (object_at h q)) (sym gone) ∙ M.removed_others (heap_in t bytes) id q d)

  module _ (all : All (λ b. b < 256) bytes) where
    heap_is : IsHeap (heap_in t bytes)
    heap_is = C.sound_heap t kept.is_local.sound bytes inside all

    -- The heap after.
    module _ {s : Table} (range : IsSameRange t s) (after : List ℕ) (long : length after ≡ length bytes) where
      pub inside_after : s.hi ≤ length after
      inside_after = let hi = range.hi in omega (arith, inside, long, hi)

      other : {x y : ℕ} → ◌≡◌ {A = Option ℕ} (Some x) (Some y) → y ≡ x
      other e = cc

      allocated_others : (id n : ℕ) (kind : Kind) (options : RoomOptions) → Allocates (heap_in t bytes) id n kind 0 options true (heap_in s after) → M.HasOthers id (heap_in t bytes) (heap_in s after)
      allocated_others id n kind options a q d =
          let r = asked (heap_in t bytes) id (record { options = options; prefix = C.discards_needed (heap_in t bytes) n (Some id) options; becomes = IsNew options.zero n kind 0; order = C.with_newest id }) (heap_in s after) a.request in
          kept_others (heap_in t bytes) (heap_in s after) (Some id) r.0 ((C.others_law (heap_in t bytes) (heap_in s after) heap_is r.0).0 id options r.2.0 (C.with_newest id r.2.0) r.2.2) q (λ e. d (other e))

      reallocated_same : (id n : ℕ) (options : RoomOptions) → Reallocates (heap_in t bytes) id n options true (heap_in s after) → HasSame (heap_in t bytes) (heap_in s after)
      reallocated_same id n options a = turn (object_at (heap_in t bytes) id) refl (C.rest_law (heap_in t bytes) (heap_in s after) id n options heap_is a)
        where
          turn : (p : Option Object) → object_at (heap_in t bytes) id ≡ p → C.IsSomeAnd p (λ o. C.KeepsRest (heap_in t bytes) id n o options (heap_in s after)) → HasSame (heap_in t bytes) (heap_in s after)
          turn None there h = absurd h
          turn (Some o) there h = λ q. elim (C.cases_eq q id) [
            | inl e ↦ ap (λ k. is_some (object_at (heap_in s after) k)) e ∙ some_at _ (object_at (heap_in s after) id) h.object ∙ sym (ap (λ k. is_some (object_at (heap_in t bytes) k)) e ∙ ap is_some there)
            | inr d ↦ kept_others (heap_in t bytes) (heap_in s after) (Some id) h.count h.others q (λ e. d (other e))
          ]

      compacted_same : (n answer : ℕ) → C.MakesRoom (heap_in t bytes) n answer (heap_in s after) → HasSame (heap_in t bytes) (heap_in s after)
      compacted_same n answer a q =
          kept_others (heap_in t bytes) (heap_in s after) None (C.compaction_prefix (heap_in t bytes) n) ((C.others_law (heap_in t bytes) (heap_in s after) heap_is (C.compaction_prefix (heap_in t bytes) n)).1 a.settled) q (λ e. never e)
        where
          never : {x : ℕ} → ◌≡◌ {A = Option ℕ} None (Some x) → ⊥
          never e = cc

      pub over_after : All (λ b. b < 256) after → C.IsOver s after
      over_after are = record { is_local = is_local kept range; inside = inside_after; are_bytes = are }

      pub heap_after : All (λ b. b < 256) after → IsHeap (heap_in s after)
      heap_after are = C.sound_heap s range.sound after inside_after are

      -- What each act leaves of the free entries.
      pub alloc_kept : {E : Type 0} (r : Result Placed E) → is_err r ≡ false → (id n : ℕ) (kind : Kind) (options : RoomOptions) → id < 1024 → Allocates (heap_in t bytes) id n kind 0 options (is_ok r) (heap_in s after)
          → IfOk r (λ p. IsPlaced (heap_in t bytes) id n p (heap_in s after)) → All (λ b. b < 256) after → LocalHeapInvariant s (set free id 0)
      alloc_kept r is id n kind options lt a placed are =
          let p = if_ok r (λ p. IsPlaced (heap_in t bytes) id n p (heap_in s after)) is placed in
          M.set_free kept range bytes after inside long id true lt (there_placed (heap_in s after) (heap_after are) id p.0.at p.1.place)
          (allocated_others id n kind options (rw (answered r is) at a))

      pub realloc_kept : {X E : Type 0} (r : Result X E) → is_err r ≡ false → (id n : ℕ) (options : RoomOptions) → Reallocates (heap_in t bytes) id n options (is_ok r) (heap_in s after) → LocalHeapInvariant s free
      realloc_kept r is id n options a = same_free kept range bytes after inside long (reallocated_same id n options (rw (answered r is) at a))

      pub compact_kept : (n answer : ℕ) → Compacts (heap_in t bytes) n answer (heap_in s after) → LocalHeapInvariant s free
      compact_kept n answer c = same_free kept range bytes after inside long (elim (compacted n answer (heap_in t bytes) (heap_in s after) c) [
        | inl idle ↦ (λ q. ap (λ (h : Heap). is_some (object_at h q)) idle.2)
        | inr roomed ↦ compacted_same n answer roomed.1
      ])

-- What an act leaves, in words of the heap's value.
module _ {t v : Table} (shown : t ≡ v) (bytes : List ℕ) where
  pub may_shown : (act : ByteOp) → C.MayActOver act v bytes → C.MayActOver act t bytes
  may_shown act may = rw shown may

  module _ (s : Table) (after : List ℕ) (range : IsSameRange t s) (outside : IsSameOutside t.lo t.hi bytes after) where
    acted : (act : ByteOp) (answer : ℕ) → Done act (heap_in t bytes) answer (heap_in s after) → Acted act v bytes answer s after
    acted act answer done = rw (← shown) (record { range = range; outside = outside; act_is = inr done })

    idle : (act : ByteOp) (answer : ℕ) → Idle act (heap_in t bytes) answer → s ≡ t → after ≡ bytes → Acted act v bytes answer s after
    idle act answer is same still = rw (← shown) (record { range = range; outside = outside; act_is = inl (is, same, still) })

    -- Requests that are refused.
    module _ {X E : Type 0} (r : Result X E) (is : is_err r ≡ true) (same : s ≡ t) (still : after ≡ bytes) where
      again : heap_in s after ≡ heap_in t bytes
      again i = heap_in (same i) (still i)

      pub alloc_idle : (id n : ℕ) (kind : Kind) (options : RoomOptions) → Allocates (heap_in t bytes) id n kind 0 options (is_ok r) (heap_in s after) → Acted (Alloc id n kind options) v bytes 0 s after
      alloc_idle id n kind options a = idle (Alloc id n kind options) 0 (subst (Allocates (heap_in t bytes) id n kind 0 options false) again (rw (refused r is) at a), refl) same still

      pub realloc_idle : (id n : ℕ) (options : RoomOptions) → Reallocates (heap_in t bytes) id n options (is_ok r) (heap_in s after) → Acted (Realloc id n options) v bytes 0 s after
      realloc_idle id n options a = idle (Realloc id n options) 0 (subst (Reallocates (heap_in t bytes) id n options false) again (rw (refused r is) at a), refl) same still

    -- Requests that are answered: the object has the name that is looked up, for it stands somewhere.
    module _ {E : Type 0} (r : Result Placed E) (is : is_err r ≡ false) (heap : IsHeap (heap_in s after)) (id n : ℕ) (placed : IfOk r (λ p. IsPlaced (heap_in t bytes) id n p (heap_in s after))) (name : Option ℕ) (named : name_at (heap_in s after) id ≡ name) where
      its_name : name_at (heap_in s after) id ≡ Some (unwrap_or name 0)
      its_name = let p = if_ok r (λ p. IsPlaced (heap_in t bytes) id n p (heap_in s after)) is placed in named_placed (heap_in s after) heap id p.0.at p.1.place name named

      pub alloc_done : (kind : Kind) (options : RoomOptions) → Allocates (heap_in t bytes) id n kind 0 options (is_ok r) (heap_in s after) → Acted (Alloc id n kind options) v bytes (unwrap_or name 0) s after
      alloc_done kind options a = acted (Alloc id n kind options) (unwrap_or name 0) (rw (answered r is) at a, its_name)

      pub realloc_done : (options : RoomOptions) → Reallocates (heap_in t bytes) id n options (is_ok r) (heap_in s after) → Acted (Realloc id n options) v bytes (unwrap_or name 0) s after
      realloc_done options a = acted (Realloc id n options) (unwrap_or name 0) (rw (answered r is) at a, its_name)

    -- A compaction; for 0 bytes the table is the same, as the heap is.
    pub compact_acted : C.IsSound t → t.hi ≤ length bytes → (n answer : ℕ) → Compacts (heap_in t bytes) n answer (heap_in s after) → (n ≡ 0 → after ≡ bytes) → Acted (Compact n) v bytes answer s after
    compact_acted sound inside n answer c still = elim (compacted n answer (heap_in t bytes) (heap_in s after) c) [
      | inl same ↦ idle (Compact n) answer (same.0, same.1) (same_table t s sound range bytes inside (ap (heap_in s) (sym (still same.0)) ∙ same.2)) (still same.0)
      | inr roomed ↦ acted (Compact n) answer (roomed.0, roomed.1)
    ]

  -- an object gives up its bytes, or goes; those of each other are the same
  module _ (s : Table) (after : List ℕ) (range : IsSameRange t s) (outside : IsSameOutside s.lo s.hi bytes after) (same : C.contents after s.blocks ≡ C.contents bytes s.blocks) where
    kept_outside : IsSameOutside t.lo t.hi bytes after
    kept_outside = subst (λ (p : ℕ × ℕ). IsSameOutside p.0 p.1 bytes after) (λ i. (range.lo i, range.hi i)) outside

    pub discard_done : (id : ℕ) → C.after_discard (heap_in t bytes) id ≡ Ok (heap_in s bytes) → Acted (C.Discard id) v bytes 0 s after
    discard_done id e = acted s after range kept_outside (C.Discard id) 0 (e ∙ ap Ok (sym (C.heap_kept bytes after s same)))

    pub free_done : (id : ℕ) → C.after_free (heap_in t bytes) id ≡ Ok (heap_in s bytes) → Acted (Free id) v bytes 0 s after
    free_done id e = acted s after range kept_outside (Free id) 0 (e ∙ ap Ok (sym (C.heap_kept bytes after s same)))
