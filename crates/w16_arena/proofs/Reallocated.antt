use Rattle.w16_arena.proofs
use proofs.Common as C
use proofs.Common.{◌≡◌, ℕ, ◌+◌, ◌-◌, ◌≤◌, Bool, true, false, not, ◌&&◌, ◌||◌, if◌then◌else◌, is_ok, IsSomeAnd, IfOk, OnErr, List, length, Option, Some, None, Result, Ok, Err, option_map, unwrap_or, sym, ap, ◌∙◌, subst, arith, counted, Block, Entry, RoomOptions, Heap, Object, bytes_at}
use proofs.Common.{Reallocates, Table, IsSound, block_with, entry_at, heap_in, Layout, HasDiscardedFor, Placed, NoRoom}
use proofs.{Written.counted_none, Lookups.holds_at, Sized.size_is, Sized.still_hold}

-- A reallocation by its cases: an object without bytes, and one with a block.

-- An object without bytes has no locks, so it gets bytes as a new one does.
module _ (t : Table) (sound : IsSound t) (memory : List ℕ) (inside : t.hi ≤ length memory) (id : ℕ) (e : Entry) (there : entry_at t id ≡ Some e) (none : block_with t.blocks id ≡ None) where
  abbrev h : Heap
  h = heap_in t memory

  abbrev absent : Object
  absent = record { kind = e.kind; locks = e.locks; bytes = None }

  absent_is : C.object_at h id ≡ Some absent
  absent_is = C.object_is t sound.table memory inside id ∙ ap (option_map (C.object_in t.blocks memory id)) there
      ∙ ap (λ (p : Option Block). let o : Object = record { kind = e.kind; locks = e.locks; bytes = option_map (λ (x : Block). C.slice_range memory x.at (x.at + x.size)) p } in Some o) none

  unlocked : e.locks ≡ 0
  unlocked =
      let counted : C.IsCountedBy (block_with t.blocks id) e = subst (λ p. C.IfSome p (C.IsCountedBy (block_with t.blocks id))) there (sound.counted id) in
      counted.2 none

  pub revived : (n : ℕ) (options : RoomOptions) (answered : Bool) (new : Heap) → C.Allocates h id n e.kind 0 options answered new → Reallocates h id n options answered new
  revived n options answered new a = record {
    some = a.some;
    rounded = a.rounded;
    object = subst (λ p. IsSomeAnd p (λ o. C.ReallocatesObject h id o n options answered new)) (sym absent_is) (subst (λ k. C.Allocates h id n e.kind k options answered new) (sym unlocked) a);
  }

  pub revived_discards : (n : ℕ) (options : RoomOptions) (ids : List ℕ) → C.HasDiscarded h id n options ids → HasDiscardedFor h id n options ids
  revived_discards n options ids d = record {
    prefix = d.prefix;
    needed = subst (λ p. IsSomeAnd p (λ o. C.reallocation_prefix h id o n options ≡ Some d.prefix)) (sym absent_is) d.needed;
    listed = d.listed;
  }

  pub no_size : unwrap_or (option_map (length {A = ℕ}) (bytes_at h id)) 0 ≡ 0
  no_size = ap (λ (p : Option Object). unwrap_or (option_map (length {A = ℕ}) (elim p as (λ _. Option (List ℕ)) [ Some o ↦ o.bytes | None ↦ None ])) 0) absent_is

-- what is written where nothing was moved
pub still_written : (r : Result Placed NoRoom) (before after k : ℕ) → IfOk r (λ p. p.moved ≡ 0) → IfOk r (λ _. after ≡ counted before k) → IfOk r (λ p. after ≡ counted (counted before p.moved) k)
still_written (Ok p) before after k none is = is ∙ ap (λ w. counted w k) (sym (counted_none before)) ∙ ap (λ m. counted (counted before m) k) (sym none)
still_written (Err e) before after k none is = tt

-- a size is told by the heap
pub size_written : (r : Result Placed NoRoom) (before after : ℕ) (zero : Bool) (n a b : ℕ) → a ≡ b → IfOk r (λ p. after ≡ counted (counted before p.moved) (if zero then n - a else 0)) → IfOk r (λ p. after ≡ counted (counted before p.moved) (if zero then n - b else 0))
size_written r before after zero n a b same is = subst (λ s. IfOk r (λ p. after ≡ counted (counted before p.moved) (if zero then n - s else 0))) same is

pub cut_written : (zero : Bool) (before after moved n s : ℕ) → moved ≡ 0 → after ≡ before → n ≤ s → after ≡ counted (counted before moved) (if zero then n - s else 0)
cut_written true before after moved n s none is le = omega arith
cut_written false before after moved n s none is le = omega arith

pub revived_listed : (t : Table) (sound : IsSound t) (memory : List ℕ) (inside : t.hi ≤ length memory) (id : ℕ) (e : Entry) (there : entry_at t id ≡ Some e) (none : block_with t.blocks id ≡ None) (n : ℕ) (options : RoomOptions) (ids : List ℕ) (r : Result Placed NoRoom)
    → IfOk r (λ _. C.HasDiscarded (heap_in t memory) id n options ids) → IfOk r (λ _. HasDiscardedFor (heap_in t memory) id n options ids)
revived_listed t sound memory inside id e there none n options ids (Ok p) d = revived_discards t sound memory inside id e there none n options ids d
revived_listed t sound memory inside id e there none n options ids (Err x) d = tt

-- a block that was found is its id's
pub found_known : (t : Table) (id : ℕ) (b : Block) → Some b ≡ block_with t.blocks id → (b.id ≡ id) × (block_with t.blocks b.id ≡ Some b)
found_known t id b is = let same = (C.member_with t.blocks id b (sym is)).1 in (same, ap (block_with _) same ∙ sym is)

pub size_told : (t : Table) → IsSound t → (memory : List ℕ) → t.hi ≤ length memory → (id : ℕ) (b : Block) → Some b ≡ block_with t.blocks id → unwrap_or (option_map (length {A = ℕ}) (bytes_at (heap_in t memory) id)) 0 ≡ b.size
size_told t sound memory inside id b is =
    let found = found_known t id b is in
    subst (λ q. unwrap_or (option_map (length {A = ℕ}) (bytes_at (heap_in t memory) q)) 0 ≡ b.size) found.0 (size_is t sound memory inside b found.1)

-- what a growth tells of an object, answered or refused
pub record IsTold (h new : Heap) (id n : ℕ) (options : RoomOptions) (ids : List ℕ) (r : Result Placed NoRoom) (Same : Type 0) : Type 0 where
  pub reallocated : Reallocates h id n options (is_ok r) new
  pub placed : IfOk r (λ p. C.IsPlaced h id n p new)
  pub listed : IfOk r (λ _. HasDiscardedFor h id n options ids)
  pub refused : OnErr r Same

-- it is told of its block
pub told_ok : {X : Type 0} (bytes : X → List ℕ) (x y : X) (old new : C.ArenaState) (id n : ℕ) (b : Block) (options : RoomOptions) → Some b ≡ block_with old.table.blocks id → (r : Result Placed NoRoom)
    → IfOk r (λ p. C.IsResized (heap_in old.table (bytes x)) b.id n options p new.discarded (heap_in new.table (bytes y))) → OnErr r (Reallocates (heap_in old.table (bytes x)) b.id n options false (heap_in old.table (bytes x)) × (new ≡ old) × (y ≡ x))
    → IsTold (heap_in old.table (bytes x)) (heap_in new.table (bytes y)) id n options new.discarded r ((new ≡ old) × (y ≡ x))
told_ok bytes x y old new id n b options is (Ok p) ok err =
    let got = subst (λ q. C.IsResized (heap_in old.table (bytes x)) q n options p new.discarded (heap_in new.table (bytes y))) (found_known old.table id b is).0 ok in
    record { reallocated = got.reallocated; placed = got.placed; listed = got.listed; refused = tt }
told_ok bytes x y old new id n b options is (Err e) ok err = record {
  reallocated = rw (err.1, err.2) (subst (λ q. Reallocates (heap_in old.table (bytes x)) q n options false (heap_in old.table (bytes x))) (found_known old.table id b is).0 err.0);
  placed = tt;
  listed = tt;
  refused = (err.1, err.2);
}

-- whether it may not move is told by its entry
pub held_by : (t : Table) → IsSound t → (id : ℕ) (e : Entry) → Some e ≡ entry_at t id → (b : Block) → Some b ≡ block_with t.blocks id → (options : RoomOptions) (v : Bool) → v ≡ ((C.is_fixed e.kind || C.nat_lt 0 e.locks) && not options.may_move) → (C.holds_still b.hold && not options.may_move) ≡ v
held_by t sound id e there b is options v told =
    let layout : Layout = record { cap = length t.entries; lo = t.lo; hi = t.hi; grain = t.grain; blocks = t.blocks } in
    let hold = subst (λ p. IsSomeAnd p (λ e. b.hold ≡ C.hold_of_entry e)) (sym there) (holds_at _ layout t.order sound id b (sym is)) in
    ap (λ p. p && not options.may_move) (ap C.holds_still hold ∙ still_hold _) ∙ sym told

-- what is written for one that has no bytes
pub revived_written : (r : Result Placed NoRoom) (before after : ℕ) (zero : Bool) (n s : ℕ) → s ≡ 0 → IfOk r (λ p. after ≡ counted (counted before p.moved) (if zero then n else 0)) → IfOk r (λ p. after ≡ counted (counted before p.moved) (if zero then n - s else 0))
revived_written r before after zero n s none is = let all : n ≡ n - s = omega arith in subst (λ k. IfOk r (λ p. after ≡ counted (counted before p.moved) (if zero then k else 0))) all is
