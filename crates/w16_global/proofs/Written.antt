-- The bytes at an address in an object, and the heap after some of them are replaced.
use Rattle.w16_global.proofs
use proofs.Common as C
use proofs.Common.{◌≡◌, ◌≢◌, ℕ, ◌+◌, ◌-◌, ◌<◌, ◌≤◌, inl, inr, List, [], ◌∷◌, ◌++◌, length, slice_range, take, drop, All, Option, Some, None, option_map, refl, sym, ap, ◌∙◌, subst, arith, drop-take, drop-drop, Block, Entry, Heap, object_at, bytes_at, after_write, Table, block_with}
use proofs.Common.{object_in, heap_in, Member, two, member_with, Span, part, put_part, IsUsed, ArenaState, holes_in, AreParts, Holding, HasPart, holding_of, object_here, ends_in_memory}
use Rattle.w16_arena.proofs.Parts as arena

-- a part of a range is one of the whole list
slice_of_range : (m : List ℕ) (p s at n : ℕ) → at + n ≤ s → part (slice_range m p (p + s)) at n ≡ take n (drop (p + at) m)
slice_of_range m p s at n le =
    let size : p + s - p ≡ at + (s - at) = omega arith in
    ap (λ k. take n (drop at (take k (drop p m)))) size ∙ ap (take n) (drop-take at _ _) ∙ C.take-take n (s - at) (drop at _) (omega arith) ∙ ap (take n) (drop-drop at p m)

-- n elements of a list with a part replaced
take_put : (xs : List ℕ) (at n : ℕ) (new : List ℕ) → at + length new ≤ n → n ≤ length xs → take n (put_part xs at new) ≡ put_part (take n xs) at new
take_put xs at n new le len =
    let k = length new in
    let r = n - (at + k) in
    let front = C.length-take-le at xs (omega arith) in
    let first : length (take at xs) + (k + r) ≡ n = omega arith in
    let whole : at + k + r ≡ n = omega arith in
    let left : take n (put_part xs at new) ≡ take at xs ++ (new ++ take r (drop k (drop at xs))) =
    ap (λ j. take j (put_part xs at new)) (sym first) ∙ C.take-append-add _ (new ++ drop k _) (k + r) ∙ ap (λ ys. take at xs ++ ys) (C.take-append-add new _ r) in
    let front_too = C.take-take at n xs (omega arith) in
    let behind : drop (at + k) (take n xs) ≡ take r (drop k (drop at xs)) =
    ap (λ j. drop (at + k) (take j xs)) (sym whole) ∙ drop-take (at + k) r xs ∙ ap (take r) (sym (drop-drop k at xs)) in
    left ∙ (λ i. sym front_too i ++ (new ++ sym (drop-drop k at _ ∙ behind) i))

-- what is behind a place before the part
drop_put : (m : List ℕ) (p at : ℕ) (new : List ℕ) → p + at ≤ length m → drop p (put_part m (p + at) new) ≡ put_part (drop p m) at new
drop_put m p at new le =
    let k = length new in
    let front = C.length-take-le _ m le in
    C.drop-append-le p _ _ (omega arith)
    ∙ (λ i. drop-take p at m i ++ (new ++ drop k (sym (drop-drop at p m) i)))

-- in a range around the part it is replaced too
slice_of_put_same : (m : List ℕ) (p s at : ℕ) (new : List ℕ) → at + length new ≤ s → p + s ≤ length m
    → slice_range (put_part m (p + at) new) p (p + s) ≡ put_part (slice_range m p (p + s)) at new
slice_of_put_same m p s at new le len =
    let behind = C.length-drop p m in
    ap (take _) (drop_put m p at new (omega arith)) ∙ take_put _ at _ new (omega arith) (omega arith)

-- the bytes at a block
abbrev bytes_of : List ℕ → Block → List ℕ
bytes_of memory x = slice_range memory x.at (x.at + x.size)

-- what an arena's lemmas know of the parts
abbrev pub layout_in : Table → C.Layout
layout_in t = record { cap = length t.entries; lo = t.lo; hi = t.hi; grain = t.grain; blocks = t.blocks }

pub beside : {state : ArenaState} {memory : List ℕ} → AreParts state memory → arena.AreParts state.table.entries (layout_in state.table) state.table.order memory
beside parts = record { sound = parts.sound; ids = refl; high = let e = parts.high in omega arith }

-- A write into the memory where no hole is leaves the parts sound.
parts_written : {state : ArenaState} {memory : List ℕ} → AreParts state memory → (at : ℕ) (new : List ℕ) → at + length new ≤ length memory → All (λ b. b < 256) new
    → IsUsed at (at + length new) (holes_in state.table) → AreParts state (put_part memory at new)
parts_written {state} {memory} parts at new le ours used = record {
  sound = parts.sound;
  low = parts.low;
  grain = parts.grain;
  high = parts.high ∙ sym (C.length-put_part _ at new le);
  bytes = C.All-put_part (λ b. b < 256) _ at new parts.bytes ours;
  kept = C.threaded_stay _ memory _ parts.kept (C.AreSameIn-put_part _ _ at new le used);
  few = parts.few;
}

-- a part of what meets no hole meets none
used_part : (a b c d : ℕ) (hs : List Span) → a ≤ c → d ≤ b → IsUsed a b hs → IsUsed c d hs
used_part a b c d [] from to used = tt
used_part a b c d (h ∷ hs) from to used = (elim used.0 [ inl before ↦ inl (omega arith) | inr behind ↦ inr (omega arith) ], used_part a b c d hs from to used.1)

module _ {state : ArenaState} {memory : List ℕ} (parts : AreParts state memory) (q : ℕ) where
  -- Of the value that the parts stand for, where an id has a block.
  module _ {count : ℕ} {h : Holding} (shown : holding_of state memory count ≡ h) {x : Block} (is : block_with state.table.blocks q ≡ Some x) where
    bytes_shown : bytes_at h.heap q ≡ Some (bytes_of memory x)
    bytes_shown = ap (λ (h : Holding). bytes_at h.heap q) (sym shown) ∙ C.bytes_here (beside parts) q ∙ ap (option_map (bytes_of memory)) is

    -- a part of its bytes lies in the block
    pub in_block : (at n : ℕ) → HasPart h.heap q at n → at + n ≤ x.size
    in_block at n has = subst (λ k. at + n ≤ k) (C.length_range memory x.at x.size (ends_in_memory (beside parts) q x is).1)
        (subst (λ (o : Option (List ℕ)). C.IsSomeAnd o (λ bytes. at + n ≤ length bytes)) bytes_shown has)

    -- and in the memory
    pub in_memory : (at n : ℕ) → HasPart h.heap q at n → x.at + at + n ≤ length memory
    in_memory at n has = let end = (ends_in_memory (beside parts) q x is).1 in let within = in_block at n has in omega (arith, end, within)

    -- what the memory has there is what the object has
    pub seen : (at n : ℕ) → HasPart h.heap q at n → take n (drop (x.at + at) memory) ≡ part (C.unwrap_or (bytes_at h.heap q) []) at n
    seen at n has = sym (slice_of_range memory x.at x.size at n (in_block at n has)) ∙ sym (ap (λ (o : Option (List ℕ)). part (C.unwrap_or o []) at n) bytes_shown)

  -- without a block there is no part
  pub no_part : {count : ℕ} {h : Holding} (shown : holding_of state memory count ≡ h) → block_with state.table.blocks q ≡ None → (at n : ℕ) → HasPart h.heap q at n → ⊥
  no_part {h = h} shown none at n has = subst (λ (o : Option (List ℕ)). C.IsSomeAnd o (λ bytes. at + n ≤ length bytes))
      (ap (λ (h : Holding). bytes_at h.heap q) (sym shown) ∙ C.bytes_here (beside parts) q ∙ ap (option_map (bytes_of memory)) none) has

  -- What a write inside an id's block leaves.
  module _ {x : Block} (is : block_with state.table.blocks q ≡ Some x) (at : ℕ) (new : List ℕ) (from : x.at ≤ at) (to : at + length new ≤ x.at + x.size) (ours : All (λ b. b < 256) new) where
    room : at + length new ≤ length memory
    room = let end = (ends_in_memory (beside parts) q x is).1 in omega arith

    -- it meets no hole
    used : IsUsed at (at + length new) (holes_in state.table)
    used =
        let t : Table = state.table in
        let mine : Member x t.blocks × (x.id ≡ q) = member_with t.blocks q x is in
        used_part x.at (C.block_end x) at (at + length new) (holes_in t) from to
        (C.Each-at (λ c. IsUsed c.at (C.block_end c) (holes_in t)) t.blocks (C.used_each t.lo t.hi t.blocks parts.sound.table.laid) x mine.0)

    pub parts_after_write : AreParts state (put_part memory at new)
    parts_after_write = parts_written parts at new room ours used

    -- each other id has the bytes that it had
    others_keep : (r : ℕ) → r ≢ q → (b : Option Block) → block_with state.table.blocks r ≡ b → option_map (bytes_of (put_part memory at new)) b ≡ option_map (bytes_of memory) b
    others_keep r other None e = refl
    others_keep r other (Some y) e =
        let mine : Member x state.table.blocks × (x.id ≡ q) = member_with state.table.blocks q x is in
        let theirs : Member y state.table.blocks × (y.id ≡ r) = member_with state.table.blocks r y e in
        elim (two state.table.lo state.table.hi state.table.blocks (C.laid_placed state.table.lo state.table.hi state.table.blocks parts.sound.table.laid) y x theirs.0 mine.0) [
          | inl same ↦ absurd (other (sym theirs.1 ∙ ap (λ (z : Block). z.id) same ∙ mine.1))
          | inr (inl below) ↦ ap Some (C.range_apart memory at new y.at y.size room (inl (omega (arith, below))))
          | inr (inr above) ↦ ap Some (C.range_apart memory at new y.at y.size room (inr (omega (arith, above))))
        ]

    -- the id has those that it had, with the new ones in their place
    own_written : option_map (bytes_of (put_part memory at new)) (block_with state.table.blocks q) ≡ option_map (λ bytes. put_part bytes (at - x.at) new) (option_map (bytes_of memory) (block_with state.table.blocks q))
    own_written =
        let there : x.at + (at - x.at) ≡ at = omega arith in
        let end = (ends_in_memory (beside parts) q x is).1 in
        ap (option_map (bytes_of (put_part memory at new))) is
        ∙ ap (λ k. Some (bytes_of (put_part memory k new) x)) (sym there)
        ∙ ap Some (slice_of_put_same memory x.at x.size (at - x.at) new (omega arith) end)
        ∙ sym (ap (λ b. option_map (λ bytes. put_part bytes (at - x.at) new) (option_map (bytes_of memory) b)) is)

    -- the heaps before and after it, and the object that it makes of one
    abbrev before : Heap
    before = heap_in state.table memory

    abbrev after : Heap
    after = heap_in state.table (put_part memory at new)

    abbrev written : C.Object → C.Object
    written o = record o { bytes = option_map (λ bytes. put_part bytes (at - x.at) new) o.bytes }

    -- so its object is the written one, and the others stay
    objects_written : (r : ℕ) → object_at after r ≡ object_at (after_write before q (at - x.at) new) r
    objects_written r = elim (C.cases_eq r q) [
      | inl same ↦ subst (λ k. object_at after k ≡ object_at (after_write before q (at - x.at) new) k) (sym same)
          (object_here (beside parts_after_write) q ∙ here (C.get_or state.table.entries q None)
          ∙ sym (C.get-update_same before.objects q written ∙ ap (option_map written) (object_here (beside parts) q)))
      | inr other ↦ object_here (beside parts_after_write) r ∙ there other (C.get_or state.table.entries r None)
          ∙ sym (C.get-update_other before.objects q written r other ∙ object_here (beside parts) r)
    ]
      where
        here : (e : Option Entry) → option_map (object_in state.table.blocks (put_part memory at new) q) e ≡ option_map written (option_map (object_in state.table.blocks memory q) e)
        here None = refl
        here (Some e) = λ i. Some (record { kind = e.kind; locks = e.locks; bytes = own_written i })

        there : r ≢ q → (e : Option Entry) → option_map (object_in state.table.blocks (put_part memory at new) r) e ≡ option_map (object_in state.table.blocks memory r) e
        there other None = refl
        there other (Some e) = λ i. Some (record { kind = e.kind; locks = e.locks; bytes = others_keep r other (block_with state.table.blocks r) refl i })

    pub heap_written : after ≡ after_write before q (at - x.at) new
    heap_written = C.same_heap after (after_write before q (at - x.at) new) refl refl refl refl objects_written (λ r. refl)

  -- the value is the one after the write
  pub holding_written : {count : ℕ} {h : Holding} (shown : holding_of state memory count ≡ h) {x : Block} (is : block_with state.table.blocks q ≡ Some x) (at : ℕ) (new : List ℕ) → HasPart h.heap q at (length new) → All (λ b. b < 256) new
      → (more : ℕ → ℕ) → holding_of state (put_part memory (x.at + at) new) (more count) ≡ record h { heap = after_write h.heap q at new; written = more h.written }
  holding_written {count} {h} shown {x} is at new has ours more =
      let within = in_block shown is at (length new) has in
      let there : x.at + at - x.at ≡ at = omega arith in
      (λ i. record { cap = length state.table.entries; heap = (heap_written is (x.at + at) new (omega arith) (omega (arith, within)) ours ∙ ap (λ k. after_write (heap_in state.table memory) q k new) there) i; discarded = state.discarded; written = more count })
      ∙ ap (λ (h : Holding). record h { heap = after_write h.heap q at new; written = more h.written }) shown

  -- and the parts are sound
  pub parts_filled : {count : ℕ} {h : Holding} (shown : holding_of state memory count ≡ h) {x : Block} (is : block_with state.table.blocks q ≡ Some x) (at : ℕ) (new : List ℕ) → HasPart h.heap q at (length new) → All (λ b. b < 256) new
      → AreParts state (put_part memory (x.at + at) new)
  parts_filled shown {x} is at new has ours = let within = in_block shown is at (length new) has in parts_after_write is (x.at + at) new (omega arith) (omega (arith, within)) ours
