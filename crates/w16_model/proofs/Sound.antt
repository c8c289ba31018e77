-- The heap of a sound table is one.
use Rattle.w16_model.proofs
use proofs.Common as C
use proofs.Gaps as M
use Rattle.std.specs.List.{AllByRecursion as Each}
use proofs.Common.{◌≡◌, ◌≢◌, ℕ, ◌+◌, ◌*◌, ◌<◌, ◌≤◌, ◌⊎◌, inl, inr, ⊎_elim, IfSome, IsSomeAnd, List, Option, Some, None, option_map, is_some, slice_range, refl, sym, ap, ◌∙◌, subst, ◌-◌, All, drop, Block, Entry, Misses, block_end, Object, Table, heap_in, block_with, entry_at, hold_of_entry}
use proofs.Tables.{object_is, place_is, member_with, block_table}
use proofs.{Gaps.Each-at, Heaps.IsBlockOf, Heaps.member_block, Places.placed_from, Laid.laid_each, Laid.laid_placed}

module _ (t : Table) (is : C.IsSound t) (memory : List ℕ) (whole : t.hi ≤ C.length memory) (bytes : All (λ b. b < 256) memory) where
  abbrev object : ℕ → Option Entry → Option Object
  object id e = option_map (C.object_in t.blocks memory id) e

  -- a block has an entry
  held : (id : ℕ) (x : Block) → block_with t.blocks id ≡ Some x → IsSomeAnd (entry_at t id) (λ e. x.hold ≡ hold_of_entry e)
  held id x e = let m : M.Member x t.blocks × (x.id ≡ id) = member_with t.blocks id x e in
      subst (λ k. IsSomeAnd (entry_at t k) (λ e. x.hold ≡ hold_of_entry e)) m.1 (Each-at (λ x. IsSomeAnd (entry_at t x.id) (λ e. x.hold ≡ hold_of_entry e)) t.blocks (M.Each-from_All _ t.blocks is.table.holds) x m.0)

  apart : (x y : Block) → IsBlockOf (heap_in t memory) x → IsBlockOf (heap_in t memory) y → x ≢ y → Misses x.at x.size y.at (block_end y)
  apart x y b c d =
      elim (Each-at (λ z. (z ≡ y) ⊎ Misses z.at z.size y.at (block_end y)) t.blocks
      (Each-at (λ w. Each (λ z. (z ≡ w) ⊎ Misses z.at z.size w.at (block_end w)) t.blocks) t.blocks
      (M.each_two (λ x y. Misses x.at x.size y.at (block_end y)) (λ x y. ⊎_elim inr inl) t.blocks (M.EachPair-from_AllPairs _ t.blocks (laid_placed t.lo t.hi t.blocks is.table.laid).apart)) y (block_table t is.table memory whole y c)) x (block_table t is.table memory whole x b)) [
        | inl e ↦ absurd (d e)
        | inr f ↦ f
      ]

  same_bytes : (id : ℕ) (e : Option Entry) (b : Option Block) → entry_at t id ≡ e → block_with t.blocks id ≡ b
      → is_some (option_map (λ (x : Block). x.at) b) ≡ is_some (elim (option_map (λ (e : Entry). let o : Object = record { kind = e.kind; locks = e.locks; bytes = option_map (λ (x : Block). slice_range memory x.at (x.at + x.size)) b } in o) e) [ Some o ↦ o.bytes | None ↦ None ])
  same_bytes id (Some e) (Some x) p q = refl
  same_bytes id (Some e) None p q = refl
  same_bytes id None (Some x) p q = absurd (subst (λ o. IsSomeAnd o (λ e. x.hold ≡ hold_of_entry e)) p (held id x q))
  same_bytes id None None p q = refl

  same_order : (e : Option Entry) (b : Option Block) → C.is_listed e b ≡ C.is_in_order (option_map (λ (e : Entry). let o : Object = record { kind = e.kind; locks = e.locks; bytes = option_map (λ (x : Block). slice_range memory x.at (x.at + x.size)) b } in o) e)
  same_order (Some e) (Some x) = refl
  same_order (Some e) None = refl
  same_order None b = refl

  counted_in : (e : Option Entry) (b : Option Block) → IfSome e (C.IsCountedBy b)
      → IfSome (option_map (λ (e : Entry). let o : Object = record { kind = e.kind; locks = e.locks; bytes = option_map (λ (x : Block). slice_range memory x.at (x.at + x.size)) b } in o) e) C.IsCounted
  counted_in (Some e) (Some x) h = (h.0, h.1, λ none. cc)
  counted_in (Some e) None h = (h.0, h.1, λ none. h.2 refl)
  counted_in None b h = tt

  bytes_in : (e : Option Entry) (b : Option Block)
      → IfSome (elim (option_map (λ (e : Entry). let o : Object = record { kind = e.kind; locks = e.locks; bytes = option_map (λ (x : Block). slice_range memory x.at (x.at + x.size)) b } in o) e) [ Some o ↦ o.bytes | None ↦ None ]) (All (λ n. n < 256))
  bytes_in None b = tt
  bytes_in (Some e) None = tt
  bytes_in (Some e) (Some x) = C.All-take (λ n. n < 256) (x.at + x.size - x.at) (drop x.at memory) (C.All-drop (λ n. n < 256) x.at memory bytes)

  pub sound_heap : C.IsHeap (heap_in t memory)
  sound_heap = record {
    placed = placed_from (heap_in t memory) (λ x b. Each-at (λ x. (t.lo ≤ x.at) × (0 < x.size) × (block_end x ≤ t.hi)) t.blocks (laid_each t.lo t.hi t.blocks is.table.laid) x (block_table t is.table memory whole x b)) apart;
    grained = M.All-from_Each _ (C.blocks (heap_in t memory)) (M.Each-from (λ x. ((n : ℕ) × (x.at ≡ t.grain * n)) × ((n : ℕ) × (x.size ≡ t.grain * n))) (C.blocks (heap_in t memory)) (λ x m.
        Each-at (λ x. ((n : ℕ) × (x.at ≡ t.grain * n)) × ((n : ℕ) × (x.size ≡ t.grain * n))) t.blocks (M.Each-from_All _ t.blocks is.grained) x (block_table t is.table memory whole x (member_block (heap_in t memory) x m))));
    low_grained = is.low_grained;
    are_bytes = λ id. subst (λ (p : Option Object). IfSome (elim p [ Some o ↦ o.bytes | None ↦ None ]) (All (λ n. n < 256))) (sym (object_is t is.table memory whole id)) (bytes_in (entry_at t id) (block_with t.blocks id));
    at_bytes = λ id. ap is_some (place_is t is.table memory whole id) ∙ same_bytes id (entry_at t id) (block_with t.blocks id) refl refl ∙ ap (λ (p : Option Object). is_some (elim p [ Some o ↦ o.bytes | None ↦ None ])) (sym (object_is t is.table memory whole id));
    in_order = λ id. is.in_order id ∙ same_order (entry_at t id) (block_with t.blocks id) ∙ ap C.is_in_order (sym (object_is t is.table memory whole id));
    no_repeats = is.no_repeats;
    counted = λ id. subst (λ p. IfSome p C.IsCounted) (sym (object_is t is.table memory whole id)) (counted_in (entry_at t id) (block_with t.blocks id) (is.counted id));
  }

pub sound_law : C.SoundLaw
sound_law t memory is whole bytes = sound_heap t is _ whole bytes
