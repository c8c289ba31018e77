-- What the heap of the parts has at an id, and when it is another heap.
use Rattle.w16_arena.proofs
use proofs.Common as C
use proofs.Common.{◌≡◌, ◌≢◌, ℕ, zero, suc, ◌+◌, ◌<◌, ◌≤◌, IsSomeAnd, List, [], ◌∷◌, length, get_or, slice_range, All, Option, Some, None, option_map, refl, sym, ap, ◌∙◌, subst, arith, Block, Entry, Heap, object_at, IsMultiple, IsSound, block_with, object_in, hold_of_entry, Layout}
use proofs.Common.{table_of, heap_of, entry_of}
use proofs.Parts.{AreParts}
use Rattle.std.specs.FinMap as finmap

-- a place with an entry is in the list
pub in_list : (entries : List (Option Entry)) (id : ℕ) (e : Entry) → get_or entries id None ≡ Some e → id < length entries
in_list [] id e h = cc
in_list (d ∷ es) zero e h = omega arith
in_list (d ∷ es) (suc id) e h = let rest = in_list es id e h in omega arith

-- past the end there is none
pub past_end : (entries : List (Option Entry)) (q : ℕ) → length entries ≤ q → get_or entries q None ≡ None
past_end [] q le = refl
past_end (e ∷ es) zero le = absurd (omega arith)
past_end (e ∷ es) (suc q) le = past_end es q (omega arith)

-- Two heaps with the same at each id are one.
pub same_heap : (g h : Heap) → g.lo ≡ h.lo → g.hi ≡ h.hi → g.grain ≡ h.grain → g.order ≡ h.order
    → ((q : ℕ) → object_at g q ≡ object_at h q) → ((q : ℕ) → finmap.get g.places q ≡ finmap.get h.places q) → g ≡ h
same_heap g h lo hi grain order objects places =
    let o = C.same_map C.nat_cmp_total C.nat_cmp-IsAntisymmetric _ _ objects in
    let p = C.same_map C.nat_cmp_total C.nat_cmp-IsAntisymmetric _ _ places in
    λ i. record { lo = lo i; hi = hi i; grain = grain i; objects = o i; places = p i; order = order i }

-- A table is sound by what it has at each id.
pub named_pairs : (cap : ℕ) (bs : List Block) → C.AreNamed cap bs → C.EachPair (λ x y. x.id ≡ y.id → ⊥) bs
named_pairs cap [] named = tt
named_pairs cap (b ∷ bs) named = (turned b bs named.1, named_pairs cap bs named.2)
  where
    turned : (b : Block) (cs : List Block) → C.AllByRecursion (λ c. c.id ≢ b.id) cs → C.AllByRecursion (λ c. b.id ≡ c.id → ⊥) cs
    turned b [] all = tt
    turned b (c ∷ cs) all = ((λ e. all.0 (sym e)), turned b cs all.1)

-- how the blocks of a layout lie, whatever their entries
pub record IsArranged (layout : Layout) : Type 0 where
  pub laid : C.IsLaid layout.lo layout.hi layout.blocks
  pub ids : C.AllPairs (λ x y. x.id ≡ y.id → ⊥) layout.blocks
  pub grained : All (λ x. IsMultiple layout.grain x.at × IsMultiple layout.grain x.size) layout.blocks
  pub low_grained : IsMultiple layout.grain layout.lo

pub ordered_arranged : (layout : Layout) → C.IsOrdered layout → IsArranged layout
ordered_arranged layout ordered = record {
  laid = ordered.laid;
  ids = C.AllPairs-from_EachPair (λ x y. x.id ≡ y.id → ⊥) _ (named_pairs layout.cap _ ordered.named);
  grained = C.All-from_Each (λ x. IsMultiple layout.grain x.at × IsMultiple layout.grain x.size) _ ordered.grained;
  low_grained = ordered.from;
}

pub sound_arranged : (entries : List (Option Entry)) (layout : Layout) (order : List ℕ) → IsSound (table_of entries layout order) → IsArranged layout
sound_arranged entries layout order sound = record { laid = sound.table.laid; ids = sound.table.ids; grained = sound.grained; low_grained = sound.low_grained }

-- the order of use has just the ids that it is to have, each once
pub record IsOrder (entries : List (Option Entry)) (layout : Layout) (order : List ℕ) : Type 0 where
  pub members : (q : ℕ) → C.is_member q order ≡ C.is_listed (get_or entries q None) (block_with layout.blocks q)
  pub once : C.AllPairs (λ a b. a ≡ b → ⊥) order

pub sound_of : (entries : List (Option Entry)) (layout : Layout) (order : List ℕ) → IsArranged layout
    → ((q : ℕ) (x : Block) → block_with layout.blocks q ≡ Some x → IsSomeAnd (get_or entries q None) (λ e. x.hold ≡ hold_of_entry e))
    → IsOrder entries layout order
    → ((q : ℕ) → C.IfSome (get_or entries q None) (C.IsCountedBy (block_with layout.blocks q)))
    → IsSound (table_of entries layout order)
sound_of entries layout order arranged holds listed counted = record {
  table = record {
    laid = arranged.laid;
    ids = arranged.ids;
    holds = C.All-from_Each (λ x. IsSomeAnd _ (λ e. x.hold ≡ hold_of_entry e)) _
        (C.Each-from (λ x. IsSomeAnd _ (λ e. x.hold ≡ hold_of_entry e)) _ (λ x m. holds x.id x (C.with_member _ x (C.EachPair-from_AllPairs (λ x y. x.id ≡ y.id → ⊥) _ arranged.ids) m)));
  };
  grained = arranged.grained;
  low_grained = arranged.low_grained;
  in_order = listed.members;
  no_repeats = listed.once;
  counted = counted;
}

-- what a sound table has at each id
pub holds_at : (entries : List (Option Entry)) (layout : Layout) (order : List ℕ) → IsSound (table_of entries layout order) → (q : ℕ) (x : Block) → block_with layout.blocks q ≡ Some x → IsSomeAnd (get_or entries q None) (λ e. x.hold ≡ hold_of_entry e)
holds_at entries layout order sound q x e =
    let m = C.member_with _ q x e in
    subst (λ k. IsSomeAnd (get_or entries k None) (λ d. x.hold ≡ hold_of_entry d)) m.1 (C.Each-at (λ x. IsSomeAnd (get_or entries x.id None) (λ d. x.hold ≡ hold_of_entry d)) _ (C.Each-from_All _ _ sound.table.holds) x m.0)

module _ {entries : List (Option Entry)} {layout : Layout} {order memory : List ℕ} (parts : AreParts entries layout order memory) where
  whole : layout.hi ≤ length memory
  whole = parts.high

  pub object_here : (q : ℕ) → object_at (heap_of entries layout order memory) q ≡ option_map (object_in layout.blocks memory q) (get_or entries q None)
  object_here q = C.object_is (table_of entries layout order) parts.sound.table memory whole q

  pub place_here : (q : ℕ) → finmap.get (heap_of entries layout order memory).places q ≡ option_map (λ (x : Block). x.at) (block_with layout.blocks q)
  place_here q = C.place_is (table_of entries layout order) parts.sound.table memory whole q

  -- it is a heap
  pub is_heap : All (λ b. b < 256) memory → C.IsHeap (heap_of entries layout order memory)
  is_heap bytes = C.sound_heap (table_of entries layout order) parts.sound memory whole bytes

  -- where no entry is, no block is
  pub no_block : (q : ℕ) → get_or entries q None ≡ None → block_with layout.blocks q ≡ None
  no_block q none = from (block_with layout.blocks q) refl
    where
      from : (b : Option Block) → block_with layout.blocks q ≡ b → b ≡ None
      from None e = refl
      from (Some x) e = absurd (subst (λ d. IsSomeAnd d (λ d. x.hold ≡ hold_of_entry d)) none (holds_at entries layout order parts.sound q x e))

  -- an object's bytes are those at its block
  pub bytes_here : (q : ℕ) → C.bytes_at (heap_of entries layout order memory) q ≡ option_map (λ (x : Block). slice_range memory x.at (x.at + x.size)) (block_with layout.blocks q)
  bytes_here q = ap (λ (p : Option C.Object). elim p as (λ _. Option (List ℕ)) [ Some o ↦ o.bytes | None ↦ None ]) (object_here q) ∙ from (get_or entries q None) refl
    where
      from : (e : Option Entry) → get_or entries q None ≡ e
          → (elim (option_map (object_in layout.blocks memory q) e) as (λ _. Option (List ℕ)) [ Some o ↦ o.bytes | None ↦ None ])
          ≡ option_map (λ (x : Block). slice_range memory x.at (x.at + x.size)) (block_with layout.blocks q)
      from (Some e) h = refl
      from None h = sym (ap (option_map (λ (x : Block). slice_range memory x.at (x.at + x.size))) (no_block q h))

  -- where no object is, no entry is
  pub no_entry : (q : ℕ) → object_at (heap_of entries layout order memory) q ≡ None → get_or entries q None ≡ None
  no_entry q free = from (get_or entries q None) (sym (object_here q) ∙ free)
    where
      from : (e : Option Entry) → option_map (object_in layout.blocks memory q) e ≡ None → e ≡ None
      from None h = refl
      from (Some e) h = cc

  -- what is known of an object is its entry
  pub entry_is : (q : ℕ) → option_map entry_of (object_at (heap_of entries layout order memory) q) ≡ get_or entries q None
  entry_is q = ap (option_map entry_of) (object_here q) ∙ back (get_or entries q None)
    where
      back : (e : Option Entry) → option_map entry_of (option_map (object_in layout.blocks memory q) e) ≡ e
      back None = refl
      back (Some e) = refl

  -- a block ends in memory
  pub ends_in_memory : (q : ℕ) (x : Block) → block_with layout.blocks q ≡ Some x → (0 < x.size) × (x.at + x.size ≤ length memory)
  ends_in_memory q x e =
      let m = C.member_with layout.blocks q x e in
      let inside : (layout.lo ≤ x.at) × (0 < x.size) × (C.block_end x ≤ layout.hi) = C.Each-at (λ (y : Block). (layout.lo ≤ y.at) × (0 < y.size) × (C.block_end y ≤ layout.hi)) layout.blocks (C.laid_each layout.lo layout.hi layout.blocks parts.sound.table.laid) x m.0 in
      (inside.1, let high = parts.high in let end = inside.2 in omega arith)

  -- the size of an object is its block's
  pub size_here : (q : ℕ) → option_map (length {A = ℕ}) (C.bytes_at (heap_of entries layout order memory) q) ≡ option_map (λ (x : Block). x.size) (block_with layout.blocks q)
  size_here q = ap (option_map (length {A = ℕ})) (bytes_here q) ∙ from (block_with layout.blocks q) refl
    where
      from : (b : Option Block) → block_with layout.blocks q ≡ b → option_map (length {A = ℕ}) (option_map (λ (x : Block). slice_range memory x.at (x.at + x.size)) b) ≡ option_map (λ (x : Block). x.size) b
      from None e = refl
      from (Some x) e = ap Some (C.length_range memory x.at x.size (ends_in_memory q x e).1)
