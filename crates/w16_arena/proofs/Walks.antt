-- The first part of a heap at or above an address.
use Rattle.w16_arena.proofs
use proofs.Common as C
use Rattle.std.specs.List.{AllByRecursion as Each}
use proofs.Common.{◌≡◌, ℕ, zero, suc, ◌+◌, ◌-◌, ◌<◌, ◌≤◌, ◌⊎◌, inl, inr, All, IsTrue, IsSomeAnd, List, [], ◌∷◌, length, slice_range, Option, Some, None, option_map, slice_get, refl, sym, ap, ◌∙◌, subst, arith, cases_lt, Block, Entry, Item, Owner, IsHole, Misses, block_end, is_any, blocks}
use proofs.Common.{Table, block_with, entry_at, heap_in, IsItem, IsFirstItem, by_its_id, Member, Each-at, laid_each, rank}
use proofs.Lookups.{object_here, place_here, ends_in_memory, holds_at}
use proofs.{Next.IsNext, Next.next_is, Listed.is_listed, Listed.listed_with, Parts.AreParts}

-- from an address on, up to the high end
longer : (from high at size a b : ℕ) → from ≤ a → a < b → (at < from) ⊎ (high ≤ at) → Misses at size a b → Misses at size a high
longer from high at size a b l k (inl s) (inl m) = inl m
longer from high at size a b l k (inl s) (inr m) = absurd (omega arith)
longer from high at size a b l k (inr s) m = inr s

-- of two listed blocks the lower one ends before the other
blocks_apart : (lo hi : ℕ) (bs : List Block) → C.IsLaid lo hi bs → (x y : Block) → Member x bs → Member y bs → x.at < y.at → block_end x ≤ y.at
blocks_apart lo hi [] laid x y m n l = absurd m
blocks_apart lo hi (b ∷ bs) laid x y (inl e) (inl f) l = absurd (omega (arith, l, ap (λ z. z.at) (e ∙ sym f)))
blocks_apart lo hi (b ∷ bs) laid x y (inl e) (inr n) l = omega (arith, ap block_end e, (Each-at _ bs (laid_each (block_end b) hi bs laid.2) y n).0)
blocks_apart lo hi (b ∷ bs) laid x y (inr m) (inl f) l = absurd (omega (arith, l, ap (λ z. z.at) f, (Each-at _ bs (laid_each (block_end b) hi bs laid.2) x m).0))
blocks_apart lo hi (b ∷ bs) laid x y (inr m) (inr n) l = blocks_apart (block_end b) hi bs laid.2 x y m n l

-- A listed block lies inside.
pub get_member : (bs : List Block) (i : ℕ) (x : Block) → slice_get bs i ≡ Some x → Member x bs
get_member [] i x h = cc
get_member (b ∷ bs) zero x h = let same : b ≡ x = cc in inl (sym same)
get_member (b ∷ bs) (suc i) x h = inr (get_member bs i x h)

pub get_inside : (lo hi : ℕ) (bs : List Block) → C.IsLaid lo hi bs → hi < 4294967296 → (i : ℕ) (x : Block) → slice_get bs i ≡ Some x → (0 < x.size) × (x.at + x.size < 4294967296)
get_inside lo hi bs laid small i x is =
    let inside = Each-at (λ x. (lo ≤ x.at) × (0 < x.size) × (block_end x ≤ hi)) bs (laid_each lo hi bs laid) x (get_member bs i x is) in
    (inside.1, let high = inside.2 in omega arith)

-- Parts of the heap of a table, by its blocks.
abbrev pub item_of : Block → Entry → Item
item_of x e = record { at = x.at; size = x.size; owner = Some (record { name = x.id; kind = e.kind; locks = e.locks }) }

-- what is told of a block, or of none
abbrev pub IsPartAt : Table → Option Block → Option Item → Type 0
IsPartAt t o found = C.MatchOption o (found ≡ None) (λ b. IsSomeAnd (entry_at t b.id) (λ e. found ≡ Some (item_of b e)))

-- the table's blocks
abbrev layout_in : Table → C.Layout
layout_in t = record { cap = length t.entries; lo = t.lo; hi = t.hi; grain = t.grain; blocks = t.blocks }

module _ {t : Table} (sound : C.IsSound t) (memory : List ℕ) (whole : t.hi ≤ length memory) where
  parts : AreParts t.entries (layout_in t) t.order memory
  parts = record { sound = sound; ids = refl; high = whole }

  heap_block : (x : Block) → Member x t.blocks → Member x (blocks (heap_in t memory))
  heap_block x m = C.block_member (heap_in t memory) x (C.table_block t sound.table memory whole x m)

  -- a hole of the one list is one of the other
  module _ (xs ys : List Block) (into : (x : Block) → Member x xs → Member x ys) (back : (x : Block) → Member x ys → Member x xs) where
    same_clear : (us vs : List Block) (a b : ℕ) → ((x : Block) → Member x vs → Member x us) → C.IsClear is_any t.lo t.hi us a b → C.IsClear is_any t.lo t.hi vs a b
    same_clear us vs a b from clear = record {
      above = clear.above;
      below = clear.below;
      misses = C.All-from_Each (λ x. IsTrue (is_any x) → Misses x.at x.size a b) vs (C.Each-from (λ x. IsTrue (is_any x) → Misses x.at x.size a b) vs
          (λ x m. Each-at (λ x. IsTrue (is_any x) → Misses x.at x.size a b) us (C.Each-from_All (λ x. IsTrue (is_any x) → Misses x.at x.size a b) us clear.misses) x (from x m)));
    }

    same_hole : (a b : ℕ) → IsHole t.lo t.hi xs a b → IsHole t.lo t.hi ys a b
    same_hole a b hole = record {
      some = hole.some;
      clear = same_clear xs ys a b back hole.clear;
      maximal = λ c d l k clear. hole.maximal c d l k (same_clear ys xs c d into clear);
    }

  hole_in_heap : (a b : ℕ) → IsHole t.lo t.hi t.blocks a b → IsHole t.lo t.hi (blocks (heap_in t memory)) a b
  hole_in_heap = same_hole t.blocks (blocks (heap_in t memory)) heap_block (is_listed parts)

  hole_in_table : (a b : ℕ) → IsHole t.lo t.hi (blocks (heap_in t memory)) a b → IsHole t.lo t.hi t.blocks a b
  hole_in_table = same_hole (blocks (heap_in t memory)) t.blocks (is_listed parts) heap_block

  -- an object's bytes are its block
  block_item : (x : Block) (e : Entry) → Member x t.blocks → entry_at t x.id ≡ Some e → IsItem by_its_id (heap_in t memory) (item_of x e)
  block_item x e m is = (
    x.id,
    refl,
    record {
      place = place_here parts x.id ∙ ap (option_map (λ (x : Block). x.at)) here;
      object = subst (λ (o : Option C.Object). IsSomeAnd o (λ o. (option_map length o.bytes ≡ Some x.size) × (e.kind ≡ o.kind) × (e.locks ≡ o.locks)))
          (sym (object_here parts x.id ∙ ap (option_map (C.object_in t.blocks memory x.id)) is))
          (ap (λ (b : Option Block). option_map (length {A = ℕ}) (option_map (λ (x : Block). slice_range memory x.at (x.at + x.size)) b)) here ∙ ap Some (C.length_range memory x.at x.size (ends_in_memory parts x.id x here).1), refl, refl);
    },
  )
    where
      here : block_with t.blocks x.id ≡ Some x
      here = listed_with parts x m

  -- and the parts that have an owner are such blocks
  abbrev IsBlockItem : Item → Type 0
  IsBlockItem item = (x : Block) × Member x t.blocks × IsSomeAnd (entry_at t x.id) (λ e. item ≡ item_of x e) × (item.at ≡ x.at) × (item.size ≡ x.size)

  item_block : (at size : ℕ) (owner : Owner) → IsItem by_its_id (heap_in t memory) (record { at = at; size = size; owner = Some owner }) → IsBlockItem (record { at = at; size = size; owner = Some owner })
  item_block at size owner item = from (block_with t.blocks item.0) (entry_at t item.0) refl refl
    where
      from : (b : Option Block) (e : Option Entry) → block_with t.blocks item.0 ≡ b → entry_at t item.0 ≡ e → IsBlockItem (record { at = at; size = size; owner = Some owner })
      from None e none is = let no : ◌≡◌ {A = Option ℕ} None (Some at) = sym (place_here parts item.0 ∙ ap (option_map (λ (x : Block). x.at)) none) ∙ item.2.place in cc
      from (Some x) None here none = absurd (subst (λ d. IsSomeAnd d (λ d. x.hold ≡ C.hold_of_entry d)) none (holds_at t.entries (layout_in t) t.order sound item.0 x here))
      from (Some x) (Some e) here is =
          let m : Member x t.blocks × (x.id ≡ item.0) = C.member_with t.blocks item.0 x here in
          let place : ◌≡◌ {A = Option ℕ} (Some x.at) (Some at) = sym (place_here parts item.0 ∙ ap (option_map (λ (x : Block). x.at)) here) ∙ item.2.place in
          let same_at : x.at ≡ at = cc in
          let object : (option_map (length {A = ℕ}) (option_map (λ (x : Block). slice_range memory x.at (x.at + x.size)) (block_with t.blocks item.0)) ≡ Some size) × (owner.kind ≡ e.kind) × (owner.locks ≡ e.locks) =
          subst (λ (o : Option C.Object). IsSomeAnd o (λ o. (option_map length o.bytes ≡ Some size) × (owner.kind ≡ o.kind) × (owner.locks ≡ o.locks))) (object_here parts item.0 ∙ ap (option_map (C.object_in t.blocks memory item.0)) is) item.2.object in
          let sizes : ◌≡◌ {A = Option ℕ} (Some x.size) (Some size) = sym
          (ap (λ (b : Option Block). option_map (length {A = ℕ})
          (option_map (λ (x : Block). slice_range memory x.at (x.at + x.size)) b)) here ∙ ap Some
          (C.length_range memory x.at x.size (ends_in_memory parts item.0 x here).1)) ∙ object.0 in
          let same_size : x.size ≡ size = cc in
          let name : owner.name ≡ x.id = item.1 ∙ sym m.1 in
          let one : ◌≡◌ {A = Item} (record { at = at; size = size; owner = Some owner }) (item_of x e) =
          λ i. record { at = sym same_at i; size = sym same_size i; owner = Some (record { name = name i; kind = object.1 i; locks = object.2 i }) } in
          (x, m.0, subst (λ d. IsSomeAnd d (λ e. ◌≡◌ {A = Item} (record { at = at; size = size; owner = Some owner }) (item_of x e))) (sym is ∙ ap (entry_at t) (sym m.1)) one, sym same_at, sym same_size)

  sized : (x : Block) → Member x t.blocks → 0 < x.size
  sized x m = (Each-at _ t.blocks (laid_each t.lo t.hi t.blocks sound.table.laid) x m).1

  -- No part begins inside another.
  pub apart : (item other : Item) → IsItem by_its_id (heap_in t memory) item → IsItem by_its_id (heap_in t memory) other → item.at < other.at → item.at + item.size ≤ other.at
  apart one two = by_owner one.at one.size one.owner two.at two.size two.owner
    where
      hole_misses : (a b : ℕ) → IsHole t.lo t.hi (blocks (heap_in t memory)) a b → (x : Block) → Member x t.blocks → Misses x.at x.size a b
      hole_misses a b hole x m = C.missed is_any t.lo t.hi t.blocks sized a b (hole_in_table a b hole).clear x m refl

      by_owner : (a m : ℕ) (o : Option Owner) (c n : ℕ) (p : Option Owner) → IsItem by_its_id (heap_in t memory) (record { at = a; size = m; owner = o })
          → IsItem by_its_id (heap_in t memory) (record { at = c; size = n; owner = p }) → a < c → a + m ≤ c
      by_owner a m None c n None one other l = elim (cases_lt c (a + m)) [
        | inl inside ↦ let one_hole = (C.gap_same is_any t.lo t.hi t.blocks sized a (a + m) c (c + n) c (hole_in_table a (a + m) one) (hole_in_table c (c + n) other) (omega arith) inside (omega arith) other.some).0 in absurd (omega (arith, one_hole))
        | inr le ↦ le
      ]
      by_owner a m None c n (Some p) one other l =
          let is = item_block c n p other in
          elim (hole_misses a (a + m) one is.0 is.1) [ inl f ↦ absurd (omega (arith, f, l, is.3)) | inr f ↦ omega (arith, f, is.3) ]
      by_owner a m (Some o) c n None one other l =
          let is = item_block a m o one in
          elim (hole_misses c (c + n) other is.0 is.1) [ inl f ↦ omega (arith, f, is.3, is.4) | inr f ↦ absurd (omega (arith, f, l, other.some, is.3)) ]
      by_owner a m (Some o) c n (Some p) one other l =
          let is = item_block a m o one in
          let also = item_block c n p other in
          omega (arith, is.3, is.4, also.3, blocks_apart t.lo t.hi t.blocks sound.table.laid is.0 also.0 is.1 also.1 (omega (arith, l, is.3, also.3)))

  -- A hole is the first part where each block is below the address or above it.
  pub first_hole : (from a b : ℕ) → IsHole t.lo t.hi t.blocks a b → from ≤ a → All (λ x. (x.at < from) ⊎ (b ≤ x.at)) t.blocks → IsFirstItem by_its_id (heap_in t memory) from (Some (record { at = a; size = b - a; owner = None }))
  first_hole from a b hole above lowest = (
    subst (λ v. IsHole t.lo t.hi (blocks (heap_in t memory)) a v) (let e : b ≡ a + (b - a) = omega (arith, hole.some) in e) (hole_in_heap a b hole),
    above,
    (λ other item l. others other.at other.size other.owner item l),
  )
    where
      each : (x : Block) → Member x t.blocks → (x.at < from) ⊎ (b ≤ x.at)
      each = Each-at (λ x. (x.at < from) ⊎ (b ≤ x.at)) t.blocks (C.Each-from_All (λ x. (x.at < from) ⊎ (b ≤ x.at)) t.blocks lowest)

      not_before : (c d : ℕ) → from ≤ c → c < a → IsHole t.lo t.hi t.blocks c d → ⊥
      not_before c d l under other =
          let both : (c ≡ a) × (b ≡ b) = hole.maximal c b (omega arith) (omega arith) (C.clear_from is_any t.lo t.hi t.blocks sized c b other.clear.above hole.clear.below
          (λ x m any. longer from b x.at x.size c d l other.some (each x m) (C.missed is_any t.lo t.hi t.blocks sized c d other.clear x m any))) in
          omega (arith, both.0, under)

      same_end : (d : ℕ) → IsHole t.lo t.hi t.blocks a d → d ≡ b
      same_end d other = (C.gap_same is_any t.lo t.hi t.blocks sized a d a b a other hole (omega arith) other.some (omega arith) hole.some).1

      others : (at size : ℕ) (owner : Option Owner) → IsItem by_its_id (heap_in t memory) (record { at = at; size = size; owner = owner }) → from ≤ at
          → (◌≡◌ {A = Item} (record { at = at; size = size; owner = owner }) (record { at = a; size = b - a; owner = None })) ⊎ (a < at)
      others at size None item l = elim (cases_lt a at) [
        | inl behind ↦ inr behind
        | inr le ↦ elim (cases_lt at a) [
          | inl before ↦ absurd (not_before at (at + size) l before (hole_in_table at (at + size) item))
          | inr ge ↦
              let here : at ≡ a = omega arith in
              let end : at + size ≡ b = same_end (at + size) (subst (λ v. IsHole t.lo t.hi t.blocks v (at + size)) here (hole_in_table at (at + size) item)) in
              let long : size ≡ b - a = omega arith in
              inl (λ i. record { at = here i; size = long i; owner = None })
        ]
      ]
      others at size (Some o) item l =
          let is : IsBlockItem (record { at = at; size = size; owner = Some o }) = item_block at size o item in
          inr (elim (each is.0 is.1) [ inl m ↦ absurd (omega (arith, m, is.3)) | inr m ↦ omega (arith, m, is.3, hole.some) ])

  -- The next block is, where holes are behind it alone; with no next block there is none.
  pub first_block : (from i : ℕ) (found : Option Item) → i ≡ rank from t.blocks
      → ((a b : ℕ) → IsHole t.lo t.hi t.blocks a b → from ≤ a → IsSomeAnd (slice_get t.blocks i) (λ x. x.at < a))
      → IsPartAt t (slice_get t.blocks i) found → IsFirstItem by_its_id (heap_in t memory) from found
  first_block from i found is none part = turn (slice_get t.blocks i) (subst (λ i. IsNext from t.blocks (slice_get t.blocks i)) (sym is) (next_is t.lo t.hi from t.blocks sound.table.laid)) none part
    where
      HolesBehind : Option Block → Type 0
      HolesBehind o = (a b : ℕ) → IsHole t.lo t.hi t.blocks a b → from ≤ a → IsSomeAnd o (λ x. x.at < a)

      below : HolesBehind None → Each (λ c. c.at < from) t.blocks → (at size : ℕ) (owner : Option Owner) → IsItem by_its_id (heap_in t memory) (record { at = at; size = size; owner = owner }) → at < from
      below none each at size None item = elim (cases_lt at from) [ inl l ↦ l | inr l ↦ absurd (none at (at + size) (hole_in_table at (at + size) item) l) ]
      below none each at size (Some o) item =
          let is : IsBlockItem (record { at = at; size = size; owner = Some o }) = item_block at size o item in
          omega (arith, is.3, Each-at (λ (c : Block). c.at < from) t.blocks each is.0 is.1)

      others : (b : Block) (e : Entry) → entry_at t b.id ≡ Some e → HolesBehind (Some b) → Each (λ c. (c.at < from) ⊎ ((c ≡ b) ⊎ (b.at < c.at))) t.blocks
          → (at size : ℕ) (owner : Option Owner) → IsItem by_its_id (heap_in t memory) (record { at = at; size = size; owner = owner }) → from ≤ at
          → (◌≡◌ {A = Item} (record { at = at; size = size; owner = owner }) (item_of b e)) ⊎ (b.at < at)
      others b e entry none each at size None item l = inr (none at (at + size) (hole_in_table at (at + size) item) l)
      others b e entry none each at size (Some o) item l =
          let is : IsBlockItem (record { at = at; size = size; owner = Some o }) = item_block at size o item in
          elim (Each-at (λ (c : Block). (c.at < from) ⊎ ((c ≡ b) ⊎ (b.at < c.at))) t.blocks each is.0 is.1) [
            | inl m ↦ absurd (omega (arith, m, is.3))
            | inr m ↦ elim m [
              | inl same ↦
                  let at_b : IsSomeAnd (entry_at t b.id) (λ e. ◌≡◌ {A = Item} (record { at = at; size = size; owner = Some o }) (item_of b e)) =
                  subst (λ (x : Block). IsSomeAnd (entry_at t x.id) (λ e. ◌≡◌ {A = Item} (record { at = at; size = size; owner = Some o }) (item_of x e))) same is.2 in
                  inl (subst (λ (d : Option Entry). IsSomeAnd d (λ e. ◌≡◌ {A = Item} (record { at = at; size = size; owner = Some o }) (item_of b e))) entry at_b)
              | inr above ↦ inr (omega (arith, above, is.3))
            ]
          ]

      owned : (b : Block) (d : Option Entry) → entry_at t b.id ≡ d → Member b t.blocks → from ≤ b.at → Each (λ c. (c.at < from) ⊎ ((c ≡ b) ⊎ (b.at < c.at))) t.blocks → HolesBehind (Some b)
          → IsSomeAnd d (λ e. found ≡ Some (item_of b e)) → IsFirstItem by_its_id (heap_in t memory) from found
      owned b None entry m over each none h = absurd h
      owned b (Some e) entry m over each none h = subst (IsFirstItem by_its_id (heap_in t memory) from) (sym h) (block_item b e m entry, over, (λ other item l. others b e entry none each other.at other.size other.owner item l))

      turn : (o : Option Block) → IsNext from t.blocks o → HolesBehind o → IsPartAt t o found → IsFirstItem by_its_id (heap_in t memory) from found
      turn None next none part = subst (IsFirstItem by_its_id (heap_in t memory) from) (sym part) (λ other item. below none next other.at other.size other.owner item)
      turn (Some b) next none part = owned b (entry_at t b.id) refl next.0 next.1 next.2 none part

-- a block's part has bytes, and ends where a double word can tell
pub part_inside : (t : Table) → C.IsSound t → t.hi < 4294967296 → (i : ℕ) (found : Option Item) → IsPartAt t (slice_get t.blocks i) found
    → C.IfSome found (λ item. (0 < item.size) × (item.at + item.size < 4294967296))
part_inside t sound small i found part = turn _ refl part
  where
    Ends : Option Item → Type 0
    Ends found = C.IfSome found (λ item. (0 < item.size) × (item.at + item.size < 4294967296))

    owned : (b : Block) (d : Option Entry) → (0 < b.size) × (b.at + b.size < 4294967296) → IsSomeAnd d (λ e. found ≡ Some (item_of b e)) → Ends found
    owned b None inside h = absurd h
    owned b (Some e) inside h = subst Ends (sym h) inside

    turn : (o : Option Block) → slice_get t.blocks i ≡ o → IsPartAt t o found → Ends found
    turn None is part = subst Ends (sym part) tt
    turn (Some b) is part = owned b _ (get_inside t.lo t.hi _ sound.table.laid small i b is) part
