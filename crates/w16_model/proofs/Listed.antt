-- Each heap has a walk: its objects with bytes and its holes, put in order.
use Rattle.w16_model.proofs
use proofs.Common as C
use proofs.Gaps as M
use Rattle.std.specs.List.{AllByRecursion as Each}
use proofs.Common.{◌≡◌, ℕ, ◌+◌, ◌-◌, ◌<◌, inl, inr, true, List, [], ◌∷◌, ◌++◌, map, length, Option, Some, None, option_map, is_some, refl, sym, ap, ◌∙◌, subst, arith, false≢true, Block, Span, Kind, Item, Owner, is_any, holes, IsHole, Heap, Object, blocks, object_at, IsItem}
use proofs.Starts.{member_map, contains_member, sized, gap_list_law}
use proofs.Heaps.{IsBlockOf, block_member, member_block}
use proofs.{Gaps.Member, Maximal.missed, Maximal.gap_same, Places.two_placed, Places.same_id, KeptHeaps.bytes_in, Walks.member_contained, Walks.one_walk}
use Rattle.std.specs.FinMap as finmap

-- Any list, by rising places.

-- a list of things that are good, with all members of another list, each place before the next
record Sorted {X : Type 0} (at : X → ℕ) (P : X → Type 0) (xs : List X) : Type 0 where
  items : List X
  good : Each P items
  rising : M.EachPair (λ s t. at s < at t) items
  has : (x : X) → Member x xs → Member x items
  above : (b : ℕ) → Each (λ x. b < at x) xs → Each (λ x. b < at x) items

-- where good things at one place are the same
module _ {X : Type 0} (at : X → ℕ) (P : X → Type 0) (alike : (x y : X) → P x → P y → at x ≡ at y → x ≡ y) where
  insert_into : (x : X) (ys : List X) → P x → Each P ys → M.EachPair (λ s t. at s < at t) ys → Sorted at P (x ∷ ys)
  insert_into x [] p q r = record { items = x ∷ []; good = (p, tt); rising = (tt, tt); has = λ z m. m; above = λ b h. h }
  insert_into x (y ∷ ys) p q r = elim (C.cases_lt (at x) (at y)) [
    | inl l ↦ record {
      items = x ∷ y ∷ ys;
      good = (p, q);
      rising = ((l, M.Each-map (λ z. at y < at z) (λ z. at x < at z) (λ z k. omega (arith, l, k)) ys r.0), r);
      has = λ z m. m;
      above = λ b h. h;
    }
    | inr l ↦ elim (C.cases_eq (at x) (at y)) [
      | inl e ↦ record { items = y ∷ ys; good = q; rising = r; has = λ z m. elim m [ inl is ↦ inl (is ∙ alike x y p q.0 e) | inr n ↦ n ]; above = λ b h. h.1 }
      | inr d ↦
          let s : Sorted at P (x ∷ ys) = insert_into x ys p q.1 r.1 in
          record {
            items = y ∷ s.items;
            good = (q.0, s.good);
            rising = (s.above (at y) (omega (arith, l, d), r.0), s.rising);
            has = λ z m. elim m [ inl is ↦ inr (s.has z (inl is)) | inr n ↦ elim n [ inl is ↦ inl is | inr k ↦ inr (s.has z (inr k)) ] ];
            above = λ b h. (h.1.0, s.above b (h.0, h.1.1));
          }
    ]
  ]

  sorted : (xs : List X) → Each P xs → Sorted at P xs
  sorted [] h = record { items = []; good = tt; rising = tt; has = λ z m. m; above = λ b k. k }
  sorted (x ∷ xs) h =
      let s : Sorted at P xs = sorted xs h.1 in
      let t : Sorted at P (x ∷ s.items) = insert_into x s.items h.0 s.good s.rising in
      record {
        items = t.items;
        good = t.good;
        rising = t.rising;
        has = λ z m. elim m [ inl is ↦ t.has z (inl is) | inr n ↦ t.has z (inr (s.has z n)) ];
        above = λ b k. t.above b (k.0, s.above b k.1);
      }

each_append : {X : Type 0} (P : X → Type 0) (xs ys : List X) → Each P xs → Each P ys → Each P (xs ++ ys)
each_append P [] ys h k = k
each_append P (x ∷ xs) ys h k = (h.0, each_append P xs ys h.1 k)

member_front : {X : Type 0} (xs ys : List X) (x : X) → Member x xs → Member x (xs ++ ys)
member_front [] ys x m = absurd m
member_front (y ∷ xs) ys x (inl e) = inl e
member_front (y ∷ xs) ys x (inr m) = inr (member_front xs ys x m)

member_back : {X : Type 0} (xs ys : List X) (x : X) → Member x ys → Member x (xs ++ ys)
member_back [] ys x m = m
member_back (y ∷ xs) ys x m = inr (member_back xs ys x m)

-- what an object's item says of it
record Owns (name : Kind → ℕ → ℕ) (heap : Heap) (at size : ℕ) (owner : Owner) : Type 0 where
  block : Block
  is : IsBlockOf heap block
  here : block.at ≡ at
  long : block.size ≡ size
  named : owner.name ≡ name owner.kind block.id
  kind : owner.kind ≡ is.object.kind
  locks : owner.locks ≡ is.object.locks

module _ (name : Kind → ℕ → ℕ) (heap : Heap) (is : C.IsHeap heap) where
  abbrev owner_of : ℕ → Object → Owner
  owner_of id o = record { name = name o.kind id; kind = o.kind; locks = o.locks }

  abbrev block_item : Block → Item
  block_item x = record { at = x.at; size = x.size; owner = option_map (owner_of x.id) (object_at heap x.id) }

  abbrev hole_item : Span → Item
  hole_item s = record { at = s.from; size = s.to - s.from; owner = None }

  abbrev parts : List Item
  parts = map block_item (blocks heap) ++ map hole_item (holes heap.lo heap.hi (blocks heap))

  abbrev all_holes : C.AreAllOf is_any heap.lo heap.hi (blocks heap) (holes heap.lo heap.hi (blocks heap))
  all_holes = (gap_list_law heap.lo heap.hi (blocks heap) is.placed).1

  -- an object with bytes has an address
  placed_at : (x : Block) → IsBlockOf heap x → finmap.get heap.places x.id ≡ Some x.at
  placed_at x b = from (finmap.get heap.places x.id) refl
    where
      some : is_some (finmap.get heap.places x.id) ≡ true
      some = is.at_bytes x.id ∙ ap (λ p. is_some (bytes_in p)) b.is_there ∙ ap is_some b.has_bytes

      from : (p : Option ℕ) → finmap.get heap.places x.id ≡ p → finmap.get heap.places x.id ≡ Some x.at
      from None e = absurd (false≢true (sym (ap is_some e) ∙ some))
      from (Some at) e = e ∙ ap Some (sym (b.place ∙ ap (λ p. C.unwrap_or p 0) e))

  -- so it is an item
  block_is_item : (x : Block) → IsBlockOf heap x → IsItem name heap (block_item x)
  block_is_item x b =
      subst (λ p. C.MatchOption (option_map (owner_of x.id) p) (IsHole heap.lo heap.hi (blocks heap) x.at (x.at + x.size)) (λ owner. (id : ℕ) × (owner.name ≡ name owner.kind id) × C.HasBytes heap id x.at x.size owner))
      (sym b.is_there) (
        x.id,
        refl,
        record {
          place = placed_at x b;
          object = subst (λ p. C.IsSomeAnd p (λ o. (option_map length o.bytes ≡ Some x.size) × (b.object.kind ≡ o.kind) × (b.object.locks ≡ o.locks))) (sym b.is_there)
              (ap (option_map length) b.has_bytes ∙ ap Some (sym b.size), refl, refl);
        },
      )

  -- and so is a hole
  hole_is_item : (s : Span) → IsHole heap.lo heap.hi (blocks heap) s.from s.to → IsItem name heap (hole_item s)
  hole_is_item s h = let some : s.from < s.to = h.some in
      let end : s.to ≡ s.from + (s.to - s.from) = omega (arith, some) in
      subst (IsHole heap.lo heap.hi (blocks heap) s.from) end h

  parts_are_items : Each (IsItem name heap) parts
  parts_are_items =
      each_append (IsItem name heap) (map block_item (blocks heap)) (map hole_item (holes heap.lo heap.hi (blocks heap)))
      (M.Each-of_map (IsItem name heap) block_item (blocks heap) (M.Each-from (λ x. IsItem name heap (block_item x)) (blocks heap) (λ x m. block_is_item x (member_block heap x m))))
      (M.Each-of_map (IsItem name heap) hole_item (holes heap.lo heap.hi (blocks heap))
      (M.Each-map (λ (s : Span). IsHole heap.lo heap.hi (blocks heap) s.from s.to) (λ s. IsItem name heap (hole_item s)) hole_is_item (holes heap.lo heap.hi (blocks heap))
      (M.Each-from_All (λ (s : Span). IsHole heap.lo heap.hi (blocks heap) s.from s.to) (holes heap.lo heap.hi (blocks heap)) all_holes.only)))

  -- an item of an object is one of a block
  owns : (at size : ℕ) (owner : Owner) → (id : ℕ) × (owner.name ≡ name owner.kind id) × C.HasBytes heap id at size owner → Owns name heap at size owner
  owns at size owner (id, named, has) = from (object_at heap id) refl has.object
    where
      bytes_from : (o : Object) → object_at heap id ≡ Some o → (b : Option (List ℕ)) → o.bytes ≡ b → option_map length b ≡ Some size → owner.kind ≡ o.kind → owner.locks ≡ o.locks → Owns name heap at size owner
      bytes_from o there None e l kind locks = cc
      bytes_from o there (Some bytes) e l kind locks = record {
        block = record { id = id; at = at; size = size; hold = C.hold_of_object o };
        is = record {
          object = o;
          bytes = bytes;
          is_there = there;
          has_bytes = e;
          place = sym (ap (λ p. C.unwrap_or p 0) has.place);
          size = (let same : length bytes ≡ size = cc in sym same);
          hold = refl;
        };
        here = refl;
        long = refl;
        named = named;
        kind = kind;
        locks = locks;
      }

      from : (p : Option Object) → object_at heap id ≡ p → C.IsSomeAnd p (λ o. (option_map length o.bytes ≡ Some size) × (owner.kind ≡ o.kind) × (owner.locks ≡ o.locks)) → Owns name heap at size owner
      from None e h = absurd h
      from (Some o) e h = bytes_from o e o.bytes refl h.0 h.1 h.2

  -- the owner that a block's item has
  owner_is : (at size : ℕ) (owner : Owner) (o : Owns name heap at size owner) → owner ≡ owner_of o.block.id o.is.object
  owner_is at size owner o = let named : owner.name ≡ name o.is.object.kind o.block.id = o.named ∙ ap (λ k. name k o.block.id) o.kind in
      λ i. record { name = named i; kind = o.kind i; locks = o.locks i }

  -- each item is one of these
  is_listed : (at size : ℕ) (owner : Option Owner) → IsItem name heap (record { at = at; size = size; owner = owner }) → Member (record { at = at; size = size; owner = owner }) parts
  is_listed at size None h =
      let listed : Member (record { from = at; to = at + size }) (holes heap.lo heap.hi (blocks heap)) = member_contained (holes heap.lo heap.hi (blocks heap)) (record { from = at; to = at + size }) (all_holes.each at (at + size) h) in
      let size_is : (at + size) - at ≡ size = omega arith in
      subst (λ n. Member {X = Item} (record { at = at; size = n; owner = None }) parts) size_is
      (member_back (map block_item (blocks heap)) (map hole_item (holes heap.lo heap.hi (blocks heap))) (hole_item (record { from = at; to = at + size }))
      (member_map hole_item (holes heap.lo heap.hi (blocks heap)) (record { from = at; to = at + size }) listed))
  is_listed at size (Some owner) h =
      let o : Owns name heap at size owner = owns at size owner h in
      let owner_same : option_map (owner_of o.block.id) (object_at heap o.block.id) ≡ Some owner = ap (option_map (owner_of o.block.id)) o.is.is_there ∙ ap Some (sym (owner_is at size owner o)) in
      let same : ◌≡◌ {A = Item} (block_item o.block) (record { at = at; size = size; owner = Some owner }) = λ i. record { at = o.here i; size = o.long i; owner = owner_same i } in
      subst (λ item. Member item parts) same
      (member_front (map block_item (blocks heap)) (map hole_item (holes heap.lo heap.hi (blocks heap))) (block_item o.block) (member_map block_item (blocks heap) o.block (block_member heap o.block o.is)))

  -- two blocks at one place are one
  block_there : (x y : Block) → IsBlockOf heap x → IsBlockOf heap y → x.at ≡ y.at → x ≡ y
  block_there x y b c e = elim (C.cases_eq x.id y.id) [
    | inl same ↦ same_id heap x y b c same
    | inr d ↦ absurd (apart (sized heap.lo heap.hi (blocks heap) is.placed x (block_member heap x b)) (sized heap.lo heap.hi (blocks heap) is.placed y (block_member heap y c)) (two_placed heap is x y b c (λ f. d (ap (λ (z : Block). z.id) f))))
  ]
    where
      apart : 0 < x.size → 0 < y.size → C.Misses x.at x.size y.at (C.block_end y) → ⊥
      apart s t m = elim m [ inl l ↦ omega (arith, s, e, l) | inr l ↦ omega (arith, t, e, l) ]

  -- no hole begins where a block does
  no_hole : (x : Block) (a size : ℕ) → IsBlockOf heap x → x.at ≡ a → IsHole heap.lo heap.hi (blocks heap) a (a + size) → ⊥
  no_hole x a size b e h =
      apart (sized heap.lo heap.hi (blocks heap) is.placed x (block_member heap x b)) h.some
      (missed is_any heap.lo heap.hi (blocks heap) (sized heap.lo heap.hi (blocks heap) is.placed) a (a + size) h.clear x (block_member heap x b) refl)
    where
      apart : 0 < x.size → a < a + size → C.Misses x.at x.size a (a + size) → ⊥
      apart s t m = elim m [ inl l ↦ omega (arith, s, e, l) | inr l ↦ omega (arith, t, e, l) ]

  -- two items at one place are one
  alike : (at s t : ℕ) (o p : Option Owner) → IsItem name heap (record { at = at; size = s; owner = o }) → IsItem name heap (record { at = at; size = t; owner = p }) → (s ≡ t) × (o ≡ p)
  alike at s t None None h k =
      let ends : (at ≡ at) × (at + s ≡ at + t) = gap_same is_any heap.lo heap.hi (blocks heap) (sized heap.lo heap.hi (blocks heap) is.placed) at (at + s) at (at + t) at h k (omega arith) h.some (omega arith) k.some in
      (omega (arith, ends.1), refl)
  alike at s t None (Some owner) h k = let o : Owns name heap at t owner = owns at t owner k in absurd (no_hole o.block at s o.is o.here h)
  alike at s t (Some owner) None h k = let o : Owns name heap at s owner = owns at s owner h in absurd (no_hole o.block at t o.is o.here k)
  alike at s t (Some owner) (Some other) h k =
      let o : Owns name heap at s owner = owns at s owner h in
      let p : Owns name heap at t other = owns at t other k in
      let same : o.block ≡ p.block = block_there o.block p.block o.is p.is (o.here ∙ sym p.here) in
      let id : o.block.id ≡ p.block.id = ap (λ (x : Block). x.id) same in
      let object : o.is.object ≡ p.is.object = (let some : ◌≡◌ {A = Option Object} (Some o.is.object) (Some p.is.object) = sym o.is.is_there ∙ ap (object_at heap) id ∙ p.is.is_there in cc) in
      (sym o.long ∙ ap (λ (x : Block). x.size) same ∙ p.long, ap Some (owner_is at s owner o ∙ (λ i. owner_of (id i) (object i)) ∙ sym (owner_is at t other p)))

  same_item : (x y : Item) → IsItem name heap x → IsItem name heap y → x.at ≡ y.at → x ≡ y
  same_item x y h k e =
      let both : (x.size ≡ y.size) × (x.owner ≡ y.owner) = alike x.at x.size y.size x.owner y.owner h (subst (λ at. IsItem name heap (record { at = at; size = y.size; owner = y.owner })) (sym e) k) in
      λ i. record { at = e i; size = both.0 i; owner = both.1 i }

  -- the walk
  pub walk_there : (items : List Item) × C.IsWalk name heap items
  walk_there =
      let s : Sorted (λ (x : Item). x.at) (IsItem name heap) parts = sorted (λ (x : Item). x.at) (IsItem name heap) same_item parts parts_are_items in (
        s.items,
        record {
          only = M.All-from_Each (IsItem name heap) s.items s.good;
          each = λ x h. contains_member s.items x (s.has x (is_listed x.at x.size x.owner h));
          rising = M.AllPairs-from_EachPair (λ s t. s.at < t.at) s.items s.rising;
        },
      )

pub walk_law : C.WalkLaw
walk_law name heap is =
    let walk = walk_there name heap is in
    record { items = walk.0; is_walk = walk.1; only = λ others w. one_walk name heap _ _ w walk.1 }
