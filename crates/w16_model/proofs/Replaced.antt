-- An object with another in its place, at the same address: the heap that this makes.
use Rattle.w16_model.proofs
use proofs.Common.{◌≡◌, ◌≢◌, ℕ, ◌+◌, ◌<◌, ◌≤◌, inl, inr, ⊎_elim, IfSome, List, length, AllPairs, Option, Some, is_some, unwrap_or, ◌&&◌, refl, sym, ap, ◌∙◌, subst, cases_eq, Block, Misses, block_end, is_member, Heap, Object, IsHeap, IsCounted, IsMultiple, blocks, object_at, hold_of_object}
use proofs.Common.{is_in_order, is_discardable}
use proofs.Gaps.{Member, Each-at, Each-from, Each-from_All, All-from_Each}
use proofs.Heaps.{IsBlockOf, block_member, member_block}
use proofs.Places.{placed_from, two_placed}
use proofs.KeptHeaps.{inserted_here, inserted_other, bytes_in, AreBytes}
use Rattle.std.specs.FinMap as finmap

-- so many bytes at an address of a heap's may be an object's: they lie inside, in whole grains, apart from the blocks of the others
pub record MayLie (heap : Heap) (id at n : ℕ) : Type 0 where
  pub low : heap.lo ≤ at
  pub some : 0 < n
  pub high : at + n ≤ heap.hi
  pub at_grain : IsMultiple heap.grain at
  pub grain : IsMultiple heap.grain n
  pub apart : (y : Block) → IsBlockOf heap y → y.id ≢ id → Misses at n y.at (block_end y)

-- An object that is there has another in its place, and the order is another.
module _ (old : Heap) (is : IsHeap old) (id : ℕ) (before o : Object) (there : object_at old id ≡ Some before) (order : List ℕ) (same_some : is_some o.bytes ≡ is_some before.bytes) where
  abbrev pub replaced : Heap
  replaced = record old { objects = finmap.insert old.objects id o; order = order }

  -- where it stands
  abbrev pub stood : ℕ
  stood = unwrap_or (finmap.get old.places id) 0

  -- the blocks of the others are as they were
  pub other_block : (x : Block) → IsBlockOf replaced x → x.id ≢ id → IsBlockOf old x
  other_block x b d = record {
    object = b.object;
    bytes = b.bytes;
    is_there = sym (inserted_other old.objects id o x.id d) ∙ b.is_there;
    has_bytes = b.has_bytes;
    place = b.place;
    size = b.size;
    hold = b.hold;
  }

  -- its own has its bytes
  own_bytes : (x : Block) → (b : IsBlockOf replaced x) → x.id ≡ id → o.bytes ≡ Some b.bytes
  own_bytes x b e =
      let same : b.object ≡ o = (let some : ◌≡◌ {A = Option Object} (Some b.object) (Some o) = sym b.is_there ∙ inserted_here old.objects id o x.id e in cc) in
      ap (λ (p : Object). p.bytes) (sym same) ∙ b.has_bytes

  own_at : (x : Block) → IsBlockOf replaced x → x.id ≡ id → x.at ≡ stood
  own_at x b e = b.place ∙ ap (λ q. unwrap_or (finmap.get old.places q) 0) e

  -- where its bytes may lie, the heap is one
  module _ (lies : (bytes : List ℕ) → o.bytes ≡ Some bytes → MayLie old id stood (length bytes)) where
    -- what holds of its block
    own_lies : (x : Block) → IsBlockOf replaced x → x.id ≡ id → MayLie old id x.at x.size
    own_lies x b e = subst (λ n. MayLie old id n x.size) (sym (own_at x b e)) (subst (λ n. MayLie old id stood n) (sym b.size) (lies b.bytes (own_bytes x b e)))

    abbrev IsInside : Block → Type 0
    IsInside x = (old.lo ≤ x.at) × (0 < x.size) × (block_end x ≤ old.hi)

    abbrev IsGrained : Block → Type 0
    IsGrained x = IsMultiple old.grain x.at × IsMultiple old.grain x.size

    inside : (x : Block) → IsBlockOf replaced x → IsInside x
    inside x b = elim (cases_eq x.id id) [
      | inl e ↦ let l : MayLie old id x.at x.size = own_lies x b e in (l.low, l.some, l.high)
      | inr d ↦ Each-at IsInside (blocks old) (Each-from_All _ (blocks old) is.placed.inside) x (block_member old x (other_block x b d))
    ]

    grained : (x : Block) → IsBlockOf replaced x → IsGrained x
    grained x b = elim (cases_eq x.id id) [
      | inl e ↦ let l : MayLie old id x.at x.size = own_lies x b e in (l.at_grain, l.grain)
      | inr d ↦ Each-at IsGrained (blocks old) (Each-from_All _ (blocks old) is.grained) x (block_member old x (other_block x b d))
    ]

    turned : (p n q m : ℕ) → Misses p n q (q + m) → Misses q m p (p + n)
    turned p n q m f = ⊎_elim inr inl f

    one_own : (x y : Block) → IsBlockOf replaced x → IsBlockOf replaced y → x.id ≡ id → y.id ≡ id → x ≡ y
    one_own x y b c e f =
        let same_object : b.object ≡ c.object = (let some : ◌≡◌ {A = Option Object} (Some b.object) (Some c.object) = sym b.is_there ∙ ap (object_at replaced) (e ∙ sym f) ∙ c.is_there in cc) in
        let same_bytes : b.bytes ≡ c.bytes = (let some : ◌≡◌ {A = Option (List ℕ)} (Some b.bytes) (Some c.bytes) = sym b.has_bytes ∙ ap (λ (p : Object). p.bytes) same_object ∙ c.has_bytes in cc) in
        let ids : x.id ≡ y.id = e ∙ sym f in
        let at : x.at ≡ y.at = own_at x b e ∙ sym (own_at y c f) in
        let size : x.size ≡ y.size = b.size ∙ ap length same_bytes ∙ sym c.size in
        let hold : x.hold ≡ y.hold = b.hold ∙ ap hold_of_object same_object ∙ sym c.hold in
        λ i. record { id = ids i; at = at i; size = size i; hold = hold i }

    apart : (x y : Block) → IsBlockOf replaced x → IsBlockOf replaced y → x ≢ y → Misses x.at x.size y.at (block_end y)
    apart x y b c d = elim (cases_eq x.id id) [
      | inl e ↦ elim (cases_eq y.id id) [
        | inl f ↦ absurd (d (one_own x y b c e f))
        | inr f ↦ (own_lies x b e).apart y (other_block y c f) f
      ]
      | inr e ↦ elim (cases_eq y.id id) [
        | inl f ↦ turned y.at y.size x.at x.size ((own_lies y c f).apart x (other_block x b e) e)
        | inr f ↦ two_placed old is x y (other_block x b e) (other_block y c f) d
      ]
    ]

    pub replaced_heap : AreBytes o.bytes → IsCounted o → ((q : ℕ) → is_member q order ≡ is_in_order (object_at replaced q)) → AllPairs (λ a b. a ≡ b → ⊥) order → IsHeap replaced
    replaced_heap are_bytes locks in_order once = record {
      placed = placed_from replaced inside apart;
      grained = All-from_Each _ (blocks replaced) (Each-from IsGrained (blocks replaced) (λ x m. grained x (member_block replaced x m)));
      low_grained = is.low_grained;
      at_bytes = λ q. elim (cases_eq q id) [
        | inl e ↦ is.at_bytes q ∙ ap (λ p. is_some (bytes_in p)) (ap (object_at old) e ∙ there) ∙ sym same_some ∙ ap (λ p. is_some (bytes_in p)) (sym (inserted_here old.objects id o q e))
        | inr d ↦ is.at_bytes q ∙ ap (λ p. is_some (bytes_in p)) (sym (inserted_other old.objects id o q d))
      ];
      are_bytes = λ q. elim (cases_eq q id) [
        | inl e ↦ subst (λ p. AreBytes (bytes_in p)) (sym (inserted_here old.objects id o q e)) are_bytes
        | inr d ↦ subst (λ p. AreBytes (bytes_in p)) (sym (inserted_other old.objects id o q d)) (is.are_bytes q)
      ];
      in_order = in_order;
      no_repeats = once;
      counted = λ q. elim (cases_eq q id) [
        | inl e ↦ subst (λ p. IfSome p IsCounted) (sym (inserted_here old.objects id o q e)) locks
        | inr d ↦ subst (λ p. IfSome p IsCounted) (sym (inserted_other old.objects id o q d)) (is.counted q)
      ];
    }

    -- with the kind as it was, and the order too
    pub resized_heap : AreBytes o.bytes → IsCounted o → order ≡ old.order → o.kind ≡ before.kind → IsHeap replaced
    resized_heap are_bytes locks same kind = replaced_heap are_bytes locks
        (λ q. ap (is_member q) same ∙ is.in_order q ∙ elim (cases_eq q id) [
          | inl e ↦ ap is_in_order (ap (object_at old) e ∙ there) ∙ (λ i. is_discardable (sym kind i) && sym same_some i) ∙ ap is_in_order (sym (inserted_here old.objects id o q e))
          | inr d ↦ ap is_in_order (sym (inserted_other old.objects id o q d))
        ])
        (subst (λ l. AllPairs (λ a b. a ≡ b → ⊥) l) (sym same) is.no_repeats)

-- An object's bytes lie where they lie.
module _ (old : Heap) (is : IsHeap old) (id : ℕ) (o : Object) (there : object_at old id ≡ Some o) (bytes : List ℕ) (has : o.bytes ≡ Some bytes) where
  -- its block
  abbrev pub block_there : Block
  block_there = record { id = id; at = unwrap_or (finmap.get old.places id) 0; size = length bytes; hold = hold_of_object o }

  pub is_block_there : IsBlockOf old block_there
  is_block_there = record { object = o; bytes = bytes; is_there = there; has_bytes = has; place = refl; size = refl; hold = refl }

  abbrev Lies : Block → Type 0
  Lies x = (old.lo ≤ x.at) × (0 < x.size) × (block_end x ≤ old.hi)

  abbrev AreWhole : Block → Type 0
  AreWhole x = IsMultiple old.grain x.at × IsMultiple old.grain x.size

  pub lies_there : MayLie old id (unwrap_or (finmap.get old.places id) 0) (length bytes)
  lies_there =
      let m : Member block_there (blocks old) = block_member old block_there is_block_there in
      let l : Lies block_there = Each-at Lies (blocks old) (Each-from_All _ (blocks old) is.placed.inside) block_there m in
      let g : AreWhole block_there = Each-at AreWhole (blocks old) (Each-from_All _ (blocks old) is.grained) block_there m in
      record {
        low = l.0;
        some = l.1;
        high = l.2;
        at_grain = g.0;
        grain = g.1;
        apart = λ y b d. two_placed old is block_there y is_block_there b (λ e. d (sym (ap (λ (z : Block). z.id) e)));
      }
