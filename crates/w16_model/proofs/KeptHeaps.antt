-- Changes of a heap that leave it one: each object stays where it stands, or goes.
use Rattle.w16_model.proofs
use proofs.Common as C
use proofs.Gaps as M
use proofs.Orders as K
use proofs.Common.{◌≡◌, ◌≢◌, ℕ, ◌+◌, ◌-◌, ◌*◌, ◌<◌, ◌≤◌, inl, inr, Bool, true, false, cond, not, if◌then◌else◌, ◌&&◌, ◌==◌, IfSome, List, [], ◌∷◌, ◌++◌, length, All, AllPairs, Option, Some, None, option_map, is_some, refl, sym, ap, ◌∙◌, subst, arith, nat_cmp_total, nat_cmp, FinMap}
use proofs.Common.{false≢true, cases_eq, Block, Kind, Fixed, Moveable, Discardable, block_end, is_member, Heap, Object, IsHeap, IsCounted, blocks, object_at, is_in_order, is_fixed, is_discardable, with_object, without, touched, put_part}
use proofs.Heaps.{IsBlockOf, block_member, member_block, tied_itself, untied}
use proofs.Places.{placed_from, two_placed, same_id}
use proofs.{Parts.length-put_part, Parts.All-put_part, Orders.member_back}
use Rattle.std.specs.FinMap as finmap
use Rattle.w16_model.specs.declared.Refusal.TheVariants as refusals

-- a block of the heap with x's id, address and size
abbrev pub Stands : Heap → Block → Type 0
Stands heap x = (w : Block) × IsBlockOf heap w × (w.id ≡ x.id) × (w.at ≡ x.at) × (w.size ≡ x.size)

-- A heap over old's range where each block stands as one of old's does.
module _ (old : Heap) (is : IsHeap old) (objects : FinMap nat_cmp Object) (places : FinMap nat_cmp ℕ) (order : List ℕ) where
  -- old with other objects, addresses and order
  abbrev pub changed : Heap
  changed = record old { objects = objects; places = places; order = order }

  -- what the heap says of where a block lies, and of its grains
  abbrev Lies : Block → Type 0
  Lies x = (old.lo ≤ x.at) × (0 < x.size) × (block_end x ≤ old.hi)

  abbrev IsGrained : Block → Type 0
  IsGrained x = ((n : ℕ) × (x.at ≡ old.grain * n)) × ((n : ℕ) × (x.size ≡ old.grain * n))

  -- its blocks are placed
  pub same_placed : ((x : Block) → IsBlockOf changed x → Stands old x) → C.ArePlaced old.lo old.hi (blocks changed)
  same_placed stands = placed_from changed
      (λ x b. let w : Stands old x = stands x b in
      lies w.0 x w.3 w.4 (M.Each-at Lies (blocks old) (M.Each-from_All _ (blocks old) is.placed.inside) w.0 (block_member old w.0 w.1)))
      (λ x y b c d.
      let w : Stands old x = stands x b in
      let v : Stands old y = stands y c in
      misses w.0 x v.0 y w.3 w.4 v.3 v.4 (two_placed old is w.0 v.0 w.1 v.1 (λ e. d (same_id changed x y b c (sym w.2 ∙ ap (λ (z : Block). z.id) e ∙ v.2)))))
    where
      lies : (w x : Block) → w.at ≡ x.at → w.size ≡ x.size → Lies w → Lies x
      lies w x at size h = (omega arith, omega arith, omega arith)

      misses : (w x v y : Block) → w.at ≡ x.at → w.size ≡ x.size → v.at ≡ y.at → v.size ≡ y.size → C.Misses w.at w.size v.at (block_end v) → C.Misses x.at x.size y.at (block_end y)
      misses w x v y a b c d h = grind arith

  -- and have whole grains
  pub same_grained : ((x : Block) → IsBlockOf changed x → Stands old x) → All (λ x. C.IsMultiple old.grain x.at × C.IsMultiple old.grain x.size) (blocks changed)
  same_grained stands = M.All-from_Each _ (blocks changed) (M.Each-from IsGrained (blocks changed) (λ x m.
      let w : Stands old x = stands x (member_block changed x m) in
      let g : IsGrained w.0 = M.Each-at IsGrained (blocks old) (M.Each-from_All _ (blocks old) is.grained) w.0 (block_member old w.0 w.1) in
      ((g.0.0, sym w.3 ∙ g.0.1), (g.1.0, sym w.4 ∙ g.1.1))))

-- A map once a key is put in, or taken out.
module _ {X : Type 0} (m : FinMap nat_cmp X) (id : ℕ) where
  -- the key put in has its new value
  pub inserted_here : (x : X) (q : ℕ) → q ≡ id → finmap.get (finmap.insert m id x) q ≡ Some x
  inserted_here x q e = C.get-insert nat_cmp_total m id x q ∙ ap (λ b. cond b (Some x) (finmap.get m q)) (ap (λ k. C.eq_by_cmp nat_cmp k id) e ∙ tied_itself id)

  -- and another has its own
  pub inserted_other : (x : X) (q : ℕ) → q ≢ id → finmap.get (finmap.insert m id x) q ≡ finmap.get m q
  inserted_other x q d = C.get-insert nat_cmp_total m id x q ∙ ap (λ b. cond b (Some x) (finmap.get m q)) (untied q id d)

  -- the key taken out has none
  pub taken_here : (q : ℕ) → q ≡ id → finmap.get (finmap.remove m id) q ≡ None
  taken_here q e = C.get-remove nat_cmp_total m id q ∙ ap (λ b. cond b None (finmap.get m q)) (ap (λ k. C.eq_by_cmp nat_cmp k id) e ∙ tied_itself id)

  -- and another has its own
  pub taken_other : (q : ℕ) → q ≢ id → finmap.get (finmap.remove m id) q ≡ finmap.get m q
  taken_other q d = C.get-remove nat_cmp_total m id q ∙ ap (λ b. cond b None (finmap.get m q)) (untied q id d)

-- the bytes of an object, if it is there and has any
abbrev pub bytes_in : Option Object → Option (List ℕ)
bytes_in o = elim o [ Some o ↦ o.bytes | None ↦ None ]

-- what a heap has of them
abbrev pub AreBytes : Option (List ℕ) → Type 0
AreBytes bytes = IfSome bytes (All (λ b. b < 256))

-- a heap with another order of the same members is one
pub reordered : (old : Heap) → IsHeap old → (order : List ℕ) → ((q : ℕ) → is_member q order ≡ is_member q old.order) → AllPairs (λ a b. a ≡ b → ⊥) order → IsHeap (record old { order = order })
reordered old is order members once = record {
  placed = is.placed;
  grained = is.grained;
  low_grained = is.low_grained;
  at_bytes = is.at_bytes;
  are_bytes = is.are_bytes;
  in_order = λ q. members q ∙ is.in_order q;
  no_repeats = once;
  counted = is.counted;
}

-- An object that is there is changed, and keeps its kind and the number of its bytes.
module _ (old : Heap) (is : IsHeap old) (id : ℕ) (before o : Object) (there : object_at old id ≡ Some before)
    (kind : o.kind ≡ before.kind) (size : option_map length o.bytes ≡ option_map length before.bytes) where
  -- each block stands where it stood
  block_stands : (x : Block) → IsBlockOf (with_object old id o) x → Stands old x
  block_stands x b = elim (cases_eq x.id id) [
    | inl e ↦
        let same : b.object ≡ o = (let some : ◌≡◌ {A = Option Object} (Some b.object) (Some o) = sym b.is_there ∙ inserted_here old.objects id o x.id e in cc) in
        from e before.bytes refl (sym size ∙ ap (λ (p : Object). option_map length p.bytes) (sym same) ∙ ap (option_map length) b.has_bytes)
    | inr d ↦ (
      x,
      record {
        object = b.object;
        bytes = b.bytes;
        is_there = sym (inserted_other old.objects id o x.id d) ∙ b.is_there;
        has_bytes = b.has_bytes;
        place = b.place;
        size = b.size;
        hold = b.hold;
      },
      refl,
      refl,
      refl,
    )
  ]
    where
      from : x.id ≡ id → (bytes : Option (List ℕ)) → before.bytes ≡ bytes → option_map length bytes ≡ Some (length b.bytes) → Stands old x
      from e None has long = cc
      from e (Some bytes) has long = (
        record { id = x.id; at = x.at; size = length bytes; hold = C.hold_of_object before },
        record { object = before; bytes = bytes; is_there = ap (object_at old) e ∙ there; has_bytes = has; place = b.place; size = refl; hold = refl },
        refl,
        refl,
        (let same : length bytes ≡ length b.bytes = cc in same ∙ sym b.size),
      )

  -- the object has bytes just where it had some
  some_length : (b : Option (List ℕ)) → is_some (option_map length b) ≡ is_some b
  some_length None = refl
  some_length (Some b) = refl

  -- before and after
  same_some : is_some o.bytes ≡ is_some before.bytes
  same_some = sym (some_length o.bytes) ∙ ap is_some size ∙ some_length before.bytes

  -- the heap with it is one
  pub other_heap : AreBytes o.bytes → IsCounted o → IsHeap (with_object old id o)
  other_heap are_bytes locks = record {
    placed = same_placed old is (finmap.insert old.objects id o) old.places old.order block_stands;
    grained = same_grained old is (finmap.insert old.objects id o) old.places old.order block_stands;
    low_grained = is.low_grained;
    at_bytes = λ q. elim (cases_eq q id) [
      | inl e ↦ is.at_bytes q ∙ ap (λ p. is_some (bytes_in p)) (ap (object_at old) e ∙ there) ∙ sym same_some ∙ ap (λ p. is_some (bytes_in p)) (sym (inserted_here old.objects id o q e))
      | inr d ↦ is.at_bytes q ∙ ap (λ p. is_some (bytes_in p)) (sym (inserted_other old.objects id o q d))
    ];
    are_bytes = λ q. elim (cases_eq q id) [
      | inl e ↦ subst (λ p. AreBytes (bytes_in p)) (sym (inserted_here old.objects id o q e)) are_bytes
      | inr d ↦ subst (λ p. AreBytes (bytes_in p)) (sym (inserted_other old.objects id o q d)) (is.are_bytes q)
    ];
    in_order = λ q. elim (cases_eq q id) [
      | inl e ↦ is.in_order q ∙ ap is_in_order (ap (object_at old) e ∙ there) ∙ (λ i. is_discardable (sym kind i) && sym same_some i) ∙ ap is_in_order (sym (inserted_here old.objects id o q e))
      | inr d ↦ is.in_order q ∙ ap is_in_order (sym (inserted_other old.objects id o q d))
    ];
    no_repeats = is.no_repeats;
    counted = λ q. elim (cases_eq q id) [
      | inl e ↦ subst (λ p. IfSome p IsCounted) (sym (inserted_here old.objects id o q e)) locks
      | inr d ↦ subst (λ p. IfSome p IsCounted) (sym (inserted_other old.objects id o q d)) (is.counted q)
    ];
  }

-- A new object without bytes, at an id that has none.
module _ (old : Heap) (is : IsHeap old) (id : ℕ) (kind : Kind) (unused : object_at old id ≡ None) where
  abbrev entered : Object
  entered = record { kind = kind; locks = 0; bytes = None }

  -- it has no block
  entered_stands : (x : Block) → IsBlockOf (with_object old id entered) x → Stands old x
  entered_stands x b = elim (cases_eq x.id id) [
    | inl e ↦
        let same : b.object ≡ entered = (let some : ◌≡◌ {A = Option Object} (Some b.object) (Some entered) = sym b.is_there ∙ inserted_here old.objects id entered x.id e in cc) in
        let none : ◌≡◌ {A = Option (List ℕ)} (Some b.bytes) None = sym b.has_bytes ∙ ap (λ (p : Object). p.bytes) same in
        cc
    | inr d ↦ (
      x,
      record {
        object = b.object;
        bytes = b.bytes;
        is_there = sym (inserted_other old.objects id entered x.id d) ∙ b.is_there;
        has_bytes = b.has_bytes;
        place = b.place;
        size = b.size;
        hold = b.hold;
      },
      refl,
      refl,
      refl,
    )
  ]

  -- nor a place in the order
  unlisted : (k : Kind) → (is_discardable k && false) ≡ false
  unlisted Fixed = refl
  unlisted Moveable = refl
  unlisted Discardable = refl

  -- the heap with it is one
  pub entered_heap : IsHeap (with_object old id entered)
  entered_heap = record {
    placed = same_placed old is (finmap.insert old.objects id entered) old.places old.order entered_stands;
    grained = same_grained old is (finmap.insert old.objects id entered) old.places old.order entered_stands;
    low_grained = is.low_grained;
    at_bytes = λ q. elim (cases_eq q id) [
      | inl e ↦ is.at_bytes q ∙ ap (λ p. is_some (bytes_in p)) (ap (object_at old) e ∙ unused) ∙ ap (λ p. is_some (bytes_in p)) (sym (inserted_here old.objects id entered q e))
      | inr d ↦ is.at_bytes q ∙ ap (λ p. is_some (bytes_in p)) (sym (inserted_other old.objects id entered q d))
    ];
    are_bytes = λ q. elim (cases_eq q id) [
      | inl e ↦ subst (λ p. AreBytes (bytes_in p)) (sym (inserted_here old.objects id entered q e)) tt
      | inr d ↦ subst (λ p. AreBytes (bytes_in p)) (sym (inserted_other old.objects id entered q d)) (is.are_bytes q)
    ];
    in_order = λ q. elim (cases_eq q id) [
      | inl e ↦ is.in_order q ∙ ap is_in_order (ap (object_at old) e ∙ unused) ∙ sym (unlisted kind) ∙ ap is_in_order (sym (inserted_here old.objects id entered q e))
      | inr d ↦ is.in_order q ∙ ap is_in_order (sym (inserted_other old.objects id entered q d))
    ];
    no_repeats = is.no_repeats;
    counted = λ q. elim (cases_eq q id) [
      | inl e ↦ subst (λ p. IfSome p IsCounted) (sym (inserted_here old.objects id entered q e)) (omega arith, λ _. refl, λ _. refl)
      | inr d ↦ subst (λ p. IfSome p IsCounted) (sym (inserted_other old.objects id entered q d)) (is.counted q)
    ];
  }

-- a use of an object leaves the order its members
pub member_touched : (id : ℕ) (order : List ℕ) (q : ℕ) → is_member q (touched id order) ≡ is_member q order
member_touched id order q = turn _ refl
  where
    turn : (t : Bool) → is_member id order ≡ t → is_member q (cond {A = List ℕ} t (without id order ++ id ∷ []) order) ≡ is_member q order
    turn true t = K.member_newest q id order ∙ member_back id order q t
    turn false t = refl

-- and none stands twice
once_touched : (id : ℕ) (order : List ℕ) → AllPairs (λ a b. a ≡ b → ⊥) order → AllPairs (λ a b. a ≡ b → ⊥) (touched id order)
once_touched id order h = turn _
  where
    turn : (t : Bool) → AllPairs (λ a b. a ≡ b → ⊥) (cond {A = List ℕ} t (without id order ++ id ∷ []) order)
    turn true = K.newest_differ id order h
    turn false = h

-- the heap once an object was used is one
pub touched_heap : (old : Heap) → IsHeap old → (id : ℕ) → IsHeap (C.after_touch old id)
touched_heap old is id = reordered old is _ (member_touched id _) (once_touched id _ is.no_repeats)

-- a discardable object with bytes at the newest end of the order, and at the oldest
pub newest_heap : (old : Heap) → IsHeap old → (id : ℕ) → is_member id old.order ≡ true → IsHeap (record old { order = C.newest id old.order })
newest_heap old is id there =
    reordered old is _ (λ q. K.member_newest q id _ ∙ member_back id _ q there) (K.newest_differ id _ is.no_repeats)

pub oldest_heap : (old : Heap) → IsHeap old → (id : ℕ) → is_member id old.order ≡ true → IsHeap (record old { order = C.oldest id old.order })
oldest_heap old is id there =
    reordered old is _ (λ q. K.member_oldest q id _ ∙ member_back id _ q there) (K.oldest_differ id _ is.no_repeats)

-- an object that may be put there is in the order
pub ordered : (old : Heap) → IsHeap old → (id : ℕ) → C.refused_order old id ≡ None → is_member id old.order ≡ true
ordered old is id allowed = is.in_order id ∙ turn _ allowed
  where
    choice : (b d : Bool) → ◌≡◌ {A = Option C.Refusal} (cond (not b) (Some refusals.Absent) (cond d None (Some refusals.NotDiscardable))) None → (d && b) ≡ true
    choice true true h = refl
    choice true false h = cc
    choice false d h = cc

    turn : (p : Option Object) → ◌≡◌ {A = Option C.Refusal} (elim p [
      | None ↦ Some refusals.Absent
      | Some o ↦ if not (is_some o.bytes) then Some refusals.Absent else (if is_discardable o.kind then None else Some refusals.NotDiscardable)
    ]) None → is_in_order p ≡ true
    turn None h = cc
    turn (Some o) h = choice _ _ h

-- An object goes.
module _ (old : Heap) (is : IsHeap old) (id : ℕ) where
  -- each block that is left stands where it stood
  left_stands : (x : Block) → IsBlockOf (C.removed old id) x → Stands old x
  left_stands x b = elim (cases_eq x.id id) [
    | inl e ↦ absurd (none (sym (taken_here old.objects id x.id e) ∙ b.is_there))
    | inr d ↦ (
      x,
      record {
        object = b.object;
        bytes = b.bytes;
        is_there = sym (taken_other old.objects id x.id d) ∙ b.is_there;
        has_bytes = b.has_bytes;
        place = b.place ∙ ap (λ p. C.unwrap_or p 0) (taken_other old.places id x.id d);
        size = b.size;
        hold = b.hold;
      },
      refl,
      refl,
      refl,
    )
  ]
    where
      none : ◌≡◌ {A = Option Object} None (Some b.object) → ⊥
      none e = cc

  -- the heap without it is one
  pub removed_heap : IsHeap (C.removed old id)
  removed_heap = record {
    placed = same_placed old is (finmap.remove old.objects id) (finmap.remove old.places id) (without id old.order) left_stands;
    grained = same_grained old is (finmap.remove old.objects id) (finmap.remove old.places id) (without id old.order) left_stands;
    low_grained = is.low_grained;
    at_bytes = λ q. elim (cases_eq q id) [
      | inl e ↦ ap is_some (taken_here old.places id q e) ∙ ap (λ p. is_some (bytes_in p)) (sym (taken_here old.objects id q e))
      | inr d ↦ ap is_some (taken_other old.places id q d) ∙ is.at_bytes q ∙ ap (λ p. is_some (bytes_in p)) (sym (taken_other old.objects id q d))
    ];
    are_bytes = λ q. elim (cases_eq q id) [
      | inl e ↦ subst (λ p. AreBytes (bytes_in p)) (sym (taken_here old.objects id q e)) tt
      | inr d ↦ subst (λ p. AreBytes (bytes_in p)) (sym (taken_other old.objects id q d)) (is.are_bytes q)
    ];
    in_order = λ q. elim (cases_eq q id) [
      | inl e ↦ K.member_without q id old.order ∙ ap (λ b. is_member q old.order && not b) (C.eq-eqb q id e) ∙ out (is_member q old.order) ∙ ap is_in_order (sym (taken_here old.objects id q e))
      | inr d ↦ K.member_without q id old.order ∙ ap (λ b. is_member q old.order && not b) (C.ne_eqb q id d) ∙ still (is_member q old.order) ∙ is.in_order q ∙ ap is_in_order (sym (taken_other old.objects id q d))
    ];
    no_repeats = M.AllPairs-from_EachPair (λ a b. a ≡ b → ⊥) (without id old.order) (M.pairs_filter (λ a b. a ≡ b → ⊥) (λ q. not (q == id)) old.order (M.EachPair-from_AllPairs (λ a b. a ≡ b → ⊥) old.order is.no_repeats));
    counted = λ q. elim (cases_eq q id) [
      | inl e ↦ subst (λ p. IfSome p IsCounted) (sym (taken_here old.objects id q e)) tt
      | inr d ↦ subst (λ p. IfSome p IsCounted) (sym (taken_other old.objects id q d)) (is.counted q)
    ];
  }
    where
      out : (b : Bool) → (b && false) ≡ false
      out true = refl
      out false = refl

      still : (b : Bool) → (b && true) ≡ b
      still true = refl
      still false = refl

-- Steps on an object that is there.
module _ (old : Heap) (is : IsHeap old) (id : ℕ) (o : Object) (there : object_at old id ≡ Some o) where
  -- what the heap has of it
  counted : IsCounted o
  counted = subst (λ p. IfSome p IsCounted) there (is.counted id)

  -- and of its bytes
  are_bytes_there : AreBytes o.bytes
  are_bytes_there = subst (λ p. AreBytes (bytes_in p)) there (is.are_bytes id)

  -- the heap with another count of locks is one
  pub counted_heap : (n : ℕ) → n ≤ 255 → is_fixed o.kind ≡ false → (o.bytes ≡ None → n ≡ 0) → IsHeap (with_object old id (record o { locks = n }))
  counted_heap n le loose without = other_heap old is id o (record o { locks = n }) there refl refl are_bytes_there (le, λ f. absurd (false≢true (sym loose ∙ f)), without)

  -- with one lock more, and used
  pub locked_heap : not (is_some o.bytes) ≡ false → is_fixed o.kind ≡ false → (o.locks == 255) ≡ false → IsHeap (C.with_ordered old id (record o { locks = o.locks + 1 }) (touched id))
  locked_heap has loose some = touched_heap (with_object old id (record o { locks = o.locks + 1 }))
      (counted_heap (o.locks + 1) (omega (arith, counted.0, C.eqb-false o.locks 255 some)) loose (λ none. absurd (false≢true (sym has ∙ ap (λ b. not (is_some b)) none)))) id

  -- with one lock less
  pub unlocked_heap : is_fixed o.kind ≡ false → IsHeap (with_object old id (record o { locks = o.locks - 1 }))
  unlocked_heap loose = counted_heap (o.locks - 1) (omega (arith, counted.0)) loose (λ none. omega (arith, counted.2 none))

  -- A slice of its bytes is replaced.
  module _ (bytes : List ℕ) (has : o.bytes ≡ Some bytes) (at : ℕ) (slice : List ℕ) (inside : at + length slice ≤ length bytes) (new_bytes : All (λ b. b < 256) slice) where
    -- there are as many bytes
    same_length : length (put_part bytes at slice) ≡ length bytes
    same_length = length-put_part bytes at slice inside

    -- and they are bytes
    all_bytes : All (λ b. b < 256) (put_part bytes at slice)
    all_bytes = All-put_part (λ b. b < 256) bytes at slice (subst AreBytes has are_bytes_there) new_bytes

    -- the object with them
    abbrev written : Object
    written = record o { bytes = option_map (λ bytes. put_part bytes at slice) o.bytes }

    -- the heap with them is one
    pub written_heap : IsHeap (C.after_write old id at slice)
    written_heap = subst (λ objects. IsHeap (record old { objects = objects }))
        (λ i. elim (sym there i) [ Some p ↦ finmap.insert old.objects id (record p { bytes = option_map (λ bytes. put_part bytes at slice) p.bytes }) | None ↦ old.objects ])
        (other_heap old is id o written there refl
        (ap (λ p. option_map length (option_map (λ bytes. put_part bytes at slice) p)) has ∙ ap Some same_length ∙ ap (option_map length) (sym has))
        (subst (λ p. AreBytes (option_map (λ bytes. put_part bytes at slice) p)) (sym has) all_bytes)
        (counted.0, counted.1, λ none. let some : ◌≡◌ {A = Option (List ℕ)} (Some (put_part bytes at slice)) None = sym (ap (option_map (λ bytes. put_part bytes at slice)) has) ∙ none in cc))
