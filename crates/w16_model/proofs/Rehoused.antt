-- An object under another slot: the heap is one still.
use Rattle.w16_model.proofs
use proofs.Gaps as M
use Rattle.std.specs.List.{AllByRecursion as Each}
use proofs.Common.{◌≡◌, ◌≢◌, ℕ, ◌*◌, ◌<◌, ◌≤◌, inl, inr, false, cond, not, ◌||◌, ◌==◌, if◌then◌else◌, IfSome, List, [], ◌∷◌, map, All, Option, Some, None, is_some, unwrap_or, refl, sym, ap, ◌∙◌, subst, eq-eqb, ne_eqb, nat_cmp, FinMap, false≢true, cases_eq, Block, block_end, is_member}
use proofs.Common.{Heap, IsHeap, IsCounted, blocks, object_at, is_in_order, without, rekeyed}
use proofs.Heaps.{IsBlockOf, block_member, member_block}
use proofs.Discards.{true-is_member}
use proofs.KeptHeaps.{bytes_in, inserted_here, inserted_other, taken_here, taken_other}
use proofs.Places.{placed_from, two_placed, same_id}
use Rattle.std.specs.FinMap as finmap

module _ (from to : ℕ) (another : from ≢ to) where
  -- the slots with these two changed for each other, and the new slot in place of the old one
  abbrev pub swap : ℕ → ℕ
  swap q = cond (q == to) from (cond (q == from) to q)

  abbrev pub moved : ℕ → ℕ
  moved q = if q == from then to else q

  pub swap_to : (q : ℕ) → q ≡ to → swap q ≡ from
  swap_to q e = ap (λ b. cond b from (cond (q == from) to q)) (eq-eqb q to e)

  pub swap_from : (q : ℕ) → q ≡ from → swap q ≡ to
  swap_from q e = ap (λ b. cond b from (cond (q == from) to q)) (ne_eqb q to (λ f. another (sym e ∙ f))) ∙ ap (λ b. cond b to q) (eq-eqb q from e)

  pub swap_other : (q : ℕ) → q ≢ to → q ≢ from → swap q ≡ q
  swap_other q d f = ap (λ b. cond b from (cond (q == from) to q)) (ne_eqb q to d) ∙ ap (λ b. cond b to q) (ne_eqb q from f)

  -- one of three
  pub which : (P : ℕ → Type 0) (q : ℕ) → (q ≡ to → P q) → (q ≡ from → P q) → (q ≢ to → q ≢ from → P q) → P q
  which P q f g h = elim (cases_eq q to) [
    | inl e ↦ f e
    | inr d ↦ elim (cases_eq q from) [ inl e ↦ g e | inr c ↦ h d c ]
  ]

  swap_back : (q : ℕ) → swap (swap q) ≡ q
  swap_back q = which (λ q. swap (swap q) ≡ q) q
      (λ e. ap swap (swap_to q e) ∙ swap_from from refl ∙ sym e)
      (λ e. ap swap (swap_from q e) ∙ swap_to to refl ∙ sym e)
      (λ d f. ap swap (swap_other q d f) ∙ swap_other q d f)

  -- a map's value under another key
  module _ {X : Type 0} (m : FinMap nat_cmp X) (free : finmap.get m to ≡ None) where
    pub rekeyed_at : (q : ℕ) → finmap.get (rekeyed m from to) q ≡ finmap.get m (swap q)
    rekeyed_at q = turn (finmap.get m from) refl
      where
        turn : (p : Option X) → finmap.get m from ≡ p → finmap.get (elim p as (λ _. FinMap nat_cmp X) [ Some x ↦ finmap.insert (finmap.remove m from) to x | None ↦ m ]) q ≡ finmap.get m (swap q)
        turn None e = which (λ q. finmap.get m q ≡ finmap.get m (swap q)) q
            (λ f. ap (finmap.get m) f ∙ free ∙ sym (ap (finmap.get m) (swap_to q f) ∙ e))
            (λ f. ap (finmap.get m) f ∙ e ∙ sym (ap (finmap.get m) (swap_from q f) ∙ free))
            (λ d f. ap (finmap.get m) (sym (swap_other q d f)))
        turn (Some x) e = which (λ q. finmap.get (finmap.insert (finmap.remove m from) to x) q ≡ finmap.get m (swap q)) q
            (λ f. inserted_here (finmap.remove m from) to x q f ∙ sym e ∙ ap (finmap.get m) (sym (swap_to q f)))
            (λ f. inserted_other (finmap.remove m from) to x q (λ g. another (sym f ∙ g)) ∙ taken_here m from q f ∙ sym free ∙ ap (finmap.get m) (sym (swap_from q f)))
            (λ d f. inserted_other (finmap.remove m from) to x q d ∙ taken_other m from q f ∙ ap (finmap.get m) (sym (swap_other q d f)))

  -- The order of use.

  moved_from : (q : ℕ) → q ≡ from → moved q ≡ to
  moved_from q e = ap (λ b. cond b to q) (eq-eqb q from e)

  moved_other : (q : ℕ) → q ≢ from → moved q ≡ q
  moved_other q d = ap (λ b. cond b to q) (ne_eqb q from d)

  same_test : (r q : ℕ) → r ≢ to → (moved r == q) ≡ (r == swap q)
  same_test r q out = elim (cases_eq r from) [
    | inl e ↦ ap (λ k. k == q) (moved_from r e) ∙ which (λ q. (to == q) ≡ (r == swap q)) q
        (λ f. eq-eqb to q (sym f) ∙ sym (eq-eqb r (swap q) (e ∙ sym (swap_to q f))))
        (λ f. ne_eqb to q (λ g. another (sym f ∙ sym g)) ∙ sym (ne_eqb r (swap q) (λ g. out (g ∙ swap_from q f))))
        (λ d f. ne_eqb to q (λ g. d (sym g)) ∙ sym (ne_eqb r (swap q) (λ g. f (sym (swap_other q d f) ∙ sym g ∙ e))))
    | inr c ↦ ap (λ k. k == q) (moved_other r c) ∙ which (λ q. (r == q) ≡ (r == swap q)) q
        (λ f. ne_eqb r q (λ g. out (g ∙ f)) ∙ sym (ne_eqb r (swap q) (λ g. c (g ∙ swap_to q f))))
        (λ f. ne_eqb r q (λ g. c (g ∙ f)) ∙ sym (ne_eqb r (swap q) (λ g. out (g ∙ swap_from q f))))
        (λ d f. ap (λ k. r == k) (sym (swap_other q d f)))
  ]

  member_moved : (ids : List ℕ) → Each (λ q. q ≢ to) ids → (q : ℕ) → is_member q (map moved ids) ≡ is_member (swap q) ids
  member_moved [] h q = refl
  member_moved (r ∷ ids) h q = ap (λ b. b || is_member q (map moved ids)) (same_test r q h.0) ∙ ap (λ b. (r == swap q) || b) (member_moved ids h.1 q)

  one_moved : (q r : ℕ) → q ≢ to → r ≢ to → (q ≡ r → ⊥) → moved q ≡ moved r → ⊥
  one_moved q r out away d e = elim (cases_eq q from) [
    | inl f ↦ elim (cases_eq r from) [
      | inl g ↦ d (f ∙ sym g)
      | inr c ↦ away (sym (moved_other r c) ∙ sym e ∙ moved_from q f)
    ]
    | inr b ↦ elim (cases_eq r from) [
      | inl g ↦ out (sym (moved_other q b) ∙ e ∙ moved_from r g)
      | inr c ↦ d (sym (moved_other q b) ∙ e ∙ moved_other r c)
    ]
  ]

  -- the others stand as they did
  rest_moved : (ids : List ℕ) → Each (λ q. q ≢ to) ids → without to (map moved ids) ≡ without from ids
  rest_moved [] h = refl
  rest_moved (r ∷ ids) h = elim (cases_eq r from) [
    | inl e ↦ (λ i. cond {A = List ℕ} (not (eq-eqb (moved r) to (moved_from r e) i)) (moved r ∷ without to (map moved ids)) (without to (map moved ids))) ∙ rest_moved ids h.1
        ∙ sym (λ i. cond {A = List ℕ} (not (eq-eqb r from e i)) (r ∷ without from ids) (without from ids))
    | inr c ↦ (λ i. cond {A = List ℕ} (not (ne_eqb (moved r) to (λ g. h.0 (sym (moved_other r c) ∙ g)) i)) (moved r ∷ without to (map moved ids)) (without to (map moved ids)))
        ∙ (λ i. moved_other r c i ∷ rest_moved ids h.1 i)
        ∙ sym (λ i. cond {A = List ℕ} (not (ne_eqb r from c i)) (r ∷ without from ids) (without from ids))
  ]

  each_moved : (q : ℕ) → q ≢ to → (ids : List ℕ) → Each (λ r. r ≢ to) ids → Each (λ r. q ≡ r → ⊥) ids → Each (λ r. moved q ≡ r → ⊥) (map moved ids)
  each_moved q out [] h d = tt
  each_moved q out (r ∷ ids) h d = (one_moved q r out h.0 d.0, each_moved q out ids h.1 d.1)

  pairs_moved : (ids : List ℕ) → Each (λ q. q ≢ to) ids → M.EachPair (λ a b. a ≡ b → ⊥) ids → M.EachPair (λ a b. a ≡ b → ⊥) (map moved ids)
  pairs_moved [] h d = tt
  pairs_moved (q ∷ ids) h d = (each_moved q h.0 ids h.1 d.0, pairs_moved ids h.1 d.1)

  -- The heap.
  module _ (old : Heap) (is : IsHeap old) (free : object_at old to ≡ None) where
    no_place : finmap.get old.places to ≡ None
    no_place = turn (finmap.get old.places to) refl (is.at_bytes to ∙ ap (λ p. is_some (bytes_in p)) free)
      where
        turn : (p : Option ℕ) → finmap.get old.places to ≡ p → is_some p ≡ false → finmap.get old.places to ≡ None
        turn None e t = e
        turn (Some at) e t = absurd (false≢true (sym t))

    out_of_order : Each (λ q. q ≢ to) old.order
    out_of_order = M.Each-from (λ q. q ≢ to) old.order (λ q m e. false≢true (sym (is.in_order to ∙ ap is_in_order free) ∙ ap (λ k. is_member k old.order) (sym e) ∙ true-is_member q old.order m))

    abbrev pub new : Heap
    new = record old { objects = rekeyed old.objects from to; places = rekeyed old.places from to; order = map moved old.order }

    pub object_there : (q : ℕ) → object_at new q ≡ object_at old (swap q)
    object_there q = rekeyed_at old.objects free q

    pub place_there : (q : ℕ) → finmap.get new.places q ≡ finmap.get old.places (swap q)
    place_there q = rekeyed_at old.places no_place q

    pub order_there : without to new.order ≡ without from old.order
    order_there = rest_moved old.order out_of_order

    -- each block is one of old's under another id
    was_block : (x : Block) → IsBlockOf new x → IsBlockOf old (record x { id = swap x.id })
    was_block x b = record {
      object = b.object;
      bytes = b.bytes;
      is_there = sym (object_there x.id) ∙ b.is_there;
      has_bytes = b.has_bytes;
      place = b.place ∙ ap (λ p. unwrap_or p 0) (place_there x.id);
      size = b.size;
      hold = b.hold;
    }

    one_id : (x y : Block) → swap x.id ≡ swap y.id → x.id ≡ y.id
    one_id x y e = sym (swap_back x.id) ∙ ap swap e ∙ swap_back y.id

    pub rehoused_heap : IsHeap new
    rehoused_heap = record {
      placed = placed_from new
          (λ x b. M.Each-at (λ y. (old.lo ≤ y.at) × (0 < y.size) × (block_end y ≤ old.hi)) (blocks old) (M.Each-from_All _ (blocks old) is.placed.inside) (record x { id = swap x.id }) (block_member old (record x { id = swap x.id }) (was_block x b)))
          (λ x y b c d. two_placed old is (record x { id = swap x.id }) (record y { id = swap y.id }) (was_block x b) (was_block y c)
          (λ e. d (same_id new x y b c (one_id x y (ap (λ (z : Block). z.id) e)))));
      grained = M.All-from_Each _ (blocks new) (M.Each-from (λ x. ((n : ℕ) × (x.at ≡ old.grain * n)) × ((n : ℕ) × (x.size ≡ old.grain * n))) (blocks new) (λ x m.
          M.Each-at (λ y. ((n : ℕ) × (y.at ≡ old.grain * n)) × ((n : ℕ) × (y.size ≡ old.grain * n))) (blocks old) (M.Each-from_All _ (blocks old) is.grained) (record x { id = swap x.id }) (block_member old (record x { id = swap x.id }) (was_block x (member_block new x m)))));
      low_grained = is.low_grained;
      at_bytes = λ q. ap is_some (place_there q) ∙ is.at_bytes (swap q) ∙ ap (λ p. is_some (bytes_in p)) (sym (object_there q));
      are_bytes = λ q. subst (λ p. IfSome (bytes_in p) (All (λ b. b < 256))) (sym (object_there q)) (is.are_bytes (swap q));
      in_order = λ q. member_moved old.order out_of_order q ∙ is.in_order (swap q) ∙ ap is_in_order (sym (object_there q));
      no_repeats = M.AllPairs-from_EachPair (λ a b. a ≡ b → ⊥) (map moved old.order) (pairs_moved old.order out_of_order (M.EachPair-from_AllPairs (λ a b. a ≡ b → ⊥) old.order is.no_repeats));
      counted = λ q. subst (λ p. IfSome p IsCounted) (sym (object_there q)) (is.counted (swap q));
    }
