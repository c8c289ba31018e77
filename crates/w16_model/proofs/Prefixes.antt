-- What may be discarded, and how many discards a request needs, by the blocks and the order of use.
use Rattle.w16_model.proofs
use proofs.Common as C
use proofs.Common.{find, range_with_len, ◌≡◌, ◌≢◌, ℕ, zero, suc, ◌+◌, ◌<◌, ◌≤◌, inl, inr, Bool, true, false, cond, not, ◌&&◌, ◌||◌, ◌==◌, nat_le, List, [], ◌∷◌, length, get_or, set, swap, take, filter, Option, Some, None, refl, sym, ap, ◌∙◌, subst, arith, IsPermutation, false≢true}
use proofs.Common.{IsPermutation-refl, Block, room, longest_hole, Heap, blocks, eligible, room_for, needed, prefix_for, none_discarded_if, is_member, is_about, is_pinned_id, snapshot, snapshot_of}
use proofs.{Gaps.Member, Heaps.IsBlockOf, Heaps.member_block, Discards.true-is_member, Least.needed-Some, Members.room-permutation}
use Rattle.std.proofs.lemmas.Bool.{le-leb}

-- Filtered lists.
module _ {X : Type 0} where
  -- two tests that agree on the members keep the same ones
  pub filter_same : (p q : X → Bool) (xs : List X) → ((x : X) → Member x xs → p x ≡ q x) → filter p xs ≡ filter q xs
  filter_same p q [] h = refl
  filter_same p q (x ∷ xs) h =
      let rest : filter p xs ≡ filter q xs = filter_same p q xs (λ y m. h y (inr m)) in
      λ i. cond {A = List X} (h x (inl refl) i) (x ∷ rest i) (rest i)

  -- the order of two filters doesn't matter
  pub filter_swapped : (p q : X → Bool) (xs : List X) → filter p (filter q xs) ≡ filter q (filter p xs)
  filter_swapped p q [] = refl
  filter_swapped p q (x ∷ xs) = turn (p x) (q x) refl refl (filter_swapped p q xs)
    where
      turn : (b c : Bool) → p x ≡ b → q x ≡ c → filter p (filter q xs) ≡ filter q (filter p xs)
          → filter p (cond {A = List X} c (x ∷ filter q xs) (filter q xs)) ≡ filter q (cond {A = List X} b (x ∷ filter p xs) (filter p xs))
      turn true true e f rest = (λ i. cond {A = List X} (e i) (x ∷ filter p (filter q xs)) (filter p (filter q xs))) ∙ ap (λ (ys : List X). x ∷ ys) rest ∙ (λ i. cond {A = List X} (sym f i) (x ∷ filter q (filter p xs)) (filter q (filter p xs)))
      turn true false e f rest = rest ∙ (λ i. cond {A = List X} (sym f i) (x ∷ filter q (filter p xs)) (filter q (filter p xs)))
      turn false true e f rest = (λ i. cond {A = List X} (e i) (x ∷ filter p (filter q xs)) (filter p (filter q xs))) ∙ rest
      turn false false e f rest = rest

  -- a filter keeps the same members of a list in another order
  module _ (p : X → Bool) where
    abbrev Kept : List X → List X → Type 0
    Kept xs ys = IsPermutation (filter p xs) (filter p ys)

    -- under a head
    kept_under : (x : X) (xs ys : List X) → Kept xs ys → Kept (x ∷ xs) (x ∷ ys)
    kept_under x xs ys h = turn (p x)
      where
        turn : (b : Bool) → IsPermutation (cond {A = List X} b (x ∷ filter p xs) (filter p xs)) (cond {A = List X} b (x ∷ filter p ys) (filter p ys))
        turn true = C.IsPermutation-cons x (filter p xs) (filter p ys) h
        turn false = h

    -- with two heads in each other's place
    kept_turned : (x y : X) (xs : List X) → Kept (x ∷ y ∷ xs) (y ∷ x ∷ xs)
    kept_turned x y xs = turn (p x) (p y)
      where
        turn : (b c : Bool) → IsPermutation (cond {A = List X} b (x ∷ cond {A = List X} c (y ∷ filter p xs) (filter p xs)) (cond {A = List X} c (y ∷ filter p xs) (filter p xs)))
            (cond {A = List X} c (y ∷ cond {A = List X} b (x ∷ filter p xs) (filter p xs)) (cond {A = List X} b (x ∷ filter p xs) (filter p xs)))
        turn true true = C.IsPermutation-swap (x ∷ y ∷ filter p xs) (y ∷ x ∷ filter p xs) 0 1 (omega arith) (omega arith) refl
        turn true false = IsPermutation-refl (x ∷ filter p xs)
        turn false true = IsPermutation-refl (y ∷ filter p xs)
        turn false false = IsPermutation-refl (filter p xs)

    -- by one order after another
    kept_chain : (xs ys zs : List X) → Kept xs ys → Kept ys zs → Kept xs zs
    kept_chain xs ys zs h k = C.IsPermutation-trans (filter p xs) (filter p ys) (filter p zs) h k

    -- with the head and another in each other's place
    to_head : (l : List X) (j : ℕ) (x d : X) → j < length l → Kept (x ∷ l) (get_or l j d ∷ set l j x)
    to_head [] j x d h = absurd (omega arith)
    to_head (y ∷ l) zero x d h = kept_turned x y l
    to_head (y ∷ l) (suc j) x d h =
        kept_chain (x ∷ y ∷ l) (y ∷ x ∷ l) (get_or l j d ∷ y ∷ set l j x) (kept_turned x y l)
        (kept_chain (y ∷ x ∷ l) (y ∷ get_or l j d ∷ set l j x) (get_or l j d ∷ y ∷ set l j x) (kept_under y (x ∷ l) (get_or l j d ∷ set l j x) (to_head l j x d (omega arith))) (kept_turned y (get_or l j d) (set l j x)))

    -- with any two in each other's place
    exchanged : (l : List X) (i j : ℕ) (d : X) → i < length l → j < length l → Kept l (set (set l i (get_or l j d)) j (get_or l i d))
    exchanged [] i j d h k = absurd (omega arith)
    exchanged (x ∷ l) zero zero d h k = IsPermutation-refl (filter p (x ∷ l))
    exchanged (x ∷ l) zero (suc j) d h k = to_head l j x d (omega arith)
    exchanged (x ∷ l) (suc i) zero d h k = to_head l i x d (omega arith)
    exchanged (x ∷ l) (suc i) (suc j) d h k = kept_under x l (set (set l i (get_or l j d)) j (get_or l i d)) (exchanged l i j d (omega arith) (omega arith))

    -- the same by std's word
    swapped : (l : List X) (i j : ℕ) → i < length l → j < length l → Kept l (swap l i j)
    swapped [] i j h k = IsPermutation-refl []
    swapped (x ∷ l) i j h k = exchanged (x ∷ l) i j x h k

    -- in any order
    pub filter_permutation : (xs ys : List X) → IsPermutation xs ys → IsPermutation (filter p xs) (filter p ys)
    filter_permutation xs = C.IsPermutation-keeps xs (λ l. Kept xs l) (IsPermutation-refl (filter p xs)) (λ l i j h k rest. kept_chain xs l (swap l i j) rest (swapped l i j h k))

-- what may be discarded depends on the members of the blocks alone
pub eligible_by_members : (xs ys : List Block) → IsPermutation xs ys → (order : List ℕ) (h : Option ℕ) → eligible xs order h ≡ eligible ys order h
eligible_by_members xs ys perm order h =
    let same : (id : ℕ) → is_pinned_id xs id ≡ is_pinned_id ys id = λ id. C.list_any-IsPermutation (λ (x : Block). x.id == id && C.is_pinned x) xs ys perm in
    λ i. filter (λ id. not (same id i) && not (is_about h id)) order

-- and so does the room
pub room_by_members : (lo hi : ℕ) (xs ys : List Block) → IsPermutation xs ys → (order : List ℕ) (k : ℕ) (h : Option ℕ) → room_for (snapshot lo hi xs order) k h ≡ room_for (snapshot lo hi ys order) k h
room_by_members lo hi xs ys perm order k h =
    let stays : List ℕ → Block → Bool = λ ids x. not (is_member x.id ids || is_about h x.id) in
    sym (room-permutation lo hi (filter _ xs) (filter _ ys) (filter_permutation _ xs ys perm))
    ∙ ap (λ ids. room lo hi (filter (stays (take k ids)) ys)) (eligible_by_members xs ys perm order h)

-- two requests need as many discards where they have as many to discard and as much room at each number
pub needed_same : (lo hi : ℕ) (xs ys : List Block) (order others : List ℕ) (n : ℕ) (g h : Option ℕ) → length (eligible xs order g) ≡ length (eligible ys others h)
    → ((k : ℕ) → room_for (snapshot lo hi xs order) k g ≡ room_for (snapshot lo hi ys others) k h) → needed (snapshot lo hi xs order) n g ≡ needed (snapshot lo hi ys others) n h
needed_same lo hi xs ys order others n g h long same = λ i. find (λ k. nat_le n (same k i)) (range_with_len 0 (long i + 1))

-- a request's discards depend on the members of the blocks alone
pub needed_by_members : (lo hi : ℕ) (xs ys : List Block) → IsPermutation xs ys → (order : List ℕ) (n : ℕ) (h : Option ℕ) → needed (snapshot lo hi xs order) n h ≡ needed (snapshot lo hi ys order) n h
needed_by_members lo hi xs ys perm order n h = needed_same lo hi xs ys order order n h h (ap (length {A = ℕ}) (eligible_by_members xs ys perm order h)) (λ k. room_by_members lo hi xs ys perm order k h)

module _ (lo hi : ℕ) (xs : List Block) (order : List ℕ) (n : ℕ) (h : Option ℕ) where
  -- as many discards as are needed make room
  pub needed_enough : (k : ℕ) → needed (snapshot lo hi xs order) n h ≡ Some k → n ≤ room_for (snapshot lo hi xs order) k h
  needed_enough k e = (needed-Some lo hi xs order n h k e).0

  -- none is needed where there is room now
  pub needed_now : n ≤ room_for (snapshot lo hi xs order) 0 h → needed (snapshot lo hi xs order) n h ≡ Some 0
  needed_now fits =
      let serves : ℕ → Bool = λ k. nat_le n (room_for (snapshot lo hi xs order) k h) in
      ap (λ m. find serves (range_with_len 0 m)) (C.add-one (length (eligible xs order h)))
      ∙ ap (λ b. cond b (Some 0) (find serves (range_with_len (0 + 1) (length (eligible xs order h))))) (le-leb n (room_for (snapshot lo hi xs order) 0 h) fits)

  -- The number of discards of a request, by its options.
  module _ (options : C.RoomOptions) where
    -- where nothing may move
    pub without_compact : options.compact ≡ false → prefix_for (snapshot lo hi xs order) n h options ≡ none_discarded_if (nat_le n (longest_hole lo hi xs))
    without_compact still = ap (λ b. cond (not b) (none_discarded_if (nat_le n (longest_hole lo hi xs))) (cond (not options.discard) (none_discarded_if (nat_le n (room_for (snapshot lo hi xs order) 0 h))) (needed (snapshot lo hi xs order) n h))) still

    -- where others may slide
    with_compact : options.compact ≡ true → prefix_for (snapshot lo hi xs order) n h options ≡ cond (not options.discard) (none_discarded_if (nat_le n (room_for (snapshot lo hi xs order) 0 h))) (needed (snapshot lo hi xs order) n h)
    with_compact moves = ap (λ b. cond (not b) (none_discarded_if (nat_le n (longest_hole lo hi xs))) (cond (not options.discard) (none_discarded_if (nat_le n (room_for (snapshot lo hi xs order) 0 h))) (needed (snapshot lo hi xs order) n h))) moves

    -- where nothing may move or be discarded, and a hole is long enough
    pub prefix_hole : options.compact ≡ false → n ≤ longest_hole lo hi xs → prefix_for (snapshot lo hi xs order) n h options ≡ Some 0
    prefix_hole still fits = without_compact still ∙ ap none_discarded_if (le-leb n (longest_hole lo hi xs) fits)

    -- where nothing may move or be discarded, and no hole is
    pub prefix_no_hole : options.compact ≡ false → longest_hole lo hi xs < n → prefix_for (snapshot lo hi xs order) n h options ≡ None
    prefix_no_hole still short = without_compact still ∙ ap none_discarded_if (C.lt-leb n (longest_hole lo hi xs) short)

    -- where others may slide, and there is room now
    pub prefix_now : options.compact ≡ true → n ≤ room_for (snapshot lo hi xs order) 0 h → prefix_for (snapshot lo hi xs order) n h options ≡ Some 0
    prefix_now moves fits = with_compact moves ∙ turn options.discard
      where
        turn : (b : Bool) → cond (not b) (none_discarded_if (nat_le n (room_for (snapshot lo hi xs order) 0 h))) (needed (snapshot lo hi xs order) n h) ≡ Some 0
        turn true = needed_now fits
        turn false = ap none_discarded_if (le-leb n (room_for (snapshot lo hi xs order) 0 h) fits)

    -- where others may slide but none may be discarded, and there is no room
    pub prefix_kept : options.compact ≡ true → options.discard ≡ false → room_for (snapshot lo hi xs order) 0 h < n → prefix_for (snapshot lo hi xs order) n h options ≡ None
    prefix_kept moves keeps short =
        with_compact moves ∙ ap (λ b. cond (not b) (none_discarded_if (nat_le n (room_for (snapshot lo hi xs order) 0 h))) (needed (snapshot lo hi xs order) n h)) keeps ∙ ap none_discarded_if (C.lt-leb n (room_for (snapshot lo hi xs order) 0 h) short)

    -- where others may slide and be discarded
    pub prefix_needed : options.compact ≡ true → options.discard ≡ true → prefix_for (snapshot lo hi xs order) n h options ≡ needed (snapshot lo hi xs order) n h
    prefix_needed moves discards = with_compact moves ∙ ap (λ b. cond (not b) (none_discarded_if (nat_le n (room_for (snapshot lo hi xs order) 0 h))) (needed (snapshot lo hi xs order) n h)) discards

-- A request about an object that isn't there needs what one about none needs.
module _ (old : Heap) (is : C.IsHeap old) (id : ℕ) (unused : C.object_at old id ≡ None) where
  -- no block has the id
  no_block : (x : Block) → Member x (blocks old) → x.id ≢ id
  no_block x m e =
      let b : IsBlockOf old x = member_block old x m in
      let both : ◌≡◌ {A = Option C.Object} None (Some b.object) = sym unused ∙ ap (C.object_at old) (sym e) ∙ b.is_there in
      cc

  -- nor does a member of the order
  not_listed : (q : ℕ) → Member q old.order → q ≢ id
  not_listed q m e = false≢true (ap C.is_in_order (sym unused) ∙ sym (is.in_order id) ∙ true-is_member id old.order (subst (λ k. Member k old.order) e m))

  -- the same may be discarded
  eligible_about : eligible (blocks old) old.order (Some id) ≡ eligible (blocks old) old.order None
  eligible_about = filter_same (λ q. not (is_pinned_id (blocks old) q) && not (is_about (Some id) q)) (λ q. not (is_pinned_id (blocks old) q) && not (is_about None q)) old.order
      (λ q m. ap (λ b. not (is_pinned_id (blocks old) q) && not b) (C.ne_eqb q id (not_listed q m)))

  -- with as much room
  room_about : (k : ℕ) → room_for (snapshot_of old) k (Some id) ≡ room_for (snapshot_of old) k None
  room_about k =
      ap (λ (ids : List ℕ). room old.lo old.hi (C.blocks_without (blocks old) (take k ids) (Some id))) eligible_about
      ∙ ap (λ (xs : List Block). room old.lo old.hi xs) (filter_same (λ x. not (is_member x.id (take k (eligible (blocks old) old.order None)) || is_about (Some id) x.id)) (λ x. not (is_member x.id (take k (eligible (blocks old) old.order None)) || is_about None x.id)) (blocks old)
      (λ x m. ap (λ b. not (is_member x.id (take k (eligible (blocks old) old.order None)) || b)) (C.ne_eqb x.id id (no_block x m))))

  -- by as many discards
  pub needed_about : (n : ℕ) → needed (snapshot_of old) n (Some id) ≡ needed (snapshot_of old) n None
  needed_about n = needed_same old.lo old.hi (blocks old) (blocks old) old.order old.order n (Some id) None (ap (length {A = ℕ}) eligible_about) room_about

  -- so the answers are the same
  pub none_about : (n : ℕ) (options : C.RoomOptions) → C.discards_needed old n (Some id) options ≡ C.discards_needed old n None options
  none_about n options = λ i.
      cond (not options.compact) (none_discarded_if (nat_le n (longest_hole old.lo old.hi (blocks old))))
      (cond (not options.discard) (none_discarded_if (nat_le n (room_about 0 i))) (needed_about n i))
