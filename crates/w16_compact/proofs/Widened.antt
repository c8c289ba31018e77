-- A walk over what may be discarded, with the table of what is left.
use Rattle.w16_compact.proofs
use proofs.Common as C
use Rattle.std.specs.List.{AllByRecursion as Each}
use proofs.Common.{slice_index, ◌≡◌, ◌≢◌, ℕ, zero, suc, ◌+◌, ◌<◌, ◌≤◌, max, Bool, true, false, cond, not, ◌&&◌, ◌||◌, ◌==◌, filter, List, [], ◌∷◌, length, take, drop, set, Option, Some, None, refl, sym, ap, ◌∙◌, subst, arith, Block, room, eligible, blocks_without, is_member, is_about}
use proofs.Common.{is_pinned_id, block_with, EachPair, Member, Each-map, Uses, all_but, AreTold}
use proofs.Told.{gap_known, told_fits, told_without, scan_without}
use proofs.{Filled.named_filter, OnePass.scan-room, PinnedIds.is_pinned_id-some, Searched.may_go, Skips.ids_below, Skips.laid_filter}
use Rattle.w16_blocks.proofs.Remove.{none_with}

-- One more of some ids.
swapped : (a b c : Bool) → (a || (b || c)) ≡ (b || (a || c))
swapped true true c = refl
swapped true false c = refl
swapped false b c = refl

more_taken : (k : ℕ) (ids : List ℕ) (id : ℕ) (later : List ℕ) → drop k ids ≡ id ∷ later → (q : ℕ) → is_member q (take (suc k) ids) ≡ ((id == q) || is_member q (take k ids))
more_taken zero [] id later e q = cc
more_taken zero (r ∷ ids) id later e q = let same : r ≡ id = cc in ap (λ (s : ℕ). (s == q) || false) same
more_taken (suc k) [] id later e q = cc
more_taken (suc k) (r ∷ ids) id later e q = ap (λ b. (r == q) || b) (more_taken k ids id later e q) ∙ swapped (r == q) (id == q) (is_member q _)

each_dropped : (P : ℕ → Type 0) (k : ℕ) (ids : List ℕ) (id : ℕ) (later : List ℕ) → drop k ids ≡ id ∷ later → Each P ids → P id
each_dropped P zero ids id later e all = (subst (Each P) e all).0
each_dropped P (suc k) [] id later e all = cc
each_dropped P (suc k) (r ∷ ids) id later e all = each_dropped P k ids id later e all.1

not_taken : (k : ℕ) (ids : List ℕ) (id : ℕ) (later : List ℕ) → drop k ids ≡ id ∷ later → EachPair (λ a b. a ≡ b → ⊥) ids → is_member id (take k ids) ≡ false
not_taken zero ids id later e apart = refl
not_taken (suc k) [] id later e apart = cc
not_taken (suc k) (r ∷ ids) id later e apart =
    ap (λ b. b || is_member id (take k ids)) (C.ne_eqb r id (each_dropped (λ q. r ≡ q → ⊥) k ids id later e apart.0)) ∙ not_taken k ids id later e apart.1

-- the blocks without one id more
filter_both : (p q r : Block → Bool) → ((x : Block) → r x ≡ (p x && q x)) → (xs : List Block) → filter r xs ≡ filter q (filter p xs)
filter_both p q r same [] = refl
filter_both p q r same (x ∷ xs) = turn (p x) (same x) (filter_both p q r same xs)
  where
    turn : (b : Bool) → r x ≡ (b && q x) → filter r xs ≡ filter q (filter p xs) → filter r (x ∷ xs) ≡ filter q (cond {A = List Block} b (x ∷ filter p xs) (filter p xs))
    turn true e rest = λ i. cond {A = List Block} (e i) (x ∷ rest i) (rest i)
    turn false e rest = (λ i. cond {A = List Block} (e i) (x ∷ filter r xs) (filter r xs)) ∙ rest

one_out : (a b c : Bool) → not ((a || b) || c) ≡ (not (b || c) && not a)
one_out true true c = refl
one_out true false true = refl
one_out true false false = refl
one_out false true c = refl
one_out false false true = refl
one_out false false false = refl

turned : (a b : ℕ) → (a == b) ≡ (b == a)
turned a b = grind (arith, C.nat_tests)

blocks_more : (ids more : List ℕ) (id : ℕ) (h : Option ℕ) → ((q : ℕ) → is_member q more ≡ ((id == q) || is_member q ids)) → (xs : List Block) → blocks_without xs more h ≡ all_but id (blocks_without xs ids h)
blocks_more ids more id h each =
    filter_both (λ x. not _) (λ x. not _) (λ x. not _)
    (λ x. ap (λ b. not (b || is_about h x.id)) (each x.id ∙ ap (λ b. b || is_member x.id ids) (turned id x.id)) ∙ one_out (x.id == id) (is_member x.id ids) (is_about h x.id))

module _ (l : C.Layout) (order : List ℕ) (h : Option ℕ) (gap_of : List ℕ) where
  -- what is left after so many discards
  abbrev pub left_after : ℕ → List Block
  left_after k = blocks_without l.blocks (take k (eligible l.blocks order h)) h

  abbrev stays : ℕ → Block → Bool
  stays k x = not (is_member x.id (take k (eligible l.blocks order h)) || is_about h x.id)

  -- so many are discarded: the table tells of what is left, and this is its room
  pub record IsReached (k most : ℕ) (rooms : List ℕ) : Type 0 where
    pub told : AreTold l (left_after k) gap_of rooms
    pub room_now : most ≡ C.room_for (C.snapshot l.lo l.hi l.blocks order) k h

  -- the next one
  module _ (ordered : C.IsOrdered l) (once : EachPair (λ a b. a ≡ b → ⊥) order) (k most : ℕ) (rooms : List ℕ) (now : IsReached k most rooms) (id : ℕ) (later : List ℕ)
      (next : drop k (eligible l.blocks order h) ≡ id ∷ later) (goes : may_go l.blocks h id ≡ true) (many : l.cap < length rooms) where
    not_gone : is_member id (take k (eligible l.blocks order h)) ≡ false
    not_gone = not_taken k (eligible l.blocks order h) id later next (C.pairs_filter (λ a b. a ≡ b → ⊥) (may_go l.blocks h) order once)

    named : C.AreNamed l.cap (left_after k)
    named = named_filter (stays k) l.cap l.blocks ordered.named

    laid : C.IsLaid l.lo l.hi (left_after k)
    laid = laid_filter (stays k) l.lo l.hi l.blocks ordered.laid

    without : left_after (suc k) ≡ all_but id (left_after k)
    without = blocks_more (take k (eligible l.blocks order h)) (take (suc k) (eligible l.blocks order h)) id h (more_taken k (eligible l.blocks order h) id later next) l.blocks

    module _ (b : Block) (known : block_with l.blocks id ≡ Some b) where
      own : b.id ≡ id
      own = C.with_id id b l.blocks known

      counted : Member b (left_after k)
      counted = C.filter_member (stays k) l.blocks b (C.each_with (λ y. Member y l.blocks) id b l.blocks known (C.Each-from (λ y. Member y l.blocks) l.blocks (λ y m. m)))
          (subst (λ (q : ℕ). not (is_member q (take k (eligible l.blocks order h)) || is_about h q) ≡ true) (sym own)
          (C.not_from_false (is_member id (take k (eligible l.blocks order h)) || is_about h id) (C.or_from (is_member id (take k (eligible l.blocks order h))) (is_about h id) not_gone
          (C.not-true (is_about h id) (C.and_parts (not (is_pinned_id l.blocks id)) (not (is_about h id)) goes).1))))

      loose_one : C.is_pinned b ≡ false
      loose_one = sym (is_pinned_id-some l.cap l.blocks id b ordered.named known) ∙ C.not-true (is_pinned_id l.blocks id) (C.and_parts (not (is_pinned_id l.blocks id)) (not (is_about h id)) goes).0

      pub known_gap : slice_index gap_of id < length rooms
      known_gap = subst (λ (q : ℕ). slice_index gap_of q < length rooms) own
          (gap_known l.hi gap_of rooms (λ q. q < length rooms) l.lo 0 l.cap (left_after k) many
          (Each-map (λ (y : Block). y.id < l.cap) (λ y. y.id < length rooms) (λ y lt. omega arith) (left_after k) (ids_below l.cap (left_after k) named)) now.told b counted loose_one)

      pub fits_room : slice_index rooms (slice_index gap_of id) + b.size ≤ l.hi
      fits_room = subst (λ (q : ℕ). slice_index rooms (slice_index gap_of q) + b.size ≤ l.hi) own (told_fits l.hi gap_of rooms l.lo 0 l.cap l.lo (left_after k) laid now.told b counted loose_one)

      others_cap : Each (λ y. y.id ≢ l.cap) (left_after k)
      others_cap = Each-map (λ (y : Block). y.id < l.cap) (λ y. y.id ≢ l.cap) (λ y lt e. omega arith) (left_after k) (ids_below l.cap (left_after k) named)

      told_now : AreTold l (all_but id (left_after k)) gap_of (set rooms (slice_index gap_of id) (slice_index rooms (slice_index gap_of id) + b.size))
      told_now = subst (λ (q : ℕ). AreTold l (all_but q (left_after k)) gap_of (set rooms (slice_index gap_of q) (slice_index rooms (slice_index gap_of q) + b.size))) own
          (told_without l.hi gap_of rooms l.cap b loose_one l.lo 0 l.cap (left_after k) named others_cap many many now.told counted)

      wider_room : room l.lo l.hi (all_but id (left_after k)) ≡ max (room l.lo l.hi (left_after k)) (slice_index rooms (slice_index gap_of id) + b.size)
      wider_room = subst (λ (q : ℕ). room l.lo l.hi (all_but q (left_after k)) ≡ max (room l.lo l.hi (left_after k)) (slice_index rooms (slice_index gap_of q) + b.size)) own
          (sym (scan-room l.lo l.hi (all_but b.id (left_after k)) (C.IsLaid-all_but l.lo l.hi b.id (left_after k) laid))
          ∙ scan_without l.hi gap_of rooms l.cap b loose_one 0 l.lo 0 l.cap (left_after k) named now.told counted
          ∙ ap (λ (m : ℕ). max m (slice_index rooms (slice_index gap_of b.id) + b.size)) (scan-room l.lo l.hi (left_after k) laid))

    -- what a widened gap leaves
    abbrev pub Widens : Option Block → ℕ → List ℕ → Type 0
    Widens o r rooms' = C.MatchOption o ((r ≡ 0) × (rooms' ≡ rooms)) (λ b. (r ≡ slice_index rooms (slice_index gap_of id) + b.size) × (rooms' ≡ set rooms (slice_index gap_of id) (slice_index rooms (slice_index gap_of id) + b.size)))

    some_gone : (o : Option Block) → block_with l.blocks id ≡ o → (r : ℕ) (rooms' : List ℕ) → Widens o r rooms' → AreTold l (all_but id (left_after k)) gap_of rooms' × (room l.lo l.hi (all_but id (left_after k)) ≡ max (room l.lo l.hi (left_after k)) r)
    some_gone None none r rooms' is =
        let same : all_but id (left_after k) ≡ left_after k = C.all_but_absent id (left_after k) (C.Each-filter (λ (y : Block). y.id ≢ id) (stays k) l.blocks (Each-map (λ (y : Block). y.id ≢ id) (λ y. stays k y ≡ true → y.id ≢ id) (λ y f _. f) l.blocks (none_with id l.blocks none))) in
        let nothing : max (room l.lo l.hi (left_after k)) r ≡ room l.lo l.hi (left_after k) = let zeroth = is.0 in omega arith in (
          subst (λ (rs : List ℕ). AreTold l (all_but id (left_after k)) gap_of rs) (sym is.1) (subst (λ (ys : List Block). AreTold l ys gap_of rooms) (sym same) now.told),
          ap (room l.lo l.hi) same ∙ sym nothing,
        )
    some_gone (Some b) known r rooms' is = (
      subst (λ (rs : List ℕ). AreTold l (all_but id (left_after k)) gap_of rs) (sym is.1) (told_now b known),
      wider_room b known ∙ ap (λ (v : ℕ). max (room l.lo l.hi (left_after k)) v) (sym is.0),
    )

    pub reached_next : (r : ℕ) (rooms' : List ℕ) → Widens (block_with l.blocks id) r rooms' → (most' : ℕ) → most' ≡ max most r → IsReached (k + 1) most' rooms'
    reached_next r rooms' is most' best =
        let both = some_gone (block_with l.blocks id) refl r rooms' is in
        subst (λ (j : ℕ). IsReached j most' rooms') (sym (C.add-one k)) (record {
          told = subst (λ (ys : List Block). AreTold l ys gap_of rooms') (sym without) both.0;
          room_now = best ∙ ap (λ (m : ℕ). max m r) now.room_now ∙ sym both.1 ∙ ap (room l.lo l.hi) (sym without);
        })

-- each id of an order is there once
pub once_each : (uses : Uses) → C.AreUses uses → EachPair (λ a b. a ≡ b → ⊥) uses.ids
once_each uses are = C.EachPair-from_AllPairs (λ a b. a ≡ b → ⊥) _ are.apart
