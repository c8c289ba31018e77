-- Blocks of which none is pinned: all is one gap.
use Rattle.w16_compact.proofs
use proofs.Common as C
use proofs.Common.{list_any, slice_index, ◌≡◌, ◌≢◌, ℕ, ◌+◌, ◌-◌, ◌<◌, ◌≤◌, ◌||◌, max, Bool, true, false, Option, Some, None, List, [], ◌∷◌, drop, length, set, sum_by, refl, sym, ap, ◌∙◌, subst, arith, false≢true, sum_by-cons, Block, room, is_pinned, blocks_without, Each-map, Each-filter}
use proofs.Common.{Reached, Tells}
use proofs.OnePass.{scan, scan-room, none_out_all}
use proofs.Skips.{rest_is, laid_filter, ids_below}
use proofs.Walked.{IsWalked, walk_start, walked_next}
use Rattle.std.specs.List.{AllByRecursion as Each}
use Rattle.w16_blocks.proofs.Remove.{none_with}

abbrev size_of : Block → ℕ
size_of b = b.size

pub each_loose : (xs : List Block) → list_any is_pinned xs ≡ false → Each (λ x. is_pinned x ≡ false) xs
each_loose [] none = tt
each_loose (x ∷ xs) none = let both = neither _ _ none in (both.0, each_loose xs both.1)
  where
    neither : (s t : Bool) → (s || t) ≡ false → (s ≡ false) × (t ≡ false)
    neither true t e = absurd (false≢true (sym e))
    neither false t e = (refl, e)

-- so there is none with a block left out
pub none_in : (h : Option ℕ) (xs : List Block) → list_any is_pinned xs ≡ false → list_any is_pinned (C.others h xs) ≡ false
none_in None xs none = none
none_in (Some id) xs none = back _ (Each-filter _ _ xs (Each-map _ _ (λ x f t. f) xs (each_loose xs none)))
  where
    back : (ys : List Block) → Each (λ x. is_pinned x ≡ false) ys → list_any is_pinned ys ≡ false
    back [] all = refl
    back (y ∷ ys) all = ap (λ t. t || list_any is_pinned ys) all.0 ∙ back ys all.1

-- the walk over all of them
module _ (l : C.Layout) (n : ℕ) (ordered : C.IsOrdered l) where
  walked_from : (left : List Block) (i : ℕ) → drop i l.blocks ≡ left → (r : Reached) → IsWalked l n ordered i r → Each (λ x. is_pinned x ≡ false) left
      → (j : ℕ) × (drop j l.blocks ≡ []) × IsWalked l n ordered j (record { low = r.low; loose = r.loose + sum_by size_of left })
  walked_from [] i here r now loose = (i, here, subst (λ (k : ℕ). IsWalked l n ordered i (record { low = r.low; loose = k })) (let none : sum_by size_of [] ≡ 0 = refl in omega arith) now)
  walked_from (x ∷ left) i here r now loose =
      let next : IsWalked l n ordered (i + 1) (record { low = r.low; loose = r.loose + x.size }) =
      walked_next l n ordered x left i here r now (λ t. absurd (false≢true (sym loose.0 ∙ t))) _ (sym (C.cond-false (is_pinned x) _ _ loose.0)) in
      let end = walked_from left (i + 1) (rest_is l.blocks x left i here) (record { low = r.low; loose = r.loose + x.size }) next loose.1 in
      (end.0, end.1, subst (λ (k : ℕ). IsWalked l n ordered end.0 (record { low = r.low; loose = k })) (let sum = sum_by-cons size_of x left in omega arith) end.2)

  pub walked_all : list_any is_pinned l.blocks ≡ false → (r : Reached) → r.low ≡ l.lo → r.loose ≡ sum_by size_of l.blocks → (j : ℕ) × (drop j l.blocks ≡ []) × IsWalked l n ordered j r
  walked_all none r low loose =
      let end = walked_from l.blocks 0 refl (record { low = l.lo; loose = 0 }) (walk_start l n ordered l.lo refl) (each_loose l.blocks none) in (
        end.0,
        end.1,
        subst (λ (v : Reached). IsWalked l n ordered end.0 v)
            (λ i. let v : Reached = record { low = sym low i; loose = (let same : 0 + sum_by size_of l.blocks ≡ r.loose = omega arith in same) i } in v) end.2,
      )

-- the room
scan_loose : (hi best start used : ℕ) (xs : List Block) → Each (λ x. is_pinned x ≡ false) xs → scan hi best start used xs ≡ max best (hi - start - used - sum_by size_of xs)
scan_loose hi best start used [] loose = let none : sum_by size_of [] ≡ 0 = refl in omega arith
scan_loose hi best start used (x ∷ xs) loose =
    let rest = scan_loose hi best start (used + x.size) xs loose.1 in let sum = sum_by-cons size_of x xs in
    C.cond-false (is_pinned x) _ _ loose.0 ∙ omega (arith, rest, sum)

-- what a table tells where each block's gap is the same
tells_loose : (hi low loose gap : ℕ) (gap_of rooms : List ℕ) (xs : List Block) → Each (λ x. (is_pinned x ≡ false) × (slice_index gap_of x.id ≡ gap)) xs
    → low + loose + sum_by size_of xs + slice_index rooms gap ≡ hi → Tells hi low loose gap xs gap_of rooms
tells_loose hi low loose gap gap_of rooms [] all e = let none : sum_by size_of [] ≡ 0 = refl in omega arith
tells_loose hi low loose gap gap_of rooms (x ∷ xs) all e = (
  (λ t. absurd (false≢true (sym all.0.0 ∙ t))),
  (λ f. (all.0.1, tells_loose hi low (loose + x.size) gap gap_of rooms xs all.1 (let sum = sum_by-cons size_of x xs in omega arith))),
)

-- without an id's block, whose bytes are `own`
module _ (l : C.Layout) (ordered : C.IsOrdered l) (h : Option ℕ) (own : ℕ) (left : own + sum_by size_of (blocks_without l.blocks [] h) ≡ sum_by size_of l.blocks)
    (none : list_any is_pinned l.blocks ≡ false) {free : ℕ} (counted : free ≡ l.hi - l.lo - sum_by size_of l.blocks) where
  abbrev rest : List Block
  rest = blocks_without l.blocks [] h

  fits : l.lo + sum_by size_of l.blocks ≤ l.hi
  fits = C.sum_fits l.lo l.hi l.blocks ordered.laid

  pub room_is : {made : ℕ} → made ≡ free + own → made ≡ room l.lo l.hi rest
  room_is made =
      let scanned = scan-room l.lo l.hi rest (laid_filter _ l.lo l.hi l.blocks ordered.laid) in
      let all = scan_loose l.hi 0 l.lo 0 rest (Each-filter _ _ l.blocks (Each-map _ _ (λ x f t. f) l.blocks (each_loose l.blocks none))) in
      let fit = fits in omega arith

  pub told_is : {made gap : ℕ} {gap_of' rooms' : List ℕ} (gap_of rooms : List ℕ) → made ≡ free + own → gap ≡ l.cap → l.cap ≤ length gap_of → l.cap < length rooms
      → gap_of' ≡ C.replicate (length gap_of) gap → rooms' ≡ set rooms gap made → Tells l.hi l.lo 0 l.cap rest gap_of' rooms'
  told_is {made} {gap} {gap_of'} {rooms'} gap_of rooms made_is gap_is many more filled put =
      let each : Each (λ x. (is_pinned x ≡ false) × (slice_index gap_of' x.id ≡ l.cap)) l.blocks = both l.blocks (each_loose l.blocks none) (ids_below l.cap l.blocks ordered.named) in
      tells_loose l.hi l.lo 0 l.cap gap_of' rooms' rest (Each-filter _ _ l.blocks (Each-map _ _ (λ x f t. f) l.blocks each))
      (let now : slice_index rooms' l.cap ≡ made = ap (λ (rs : List ℕ). slice_index rs l.cap) put ∙ ap (λ (g : ℕ). slice_index (set rooms gap made) g) (sym gap_is) ∙ C.get_or-set_same rooms gap made 0 (omega arith) in
      let fit = fits in omega arith)
    where
      both : (xs : List Block) → Each (λ x. is_pinned x ≡ false) xs → Each (λ x. x.id < l.cap) xs → Each (λ x. (is_pinned x ≡ false) × (slice_index gap_of' x.id ≡ l.cap)) xs
      both [] loose below = tt
      both (x ∷ xs) loose below = (
        (loose.0, ap (λ (gs : List ℕ). slice_index gs x.id) filled ∙ C.get_or-replicate (length gap_of) x.id gap 0 (let lt = below.0 in omega arith) ∙ gap_is),
        both xs loose.1 below.1,
      )

-- the bytes of the block that is left out
abbrev pub own_of : Option Block → ℕ
own_of None = 0
own_of (Some b) = b.size

pub left_none : (xs : List Block) → 0 + sum_by size_of (blocks_without xs [] None) ≡ sum_by size_of xs
left_none xs = let same = ap (sum_by size_of) (none_out_all xs) in omega arith

pub left_absent : (id : ℕ) (xs : List Block) → Each (λ x. x.id ≢ id) xs → 0 + sum_by size_of (blocks_without xs [] (Some id)) ≡ sum_by size_of xs
left_absent id xs all = let same = ap (sum_by size_of) (C.all_but_absent id xs all) in omega arith

pub left_other : (cap id : ℕ) (xs : List Block) → C.AreNamed cap xs → cap ≤ id → 0 + sum_by size_of (blocks_without xs [] (Some id)) ≡ sum_by size_of xs
left_other cap id xs named le = left_absent id xs (Each-map (λ x. x.id < cap) (λ x. x.id ≢ id) (λ x lt e. omega arith) xs (ids_below cap xs named))

pub left_known : (cap id : ℕ) (xs : List Block) → C.AreNamed cap xs → (o : Option Block) → o ≡ C.block_with xs id → own_of o + sum_by size_of (blocks_without xs [] (Some id)) ≡ sum_by size_of xs
left_known cap id xs named None e = left_absent id xs (none_with id xs (sym e))
left_known cap id xs named (Some b) e = sym (C.sum-all_but cap size_of id b xs named (sym e))
