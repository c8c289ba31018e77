-- Room as the number of discards grows, and after them.
use Rattle.w16_model.proofs
use proofs.Common as C
use proofs.Heaps as M
use proofs.Common.{◌≡◌, ◌≢◌, ℕ, zero, suc, ◌+◌, ◌≤◌, inl, inr, Bool, true, false, not, ◌&&◌, ◌||◌, ◌==◌, List, [], ◌∷◌, take, filter, fold, Option, refl, sym, ap, ◌∙◌, false≢true, not-true, not_from_false, or_from, Block, room, is_pinned, Heap, blocks, eligible, room_for}
use proofs.Common.{is_member, is_about, is_pinned_id, snapshot, subst, arith, absent}
use proofs.Gaps.{Member, Each-from, member_filter, filter_member, pairs_filter}
use proofs.{Members.permutation_from, Members.room-permutation, Heaps.IsBlockOf, Removal.room-fewer}

-- an id among others, as a test and as a fact
pub is_member-true : (id : ℕ) (ids : List ℕ) → is_member id ids ≡ true → Member id ids
is_member-true id [] h = absurd (false≢true h)
is_member-true id (q ∷ ids) h = elim (C.or_cases (q == id) (is_member id ids) h) [ inl e ↦ inl (sym (C.eqb-true q id e)) | inr m ↦ inr (is_member-true id ids m) ]

pub true-is_member : (id : ℕ) (ids : List ℕ) → Member id ids → is_member id ids ≡ true
true-is_member id [] m = absurd m
true-is_member id (q ∷ ids) (inl e) = C.or_left (q == id) (is_member id ids) (C.eq-eqb q id (sym e))
true-is_member id (q ∷ ids) (inr m) = C.or_right (q == id) (is_member id ids) (true-is_member id ids m)

-- the blocks of a heap with these absent
pub block_of_absents : (ids : List ℕ) (heap : Heap) (x : Block) → IsBlockOf (fold absent heap ids) x → IsBlockOf heap x × (Member x.id ids → ⊥)
block_of_absents [] heap x is = (is, λ m. m)
block_of_absents (id ∷ ids) heap x is =
    let rest = block_of_absents ids _ x is in
    let here = M.block_of_absent heap id x rest.0 in
    (here.0, λ m. elim m [ inl e ↦ here.1 e | inr n ↦ rest.1 n ])

pub absents_of_block : (ids : List ℕ) (heap : Heap) (x : Block) → IsBlockOf heap x → (Member x.id ids → ⊥) → IsBlockOf (fold absent heap ids) x
absents_of_block [] heap x is out = is
absents_of_block (id ∷ ids) heap x is out = absents_of_block ids _ x (M.absent_of_block heap id x is (λ e. out (inl e))) (λ m. out (inr m))

bounds_kept : (ids : List ℕ) (heap : Heap) → ((fold absent heap ids).lo ≡ heap.lo) × ((fold absent heap ids).hi ≡ heap.hi)
bounds_kept [] heap = (refl, refl)
bounds_kept (id ∷ ids) heap = bounds_kept ids _

-- With the first k eligible absent, the room is what it was without them.
pub room-discarded : (heap : Heap) (k : ℕ) (h : Option ℕ) → let new = C.discarded heap k h in room_for (C.snapshot_of new) 0 h ≡ room_for (C.snapshot_of heap) k h
room-discarded heap k h =
    let ids = take k (eligible (blocks heap) heap.order h) in
    let new = fold _ heap ids in
    let stays : Block → Bool = λ x. not _ in
    let stays_now : Block → Bool = λ x. not (false || is_about h x.id) in
    let same : C.IsPermutation (filter stays (blocks heap)) (filter stays_now (blocks new)) =
    permutation_from _ _
    (pairs_filter (λ x y. x ≢ y) stays _ (M.blocks_differ heap))
    (pairs_filter (λ x y. x ≢ y) stays_now (blocks new) (M.blocks_differ new))
    (λ x m.
    let kept = member_filter stays _ x m in
    let out = C.or_parts _ _ (not-true _ kept.1) in
    filter_member stays_now _ x
    (M.block_member new x (absents_of_block ids heap x (M.member_block heap x kept.0) (λ n. false≢true (sym out.0 ∙ true-is_member x.id ids n))))
    (not_from_false _ (or_from false _ refl out.1)))
    (λ x m.
    let kept = member_filter stays_now _ x m in
    let is = block_of_absents ids heap x (M.member_block new x kept.0) in
    filter_member stays _ x (M.block_member heap x is.0)
    (not_from_false _ (or_from (is_member x.id ids) (is_about h x.id)
    (elim (C.cases_Bool _) [ inl t ↦ absurd (is.1 (is_member-true x.id ids t)) | inr t ↦ t ])
    (not-true _ kept.1)))) in
    let bounds = bounds_kept ids heap in
    (λ i. room (bounds.0 i) (bounds.1 i) (filter stays_now (blocks new))) ∙ room-permutation _ _ _ _ same

-- With one discard more there is no less room, where those that may be discarded are loose.
pub from_take : (k : ℕ) (ids : List ℕ) (id : ℕ) → Member id (take k ids) → Member id ids
from_take zero ids id m = absurd m
from_take (suc k) [] id m = m
from_take (suc k) (q ∷ ids) id (inl e) = inl e
from_take (suc k) (q ∷ ids) id (inr m) = inr (from_take k ids id m)

suc_take : (k : ℕ) (ids : List ℕ) (id : ℕ) → Member id (take k ids) → Member id (take (suc k) ids)
suc_take zero ids id m = absurd m
suc_take (suc k) [] id m = m
suc_take (suc k) (q ∷ ids) id (inl e) = inl e
suc_take (suc k) (q ∷ ids) id (inr m) = inr (suc_take k ids id m)

take_member : (k : ℕ) (ids : List ℕ) (id : ℕ) → Member id (take k ids) → Member id (take (k + 1) ids)
take_member k ids id m = rw C.add-one (suc_take k ids id m)

-- what may be discarded is loose
pub held_member : (xs : List Block) (x : Block) → Member x xs → is_pinned x ≡ true → is_pinned_id xs x.id ≡ true
held_member [] x m t = absurd m
held_member (y ∷ xs) x (inl e) t = C.or_left _ (is_pinned_id xs x.id) (C.and_from _ _ (C.eq-eqb y.id x.id (ap (λ z. z.id) (sym e))) (ap is_pinned (sym e) ∙ t))
held_member (y ∷ xs) x (inr m) t = C.or_right (y.id == x.id && is_pinned y) (is_pinned_id xs x.id) (held_member xs x m t)

pub eligible_loose : (xs : List Block) (order : List ℕ) (h : Option ℕ) (x : Block) → Member x xs → Member x.id (eligible xs order h) → is_pinned x ≡ true → ⊥
eligible_loose xs order h x m n t =
    let kept = member_filter (λ id. not _ && not _) order x.id n in
    false≢true (sym (not-true _ (C.and_parts _ (not _) kept.1).0) ∙ held_member xs x m t)

pub room-more : (lo hi : ℕ) (xs : List Block) (order : List ℕ) (k : ℕ) (h : Option ℕ) → room_for (snapshot lo hi xs order) k h ≤ room_for (snapshot lo hi xs order) (k + 1) h
room-more lo hi xs order k h =
    let ids = eligible xs order h in
    let with_k : Block → Bool = λ x. not (is_member x.id (take k ids) || is_about h x.id) in
    let with_more : Block → Bool = λ x. not (is_member x.id (take (k + 1) ids) || is_about h x.id) in
    room-fewer _ _ hi lo xs
    (Each-from _ xs (λ x m. (
      (λ t.
          let out = C.or_parts _ _ (not-true _ t) in
          not_from_false _ (or_from _ _ (not_in x.id _ (λ n. in_not x.id _ out.0 (take_member k ids x.id n))) out.1)),
      (λ t.
          let none : (j : ℕ) → is_member x.id (take j ids) ≡ false = λ j. not_in x.id _ (λ n. eligible_loose xs order h x m (from_take j ids x.id n) t) in
          ap (λ b. not (b || is_about h x.id)) (none k ∙ sym (none _))),
    )))
  where
    not_in : (id : ℕ) (ids : List ℕ) → (Member id ids → ⊥) → is_member id ids ≡ false
    not_in id ids f = elim (C.cases_Bool _) [ inl t ↦ absurd (f (is_member-true id ids t)) | inr t ↦ t ]

    in_not : (id : ℕ) (ids : List ℕ) → is_member id ids ≡ false → Member id ids → ⊥
    in_not id ids h m = false≢true (sym h ∙ true-is_member id ids m)

pub more_discards_law : C.MoreDiscardsLaw
more_discards_law lo hi xs order h j zero le = let same : j ≡ 0 = omega arith in subst (λ v. room_for (snapshot lo hi xs order) v h ≤ room_for (snapshot lo hi xs order) 0 h) (sym same) (omega arith)
more_discards_law lo hi xs order h j (suc k) le = elim (C.cases_lt k j) [
  | inl l ↦ let same : j ≡ suc k = omega arith in subst (λ v. room_for (snapshot lo hi xs order) v h ≤ room_for (snapshot lo hi xs order) (suc k) h) (sym same) (omega arith)
  | inr l ↦
      let next : k + 1 ≡ suc k = omega arith in
      let step = subst (λ v. room_for (snapshot lo hi xs order) k h ≤ room_for (snapshot lo hi xs order) v h) next (room-more lo hi xs order k h) in
      omega (arith, more_discards_law lo hi xs order h j k l, step)
]
