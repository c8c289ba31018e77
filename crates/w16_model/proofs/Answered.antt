-- A request that discards: what holds of the heap after its discards holds of the heap before.
use Rattle.w16_model.proofs
use proofs.Common as C
use proofs.Gaps as M
use proofs.Discards as K
use proofs.Common.{◌≡◌, ◌≢◌, ℕ, zero, ◌<◌, ◌≤◌, inl, inr, Bool, true, false, not, ◌||◌, ◌==◌, IsTrue, List, length, take, filter, fold, All, Some, None, refl, sym, ap, ◌∙◌, subst, arith, false≢true, Block, Kind, is_pinned, Heap, blocks, eligible, with_newest, discarded}
use proofs.Common.{stays_for, Settles, IsNew}
use proofs.Heaps.{block_member, member_block, blocks_differ}
use proofs.{Members.permutation_from, Least.take_past, Prefixes.without_compact}
use Rattle.std.specs.FinMap as finmap

-- Discards.
module _ (heap : Heap) where
  -- more discards than may be are as many as may be
  pub discarded_all : (h : C.Option ℕ) (k : ℕ) → length (eligible (blocks heap) heap.order h) ≤ k → discarded heap k h ≡ discarded heap (length (eligible (blocks heap) heap.order h)) h
  discarded_all h k le =
      let ids : List ℕ = eligible (blocks heap) heap.order h in
      ap (λ (qs : List ℕ). fold C.absent heap qs) (take_past k ids le ∙ sym (take_past (length ids) ids (omega arith)))

-- The heap before the discards, by the heap after them.
module _ (old : Heap) (k : ℕ) (h : C.Option ℕ) where
  -- what holds of each block that stays holds of it before the discards, where only pinned blocks stay
  kept_staying : (P : Block → Type 0) (stays : Block → Bool) → ((x : Block) → stays x ≡ true → is_pinned x ≡ true)
      → All (λ x. IsTrue (stays x) → P x) (blocks (discarded old k h)) → All (λ x. IsTrue (stays x) → P x) (blocks old)
  kept_staying P stays pinned all =
      let ids : List ℕ = eligible (blocks old) old.order h in
      let new : Heap = discarded old k h in
      M.All-from_Each (λ x. IsTrue (stays x) → P x) (blocks old) (M.Each-from (λ x. IsTrue (stays x) → P x) (blocks old) (λ x m t.
      M.Each-at (λ x. IsTrue (stays x) → P x) (blocks new) (M.Each-from_All (λ x. IsTrue (stays x) → P x) (blocks new) all) x
      (block_member new x (K.absents_of_block (take k ids) old x (member_block old x m) (λ n. K.eligible_loose (blocks old) old.order h x m (K.from_take k ids x.id n) (pinned x t)))) t))

  -- what holds of each pinned block after the discards holds of each before them
  pub kept_pinned : (P : Block → Type 0) → All (λ x. IsTrue (is_pinned x) → P x) (blocks (discarded old k h)) → All (λ x. IsTrue (is_pinned x) → P x) (blocks old)
  kept_pinned P all = kept_staying P is_pinned (λ x t. t) all

  -- a heap that keeps the pinned blocks' addresses after the discards keeps them from before
  pub settles_before : (heap new : Heap) → Settles (discarded old k h) is_pinned heap new → Settles old is_pinned heap new
  settles_before heap new s = record { same = s.same; sound = s.sound; kept = kept_pinned (λ x. finmap.get new.places x.id ≡ Some x.at) s.kept }

  -- what is discarded doesn't move
  pub moved_after : (new : Heap) → ((q : ℕ) → C.is_member q (take k (eligible (blocks old) old.order h)) ≡ true → finmap.get new.places q ≡ None) → C.moved_bytes old new ≡ C.moved_bytes (discarded old k h) new
  moved_after new gone =
      let ids : List ℕ = take k (eligible (blocks old) old.order h) in
      let left : Heap = fold C.absent old ids in
      let moves : Block → Bool = λ x. C.is_elsewhere x.at (finmap.get new.places x.id) in
      let same : C.IsPermutation (filter moves (blocks old)) (filter moves (blocks left)) =
      permutation_from (filter moves (blocks old)) (filter moves (blocks left))
      (M.pairs_filter (λ x y. x ≢ y) moves (blocks old) (blocks_differ old))
      (M.pairs_filter (λ x y. x ≢ y) moves (blocks left) (blocks_differ left))
      (λ x m.
      let kept : M.Member x (blocks old) × IsTrue (moves x) = M.member_filter moves (blocks old) x m in
      M.filter_member moves (blocks left) x
      (block_member left x (K.absents_of_block ids old x (member_block old x kept.0) (λ n. false≢true (ap (C.is_elsewhere x.at) (sym (gone x.id (K.true-is_member x.id ids n))) ∙ kept.1))))
      kept.1)
      (λ x m.
      let kept : M.Member x (blocks left) × IsTrue (moves x) = M.member_filter moves (blocks left) x m in
      M.filter_member moves (blocks old) x (block_member old x (K.block_of_absents ids old x (member_block left x kept.0)).0) kept.1) in
      sym (C.sum_by-IsPermutation (λ (x : Block). x.size) (filter moves (blocks old)) (filter moves (blocks left)) same)

-- A request for room for an object.
module _ (old : Heap) (id n : ℕ) (options : C.RoomOptions) (k : ℕ) (answered : C.discards_needed old n (Some id) options ≡ Some k) where
  -- nothing is discarded where nothing may move
  none_still : options.compact ≡ false → k ≡ 0
  none_still still = turn (C.nat_le n (C.longest_hole old.lo old.hi (blocks old))) (sym (without_compact old.lo old.hi (blocks old) old.order n (Some id) options still) ∙ answered)
    where
      turn : (b : Bool) → C.none_discarded_if b ≡ Some k → k ≡ 0
      turn true e = cc
      turn false e = cc

  -- what stays is pinned where others may slide
  stays_pinned : options.compact ≡ true → (x : Block) → stays_for id options x ≡ true → is_pinned x ≡ true
  stays_pinned moves x t = elim (C.or_cases (is_pinned x) (not options.compact) (C.and_parts (not (x.id == id)) (is_pinned x || not options.compact) t).1) [
    | inl h ↦ h
    | inr h ↦ absurd (false≢true (sym (C.not-true options.compact h) ∙ moves))
  ]

  -- a heap that keeps the addresses of those that stay after the discards keeps them from before
  pub settles_after : (heap new : Heap) → Settles (discarded old k (Some id)) (stays_for id options) heap new → Settles old (stays_for id options) heap new
  settles_after heap new s = elim (C.cases_Bool options.compact) [
    | inl moves ↦ record {
      same = s.same;
      sound = s.sound;
      kept = kept_staying old k (Some id) (λ x. finmap.get new.places x.id ≡ Some x.at) (stays_for id options) (stays_pinned moves) s.kept;
    }
    | inr still ↦ subst (λ j. Settles (discarded old j (Some id)) (stays_for id options) heap new) (none_still still) s
  ]

-- an allocation after the discards is one of the heap before them
pub allocates_after : (old : Heap) → (id n : ℕ) (kind : Kind) (options : C.RoomOptions) (k : ℕ) → 0 < n → C.IsMultiple old.grain n → C.bytes_at old id ≡ None → C.discards_needed old n (Some id) options ≡ Some k
    → (o : C.Object) → IsNew options.zero n kind 0 o → (new : Heap)
    → Settles (discarded old k (Some id)) (stays_for id options) (C.with_ordered (discarded old k (Some id)) id o (with_newest id o)) new → C.Allocates old id n kind 0 options true new
allocates_after old id n kind options k some rounded none answered o is_new new s = record {
  some = some;
  rounded = rounded;
  without_bytes = none;
  request = subst (λ p. C.Request old id (record { options = options; prefix = p; becomes = IsNew options.zero n kind 0; order = with_newest id }) true new) (sym answered)
      (refl, (o, is_new, settles_after old id n options k answered (C.with_ordered (discarded old k (Some id)) id o (with_newest id o)) new s));
}
