-- Requests discard as few as they can, by the laws on what is needed and on what others keep.
use Rattle.w16_model.proofs
use proofs.Common as C
use proofs.Common.{◌≡◌, ℕ, ◌<◌, ◌≤◌, ◌⊎◌, inl, inr, Bool, true, false, cond, not, ◌||◌, ◌&&◌, ◌==◌, nat_le, take, Option, Some, None, refl, sym, ap, ◌∙◌, subst, arith, MatchBool, unwrap_or, false≢true, Kind, Fixed, needed, room_for, none_discarded_if, Heap, blocks, IsNew}
use proofs.Common.{compaction_prefix, eligible_count, snapshot_of, kind_asked, alloc_options, rounded_size}
use proofs.Least.{discards_are_least, no_stretch, placed_filter}
use proofs.{Longest.room_is_longest, Prefixes.needed_enough, Starts.hole_is_longest, Others.others_law}

module _ (old : Heap) (is : C.IsHeap old) (n : ℕ) (h : Option ℕ) where
  abbrev pub longest : ℕ
  longest = C.longest_hole old.lo old.hi (blocks old)

  -- the number of discards, by whether others may slide and may be discarded
  abbrev pub number : Bool → Bool → Option ℕ
  number compact discard = cond (not compact) (none_discarded_if (nat_le n longest)) (cond (not discard) (none_discarded_if (nat_le n (room_for (snapshot_of old) 0 h))) (needed (snapshot_of old) n h))

  too_long : (m : ℕ) → none_discarded_if (nat_le n m) ≡ None → m < n
  too_long m e = from (nat_le n m) refl e
    where
      from : (b : Bool) → nat_le n m ≡ b → none_discarded_if b ≡ None → m < n
      from true t none = cc
      from false t none = C.leb-false n m t

  none_if : (b : Bool) (k : ℕ) → none_discarded_if b ≡ Some k → k ≡ 0
  none_if true k e = cc
  none_if false k e = cc

  -- where there is none, there is no room
  pub lacking : (options : C.RoomOptions) (compact discard : Bool) → options.compact ≡ compact → options.discard ≡ discard → number compact discard ≡ None → C.LacksRoom old h n options
  lacking options false discard c d none = record {
    hole = λ _ a b hole. let fit = (hole_is_longest old.lo old.hi (blocks old) is.placed).none_longer a b hole in let few = too_long longest none in omega arith;
    slides = λ t. absurd (false≢true (sym c ∙ t));
    discards = λ t. absurd (false≢true (sym c ∙ t));
  }
  lacking options true false c d none = record {
    hole = λ f. absurd (false≢true (sym f ∙ c));
    slides = λ _. no_stretch old.lo old.hi (blocks old) old.order n h is.placed 0 (too_long (room_for (snapshot_of old) 0 h) none);
    discards = λ _ t. absurd (false≢true (sym d ∙ t));
  }
  lacking options true true c d none = record {
    hole = λ f. absurd (false≢true (sym f ∙ c));
    slides = λ _. (discards_are_least old.lo old.hi (blocks old) old.order is.placed n h).none 0 none;
    discards = λ _ _ j. (discards_are_least old.lo old.hi (blocks old) old.order is.placed n h).none j none;
  }

  -- where there is one, fewer don't serve
  pub fewer_lack : (compact discard : Bool) (k : ℕ) → number compact discard ≡ Some k → (j : ℕ) → j < k → C.HasNoStretch old j h n
  fewer_lack false discard k some j lt = let no_discard = none_if (nat_le n longest) k some in absurd (omega arith)
  fewer_lack true false k some j lt = let no_discard = none_if (nat_le n (room_for (snapshot_of old) 0 h)) k some in absurd (omega arith)
  fewer_lack true true k some j lt = (discards_are_least old.lo old.hi (blocks old) old.order is.placed n h).fewer k j some lt

  -- and none is discarded where none may be
  pub none_goes : (compact discard : Bool) (k : ℕ) → number compact discard ≡ Some k → (compact ≡ false) ⊎ (discard ≡ false) → k ≡ 0
  none_goes false discard k some may = none_if (nat_le n longest) k some
  none_goes true false k some may = none_if (nat_le n (room_for (snapshot_of old) 0 h)) k some
  none_goes true true k some (inl f) = absurd (false≢true (sym f))
  none_goes true true k some (inr f) = absurd (false≢true (sym f))

pub allocation_law : C.AllocationLaw
allocation_law old new id n kind locks options answered is step = turn (C.discards_needed old n (Some id) options) refl step.request
  where
    turn : (p : Option ℕ) → C.discards_needed old n (Some id) options ≡ p → C.Request old id (record { options = options; prefix = p; becomes = IsNew options.zero n kind locks; order = C.with_newest id }) answered new
        → C.AllocatesFewest old id n options answered new
    turn None e request = record {
      fewest = λ t. absurd (false≢true (sym request.0 ∙ t));
      without = λ t _. absurd (false≢true (sym request.0 ∙ t));
      refused = λ _. (lacking old is n (Some id) options options.compact options.discard refl refl e, request.1);
    }
    turn (Some k) e request =
        let others = (others_law old new is k).0 id options request.1.0 (C.with_newest id request.1.0) request.1.2 in
        record {
          fewest = λ _. record { count = k; others = others; fewer = fewer_lack old is n (Some id) options.compact options.discard k e };
          without = λ _ may. subst (λ j. C.KeepsOthers old (Some id) j new) (none_goes old is n (Some id) options.compact options.discard k e may) others;
          refused = λ f. absurd (false≢true (sym f ∙ request.0));
        }

-- the most that sliding makes free is the room
most_after : (old : Heap) → C.IsHeap old → (k answer : ℕ) → answer ≡ room_for (snapshot_of old) k None → C.IsMostAfter old k answer
most_after old is k answer e =
    let left = C.blocks_without (blocks old) (take k _) None in
    subst (C.IsLongestStretch _ _ left) (sym e)
    (room_is_longest old.lo old.hi left (placed_filter _ _ (λ x. not (C.is_member x.id _ || C.is_about None x.id)) (blocks old) is.placed))

pub compaction_law : C.CompactionLaw
compaction_law old new n answer is step = turn (n == 0) step
  where
    fewer : (p : Option ℕ) → needed (snapshot_of old) n None ≡ p → (j : ℕ) → j < unwrap_or p (eligible_count old) → C.HasNoStretch old j None n
    fewer None e j lt = (discards_are_least old.lo old.hi (blocks old) old.order is.placed n None).none j e
    fewer (Some k) e j lt = (discards_are_least old.lo old.hi (blocks old) old.order is.placed n None).fewer k j e lt

    enough : (p : Option ℕ) → needed (snapshot_of old) n None ≡ p → answer ≡ room_for (snapshot_of old) (unwrap_or p (eligible_count old)) None → (n ≤ answer) ⊎ (unwrap_or p (eligible_count old) ≡ eligible_count old)
    enough None e promised = inr refl
    enough (Some k) e promised = let fits = needed_enough old.lo old.hi (blocks old) old.order n None k e in inl (omega (arith, fits, promised))

    turn : (b : Bool) → MatchBool b ((answer ≡ C.most_room old) × (new ≡ old)) (C.MakesRoom old n answer new) → MatchBool b (C.IsMostAfter old (eligible_count old) answer × (new ≡ old)) (C.MakesMost old n answer new)
    turn true same = (most_after old is (eligible_count old) answer same.0, same.1)
    turn false made = record {
      discards = record {
        count = compaction_prefix old n;
        others = (others_law old new is (compaction_prefix old n)).1 made.settled;
        fewer = fewer (needed (snapshot_of old) n None) refl;
      };
      most = most_after old is (compaction_prefix old n) answer made.promised;
      enough = enough (needed (snapshot_of old) n None) refl made.promised;
      free = λ some. let (a, b, hole, long) = (hole_is_longest new.lo new.hi (blocks new) made.settled.sound.placed).one_as_long (omega (arith, some, made.longest)) in (a, b, hole, long ∙ sym made.longest);
    }

pub global_compact_law : C.GlobalCompactLaw
global_compact_law old new size answer are step = compaction_law _ _ size _ are.heap step.compacted

-- a handle isn't 0
pub some_handle : (kind : Kind) (slot : ℕ) → C.handle_of kind slot ≡ 0 → ⊥
some_handle Fixed slot e = omega arith
some_handle C.Moveable slot e = omega arith
some_handle C.Discardable slot e = omega arith

pub global_alloc_law : C.GlobalAllocLaw
global_alloc_law old new flags size handle are (inl refused) = record {
  answered = λ some _. absurd (some refused.1);
  refused = λ _. (ap (λ g. g.heap) refused.2, reason refused.0);
}
  where
    reason : C.IsRefusedAlloc old flags size → C.IsEmptyFixed flags size ⊎ C.IsTooLong size ⊎ C.HasNoSlots old size ⊎ C.LacksRoom old.heap None (rounded_size size) (alloc_options flags)
    reason (inl fixed) = inl fixed
    reason (inr (inl long)) = inr (inl long)
    reason (inr (inr (inl full))) = inr (inr (inl full))
    reason (inr (inr (inr room))) = inr (inr (inr (lacking old.heap are.heap (rounded_size size) None (alloc_options flags) (alloc_options flags).compact (alloc_options flags).discard refl refl room.1)))
global_alloc_law old new flags size handle are (inr answers) = record {
  answered = λ _ some. (answers.slot, answers.named, made (C.is_absent_asked flags size) (with_bytes some) answers.made);
  refused = λ none. absurd (some_handle (kind_asked flags) answers.slot (sym answers.named ∙ none));
}
  where
    with_bytes : 0 < size → C.is_absent_asked flags size ≡ false
    with_bytes some = ap (λ b. b && C.has_flag flags C.GMEM_MOVEABLE) (C.ne_eqb size 0 (λ e. absurd (omega (arith, e, some))))

    made : (b : Bool) → b ≡ false → MatchBool b (C.Enters old.heap answers.slot (kind_asked flags) new.heap) (C.Allocates old.heap answers.slot (rounded_size size) (kind_asked flags) 0 (alloc_options flags) true new.heap)
        → C.AllocatesFewest old.heap answers.slot (rounded_size size) (alloc_options flags) true new.heap
    made true e m = absurd (false≢true (sym e))
    made false e m = allocation_law old.heap new.heap answers.slot (rounded_size size) (kind_asked flags) 0 (alloc_options flags) true are.heap m
