-- The laws of reallocation, case by case.
use Rattle.w16_model.proofs
use proofs.Common as C
use proofs.Common.{◌≡◌, ◌≢◌, ℕ, ◌+◌, ◌<◌, ◌≤◌, ◌⊎◌, inl, inr, Bool, true, false, cond, not, ◌&&◌, ◌||◌, nat_le, IsTrue, IsSomeAnd, List, ◌++◌, length, take, All, Option, Some, None, option_map, is_some, unwrap_or, refl, sym, ap, ◌∙◌, subst, arith, false≢true, Block, RoomOptions, Misses}
use proofs.Common.{is_any, longest_hole, IsClear, fits_in_place, growth_for, none_discarded_if, Heap, Object, IsHeap, blocks, object_at, size_of, is_pinned_object, with_ordered, with_newest, Asked, Request, IsNew, IsGrown, Settles, discarded, stays_for, discards_needed, snapshot_of}
use proofs.Common.{KeepsOthers, IsFreeBehind, is_held, ReallocatesFewest, MovesLittle}
use proofs.Gaps.{Each-at, Each-from, Each-from_All, All-from_Each}
use proofs.Heaps.{IsBlockOf, block_member, member_block}
use proofs.KeptHeaps.{inserted_here, inserted_other, bytes_in, AreBytes}
use proofs.Others.{others_law}
use proofs.Outcomes.{address_law, stays_other, or_right}
use proofs.Fewest.{allocation_law, lacking, fewer_lack, none_goes}
use proofs.Replaced.{MayLie, resized_heap, lies_there}
use proofs.Growth.{Revives, Asks, IsCase, case_of, stands, size_is, fits_free, free_fits}
use Rattle.std.specs.FinMap as finmap

-- an answered request has discarded so many, and what it made stands
pub asked : (old : Heap) (h : ℕ) (what : Asked) (new : Heap) → Request old h what true new
    → (k : ℕ) × (what.prefix ≡ Some k) × ((o : Object) × what.becomes o × Settles old (stays_for h what.options) (with_ordered (discarded old k (Some h)) h o (what.order o)) new)
asked old h what new r = turn _ refl r
  where
    turn : (p : Option ℕ) → what.prefix ≡ p → C.MatchOption p ((true ≡ false) × (new ≡ old)) (λ k. (true ≡ true) × ((o : Object) × what.becomes o × Settles old (stays_for h what.options) (with_ordered (discarded old k (Some h)) h o (what.order o)) new))
        → (k : ℕ) × (what.prefix ≡ Some k) × ((o : Object) × what.becomes o × Settles old (stays_for h what.options) (with_ordered (discarded old k (Some h)) h o (what.order o)) new)
    turn None e g = absurd (false≢true (sym g.0))
    turn (Some k) e g = (k, e, g.1)

-- a refused one has no number, and leaves the heap
pub not_asked : (old : Heap) (h : ℕ) (what : Asked) (new : Heap) → Request old h what false new → (what.prefix ≡ None) × (new ≡ old)
not_asked old h what new r = turn _ refl r
  where
    turn : (p : Option ℕ) → what.prefix ≡ p → C.MatchOption p ((false ≡ false) × (new ≡ old)) (λ k. (false ≡ true) × ((o : Object) × what.becomes o × Settles old (stays_for h what.options) (with_ordered (discarded old k (Some h)) h o (what.order o)) new)) → (what.prefix ≡ None) × (new ≡ old)
    turn None e g = (e, g.1)
    turn (Some k) e g = absurd (false≢true g.0)

-- a request leaves a heap
settled_heap : (old : Heap) → IsHeap old → (h : ℕ) (answered : Bool) (new : Heap) (what : Asked) → Request old h what answered new → IsHeap new
settled_heap old is h true new what r = (asked old h what new r).2.2.sound
settled_heap old is h false new what r = subst IsHeap (sym (not_asked old h what new r).1) is

-- The heap that is left.
module _ (old : Heap) (is : IsHeap old) (id n : ℕ) (some : 0 < n) (rounded : C.IsMultiple old.grain n) (o : Object) (there : object_at old id ≡ Some o) (options : RoomOptions) where
  counted : C.IsCounted o
  counted = subst (λ p. C.IfSome p C.IsCounted) there (is.counted id)

  are_bytes : AreBytes o.bytes
  are_bytes = subst (λ p. AreBytes (bytes_in p)) there (is.are_bytes id)

  -- the object at n bytes, where these may lie
  sized_heap : (bytes new_bytes : List ℕ) → o.bytes ≡ Some bytes → (p : Object) → p.bytes ≡ Some new_bytes → p.kind ≡ o.kind → p.locks ≡ o.locks → All (λ b. b < 256) new_bytes
      → MayLie old id (unwrap_or (finmap.get old.places id) 0) (length new_bytes) → IsHeap (C.with_object old id p)
  sized_heap bytes new_bytes has p has_new kind locks all lies =
      resized_heap old is id o p there old.order (ap is_some has_new ∙ sym (ap is_some has))
      (λ b e. let same : new_bytes ≡ b = (let some_b : ◌≡◌ {A = Option (List ℕ)} (Some new_bytes) (Some b) = sym has_new ∙ e in cc) in subst (λ (l : List ℕ). MayLie old id (unwrap_or (finmap.get old.places id) 0) (length l)) same lies)
      (subst AreBytes (sym has_new) all)
      (omega (arith, locks, counted.0), (λ f. locks ∙ counted.1 (subst (λ k. IsTrue (C.is_fixed k)) kind f)), (λ none. let both : ◌≡◌ {A = Option (List ℕ)} (Some new_bytes) None = sym has_new ∙ none in cc))
      refl kind

  -- where an object's bytes lie fewer may
  fewer_lie : (bytes : List ℕ) → o.bytes ≡ Some bytes → n ≤ length bytes → MayLie old id (unwrap_or (finmap.get old.places id) 0) n
  fewer_lie bytes has short =
      let l : MayLie old id (unwrap_or (finmap.get old.places id) 0) (length bytes) = lies_there old is id o there bytes has in
      record {
        low = l.low;
        some = some;
        high = omega (arith, l.high, short);
        at_grain = l.at_grain;
        grain = rounded;
        apart = λ y b d. elim (l.apart y b d) [ inl f ↦ inl (omega (arith, f, short)) | inr f ↦ inr f ];
      }

  -- and more where those behind are free
  more_lie : (bytes : List ℕ) → o.bytes ≡ Some bytes → length bytes < n → fits_in_place (snapshot_of old) n id ≡ true → MayLie old id (unwrap_or (finmap.get old.places id) 0) n
  more_lie bytes has long fits =
      let at : ℕ = unwrap_or (finmap.get old.places id) 0 in
      let l : MayLie old id at (length bytes) = lies_there old is id o there bytes has in
      let clear : IsClear is_any old.lo old.hi (blocks old) (at + length bytes) (at + n) = fits_free old is id o there bytes has n long fits in
      record {
        low = l.low;
        some = some;
        high = clear.below;
        at_grain = l.at_grain;
        grain = rounded;
        apart = λ y b d. beside y.at y.size at (length bytes) n (l.apart y b d) (Each-at (λ x. IsTrue true → Misses x.at x.size (at + length bytes) (at + n)) (blocks old) (Each-from_All _ (blocks old) clear.misses) y (block_member old y b) refl) (inside y b);
      }
    where
      inside : (y : Block) → IsBlockOf old y → 0 < y.size
      inside y b = (Each-at (λ x. (old.lo ≤ x.at) × (0 < x.size) × (C.block_end x ≤ old.hi)) (blocks old) (Each-from_All _ (blocks old) is.placed.inside) y (block_member old y b)).1

      beside : (y size at long n : ℕ) → Misses at long y (y + size) → Misses y size (at + long) (at + n) → 0 < size → Misses at n y (y + size)
      beside y size at long n f g s = grind arith

  -- each case leaves a heap
  case_heap : (answered : Bool) (new : Heap) → IsCase old id n o options answered new → IsHeap new
  case_heap answered new (inl revives) = settled_heap old is id answered new (record { options = options; prefix = discards_needed old n (Some id) options; becomes = IsNew options.zero n o.kind o.locks; order = with_newest id }) revives.allocated.request
  case_heap answered new (inr (inl cuts)) =
      let all : All (λ b. b < 256) (take n cuts.bytes) = C.All-take (λ b. b < 256) n cuts.bytes (subst AreBytes cuts.has are_bytes) in
      subst IsHeap (sym cuts.left) (sized_heap cuts.bytes (take n cuts.bytes) cuts.has (record o { bytes = Some (take n cuts.bytes) }) refl refl refl all
      (subst (λ m. MayLie old id (unwrap_or (finmap.get old.places id) 0) m) (sym (C.length-take-le n cuts.bytes cuts.short)) (fewer_lie cuts.bytes cuts.has cuts.short)))
  case_heap answered new (inr (inr (inl extends))) = elim extends.outcome [
    | inl fits ↦
        let g : IsGrown options.zero n o fits.2.0 = fits.2.1 in
        let bytes : List ℕ = extends.bytes ++ g.grown.0 in
        let has_new : fits.2.0.bytes ≡ Some bytes = g.grown.2 ∙ ap (option_map (λ bytes. bytes ++ g.grown.0)) extends.has in
        let long : length bytes ≡ n = C.length-append extends.bytes g.grown.0 ∙ omega (arith, g.grown.1.0, size_is old is id o there extends.bytes extends.has, extends.long) in
        subst IsHeap (sym fits.2.2) (sized_heap extends.bytes bytes extends.has fits.2.0 has_new g.same_kind g.same_locks
        (C.All-append (λ b. b < 256) extends.bytes g.grown.0 (subst AreBytes extends.has are_bytes) g.grown.1.1)
        (subst (λ m. MayLie old id (unwrap_or (finmap.get old.places id) 0) m) (sym long) (more_lie extends.bytes extends.has extends.long fits.0)))
    | inr short ↦ subst IsHeap (sym short.2) is
  ]
  case_heap answered new (inr (inr (inr asks))) = settled_heap old is id answered new (record { options = options; prefix = growth_for (snapshot_of old) n id options; becomes = IsGrown options.zero n o; order = λ _ order. order }) asks.request

-- a law by its cases, at the object that is there
pub by_case : (old new : Heap) (id n : ℕ) (options : RoomOptions) (answered : Bool) (P : Object → Type 0) → ((o : Object) → object_at old id ≡ Some o → IsCase old id n o options answered new → P o) → C.Reallocates old id n options answered new → IsSomeAnd (object_at old id) P
by_case old new id n options answered P f step = turn _ refl step.object
  where
    turn : (p : Option Object) → object_at old id ≡ p → IsSomeAnd p (λ o. C.ReallocatesObject old id o n options answered new) → IsSomeAnd p P
    turn None there r = absurd r
    turn (Some o) there r = f o there (case_of old id n o _ _ new r)

some_anyway : (p : Option Object) (P : Type 0) → IsSomeAnd p (λ _. P) → P
some_anyway None P h = absurd h
some_anyway (Some o) P h = h

pub heap_law : C.HeapLaw
heap_law old new id n options answered is step = some_anyway _ _ (by_case old new id n _ _ (λ _. IsHeap new) (λ o there c. case_heap old is id n step.some step.rounded o there _ _ new c) step)

-- What stands still.

-- everything, where the addresses are the same
all_still : (old new : Heap) → new.places ≡ old.places → (q : ℕ) → C.StandsStill old new q
all_still old new same q = turn _ refl
  where
    turn : (p : Option ℕ) → finmap.get old.places q ≡ p → C.IfSome p (λ at. finmap.get new.places q ≡ Some at)
    turn None e = tt
    turn (Some at) e = ap (λ m. finmap.get m q) same ∙ e

module _ (old : Heap) (is : IsHeap old) (id n : ℕ) (o : Object) (there : object_at old id ≡ Some o) (options : RoomOptions) (new : Heap) where
  -- with all addresses kept little is moved
  nothing_moved : (bytes : List ℕ) → o.bytes ≡ Some bytes → new.places ≡ old.places → MovesLittle old id n o options new
  nothing_moved bytes has same = record {
    others = record { pinned = λ q _ _. all_still old new same q; unmoved = λ _ q _. all_still old new same q };
    still = λ _ q. all_still old new same q;
    hole = λ _. at_place (finmap.get old.places id) (finmap.get new.places id) (ap (λ (m : C.FinMap C.nat_cmp ℕ). finmap.get m id) same) (stands old is id o there bytes has);
  }
    where
      at_place : (p r : Option ℕ) → r ≡ p → p ≡ Some (unwrap_or (finmap.get old.places id) 0) → IsSomeAnd r (λ at. (p ≡ Some at) ⊎ IsClear is_any old.lo old.hi (blocks old) at (at + n))
      at_place None None e f = cc
      at_place None (Some at) e f = cc
      at_place (Some a) None e f = cc
      at_place (Some a) (Some at) e f = inl (sym e)

  -- an object that had no bytes stands where all was free, if nothing else moves
  in_hole : (p : Object) → IsNew options.zero n o.kind o.locks p → o.bytes ≡ None → options.compact ≡ false → Settles old (stays_for id options) (with_ordered (discarded old 0 (Some id)) id p (with_newest id p)) new
      → IsSomeAnd (finmap.get new.places id) (λ at. (finmap.get old.places id ≡ Some at) ⊎ IsClear is_any old.lo old.hi (blocks old) at (at + n))
  in_hole p made none still settles = turn p.bytes refl made.new_bytes
    where
      there_now : object_at new id ≡ Some p
      there_now = ap (λ (h : Heap). object_at h id) settles.same ∙ inserted_here old.objects id p id refl

      other : (x : Block) → IsBlockOf old x → x.id ≢ id
      other x b e =
          let same : b.object ≡ o = (let both : ◌≡◌ {A = Option Object} (Some b.object) (Some o) = sym b.is_there ∙ ap (object_at old) e ∙ there in cc) in
          let no : ◌≡◌ {A = Option (List ℕ)} (Some b.bytes) None = sym b.has_bytes ∙ ap (λ (q : Object). q.bytes) same ∙ none in
          cc

      block_now : (x : Block) → IsBlockOf old x → IsBlockOf new x
      block_now x b =
          let kept : finmap.get new.places x.id ≡ Some x.at = Each-at
          (λ y. IsTrue (stays_for id options y) → finmap.get new.places y.id ≡ Some y.at) (blocks old)
          (Each-from_All _ (blocks old) settles.kept) x (block_member old x b)
          (stays_other id options x (other x b) (or_right (C.is_pinned x) options.compact still)) in
          record {
            object = b.object;
            bytes = b.bytes;
            is_there = ap (λ (h : Heap). object_at h x.id) settles.same ∙ inserted_other old.objects id p x.id (other x b) ∙ b.is_there;
            has_bytes = b.has_bytes;
            place = ap (λ q. unwrap_or q 0) (sym kept);
            size = b.size;
            hold = b.hold;
          }

      apart_from : (at n long y size : ℕ) → long ≡ n → Misses at long y (y + size) → Misses y size at (at + n)
      apart_from at n long y size e f = grind arith

      turn : (b : Option (List ℕ)) → p.bytes ≡ b → IsSomeAnd b (C.AreNew options.zero n) → IsSomeAnd (finmap.get new.places id) (λ at. (finmap.get old.places id ≡ Some at) ⊎ IsClear is_any old.lo old.hi (blocks old) at (at + n))
      turn None has news = absurd news
      turn (Some bytes) has news =
          let at : ℕ = unwrap_or (finmap.get new.places id) 0 in
          let l : MayLie new id at (length bytes) = lies_there new settles.sound id p there_now bytes has in
          let low : new.lo ≡ old.lo = ap (λ (h : Heap). h.lo) settles.same in
          let high : new.hi ≡ old.hi = ap (λ (h : Heap). h.hi) settles.same in
          let clear : IsClear is_any old.lo old.hi (blocks old) at (at + n) = record {
            above = omega (arith, l.low, low);
            below = omega (arith, l.high, high, news.0);
            misses = All-from_Each _ (blocks old) (Each-from (λ x. IsTrue true → Misses x.at x.size at (at + n)) (blocks old) (λ x m t.
                let b : IsBlockOf old x = member_block old x m in
                apart_from at n (length bytes) x.at x.size news.0 (l.apart x (block_now x b) (other x b))));
          } in
          subst (λ (r : Option ℕ). IsSomeAnd r (λ at. (finmap.get old.places id ≡ Some at) ⊎ IsClear is_any old.lo old.hi (blocks old) at (at + n))) (sym (stands new settles.sound id p there_now bytes has)) (inr clear)

  moves_little : IsCase old id n o options true new → MovesLittle old id n o options new
  moves_little (inl revives) =
      let what : Asked = record { options = options; prefix = discards_needed old n (Some id) options; becomes = IsNew options.zero n o.kind o.locks; order = with_newest id } in
      let r : (k : ℕ) × (what.prefix ≡ Some k) × ((p : Object) × what.becomes p × Settles old (stays_for id what.options) (with_ordered (discarded old k (Some id)) id p (what.order p)) new) = asked old id what new revives.allocated.request in
      record {
        others = (address_law old new is r.0).0 id options r.2.0 (with_newest id r.2.0) r.2.2;
        still = λ why. absurd (not_still revives why);
        hole = λ none. in_hole r.2.0 r.2.1 revives.none none (subst (λ (k : ℕ). Settles old (stays_for id options) (with_ordered (discarded old k (Some id)) id r.2.0 (with_newest id r.2.0)) new) (none_goes old is n (Some id) options.compact options.discard r.0 r.1 (inl none)) r.2.2);
      }
    where
      not_still : Revives old id n o options true new → (n ≤ size_of o) ⊎ (is_held o options ≡ true) → ⊥
      not_still revives (inl le) = let size : size_of o ≡ 0 = ap (λ b. unwrap_or (option_map length b) 0) revives.none in omega (arith, size, le, revives.allocated.some)
      not_still revives (inr t) = false≢true (sym (ap (λ b. is_some b && (is_pinned_object o && not options.may_move)) revives.none) ∙ t)
  moves_little (inr (inl cuts)) = nothing_moved cuts.bytes cuts.has (ap (λ (h : Heap). h.places) cuts.left)
  moves_little (inr (inr (inl extends))) = elim extends.outcome [
    | inl fits ↦ nothing_moved extends.bytes extends.has (ap (λ (h : Heap). h.places) fits.2.2)
    | inr short ↦ absurd (false≢true (sym short.1))
  ]
  moves_little (inr (inr (inr asks))) =
      let what : Asked = record { options = options; prefix = growth_for (snapshot_of old) n id options; becomes = IsGrown options.zero n o; order = λ _ order. order } in
      let r : (k : ℕ) × (what.prefix ≡ Some k) × ((p : Object) × what.becomes p × Settles old (stays_for id what.options) (with_ordered (discarded old k (Some id)) id p (what.order p)) new) = asked old id what new asks.request in
      record {
        others = (address_law old new is r.0).0 id options r.2.0 (λ order. order) r.2.2;
        still = λ why. absurd (not_still asks why);
        hole = λ none. asks.stays none refl;
      }
    where
      not_still : Asks old id n o options true new → (n ≤ size_of o) ⊎ (is_held o options ≡ true) → ⊥
      not_still asks (inl le) = omega (arith, le, asks.long, size_is old is id o there asks.bytes asks.has)
      not_still asks (inr t) = false≢true (sym asks.held ∙ sym (ap (λ b. is_some b && (is_pinned_object o && not options.may_move)) asks.has) ∙ t)

pub moves_law : C.MovesLaw
moves_law old new id n options is step = by_case old new id n _ true (λ o. MovesLittle old id n o _ new) (λ o there c. moves_little old is id n o there _ new c) step

-- Fewest discards.

-- nothing is discarded where one object alone has another in its place
pub none_discarded : (old : Heap) (id : ℕ) (p : Object) → KeepsOthers old (Some id) 0 (C.with_object old id p)
none_discarded old id p = record {
  kept = λ q other _. inserted_other _ id p q (λ e. other (ap Some (sym e)));
  discarded = λ q t. absurd (false≢true t);
}

module _ (old : Heap) (is : IsHeap old) (id n : ℕ) (o : Object) (there : object_at old id ≡ Some o) (options : RoomOptions) (answered : Bool) (new : Heap) where
  -- answered without a discard
  keeps_all : answered ≡ true → KeepsOthers old (Some id) 0 new → ReallocatesFewest old id n o options answered new
  keeps_all said others = record {
    fewest = λ _. record { count = 0; others = others; fewer = λ j less. absurd (omega (arith, less)) };
    without = λ _ _. others;
    refused = λ unsaid. absurd (false≢true (sym unsaid ∙ said));
  }

  -- what the object has room for, with nothing moved
  held_is : (bytes : List ℕ) → o.bytes ≡ Some bytes → is_held o options ≡ (is_pinned_object o && not options.may_move)
  held_is bytes has = ap (λ b. is_some b && (is_pinned_object o && not options.may_move)) has

  -- neither fits nor has a hole: no number
  neither : (fits hole : Bool) → none_discarded_if (fits || hole) ≡ None → (fits ≡ false) × (none_discarded_if hole ≡ None)
  neither true hole e = cc
  neither false hole e = (refl, e)

  zero_if : (b : Bool) (k : ℕ) → none_discarded_if b ≡ Some k → k ≡ 0
  zero_if true k e = cc
  zero_if false k e = cc

  -- the number for a growth, by whether others may slide
  abbrev by_way : Bool → Option ℕ
  by_way compact = cond {A = Option ℕ} compact (discards_needed old n (Some id) options) (none_discarded_if (fits_in_place (snapshot_of old) n id || nat_le n (longest_hole old.lo old.hi (blocks old))))

  -- no fewer serve
  fewer : (compact : Bool) → options.compact ≡ compact → (k : ℕ) → by_way compact ≡ Some k → (j : ℕ) → j < k → C.HasNoStretch old j (Some id) n
  fewer true c k e j less = fewer_lack old is n (Some id) options.compact options.discard k e j less
  fewer false c k e j less = let none : k ≡ 0 = zero_if (fits_in_place (snapshot_of old) n id || nat_le n (longest_hole old.lo old.hi (blocks old))) k e in absurd (omega (arith, none, less))

  -- none where none may be
  none_may : (compact : Bool) → options.compact ≡ compact → (k : ℕ) → by_way compact ≡ Some k → (options.compact ≡ false) ⊎ (options.discard ≡ false) → k ≡ 0
  none_may true c k e may = none_goes old is n (Some id) options.compact options.discard k e may
  none_may false c k e may = zero_if (fits_in_place (snapshot_of old) n id || nat_le n (longest_hole old.lo old.hi (blocks old))) k e

  -- without a number there is no room, and with nothing moved none behind the object
  no_place : (bytes : List ℕ) → o.bytes ≡ Some bytes → length bytes < n → (compact : Bool) → options.compact ≡ compact → by_way compact ≡ None → C.LacksRoom old (Some id) n options × (options.compact ≡ false → IsFreeBehind old id o n → ⊥)
  no_place bytes has long true c e = (lacking old is n (Some id) options options.compact options.discard refl refl e, λ f. absurd (false≢true (sym f ∙ c)))
  no_place bytes has long false c e =
      let none : (fits_in_place (snapshot_of old) n id ≡ false) × (none_discarded_if (nat_le n (longest_hole old.lo old.hi (blocks old))) ≡ None) = neither (fits_in_place (snapshot_of old) n id) (nat_le n (longest_hole old.lo old.hi (blocks old))) e in
      (lacking old is n (Some id) options false options.discard c refl none.1, λ _ free. false≢true (sym none.0 ∙ free_fits old is id o there bytes has n long free))

  -- a revival
  revived : Revives old id n o options answered new → ReallocatesFewest old id n o options answered new
  revived revives =
      let a : C.AllocatesFewest old id n options answered new = allocation_law old new id n o.kind o.locks options answered is revives.allocated in
      record {
        fewest = a.fewest;
        without = λ said why. a.without said (may why);
        refused = λ unsaid. (omega (arith, size, revives.allocated.some), inr (not_held, (a.refused unsaid).0, λ _ free. nowhere free), (a.refused unsaid).1);
      }
    where
      size : size_of o ≡ 0
      size = ap (λ b. unwrap_or (option_map length b) 0) revives.none

      not_held : is_held o options ≡ false
      not_held = ap (λ b. is_some b && (is_pinned_object o && not options.may_move)) revives.none

      may : (options.compact ≡ false) ⊎ (options.discard ≡ false) ⊎ (n ≤ size_of o) ⊎ (is_held o options ≡ true) → (options.compact ≡ false) ⊎ (options.discard ≡ false)
      may (inl c) = inl c
      may (inr (inl d)) = inr d
      may (inr (inr (inl le))) = absurd (omega (arith, le, size, revives.allocated.some))
      may (inr (inr (inr t))) = absurd (false≢true (sym not_held ∙ t))

      -- an object without bytes stands nowhere
      nowhere : IsFreeBehind old id o n → ⊥
      nowhere free = turn (finmap.get old.places id) (is.at_bytes id ∙ ap (λ (p : Option Object). is_some (bytes_in p)) there ∙ ap is_some revives.none) free
        where
          turn : (p : Option ℕ) → is_some p ≡ false → IsSomeAnd p (λ at. IsClear is_any old.lo old.hi (blocks old) (at + size_of o) (at + n)) → ⊥
          turn None e f = f
          turn (Some at) e f = false≢true (sym e)

  -- a growth by a request
  asked_fewest : (b : Bool) → answered ≡ b → Asks old id n o options b new → ReallocatesFewest old id n o options b new
  asked_fewest true said asks =
      let what : Asked = record { options = options; prefix = growth_for (snapshot_of old) n id options; becomes = IsGrown options.zero n o; order = λ _ order. order } in
      let r : (k : ℕ) × (what.prefix ≡ Some k) × ((p : Object) × what.becomes p × Settles old (stays_for id what.options) (with_ordered (discarded old k (Some id)) id p (what.order p)) new) = asked old id what new asks.request in
      let others : KeepsOthers old (Some id) r.0 new = (others_law old new is r.0).0 id options r.2.0 (λ order. order) r.2.2 in
      record {
        fewest = λ _. record { count = r.0; others = others; fewer = fewer options.compact refl r.0 r.1 };
        without = λ _ why. subst (λ k. KeepsOthers old (Some id) k new) (none_may options.compact refl r.0 r.1 (may asks why)) others;
        refused = λ unsaid. absurd (false≢true (sym unsaid));
      }
    where
      may : Asks old id n o options true new → (options.compact ≡ false) ⊎ (options.discard ≡ false) ⊎ (n ≤ size_of o) ⊎ (is_held o options ≡ true) → (options.compact ≡ false) ⊎ (options.discard ≡ false)
      may asks (inl c) = inl c
      may asks (inr (inl d)) = inr d
      may asks (inr (inr (inl le))) = absurd (omega (arith, le, asks.long, size_is old is id o there asks.bytes asks.has))
      may asks (inr (inr (inr t))) = absurd (false≢true (sym asks.held ∙ sym (held_is asks.bytes asks.has) ∙ t))
  asked_fewest false unsaid asks =
      let what : Asked = record { options = options; prefix = growth_for (snapshot_of old) n id options; becomes = IsGrown options.zero n o; order = λ _ order. order } in
      let r : (what.prefix ≡ None) × (new ≡ old) = not_asked old id what new asks.request in
      let lacks : C.LacksRoom old (Some id) n options × (options.compact ≡ false → IsFreeBehind old id o n → ⊥) = no_place asks.bytes asks.has asks.long options.compact refl r.0 in
      record {
        fewest = λ said. absurd (false≢true said);
        without = λ said _. absurd (false≢true said);
        refused = λ _. (omega (arith, asks.long, size_is old is id o there asks.bytes asks.has), inr (held_is asks.bytes asks.has ∙ asks.held, lacks.0, lacks.1), r.1);
      }

  reallocates_fewest : IsCase old id n o options answered new → ReallocatesFewest old id n o options answered new
  reallocates_fewest (inl revives) = revived revives
  reallocates_fewest (inr (inl cuts)) = keeps_all cuts.yes (subst (KeepsOthers old (Some id) 0) (sym cuts.left) (none_discarded old id (record o { bytes = Some (take n cuts.bytes) })))
  reallocates_fewest (inr (inr (inl extends))) = elim extends.outcome [
    | inl fits ↦ keeps_all fits.1 (subst (KeepsOthers old (Some id) 0) (sym fits.2.2) (none_discarded old id fits.2.0))
    | inr short ↦ record {
      fewest = λ said. absurd (false≢true (sym short.1 ∙ said));
      without = λ said _. absurd (false≢true (sym short.1 ∙ said));
      refused = λ _. (
        omega (arith, extends.long, size_is old is id o there extends.bytes extends.has),
        inl (held_is extends.bytes extends.has ∙ extends.held, λ free. false≢true (sym short.0 ∙ free_fits old is id o there extends.bytes extends.has n extends.long free)),
        short.2,
      );
    }
  ]
  reallocates_fewest (inr (inr (inr asks))) = of_answer answered refl asks
    where
      of_answer : (b : Bool) → answered ≡ b → Asks old id n o options answered new → ReallocatesFewest old id n o options answered new
      of_answer b e asks = subst (λ a. ReallocatesFewest old id n o options a new) (sym e) (asked_fewest b e (subst (λ a. Asks old id n o options a new) e asks))

pub fewest_law : C.FewestLaw
fewest_law old new id n options answered is step = by_case old new id n _ _ (λ o. ReallocatesFewest old id n o _ _ new) (λ o there c. reallocates_fewest old is id n o there _ _ new c) step
