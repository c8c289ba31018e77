-- Which local heaps a call of a program for bytes spares, told by how many discardable objects there are before and after.
use Rattle.w16_kernel.proofs
use proofs.Common as C
use proofs.Common.{◌≡◌, ◌≢◌, ℕ, ◌≤◌, ◌/◌, inl, inr, Bool, true, false, cond, not, ◌&&◌, ◌==◌, if◌then◌else◌, IfSome, IsSomeAnd, List, [], ◌∷◌, length, filter, Option}
use proofs.Common.{Some, None, option_map, unwrap_or, is_some, refl, sym, ap, ◌∙◌, subst, arith, false≢true, nat_cmp, FinMap, Heap, Object}
use proofs.Common.{Table, object_at, bytes_at, is_in_order, is_member, without, AreHandles, slot_of_handle, CallStep, handle_in, may_change, GlobalFree, GlobalCompact}
use proofs.Common.{Calls, ReAllocs, Reply, Word, Dword, World, OfHandles, OfResizes, stays, IsLocalIn, has_range, left_in, OthersStay}
use proofs.Absent.{slot_in_handle}
use Rattle.std.specs.Prelude.{◌||◌}
use Rattle.std.proofs.lemmas.Bool.{eq-eqb, eqb-true, ne_eqb}
use Rattle.w16_model.specs.{Calls.Answer, Outcomes.Call, Outcomes.Resized, Outcomes.Outcome.IsSame}
use Rattle.w16_model.specs.Commands.{Command}
use Rattle.w16_loading.specs.Families.{AnyCommand}
use Rattle.w16_model.specs.Commands.Family.{OfHandles}
use Rattle.w16_model.specs.Commands.Command.{GlobalAlloc}
use Rattle.w16_model.proofs.{CallOrders.resized_leaves, Fewest.some_handle}
use Rattle.std.specs.FinMap as finmap
use Rattle.w16_model.specs.Calls as calls
use Rattle.w16_loading.specs.Families.AnyCommand.{any}

-- a filter that leaves as many leaves all
filter_all : (p : ℕ → Bool) (l : List ℕ) → length l ≤ length (filter p l) → filter p l ≡ l
filter_all p [] le = refl
filter_all p (x ∷ l) le = turn (p x) le (filter_all p l)
  where
    turn : (b : Bool) → length (x ∷ l) ≤ length (cond {A = List ℕ} b (x ∷ filter p l) (filter p l))
        → (length l ≤ length (filter p l) → filter p l ≡ l) → cond {A = List ℕ} b (x ∷ filter p l) (filter p l) ≡ x ∷ l
    turn true le rest = ap (λ m. x ∷ m) (rest (omega arith))
    turn false le rest = absurd (let few = C.length-filter p l in let fewer = C.count_by-le-length p l in omega (arith, le, few, fewer))

-- The slot of a call's object: the one that it names, or that it has made.

abbrev pub slot_made : Answer → ℕ
slot_made (calls.Answer.Word handle) = handle / 8
slot_made answer = 0

abbrev pub slot_in : Call → Answer → ℕ
slot_in call answer = unwrap_or (option_map (λ handle. handle / 8) (handle_in call)) (slot_made answer)

module _ (old : C.Handles) where
  found_slot : (handle slot : ℕ) → slot_of_handle old handle ≡ Some slot → handle / 8 ≡ slot
  found_slot handle slot found = turn (object_at old.heap slot) ((C.names_law old handle slot).0.0 found)
    where
      turn : (p : Option Object) → IsSomeAnd p (λ o. handle ≡ C.handle_of o.kind slot) → handle / 8 ≡ slot
      turn None h = absurd h
      turn (Some o) h = ap (λ n. n / 8) h ∙ slot_in_handle o.kind slot

  about_slot : (p : Option ℕ) (made q : ℕ) → IsSomeAnd p (λ handle. slot_of_handle old handle ≡ Some q) → unwrap_or (option_map (λ handle. handle / 8) p) made ≡ q
  about_slot None made q h = absurd h
  about_slot (Some handle) made q h = found_slot handle q h

-- Where an object that gets another size keeps its slot.
module _ (old new : C.Handles) (is : AreHandles old) (are : AreHandles new) (call : Call) (answer : Answer)
    (may : may_change call ≡ true) (keeps : (r : Resized old call answer new) → r.first ≡ r.slot) where
  -- beside an object the order of use only loses what was discarded
  abbrev Leaves : ℕ → Type 0
  Leaves slot = C.OnlyLeave new.heap (without slot old.heap.order) (without slot new.heap.order)

  named : {handle slot : ℕ} → handle_in call ≡ Some handle → slot_of_handle old handle ≡ Some slot → Leaves slot → Leaves (slot_in call answer)
  named names found = subst Leaves (sym (ap (λ p. unwrap_or (option_map (λ handle. handle / 8) p) (slot_made answer)) names ∙ found_slot old _ _ found))

  same_order : (slot : ℕ) → without slot new.heap.order ≡ without slot old.heap.order → Leaves slot
  same_order slot e = stays old.heap _ _ _ e

  never : may_change call ≡ false → Leaves (slot_in call answer)
  never none = absurd (false≢true (sym none ∙ may))

  leaves : C.Outcome old call answer new → Leaves (slot_in call answer)
  leaves (IsSame s e) = same_order _ (rw e)
  leaves (C.IsUnmoved s e) = same_order _ (rw e)
  leaves (C.IsLocked l) = never (ap may_change l.asked)
  leaves (C.IsUnlocked u) = never (ap may_change u.asked)
  leaves (C.IsFreed f) = named (ap handle_in f.asked) f.named.found (same_order f.slot (rw f.rest (C.twice_out f.slot old.heap.order)))
  leaves (C.IsNewest n) = never (ap may_change n.asked)
  leaves (C.IsOldest n) = never (ap may_change n.asked)
  leaves (C.IsEntered e) = same_order _ (rw e.entered.entered)
  leaves (C.IsAllocated a) =
      let made : slot_in call answer ≡ a.slot = (λ i. slot_in (a.asked i) (a.answered i)) ∙ slot_in_handle (C.kind_asked a.flags) a.slot in
      subst Leaves (sym made) (C.allocated _ _ is.heap _ _ (C.alloc_options a.flags) _ a.settled)
  leaves (C.IsCompacted c) =
      let left = C.compacted _ _ is.heap _ c.settled in
      record {
        gone = left.gone;
        without_bytes = left.without_bytes;
        order_is = ap (without (slot_in call answer)) left.order_is
            ∙ C.filter_swapped (λ q. not (q == slot_in call answer)) (λ q. not (is_member q left.gone)) old.heap.order;
      }
  leaves (C.IsModified m) = named (ap handle_in m.asked) m.named.found (same_order m.slot m.changes.rest)
  leaves (C.IsDiscarded d) = named (ap handle_in d.asked) d.named.found (same_order d.slot (rw d.rest (C.twice_out d.slot old.heap.order)))
  leaves (C.IsResized r) = named (ap handle_in r.asked) r.named.found (rw (keeps r) at (resized_leaves old new is call answer r))

  module _ (step : CallStep old call answer new) (many : length (without (slot_in call answer) old.heap.order) ≤ length (without (slot_in call answer) new.heap.order))
      (q : ℕ) (other : q ≢ slot_in call answer) where
    left : Leaves (slot_in call answer)
    left = leaves (C.outcome old new call answer is step)

    listed : is_in_order (object_at new.heap q) ≡ is_in_order (object_at old.heap q)
    listed =
        let slot : ℕ = slot_in call answer in
        let kept : without slot new.heap.order ≡ without slot old.heap.order = left.order_is
        ∙ filter_all (λ q. not (is_member q left.gone)) (without slot old.heap.order) (subst (λ (l : List ℕ). length (without slot old.heap.order) ≤ length l) left.order_is many) in
        sym (are.heap.in_order q) ∙ sym (C.other_of q slot new.heap.order other) ∙ ap (is_member q) kept ∙ C.other_of q slot old.heap.order other ∙ is.heap.in_order q

    -- so no other object was discarded
    kept_object : C.IsKeptOrDiscarded old.heap new.heap q → object_at new.heap q ≡ object_at old.heap q
    kept_object (inl same) = same
    kept_object (inr gone) = turn (object_at old.heap q) refl gone
      where
        turn : (p : Option Object) → object_at old.heap q ≡ p → IsSomeAnd p
            (λ o. (o.kind ≡ C.Discardable) × (o.locks ≡ 0) × (is_some o.bytes ≡ true) × (object_at new.heap q ≡ Some (record o { bytes = None })))
            → object_at new.heap q ≡ object_at old.heap q
        turn None e h = absurd h
        turn (Some o) e h = absurd (false≢true ((λ i. C.is_discardable (sym h.0 i) && false) ∙ sym (ap is_in_order h.3) ∙ listed ∙ ap is_in_order e ∙ (λ i. C.is_discardable (h.0 i) && h.2 i)))

    there : (t : Table) → IsSomeAnd (bytes_at old.heap q) (IsLocalIn t) → is_some (object_at old.heap q) ≡ true
    there t = turn (object_at old.heap q)
      where
        turn : (p : Option Object) → IsSomeAnd (C.bytes_in p) (IsLocalIn t) → is_some p ≡ true
        turn None h = absurd h
        turn (Some o) h = refl

    inside : (t : Table) (b : Option (List ℕ)) → IsSomeAnd b (IsLocalIn t) → (elim b as (λ _. Bool) [ None ↦ false | Some bytes ↦ C.nat_le t.hi (length bytes) ]) ≡ true
    inside t None h = absurd h
    inside t (Some bytes) h = C.le-leb t.hi (length bytes) h.1

    pub keeps_range : (tables : FinMap nat_cmp Table) → IfSome (finmap.get tables q) (λ t. IsSomeAnd (bytes_at old.heap q) (IsLocalIn t))
        → IfSome (finmap.get tables q) (λ _. has_range new.heap tables q ≡ true)
    keeps_range tables = turn (finmap.get tables q) refl
      where
        turn : (p : Option Table) → finmap.get tables q ≡ p → IfSome p (λ t. IsSomeAnd (bytes_at old.heap q) (IsLocalIn t)) → IfSome p (λ _. has_range new.heap tables q ≡ true)
        turn None e h = tt
        turn (Some t) e h =
            let same : object_at new.heap q ≡ object_at old.heap q = kept_object
            (C.bystanders_law old new call answer q is step (there t h) (λ a. other (sym (about_slot old (handle_in call) (slot_made answer) q a)))) in
            (λ i. elim (e i) as (λ _. Bool) [ None ↦ false | Some t ↦ elim (C.bytes_in (same i)) as (λ _. Bool) [ None ↦ false | Some bytes ↦ C.nat_le t.hi (length bytes) ] ])
            ∙ inside t (bytes_at old.heap q) h

-- an order that lacks an id is no longer without another
pub shorter : (id slot : ℕ) (l : List ℕ) → is_member id l ≡ false → length (without slot l) ≤ length (without id l)
shorter id slot l none =
    let same = ap (length {A = ℕ}) (C.without_absent id l none) in
    let few = C.length-filter (λ q. not (q == slot)) l in
    let fewer = C.count_by-le-length (λ q. not (q == slot)) l in omega (arith, same, few, fewer)

-- Where all other heaps have their ranges, a sweep of one slot is one of all.
module _ (heap : Heap) (tables : FinMap nat_cmp Table) (slot : ℕ) (others : (q : ℕ) → q ≢ slot → IfSome (finmap.get tables q) (λ _. has_range heap tables q ≡ true)) where
  left_at : (q : ℕ) → finmap.get (left_in heap tables) q ≡ cond (has_range heap tables q) (finmap.get tables q) None
  left_at q = C.get-retain_keys tables (has_range heap tables) q (λ x t. ap (has_range heap tables) (sym (C.nat_cmp-IsAntisymmetric q x t)))

  other_left : (q : ℕ) → q ≢ slot → finmap.get (left_in heap tables) q ≡ finmap.get tables q
  other_left q d = left_at q ∙ turn (has_range heap tables q) (finmap.get tables q) (others q d)
    where
      turn : (b : Bool) (p : Option Table) → IfSome p (λ _. b ≡ true) → cond b p None ≡ p
      turn true p h = refl
      turn false None h = refl
      turn false (Some t) h = absurd (false≢true h)

  pub swept_slot : (b : Bool) → has_range heap tables slot ≡ b → (if b then tables else finmap.remove tables slot) ≡ left_in heap tables
  swept_slot b has = C.same_map C.nat_cmp_total C.nat_cmp-IsAntisymmetric (if b then tables else finmap.remove tables slot) (left_in heap tables)
      (λ q. elim (C.cases_eq q slot) [
        | inl e ↦ here b q e ∙ sym (left_at q ∙ ap (λ b. cond b (finmap.get tables q) None) (ap (has_range heap tables) e ∙ has))
        | inr d ↦ away b q d
            ∙ sym (other_left q d)
      ])
    where
      here : (b : Bool) (q : ℕ) → q ≡ slot → finmap.get (if b then tables else finmap.remove tables slot) q ≡ cond b (finmap.get tables q) None
      here true q e = refl
      here false q e = C.taken_here tables slot q e

      away : (b : Bool) (q : ℕ) → q ≢ slot → finmap.get (if b then tables else finmap.remove tables slot) q ≡ finmap.get tables q
      away true q d = refl
      away false q d = C.taken_other tables slot q d

-- What a step leaves of other local heaps than that in its object.
module _ (honest : Type 0) (old : World) (is : C.IsWorldOver honest old) (mid : World) (are : AreHandles mid.loading.handles) where
  abbrev order : List ℕ
  order = old.loading.handles.heap.order

  by_call : (call : Call) (answer : Answer) → may_change call ≡ true → ((r : Resized old.loading.handles call answer mid.loading.handles) → r.first ≡ r.slot)
      → mid.heaps ≡ old.heaps → CallStep old.loading.handles call answer mid.loading.handles
      → (before : ℕ) → length (without (slot_in call answer) order) ≤ before → OthersStay (Some (slot_in call answer)) before mid
  by_call call answer may keeps same step before le = λ few q other.
      keeps_range _ _ is.0.heaps.handles are call answer may keeps step (omega (arith, le, few)) q other mid.heaps
      (rw same (is.0.heaps.heaps q))

  -- a call of another kind gives no object another size, nor does a discard
  other_call : (command : Command OfHandles) (answer : Answer) (r : Resized old.loading.handles (Calls command) answer mid.loading.handles) → r.first ≡ r.slot
  other_call command answer r = absurd (let e = r.asked in cc)

  discarded : (handle : ℕ) (answer : Answer) (r : Resized old.loading.handles (ReAllocs handle 0 C.GMEM_MOVEABLE) answer mid.loading.handles) → r.first ≡ r.slot
  discarded handle answer r = let none : r.size ≡ 0 = (let e = r.asked in cc) in absurd (false≢true (sym r.sized.1 ∙ eq-eqb r.size 0 none))

  -- an object keeps its slot where its handle is answered
  same_slot : (handle size flags answer : ℕ) → ((answer == 0) || (answer / 8 == handle / 8)) ≡ true
      → (r : Resized old.loading.handles (ReAllocs handle size flags) (calls.Answer.Word answer) mid.loading.handles) → r.first ≡ r.slot
  same_slot handle size flags answer kept r =
      let named : r.handle ≡ handle = (let e = r.asked in cc) in
      let says : answer ≡ C.handle_of r.object.kind r.first = (let e = r.answered in cc) in
      let some : answer ≢ 0 = λ none. some_handle r.object.kind r.first (sym says ∙ none) in
      let same : answer / 8 ≡ handle / 8 = eqb-true (answer / 8) (handle / 8) (sym (ap (λ b. b || (answer / 8 == handle / 8)) (ne_eqb answer 0 some)) ∙ kept) in
      sym (slot_in_handle r.object.kind r.first) ∙ ap (λ n. n / 8) (sym says) ∙ same ∙ ap (λ n. n / 8) (sym named) ∙ found_slot old.loading.handles r.handle r.slot r.named.found

  -- no object has the slot 0
  none_at_0 : is_member 0 order ≡ false
  none_at_0 = is.0.heaps.handles.heap.in_order 0 ∙ turn (object_at old.loading.handles.heap 0) refl
    where
      turn : (p : Option Object) → object_at old.loading.handles.heap 0 ≡ p → is_in_order p ≡ false
      turn None there = refl
      turn (Some o) there = absurd (let low = (C.numbered old.loading.handles is.0.heaps.handles 0 (ap is_some there)).0 in omega (arith, low))

  freed : (handle : ℕ) (answer : Option Answer) → mid.heaps ≡ old.heaps → IsSomeAnd answer (λ answer. CallStep old.loading.handles (Calls (GlobalFree handle)) answer mid.loading.handles)
      → OthersStay (Some (handle / 8)) (length (without (handle / 8) order)) mid
  freed handle None same h = absurd h
  freed handle (Some answer) same h = by_call (Calls (GlobalFree handle)) answer refl (other_call _ _) same h (length (without (handle / 8) order)) (omega arith)

  -- an object that may have left its slot is not looked at
  kept : (b : Bool) (slot before : ℕ) → (b ≡ true → OthersStay (Some slot) before mid) → OthersStay (if b then Some slot else None) before mid
  kept true slot before stay = stay refl
  kept false slot before stay = tt

  pub others_stay : (command : AnyCommand) (reply : Reply) → C.Unswept honest old command reply mid
      → OthersStay (C.object_slot command (C.word_of reply)) (C.discardable_beside (C.object_slot command 0) old.loading.handles.heap) mid
  others_stay (any _ (GlobalAlloc flags size)) (Word handle) s = by_call
      (Calls (GlobalAlloc flags size)) (calls.Answer.Word handle) refl
      (other_call _ _) (ap (λ (w : World). w.heaps) s.1) s.0
      (length (without 0 order)) (shorter 0 (handle / 8) order none_at_0)
  others_stay (any _ (GlobalAlloc flags size)) reply s = absurd s.0
  others_stay (any _ (GlobalFree handle)) reply s = freed handle (C.answer_in reply) (ap (λ (w : World). w.heaps) s.1) s.0
  others_stay (any _ (GlobalCompact size)) (Dword longest) s = by_call (Calls (GlobalCompact size)) (calls.Answer.Dword longest) refl
      (other_call _ _) (ap (λ (w : World). w.heaps) s.1) s.0 (length (without 0 order)) (omega arith)
  others_stay (any _ (GlobalCompact size)) reply s = absurd s.0
  others_stay (any _ (C.GlobalReAlloc handle size flags)) (Word answer) s = kept ((answer == 0) || (answer / 8 == handle / 8)) _ _
      (λ here. by_call (ReAllocs handle size flags) (calls.Answer.Word answer) refl (same_slot _ _ _ _ here) (ap (λ (w : World). w.heaps) s.1) s.0 (length (without (handle / 8) order)) (omega arith))
  others_stay (any _ (C.GlobalReAlloc handle size flags)) reply s = absurd s.0
  others_stay (any _ (C.GlobalDiscard handle)) (Word answer) s = by_call (ReAllocs handle 0 C.GMEM_MOVEABLE) (calls.Answer.Word answer) refl
      (discarded _ _) (ap (λ (w : World). w.heaps) s.1) s.0 (length (without (handle / 8) order)) (omega arith)
  others_stay (any _ (C.GlobalDiscard handle)) reply s = absurd s.0
  others_stay command reply s = tt
