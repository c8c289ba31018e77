-- What is joined, where an object got another size, for which others may have been discarded or have slid.
use Rattle.w16_global.proofs
use proofs.Common as C
use proofs.Housing as M
use proofs.Common.{◌≡◌, ◌≢◌, ℕ, ◌+◌, ◌-◌, ◌<◌, ◌≤◌, ◌⊎◌, ◌||◌, ◌&&◌, inl, inr, Bool, true, false, cond, not, IsSomeAnd, All, List, [], take, length, get_or, Option, Some, None, option_map, is_some, refl, sym, ap, ◌∙◌, subst, arith, Vec, false≢true, Attributes, RoomOptions, FIRST_SLOT}
use proofs.Common.{Heap, Object, object_at, bytes_at, Asked, IsNew, Reallocates, KeepsOthers, Handles, GetsRun, rehoused, slots_for, with_run, some_slots, is_member, asked, reallocation_prefix, descriptor_at, Holding, AreHoused, attributes_housed, attributes_in, begins_in}
use proofs.Common.{handles_of, kind_in, says, told}
use proofs.Joined.{slot_there}
use proofs.Sliding.{StandStill, all_gone, rest_says, was_there}
use proofs.Told.{finished, run_known, run_sized, told_labelled}
use Rattle.std.proofs.lemmas.List.{with_items_is}
use Rattle.w16_model.specs.{Law.AreRuns, Owned.owned_at, declared.Owned.Owned}
use Rattle.w16_model.proofs.Housed.{anew_handles}
use Rattle.std.specs.FinMap as finmap
use Rattle.w16_selectors.specs.Descriptors as selectors

-- What an answered reallocation leaves of the others, where so many were to be discarded.
module _ (old : Heap) (is : C.IsHeap old) (id n : ℕ) (options : RoomOptions) (new : Heap) where
  -- the number, by whether the object may not move, by whether its bytes are enough, and by these
  abbrev by_hold : Bool → Option ℕ
  by_hold held = cond {A = Option ℕ} held (Some 0) (C.growth_for (C.snapshot_of old) n id options)

  abbrev by_size : Object → Bool → Option ℕ
  by_size o enough = cond {A = Option ℕ} enough (Some 0) (by_hold (C.is_pinned_object o && not options.may_move))

  abbrev by_bytes : Object → Option (List ℕ) → Option ℕ
  by_bytes o b = elim b [ None ↦ C.discards_needed old n (Some id) options | Some bytes ↦ by_size o (C.nat_le n (length bytes)) ]

  abbrev Keeps : Object → Type 0
  Keeps o = (k : ℕ) → reallocation_prefix old id o n options ≡ Some k → KeepsOthers old (Some id) k new

  only : (a b : ℕ) → ◌≡◌ {A = Option ℕ} (Some a) (Some b) → KeepsOthers old (Some id) a new → KeepsOthers old (Some id) b new
  only a b e keeps = let same : a ≡ b = cc in subst (λ k. KeepsOthers old (Some id) k new) same keeps

  by_each : (o : Object) → C.IsCase old id n o options true new → Keeps o
  by_each o (inl revives) k e =
      let what : Asked = record { options = options; prefix = C.discards_needed old n (Some id) options; becomes = IsNew options.zero n o.kind o.locks; order = C.with_newest id } in
      let r : (k : ℕ) × (what.prefix ≡ Some k) × ((p : Object) × what.becomes p × C.Settles old (C.stays_for id what.options) (C.with_ordered (C.discarded old k (Some id)) id p (what.order p)) new) = asked old id what new revives.allocated.request in
      only r.0 k (sym r.1 ∙ sym (ap (by_bytes o) revives.none) ∙ e) ((C.others_law old new is r.0).0 id options r.2.0 (C.with_newest id r.2.0) r.2.2)
  by_each o (inr (inl cuts)) k e =
      only 0 k (sym (ap (by_size o) (C.le-leb n (length cuts.bytes) cuts.short)) ∙ sym (ap (by_bytes o) cuts.has) ∙ e)
      (subst (KeepsOthers old (Some id) 0) (sym cuts.left) (C.none_discarded old id (record o { bytes = Some (take n cuts.bytes) })))
  by_each o (inr (inr (inl extends))) k e = elim extends.outcome [
    | inl fits ↦ only 0 k (sym (ap by_hold extends.held) ∙ sym (ap (by_size o) (C.lt-leb n (length extends.bytes) extends.long)) ∙ sym (ap (by_bytes o) extends.has) ∙ e)
        (subst (KeepsOthers old (Some id) 0) (sym fits.2.2) (C.none_discarded old id fits.2.0))
    | inr short ↦ absurd (false≢true (sym short.1))
  ]
  by_each o (inr (inr (inr asks))) k e =
      let what : Asked = record { options = options; prefix = C.growth_for (C.snapshot_of old) n id options; becomes = C.IsGrown options.zero n o; order = λ _ order. order } in
      let r : (k : ℕ) × (what.prefix ≡ Some k) × ((p : Object) × what.becomes p × C.Settles old (C.stays_for id what.options) (C.with_ordered (C.discarded old k (Some id)) id p (what.order p)) new) = asked old id what new asks.request in
      only r.0 k (sym r.1 ∙ sym (ap by_hold asks.held) ∙ sym (ap (by_size o) (C.lt-leb n (length asks.bytes) asks.long)) ∙ sym (ap (by_bytes o) asks.has) ∙ e)
      ((C.others_law old new is r.0).0 id options r.2.0 (λ order. order) r.2.2)

  kept_by : Reallocates old id n options true new → (k : ℕ) → IsSomeAnd (object_at old id) (λ o. reallocation_prefix old id o n options ≡ Some k) → KeepsOthers old (Some id) k new
  kept_by r k needed = turn (object_at old id) (C.by_case old new id n options true Keeps (λ o there c. by_each o c) r) needed
    where
      turn : (p : Option Object) → IsSomeAnd p Keeps → IsSomeAnd p (λ o. reallocation_prefix old id o n options ≡ Some k) → KeepsOthers old (Some id) k new
      turn None f g = absurd f
      turn (Some o) f g = f k g

  -- it has the bytes that were asked for
  sized_by : Reallocates old id n options true new → IsSomeAnd (bytes_at new id) (λ bytes. length bytes ≡ n)
  sized_by r = from (object_at old id) (C.rest_law old new id n options is r)
    where
      long : (zero : Bool) (before : List ℕ) (b : Option (List ℕ)) → IsSomeAnd b (C.AreResized zero n before) → IsSomeAnd b (λ bytes. length bytes ≡ n)
      long zero before None f = absurd f
      long zero before (Some bytes) f = f.long

      resized : (o : Object) (p : Option Object) → IsSomeAnd p (C.IsResized options.zero n o) → IsSomeAnd (elim p as (λ _. Option (List ℕ)) [ Some o ↦ o.bytes | None ↦ None ]) (λ bytes. length bytes ≡ n)
      resized o None f = absurd f
      resized o (Some p) f = long options.zero (C.unwrap_or o.bytes []) p.bytes f.bytes

      from : (p : Option Object) → IsSomeAnd p (λ o. C.KeepsRest old id n o options new) → IsSomeAnd (bytes_at new id) (λ bytes. length bytes ≡ n)
      from None f = absurd f
      from (Some o) f = resized o (object_at new id) f.object

-- the object that gets a run
pub known_gets : (h : Holding) (xs : List (Option Attributes)) {m : ℕ} {w : Handles} → handles_of h xs m ≡ w → (slot count n first : ℕ) (options : RoomOptions) → count ≡ slots_for n → IsSomeAnd (object_at w.heap slot) (λ o. GetsRun w slot o options count first)
    → (o : Object) × (object_at h.heap slot ≡ Some o) × GetsRun (handles_of h xs 0) slot o options (slots_for n) first
known_gets h xs {m} shown slot count n first options same gets = turn _ refl (subst (λ k. IsSomeAnd (object_at h.heap slot) (λ o. GetsRun (handles_of h xs m) slot o options k first)) same
    (subst (λ v. IsSomeAnd (object_at v.heap slot) (λ o. GetsRun v slot o options count first)) (sym shown) gets))
  where
    turn : (p : Option Object) → object_at h.heap slot ≡ p → IsSomeAnd p (λ o. GetsRun (handles_of h xs 0) slot o options (slots_for n) first) → (o : Object) × (object_at h.heap slot ≡ Some o) × GetsRun (handles_of h xs 0) slot o options (slots_for n) first
    turn None e g = absurd g
    turn (Some o) e g = (o, e, g)

-- a refusal has no result, so that what holds anyhow is what it says
pub if_none : {X : Type 0} (p : Option X) (P : Type 0) → P → C.IfNone p P
if_none None P holds = holds
if_none (Some x) P holds = tt

-- no place for an object that would get a run: the heap is as it was, and so nothing can be answered
pub lacks_place : (h : Holding) (xs : List (Option Attributes)) {m : ℕ} {w : Handles} → handles_of h xs m ≡ w → (slot count n first : ℕ) (options : RoomOptions) → count ≡ slots_for n → IsSomeAnd (object_at w.heap slot) (λ o. GetsRun w slot o options count first)
    → (made : Heap) → Reallocates h.heap slot n options false made
    → IsSomeAnd (object_at w.heap slot) (λ o. C.LacksRun w slot o options (slots_for n) ⊎ ((first : ℕ) × GetsRun w slot o options (slots_for n) first × Reallocates w.heap slot n options false w.heap))
lacks_place h xs {w = w} shown slot count n first options same gets made refused = turn _ (subst (λ k. IsSomeAnd (object_at w.heap slot) (λ o. GetsRun w slot o options k first)) same gets)
  where
    unchanged : Reallocates w.heap slot n options false w.heap
    unchanged = subst (λ v. Reallocates v.heap slot n options false v.heap) shown (subst (Reallocates h.heap slot n options false) ((C.one_outcome_law h.heap made slot n options refused).0) refused)

    turn : (p : Option Object) → IsSomeAnd p (λ o. GetsRun w slot o options (slots_for n) first)
        → IsSomeAnd p (λ o. C.LacksRun w slot o options (slots_for n) ⊎ ((first : ℕ) × GetsRun w slot o options (slots_for n) first × Reallocates w.heap slot n options false w.heap))
    turn None g = absurd g
    turn (Some o) g = inr (first, g, unchanged)

-- An object that is there got another size, and a run of slots for it.
module _ {h : Holding} {xs : List (Option Attributes)} {t : selectors.DescriptorTable} (are : C.AreJoined h xs t) {m : ℕ} {w : Handles} (shown : handles_of h xs m ≡ w) (made : Holding) (cap : made.cap ≡ h.cap) (slot count n first : ℕ) (options : RoomOptions)
    (same : count ≡ slots_for n) (known : IsSomeAnd (object_at w.heap slot) (λ o. GetsRun w slot o options count first)) (reallocated : Reallocates h.heap slot n options true made.heap) (has : C.HasDiscardedFor h.heap slot n options made.discarded) where
  abbrev k : (o : Object) × (object_at h.heap slot ≡ Some o) × GetsRun (handles_of h xs 0) slot o options (slots_for n) first
  k = known_gets h xs shown slot count n first options same known

  abbrev o : Object
  o = k.0

  abbrev there : object_at h.heap slot ≡ Some k.0
  there = k.1

  abbrev gets : GetsRun (handles_of h xs 0) slot k.0 options (slots_for n) first
  gets = k.2

  -- it has attributes and a run, and each slot of the new one is its own or free
  pub was_attributed : is_some (get_or xs slot None) ≡ true
  was_attributed = M.has_attributes are slot first (slots_for n) o there (some_slots n) options gets

  pub had_run : C.HasRun xs t slot
  had_run = M.own_run are slot first (slots_for n) o there (some_slots n) options gets

  pub may_get : C.MayHave xs t slot first count
  may_get = subst (C.MayHave xs t slot first) (sym same) (M.may_have are slot first (slots_for n) o there (some_slots n) options gets)

  sound : C.IsHeap made.heap
  sound = C.heap_law h.heap made.heap slot n options true are.handles.heap reallocated

  keeps : KeepsOthers h.heap (Some slot) has.prefix made.heap
  keeps = kept_by h.heap are.handles.heap slot n options made.heap reallocated has.prefix has.needed

  sized : option_map (length {A = ℕ}) (bytes_at made.heap slot) ≡ Some n
  sized = turn (bytes_at made.heap slot) (sized_by h.heap are.handles.heap slot n options made.heap reallocated)
    where
      turn : (b : Option (List ℕ)) → IsSomeAnd b (λ bytes. length bytes ≡ n) → option_map (length {A = ℕ}) b ≡ Some n
      turn None f = absurd f
      turn (Some b) f = ap Some f

  -- the object is there still
  pub stays_there : is_some (object_at made.heap slot) ≡ true
  stays_there = turn (object_at made.heap slot) (ap is_some sized)
    where
      turn : (p : Option Object) → is_some (option_map (length {A = ℕ}) (C.bytes_in p)) ≡ true → is_some p ≡ true
      turn None e = absurd (false≢true e)
      turn (Some o) e = refl

  -- and where it goes none was
  pub nobody_then : first ≢ slot → object_at made.heap first ≡ None
  nobody_then d = turn (object_at made.heap first) refl
    where
      before : object_at h.heap first ≡ None
      before = M.nobody_there are slot first (slots_for n) o there (some_slots n) options gets d

      turn : (p : Option Object) → object_at made.heap first ≡ p → object_at made.heap first ≡ None
      turn None e = e
      turn (Some x) e = absurd (false≢true (sym (ap is_some before) ∙ was_there h.heap made.heap (Some slot) has.prefix keeps first (λ e. let same : slot ≡ first = cc in d (sym same)) (ap is_some e)))

  module _ (new : Holding) (new_is : new ≡ record made { heap = rehoused made.heap slot first }) {Z : Type 0} (v : Vec (Option Attributes) Z) (v_is : v.items ≡ xs) {zs : List (Option Attributes)} (zs_is : zs ≡ xs) (lent : List (Option Attributes))
      (housed_at : (q : ℕ) → get_or lent q None ≡ attributes_housed zs slot first count q) (many : length lent ≡ length zs) (run : C.IfSome (owned_at w slot) (λ (owned : Owned). owned.size ≡ n)) where
    abbrev ys : List (Option Attributes)
    ys = (C.with_items v lent).items

    back : (C.with_items v lent).items ≡ lent
    back = with_items_is v lent (many ∙ ap length (zs_is ∙ sym v_is) ∙ sym v.ok.0)

    ys_at : (q : ℕ) → get_or ys q None ≡ attributes_housed xs slot first (slots_for n) q
    ys_at q = ap (λ l. get_or l q None) back ∙ housed_at q ∙ (λ i. attributes_housed (zs_is i) slot first (same i) q)

    ys_many : length ys ≡ length xs
    ys_many = ap length back ∙ many ∙ ap length zs_is

    known_housed : (u : selectors.DescriptorTable) → AreHoused zs t slot first count u → AreHoused xs t slot first (slots_for n) u
    known_housed u housed = subst (λ c. AreHoused xs t slot first c u) same (subst (λ (l : List (Option Attributes)). AreHoused l t slot first count u) zs_is housed)

    heap_is : new.heap ≡ rehoused made.heap slot first
    heap_is = ap (λ (x : Holding). x.heap) new_is

    cap_is : new.cap ≡ h.cap
    cap_is = ap (λ (x : Holding). x.cap) new_is ∙ cap

    attributes_are : attributes_in ys ≡ with_run (attributes_in xs) slot first (slots_for n)
    attributes_are = M.housed_attributes are slot first (slots_for n) o there (some_slots n) options gets ys ys_at

    -- what is left are handles
    pub resized_handles : C.AreHandles (handles_of new ys 0)
    resized_handles = subst C.AreHandles (λ i. record { slots = sym cap_is i - FIRST_SLOT; heap = sym heap_is i; attributes = sym attributes_are i; moved = 0 })
        (anew_handles (handles_of h xs 0) are.handles slot n options o there first gets made.heap reallocated (subst (λ (x : Handles). C.IfSome (owned_at x slot) (λ (owned : Owned). owned.size ≡ n)) (sym shown) run))

    -- and they are told
    pub resized_known : handles_of new ys m ≡ record w { heap = rehoused made.heap slot first; attributes = with_run w.attributes slot first (slots_for n) }
    resized_known = (λ i. record { slots = cap_is i - FIRST_SLOT; heap = heap_is i; attributes = attributes_are i; moved = m })
        ∙ ap (λ (x : Handles). record x { heap = rehoused made.heap slot first; attributes = with_run x.attributes slot first (slots_for n) }) shown

    runs_of : AreRuns (h.cap - FIRST_SLOT) (attributes_in ys)
    runs_of = subst (λ k. AreRuns (k - FIRST_SLOT) (attributes_in ys)) cap_is resized_handles.runs

    pub resized_labelled : (u : selectors.DescriptorTable) → AreHoused zs t slot first count u → C.AreLabelled ys u
    resized_labelled u housed = M.housed_labelled are slot first (slots_for n) o there (some_slots n) options gets ys ys_at (h.cap - FIRST_SLOT) refl runs_of u (known_housed u housed)

    -- those that were discarded have no bytes
    pub resized_gone : All (λ q. (q < new.cap) × (bytes_at new.heap q ≡ None)) new.discarded
    resized_gone = subst (λ (x : Holding). All (λ q. (q < x.cap) × (bytes_at x.heap q ≡ None)) x.discarded) (sym new_is)
        (all_gone h.heap made.heap sound (Some slot) has.prefix keeps (λ q. (q < made.cap) × (bytes_at (rehoused made.heap slot first) q ≡ None)) (λ q before none. (subst (λ k. q < k) (sym cap) (slot_there h xs t are q before).1, moved q before none)) made.discarded has.listed)
      where
        moved : (q : ℕ) → is_some (object_at h.heap q) ≡ true → bytes_at made.heap q ≡ None → bytes_at (rehoused made.heap slot first) q ≡ None
        moved q before none = elim (C.cases_eq q slot) [
          | inl e ↦ let both : ◌≡◌ {A = Option ℕ} None (Some n) = sym (ap (option_map (length {A = ℕ})) (ap (bytes_at made.heap) (sym e) ∙ none)) ∙ sized in cc
          | inr b ↦ elim (C.cases_eq q first) [
            | inl e ↦ absurd (false≢true (sym (ap is_some (M.nobody_there are slot first (slots_for n) o there (some_slots n) options gets (λ same. b (e ∙ same)))) ∙ ap (λ k. is_some (object_at h.heap k)) (sym e) ∙ before))
            | inr c ↦ M.bytes_other made.heap sound slot first nobody_then q c b ∙ none
          ]
        ]

    pub resized_own : (option_map (length {A = ℕ}) (bytes_at new.heap first) ≡ Some n)
    resized_own = ap (λ (k : Heap). option_map (length {A = ℕ}) (bytes_at k first)) heap_is ∙ ap (option_map (length {A = ℕ})) (M.housed_bytes made.heap sound slot first nobody_then) ∙ sized

    pub resized_slots : C.slots_in ys first ≡ slots_for n
    resized_slots = run_sized new ys resized_handles first n resized_own

    -- its selectors are known behind what the others are told
    pub resized_run : (from to : ℕ) (u second : selectors.DescriptorTable) → AreHoused zs t slot first count u → ((q : ℕ) → descriptor_at second q ≡ told new.heap ys (λ f. is_member f new.discarded || begins_in new.heap from to f) u q)
        → (number : ℕ) → number < slots_for n → (is_some (descriptor_at second (first + number)) ≡ true) × (C.number_at second (first + number) ≡ number)
    resized_run from to u second housed tells number below = run_known new ys resized_handles second
        (told_labelled new ys resized_handles (λ f. is_member f new.discarded || begins_in new.heap from to f) u second (resized_labelled u housed) tells) first number (let long = resized_slots in omega (arith, below, long))

    pub resized_joined : count < 256 → (at from to : ℕ) → finmap.get made.heap.places slot ≡ Some at → ((q : ℕ) → q ≢ slot → StandStill h.heap made.heap from to q) → (u second after : selectors.DescriptorTable) → AreHoused zs t slot first count u
        → ((q : ℕ) → descriptor_at second q ≡ told new.heap ys (λ f. is_member f new.discarded || begins_in new.heap from to f) u q) → ((q : ℕ) → descriptor_at after q ≡ C.placed first at n second q) → length after ≡ length t → C.AreJoined new ys after
    resized_joined few at from to stands still u second after housed tells places many = record {
      handles = resized_handles;
      described = finished new ys resized_handles (λ f. is_member f new.discarded || begins_in new.heap from to f) u second after first at n (resized_labelled u housed) tells resized_own
          (ap (λ (k : Heap). finmap.get k.places first) heap_is ∙ M.housed_place made.heap sound slot first nobody_then ∙ stands) places rest;
      sized = M.housed_sized are slot first (slots_for n) o there (some_slots n) options gets ys ys_at (subst (λ c. c < 256) same few);
      attributes_many = ys_many ∙ are.attributes_many ∙ sym cap_is;
      selectors_many = many ∙ are.selectors_many ∙ sym cap_is;
      some = subst (λ k. FIRST_SLOT ≤ k) (sym cap_is) are.some;
    }
      where
        rest : (q f : ℕ) → C.owner_in ys q ≡ Some f → f ≢ first → (is_member f new.discarded || begins_in new.heap from to f) ≡ false → descriptor_at u q ≡ says new.heap (kind_in ys f) (q - f) f
        rest q f e c untold =
            let (b, kind, said) = M.housed_rest are slot first (slots_for n) o there (some_slots n) options gets ys ys_at (h.cap - FIRST_SLOT) refl runs_of u (known_housed u housed) q f e c in
            said ∙ sym (ap (λ k. says new.heap k (q - f) f) kind ∙ ap (λ (k : Heap). says k (kind_in xs f) (q - f) f) heap_is ∙ M.says_other made.heap sound slot first nobody_then f c b (kind_in xs f) (q - f)
            ∙ rest_says h.heap made.heap sound (Some slot) has.prefix keeps made.discarded has.listed from to f (λ g. let same : slot ≡ f = cc in b (sym same))
            (ap (λ (x : Holding). is_member f x.discarded || begins_in made.heap from to f) (sym new_is) ∙ ap
            (λ p. is_member f new.discarded || (elim p as (λ _. Bool)
            [ None ↦ false | Some at ↦ C.nat_le from at && C.nat_lt at to ]))
            (sym (ap (λ (k : Heap). finmap.get k.places f) heap_is ∙ M.place_other made.heap sound slot first
            nobody_then f c b)) ∙ untold)
            (still f b) (kind_in xs f) (q - f))
