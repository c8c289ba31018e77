-- What the steps that calls are made of leave joined, and what they say of the handles.
use Rattle.w16_global.proofs
use proofs.Common as C
use proofs.Common.{◌≡◌, ◌≢◌, ℕ, ◌+◌, ◌-◌, ◌<◌, ◌≤◌, if◌then◌else◌, Bool, true, false, inl, inr, IfOk, OnOk, IfErr, List, length, set, Option, Some, None, Result, Ok, Err, is_some, option_map, refl, sym, ap, ◌∙◌, subst, arith, false≢true, cases_Bool, Attributes, Kind, Refusal, FIRST_SLOT}
use proofs.Common.{Heap, Object, object_at, with_object, removed, newest, oldest, after_lock, after_unlock, refused_order, Handles, AreHandles, IsFreeRun, unused, slots_at, Kept, unset, descriptor_at, Holding, attributes_in, handles_of, described, given, taken, is_in_run, kind_for}
use proofs.Common.{kind_in, label_of, owner_in, says, AreJoined}
use proofs.Owners.{attributes_at, joined_same, labelled, nothing}
use proofs.Joined.{attributes_set, attributes_unset, others_described, others_labelled, sized_set, slot_there}
use proofs.Told.{is_in, owner_there, owner_with, owner_without}
use proofs.Described.{lock_same, unlock_same, removed_other, entered_here, entered_other}
use Rattle.w16_model.specs.{Handles.owner_of, Law.AreRuns}
use Rattle.std.specs.FinMap as finmap
use Rattle.w16_model.specs.declared.Refusal.TheVariants as refusals
use Rattle.w16_selectors.specs.Descriptors as selectors

-- an answer that is good is good of what it answers
good : (r : Result Heap Refusal) (P : Heap → Type 0) (heap : Heap) → IfOk r P → r ≡ Ok heap → P heap
good (Ok x) P heap h e = subst P (let same : x ≡ heap = cc in same) h
good (Err x) P heap h e = cc

module _ {h : Holding} {xs : List (Option Attributes)} {t : selectors.DescriptorTable} {m : ℕ} {w : Handles} (are : AreJoined h xs t) (shown : handles_of h xs m ≡ w) where
  -- a slot's attributes are those of the handles
  pub attributes_shown : (slot : ℕ) → C.get_or xs slot None ≡ finmap.get w.attributes slot
  attributes_shown slot = sym (attributes_at xs slot) ∙ ap (λ (v : Handles). finmap.get v.attributes slot) shown

module _ {h : Holding} {xs : List (Option Attributes)} {t : selectors.DescriptorTable} (are : AreJoined h xs t) (new : Holding) (cap : new.cap ≡ h.cap) where
  -- another heap under the same attributes
  same_slots : record (handles_of h xs 0) { heap = new.heap } ≡ handles_of new xs 0
  same_slots = λ i. record { slots = sym cap i - FIRST_SLOT; heap = new.heap; attributes = attributes_in xs; moved = 0 }

  -- GlobalLock leaves what is joined
  pub lock_joined : {U : Type 0} (slot : ℕ) (r : Result U Refusal) → OnOk r (after_lock h.heap slot ≡ Ok new.heap) → IfErr r (λ e. (after_lock h.heap slot ≡ Err e) × (new ≡ h)) → AreJoined new xs t
  lock_joined slot (Ok u) done refused =
      joined_same are new cap (subst AreHandles same_slots (good (after_lock h.heap slot) (Kept (handles_of h xs 0) are.handles) new.heap (C.lock_ok (handles_of h xs 0) are.handles slot) done)) (λ kind number. lock_same kind number h.heap slot new.heap done)
  lock_joined slot (Err e) done refused = subst (λ k. AreJoined k xs t) (sym refused.1) are

  -- and so does GlobalUnlock
  pub unlock_joined : {U : Type 0} (slot : ℕ) (r : Result U Refusal) → OnOk r (after_unlock h.heap slot ≡ Ok new.heap) → IfErr r (λ e. (after_unlock h.heap slot ≡ Err e) × (new ≡ h)) → AreJoined new xs t
  unlock_joined slot (Ok u) done refused =
      joined_same are new cap (subst AreHandles same_slots (good (after_unlock h.heap slot) (Kept (handles_of h xs 0) are.handles) new.heap (C.unlock_ok (handles_of h xs 0) are.handles slot) done)) (λ kind number. unlock_same kind number h.heap slot new.heap done)
  unlock_joined slot (Err e) done refused = subst (λ k. AreJoined k xs t) (sym refused.1) are

  -- and a step that changes the order of use alone
  pub ordered_joined : (order : List ℕ) → C.IsHeap (record h.heap { order = order }) → new.heap ≡ record h.heap { order = order } → AreJoined new xs t
  ordered_joined order sound is =
      joined_same are new cap (subst AreHandles (ap (λ (k : Heap). record (handles_of h xs 0) { heap = k }) (sym is) ∙ same_slots) (C.other_handles (handles_of h xs 0) are.handles (record h.heap { order = order }) sound refl refl (λ q. refl) are.handles.sized))
      (λ kind number first. ap (λ (k : Heap). says k kind number first) is)

  -- an object that was used
  pub touched_joined : (slot : ℕ) → new.heap ≡ C.after_touch h.heap slot → AreJoined new xs t
  touched_joined slot is = ordered_joined (C.touched slot h.heap.order) (C.touched_heap h.heap are.handles.heap slot) is

  -- GlobalLRUNewest and GlobalLRUOldest
  pub newest_joined : {U : Type 0} (slot : ℕ) (r : Result U Refusal) → OnOk r (C.after_newest h.heap slot ≡ Ok new.heap) → IfErr r (λ e. (C.after_newest h.heap slot ≡ Err e) × (new ≡ h)) → AreJoined new xs t
  newest_joined slot (Ok u) done refused = from (refused_order h.heap slot) refl done
    where
      from : (p : Option Refusal) → refused_order h.heap slot ≡ p → (elim p as (λ _. Result Heap Refusal) [ Some e ↦ Err e | None ↦ Ok (record h.heap { order = newest slot h.heap.order }) ]) ≡ Ok new.heap → AreJoined new xs t
      from (Some e) f d = cc
      from None f d = let is : record h.heap { order = newest slot h.heap.order } ≡ new.heap = cc in ordered_joined (newest slot h.heap.order) (C.newest_heap h.heap are.handles.heap slot (C.ordered h.heap are.handles.heap slot f)) (sym is)
  newest_joined slot (Err e) done refused = subst (λ k. AreJoined k xs t) (sym refused.1) are

  pub oldest_joined : {U : Type 0} (slot : ℕ) (r : Result U Refusal) → OnOk r (C.after_oldest h.heap slot ≡ Ok new.heap) → IfErr r (λ e. (C.after_oldest h.heap slot ≡ Err e) × (new ≡ h)) → AreJoined new xs t
  oldest_joined slot (Ok u) done refused = from (refused_order h.heap slot) refl done
    where
      from : (p : Option Refusal) → refused_order h.heap slot ≡ p → (elim p as (λ _. Result Heap Refusal) [ Some e ↦ Err e | None ↦ Ok (record h.heap { order = oldest slot h.heap.order }) ]) ≡ Ok new.heap → AreJoined new xs t
      from (Some e) f d = cc
      from None f d = let is : record h.heap { order = oldest slot h.heap.order } ≡ new.heap = cc in ordered_joined (oldest slot h.heap.order) (C.oldest_heap h.heap are.handles.heap slot (C.ordered h.heap are.handles.heap slot f)) (sym is)
  oldest_joined slot (Err e) done refused = subst (λ k. AreJoined k xs t) (sym refused.1) are

  -- a slot's object goes
  module _ (slot : ℕ) {m : ℕ} {w : Handles} (shown : handles_of h xs m ≡ w) (known : is_some (object_at w.heap slot) ≡ true) (gone : new.heap ≡ removed h.heap slot) where
    there : is_some (object_at h.heap slot) ≡ true
    there = subst (λ (v : Handles). is_some (object_at v.heap slot) ≡ true) (sym shown) known

    left : slot < length xs
    left = subst (λ n. slot < n) (sym are.attributes_many) (slot_there h xs t are slot there).1

    -- the handles without it
    pub removed_shown : handles_of new (set xs slot None) m ≡ C.without_slot w slot
    removed_shown = (λ i. record { slots = cap i - FIRST_SLOT; heap = gone i; attributes = attributes_unset xs slot left i; moved = m }) ∙ ap (λ (v : Handles). C.without_slot v slot) shown

    abbrev zs : List (Option Attributes)
    zs = set xs slot None

    handles_left : AreHandles (handles_of new zs 0)
    handles_left = subst AreHandles ((λ i. record { slots = sym cap i - FIRST_SLOT; heap = sym gone i; attributes = sym (attributes_unset xs slot left) i; moved = 0 })) (C.without_object (handles_of h xs 0) are.handles slot)

    -- its slots are nobody's then, and the others are whose they were
    owners_left : (q : ℕ) → (is_in_run slot (slots_at (attributes_in xs) slot) q ≡ true → owner_in zs q ≡ None) × (is_in_run slot (slots_at (attributes_in xs) slot) q ≡ false → owner_in zs q ≡ owner_in xs q)
    owners_left q = subst (λ m. (is_in_run slot (slots_at (attributes_in xs) slot) q ≡ true → owner_of m q ≡ None) × (is_in_run slot (slots_at (attributes_in xs) slot) q ≡ false → owner_of m q ≡ owner_in xs q)) (sym (attributes_unset xs slot left))
        (owner_without (h.cap - FIRST_SLOT) (attributes_in xs) are.handles.runs slot (subst (AreRuns (h.cap - FIRST_SLOT)) (attributes_unset xs slot left) (subst (λ n. AreRuns (n - FIRST_SLOT) (attributes_in zs)) cap handles_left.runs)) q)

    pub removed_joined : (count : ℕ) → count ≡ slots_at w.attributes slot → (after : selectors.DescriptorTable) → ((q : ℕ) → descriptor_at after q ≡ given slot count t q) → length after ≡ length t → AreJoined new zs after
    removed_joined count count_is after gives many = record {
      handles = handles_left;
      described = λ q. gives q ∙ elim (cases_Bool (is_in_run slot count q)) [
        | inl inside ↦ ap (λ b. if b then None else descriptor_at t q) inside ∙ sym (ap (λ p. elim p as (λ _. Option C.Descriptor) [ None ↦ None | Some first ↦ says new.heap (kind_in zs first) (q - first) first ]) ((owners_left q).0 (here q inside)))
        | inr outside ↦ ap (λ b. if b then None else descriptor_at t q) outside ∙ are.described q ∙ sym (others_described xs zs q ((owners_left q).1 (here q outside))
            (λ first e. ap kind_for (C.get_or-set_other xs slot first None None (other q outside first e))) h.heap new.heap
            (λ first e kind number. ap (λ (k : Heap). says k kind number first) gone ∙ removed_other kind number h.heap slot first (other q outside first e)))
      ];
      sized = sized_set xs slot None left are.sized tt;
      attributes_many = C.length-set xs slot None ∙ are.attributes_many ∙ sym cap;
      selectors_many = many ∙ are.selectors_many ∙ sym cap;
      some = subst (λ n. FIRST_SLOT ≤ n) (sym cap) are.some;
    }
      where
        same : count ≡ slots_at (attributes_in xs) slot
        same = count_is ∙ ap (λ (v : Handles). slots_at v.attributes slot) (sym shown)

        here : {b : Bool} (q : ℕ) → is_in_run slot count q ≡ b → is_in_run slot (slots_at (attributes_in xs) slot) q ≡ b
        here q e = ap (λ n. is_in_run slot n q) (sym same) ∙ e

        other : (q : ℕ) → is_in_run slot count q ≡ false → (first : ℕ) → owner_in xs q ≡ Some first → first ≢ slot
        other q outside first e own = let lies = C.owner_is (attributes_in xs) q first e in
            false≢true (sym (here q outside) ∙ is_in slot (slots_at (attributes_in xs) slot) q (subst (λ k. k ≤ q) own lies.0) (subst (λ k. q < k + slots_at (attributes_in xs) k) own lies.1))

-- GlobalFree of an object, by its locks
free_by : (heap : Heap) (slot : ℕ) → Option Object → Result Heap Refusal
free_by heap slot p = elim p [ None ↦ Ok heap | Some o ↦ if C.nat_lt 0 o.locks then Err refusals.Locked else Ok (removed heap slot) ]

pub locked_stays : (heap : Heap) (slot : ℕ) → 0 < C.locks_at heap slot → C.after_free heap slot ≡ Err refusals.Locked
unfolding free_by
locked_stays heap slot some = turn (object_at heap slot) some
  where
    turn : (p : Option Object) → 0 < C.unwrap_or (option_map (λ o. o.locks) p) 0 → free_by heap slot p ≡ Err refusals.Locked
    turn None lt = absurd (omega arith)
    turn (Some o) lt = ap (λ b. if b then Err refusals.Locked else Ok (removed heap slot)) (C.lt-ltb 0 _ lt)

pub unlocked_goes : (heap : Heap) (slot : ℕ) → is_some (object_at heap slot) ≡ true → C.locks_at heap slot ≤ 0 → C.after_free heap slot ≡ Ok (removed heap slot)
unfolding free_by
unlocked_goes heap slot there none = turn _ there none
  where
    turn : (p : Option Object) → is_some p ≡ true → C.unwrap_or (option_map (λ o. o.locks) p) 0 ≤ 0 → free_by heap slot p ≡ Ok (removed heap slot)
    turn None e le = absurd (false≢true e)
    turn (Some o) e le = ap (λ b. if b then Err refusals.Locked else Ok (removed heap slot)) (C.le-ltb 0 _ le)

-- Free slots get an object.
module _ {h : Holding} {xs : List (Option Attributes)} {t : selectors.DescriptorTable} (are : AreJoined h xs t) (new : Holding) (cap : new.cap ≡ h.cap) (slot : ℕ) (a : Attributes)
    {m : ℕ} {w : Handles} (shown : handles_of h xs m ≡ w) (known : IsFreeRun w slot a.slots) (some : 0 < a.slots) where
  abbrev ys : List (Option Attributes)
  ys = set xs slot (Some a)

  pub free : IsFreeRun (handles_of h xs 0) slot a.slots
  free = subst (λ v. IsFreeRun v slot a.slots) (sym shown) known

  pub within : slot < length xs
  within = let at : slot + 0 < FIRST_SLOT + (h.cap - FIRST_SLOT) = (free 0 some).0.1 in omega (arith, are.attributes_many, are.some, at)

  pub nobody : object_at h.heap slot ≡ None
  nobody = unused (handles_of h xs 0) are.handles slot a.slots some free

  -- the handles with an object there
  pub given_handles : (moved : ℕ) → handles_of new ys moved ≡ record w { heap = new.heap; attributes = finmap.insert w.attributes slot a; moved = moved }
  given_handles moved =
      (λ i. record { slots = cap i - FIRST_SLOT; heap = new.heap; attributes = attributes_set xs slot a within i; moved = moved })
      ∙ ap (λ (v : Handles). record v { heap = new.heap; attributes = finmap.insert v.attributes slot a; moved = moved }) shown

  pub given_unmoved : handles_of new ys m ≡ record w { heap = new.heap; attributes = finmap.insert w.attributes slot a }
  given_unmoved =
      (λ i. record { slots = cap i - FIRST_SLOT; heap = new.heap; attributes = attributes_set xs slot a within i; moved = m })
      ∙ ap (λ (v : Handles). record v { heap = new.heap; attributes = finmap.insert v.attributes slot a }) shown

  -- another owner is not the new object
  pub another : (q first : ℕ) → owner_in xs q ≡ Some first → first ≢ slot
  another q first e same = false≢true (sym (ap (λ k. is_some (object_at h.heap k)) same ∙ ap is_some nobody) ∙ owner_there h xs are.handles q first e)

  pub own_kind : kind_in ys slot ≡ kind_for (Some a)
  own_kind = ap kind_for (C.get_or-set_same xs slot (Some a) None within)

  module _ (handles : AreHandles (handles_of new ys 0)) (own : C.HasSize (Some a)) where
    -- its slots are its own then, and the others are whose they were
    pub owners : (q : ℕ) → (is_in_run slot a.slots q ≡ true → owner_in ys q ≡ Some slot) × (is_in_run slot a.slots q ≡ false → owner_in ys q ≡ owner_in xs q)
    owners q = subst (λ m. (is_in_run slot a.slots q ≡ true → owner_of m q ≡ Some slot) × (is_in_run slot a.slots q ≡ false → owner_of m q ≡ owner_in xs q)) (sym (attributes_set xs slot a within))
        (owner_with (h.cap - FIRST_SLOT) (attributes_in xs) are.handles.runs slot a unheld (subst (AreRuns (h.cap - FIRST_SLOT)) (attributes_set xs slot a within) (subst (λ n. AreRuns (n - FIRST_SLOT) (attributes_in ys)) cap handles.runs)) q)
      where
        unheld : finmap.get (attributes_in xs) slot ≡ None
        unheld = nothing (finmap.get (attributes_in xs) slot) (are.handles.attributed slot ∙ ap is_some nobody)

    pub kinds : (q first : ℕ) → owner_in xs q ≡ Some first → kind_in ys first ≡ kind_in xs first
    kinds q first e = ap kind_for (C.get_or-set_other xs slot first (Some a) None (another q first e))

    -- so they are labelled once the slots are taken
    pub taken_labelled : (holds : C.SelKind) → holds ≡ kind_for (Some a) → (after : selectors.DescriptorTable) → ((q : ℕ) → descriptor_at after q ≡ taken slot a.slots holds t q) → C.AreLabelled ys after
    taken_labelled holds holds_is after takes q = ap label_of (takes q) ∙ elim (cases_Bool (is_in_run slot a.slots q)) [
      | inl inside ↦ ap (λ b. label_of (if b then Some (unset holds (q - slot)) else descriptor_at t q)) inside ∙ ap (λ k. Some (k, q - slot)) (holds_is ∙ sym own_kind)
          ∙ sym (ap (option_map (λ first. (kind_in ys first, q - first))) ((owners q).0 inside))
      | inr outside ↦ ap (λ b. label_of (if b then Some (unset holds (q - slot)) else descriptor_at t q)) outside ∙ labelled are q ∙ sym (others_labelled xs ys q ((owners q).1 outside) (kinds q))
    ]

    -- and joined, where all say what they have to
    pub with_run_joined : (after : selectors.DescriptorTable) → length after ≡ length t → ((q : ℕ) → descriptor_at after q ≡ described new.heap ys q) → AreJoined new ys after
    with_run_joined after many says_all = record {
      handles = handles;
      described = says_all;
      sized = sized_set xs slot (Some a) within are.sized own;
      attributes_many = C.length-set xs slot (Some a) ∙ are.attributes_many ∙ sym cap;
      selectors_many = many ∙ are.selectors_many ∙ sym cap;
      some = subst (λ n. FIRST_SLOT ≤ n) (sym cap) are.some;
    }

  -- an absent one
  pub entered_known : (kind : Kind) → new.heap ≡ with_object h.heap slot (record { kind = kind; locks = 0; bytes = None }) → C.Enters w.heap slot kind new.heap
  entered_known kind is = subst (λ (v : Handles). C.Enters v.heap slot kind new.heap) shown (record { unused = nobody; entered = is })

  pub entered_joined : C.IsOwnedRun a → C.HasSize (Some a) → (kind : Kind) (holds : C.SelKind) → holds ≡ kind_for (Some a) → (after : selectors.DescriptorTable) → new.heap ≡ with_object h.heap slot (record { kind = kind; locks = 0; bytes = None })
      → ((q : ℕ) → descriptor_at after q ≡ taken slot a.slots holds t q) → length after ≡ length t → AreJoined new ys after
  entered_joined run own kind holds holds_is after is takes many = with_run_joined handles own after many (λ q. takes q ∙ elim (cases_Bool (is_in_run slot a.slots q)) [
    | inl inside ↦ ap (λ b. if b then Some (unset holds (q - slot)) else descriptor_at t q) inside ∙ ap (λ k. Some (unset k (q - slot))) (holds_is ∙ sym own_kind)
        ∙ sym (ap (λ p. elim p as (λ _. Option C.Descriptor)
        [ None ↦ None | Some first ↦ says new.heap (kind_in ys first) (q - first) first ])
        ((owners handles own q).0 inside) ∙ ap (λ (k : Heap). says k (kind_in ys slot) (q - slot) slot) is ∙
        entered_here (kind_in ys slot) (q - slot) h.heap slot kind)
    | inr outside ↦ ap (λ b. if b then Some (unset holds (q - slot)) else descriptor_at t q) outside ∙ are.described q ∙ sym (others_described xs ys q ((owners handles own q).1 outside) (kinds handles own q) h.heap new.heap
        (λ first e k number. ap (λ (g : Heap). says g k number first) is ∙ entered_other k number h.heap slot kind first (another q first e)))
  ])
    where
      handles : AreHandles (handles_of new ys 0)
      handles = subst AreHandles (λ i. record { slots = sym cap i - FIRST_SLOT; heap = sym is i; attributes = sym (attributes_set xs slot a within) i; moved = 0 })
          (C.with_absent_object (handles_of h xs 0) are.handles a slot kind (with_object h.heap slot (record { kind = kind; locks = 0; bytes = None })) some run free (record { unused = nobody; entered = refl }))
