-- What is joined, where objects have slid and their selectors followed.
use Rattle.w16_global.proofs
use proofs.Common as C
use proofs.Common.{◌≡◌, ◌≢◌, ℕ, ◌+◌, ◌-◌, ◌<◌, ◌≤◌, ◌⊎◌, ◌||◌, inl, inr, Bool, true, false, ◌&&◌, nat_le, nat_lt, if◌then◌else◌, IsSomeAnd, All, List, [], take, length, set, Option, Some, None, option_map, is_some, refl, sym, ap, ◌∙◌, subst, arith, false≢true, Attributes, Kind, FIRST_SLOT}
use proofs.Common.{Heap, Object, blocks, object_at, bytes_at, bytes_in, with_newest, IsNew, MakesRoom, compaction_prefix, discarded, stays_for, moved_bytes, eligible, is_member, KeepsOthers, Handles, AreHandles, slots_for, compacted_handles, descriptor_at, SelKind, Holding, handles_of}
use proofs.Common.{begins_in, kind_for, kind_in, says, taken, told, unset, AreJoined}
use proofs.Joining.{free, kinds, owners, taken_labelled, with_run_joined, within}
use proofs.Told.{all_told, finished, run_known, run_sized, says_absent, told_labelled}
use proofs.{Described.same_described, Joined.attributes_set, Joined.slot_there, Owners.labelled}
use Rattle.std.specs.FinMap as finmap
use Rattle.w16_selectors.specs.Descriptors as selectors

-- Objects outside a range stand where they stood.
abbrev pub StandStill : Heap → Heap → ℕ → ℕ → ℕ → Type 0
StandStill old new from to q = C.IfSome (finmap.get new.places q) (λ at. ((at < from) ⊎ (to ≤ at)) → finmap.get old.places q ≡ Some at)

-- What was discarded, and what is left of the others.
module _ (old new : Heap) (is : C.IsHeap new) (about : Option ℕ) (k : ℕ) (keeps : KeepsOthers old about k new) where
  abbrev ids : List ℕ
  ids = take k (eligible (blocks old) old.order about)

  -- an object that was discarded was there, and has no bytes
  pub all_gone : (P : ℕ → Type 0) → ((q : ℕ) → is_some (object_at old q) ≡ true → bytes_at new q ≡ None → P q) → (listed : List ℕ) → listed ≡ ids → All P listed
  all_gone P holds listed same = subst (All P) (sym same) (C.All-from_Each P ids (C.Each-from P ids (λ q m. gone q (object_at old q) refl (keeps.discarded q (C.true-is_member q ids m)))))
    where
      gone : (q : ℕ) (p : Option Object) → object_at old q ≡ p → IsSomeAnd p (λ o. (o.kind ≡ C.Discardable) × (o.locks ≡ 0) × (is_some o.bytes ≡ true) × (object_at new q ≡ Some (record o { bytes = None }))) → P q
      gone q None e g = absurd g
      gone q (Some o) e g = holds q (ap is_some e) (ap bytes_in g.3)

  -- and one that wasn't, and began in no range of those that slid, leaves its selectors as they were
  pub rest_says : (listed : List ℕ) → listed ≡ ids → (from to first : ℕ) → about ≢ Some first → (is_member first listed || begins_in new from to first) ≡ false → StandStill old new from to first → (kind : SelKind) (number : ℕ) → says new kind number first ≡ says old kind number first
  rest_says listed same from to first other untold still kind number = turn (finmap.get new.places first) refl still
    where
      split : (a b : Bool) → (a || b) ≡ false → (a ≡ false) × (b ≡ false)
      split false b e = (refl, e)
      split true b e = absurd (false≢true (sym e))

      out : (is_member first listed ≡ false) × (begins_in new from to first ≡ false)
      out = split (is_member first listed) (begins_in new from to first) untold

      object : object_at new first ≡ object_at old first
      object = keeps.kept first other (λ m. false≢true (sym out.0 ∙ ap (is_member first) same ∙ m))

      outside : (at : ℕ) → (a b : Bool) → nat_le from at ≡ a → nat_lt at to ≡ b → (a && b) ≡ false → (at < from) ⊎ (to ≤ at)
      outside at true true e f g = absurd (false≢true (sym g))
      outside at true false e f g = inr (C.ltb-false at to f)
      outside at false b e f g = inl (let low = C.leb-false from at e in omega (arith, low))

      here : object_at new first ≡ object_at old first → bytes_at new first ≡ None → says new kind number first ≡ says old kind number first
      here same none = by_object (object_at new first) refl
        where
          by_object : (p : Option Object) → object_at new first ≡ p → says new kind number first ≡ says old kind number first
          by_object None e = ap (option_map _) e ∙ sym (ap (option_map _) (sym same ∙ e))
          by_object (Some o) e = says_absent new kind number first (ap is_some e) none ∙ sym (says_absent old kind number first (ap is_some (sym same ∙ e)) (ap bytes_in (sym same) ∙ none))

      no_bytes : (b : Option (List ℕ)) → is_some b ≡ false → b ≡ None
      no_bytes None e = refl
      no_bytes (Some b) e = absurd (false≢true (sym e))

      turn : (p : Option ℕ) → finmap.get new.places first ≡ p → C.IfSome p (λ at. ((at < from) ⊎ (to ≤ at)) → finmap.get old.places first ≡ Some at) → says new kind number first ≡ says old kind number first
      turn None there h = here object (no_bytes (bytes_at new first) (sym (is.at_bytes first) ∙ ap is_some there))
      turn (Some at) there h = same_described kind number old new first object (there ∙ sym (h (outside at (nat_le from at) (nat_lt at to) refl refl
          (sym (ap (λ p. elim p as (λ _. Bool) [ None ↦ false | Some at ↦ nat_le from at && nat_lt at to ]) there) ∙ out.1))))

-- an object that is there after was there before
pub was_there : (old new : Heap) (about : Option ℕ) (k : ℕ) → KeepsOthers old about k new → (q : ℕ) → about ≢ Some q → is_some (object_at new q) ≡ true → is_some (object_at old q) ≡ true
was_there old new about k keeps q other there = elim (C.cases_Bool (is_member q _)) [
  | inl gone ↦ held _ (keeps.discarded q gone)
  | inr out ↦ ap is_some (sym (keeps.kept q other (λ m. false≢true (sym out ∙ m)))) ∙ there
]
  where
    held : (p : Option Object) → IsSomeAnd p (λ o. (o.kind ≡ C.Discardable) × (o.locks ≡ 0) × (is_some o.bytes ≡ true) × (object_at new q ≡ Some (record o { bytes = None }))) → is_some p ≡ true
    held None f = absurd f
    held (Some o) f = refl

-- what an answered request was
granted : (old : Heap) (h : ℕ) (options : C.RoomOptions) (prefix : Option ℕ) (becomes : Object → Type 0) (order : Object → List ℕ → List ℕ) (new : Heap) → C.Request old h (record { options = options; prefix = prefix; becomes = becomes; order = order }) true new
    → (k : ℕ) × (prefix ≡ Some k) × (o : Object) × becomes o × C.Settles old (stays_for h options) (C.with_ordered (discarded old k (Some h)) h o (order o)) new
granted old h options None becomes order new r = absurd (false≢true (sym r.0))
granted old h options (Some k) becomes order new r = (k, refl, r.1.0, r.1.1, r.1.2)

-- An object with bytes in a run of free slots, for which others may have been discarded or have slid.
module _ {h : Holding} {xs : List (Option Attributes)} {t : selectors.DescriptorTable} (are : AreJoined h xs t) (new : Holding) (cap : new.cap ≡ h.cap) (slot : ℕ) (a : Attributes)
    {m : ℕ} {w : Handles} (shown : handles_of h xs m ≡ w) (known : C.IsFreeRun w slot a.slots) (run : C.IsOwnedRun a) (own : C.HasSize (Some a))
    (n : ℕ) (kind : Kind) (options : C.RoomOptions) (allocated : C.Allocates h.heap slot n kind 0 options true new.heap) (has : C.HasDiscarded h.heap slot n options new.discarded) (enough : a.slots ≡ slots_for n) where
  abbrev ys : List (Option Attributes)
  ys = set xs slot (Some a)

  some : 0 < a.slots
  some = subst (λ k. 0 < k) (sym enough) (C.some_slots n)

  s : (k : ℕ) × (C.discards_needed h.heap n (Some slot) options ≡ Some k) × (o : Object) × IsNew options.zero n kind 0 o × C.Settles h.heap (stays_for slot options) (C.with_ordered (discarded h.heap k (Some slot)) slot o (with_newest slot o)) new.heap
  s = granted h.heap slot options (C.discards_needed h.heap n (Some slot) options) (IsNew options.zero n kind 0) (with_newest slot) new.heap allocated.request

  keeps : KeepsOthers h.heap (Some slot) s.0 new.heap
  keeps = (C.others_law h.heap new.heap are.handles.heap s.0).0 slot options s.2 (with_newest slot s.2) s.4

  ids_are : new.discarded ≡ take s.0 (eligible (blocks h.heap) h.heap.order (Some slot))
  ids_are = let same : ◌≡◌ {A = Option ℕ} (Some has.prefix) (Some s.0) = sym has.needed ∙ s.1 in has.listed ∙ ap (λ k. take k (eligible (blocks h.heap) h.heap.order (Some slot))) (let e : has.prefix ≡ s.0 = cc in e)

  -- it has the bytes that it was given, and the slots that they need
  pub allocated_own : option_map (length {A = ℕ}) (bytes_at new.heap slot) ≡ Some n
  allocated_own = ap (λ (p : Option Object). option_map (length {A = ℕ}) (bytes_in p)) (ap (λ (g : Heap). object_at g slot) s.4.same ∙ C.inserted_here (discarded h.heap s.0 (Some slot)).objects slot s.2 slot refl) ∙ long s.2.bytes s.3.new_bytes
    where
      long : (b : Option (List ℕ)) → IsSomeAnd b (C.AreNew options.zero n) → option_map (length {A = ℕ}) b ≡ Some n
      long None f = absurd f
      long (Some b) f = ap Some f.0

  fit : (b : Option (List ℕ)) → IsSomeAnd b (C.AreNew options.zero n) → C.IsSized a.slots b
  fit None f = tt
  fit (Some b) f = enough ∙ ap slots_for (sym f.0)

  pub allocated_handles : AreHandles (handles_of new ys 0)
  allocated_handles = subst AreHandles (λ i. record { slots = sym cap i - FIRST_SLOT; heap = new.heap; attributes = sym (attributes_set xs slot a (within are new cap slot a shown known some)) i; moved = 0 })
      (C.with_new_object (handles_of h xs 0) are.handles a slot s.0 s.2 (with_newest slot s.2) (stays_for slot options) new.heap some run (free are new cap slot a shown known some) (fit s.2.bytes s.3.new_bytes) s.4)

  pub allocated_gone : All (λ q. (q < new.cap) × (bytes_at new.heap q ≡ None)) new.discarded
  allocated_gone = all_gone h.heap new.heap s.4.sound (Some slot) s.0 keeps (λ q. (q < new.cap) × (bytes_at new.heap q ≡ None)) (λ q there none. (subst (λ k. q < k) (sym cap) (slot_there h xs t are q there).1, none)) new.discarded ids_are

  pub allocated_labelled : (holds : SelKind) → holds ≡ kind_for (Some a) → (first : selectors.DescriptorTable) → ((q : ℕ) → descriptor_at first q ≡ taken slot a.slots holds t q) → C.AreLabelled ys first
  allocated_labelled = taken_labelled are new cap slot a shown known some allocated_handles own

  pub allocated_run : (holds : SelKind) → holds ≡ kind_for (Some a) → (from to : ℕ) (first second : selectors.DescriptorTable) → ((q : ℕ) → descriptor_at first q ≡ taken slot a.slots holds t q)
      → ((q : ℕ) → descriptor_at second q ≡ told new.heap ys (λ f. is_member f new.discarded || begins_in new.heap from to f) first q) → (number : ℕ) → number < slots_for n → (is_some (descriptor_at second (slot + number)) ≡ true) × (C.number_at second (slot + number) ≡ number)
  allocated_run holds holds_is from to first second takes tells number below =
      run_known new ys allocated_handles second (told_labelled new ys allocated_handles (λ f. is_member f new.discarded || begins_in new.heap from to f) first second (allocated_labelled holds holds_is first takes) tells) slot number
      (subst (λ k. number < k) (sym (run_sized new ys allocated_handles slot n allocated_own)) below)

  pub allocated_slots : C.slots_in ys slot ≡ slots_for n
  allocated_slots = run_sized new ys allocated_handles slot n allocated_own

  pub allocated_joined : (holds : SelKind) → holds ≡ kind_for (Some a) → (at from to : ℕ) → finmap.get new.heap.places slot ≡ Some at → ((q : ℕ) → q ≢ slot → StandStill h.heap new.heap from to q)
      → (first second after : selectors.DescriptorTable) → ((q : ℕ) → descriptor_at first q ≡ taken slot a.slots holds t q) → ((q : ℕ) → descriptor_at second q ≡ told new.heap ys (λ f. is_member f new.discarded || begins_in new.heap from to f) first q)
      → ((q : ℕ) → descriptor_at after q ≡ C.placed slot at n second q) → length after ≡ length t → AreJoined new ys after
  allocated_joined holds holds_is at from to stands still first second after takes tells places many =
      with_run_joined are new cap slot a shown known some allocated_handles own after many
      (finished new ys allocated_handles (λ f. is_member f new.discarded || begins_in new.heap from to f) first second after slot at n
      (allocated_labelled holds holds_is first takes) tells allocated_own stands places rest)
    where
      rest : (q f : ℕ) → C.owner_in ys q ≡ Some f → f ≢ slot → (is_member f new.discarded || begins_in new.heap from to f) ≡ false → descriptor_at first q ≡ says new.heap (kind_in ys f) (q - f) f
      rest q f e other untold = elim (C.cases_Bool (C.is_in_run slot a.slots q)) [
        | inl inside ↦ let mine : Some f ≡ Some slot = sym e ∙ (owners are new cap slot a shown known some allocated_handles own q).0 inside in absurd (other (let same : f ≡ slot = cc in same))
        | inr outside ↦
            let before : C.owner_in xs q ≡ Some f = sym ((owners are new cap slot a shown known some allocated_handles own q).1 outside) ∙ e in
            takes q ∙ ap (λ b. if b then Some (unset holds (q - slot)) else descriptor_at t q) outside ∙ are.described q ∙ ap (λ p. elim p as (λ _. Option C.Descriptor) [ None ↦ None | Some first ↦ says h.heap (kind_in xs first) (q - first) first ]) before
            ∙ sym (ap (λ k. says new.heap k (q - f) f) (kinds are new cap slot a shown known some allocated_handles own q f before)
            ∙ rest_says h.heap new.heap s.4.sound (Some slot) s.0 keeps new.discarded ids_are from to f (λ g. let same : slot ≡ f = cc in other (sym same)) untold (still f other) (kind_in xs f) (q - f))
      ]

-- And where objects were discarded and have slid, and no other thing changed.
module _ {h : Holding} {xs : List (Option Attributes)} {t : selectors.DescriptorTable} (are : AreJoined h xs t) (new : Holding) (cap : new.cap ≡ h.cap) (n answer : ℕ) (compacted : C.Compacts h.heap n answer new.heap)
    (listed : 0 < n → new.discarded ≡ C.first_eligible h.heap (compaction_prefix h.heap n) None) (unlisted : n ≡ 0 → new.discarded ≡ []) where
  handles : AreHandles (record (handles_of h xs 0) { heap = new.heap; moved = moved_bytes h.heap new.heap })
  handles = compacted_handles (handles_of h xs 0) are.handles n answer (record (handles_of h xs 0) { heap = new.heap; moved = moved_bytes h.heap new.heap }) (record { compacted = compacted; rest = refl })

  -- how many were discarded, and that the others are kept
  abbrev Kept : Type 0
  Kept = (k : ℕ) × (new.discarded ≡ take k (eligible (blocks h.heap) h.heap.order None)) × KeepsOthers h.heap None k new.heap

  kept : Kept
  kept = elim (C.cases_eq n 0) [
    | inl none ↦ let same : new.heap ≡ h.heap = (subst (λ b. C.MatchBool b ((answer ≡ C.most_room h.heap) × (new.heap ≡ h.heap)) (MakesRoom h.heap n answer new.heap)) (C.eq-eqb n 0 none) compacted).1 in
        (0, unlisted none, record { kept = λ q d m. ap (λ (g : Heap). object_at g q) same; discarded = λ q m. absurd (false≢true m) })
    | inr some ↦ let made : MakesRoom h.heap n answer new.heap = subst (λ b. C.MatchBool b ((answer ≡ C.most_room h.heap) × (new.heap ≡ h.heap)) (MakesRoom h.heap n answer new.heap)) (C.ne_eqb n 0 some) compacted in
        (compaction_prefix h.heap n, listed (omega arith), (C.others_law h.heap new.heap are.handles.heap (compaction_prefix h.heap n)).1 made.settled)
  ]

  pub compaction_handles : AreHandles (handles_of new xs 0)
  compaction_handles = subst AreHandles (λ i. record { slots = sym cap i - FIRST_SLOT; heap = new.heap; attributes = C.attributes_in xs; moved = 0 }) (C.moved_handles (record (handles_of h xs 0) { heap = new.heap; moved = moved_bytes h.heap new.heap }) handles 0)

  pub compaction_gone : All (λ q. (q < new.cap) × (bytes_at new.heap q ≡ None)) new.discarded
  compaction_gone = all_gone h.heap new.heap handles.heap None kept.0 kept.2 (λ q. (q < new.cap) × (bytes_at new.heap q ≡ None)) (λ q there none. (subst (λ k. q < k) (sym cap) (slot_there h xs t are q there).1, none)) new.discarded kept.1

  pub compacted_joined : (from to : ℕ) (after : selectors.DescriptorTable) → ((q : ℕ) → StandStill h.heap new.heap from to q) → ((q : ℕ) → descriptor_at after q ≡ told new.heap xs (λ f. is_member f new.discarded || begins_in new.heap from to f) t q)
      → length after ≡ length t → AreJoined new xs after
  compacted_joined from to after still tells many = record {
    handles = compaction_handles;
    described = all_told new xs compaction_handles (λ f. is_member f new.discarded || begins_in new.heap from to f) t after (labelled are) tells
        (λ q f e untold. are.described q ∙ ap (λ p. elim p as (λ _. Option C.Descriptor) [ None ↦ None | Some first ↦ says h.heap (kind_in xs first) (q - first) first ]) e
        ∙ sym (rest_says h.heap new.heap handles.heap None kept.0 kept.2 new.discarded kept.1 from to f (λ g. cc) untold (still f) (kind_in xs f) (q - f)));
    sized = are.sized;
    attributes_many = are.attributes_many ∙ sym cap;
    selectors_many = many ∙ are.selectors_many ∙ sym cap;
    some = subst (λ n. FIRST_SLOT ≤ n) (sym cap) are.some;
  }

-- the worlds that these are
pub given_moved : (h : Holding) (xs : List (Option Attributes)) (m : ℕ) {w : Handles} → handles_of h xs m ≡ w → (new : Holding) (slot : ℕ) (a : Attributes) (moved : ℕ) → moved ≡ moved_bytes h.heap new.heap
    → handles_of new (set xs slot (Some a)) moved ≡ record w { heap = new.heap; attributes = finmap.insert w.attributes slot a; moved = moved }
    → handles_of new (set xs slot (Some a)) moved ≡ record w { heap = new.heap; attributes = finmap.insert w.attributes slot a; moved = moved_bytes w.heap new.heap }
given_moved h xs m {w} shown new slot a moved is given =
    given ∙ (λ i. record w { heap = new.heap; attributes = finmap.insert w.attributes slot a; moved = (is ∙ ap (λ v. moved_bytes v.heap new.heap) shown) i })

pub compacted_known : (h : Holding) (xs : List (Option Attributes)) (m : ℕ) {w : Handles} → handles_of h xs m ≡ w → (new : Holding) → new.cap ≡ h.cap → (n answer moved : ℕ) → C.Compacts h.heap n answer new.heap
    → moved ≡ moved_bytes h.heap new.heap → C.GlobalCompacts w n answer (handles_of new xs moved)
compacted_known h xs m {w} shown new cap n answer moved compacted is = subst (λ v. C.GlobalCompacts v n answer (handles_of new xs moved)) shown (record {
  compacted = compacted;
  rest = λ i. record { slots = cap i - FIRST_SLOT; heap = new.heap; attributes = C.attributes_in xs; moved = is i };
})
