-- What LoadResource and LockResource are for, proved from their steps over any store.
use Rattle.w16_loading.proofs
use proofs.Common as C
use Rattle.w16_laws.specs.ModuleEffects as M
use proofs.Common.{◌≡◌, ◌≢◌, ℕ, ◌+◌, ◌-◌, ◌<◌, ◌≤◌, ◌==◌, ◌&&◌, inl, inr, ◌⊎◌, Bool, true, false, cond, List, length, Option, Some, None, IfSome, IsSomeAnd, is_some, refl, sym, ap, ◌∙◌, arith, IsTrue, Heap, Object, Handles, object_at, is_fixed, handle_of, slot_of_handle}
use proofs.Common.{selector_of, inserted_here, inserted_other, Resource, Load, LoadingWorld, Reply, Word, Dword, FetchesFrom, Fills}
use proofs.Stepping.{found_load, resource_load, with_count}
use proofs.{Cases.resource_cases, Importers.found_passes, Fillings.fetch_outcome, Fillings.filled_object, ResourceWorlds.none_of_place, SparedByUses.named_slot}
use Rattle.std.proofs.Common.{Result, Ok, Err}
use Rattle.w16_model.specs.{Changes.touched, Handles.far_pointer, OneObject.after_lock, declared.Refusal.Refusal}
use Rattle.w16_model.proofs.{Fewest.some_handle, Naming.names_law}
use Rattle.w16_loading.specs.Resource.{reply_of_call}
use Rattle.std.specs.FinMap as finmap
use Rattle.w16_model.specs.Calls as calls
use Rattle.w16_model.specs.declared.Refusal.TheVariants as refusals
use Rattle.w16_loading.specs.declared.FetchFault.TheVariants.{Store, Damaged, NoRoom}
use Rattle.w16_loading.specs.{declared.FetchFault.FetchFault, declared.TheConstants.MOST_USES}

-- the handle of an object that is there finds its slot
finds : (handles : Handles) (slot : ℕ) (o : Object) → object_at handles.heap slot ≡ Some o → slot_of_handle handles (handle_of o.kind slot) ≡ Some slot
finds handles slot o there = (names_law handles _ slot).0.1 (rw there refl)

-- a pair's parts
reply_is : {R : Type 0} {a : R} {w : LoadingWorld} (p : R × LoadingWorld) → ◌≡◌ {A = R × LoadingWorld} (a, w) p → (a ≡ p.0) × (w ≡ p.1)
reply_is p e = rw (← e) (refl, refl)

-- Loads.

module _ (answers : C.Answers) (old : LoadingWorld) (is : C.IsLoadingWorld old) (handle place answer : ℕ) (new : LoadingWorld) where
  abbrev Does : Type 0
  Does = (new.modules ≡ old.modules) × (answer ≡ 0 → (new.loads ≡ old.loads) × (new.handles ≡ old.handles))
      × (answer ≢ 0 → (slot : ℕ) × (slot_of_handle new.handles answer ≡ Some slot) × ((q : ℕ) → q ≢ slot → finmap.get new.loads q ≡ finmap.get old.loads q)
      × (M.IsLoadedAgain old handle place slot new ⊎ M.IsLoadedFirst old handle place slot new))

  none : C.AnswersNone old (Word answer) new → Does
  none (says, same) = (rw same, λ z. (rw same, rw same), λ d. absurd (d (cc)))

  -- an object of the load
  its_object : (r : Resource) (x : ℕ × Load) → C.resource_at old handle place ≡ Some r → finmap.get old.loads x.0 ≡ Some x.1 → x.1.handle ≡ handle → x.1.place ≡ place → (o : Object) × (object_at old.handles.heap x.0 ≡ Some o) × (o.kind ≡ r.kind)
  its_object r x at there h p = by (object_at old.handles.heap x.0) refl owned.object
    where
      load : C.IsLoad old x.0 x.1
      load = rw there at (is.loads x.0)

      owned : C.IsObjectOf old x.0 r.kind (C.rounded_size r.length_in) false
      owned = rw (h, p, at) at load.resource

      by : (p : Option Object) → object_at old.handles.heap x.0 ≡ p → IsSomeAnd p (λ o. (o.kind ≡ r.kind) × IfSome o.bytes (λ bytes. length bytes ≡ C.rounded_size r.length_in)) → (o : Object) × (object_at old.handles.heap x.0 ≡ Some o) × (o.kind ≡ r.kind)
      by None e h = absurd h
      by (Some o) e h = (o, e, h.0)

  again : (r : Resource) (x : ℕ × Load) → C.resource_at old handle place ≡ Some r → C.load_of old handle place ≡ Some x → ◌≡◌ {A = Reply × LoadingWorld} (Word answer, new) (C.loaded_again old r x) → Does
  again r x at found e = by (C.nat_lt x.1.loads MOST_USES) e
    where
      there : finmap.get old.loads x.0 ≡ Some x.1
      there = found_load old handle place x found

      passes : IsTrue (x.1.handle == handle) × IsTrue (x.1.place == place)
      passes = C.and_parts _ _ (found_passes (λ (y : ℕ × Load). (y.1.handle == handle) && (y.1.place == place)) (finmap.entries old.loads) x found).1

      h : x.1.handle ≡ handle
      h = C.eqb-true x.1.handle handle passes.0

      p : x.1.place ≡ place
      p = C.eqb-true x.1.place place passes.1

      by : (b : Bool) → ◌≡◌ {A = Reply × LoadingWorld} (Word answer, new) (cond {A = Reply × LoadingWorld} b (Word (handle_of r.kind x.0), with_count old x.0 x.1 (x.1.loads + 1)) (Word 0, old)) → Does
      by false e = none (reply_is _ e)
      by true e =
          let both = reply_is _ e in
          let says : answer ≡ handle_of r.kind x.0 = cc (both.0) in
          let o : (o : Object) × (object_at old.handles.heap x.0 ≡ Some o) × (o.kind ≡ r.kind) = its_object r x at there h p in
          let handles : new.handles ≡ old.handles = rw both.1 in (
            rw both.1,
            λ zero. absurd (some_handle r.kind x.0 (cc)),
            λ some. (
              x.0,
              rw (handles, says, ← o.2) (finds old.handles _ o.0 o.1),
              λ q d. rw both.1 (inserted_other old.loads x.0 _ q d),
              inl (
                x.1.loads,
                rw (← h, ← p) there,
                rw (both.1, ← h, ← p) (inserted_here old.loads x.0 _ x.0 refl),
                handles,
              ),
            ),
          )

  -- whose resource it is
  abbrev HasResource : Resource → Type 0
  HasResource r = (m : C.Module) × (C.module_at old.modules handle ≡ Some m) × (0 < place) × (C.slice_get m.tables.resources (place - 1) ≡ Some r)

  its_module : (r : Resource) → C.resource_at old handle place ≡ Some r → HasResource r
  its_module r at = by (C.module_at old.modules handle) refl at
    where
      by_place : (m : C.Module) → C.module_at old.modules handle ≡ Some m → (b : Bool) → (place == 0) ≡ b → cond b None (C.slice_get m.tables.resources (place - 1)) ≡ Some r → HasResource r
      by_place m there true t e = cc
      by_place m there false t e = (m, there, grind (arith, t), e)

      by : (p : Option C.Module) → C.module_at old.modules handle ≡ p → elim p as (λ _. Option Resource) [ None ↦ None | Some m ↦ C.numbered m.tables.resources place ] ≡ Some r → HasResource r
      by None e f = cc
      by (Some m) e f = by_place m e (place == 0) refl f

  first : (r : Resource) → C.resource_at old handle place ≡ Some r → C.is_too_long r ≡ false → C.load_of old handle place ≡ None → C.LoadsNewResource (FetchesFrom Fills answers) old handle place r (Word answer) new → Does
  first r at short unloaded l = by l.fault l.fetched l.outcome
    where
      entered : Object
      entered = record { kind = r.kind; locks = 0; bytes = None }

      by : (fault : Option FetchFault) → FetchesFrom Fills answers (C.with_resource old l.slot handle place r) l.slot fault l.next → ◌≡◌ {A = Reply × LoadingWorld} (Word answer, new) (C.resource_outcome fault (handle_of r.kind l.slot) l.next old) → Does
      by (Some NoRoom) f e = none (reply_is _ e)
      by (Some Store) f e = cc ((reply_is _ e).0)
      by (Some Damaged) f e = cc ((reply_is _ e).0)
      by None f e =
          let both = reply_is (Word (handle_of r.kind l.slot), l.next) e in
          let says : answer ≡ handle_of r.kind l.slot = cc (both.0) in
          let rest : new ≡ C.with_heap (C.with_resource old l.slot handle place r) l.next.handles.heap = both.1 ∙ f.rest in
          let before : f.given.3.before ≡ entered = cc (sym f.given.3.there ∙ inserted_here old.handles.heap.objects l.slot entered l.slot refl) in
          let object : object_at new.handles.heap l.slot ≡ Some (record entered { bytes = Some f.given.0 }) = rw rest (filled_object _ l.slot f.given.0 _ f.given.3 ∙ ap (λ (o : Object). Some (record o { bytes = Some f.given.0 })) before) in
          let long : length f.given.0 ≡ C.rounded_size r.length_in = rw (ap C.owned_in (inserted_here old.handles.attributes l.slot (C.attributes_for r) l.slot refl)) at f.given.1 in
          let m = its_module r at in (
            rw rest,
            λ zero. absurd (some_handle r.kind l.slot (cc)),
            λ some. (
              l.slot,
              rw says (finds new.handles _ (record entered { bytes = Some f.given.0 }) object),
              λ q d. rw rest (inserted_other old.loads l.slot _ q d),
              inr (
                none_of_place old is l.slot l.free handle place r at short unloaded,
                rw rest (inserted_here old.loads l.slot _ l.slot refl),
                l.free,
                m.0,
                r,
                m.1,
                m.2,
                m.3,
                rw object (refl, refl, long),
              ),
            ),
          )

  loads : C.LoadsResource (FetchesFrom Fills answers) old handle place (Word answer) new → Does
  loads step = elim (resource_cases (FetchesFrom Fills answers) old (Word answer) new handle place step) [
    | inl f ↦ none f
    | inr (r, at, inl (x, e, f)) ↦ again r x at.0 e f
    | inr (r, at, inr (e, f)) ↦ first r at.0 at.1 e f
  ]

pub load_resource_law : (honest : Type 0) → M.LoadResourceLaw honest
load_resource_law honest format old new handle place answer is step = loads (C.told _ format _ _ _) old is _ _ _ (record new { failures = old.failures }) step.step

-- Locks.

-- a lock of an object that has bytes
module _ (h : Handles) (slot : ℕ) (o : Object) (there : object_at h.heap slot ≡ Some o) (bytes : is_some o.bytes ≡ true) where
  abbrev more : Object
  more = record o { locks = o.locks + 1 }

  abbrev counted : Heap
  counted = C.with_ordered h.heap slot more (touched slot)

  abbrev outcome : Result Heap Refusal → calls.Answer × Handles
  outcome r = elim r [
    | Ok heap ↦ (calls.Answer.Dword (far_pointer (selector_of slot) 0), record h { heap = heap })
    | Err refusals.Fixed ↦ (calls.Answer.Dword (far_pointer (selector_of slot) 0), h)
    | Err _ ↦ (calls.Answer.Dword 0, h)
  ]

  abbrev lock_if : Bool → Bool → Bool → Result Heap Refusal
  lock_if b c d = cond (C.not b) (Err refusals.Absent) (cond c (Err refusals.Fixed) (cond d (Err refusals.LockFull) (Ok counted)))

  is_locked : (handle : ℕ) → slot_of_handle h handle ≡ Some slot → C.global_lock h handle ≡ outcome (lock_if true (is_fixed o.kind) (o.locks == 255))
  is_locked handle found = rw (found, there, bytes, C.global_lock, after_lock)

some_pointer : (slot : ℕ) → far_pointer (selector_of slot) 0 ≡ 0 → ⊥
some_pointer slot e = omega (arith, e)

module _ (answers : C.Answers) (old : LoadingWorld) (is : C.IsLoadingWorld old) (handle answer : ℕ) (new : LoadingWorld) where
  -- a world is left as it was for want of a count; or the object has a lock more, unless it is fixed
  abbrev IsFull : LoadingWorld → Object → Type 0
  IsFull world o = (answer ≡ 0) × (new ≡ world) × (o.locks ≡ 255) × (is_fixed o.kind ≡ false)

  abbrev IsLocked : LoadingWorld → ℕ → Object → Type 0
  IsLocked world slot o = (answer ≡ far_pointer (selector_of slot) 0) × (new.modules ≡ world.modules) × (new.loads ≡ world.loads) × (is_fixed o.kind ≡ false → o.locks < 255)
      × (object_at new.handles.heap slot ≡ Some (record o { locks = cond (is_fixed o.kind) o.locks (o.locks + 1) }))

  lock_at : (world : LoadingWorld) (slot : ℕ) (o : Object) → object_at world.handles.heap slot ≡ Some o → is_some o.bytes ≡ true → o.locks ≤ 255 → slot_of_handle world.handles handle ≡ Some slot
      → ◌≡◌ {A = Reply × LoadingWorld} (Dword answer, new) (C.locked world handle) → IsFull world o ⊎ IsLocked world slot o
  lock_at world slot o there bytes few found e = by (is_fixed o.kind) (o.locks == 255) refl refl (e ∙ ap printed (is_locked world.handles slot o there bytes handle found))
    where
      printed : calls.Answer × Handles → Reply × LoadingWorld
      printed x = (reply_of_call x.0, record world { handles = x.1 })

      locked_so : (c : Bool) → is_fixed o.kind ≡ c → (answer ≡ far_pointer (selector_of slot) 0) → (is_fixed o.kind ≡ false → o.locks < 255) → (next : Handles) → new ≡ record world { handles = next }
          → object_at next.heap slot ≡ Some (record o { locks = cond c o.locks (o.locks + 1) }) → IsLocked world slot o
      locked_so c fixed says less next same object = (
        says,
        rw same,
        rw same,
        less,
        rw (same, fixed) object,
      )

      by : (c d : Bool) → is_fixed o.kind ≡ c → (o.locks == 255) ≡ d → ◌≡◌ {A = Reply × LoadingWorld} (Dword answer, new) (printed (outcome world.handles slot o there bytes (lock_if world.handles slot o there bytes true c d))) → IsFull world o ⊎ IsLocked world slot o
      by true d fixed t e = let both = reply_is _ e in inr (locked_so true fixed (cc (both.0)) (λ loose. cc) world.handles both.1 there)
      by false true fixed t e = let both = reply_is _ e in inl (cc (both.0), both.1, C.eqb-true o.locks 255 t, fixed)
      by false false fixed t e =
          let both = reply_is _ e in
          inr (locked_so false fixed (cc (both.0)) (λ loose. grind (arith, few, t)) (record world.handles { heap = counted world.handles slot o there bytes }) both.1 (inserted_here world.handles.heap.objects slot _ slot refl))

  abbrev Locks : Type 0
  Locks = (new.modules ≡ old.modules) × (new.loads ≡ old.loads) × (answer ≡ 0 → new.handles ≡ old.handles)
      × (answer ≢ 0 → (slot : ℕ) × (load : Load) × (slot_of_handle old.handles handle ≡ Some slot) × (finmap.get old.loads slot ≡ Some load) × (answer ≡ far_pointer (selector_of slot) 0) × M.IsLockedOnce old slot new)

  abbrev Fetched : ℕ → Option (List ℕ) → Type 0
  Fetched slot p = C.MatchOption p ((fault : Option FetchFault) × (next : LoadingWorld) × FetchesFrom Fills answers old slot fault next × ((Dword answer, new) ≡ C.lock_outcome fault handle next)) (λ _. (Dword answer, new) ≡ C.locked old handle)

  unlocked : answer ≡ 0 → new ≡ old → Locks
  unlocked zero same = (rw same, rw same, λ z. rw same, λ d. absurd (d zero))

  module _ (slot : ℕ) (load : Load) (found : slot_of_handle old.handles handle ≡ Some slot) (loaded : finmap.get old.loads slot ≡ Some load) (o : Object) (there : object_at old.handles.heap slot ≡ Some o) where
    -- with these bytes
    locked_once : (bytes : List ℕ) → IfSome o.bytes (λ b. bytes ≡ b) → (world : LoadingWorld) → world.modules ≡ old.modules → world.loads ≡ old.loads → IsLocked world slot (record o { bytes = Some bytes }) → Locks
    locked_once bytes same world modules loads l = (
      l.1 ∙ modules,
      l.2 ∙ loads,
      λ zero. absurd (some_pointer slot (sym l.0 ∙ zero)),
      λ some. (
        slot,
        load,
        found,
        loaded,
        l.0,
        rw there (bytes, same, l.3, l.4),
      ),
    )

    counts : (o.locks ≤ 255) × (IsTrue (is_fixed o.kind) → o.locks ≡ 0) × (o.bytes ≡ None → o.locks ≡ 0)
    counts = rw there at (is.handles.heap.counted slot)

    fetched : (fault : Option FetchFault) (next : LoadingWorld) → o.bytes ≡ None → FetchesFrom Fills answers old slot fault next → ◌≡◌ {A = Reply × LoadingWorld} (Dword answer, new) (C.lock_outcome fault handle next) → Locks
    fetched (Some NoRoom) next none f e = let both = reply_is _ e in unlocked (cc (both.0)) (both.1 ∙ (fetch_outcome f).0 refl)
    fetched (Some Store) next none f e = cc ((reply_is _ e).0)
    fetched (Some Damaged) next none f e = cc ((reply_is _ e).0)
    fetched None next none f e = elim (lock_at next slot (record o { bytes = Some f.given.0 }) object refl counts.0 (finds_next f.rest) e) [
      | inl full ↦ absurd (omega (arith, full.2, counts.2 none))
      | inr l ↦ locked_once f.given.0 (rw none tt) next (rw f.rest) (rw f.rest) l
    ]
      where
        before : f.given.3.before ≡ o
        before = cc (sym f.given.3.there ∙ there)

        object : object_at next.handles.heap slot ≡ Some (record o { bytes = Some f.given.0 })
        object = filled_object old.handles.heap slot f.given.0 next.handles.heap f.given.3 ∙ ap (λ (x : Object). Some (record x { bytes = Some f.given.0 })) before

        finds_next : next ≡ C.with_heap old next.handles.heap → slot_of_handle next.handles handle ≡ Some slot
        finds_next rest = (names_law next.handles handle slot).0.1 (rw object (rw there at ((names_law old.handles handle slot).0.0 found)))

    by_bytes : (p : Option (List ℕ)) → o.bytes ≡ p
        → Fetched slot p → Locks
    by_bytes None e f = fetched f.0 f.1 e f.2 f.3
    by_bytes (Some bytes) e f = elim (lock_at old slot o there (ap is_some e) counts.0 found f) [
      | inl full ↦ unlocked full.0 full.1
      | inr l ↦ locked_once bytes (rw e refl) old refl refl (rw e at l)
    ]

  locks : C.LocksResource (FetchesFrom Fills answers) old handle (Dword answer) new → Locks
  locks step = by_slot (C.slot_of_resource old handle) refl step
    where
      by_object : (x : ℕ × Load) → C.slot_of_resource old handle ≡ Some x → (p : Option Object) → object_at old.handles.heap x.0 ≡ p → IsSomeAnd p (λ o. handle ≡ handle_of o.kind x.0)
          → Fetched x.0 (C.bytes_in p) → Locks
      by_object x e None at h f = absurd h
      by_object x e (Some o) at h f = by_bytes x.0 x.1 (named_slot old handle x e) (resource_load old handle x e) o at o.bytes refl f

      by_slot : (p : Option (ℕ × Load)) → C.slot_of_resource old handle ≡ p → C.MatchOption p ((◌≡◌ {A = Reply} (Dword answer) (Dword 0)) × (new ≡ old)) (λ x. Fetched x.0 (C.bytes_at old.handles.heap x.0)) → Locks
      by_slot None e f = unlocked (cc (f.0)) f.1
      by_slot (Some x) e f = by_object x e (object_at old.handles.heap x.0) refl ((names_law old.handles handle x.0).0.0 (named_slot old handle x e)) f

  -- what has bytes is answered, unless its count is full
  answered : (slot : ℕ) (load : Load) (o : Object) → slot_of_handle old.handles handle ≡ Some slot → finmap.get old.loads slot ≡ Some load → object_at old.handles.heap slot ≡ Some o → is_some o.bytes ≡ true → (is_fixed o.kind ≡ true) ⊎ (o.locks < 255)
      → C.LocksResource (FetchesFrom Fills answers) old handle (Dword answer) new → answer ≢ 0
  answered slot load o found loaded there bytes few step = by o.bytes bytes (rw (is_it, ap C.bytes_in there) at step)
    where
      is_it : C.slot_of_resource old handle ≡ Some (slot, load)
      is_it = rw (found, loaded, C.slot_of_resource)

      by : (p : Option (List ℕ)) → is_some p ≡ true → Fetched slot p → answer ≢ 0
      by None t f zero = cc
      by (Some b) t f zero = elim (lock_at old slot o there bytes (counts slot load found loaded o there).0 found f) [
        | inl full ↦ elim few [ inl fixed ↦ cc (full.3) | inr lt ↦ omega (arith, full.2, lt) ]
        | inr l ↦ some_pointer slot (sym l.0 ∙ zero)
      ]

pub lock_resource_law : (honest : Type 0) → M.LockResourceLaw honest
lock_resource_law honest format old new handle answer is step =
    let answers = C.told honest format old.files old.failures new.failures in
    let l = locks answers old is _ _ (record new { failures = old.failures }) step.step in
    (l.0, l.1, l.2, l.3, λ slot load o found loaded there bytes few. answered answers old is _ _ (record new { failures = old.failures }) slot load o found loaded there bytes few step.step)
