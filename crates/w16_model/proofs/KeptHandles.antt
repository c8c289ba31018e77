-- Handles with one thing changed are handles, and each far access leaves such.
use Rattle.w16_model.proofs
use proofs.Common as C
use proofs.KeptHeaps as M
use proofs.Common.{◌≡◌, ◌≢◌, ℕ, ◌+◌, ◌-◌, ◌<◌, ◌≤◌, inl, inr, Bool, true, false, cond, not, IfOk, List, [], ◌∷◌, length, fold, take, All, Option, Some, None, option_map, is_some, refl, sym, ap, ◌∙◌, subst, false≢true, cases_eq, Block, Heap, Object, IsHeap, object_at, absent, with_ordered}
use proofs.Common.{Kind, after_touch, Settles, discarded, Attributes, Handles, AreHandles, IsFreeRun, IsOwnedRun, IsSized, slots_at, bytes_at, part, put_part, far_fault, far_slot, far_at, after_write, Bytes, Done, Fault}
use proofs.CallOutcomes.{LockOf, UnlockOf, lock_is, unlock_is, ok_map}
use proofs.Runs.{slots_with, slots_beside, slots_left, runs_with, runs_without}
use proofs.KeptHeaps.{bytes_in, inserted_here, inserted_other, taken_here, taken_other}
use proofs.{Parts.length-put_part, Accesses.Reached, Accesses.reached, Heaps.get-update_same, Heaps.get-update_other}
use Rattle.std.specs.FinMap as finmap

-- Which ids have an object.

-- a changed object is there where it was
some_mapped : (f : Object → Object) (p : Option Object) → is_some (option_map f p) ≡ is_some p
some_mapped f None = refl
some_mapped f (Some o) = refl

-- the same ids have an object after an update
pub same_updated : (m : C.FinMap C.nat_cmp Object) (id : ℕ) (f : Object → Object) (q : ℕ) → is_some (finmap.get (C.update m id f) q) ≡ is_some (finmap.get m q)
same_updated m id f q = elim (cases_eq q id) [
  | inl e ↦ ap (λ k. is_some (finmap.get (C.update m id f) k)) e ∙ ap is_some (get-update_same m id f) ∙ some_mapped f (finmap.get m id) ∙ ap (λ k. is_some (finmap.get m k)) (sym e)
  | inr d ↦ ap is_some (get-update_other m id f q d)
]

-- and with another object in place of one
same_replaced : (m : C.FinMap C.nat_cmp Object) (id : ℕ) (before o : Object) → finmap.get m id ≡ Some before → (q : ℕ) → is_some (finmap.get (finmap.insert m id o) q) ≡ is_some (finmap.get m q)
same_replaced m id before o there q = elim (cases_eq q id) [
  | inl e ↦ ap is_some (inserted_here m id o q e) ∙ sym (ap is_some (ap (λ k. finmap.get m k) e ∙ there))
  | inr d ↦ ap is_some (inserted_other m id o q d)
]

-- and after discards
absents_same : (ids : List ℕ) (heap : Heap) (q : ℕ) → is_some (object_at (fold absent heap ids) q) ≡ is_some (object_at heap q)
absents_same [] heap q = refl
absents_same (id ∷ ids) heap q = absents_same ids _ q ∙ same_updated _ id (λ o. record o { bytes = None }) q

-- which leave the range and the grain
absents_range : (ids : List ℕ) (heap : Heap) → ((fold absent heap ids).lo ≡ heap.lo) × ((fold absent heap ids).grain ≡ heap.grain)
absents_range [] heap = (refl, refl)
absents_range (id ∷ ids) heap = absents_range ids _

-- Slots for bytes.

-- as many slots for the same bytes
pub sized_is : {n m : ℕ} {b c : Option (List ℕ)} → n ≡ m → b ≡ c → IsSized m c → IsSized n b
sized_is {n} {m} {b} {c} e f h = subst (λ n. IsSized n b) (sym e) (subst (IsSized m) (sym f) h)

-- an object that is put with the bytes that it had
pub put_bytes : (heap : Heap) (id : ℕ) (before after : Object) → object_at heap id ≡ Some before → after.bytes ≡ before.bytes → (q : ℕ) → bytes_at (C.with_object heap id after) q ≡ bytes_at heap q
put_bytes heap id before after there same q = elim (cases_eq q id) [
  | inl e ↦ ap bytes_in (inserted_here _ id after q e) ∙ same ∙ sym (ap bytes_in (ap (object_at heap) e ∙ there))
  | inr d ↦ ap bytes_in (inserted_other _ id after q d)
]

-- and so with whatever else of it stays
pub put_same : {X : Type 0} (f : Object → X) (heap : Heap) (id : ℕ) (before after : Object) → object_at heap id ≡ Some before → f after ≡ f before → (q : ℕ)
    → option_map f (object_at (C.with_object heap id after) q) ≡ option_map f (object_at heap q)
put_same f heap id before after there same q = elim (cases_eq q id) [
  | inl e ↦ ap (option_map f) (inserted_here _ id after q e) ∙ ap Some same ∙ sym (ap (option_map f) (ap (object_at heap) e ∙ there))
  | inr d ↦ ap (option_map f) (inserted_other _ id after q d)
]

-- discards leave what they don't take
no_bytes : (p : Option Object) → bytes_in (option_map (λ (o : Object). record o { bytes = None }) p) ≡ None
no_bytes None = refl
no_bytes (Some o) = refl

pub absent_sized : (heap : Heap) (id q n : ℕ) → IsSized n (bytes_at heap q) → IsSized n (bytes_at (absent heap id) q)
absent_sized heap id q n h = elim (cases_eq q id) [
  | inl e ↦ subst (IsSized n) (sym (ap (bytes_at (absent heap id)) e ∙ ap bytes_in (get-update_same heap.objects id (λ o. record o { bytes = None })) ∙ no_bytes (object_at heap id))) tt
  | inr d ↦ subst (IsSized n) (sym (ap bytes_in (get-update_other heap.objects id (λ o. record o { bytes = None }) q d))) h
]

absents_sized : (ids : List ℕ) (heap : Heap) (q n : ℕ) → IsSized n (bytes_at heap q) → IsSized n (bytes_at (fold absent heap ids) q)
absents_sized [] heap q n h = h
absents_sized (id ∷ ids) heap q n h = absents_sized ids _ q n (absent_sized heap id q n h)

-- what an answered request has settled
pub settled : (old : Heap) (h : ℕ) (options : C.RoomOptions) (prefix : Option ℕ) (becomes : Object → Type 0) (order : Object → List ℕ → List ℕ) (new : Heap) → C.Request old h (record { options = options; prefix = prefix; becomes = becomes; order = order }) true new
    → (k : ℕ) × (o : Object) × Settles old (C.stays_for h options) (with_ordered (discarded old k (Some h)) h o (order o)) new
settled old h options None becomes order new r = absurd (false≢true (sym r.0))
settled old h options (Some k) becomes order new r = (k, r.1.0, r.1.2)

-- what an access leaves are handles
abbrev LeavesFar : C.FarAnswer × Handles → Type 0
LeavesFar outcome = AreHandles outcome.1

-- the count of bytes moved is any
pub moved_handles : (old : Handles) → AreHandles old → (moved : ℕ) → AreHandles (record old { moved = moved })
moved_handles old is moved = record { heap = is.heap; low = is.low; grain = is.grain; few = is.few; runs = is.runs; attributed = is.attributed; sized = is.sized }

module _ (old : Handles) (is : AreHandles old) where
  -- another heap over the same memory, with objects at the same slots, of bytes for which these are as many as they need
  pub other_handles : (heap : Heap) → IsHeap heap → heap.lo ≡ old.heap.lo → heap.grain ≡ old.heap.grain → ((q : ℕ) → is_some (object_at heap q) ≡ is_some (object_at old.heap q))
      → ((q : ℕ) → IsSized (slots_at old.attributes q) (bytes_at heap q)) → AreHandles (record old { heap = heap })
  other_handles heap sound lo grain same sized = record {
    heap = sound;
    low = lo ∙ is.low;
    grain = grain ∙ is.grain;
    few = is.few;
    runs = is.runs;
    attributed = λ q. is.attributed q ∙ sym (same q);
    sized = sized;
  }

  -- the same, with one object in place of another that has as many bytes
  replaced : (slot : ℕ) (before o : Object) (order : List ℕ → List ℕ) → object_at old.heap slot ≡ Some before → o.bytes ≡ before.bytes → IsHeap (with_ordered old.heap slot o order) → AreHandles (record old { heap = with_ordered old.heap slot o order })
  replaced slot before o order there same sound = other_handles (with_ordered old.heap slot o order) sound refl refl (same_replaced old.heap.objects slot before o there)
      (λ q. subst (IsSized (slots_at old.attributes q)) (sym (put_bytes old.heap slot before o there same q)) (is.sized q))

  -- the runs with one more
  more_runs : (slot : ℕ) (a : Attributes) → 0 < a.slots → IsOwnedRun a → IsFreeRun old slot a.slots → C.AreRuns old.slots (finmap.insert old.attributes slot a)
  more_runs slot a some owned free = runs_with old.slots old.attributes is.runs slot a some owned (λ k l. ((free k l).0.0, (free k l).0.1, (free k l).1))

  -- A slot gets an object, in a heap that settles.
  module _ (attributes : Attributes) (slot k : ℕ) (o : Object) (order : List ℕ → List ℕ) (stays : Block → Bool) (new : Heap) (some : 0 < attributes.slots) (owned : IsOwnedRun attributes) (free : IsFreeRun old slot attributes.slots)
      (fit : IsSized attributes.slots o.bytes) (settles : Settles old.heap stays (with_ordered (discarded old.heap k (Some slot)) slot o order) new) where
    -- what was discarded for it
    abbrev pub ids : List ℕ
    ids = take k (C.eligible (C.blocks old.heap) old.heap.order (Some slot))

    -- the other slots have an object where they had one
    same_other : (q : ℕ) → q ≢ slot → is_some (object_at new q) ≡ is_some (object_at old.heap q)
    same_other q d = ap is_some (ap (λ (h : Heap). object_at h q) settles.same ∙ inserted_other (fold absent old.heap ids).objects slot o q d) ∙ absents_same ids old.heap q

    -- the handles with it
    pub with_new_object : AreHandles (record old { heap = new; attributes = finmap.insert old.attributes slot attributes })
    with_new_object = record {
      heap = settles.sound;
      low = ap (λ (h : Heap). h.lo) settles.same ∙ (absents_range ids old.heap).0 ∙ is.low;
      grain = ap (λ (h : Heap). h.grain) settles.same ∙ (absents_range ids old.heap).1 ∙ is.grain;
      few = is.few;
      runs = more_runs slot attributes some owned free;
      attributed = λ q. elim (cases_eq q slot) [
        | inl e ↦ ap is_some (inserted_here old.attributes slot attributes q e) ∙ sym (ap is_some (ap (λ (h : Heap). object_at h q) settles.same ∙ inserted_here (fold absent old.heap ids).objects slot o q e))
        | inr d ↦ ap is_some (inserted_other old.attributes slot attributes q d) ∙ is.attributed q ∙ sym (same_other q d)
      ];
      sized = λ q. elim (cases_eq q slot) [
        | inl e ↦ sized_is (slots_with old.attributes slot attributes q e) (ap (λ (h : Heap). bytes_at h q) settles.same ∙ ap bytes_in (inserted_here (fold absent old.heap ids).objects slot o q e)) fit
        | inr d ↦ sized_is (slots_beside old.attributes slot attributes q d) (ap (λ (h : Heap). bytes_at h q) settles.same ∙ ap bytes_in (inserted_other (fold absent old.heap ids).objects slot o q d))
            (absents_sized ids old.heap q (slots_at old.attributes q) (is.sized q))
      ];
    }

  -- and a slot gets an object without bytes
  pub with_absent_object : (attributes : Attributes) (slot : ℕ) (kind : Kind) (new : Heap) → 0 < attributes.slots → IsOwnedRun attributes → IsFreeRun old slot attributes.slots → C.Enters old.heap slot kind new
      → AreHandles (record old { heap = new; attributes = finmap.insert old.attributes slot attributes })
  with_absent_object attributes slot kind new some owned free enters =
      let o : Object = record { kind = kind; locks = 0; bytes = None } in
      subst (λ (h : Heap). AreHandles (record old { heap = h; attributes = finmap.insert old.attributes slot attributes })) (sym enters.entered) (record {
        heap = M.entered_heap old.heap is.heap slot kind enters.unused;
        low = is.low;
        grain = is.grain;
        few = is.few;
        runs = more_runs slot attributes some owned free;
        attributed = λ q. elim (cases_eq q slot) [
          | inl e ↦ ap is_some (inserted_here old.attributes slot attributes q e) ∙ sym (ap is_some (inserted_here old.heap.objects slot o q e))
          | inr d ↦ ap is_some (inserted_other old.attributes slot attributes q d) ∙ is.attributed q ∙ sym (ap is_some (inserted_other old.heap.objects slot o q d))
        ];
        sized = λ q. elim (cases_eq q slot) [
          | inl e ↦ sized_is refl (ap bytes_in (inserted_here old.heap.objects slot o q e)) tt
          | inr d ↦ sized_is (slots_beside old.attributes slot attributes q d) (ap bytes_in (inserted_other old.heap.objects slot o q d)) (is.sized q)
        ];
      })

  -- room is made for no object
  pub settled_handles : (k : ℕ) (new : Heap) → Settles old.heap C.is_pinned (discarded old.heap k None) new → AreHandles (record old { heap = new })
  settled_handles k new s =
      let ids : List ℕ = take k (C.eligible (C.blocks old.heap) old.heap.order None) in
      other_handles new s.sound (ap (λ (h : Heap). h.lo) s.same ∙ (absents_range ids old.heap).0) (ap (λ (h : Heap). h.grain) s.same ∙ (absents_range ids old.heap).1)
      (λ q. ap is_some (ap (λ (h : Heap). object_at h q) s.same) ∙ absents_same ids old.heap q)
      (λ q. sized_is refl (ap (λ (h : Heap). bytes_at h q) s.same) (absents_sized ids old.heap q (slots_at old.attributes q) (is.sized q)))

  -- the handles without an object
  pub without_object : (slot : ℕ) → AreHandles (record old { heap = C.removed old.heap slot; attributes = finmap.remove old.attributes slot })
  without_object slot = record {
    heap = M.removed_heap old.heap is.heap slot;
    low = is.low;
    grain = is.grain;
    few = is.few;
    runs = runs_without old.slots old.attributes is.runs slot;
    attributed = λ q. elim (cases_eq q slot) [
      | inl e ↦ ap is_some (taken_here old.attributes slot q e) ∙ sym (ap is_some (taken_here old.heap.objects slot q e))
      | inr d ↦ ap is_some (taken_other old.attributes slot q d) ∙ is.attributed q ∙ sym (ap is_some (taken_other old.heap.objects slot q d))
    ];
    sized = λ q. elim (cases_eq q slot) [
      | inl e ↦ sized_is refl (ap bytes_in (taken_here old.heap.objects slot q e)) tt
      | inr d ↦ sized_is (slots_left old.attributes slot q d) (ap bytes_in (taken_other old.heap.objects slot q d)) (is.sized q)
    ];
  }

  -- the handles with this heap
  abbrev pub Kept : Heap → Type 0
  Kept heap = AreHandles (record old { heap = heap })

  -- with a lock more, or one less
  pub locked_kept : (slot : ℕ) (heap : Heap) → LockOf old.heap slot heap → Kept heap
  locked_kept slot heap l = subst Kept (sym l.5) (replaced slot l.0 (record l.0 { locks = l.0.locks + 1 }) (C.touched slot) l.1 refl (M.locked_heap old.heap is.heap slot l.0 l.1 (ap not l.2) l.3 l.4))

  pub unlocked_kept : (slot : ℕ) (heap : Heap) → UnlockOf old.heap slot heap → Kept heap
  unlocked_kept slot heap (inl same) = subst Kept (sym same) is
  unlocked_kept slot heap (inr u) = subst Kept (sym u.3) (replaced slot u.0 (record u.0 { locks = u.0.locks - 1 }) (λ order. order) u.1 refl (M.unlocked_heap old.heap is.heap slot u.0 u.1 u.2))

  pub lock_ok : (slot : ℕ) → IfOk (C.after_lock old.heap slot) Kept
  lock_ok slot = ok_map (LockOf old.heap slot) Kept (C.after_lock old.heap slot) (locked_kept slot) (lock_is old.heap slot)

  pub unlock_ok : (slot : ℕ) → IfOk (C.after_unlock old.heap slot) Kept
  unlock_ok slot = ok_map (UnlockOf old.heap slot) Kept (C.after_unlock old.heap slot) (unlocked_kept slot) (unlock_is old.heap slot)

  -- the handles once an object was used
  touched_handles : (slot : ℕ) → AreHandles (record old { heap = after_touch old.heap slot })
  touched_handles slot = other_handles (after_touch old.heap slot) (M.touched_heap old.heap is.heap slot) refl refl (λ _. refl) is.sized

  -- and with another order of it
  pub ordered_kept : (order : List ℕ) → IsHeap (record old.heap { order = order }) → Kept (record old.heap { order = order })
  ordered_kept order sound = other_handles (record old.heap { order = order }) sound refl refl (λ _. refl) is.sized

  -- Read
  pub read_handles : (selector offset n : ℕ) → AreHandles (C.far_read old selector offset n).1
  read_handles selector offset n = turn (far_fault old selector offset n)
    where
      turn : (f : Option C.FarFault) → LeavesFar (elim f [
        | Some fault ↦ (Fault fault, old)
        | None ↦ (Bytes (part (C.far_bytes old selector) (far_at old selector offset) n), record old { heap = after_touch old.heap (far_slot old selector) })
      ])
      turn (Some fault) = is
      turn None = touched_handles (far_slot old selector)

  -- as many bytes with a slice of them replaced
  abbrev put : ℕ → List ℕ → Object → Object
  put at slice o = record o { bytes = option_map (λ bytes. put_part bytes at slice) o.bytes }

  pub written_sized : (slot at : ℕ) (slice : List ℕ) (o : Object) (bytes : List ℕ) → object_at old.heap slot ≡ Some o → o.bytes ≡ Some bytes → at + length slice ≤ length bytes
      → (q : ℕ) → IsSized (slots_at old.attributes q) (bytes_at (after_write old.heap slot at slice) q)
  written_sized slot at slice o bytes there has inside q = elim (cases_eq q slot) [
    | inl e ↦ subst (IsSized (slots_at old.attributes q)) (sym (
        ap (bytes_at (after_write old.heap slot at slice)) e ∙ ap bytes_in (get-update_same old.heap.objects slot (put at slice) ∙ ap (option_map (put at slice)) there) ∙ ap (option_map (λ bytes. put_part bytes at slice)) has))
        (subst (IsSized (slots_at old.attributes q)) (ap (bytes_at old.heap) e ∙ ap bytes_in there ∙ has) (is.sized q) ∙ ap C.slots_for (sym (length-put_part bytes at slice inside)))
    | inr d ↦ subst (IsSized (slots_at old.attributes q)) (sym (ap bytes_in (get-update_other old.heap.objects slot (put at slice) q d))) (is.sized q)
  ]

  -- the handles with a slice of an object's bytes replaced
  pub written_handles : (slot at : ℕ) (slice : List ℕ) (o : Object) (bytes : List ℕ) → object_at old.heap slot ≡ Some o → o.bytes ≡ Some bytes → at + length slice ≤ length bytes → All (λ b. b < 256) slice
      → AreHandles (record old { heap = after_touch (after_write old.heap slot at slice) slot })
  written_handles slot at slice o bytes there has inside new_bytes =
      other_handles (after_touch (after_write old.heap slot at slice) slot)
      (M.touched_heap (after_write old.heap slot at slice) (M.written_heap old.heap is.heap slot o there bytes has at slice inside new_bytes) slot) refl refl
      (same_updated old.heap.objects slot (λ o. record o { bytes = option_map (λ bytes. put_part bytes at slice) o.bytes }))
      (written_sized slot at slice o bytes there has inside)

  -- Write to what may be written
  pub data_handles : (selector offset : ℕ) (slice : List ℕ) → All (λ b. b < 256) slice → AreHandles (C.data_write old selector offset slice).1
  data_handles selector offset slice new_bytes = turn (far_fault old selector offset (length slice)) refl
    where
      turn : (f : Option C.FarFault) → far_fault old selector offset (length slice) ≡ f → LeavesFar (elim f [
        | Some fault ↦ (Fault fault, old)
        | None ↦ (Done, record old { heap = after_touch (after_write old.heap (far_slot old selector) (far_at old selector offset) slice) (far_slot old selector) })
      ])
      turn (Some fault) e = is
      turn None e = let r : Reached old (far_slot old selector) (far_at old selector offset + length slice) = reached old selector offset (length slice) e in
          written_handles (far_slot old selector) (far_at old selector offset) slice r.object r.bytes r.there r.has r.fits new_bytes

  -- Write
  pub write_handles : (selector offset : ℕ) (slice : List ℕ) → All (λ b. b < 256) slice → AreHandles (C.far_write old selector offset slice).1
  write_handles selector offset slice new_bytes = turn (C.refuses_write old selector)
    where
      turn : (b : Bool) → AreHandles (cond {A = C.FarAnswer × Handles} b (Fault C.ReadOnly, old) (C.data_write old selector offset slice)).1
      turn true = is
      turn false = data_handles selector offset slice new_bytes
