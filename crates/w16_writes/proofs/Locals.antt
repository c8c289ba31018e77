-- Local calls: each object of the current heap has bytes before and after that agree; and a local object's bytes are its segment's, from its near
-- pointer on.
use Rattle.w16_machine.proofs as machine
use machine.Common as C
use machine.Common.{◌≡◌, ℕ, ◌+◌, ◌-◌, ◌≤◌, inl, inr, Bool, true, false, cond, ◌&&◌, ◌||◌, IfOk, List, Option, Some, None, Result, Ok, Err, is_some, option_map, refl, sym, ap, ◌∙◌, subst, cases_eq, false≢true, Kind, Refusal, Heap, Object, bytes_at, object_at, bytes_in, is_fixed}
use machine.Common.{with_newest, removed, IsNew, Asked, asked, Block, Entry, Table, heap_in, World, heap_of, Reply, ending}
use machine.LocalCurrent.{current_becomes, grown_becomes}
use machine.LocalFacts.{current_there, heap_here}
use machine.LocalOutcomes.{IsAltered, IsGivenUp, IsMade, IsRoomed, IsStepped}
use Rattle.w16_model.proofs.CallOutcomes.{LockOf, UnlockOf, lock_is, unlock_is}
use Rattle.w16_model.proofs.{Common.slice_get, Tables.place_is}
use Rattle.w16_writes.specs.LastWrite.{byte_in}
use Rattle.w16_writes.proofs.Bytes.{some_such, agree_same, get-range}
use Rattle.w16_writes.proofs.Calls.{HeapsAgree, apart, had_no_object, kept, no_object, none_apart, object_absent, object_resized, same_object}
use Rattle.std.specs.FinMap as finmap
use Rattle.w16_model.specs.declared.Refusal.TheVariants as refusals

-- One object of a heap is changed.
module _ (old : Heap) (id q : ℕ) where
  abbrev Agrees : Heap → Type 0
  Agrees new = HeapsAgree old new q

  if_ok : (b : Bool) (e : Refusal) (r : Result Heap Refusal) → IfOk r Agrees → IfOk (cond b (Err e) r) Agrees
  if_ok true e r f = tt
  if_ok false e r f = f

  -- another object with its bytes is put in its place
  put : (o p : Object) (new : Heap) → object_at old id ≡ Some o → p.bytes ≡ o.bytes → new.objects ≡ finmap.insert old.objects id p → Agrees new
  put o p new there same e = elim (cases_eq q id) [
    | inl here ↦ agree_same (ap (λ m. bytes_in (finmap.get m q)) e ∙ ap bytes_in (C.inserted_here old.objects id p q here) ∙ same ∙ sym (ap (bytes_at old) here ∙ ap bytes_in there))
    | inr d ↦ same_object (ap (λ m. finmap.get m q) e ∙ C.inserted_other old.objects id p q d)
  ]

  modifies : (kind : Kind) → IfOk (C.after_modify old id kind) Agrees
  modifies kind = turn (object_at old id) refl
    where
      changed : Object → Heap
      changed o = C.with_ordered old id (record o { kind = kind }) (λ order. cond (C.is_discardable o.kind && C.is_discardable kind) order (with_newest id (record o { kind = kind }) order))

      turn : (p : Option Object) → object_at old id ≡ p → IfOk (elim p as (λ _. Result Heap Refusal) [ None ↦ Err refusals.Absent | Some o ↦ cond (is_fixed o.kind || is_fixed kind) (Err refusals.Fixed) (Ok (changed o)) ]) Agrees
      turn None e = tt
      turn (Some o) e = if_ok (is_fixed o.kind || is_fixed kind) refusals.Fixed (Ok (changed o)) (put o (record o { kind = kind }) (changed o) e refl refl)

  frees : IfOk (C.after_free old id) Agrees
  frees = turn (object_at old id)
    where
      gone : Agrees (removed old id)
      gone = elim (cases_eq q id) [ inl e ↦ no_object (C.taken_here old.objects id q e) | inr d ↦ same_object (C.taken_other old.objects id q d) ]

      turn : (p : Option Object) → IfOk (elim p as (λ _. Result Heap Refusal) [ None ↦ Ok old | Some o ↦ cond (C.nat_lt 0 o.locks) (Err refusals.Locked) (Ok (removed old id)) ]) Agrees
      turn None = agree_same refl
      turn (Some o) = if_ok (C.nat_lt 0 o.locks) refusals.Locked (Ok (removed old id)) gone

  altered : (new : Heap) → IsAltered old id new → Agrees new
  altered new (inl e) = let l = subst (λ r. IfOk r (LockOf old id)) e (lock_is old id) in put l.0 (record l.0 { locks = l.0.locks + 1 }) new l.1 refl (ap (λ (h : Heap). h.objects) l.5)
  altered new (inr (inl e)) = elim (subst (λ r. IfOk r (UnlockOf old id)) e (unlock_is old id)) [
    | inl same ↦ subst Agrees (sym same) (agree_same refl)
    | inr u ↦ put u.0 (record u.0 { locks = u.0.locks - 1 }) new u.1 refl (ap (λ (h : Heap). h.objects) u.3)
  ]
  altered new (inr (inr (flags, e))) = subst (λ r. IfOk r Agrees) e (modifies (C.moveable_or_discardable flags))

  given_up : (command : C.Command C.OfLocals) (new : Heap) → IsGivenUp old command id new → Agrees new
  given_up command new (inl (may, e)) = subst (λ r. IfOk r Agrees) e frees
  given_up command new (inr e) = subst Agrees (sym (C.discard_absent old new id e)) (object_absent old id q)

-- Room is made.
module _ (old : Heap) (is : C.IsHeap old) (q : ℕ) (new : Heap) where
  allocated : (id n : ℕ) (kind : Kind) (options : C.RoomOptions) → object_at old id ≡ None → C.Allocates old id n kind 0 options true new → HeapsAgree old new q
  allocated id n kind options free a = elim (cases_eq q id) [
    | inl e ↦ had_no_object (ap (object_at old) e ∙ free)
    | inr d ↦
        let what : Asked = record { options = options; prefix = C.discards_needed old n (Some id) options; becomes = IsNew options.zero n kind 0; order = with_newest id } in
        let r = asked old id what new a.request in
        kept q ((C.others_law old new is r.0).0 id options r.2.0 (with_newest id r.2.0) r.2.2) (apart d)
  ]

  compacted : (size answer : ℕ) → C.MakesRoom old size answer new → HeapsAgree old new q
  compacted size answer m = kept q ((C.others_law old new is (C.compaction_prefix old size)).1 m.settled) none_apart

  resized : (id size flags answer : ℕ) → C.ResizesObject old id size flags answer new → HeapsAgree old new q
  resized id size flags answer r =
      let (o, there, k) = some_such (object_at old id) (C.rest_law old new id (C.rounded_up size) (C.local_options flags) is r.resized) in
      elim (cases_eq q id) [ inl e ↦ object_resized _ _ old new id q e there k.object | inr d ↦ kept q k.others (apart d) ]

-- So each call leaves each object of the current heap.
pub local_agrees : (old new : World) → C.AreLocalHeaps old → (command : C.Command C.OfLocals) (reply : Reply) → C.LocalStep old command reply new → (at after : C.LocalHeap) → C.current_heap old ≡ Some at → C.local_in new at.slot ≡ Some after → (q : ℕ) → HeapsAgree (heap_of at) (heap_of after) q
local_agrees old new is command reply step at after c e q =
    current_becomes old at c command reply new Agreed (agree_same refl) stepped roomed
    (grown_becomes old is at c command new Agreed (λ answer next end asks later did. made end later answer next did)) after e step
  where
    Agreed : Heap → Type 0
    Agreed next = HeapsAgree (heap_of at) next q

    stepped : (next : Heap) → IsStepped (heap_of at) command next → Agreed next
    stepped next (inl (id, named, changed)) = altered (heap_of at) id q next changed
    stepped next (inr (flags, size, id, t, enters)) = elim (cases_eq q id) [
      | inl e ↦ had_no_object (ap (object_at (heap_of at)) e ∙ enters.unused)
      | inr d ↦ same_object (ap (λ (h : Heap). object_at h q) enters.entered ∙ C.inserted_other (heap_of at).objects id (record { kind = C.local_kind flags; locks = 0; bytes = None }) q d)
    ]

    -- room is made in it, or in it as it ends later
    made : (end : ℕ) → C.IsHeap (ending (heap_of at) end) → (answer : ℕ) (next : Heap) → IsMade (heap_of at) (ending (heap_of at) end) command answer next → Agreed next
    made end later answer next (inl (flags, size, id, free, did)) = allocated (ending (heap_of at) end) later q next id (C.rounded_up size) (C.local_kind flags) (C.local_options flags) free.free.1 did.allocated
    made end later answer next (inr (inl (size, did))) = compacted (ending (heap_of at) end) later q next size answer did
    made end later answer next (inr (inr (size, flags, id, named, may, did))) = resized (ending (heap_of at) end) later q next id size flags answer did

    roomed : (answer : ℕ) (next : Heap) → IsRoomed (heap_of at) command answer next → Agreed next
    roomed answer next (inl (asks, did)) = made at.table.hi (heap_here old is at (current_there old at c)) answer next did
    roomed answer next (inr (id, named, up)) = given_up (heap_of at) id q command next up

-- A byte of a local object is one of its segment, so far behind the near pointer.
pub segment_byte : (t : Table) → C.IsTable t → (memory : List ℕ) → t.hi ≤ C.length memory → (id offset : ℕ) → is_some (byte_in (bytes_at (heap_in t memory) id) offset) ≡ true
    → (at : ℕ) × (finmap.get (heap_in t memory).places id ≡ Some at) × (byte_in (bytes_at (heap_in t memory) id) offset ≡ slice_get memory (at + offset))
segment_byte t is memory whole id offset some = turn (C.entry_at t id) (C.block_with _ id) (ap bytes_in (C.object_is t is memory whole id) ∙ bytes_are _) (place_is t is memory whole id)
  where
    bytes_of : Option Entry → Option Block → Option (List ℕ)
    bytes_of None b = None
    bytes_of (Some e) b = option_map (λ (x : Block). C.slice_range memory x.at (x.at + x.size)) b

    bytes_are : (p : Option Entry) → bytes_in (option_map (C.object_in t.blocks memory id) p) ≡ bytes_of p (C.block_with t.blocks id)
    bytes_are None = refl
    bytes_are (Some d) = refl

    turn : (p : Option Entry) (b : Option Block) → bytes_at (heap_in t memory) id ≡ bytes_of p b → finmap.get (heap_in t memory).places id ≡ option_map (λ (x : Block). x.at) b
        → (at : ℕ) × (finmap.get (heap_in t memory).places id ≡ Some at) × (byte_in (bytes_at (heap_in t memory) id) offset ≡ slice_get memory (at + offset))
    turn None b e f = absurd (false≢true (sym (ap (λ b. is_some (byte_in b offset)) e) ∙ some))
    turn (Some d) None e f = absurd (false≢true (sym (ap (λ b. is_some (byte_in b offset)) e) ∙ some))
    turn (Some d) (Some x) e f = (x.at, f, ap (λ b. byte_in b offset) e ∙ get-range memory x.at x.size offset (sym (ap (λ b. is_some (byte_in b offset)) e) ∙ some))
