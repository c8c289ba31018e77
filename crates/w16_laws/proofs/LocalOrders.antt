-- What a local call leaves of the order of use.
use Rattle.w16_machine.proofs
use proofs.Common as C
use proofs.Common.{◌≡◌, ℕ, inl, inr, Bool, true, false, cond, nat_lt, IfOk, Option, Some, None, Result, Ok, Err, refl, ap, subst, Kind, Refusal, Heap, Object, IsHeap, object_at, is_discardable, without, absent, Asked, IsNew, OnlyLeave, stays, rounded_up, local_options, ending}
use Rattle.w16_laws.proofs.{CallLaws.same, CallLaws.resized}
use Rattle.w16_model.specs.Reallocation.{KeepsRest}
use Rattle.w16_model.proofs.Reallocations.{asked as request_of}
use Rattle.w16_laws.specs.{CallLaws.OthersStand, LocalHeaps.OrderLaw}
use proofs.LocalFacts.{current_there, local_here, heap_here}
use proofs.LocalCurrent.{current_becomes, grown_becomes}
use proofs.LocalOutcomes.{IsGivenUp, IsMade, IsNamedIn, IsRoomed, IsStepped}
use proofs.{LocalNames.names_law, LocalOthers.altered_is}
use Rattle.w16_model.specs.declared.Refusal.TheVariants as refusals

module _ (old : Heap) where
  -- the others stand as they did
  abbrev Rest : ℕ → Heap → Type 0
  Rest id new = without id new.order ≡ without id old.order

  if_ok : (id : ℕ) (b : Bool) (r s : Result Heap Refusal) → IfOk r (Rest id) → IfOk s (Rest id) → IfOk (cond b r s) (Rest id)
  if_ok id true r s f g = f
  if_ok id false r s f g = g

  free_rest : (id : ℕ) → IfOk (C.after_free old id) (Rest id)
  free_rest id = turn (object_at old id)
    where
      turn : (p : Option Object) → IfOk (elim p as (λ _. Result Heap Refusal) [ None ↦ Ok old | Some o ↦ cond (nat_lt 0 o.locks) (Err refusals.Locked) (Ok (C.removed old id)) ]) (Rest id)
      turn None = refl
      turn (Some o) = if_ok id (nat_lt 0 o.locks) (Err refusals.Locked) (Ok (C.removed old id)) tt (C.twice_out id old.order)

  discard_rest : (id : ℕ) → IfOk (C.after_discard old id) (Rest id)
  discard_rest id = turn (object_at old id)
    where
      turn : (p : Option Object) → IfOk (elim p as (λ _. Result Heap Refusal) [
        | None ↦ Err refusals.NotDiscardable
        | Some o ↦ cond (nat_lt 0 o.locks) (Err refusals.Locked) (cond (is_discardable o.kind) (Ok (absent old id)) (Err refusals.NotDiscardable))
      ]) (Rest id)
      turn None = tt
      turn (Some o) =
          if_ok id (nat_lt 0 o.locks) (Err refusals.Locked) (cond (is_discardable o.kind) (Ok (absent old id)) (Err refusals.NotDiscardable)) tt
          (if_ok id (is_discardable o.kind) (Ok (absent old id)) (Err refusals.NotDiscardable) (C.twice_out id old.order) tt)

  given_up_rest : (command : C.Command C.OfLocals) (id : ℕ) (new : Heap) → IsGivenUp old command id new → Rest id new
  given_up_rest command id new (inl e) = subst (λ r. IfOk r (Rest id)) e.1 (free_rest id)
  given_up_rest command id new (inr e) = subst (λ r. IfOk r (Rest id)) e (discard_rest id)

  -- the steps that make room
  module _ (is : IsHeap old) (new : Heap) where
    allocated_order : (id n : ℕ) (kind : Kind) (options : C.RoomOptions) → C.Allocates old id n kind 0 options true new → OnlyLeave new (without id old.order) (without id new.order)
    allocated_order id n kind options a =
        let what : Asked = record { options = options; prefix = C.discards_needed old n (Some id) options; becomes = IsNew options.zero n kind 0; order = C.with_newest id } in
        let r : (k : ℕ) × (what.prefix ≡ Some k) × ((p : Object) × what.becomes p × C.Settles old (C.stays_for id what.options) (C.with_ordered (C.discarded old k (Some id)) id p (what.order p)) new) = request_of old id what new a.request in
        C.allocated old new is id r.0 options r.2.0 r.2.2

    resized_order : (id size flags answer : ℕ) → C.ResizesObject old id size flags answer new → OnlyLeave new (without id old.order) (without id new.order)
    resized_order id size flags answer r = turn (object_at old id) (C.rest_law old new id (rounded_up size) (local_options flags) is r.resized)
      where
        turn : (p : Option Object) → C.IsSomeAnd p (λ o. KeepsRest old id (rounded_up size) o (local_options flags) new) → OnlyLeave new (without id old.order) (without id new.order)
        turn None h = absurd h
        turn (Some o) h = resized old new id (rounded_up size) o (local_options flags) h

pub local_order_law : OrderLaw
local_order_law old new command reply at after is step c e =
    current_becomes old at c command reply new Stand (inl (same heap heap refl)) stepped roomed (grown_becomes old is at c command new Stand (λ answer next end asks is_later made. made_order end is_later answer next made)) after e step
  where
    heap : Heap
    heap = C.heap_of at

    is_heap : IsHeap heap
    is_heap = heap_here old is at (current_there old at c)

    Stand : Heap → Type 0
    Stand next = OthersStand (C.IsNamedBy command heap) (λ id. id) heap next

    named_by_call : (id : ℕ) → IsNamedIn heap command id → C.IsNamedBy command heap id
    named_by_call id n = (n.name, n.asked, (names_law heap n.name id is_heap (local_here old is at (current_there old at c)).0.grain).0.0 n.has)

    of_named : (id : ℕ) → IsNamedIn heap command id → (next : Heap) → without id next.order ≡ without id heap.order → Stand next
    of_named id n next rest = inr (id, inl (named_by_call id n), stays heap next (without id heap.order) (without id next.order) rest)

    stepped : (next : Heap) → IsStepped heap command next → Stand next
    stepped next (inl (id, n, altered)) = altered_is heap id Stand (inl (same heap heap refl)) (λ new p put places rest. of_named id n new rest) next altered
    stepped next (inr (flags, size, id, t, enters)) = inl (same heap next (ap (λ h. h.order) enters.entered))

    -- room is made in it, or in it as it ends later
    made_order : (end : ℕ) → IsHeap (ending heap end) → (answer : ℕ) (next : Heap) → IsMade heap (ending heap end) command answer next → Stand next
    made_order end is_later answer next (inl (flags, size, id, free, made)) = inr (id, inr free.free.1, allocated_order (ending heap end) is_later next id (rounded_up size) (C.local_kind flags) (local_options flags) made.allocated)
    made_order end is_later answer next (inr (inl (size, made))) = inl (C.compacted (ending heap end) next is_later (C.compaction_prefix (ending heap end) size) made.settled)
    made_order end is_later answer next (inr (inr (size, flags, id, n, may, made))) = inr (id, inl (named_by_call id n), resized_order (ending heap end) is_later next id size flags answer made)

    roomed : (answer : ℕ) (next : Heap) → IsRoomed heap command answer next → Stand next
    roomed answer next (inl (asks, made)) = made_order heap.hi is_heap answer next made
    roomed answer next (inr (id, n, up)) = of_named id n next (given_up_rest heap command id next up)
