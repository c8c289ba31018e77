-- What a local call makes of the heap that DS names.
use Rattle.w16_machine.proofs
use proofs.Common as C
use proofs.Common.{◌≡◌, ℕ, inl, inr, Option, Some, None, refl, sym, ap, ◌∙◌, subst, Heap, Table, heap_in, Reply, Word, Done, World, LocalHeap, heap_of, local_in, current_heap, DS, ending, true, local_options}
use Rattle.w16_model.specs.Commands.{Command}
use Rattle.w16_model.specs.Commands.Family.{OfLocals}
use proofs.LocalFacts.{IsThere, current_there, there_local, heap_here, acted_there, became_there}
use proofs.LocalBegins.{begin_law}
use proofs.LocalGrown.{grown_there, grown_world, longer_is}
use proofs.LocalOutcomes.{IsGrown, IsMade, IsRoomed, IsStepped, IsDone, Outcome, grow_asks, outcome}
use Rattle.std.specs.FinMap as finmap

-- the heap that was done something in is the current one
in_place : (P : Heap → Type 0) (new : World) (slot : ℕ) (after mine : LocalHeap) → local_in new slot ≡ Some after → IsThere new mine → mine.slot ≡ slot → P (heap_of mine) → P (heap_of after)
in_place P new slot after mine e now placed holds =
    let both : ◌≡◌ {A = Option LocalHeap} (Some mine) (Some after) = sym (there_local new _ now) ∙ ap (local_in new) placed ∙ e in
    let is_after : mine ≡ after = cc in
    subst (λ h. P (heap_of h)) is_after holds

-- what holds once room is made in the heap, which then ends later, holds where it grew for that
pub grown_becomes : (old : World) → C.AreLocalHeaps old → (at : LocalHeap) → current_heap old ≡ Some at → (command : Command OfLocals) (new : World) (P : Heap → Type 0)
    → ((answer : ℕ) (next : Heap) (end : ℕ) → C.asks_for_room command ≡ true → C.IsHeap (ending (heap_of at) end) → IsMade (heap_of at) (ending (heap_of at) end) command answer next → P next)
    → (answer : ℕ) (after : LocalHeap) → local_in new at.slot ≡ Some after → IsGrown old command answer new at → P (heap_of after)
grown_becomes old is at c command new P made answer after e g =
    let there = current_there old at c in
    let size = g.grows.size in
    let l = g.grows.lengthens in
    let mine = C.longer at size l.bytes in
    let next = C.with_longer old l.handles mine in
    let now = grown_world old is at there _ _ g.grows.growth.served.longer l in
    let here = grown_there old is at there _ _ g.grows.growth.served.longer l in
    let same = longer_is old is at there _ _ g.grows.growth.served.longer l in
    in_place P new _ _ (record { slot = at.slot; table = g.grows.grown.table; bytes = g.grows.grown.bytes }) e (acted_there next new mine (IsMade _ _ _ _) here g.grows.grown) refl
    (made _ _ size (grow_asks command g.may) (subst C.IsHeap same (heap_here _ now mine here))
    (subst (λ heap. IsMade (heap_of at) heap command answer (heap_in g.grows.grown.table g.grows.grown.bytes)) same g.grows.grown.acted))

module _ (old : World) (at : LocalHeap) (c : current_heap old ≡ Some at) (P : Heap → Type 0) (same : P (heap_of at)) where
  here : IsThere old at
  here = current_there old at c

  same_heap : (after : LocalHeap) → ◌≡◌ {A = Option LocalHeap} (Some at) (Some after) → P (heap_of after)
  same_heap after e = let is_after : at ≡ after = cc in subst (λ (h : LocalHeap). P (heap_of h)) is_after same

  taken : ◌≡◌ {A = Option Table} (Some at.table) None → ⊥
  taken e = cc

  module _ (command : Command OfLocals) (answer : ℕ) (stepped : (next : Heap) → IsStepped (heap_of at) command next → P next) (roomed : (next : Heap) → IsRoomed (heap_of at) command answer next → P next)
      (new : World) (grown : (after : LocalHeap) → local_in new at.slot ≡ Some after → IsGrown old command answer new at → P (heap_of after)) where
    done : (after : LocalHeap) → local_in new at.slot ≡ Some after → IsDone old command answer new at → P (heap_of after)
    done after e (inl (next, is, becomes)) =
        in_place P new at.slot after (record { slot = at.slot; table = becomes.table; bytes = at.bytes }) e (became_there old new at next here becomes) refl (subst P (sym becomes.same) (stepped next is))
    done after e (inr (inl acts)) =
        in_place P new at.slot after (record { slot = at.slot; table = acts.table; bytes = acts.bytes }) e (acted_there old new at (IsRoomed (heap_of at) command answer) here acts) refl (roomed (heap_in acts.table acts.bytes) acts.acted)
    done after e (inr (inr g)) = grown after e g

    called : (after : LocalHeap) → local_in new at.slot ≡ Some after → Outcome old command answer new → P (heap_of after)
    called after e (inl stays) = same_heap after (sym (there_local old at here) ∙ ap (λ (w : World). local_in w at.slot) (sym stays) ∙ e)
    called after e (inr (inl init)) = elim (C.cases_eq at.slot init.begun.slot) [
      | inl f ↦ absurd (taken (sym here.table ∙ ap (finmap.get old.heaps) f ∙ ((begin_law old init.selector init.start init.end init.begun).0 init.may).none))
      | inr d ↦ same_heap after (sym (there_local new at (record {
        table = ap (λ (w : World). finmap.get w.heaps at.slot) init.rest ∙ C.inserted_other old.heaps init.begun.slot (C.new_table init.begun.range) at.slot d ∙ here.table;
        bytes = ap (λ (w : World). C.segment_bytes w at.slot) init.rest ∙ here.bytes;
        inside = here.inside;
      })) ∙ e)
    ]
    called after e (inr (inr (by, d, did))) =
        let both : ◌≡◌ {A = Option LocalHeap} (Some by) (Some at) = sym d ∙ c in
        let is_by : by ≡ at = cc in
        done after e (subst (IsDone old command answer new) is_by did)

-- what holds of it before, and after each thing that the call may do in it, holds of what is left
pub current_becomes : (old : World) (at : LocalHeap) → current_heap old ≡ Some at → (command : Command OfLocals) (reply : Reply) (new : World) (P : Heap → Type 0) → P (heap_of at)
    → ((next : Heap) → IsStepped (heap_of at) command next → P next) → ((answer : ℕ) (next : Heap) → IsRoomed (heap_of at) command answer next → P next)
    → ((answer : ℕ) (after : LocalHeap) → local_in new at.slot ≡ Some after → IsGrown old command answer new at → P (heap_of after))
    → (after : LocalHeap) → local_in new at.slot ≡ Some after → C.LocalStep old command reply new → P (heap_of after)
current_becomes old at c (DS selector) Done new P same stepped roomed grown after e step = same_heap old at c P same _ (sym (there_local old at (current_there old at c)) ∙ ap (λ w. local_in w at.slot) (sym step) ∙ e)
current_becomes old at c command (Word answer) new P same stepped roomed grown after e step = called old at c P same command answer stepped (roomed _) new (grown _) _ e (outcome old _ _ new step)
current_becomes old at c command reply new P same stepped roomed grown after e step = absurd step
