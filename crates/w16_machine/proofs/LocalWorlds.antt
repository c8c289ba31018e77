-- Each step of each family keeps what holds of local heaps.
use Rattle.w16_machine.proofs
use proofs.Common.{◌≡◌, ◌≢◌, ℕ, ◌<◌, inl, inr, IsSomeAnd, List, length, All, Some, option_map, refl, sym, ap, subst, arith, cases_eq, Heap, Object, object_at, after_write, AreHandles, Table, heap_in, other_handles, same_updated, written_sized, bytes_in, inserted_here, inserted_other}
use proofs.Common.{written_heap, put_part, World, Reply, Word, Done, LocalHeap, AreLocalHeaps, IsLocalIn, AreNamed, Becomes, Acts, segment_bytes, heap_of, new_table, with_table, with_local, LocalStep, DS, longer, with_longer}
use Rattle.w16_model.specs.Commands.{Command}
use Rattle.w16_model.specs.Commands.Family.{OfLocals}
use proofs.LocalFacts.{IsThere, current_there, local_here, heap_here, object_of, segment_after, segment_other}
use proofs.LocalBegins.{begin_law, new_local}
use proofs.LocalNamed.{made_named, roomed_named, stepped_named}
use proofs.LocalOutcomes.{Outcome, outcome}
use proofs.{LocalGrown.grown_there, LocalGrown.grown_world, LocalLeft.IsLocalAt}
use Rattle.std.specs.FinMap as finmap

-- A world with another table of a local heap, over the same bytes or others of its segment.
module _ (old : World) (is : AreLocalHeaps old) where
  -- one table is put in
  locals_put : (new : World) (slot : ℕ) (t : Table) → new.heaps ≡ finmap.insert old.heaps slot t → IsSomeAnd (segment_bytes new slot) (IsLocalIn t) → ((q : ℕ) → q ≢ slot → segment_bytes new q ≡ segment_bytes old q) → (q : ℕ) → IsLocalAt (finmap.get new.heaps q) (segment_bytes new q)
  locals_put new slot t put here others q = subst (λ m. IsLocalAt (finmap.get m q) (segment_bytes new q)) (sym put) (elim (cases_eq q slot) [
    | inl e ↦ subst (λ p. IsLocalAt p (segment_bytes new q)) (sym (inserted_here old.heaps slot t q e)) (subst (λ k. IsSomeAnd (segment_bytes new k) (IsLocalIn t)) (sym e) here)
    | inr d ↦ subst (λ p. IsLocalAt p (segment_bytes new q)) (sym (inserted_other old.heaps slot t q d)) (subst (λ b. IsLocalAt (finmap.get old.heaps q) b) (sym (others q d)) (is.heaps q))
  ])

  tabled_world : (slot : ℕ) (t : Table) → IsSomeAnd (segment_bytes old slot) (IsLocalIn t) → AreLocalHeaps (with_table old slot t)
  tabled_world slot t here = record { handles = is.handles; heaps = locals_put (with_table old slot t) slot t refl here (λ q d. refl) }

  module _ (at : LocalHeap) (there : IsThere old at) where
    becomes_world : (heap : Heap) (new : World) → AreNamed heap → Becomes old at heap new → AreLocalHeaps new
    becomes_world heap new named b = subst AreLocalHeaps (sym b.rest) (tabled_world at.slot b.table (subst (λ p. IsSomeAnd p (IsLocalIn b.table)) (sym there.bytes)
        (b.is_local, omega (arith, b.range.1, (local_here old is at there).1), subst AreNamed (sym b.same) named)))

    -- the global heap with other bytes in the segment
    written : (o : Object) → object_at old.loading.handles.heap at.slot ≡ Some o → o.bytes ≡ Some at.bytes → (bytes : List ℕ) → length bytes ≡ length at.bytes → All (λ b. b < 256) bytes → AreHandles (record old.loading.handles { heap = after_write old.loading.handles.heap at.slot 0 bytes })
    written o has has_bytes bytes long are_bytes = other_handles old.loading.handles is.handles (after_write old.loading.handles.heap at.slot 0 bytes)
        (written_heap old.loading.handles.heap is.handles.heap at.slot o has at.bytes has_bytes 0 bytes (omega (arith, long)) are_bytes) refl refl
        (same_updated old.loading.handles.heap.objects at.slot (λ (o : Object). record o { bytes = option_map (λ old. put_part old 0 bytes) o.bytes }))
        (written_sized old.loading.handles is.handles at.slot 0 bytes o at.bytes has has_bytes (omega (arith, long)))

    acts_world : (P : Heap → Type 0) (new : World) → ((heap : Heap) → P heap → AreNamed heap) → Acts old at P new → AreLocalHeaps new
    acts_world P new named a =
        let o : (o : Object) × (object_at old.loading.handles.heap at.slot ≡ Some o) × (o.bytes ≡ Some at.bytes) = object_of old.loading.handles.heap at.slot at.bytes there.bytes in
        subst AreLocalHeaps (sym a.rest) (record {
          handles = written o.0 o.1 o.2 a.bytes a.long a.are_bytes;
          heaps = locals_put (with_local old at.slot a.table a.bytes) at.slot a.table refl
              (subst (λ p. IsSomeAnd p (IsLocalIn a.table)) (sym (ap bytes_in (segment_after old.loading.handles.heap at.slot o.0 o.1 at.bytes o.2 a.bytes a.long)))
              (a.is_local, omega (arith, a.range.1, a.long, (local_here old is at there).1), named (heap_in a.table a.bytes) a.acted))
              (λ q d. ap bytes_in (segment_other old.loading.handles.heap at.slot a.bytes q d));
        })

-- by what a local call does
pub local_world : (old : World) → AreLocalHeaps old → (command : Command OfLocals) (answer : ℕ) (new : World) → Outcome old command answer new → AreLocalHeaps new
local_world old is command answer new (inl same) = subst AreLocalHeaps (sym same) is
local_world old is command answer new (inr (inl init)) =
    subst AreLocalHeaps (sym init.rest) (tabled_world old is init.begun.slot (new_table _) (new_local old init.selector init.start init.end _ ((begin_law old _ _ _ _).0 init.may)))
local_world old is command answer new (inr (inr (at, c, inl (next, stepped, becomes)))) =
    let there = current_there old at c in
    becomes_world old is at there next new (stepped_named _ (local_here old is at there).2 command next stepped) becomes
local_world old is command answer new (inr (inr (at, c, inr (inl acts)))) =
    let there = current_there old at c in
    acts_world old is at there _ new (λ heap room. roomed_named _ (local_here old is at there).2 (heap_here old is at there) command answer heap room) acts
local_world old is command answer new (inr (inr (at, c, inr (inr g)))) =
    let there = current_there old at c in
    let l = g.grows.lengthens in
    let mine = longer at _ l.bytes in
    let next = with_longer old l.handles mine in
    let now = grown_world old is at there _ _ g.grows.growth.served.longer l in
    let here = grown_there old is at there _ _ g.grows.growth.served.longer l in
    acts_world _ now mine here _ new (λ heap made. made_named (heap_of mine) (local_here _ now mine here).2 (heap_here _ now mine here) (heap_of at) command answer heap made) g.grows.grown

pub local_heaps_kept : (old new : World) (command : Command OfLocals) (reply : Reply) → AreLocalHeaps old → LocalStep old command reply new → AreLocalHeaps new
local_heaps_kept old new (DS selector) Done is step = subst AreLocalHeaps (sym step) (record { handles = is.handles; heaps = is.heaps })
local_heaps_kept old new command (Word answer) is step = local_world old is command answer new (outcome old _ _ new step)
local_heaps_kept old new command reply is step = absurd step
