-- What each step spares, and so each step of a run.
use Rattle.w16_machine.proofs
use proofs.Common.{◌≡◌, ◌≢◌, ℕ, ◌⊎◌, inl, inr, true, List, Option, Some, None, IsSomeAnd, option_map, refl, sym, ap, ◌∙◌, subst, cases_Bool, cases_eq, Object, object_at, is_pinned_object, StandsStill, Table, bytes_in, Command, Format, Reply, Word, Done, bystanders_law, pinned_law}
use proofs.Common.{World, IsWorld, LocalHeap, heap_of, local_in, current_heap, segment_bytes, LocalStep, DS, HasSameObjects, IsHeapKept, IsLocalKept, IsObjectKept, IsRewritten, KeepsRest, asks_for_room, but_bytes, may_move_named, LoadingStep, OfLocals, IsLocalAbout}
use Rattle.w16_model.specs.Commands.{Command}
use Rattle.w16_loading.specs.Families.{AnyCommand}
use Rattle.w16_model.specs.Commands.Family.{OfLocals}
use proofs.Common.{IsLocalSpared, StepSparesLaw, ◌<◌, is_some, bytes_at, Discardable, IsHeapLeft, IsLeftByGrowth, IsLengthened, KeepsRestLonger, length}
use proofs.LocalFacts.{IsThere, current_there, local_there, object_of, there_local, found}
use proofs.LocalOthers.{local_others_law, local_pinned_law, stands_same}
use proofs.LocalOutcomes.{Outcome, outcome}
use proofs.{LocalFar.same_heaps, LocalFrame.frame_law, LocalGoes.goes_law, LocalGoes.left_inside, LocalLeft.left_is, LocalLonger.leaves_longer}
use Rattle.w16_machine.specs.Bystanders.{IsSpared, KeepsDS}
use Rattle.std.specs.FinMap as finmap
use Rattle.w16_loading.specs.Families.AnyCommand.{any}

-- DS.
outcome_ds : (old new : World) (command : Command OfLocals) (answer : ℕ) → Outcome old command answer new → new.ds ≡ old.ds
outcome_ds old new command answer (inl same) = ap (λ w. w.ds) same
outcome_ds old new command answer (inr (inl init)) = ap (λ w. w.ds) init.rest
outcome_ds old new command answer (inr (inr (at, c, inl (next, stepped, becomes)))) = ap (λ w. w.ds) becomes.rest
outcome_ds old new command answer (inr (inr (at, c, inr (inl acts)))) = ap (λ w. w.ds) acts.rest
outcome_ds old new command answer (inr (inr (at, c, inr (inr g)))) = ap (λ w. w.ds) g.grows.grown.rest

local_ds : (old new : World) (command : Command OfLocals) (reply : Reply) → LocalStep old command reply new → KeepsDS old (any OfLocals command) new
local_ds old new (DS selector) Done step other = absurd (other _ refl)
local_ds old new command (Word answer) step other = outcome_ds old new command answer (outcome old _ _ new step)
local_ds old new command reply step other = absurd step

-- A step of loading leaves each local heap that stays its table.
module _ (honest : Type 0) (format : Format) (old new : World) (command : AnyCommand) (reply : Reply) (is : IsWorld old) (step : LoadingStep honest format old command reply new) (slot : ℕ) (at after : LocalHeap) (e : local_in old slot ≡ Some at) (f : local_in new slot ≡ Some after) where
  same_table : after.table ≡ at.table
  same_table =
      let was : IsThere old at × (at.slot ≡ slot) = local_there old slot at e in
      let now : IsThere new after × (after.slot ≡ slot) = local_there new slot after f in
      let both : ◌≡◌ {A = Option Table} (Some after.table) (Some at.table) = sym ((goes_law honest format old new command reply step after.slot after.table).0 now.0.table).0 ∙ ap (finmap.get old.heaps) (now.1 ∙ sym was.1) ∙ was.0.table in
      cc

  stays_same : HasSameObjects (heap_of at) (heap_of after)
  stays_same = same_heaps old new is.heaps at after (local_there old slot at e).0 (local_there new slot after f).0 same_table

-- A local call, and a local heap that stays.
module _ (old new : World) (command : Command OfLocals) (reply : Reply) (is : IsWorld old) (step : LocalStep old command reply new) (slot : ℕ) (at after : LocalHeap) (e : local_in old slot ≡ Some at) (f : local_in new slot ≡ Some after) where
  frame : KeepsRest old new ⊎ KeepsRestLonger old command new
  frame = frame_law old new command reply is.heaps step

  -- it is the current heap, or another's segment has it
  abbrev IsOther : Type 0
  IsOther = (c : LocalHeap) → current_heap old ≡ Some c → c.slot ≢ slot

  current_or_other : (current_heap old ≡ Some at) ⊎ IsOther
  current_or_other = turn (current_heap old) refl
    where
      turn : (p : Option LocalHeap) → current_heap old ≡ p → (current_heap old ≡ Some at) ⊎ IsOther
      turn None d = inr (λ c g. let never : ◌≡◌ {A = Option LocalHeap} None (Some c) = sym d ∙ g in cc)
      turn (Some c) d = elim (cases_eq c.slot slot) [
        | inl s ↦ inl (d ∙ sym (there_local old c (current_there old c d)) ∙ ap (local_in old) s ∙ e)
        | inr s ↦ inr (λ b g. let both : ◌≡◌ {A = Option LocalHeap} (Some c) (Some b) = sym d ∙ g in let same : c ≡ b = cc in subst (λ (h : LocalHeap). h.slot ≢ slot) same s)
      ]

  -- what only the current heap may be
  not_current : IsOther → (P : LocalHeap → Type 0) → IsSomeAnd (current_heap old) (λ c. (c.slot ≡ slot) × P c) → ⊥
  not_current other P = turn (current_heap old) refl
    where
      turn : (p : Option LocalHeap) → current_heap old ≡ p → IsSomeAnd p (λ c. (c.slot ≡ slot) × P c) → ⊥
      turn None d h = absurd h
      turn (Some c) d h = other c d h.0

  -- another is as it was
  pub other_same : IsOther → after ≡ at
  other_same other =
      let both : ◌≡◌ {A = Option LocalHeap} (Some after) (Some at) = sym f ∙ ap (λ t. found slot t (segment_bytes new slot)) (tables frame) ∙ ap (found slot (finmap.get old.heaps slot)) (bytes frame) ∙ e in
      cc
    where
      was : IsThere old at × (at.slot ≡ slot)
      was = local_there old slot at e

      now : IsThere new after × (after.slot ≡ slot)
      now = local_there new slot after f

      had : finmap.get old.heaps slot ≡ Some at.table
      had = ap (finmap.get old.heaps) (sym was.1) ∙ was.0.table

      kept_table : IsHeapKept old new slot → finmap.get new.heaps slot ≡ finmap.get old.heaps slot
      kept_table (inl same) = same
      kept_table (inr (inl none)) = let never : ◌≡◌ {A = Option Table} (Some at.table) None = sym had ∙ none.0 in cc
      kept_table (inr (inr h)) = absurd (not_current other (λ c. IsSomeAnd (finmap.get new.heaps slot) (λ (t : Table). (t.lo ≡ c.table.lo) × (t.hi ≡ c.table.hi))) h)

      -- it isn't gone
      left_table : IsHeapLeft old new slot → finmap.get new.heaps slot ≡ finmap.get old.heaps slot
      left_table (inl left) =
          let has : finmap.get new.heaps slot ≡ Some after.table = ap (finmap.get new.heaps) (sym now.1) ∙ now.0.table in
          has ∙ sym (left_inside (finmap.get old.heaps slot) (bytes_at new.loading.handles.heap slot) after.table (sym (left_is new.loading.handles.heap old.heaps slot) ∙ sym left ∙ has)).0
      left_table (inr h) = absurd (not_current other (λ c. IsSomeAnd (finmap.get new.heaps slot) (λ (t : Table). (t.lo ≡ c.table.lo) × (c.table.hi < t.hi) × IsSomeAnd (segment_bytes new slot) (λ bytes. t.hi ≡ length bytes))) h)

      tables : KeepsRest old new ⊎ KeepsRestLonger old command new → finmap.get new.heaps slot ≡ finmap.get old.heaps slot
      tables (inl k) = kept_table (k.heaps slot)
      tables (inr r) = left_table ((leaves_longer old new command is.heaps r).heaps slot)

      kept_bytes : IsObjectKept old new slot → segment_bytes new slot ≡ segment_bytes old slot
      kept_bytes (inl same) = ap bytes_in same
      kept_bytes (inr h) = absurd (not_current other (λ c. IsSomeAnd (object_at old.loading.handles.heap slot) (λ before. IsSomeAnd (object_at new.loading.handles.heap slot) (IsRewritten c before))) h)

      -- its segment has bytes, and lost none
      lost : (p : Option Object) → IsSomeAnd p (λ o. (o.kind ≡ Discardable) × (o.locks ≡ 0) × (is_some o.bytes ≡ true) × (object_at new.loading.handles.heap slot ≡ Some (record o { bytes = None }))) → ⊥
      lost None h = h
      lost (Some o) h = let never : ◌≡◌ {A = Option (List ℕ)} (Some after.bytes) None = sym now.0.bytes ∙ ap (segment_bytes new) now.1 ∙ ap bytes_in h.3 in cc

      left_bytes : IsLeftByGrowth old new slot → segment_bytes new slot ≡ segment_bytes old slot
      left_bytes (inl (inl same)) = ap bytes_in same
      left_bytes (inl (inr gone)) = absurd (lost (object_at old.loading.handles.heap slot) gone)
      left_bytes (inr h) = absurd (not_current other (λ c. IsSomeAnd (object_at old.loading.handles.heap slot) (λ before. IsSomeAnd (object_at new.loading.handles.heap slot) (IsLengthened c before))) h)

      there_before : is_some (object_at old.loading.handles.heap slot) ≡ true
      there_before = let o : (o : Object) × (object_at old.loading.handles.heap at.slot ≡ Some o) × (o.bytes ≡ Some at.bytes) = object_of old.loading.handles.heap at.slot at.bytes was.0.bytes in
          ap is_some (ap (object_at old.loading.handles.heap) (sym was.1) ∙ o.1)

      bytes : KeepsRest old new ⊎ KeepsRestLonger old command new → segment_bytes new slot ≡ segment_bytes old slot
      bytes (inl k) = kept_bytes (k.objects slot)
      bytes (inr r) = left_bytes ((leaves_longer old new command is.heaps r).objects slot there_before)

  chosen_after : local_in new at.slot ≡ Some after
  chosen_after = ap (local_in new) (local_there old slot at e).1 ∙ f

  module _ (q : ℕ) (o : Object) (there : object_at (heap_of at) q ≡ Some o) where
    local_spared : (IsLocalAbout old (any OfLocals command) at q → ⊥) → IsLocalSpared old (any OfLocals command) at after q o
    local_spared other = elim current_or_other [
      | inl c ↦ by_room c (local_others_law old new command reply at after q o is.heaps step c chosen_after there (λ name asked named. other (c, (name, asked, named))))
      | inr d ↦ inl (ap (λ (h : LocalHeap). option_map but_bytes (object_at (heap_of h) q)) (other_same d) ∙ ap (option_map but_bytes) there)
    ]
      where
        by_room : current_heap old ≡ Some at → IsLocalKept (asks_for_room command) (heap_of at) (heap_of after) q o → IsLocalSpared old (any OfLocals command) at after q o
        by_room c kept = elim (cases_Bool (asks_for_room command)) [
          | inl asks ↦ elim kept.object [
            | inl same ↦ inl (ap (option_map but_bytes) same)
            | inr gone ↦ inr (c, asks, gone.0, gone.1, gone.2)
          ]
          | inr asks ↦ inl (ap (option_map but_bytes) (kept.still asks).0)
        ]

    local_stands : is_pinned_object o ≡ true → (may_move_named command ≡ true → IsLocalAbout old (any OfLocals command) at q → ⊥) → StandsStill (heap_of at) (heap_of after) q
    local_stands pinned unmoved = elim current_or_other [
      | inl c ↦ local_pinned_law old new command reply at after q o is.heaps step c chosen_after there pinned (λ may name asked named. unmoved may (c, (name, asked, named)))
      | inr d ↦ stands_same (heap_of at) (heap_of after) q (ap (λ (h : LocalHeap). finmap.get (heap_of h).places q) (other_same d))
    ]

-- what a local call spares of the global heap
module _ (old new : World) (command : Command OfLocals) (is : IsWorld old) (q : ℕ) where
  object_spared : is_some (object_at old.loading.handles.heap q) ≡ true → KeepsRest old new ⊎ KeepsRestLonger old command new → IsSpared old (any OfLocals command) new q
  object_spared there (inl k) = inl (k.objects q)
  object_spared there (inr r) = inr (r.may, (leaves_longer old new command is.heaps r).objects q there)

  object_stands : IsSomeAnd (object_at old.loading.handles.heap q) (λ o. is_pinned_object o ≡ true) → KeepsRest old new ⊎ KeepsRestLonger old command new → StandsStill old.loading.handles.heap new.loading.handles.heap q
  object_stands pinned (inl k) = stands_same old.loading.handles.heap new.loading.handles.heap q (ap (λ h. finmap.get h.heap.places q) k.handles)
  object_stands pinned (inr r) = (leaves_longer old new command is.heaps r).pinned q pinned

pub step_spares_law : (honest : Type 0) → StepSparesLaw honest
step_spares_law honest format old new (any OfLocals command) reply is step = record {
  ds = λ other. local_ds old new command reply step other;
  bytes = record {
    objects = λ q there other. object_spared old new command is q there (frame_law old new command reply is.heaps step);
    local_objects = λ slot at after q o e f there other. local_spared old new command reply is step slot at after e f q o there other;
  };
  addresses = record {
    objects = λ q pinned unmoved. inl (object_stands old new command is q pinned (frame_law old new command reply is.heaps step));
    local_objects = λ slot at after q o e f there pinned unmoved. local_stands old new command reply is step slot at after e f q o there pinned unmoved;
  };
}
step_spares_law honest format old new command reply is step = record {
  ds = λ other. ap (λ w. w.ds) step.1;
  bytes = record {
    objects = λ q there other. bystanders_law honest format _ _ command reply q is.loading step.0 there other;
    local_objects = λ slot at after q o e f there other. inl ((stays_same honest format old new command reply is step slot at after e f).objects q ∙ ap (option_map _) there);
  };
  addresses = record {
    objects = λ q pinned unmoved. pinned_law honest format _ _ command reply q is.loading step.0 pinned unmoved;
    local_objects = λ slot at after q o e f there pinned unmoved. stands_same (heap_of at) (heap_of after) q (ap (λ h. finmap.get h.places q) (stays_same honest format old new command reply is step slot at after e f).rest);
  };
}
