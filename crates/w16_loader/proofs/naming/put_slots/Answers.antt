-- A segment more has its object, or those before it lose theirs.
use Rattle.w16_loader.proofs
use proofs.Common as C
use proofs.Common.{◌≡◌, ◌+◌, ◌-◌, ◌<◌, ◌≤◌, Some, All, length, map, zip, take, sym, ap, ◌∙◌, subst, arith, length-map, take_all, segment_in, with_handles, IsFit, Takes}
use proofs.NameSteps.{slot_more, few_more, fit_more, fits, all_back, too_few, same_global}
use Rattle.w16_loader.proofs.naming.put_slots.Goals as goal

pub loop-i-preserved : goal.loop-i-preserved
loop-i-preserved g c =
    let lt : c.loop-i.i < length c.loop-i.slots = omega arith in
    let place : c.loop-i.i + 1 - 1 ≡ c.loop-i.i = omega arith in
    let here : C.slice_get (map segment_in c.args.module_file.now.segments) c.loop-i.i ≡ Some (segment_in c.segment.result) =
    C.slice_get-map segment_in c.args.module_file.now.segments c.loop-i.i ∙ ap (λ k. C.option_map segment_in (C.slice_get c.args.module_file.now.segments k)) (sym place) ∙ ap (C.option_map segment_in) c.segment.ensures.found in
    record {
      taken = λ rest. slot_more _ _ _ _ _ _ (with_handles rest _)
          _ lt here (c.loop-i.invariant.taken rest) c.in-Some.ensures.free (c.in-Some.ensures.taken rest);
      few = few_more _ _ _ lt c.loop-i.invariant.few c.in-Some.ensures.few;
      fit = fit_more _ _ _ here c.loop-i.invariant.fit (fits c.segment.result c.segment.ensures.sized);
      written = c.take_slot.ensures.written ∙ c.loop-i.invariant.written;
    }

pub returns-in-None-clause-same : goal.returns-in-None-clause-same
returns-in-None-clause-same g c = λ f.
    let lt : c.loop-i.i < length c.loop-i.slots = omega arith in
    let some = C.length-take-le c.loop-i.i c.loop-i.slots (omega (arith, lt)) in
    let many = length-map c.args.module_file.now.segments segment_in in
    same_global _ _
    (all_back _ c.loop-i.global.handles _ (take _ _) (map _ _) c.reveal_handles.ensures (omega (arith, some, many)) c.loop-i.invariant.taken
    (λ rest. c.release_slots.ensures.gone rest ∙ ap (λ x. C.without_objects (λ q. C.is_member q (take c.loop-i.i c.loop-i.slots)) (with_handles rest x.handles)) c.in-None.ensures.none.1))
    (c.release_slots.ensures.written ∙ c.take_slot.ensures.written ∙ c.loop-i.invariant.written)

pub returns-in-None-clause-no_slot : goal.returns-in-None-clause-no_slot
returns-in-None-clause-no_slot g c = λ f.
    let lt : c.loop-i.i < length c.loop-i.slots = omega arith in
    let some = C.length-take-le c.loop-i.i c.loop-i.slots (omega (arith, lt)) in
    let many = length-map _ segment_in in
    subst (λ n. length (C.free_slots c.args.global.now.handles) < n) many
    (too_few c.args.global.now.handles c.loop-i.global.handles (take _ _) _ (omega (arith, some, many)) c.loop-i.invariant.taken c.in-None.ensures.none.0)

pub returns-clause-taken : goal.returns-clause-taken
returns-clause-taken g c = λ t rest.
    let all : length c.loop-i.slots ≤ c.loop-i.i = omega arith in
    subst (λ ss. Takes (with_handles rest c.args.global.now.handles) (zip ss (map segment_in c.args.module_file.now.segments)) (with_handles rest c.loop-i.global.handles)) (take_all _ _ all) (c.loop-i.invariant.taken rest)

pub returns-clause-few : goal.returns-clause-few
returns-clause-few g c = λ t.
    let all : length c.loop-i.slots ≤ c.loop-i.i = omega arith in
    subst (All (λ q. q < 8192)) (take_all _ _ all) c.loop-i.invariant.few

pub returns-clause-fit : goal.returns-clause-fit
returns-clause-fit g c = λ t.
    let many = length-map c.args.module_file.now.segments segment_in in
    let all : length (map segment_in c.args.module_file.now.segments) ≤ c.loop-i.i = omega arith in
    subst (All IsFit) (take_all _ _ all) c.loop-i.invariant.fit
