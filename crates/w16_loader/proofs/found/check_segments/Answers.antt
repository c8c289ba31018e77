-- A segment whose check passes leaves the others to decide; one whose check doesn't, decides.
use Rattle.w16_loader.proofs
use proofs.Common.{◌≡◌, ◌+◌, ◌-◌, ◌<◌, ◌≤◌, length, All, All-nil, Some, IsFit, map, option_map, segment_in, refl, sym, ap, subst, ◌∙◌, arith, slice_get, slice_get-map, length-map, take_all}
use proofs.Files.{there, all_sound, sound_next, is_unsound}
use proofs.NameSteps.{fit_more, fits}
use proofs.Tellings.{sound_told, unsound_told}
use Rattle.w16_loader.specs.Devices.{is_fault_device}
use Rattle.w16_loader.proofs.found.check_segments.Goals as goal

pub loop-place-preserved : goal.loop-place-preserved
loop-place-preserved g c = record {
  files = c.in-Ok.ensures.stays.same ∙ c.loop-place.invariant.files;
  failures = omega (arith, c.in-Ok.ensures.stays.counted, c.loop-place.invariant.failures);
  fit =
      let place : c.loop-place.place + 1 - 1 ≡ c.loop-place.place = omega arith in
      let here : slice_get (map segment_in c.args.module_file.now.segments) c.loop-place.place ≡ Some (segment_in c.segment.result) =
      slice_get-map segment_in c.args.module_file.now.segments c.loop-place.place ∙ ap (λ k. option_map segment_in (slice_get c.args.module_file.now.segments k)) (sym place) ∙ ap (option_map segment_in) c.segment.ensures.found in
      fit_more _ _ _ here c.loop-place.invariant.fit (fits c.segment.result c.segment.ensures.sized);
  sound = λ bytes honest has tables.
      let lt : c.loop-place.place < length c.args.module_file.now.segments = omega (arith, c.segment_count-place-end.ensures.count) in
      let s = there _ _ lt in
      let place : c.loop-place.place + 1 - 1 ≡ c.loop-place.place = omega arith in
      let here = ap (λ k. slice_get c.args.module_file.now.segments k) place ∙ s.1 in
      sound_next bytes _ _ s.0 s.1 (c.loop-place.invariant.sound bytes honest has tables) c.check.new.scratch.held
      (c.in-Ok.ensures.exact bytes s.0 honest (rw c.loop-place.invariant.files has) tables here);
}

pub loop-place-init : goal.loop-place-init
loop-place-init g c = record { files = refl; failures = omega arith; fit = All-nil IsFit; sound = λ bytes honest has tables. refl }

pub returns-clause-checked : goal.returns-clause-checked
returns-clause-checked g c = λ says. (
  says,
  sound_told _ _ _ c.args.module_file.now says (λ bytes honest has tables.
      let past : length c.args.module_file.now.segments ≤ c.loop-place.place = omega (arith, c.segment_count-place-end.ensures.count) in
      all_sound bytes _ _ past
      (c.loop-place.invariant.sound bytes honest has tables)),
  (let past : length (map segment_in c.args.module_file.now.segments) ≤ c.loop-place.place = omega
      (arith, c.segment_count-place-end.ensures.count, length-map c.args.module_file.now.segments segment_in) in
      subst (All IsFit) (take_all _ _ past) c.loop-place.invariant.fit),
)

pub returns-in-Err-clause-checked : goal.returns-in-Err-clause-checked
returns-in-Err-clause-checked g c = λ says.
    unsound_told g.S.Store.is_honest (g.S.Store.files _) c.args.name.now c.args.module_file.now says _ _ c.fault_of_relocations.result c.fault_of_relocations.ensures.refuses (λ bytes honest has tables.
    let lt : c.loop-place.place < length c.args.module_file.now.segments = omega (arith, c.segment_count-place-end.ensures.count) in
    let s = there c.args.module_file.now.segments c.loop-place.place lt in
    let place : c.loop-place.place + 1 - 1 ≡ c.loop-place.place = omega arith in
    let here = ap (λ k. slice_get c.args.module_file.now.segments k) place ∙ s.1 in
    rw c.fault_of_relocations.ensures.fault
    (is_unsound bytes c.args.module_file.now c.loop-place.place s.0 s.1 (c.loop-place.invariant.sound bytes honest has tables) _ _ _ c.in-Err.fault c.loop-place.invariant.failures
    (c.in-Err.ensures.exact bytes s.0 honest (rw c.loop-place.invariant.files has) tables here)))
    (λ e. let rose = c.in-Err.ensures.device (sym c.fault_of_relocations.ensures.device ∙ ap is_fault_device e) in omega (arith, rose, c.loop-place.invariant.failures))
