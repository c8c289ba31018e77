use Rattle.w16_reloc.proofs
use proofs.Common.{◌≡◌, ◌-◌, Some, Option, sym, arith, err_from_is_err_and, Segment, checked}
use proofs.Refusals.{fails_on, never, ok_same, checked_told}
use proofs.ImportedNames.{answers_told, sound_passed, texts_told}
use proofs.FileLemmas.{module_lies}
use Rattle.w16_reloc.proofs.scratch.check.Goals as goal

some_same : (x y : Segment) (o : Option Segment) → o ≡ Some x → o ≡ Some y → x ≡ y
some_same x y o a b = cc

pub returns-in_err-count-clause-exact : goal.returns-in_err-count-clause-exact
returns-in_err-count-clause-exact g c = λ file s honest has tables found.
    let p = err_from_is_err_and c.from_residual.result c.from_residual.ensures.1 in
    let lies = module_lies file c.args.module_file.now (c.args.segment - 1) c.segment-found.result tables c.segment-found.ensures.found in
    let said = c.in_err-count.ensures.exact file honest has lies in
    rw (p.1, p.2) (fails_on _ _ _ c.in_err-count.field-0.0 _ (checked file c.args.module_file.now s) (omega arith) said (never _ _ _))

pub returns-in_err-read_names-clause-exact : goal.returns-in_err-read_names-clause-exact
returns-in_err-read_names-clause-exact g c = λ file s honest has tables found.
    let p = err_from_is_err_and c.from_residual-in_err-read_names.result c.from_residual-in_err-read_names.ensures.1 in
    let said = c.in_err-read_names.ensures.exact file honest (rw c.in_ok-count.ensures.stays.same has) in
    rw (p.1, p.2) (fails_on _ _ _ c.in_err-read_names.field-0.0 _ (checked file c.args.module_file.now s) (omega (arith, c.in_ok-count.ensures.stays.counted)) said (never _ _ _))

pub returns-clause-sound : goal.returns-clause-sound
returns-clause-sound g c =
    let passed = c.check_records.ensures.exact (rw c.as_mut_slice.ensures.value c.clear_marks.ensures.clear) in
    sound_passed c.check_records.result _ _ _ _ _ _ _ (rw (c.segment_count.ensures.count, c.reference_count.ensures, c.as_slice-5.ensures.value, c.as_slice-6.ensures.value) at passed)

pub returns-clause-exact : goal.returns-clause-exact
returns-clause-exact g c = λ file s honest has tables found.
    let failures = g.S.Store.failures c.read_names.new.store in let counted = c.in_ok-count.ensures in let texts = c.in_ok-read_names.ensures in
    let same = some_same c.segment-found.result s _ c.segment-found.ensures.found found in
    let lies = module_lies file c.args.module_file.now (c.args.segment - 1) c.segment-found.result tables c.segment-found.ensures.found in
    let many = ok_same _ _ (counted.exact file honest has lies) in
    let held = counted.held file honest has lies in
    let said = c.check_records.ensures.exact (rw c.as_mut_slice.ensures.value c.clear_marks.ensures.clear) in
    let passed = rw (c.segment_count.ensures.count, c.reference_count.ensures, c.as_slice-4.ensures.value, c.as_slice-5.ensures.value, c.as_slice-6.ensures.value) at said in
    let names = rw c.as_slice.ensures.value at texts.exact file honest (rw counted.stays.same has) in
    let offered = answers_told file c.args.module_file.now _ _ _ names (rw c.as_slice-2.ensures.value at c.reveal_bytes.ensures) (rw c.as_slice-3.ensures.value at c.reveal_bytes-2.ensures) c.check_records.result failures failures _ _ c.check_records.ensures.own passed in
    rw (← same) (checked_told file c.args.module_file.now c.segment-found.result c.check_records.result _ _ _ _ _ _ _
    (omega (arith, counted.stays.counted, texts.stays.counted)) held.0 held.1 (sym many) offered)

pub returns-clause-names : goal.returns-clause-names
returns-clause-names g c = λ file honest has.
    let said = c.check_records.ensures.exact (rw c.as_mut_slice.ensures.value c.clear_marks.ensures.clear) in
    let passed = rw (c.segment_count.ensures.count, c.reference_count.ensures, c.as_slice-4.ensures.value, c.as_slice-5.ensures.value, c.as_slice-6.ensures.value) at said in
    let names = rw c.as_slice.ensures.value at c.in_ok-read_names.ensures.exact file honest (rw c.in_ok-count.ensures.stays.same has) in
    texts_told file c.args.module_file.now _ _ _ names (rw c.as_slice-2.ensures.value at c.reveal_bytes.ensures) (rw c.as_slice-3.ensures.value at c.reveal_bytes-2.ensures) c.check_records.result _ _ passed
