-- A segment that passes its check has the records that its file says.
use Rattle.w16_loader.proofs.Common.{◌≡◌, ◌-◌, length, map, sym, ap, ◌∙◌, arith, length-map, segment_in}
use Rattle.w16_loader.proofs.Values.{found, segment_refused, stored_as, stored_there, targets_alike, targets_are}
use Rattle.w16_ne.specs.{Modules.Tables, Texts.text_in}
use Rattle.w16_format.specs.Data.{record_target}
use Rattle.w16_loader.proofs.binding.segment_values.Goals as goal

pub check-requires-clause-last : goal.check-requires-clause-last
check-requires-clause-last g c =
    let many : length c.module.result.now.segments ≡ length c.args.loaded.now.tables.segments =
    sym (length-map _ _) ∙ ap (λ u. length u.segments) c.module.ensures in
    omega (arith, many, c.requires.last)

pub returns-in-Err-clause-failed : goal.returns-in-Err-clause-failed
returns-in-Err-clause-failed g c = λ read s honest is at.
    let files = g.S.Store.files _ in
    let m = c.args.loaded.now in
    let t = c.module.result.now in
    let stored = stored_as files m read is t c.module.ensures in
    rw c.fault_of_relocations.ensures.fault
    (segment_refused files m read is t c.module.ensures _ s at _ _ _
    (c.in-Err.ensures.exact is.file (found files m read is t _ _ s at).0 honest (stored_there files m is.file t stored _ c.file.ensures) stored.read (found files m read is t _ _ s at).1))

pub returns-in-Err-record_values-clause-failed : goal.returns-in-Err-record_values-clause-failed
returns-in-Err-record_values-clause-failed g c = λ read s honest is at. tt

pub returns-in-Ok-record_values-clause-any : goal.returns-in-Ok-record_values-clause-any
returns-in-Ok-record_values-clause-any g c = (
  map (record_target _) _,
  c.in-Ok-record_values.ensures,
  λ read s honest is at.
      let files = g.S.Store.files _ in
      let m = c.args.loaded.now in
      let t = c.module.result.now in
      let stored = stored_as files m read is t c.module.ensures in
      let segment = found files m read is t c.module.ensures _ s at in
      let there = stored_there files m is.file t stored _ c.file.ensures in
      let passed = c.in-Ok.ensures.exact is.file segment.0 honest there stored.read segment.1 in
      targets_alike _ _ _ (c.in-Ok.ensures.names is.file honest there) ∙ sym (targets_are files m read is t _ _ s at _ passed),
)
