use Rattle.w16_ne.proofs.{Common.file_of, Common.bytes_or, Common.texts_behind, Until.gives_on, Pieces.front_is}
use Rattle.w16_ne.specs.declared.fault.NeFault.TheVariants as faults
use Rattle.w16_ne.proofs.text_window.texts_behind.Goals as goal

pub returns-clause-exact : goal.returns-clause-exact
returns-clause-exact g c = λ honest.
    let file = file_of (g.S.Store.files c.args.store.now) c.args.name.now in
    let known = c.in_ok-len.ensures.exact honest in
    let exact = rw c.in_ok-len.ensures.stays.same at c.table.ensures.exact in
    gives_on _ file _ _ _ c.table.result (bytes_or faults.Truncated file c.args.at c.min-count.result) (texts_behind file c.args.at) c.in_ok-len.ensures.stays.counted
    (front_is 65791 file c.in_ok-len.len c.args.at c.min-count.result known c.if-at-len.false c.min-count.ensures) (exact honest)
