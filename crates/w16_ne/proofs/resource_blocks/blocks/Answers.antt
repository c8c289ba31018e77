use Rattle.w16_ne.proofs.Common.{◌∙◌, sym, arith, err_from_is_err_and, file_of, blocks_at, blocks_from}
use Rattle.w16_ne.proofs.Until.{fails_on, gives_on}
use Rattle.w16_ne.proofs.Blocks.{blocks_are, none_behind}
use Rattle.w16_ne.proofs.resource_blocks.blocks.Goals as goal

pub returns-then-at-len-clause-exact : goal.returns-then-at-len-clause-exact
returns-then-at-len-clause-exact g c = λ honest known.
    let file = file_of (g.S.Store.files c.args.store.now) c.args.name.now in
    blocks_are file c.args.len c.args.at known ∙ none_behind file c.args.len c.args.at known c.if-at-len.true

pub returns-in_err-count-clause-exact : goal.returns-in_err-count-clause-exact
returns-in_err-count-clause-exact g c = λ honest known.
    let file = file_of (g.S.Store.files c.args.store.now) c.args.name.now in
    let p = err_from_is_err_and c.from_residual.result c.from_residual.ensures.1 in
    rw (p.1, p.2) (fails_on file _ _ _ c.in_err-count.field-0.0 (blocks_from file c.args.len c.args.at) (blocks_at file c.args.at) (omega arith) (c.in_err-count.ensures.exact honest known)
    (λ e. blocks_are file c.args.len c.args.at known ∙ e))

pub returns-clause-exact : goal.returns-clause-exact
returns-clause-exact g c = λ honest known.
    let file = file_of (g.S.Store.files c.args.store.now) c.args.name.now in
    let exact = rw c.in_ok-count.ensures.stays.same at c.blocks_before.ensures.exact in
    gives_on _ file _ _ _ c.blocks_before.result (blocks_from file c.args.len c.args.at) (blocks_at file c.args.at) c.in_ok-count.ensures.stays.counted
    (sym (blocks_are file c.args.len c.args.at known)) (exact honest known)
