use Rattle.w16_ne.proofs.Common.{◌∙◌, sym, err_from_is_err_and, file_of}
use Rattle.w16_ne.proofs.Pieces.{front_is, not_read}
use Rattle.w16_ne.proofs.name_piece.Piece.read.Goals as goal

pub returns-clause-exact : goal.returns-clause-exact
returns-clause-exact g c = λ honest known.
    let file = file_of (g.S.Store.files c.args.store.now) c.args.name.now in
    sym (front_is 1024 file c.args.len c.args.at c.min-count.result known c.requires c.min-count.ensures) ∙ c.in_ok-bytes.ensures.exact honest

pub returns-in_err-bytes-clause-exact : goal.returns-in_err-bytes-clause-exact
returns-in_err-bytes-clause-exact g c = λ honest known.
    let file = file_of (g.S.Store.files c.args.store.now) c.args.name.now in
    let p = err_from_is_err_and c.from_residual.result c.from_residual.ensures.1 in
    rw (p.1, p.2) (not_read 1024 file c.args.len c.args.at c.min-count.result _ _ _ known c.requires c.min-count.ensures (c.in_err-bytes.ensures.exact honest))
