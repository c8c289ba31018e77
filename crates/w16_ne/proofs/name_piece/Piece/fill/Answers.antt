use Rattle.w16_ne.proofs.Common.{◌≡◌, ◌+◌, ◌-◌, length, subst, arith, err_from_is_err_and, file_of, Truncated, Tells, bytes_or}
use Rattle.w16_ne.proofs.Pieces.{given, failure_is, bytes_in_piece}
use Rattle.w16_ne.proofs.name_piece.Piece.fill.Goals as goal

pub returns-in_err-cover-clause-exact : goal.returns-in_err-cover-clause-exact
returns-in_err-cover-clause-exact g c = λ honest piece.
    let file = file_of (g.S.Store.files c.args.store.now) c.args.name.now in
    let p = err_from_is_err_and c.from_residual.result c.from_residual.ensures.1 in
    rw (p.1, p.2) (failure_is file _ _ _ _ (bytes_or Truncated file c.args.at (length c.args.buf.now)) (omega arith) (c.in_err-cover.ensures.exact honest piece.0 piece.1))

pub returns-clause-exact : goal.returns-clause-exact
returns-clause-exact g c = λ honest piece.
    let file = file_of (g.S.Store.files c.args.store.now) c.args.name.now in
    let is = c.in_ok-cover.ensures.exact honest piece.0 piece.1 in
    let bytes = c.cover.new.self.bytes.items in
    let i = c.args.at - c.cover.new.self.at in
    let place : c.cover.new.self.at + i ≡ c.args.at = omega (arith, c.in_ok-cover.ensures.covers.0) in
    let same = bytes_in_piece file bytes c.cover.new.self.at i c.args.at (length c.args.buf.now) is place (omega arith) (omega (arith, c.in_ok-cover.ensures.covers.1)) in
    given _ file _ _ c.copy.result (bytes_or Truncated file c.args.at (length c.args.buf.now)) (subst (Tells _ c.copy.result) same (rw c.as_slice.ensures.value at c.copy.ensures))
