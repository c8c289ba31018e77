use Rattle.w16_ne.proofs.Common.{◌≡◌, ◌+◌, ◌-◌, option_map, subst, arith, err_from_is_err_and, file_of, Tells, name_at, found_in}
use Rattle.w16_ne.proofs.Pieces.{given, failure_is, name_in_piece}
use Rattle.w16_ne.proofs.name_table.name_of.Goals as goal

pub returns-in_err-cover-clause-exact : goal.returns-in_err-cover-clause-exact
returns-in_err-cover-clause-exact g c = λ honest known piece.
    let file = file_of (g.S.Store.files c.args.store.now) c.args.name.now in
    let p = err_from_is_err_and c.from_residual.result c.from_residual.ensures.1 in
    rw (p.1, p.2) (failure_is file _ _ _ _ (name_at file c.args.at) (omega arith) (c.in_err-cover.ensures.exact honest known piece))

pub returns-clause-exact : goal.returns-clause-exact
returns-clause-exact g c = λ honest known piece.
    let file = file_of (g.S.Store.files c.args.store.now) c.args.name.now in
    let is = c.in_ok-cover.ensures.exact honest known piece in
    let bytes = c.cover.new.self.bytes.items in
    let i = c.args.at - c.cover.new.self.at in
    let place : c.cover.new.self.at + i ≡ c.args.at = omega (arith, c.in_ok-cover.ensures.covers.0) in
    let same = name_in_piece file bytes c.cover.new.self.at i c.args.at is place c.in_ok-cover.ensures.covers.1 (rw c.as_slice.ensures.value at c.found_at.ensures.small) in
    given (option_map (found_in bytes)) file _ _ c.found_at.result (name_at file c.args.at) (subst (Tells (option_map (found_in bytes)) c.found_at.result) same (rw c.as_slice.ensures.value at c.found_at.ensures.exact))
