use Rattle.w16_ne.proofs.Common.{◌∙◌, [], subst, arith, err_from_is_err_and, file_of, IsListing, names_at, names_from}
use Rattle.w16_ne.proofs.Until.{fails_on, names_are, none_behind}
use Rattle.w16_ne.proofs.name_table.listing_at.Goals as goal

pub returns-then-at-len-clause-exact : goal.returns-then-at-len-clause-exact
returns-then-at-len-clause-exact g c = λ honest.
    let file = file_of (g.S.Store.files c.args.store.now) c.args.name.now in
    let known = c.in_ok-len.ensures.exact honest in
    names_are file c.in_ok-len.len c.args.at known ∙ none_behind file c.in_ok-len.len c.args.at known c.if-at-len.true

pub returns-in_err-extent-clause-exact : goal.returns-in_err-extent-clause-exact
returns-in_err-extent-clause-exact g c = λ honest.
    let file = file_of (g.S.Store.files c.args.store.now) c.args.name.now in
    let known = c.in_ok-len.ensures.exact honest in
    let p = err_from_is_err_and c.from_residual-in_err-extent.result c.from_residual-in_err-extent.ensures.1 in
    let exact = rw c.in_ok-len.ensures.stays.same at c.in_err-extent.ensures.exact in
    rw (p.1, p.2) (fails_on file _ _ _ c.in_err-extent.field-0.0 (names_from file c.in_ok-len.len c.args.at) (names_at file c.args.at) c.in_ok-len.ensures.stays.counted (exact honest known)
    (λ e. names_are file c.in_ok-len.len c.args.at known ∙ e))

pub returns-in_err-add_names-clause-exact : goal.returns-in_err-add_names-clause-exact
returns-in_err-add_names-clause-exact g c = λ honest.
    let file = file_of (g.S.Store.files c.args.store.now) c.args.name.now in
    let known = c.in_ok-len.ensures.exact honest in
    let p = err_from_is_err_and c.from_residual-in_err-add_names.result c.from_residual-in_err-add_names.ensures.1 in
    let same = c.in_ok-extent.ensures.stays.same ∙ c.in_ok-len.ensures.stays.same in
    let exact = rw same at c.in_err-add_names.ensures.exact in
    let begun = subst (λ b. IsListing b [] c.new-listing.result) c.in_ok-names.ensures c.new-listing.ensures in
    rw (p.1, p.2) (fails_on file _ _ _ c.in_err-add_names.field-0.0 (names_from file c.in_ok-len.len c.args.at) (names_at file c.args.at) (omega (arith, c.in_ok-len.ensures.stays.counted, c.in_ok-extent.ensures.stays.counted)) (exact [] honest known begun)
    (λ e. names_are file c.in_ok-len.len c.args.at known ∙ e))

pub returns-clause-exact : goal.returns-clause-exact
returns-clause-exact g c = λ honest.
    let file = file_of (g.S.Store.files c.args.store.now) c.args.name.now in
    let known = c.in_ok-len.ensures.exact honest in
    let same = c.in_ok-extent.ensures.stays.same ∙ c.in_ok-len.ensures.stays.same in
    let exact = rw same at c.in_ok-add_names.ensures.exact in
    let begun = subst (λ b. IsListing b [] c.new-listing.result) c.in_ok-names.ensures c.new-listing.ensures in
    let l = exact [] honest known begun in
    (l.0, names_are file c.in_ok-len.len c.args.at known ∙ l.1, l.2)
