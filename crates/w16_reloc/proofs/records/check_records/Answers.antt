use Rattle.w16_reloc.proofs.Common.{arith, sym, err_from_is_err_and, Offer, offer_in, ◌∙◌}
use Rattle.w16_reloc.proofs.Refusals.{goes_on, stops_at_record, stops_at_sites, is_done}
use Rattle.w16_reloc.proofs.records.check_records.Goals as goal

pub returns-in_err-found-clause-exact : goal.returns-in_err-found-clause-exact
returns-in_err-found-clause-exact g c = λ none.
    let offer : Offer = offer_in c.args.offered.now.texts.now c.args.offered.now.segments c.args.offered.now.references in
    let p = err_from_is_err_and c.from_residual.result c.from_residual.ensures.1 in
    let here = c.loop-i.invariant.3 none in
    rw (p.1, p.2) (stops_at_record offer c.args.bytes.now c.args.table.now c.loop-i.records.items c.args.count c.loop-i.i here.0 _ _ c.loop-i-test.true here.2 (sym (rw c.from.ensures at c.in_err-found.ensures.exact)))

pub returns-in_err-take_sites-clause-exact : goal.returns-in_err-take_sites-clause-exact
returns-in_err-take_sites-clause-exact g c = λ none.
    let offer : Offer = offer_in c.args.offered.now.texts.now c.args.offered.now.segments c.args.offered.now.references in
    let p = err_from_is_err_and c.from_residual-in_err-take_sites.result c.from_residual-in_err-take_sites.ensures.1 in
    let here = c.loop-i.invariant.3 none in
    let read = sym (rw c.from.ensures at c.in_ok-found.ensures.exact) in
    rw (p.1, p.2) (stops_at_sites offer c.args.bytes.now c.args.table.now c.loop-i.records.items c.args.count c.loop-i.i here.0 c.in_ok-found.found _ _ c.loop-i-test.true read here.2 (c.in_err-take_sites.ensures.step here.0 here.1))

pub loop-i-preserved : goal.loop-i-preserved
loop-i-preserved g c = (
  c.take_sites.auto.marks ∙ c.loop-i.invariant.0,
  omega (arith, c.push_reserved.ensures.len, c.loop-i.invariant.1),
  c.push_reserved.ensures.capacity ∙ c.loop-i.invariant.2,
  λ none.
      let offer : Offer = offer_in c.args.offered.now.texts.now c.args.offered.now.segments c.args.offered.now.references in
      let here = c.loop-i.invariant.3 none in
      let read = sym (rw c.from.ensures at c.in_ok-found.ensures.exact) in
      let said = c.in_ok-take_sites.ensures.step here.0 here.1 in (
        said.0,
        said.2,
        rw c.push_reserved.ensures.items (goes_on offer c.args.bytes.now c.args.table.now c.loop-i.records.items c.args.count c.loop-i.i here.0 said.0 c.in_ok-found.found _ c.loop-i-test.true read said.1 here.2),
      ),
)

pub returns-clause-exact : goal.returns-clause-exact
returns-clause-exact g c = λ none.
    let here = c.loop-i.invariant.3 none in
    is_done (offer_in c.args.offered.now.texts.now c.args.offered.now.segments c.args.offered.now.references) c.args.bytes.now c.args.table.now c.loop-i.records.items c.args.count c.loop-i.i here.0 _ c.loop-i-test.false here.2
