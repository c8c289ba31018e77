use Rattle.std.proofs.lemmas.Iterator.Adapters.{position_from-zero}
use Rattle.w16_ne.proofs.Common.{◌∙◌, Some, None, sym, label_of, grouped, listed_resources, drop_of_length-le}
use Rattle.w16_ne.proofs.Firsts.{is_wanted, at_index, behind}
use Rattle.w16_ne.proofs.resource_places.place_among.Goals as goal

pub returns-in-Some-clause-found : goal.returns-in-Some-clause-found
returns-in-Some-clause-found c = λ shift.
    let texts = c.args.texts.now in
    let kind = label_of c.args.kind in
    let id = label_of c.args.id in
    sym (position_from-zero (is_wanted texts shift kind id) (listed_resources (grouped texts shift c.args.groups.now c.args.rows.now)) ∙ c.loop-group.invariant.2 shift
    ∙ at_index texts shift kind id c.args.groups.now c.args.rows.now c.loop-group.group-index c.loop-group.start c.from.result _ (Some c.in-Some.i) c.loop-group-test.true c.loop-group.invariant.1 c.from.ensures c.in-Some.ensures)

pub loop-group-preserved : goal.loop-group-preserved
loop-group-preserved c =
    let groups = c.args.groups.now in
    let rows = c.args.rows.now in
    let k = c.loop-group.group-index in
    let left = behind groups rows k c.loop-group.start c.from.result _ c.loop-group-test.true c.loop-group.invariant.0 c.loop-group.invariant.1 c.from.ensures in (
      left.0,
      left.1,
      λ shift. c.loop-group.invariant.2 shift
          ∙ at_index c.args.texts.now shift (label_of c.args.kind) (label_of c.args.id) groups rows k c.loop-group.start c.from.result _ None c.loop-group-test.true c.loop-group.invariant.1 c.from.ensures c.in_default.ensures,
    )

pub returns-clause-found : goal.returns-clause-found
returns-clause-found c = λ shift.
    let texts = c.args.texts.now in
    let so_far = rw (drop_of_length-le c.args.groups.now c.loop-group-test.false) at c.loop-group.invariant.2 shift in
    sym (position_from-zero (is_wanted texts shift (label_of c.args.kind) (label_of c.args.id)) (listed_resources (grouped texts shift c.args.groups.now c.args.rows.now)) ∙ so_far)
