use Rattle.w16_ne.proofs.Common.{◌∙◌, sym, ap, label_of, label_in}
use Rattle.w16_ne.proofs.Firsts.{nowhere}
use Rattle.w16_ne.specs.{Resources.is_label, declared.resource_rows.Row.Row}
use Rattle.w16_ne.proofs.resource_places.place_in.Goals as goal

pub returns-then-not-is_label : goal.returns-then-not-is_label
returns-then-not-is_label c =
    let kind = label_of c.args.kind in
    let other = ap (λ l. is_label l kind) (sym c.label.ensures) ∙ sym c.is_label.ensures ∙ c.if-not-is_label.true in
    sym (nowhere (λ r. is_label (label_in c.args.texts.now r.id) (label_of c.args.id)) (is_label (label_in c.args.texts.now c.args.group.kind) kind) other c.args.rows.now)
