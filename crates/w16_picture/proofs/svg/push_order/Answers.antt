use Rattle.std.proofs.{Common.rules, lemmas.List.append_assoc, lemmas.Result.IfOk-equal}
use Rattle.w16_picture.specs.Svg.{order_text}
use Rattle.w16_picture.proofs.svg.push_order.Goals as goal

pub returns : goal.returns
unfolding order_text
returns c = search (rules, IfOk-equal, append_assoc)
