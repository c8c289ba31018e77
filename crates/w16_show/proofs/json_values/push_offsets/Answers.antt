use Rattle.std.proofs.Common.{◌∙◌, ◌∷◌, [], string_bytes}
use Rattle.w16_show.specs.Json.{n}
use Rattle.w16_show.proofs.Sending.{on-pushed, items-all, plain-numbers}
use Rattle.w16_show.proofs.json_values.push_offsets.Goals as goal

pub returns : goal.returns
returns c = on-pushed c.push_str-2.result _ (string_bytes c.loop-i.out) (93 ∷ []) c.push_str-2.ensures.bytes
    (λ is. (is ∙ items-all n c.args.offsets.now c.loop-i.i _ _ _ c.loop-i-test.false c.loop-i.invariant, plain-numbers c.args.offsets.now (λ k. c.type_inv.offsets k)))
