use Rattle.std.proofs.{Common.string_bytes, Common.rules, lemmas.Result.IfOk-equal}
use Rattle.w16_show.specs.Text.{name_text}
use Rattle.w16_show.proofs.Numbering.{numbered-step}
use Rattle.w16_show.proofs.entries.push_names.Goals as goal

pub loop-i-preserved : goal.loop-i-preserved
loop-i-preserved c =
    numbered-step (name_text c.args.tables.now.resident) (string_bytes c.loop-i.out) _ _ c.loop-i.i c.args.tables.now.names c.loop-i.i _ c.entry_name-ordinal.ensures.found
    (search (rules, IfOk-equal)) c.loop-i.invariant
