use Rattle.std.proofs.Common.{Ok, ◌∙◌, ap}
use Rattle.w16_show.specs.{Json.is_sound, Report.json_of, Report.verdict_of}
use Rattle.w16_show.proofs.{Depths.whole-depth, ReadsBack.reads_back}
use Rattle.w16_show.proofs.json_file.show_module.Goals as goal

pub returns-clause-text : goal.returns-clause-text
returns-clause-text g c = λ is.
    let sound = c.is_sound-sound.ensures ∙ ap is_sound (c.verdict-verdict.ensures.verdict c.args.file.now is) in
    let sent = rw sound at (c.in_ok-send_whole.ensures (rw c.verdict-verdict.ensures.same is)) in
    (sent.0, reads_back (json_of c.args.name.now c.args.file.now (Ok c.args.tables.now)) sent.1 (whole-depth c.args.name.now c.args.file.now c.args.tables.now (is_sound (verdict_of c.args.file.now (Ok c.args.tables.now)))))
