use Rattle.std.proofs.Common.{arith}
use Rattle.w16_show.specs.Json.{fault_json}
use Rattle.w16_show.proofs.ReadsBack.{reads_back}
use Rattle.w16_show.proofs.json_file.show_fault.Goals as goal

pub returns-clause-text : goal.returns-clause-text
returns-clause-text g c = λ file.
    let made = c.in_ok-fault_value.ensures in
    let sent = rw made.0 at (c.in_ok-send_value.ensures (rw made.0 made.1)) in
    (sent.0, reads_back (fault_json c.args.name.now c.args.e) made.1 (omega arith))
